-- The definitions of a kind have names of their own, where no two definitions have one.
use Rattle.std.proofs.Common.{List, map, subst, sym}
use Rattle.tp_tree.specs.declared.tree.{ComponentType.ComponentType, Definition.Definition, Function.Function, PortType.PortType}
use Rattle.tp_checks.specs.{Tables.IsNumbered, Rules.HasUniqueNames}
use Rattle.tp_checks.specs.Definitions.{of_kind, component_type_of, function_of, name_of, port_type_of, type_of}
use Rattle.tp_checks.proofs.DistinctNamesInParts.{component_named, function_named, numbered_among, port_named, type_named}
use Rattle.tp_checks.proofs.ModuleRefusalPropagation.{handed_on}
use Rattle.tp_checks.proofs.sorted.sort.Goals as goal

pub returns-in_err-type_names-clause-refused : goal.returns-in_err-type_names-clause-refused
returns-in_err-type_names-clause-refused c =
    handed_on c.from_residual.result _ c.from_residual.ensures.1 c.in_err-type_names.ensures.refused
    (λ (h : HasUniqueNames c.args.parsed.now). subst (λ (l : List Definition). IsNumbered (map name_of (of_kind type_of l))) (sym c.as_slice-definitions.ensures)
    (numbered_among type_of name_of type_named c.args.parsed.now.definitions h.definitions))

pub returns-in_err-port_names-clause-refused : goal.returns-in_err-port_names-clause-refused
returns-in_err-port_names-clause-refused c =
    handed_on c.from_residual-in_err-port_names.result _ c.from_residual-in_err-port_names.ensures.1 c.in_err-port_names.ensures.refused
    (λ (h : HasUniqueNames c.args.parsed.now). subst (λ (l : List Definition). IsNumbered (map (λ (p : PortType). p.name) (of_kind port_type_of l))) (sym c.as_slice-definitions.ensures)
    (numbered_among port_type_of (λ (p : PortType). p.name) port_named c.args.parsed.now.definitions h.definitions))

pub returns-in_err-component_names-clause-refused : goal.returns-in_err-component_names-clause-refused
returns-in_err-component_names-clause-refused c =
    handed_on c.from_residual-in_err-component_names.result _ c.from_residual-in_err-component_names.ensures.1 c.in_err-component_names.ensures.refused
    (λ (h : HasUniqueNames c.args.parsed.now). subst (λ (l : List Definition). IsNumbered (map (λ (x : ComponentType). x.name) (of_kind component_type_of l))) (sym c.as_slice-definitions.ensures)
    (numbered_among component_type_of (λ (x : ComponentType). x.name) component_named c.args.parsed.now.definitions h.definitions))

pub returns-in_err-function_names-clause-refused : goal.returns-in_err-function_names-clause-refused
returns-in_err-function_names-clause-refused c =
    handed_on c.from_residual-in_err-function_names.result _ c.from_residual-in_err-function_names.ensures.1 c.in_err-function_names.ensures.refused
    (λ (h : HasUniqueNames c.args.parsed.now). subst (λ (l : List Definition). IsNumbered (map (λ (f : Function). f.name) (of_kind function_of l))) (sym c.as_slice-definitions.ensures)
    (numbered_among function_of (λ (f : Function). f.name) function_named c.args.parsed.now.definitions h.definitions))
