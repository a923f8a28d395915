-- What the passes made and checked over the sorted names holds of the module itself.
use Rattle.std.proofs.Common.{◌∙◌, ap, map, subst, sym}
use Rattle.tp_tree.specs.declared.tree.{ComponentType.ComponentType, Function.Function}
use Rattle.tp_config.specs.Shape.{ports_of}
use Rattle.tp_checks.specs.{Definitions.component_types, Configuring.AreSoundVariables, Configuring.IsConfigBySetup, Starting.AreStarts}
use Rattle.tp_checks.specs.{Prepared.IsConfigOf, Refused.Tells, Broken.DeclarationsBreak, Broken.ThirdPassBreaks, Broken.third_pass}
use Rattle.tp_checks.specs.Sorted.{component_types_in, functions_in}
use Rattle.tp_checks.proofs.{UniqueComponentTypes.declared_part, UniqueComponentTypes.own_made, ModuleRefusalPropagation.handed_on}
use Rattle.tp_checks.proofs.{PreparationFaultsTold.case_known, PreparationFaultsTold.third_told, ModuleFaultPropagation.handed}
use Rattle.tp_checks.proofs.RuleFaultPropagation.{told_on}
use Rattle.tp_checks.proofs.preparing.prepare.Goals as goal

pub set_up_and_start-requires-clause-components : goal.set_up_and_start-requires-clause-components
set_up_and_start-requires-clause-components c =
    c.in_ok-case.ensures.defined.sorted.components.names_are
    ∙ ap (map (λ (x : ComponentType). x.name)) (sym c.in_ok-case.ensures.defined.sorted.components.items_are)

pub set_up_and_start-requires-clause-functions : goal.set_up_and_start-requires-clause-functions
set_up_and_start-requires-clause-functions c =
    c.in_ok-case.ensures.defined.sorted.functions.names_are
    ∙ ap (map (λ (x : Function). x.name)) (sym c.in_ok-case.ensures.defined.sorted.functions.items_are)

pub returns-clause-rules : goal.returns-clause-rules
returns-clause-rules c =
    let m = c.args.parsed.now in
    let d = c.in_ok-case.field-0 in
    let case = d.case.case.now in
    let made = c.in_ok-case.ensures.defined in
    let set : IsConfigOf m case c.in_ok-configured.configured.made.config = record {
      types = d.component_types.items;
      types_are = made.components;
      few_ports = made.few_ports;
      set_up = subst (λ n. IsConfigBySetup n (map ports_of d.component_types.items) case c.in_ok-configured.configured.made.config) made.sorted.components.names_are
          c.in_ok-configured.ensures.config;
    } in
    record {
      case = case;
      one_test_case = c.in_ok-case.ensures.case;
      names = c.in_ok-case.ensures.names;
      definitions = c.in_ok-case.ensures.sound;
      variables = subst (λ n. AreSoundVariables n (component_types m) case) made.sorted.components.names_are
          (subst (λ l. AreSoundVariables d.sorted.component_names l case) made.sorted.components.items_are c.in_ok-configured.ensures.sound);
      config = c.in_ok-configured.configured.made.config;
      connections = set;
      started = c.in_ok-configured.configured.starts;
      starts = subst (λ l. AreStarts l case c.in_ok-configured.configured.starts) made.sorted.functions.items_are c.in_ok-configured.ensures.starts;
    }

pub returns-clause-made : goal.returns-clause-made
returns-clause-made c =
    let d = c.in_ok-case.field-0 in
    let case = d.case.case.now in
    let made = c.in_ok-case.ensures.defined in
    record {
      one_test_case = c.in_ok-case.ensures.case;
      begins = c.in_ok-case.ensures.begins;
      sorted = made.sorted;
      types = made.types;
      config = record {
        types = d.component_types.items;
        types_are = made.components;
        few_ports = made.few_ports;
        set_up = subst (λ n. IsConfigBySetup n (map ports_of d.component_types.items) case c.in_ok-configured.configured.made.config) made.sorted.components.names_are
            c.in_ok-configured.ensures.config;
      };
      variables_are = c.in_ok-configured.ensures.variables;
      starts = subst (λ l. AreStarts l case c.in_ok-configured.configured.starts) made.sorted.functions.items_are c.in_ok-configured.ensures.starts;
    }

pub returns-in_err-configured-clause-refused : goal.returns-in_err-configured-clause-refused
returns-in_err-configured-clause-refused c =
    let m = c.args.parsed.now in
    let d = c.in_ok-case.field-0 in
    let made = c.in_ok-case.ensures.defined in
    handed_on c.from_residual-in_err-configured.result _ c.from_residual-in_err-configured.ensures.1
    (c.in_err-configured.ensures.refused (own_made m d made c.in_ok-case.ensures.names))
    (declared_part m d made c.in_ok-case.ensures.case)

pub returns-in_err-configured-clause-told : goal.returns-in_err-configured-clause-told
returns-in_err-configured-clause-told c =
    let m = c.args.parsed.now in
    let d = c.in_ok-case.field-0 in
    let case = d.case.case.now in
    let line = d.case.line in
    let found = c.in_ok-case.ensures in
    handed (Tells (DeclarationsBreak m)) c.from_residual-in_err-configured.result _ c.from_residual-in_err-configured.ensures.1
    (told_on
    (ThirdPassBreaks d.sorted.component_names (component_types_in d.sorted) (map ports_of d.component_types.items) (functions_in d.sorted) case line)
    (DeclarationsBreak m) c.in_err-configured.field-0.0
    (λ rule at b. third_pass case line rule at
    (record { one_test_case = found.case; names = found.names; definitions = found.sound; begins = found.begins })
    (third_told m d found.defined case line rule at b))
    (c.in_err-configured.ensures.told (own_made m d found.defined found.names)
    (case_known m d.sorted.component_names case line found.defined.sorted.components.names_are found.begins found.sound)))
