-- The component type at the place of the name has that name, and its ports are those declared.
use Rattle.std.proofs.Common.{inr, ◌≡◌, ◌++◌, ◌∙◌, Some, ap, map, slice_get, sym}
use Rattle.tp_checks.specs.{Definitions.declared_ports, Sorted.component_types_in, Tables.IsNumbered}
use Rattle.tp_checks.proofs.{NameSetLookups.named_at, NameSetLookups.place_unknown, ModuleRefusalPropagation.handed_on}
use Rattle.tp_checks.proofs.{StartLookups.all_got, StartLookups.item_there, StartLookups.named_there, ListPrefixGrowth.contains_at}
use Rattle.tp_tree.specs.declared.tree.ComponentType.{ComponentType}
use Rattle.tp_checks.proofs.components.ports_of_type.Goals as goal

pub returns-clause-ports : goal.returns-clause-ports
returns-clause-ports c =
    let xs = component_types_in c.args.sorted.now in
    let one = c.in-Some-definition_at.component.now in
    let there : slice_get xs c.in-Some.place ≡ Some one =
    ap (λ l. slice_get (map (λ c. c.now) l) c.in-Some.place) (sym c.deref.ensures.value) ∙ sym c.in-Some-definition_at.ensures in
    record {
      component = one;
      there = contains_at xs c.in-Some.place one there;
      named = named_at c.args.sorted.now.component_names (λ c. c.name) xs c.args.name.now c.in-Some.place one c.requires c.in-Some.ensures.place
          there;
      ports_are = c.in_ok-declare_ports.ensures.names ∙ ap (λ l. l ++ declared_ports c.as_slice.result.now) c.new-ports.ensures.empty
          ∙ ap declared_ports c.as_slice.ensures;
    }

pub returns-in_default-clause-refused : goal.returns-in_default-clause-refused
returns-in_default-clause-refused c = λ few. inr (λ r. place_unknown c.args.sorted.now.component_names c.args.name.now c.in_default.ensures.place
    (named_there (λ (t : ComponentType). t.name) (component_types_in c.args.sorted.now) c.args.sorted.now.component_names c.args.name.now
    r.1.component c.requires r.1.there r.1.named))

pub returns-in_default-definition_at-clause-refused : goal.returns-in_default-definition_at-clause-refused
returns-in_default-definition_at-clause-refused c = λ few. inr (λ r. item_there (λ (t : ComponentType). t.name)
    (component_types_in c.args.sorted.now) c.args.sorted.now.component_names c.args.name.now c.in-Some.place c.requires c.in-Some.ensures.place
    (c.in_default-definition_at.ensures ∙ ap (λ l. slice_get (map (λ c. c.now) l) c.in-Some.place) c.deref.ensures.value))

pub returns-in_err-declare_ports-clause-refused : goal.returns-in_err-declare_ports-clause-refused
returns-in_err-declare_ports-clause-refused c = λ few.
    let one = c.in-Some-definition_at.component.now in
    handed_on c.from_residual.result _ c.from_residual.ensures.1 c.in_err-declare_ports.ensures.refused
    (λ r. rw (c.new-ports.ensures.empty, c.as_slice.ensures)
    (all_got (λ (t : ComponentType). IsNumbered (declared_ports t.ports)) (component_types_in c.args.sorted.now) c.in-Some.place one few
    (ap (λ l. slice_get (map (λ c. c.now) l) c.in-Some.place) (sym c.deref.ensures.value) ∙ sym c.in-Some-definition_at.ensures)))
