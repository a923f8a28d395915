-- What is told over the sorted names is told of the module.
use Rattle.std.proofs.Common.{◌≡◌, ℕ, Some, List, map, sym, subst, Result, Ok, Err, IfOk}
use Rattle.std.proofs.{lemmas.List.Elements.All-contains, lemmas.Option.same_Some}
use Rattle.tp_tree.specs.declared.tree.{Defined.Defined, Definition.Definition, Module.Module, TestCase.TestCase}
use Rattle.tp_tree.specs.declared.tree.Defined.TheVariants as defined
use Rattle.tp_config.specs.Shape.{ports_of}
use Rattle.tp_checks.specs.declared.fault.{ModuleRule.ModuleRule, ModuleFault.ModuleFault}
use Rattle.tp_checks.specs.declared.definitions.Definitions.{Definitions}
use Rattle.tp_checks.specs.{Broken.ThirdPassBreaks, Broken.ThirdPassOfBreaks, Defining.IsDefined}
use Rattle.tp_checks.specs.Definitions.{BeginsAmong, case_of, component_type_names, component_types, functions, port_type_names, type_names}
use Rattle.tp_checks.specs.Rules.{AreComponentTypesKnown, IsSound}
use Rattle.tp_checks.specs.Sorted.{HasSoundDefinitions, component_types_in, functions_in}

-- the line of the test case stays
pub begins_kept : (r : Result Definitions ModuleFault) (xs : List Definition) (case : TestCase) (line : ℕ) → BeginsAmong xs case line
    → IfOk r (λ d. d.case.case.now ≡ case) → IfOk r (λ d. d.case.line ≡ line) → IfOk r (λ d. BeginsAmong xs d.case.case.now d.case.line)
begins_kept (Ok d) xs case line b same here = rw (same, here) b
begins_kept (Err f) xs case line b same here = tt

own_case : (names : List (List ℕ)) (x : Defined) (case : TestCase) → case_of x ≡ Some case → AreComponentTypesKnown names x
    → AreComponentTypesKnown names (defined.TestCase case)
own_case names (defined.TestCase c) case e h = subst (λ (t : TestCase). AreComponentTypesKnown names (defined.TestCase t)) (same_Some c case e) h
own_case names _ case e h = absurd (cc)

-- the component types that the test case names are known
pub case_known : (m : Module) (names : List (List ℕ)) (case : TestCase) (line : ℕ) → names ≡ component_type_names m
    → BeginsAmong m.definitions case line → HasSoundDefinitions m case → AreComponentTypesKnown names (defined.TestCase case)
case_known m names case line named b sound =
    let Sound : Definition → Type 0 =
    λ x. IsSound (type_names m) (port_type_names m) (component_type_names m) case.system x.defined in
    let one : Sound b.definition = All-contains Sound m.definitions b.definition sound b.there in
    subst (λ n. AreComponentTypesKnown n (defined.TestCase case)) (sym named)
    (own_case (component_type_names m) b.definition.defined case b.is one.component_types_known)

-- the third pass over what was sorted out is that over the module
pub third_told : (m : Module) (d : Definitions) (made : IsDefined m d) (case : TestCase) (begins : ℕ) (rule : ModuleRule) (line : ℕ)
    → ThirdPassBreaks d.sorted.component_names (component_types_in d.sorted) (map ports_of d.component_types.items) (functions_in d.sorted) case begins rule line
    → ThirdPassOfBreaks m case begins rule line
third_told m d made case begins rule line b = record {
  types = d.component_types.items;
  types_are = made.components;
  breaks = subst (λ n. ThirdPassBreaks n (component_types m) (map ports_of d.component_types.items) (functions m) case begins rule line)
      made.sorted.components.names_are
      (subst (λ l. ThirdPassBreaks d.sorted.component_names l (map ports_of d.component_types.items) (functions m) case begins rule line)
      made.sorted.components.items_are
      (subst (λ l. ThirdPassBreaks d.sorted.component_names (component_types_in d.sorted) (map ports_of d.component_types.items) l case begins rule line)
      made.sorted.functions.items_are b));
}
