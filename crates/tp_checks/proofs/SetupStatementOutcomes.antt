-- The configuration that the setup statements make.
use Rattle.std.proofs.Common.{◌≡◌, ℕ, ◌+◌, List, [], ◌∷◌, ◌++◌, Option, length, map, sym, ap, ◌∙◌, subst, arith, append_assoc}
use Rattle.std.proofs.{lemmas.List.length-map, lemmas.List.map-append, lemmas.Slice.Zip.AllZip-long}
use Rattle.std.specs.{Option.option_map, List.AllZip}
use Rattle.tp_tree.specs.declared.tree.{SetupStatement.SetupStatement, TestCase.TestCase}
use Rattle.tp_config.specs.Setup.{Setup, PortDecl, empty_setup, names_of_components}
use Rattle.tp_checks.specs.{Tables.AreDistinct, Configuring.IsConfigBySetup, Configuring.Makes}
use Rattle.tp_checks.specs.Components.{Adds, AddsAll, Declared, IsMember, created, creations, interface, main_component}
use Rattle.tp_checks.proofs.CreatedComponentGrowth.{adds_more, adds_none}

pub adds_append : (types : List (List ℕ)) (xs ys : List Declared) (old mid new : Setup) → AddsAll types xs old mid → AddsAll types ys mid new
    → AddsAll types (xs ++ ys) old new
adds_append types xs ys old mid new first second = record {
  components = λ before h. subst (λ l. AllZip (IsMember types) l new.components) (append_assoc before xs ys)
      (second.components (before ++ xs) (first.components before h));
  names_more = second.names_more ∙ ap (λ l. l ++ map (λ (x : Declared). x.name) ys) first.names_more
      ∙ append_assoc (names_of_components old) (map (λ (x : Declared). x.name) xs) (map (λ (x : Declared). x.name) ys)
      ∙ ap (λ l. names_of_components old ++ l) (sym (map-append (λ (x : Declared). x.name) xs ys));
  apart = λ h. second.apart (first.apart h);
  types_stay = second.types_stay ∙ first.types_stay;
  connected_stay = second.connected_stay ∙ first.connected_stay;
  mapped_stay = second.mapped_stay ∙ first.mapped_stay;
}

-- `mtc` was added, and then the components of the setup statements
pub adds_main : (names : List (List ℕ)) (case : TestCase) (old main new : Setup) → Adds names (main_component case) old main
    → AddsAll names (map created (creations case.setups)) main new
    → AddsAll names (main_component case ∷ map created (creations case.setups)) old new
adds_main names case old main new one more =
    adds_append names (main_component case ∷ []) (map created (creations case.setups)) old main new
    (adds_more names [] (main_component case) old old main (adds_none names old) one) more

pub set_up_is : (names : List (List ℕ)) (types : List (List PortDecl)) (case : TestCase) (empty made start config : Setup) (system : Option ℕ)
    (setups : List SetupStatement)
    → empty ≡ empty_setup types → AddsAll names (main_component case ∷ map created (creations case.setups)) empty made
    → AddsAll names (interface case) made start → system ≡ option_map (λ _. length made.components) case.system → setups ≡ case.setups
    → Makes system start setups config
    → IsConfigBySetup names types case config
set_up_is names types case empty made start config system setups is_empty first last number statements makes =
    let inner : List Declared = main_component case ∷ map created (creations case.setups) in
    let all : AddsAll names (inner ++ interface case) empty start = adds_append names inner (interface case) empty made start first last in
    let none : AllZip (IsMember names) [] empty.components = subst (λ (s : Setup). AllZip (IsMember names) [] s.components) (sym is_empty) tt in
    let some : AllZip (IsMember names) inner made.components = first.components [] none in
    let count : length made.components ≡ length (creations case.setups) + 1 =
    AllZip-long (IsMember names) inner made.components some ∙ omega (arith, length-map (creations case.setups) created) in
    let numbered : system ≡ option_map (λ _. length (creations case.setups) + 1) case.system = number ∙ ap (λ n. option_map (λ _. n) case.system) count in
    record {
      start = start;
      types_are = all.types_stay ∙ ap (λ (s : Setup). s.types) is_empty;
      components_are = all.components [] none;
      not_connected = all.connected_stay ∙ ap (λ (s : Setup). s.connected) is_empty;
      apart = subst AreDistinct (all.names_more ∙ ap (λ (s : Setup). names_of_components s ++ map (λ (x : Declared). x.name) (inner ++ interface case)) is_empty)
          (all.apart (subst (λ (s : Setup). AreDistinct (names_of_components s)) (sym is_empty) (λ i j d below within. absurd (omega (arith, within)))));
      not_mapped = all.mapped_stay ∙ ap (λ (s : Setup). s.mapped) is_empty;
      makes = subst (λ o. Makes o start case.setups config) numbered (subst (λ l. Makes system start l config) statements makes);
    }
