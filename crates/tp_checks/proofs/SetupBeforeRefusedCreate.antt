-- Where making the components stopped, what stands before can be connected if all that the text says can be.
use Rattle.std.proofs.Common.{◌≡◌, ◌≤◌, ℕ, zero, suc, ◌+◌, ◌<◌, Option, None, Some, option_map, List, [], ◌∷◌, ◌++◌, length, map, slice_get, refl, sym, ap, ◌∙◌, subst, arith, append_assoc, take}
use Rattle.std.proofs.lemmas.List.{length-append, length-map, map-append, take_at}
use Rattle.std.proofs.{lemmas.List.Elements.filter_map-append, lemmas.Option.same_Some, lemmas.Option.slice_get_within}
use Rattle.std.proofs.lemmas.Slice.Zip.{AllZip-long}
use Rattle.std.specs.List.{AllZip}
use Rattle.tp_tree.specs.declared.tree.{EndComponent.EndComponent, SetupStatement.SetupStatement, TestCase.TestCase}
use Rattle.tp_tree.specs.declared.tree.EndComponent.TheVariants as end_component
use Rattle.tp_config.specs.Setup.{Setup, PortDecl, Member, empty_setup}
use Rattle.tp_checks.specs.Tables.{IsNumbered, place_of_name}
use Rattle.tp_checks.specs.Components.{AddsAll, Declared, IsMember, component_list, created, creation_of, creations, interface, main_component, variable_name, variables}
use Rattle.tp_checks.specs.Configuring.{CanSetUpBeside, HasFirst, IsConfigBySetup, Makes, end_component_number, interface_number}
use Rattle.tp_checks.proofs.{NameSetLookups.place_there, UniqueConfigurations.makes_first, DistinctNamesInParts.numbered_first}
use Rattle.tp_checks.proofs.RulesOfAddedComponents.{member_one, names_split, numbered_variables}
use Rattle.tp_checks.proofs.SetupWithFewerComponents.{makes_there, seen, seen_is}
use Rattle.tp_checks.proofs.{ListPrefixGrowth.zip_append, UniqueZipsAndPlaces.zip_same, UniqueZipsAndPlaces.zip_split}

abbrev behind : List Member → ℕ → ℕ
behind [] i = i
behind (m ∷ ms) i = suc (behind ms i)

-- the place of an item, where ms stand after xs
abbrev shift : List Member → List Member → ℕ → ℕ
shift [] ms i = behind ms i
shift (x ∷ xs) ms zero = zero
shift (x ∷ xs) ms (suc i) = suc (shift xs ms i)

behind_is : (ms : List Member) (i : ℕ) → behind ms i ≡ length ms + i
behind_is [] i = omega arith
behind_is (m ∷ ms) i = omega (arith, behind_is ms i)

shift_low : (xs ms : List Member) (i : ℕ) → i < length xs → shift xs ms i ≡ i
shift_low [] ms i lt = absurd (omega (arith, lt))
shift_low (x ∷ xs) ms zero lt = refl
shift_low (x ∷ xs) ms (suc i) lt = ap suc (shift_low xs ms i (omega (arith, lt)))

shift_high : (xs ms : List Member) (i : ℕ) → length xs ≤ i → shift xs ms i ≡ length ms + i
shift_high [] ms i le = behind_is ms i
shift_high (x ∷ xs) ms zero le = absurd (omega (arith, le))
shift_high (x ∷ xs) ms (suc i) le = omega (arith, shift_high xs ms i (omega (arith, le)))

shift_apart : (xs ms : List Member) (i j : ℕ) → shift xs ms i ≡ shift xs ms j → i ≡ j
shift_apart [] ms i j e = omega (arith, e, behind_is ms i, behind_is ms j)
shift_apart (x ∷ xs) ms zero zero e = refl
shift_apart (x ∷ xs) ms zero (suc j) e = absurd (omega (arith, e))
shift_apart (x ∷ xs) ms (suc i) zero e = absurd (omega (arith, e))
shift_apart (x ∷ xs) ms (suc i) (suc j) e = ap suc (shift_apart xs ms i j (omega (arith, e)))

look_behind : (ms js : List Member) (i : ℕ) → slice_get js i ≡ slice_get (ms ++ js) (behind ms i)
look_behind [] js i = refl
look_behind (m ∷ ms) js i = look_behind ms js i

look : (xs ms js : List Member) (i : ℕ) → slice_get (xs ++ js) i ≡ slice_get (xs ++ (ms ++ js)) (shift xs ms i)
look [] ms js i = look_behind ms js i
look (x ∷ xs) ms js zero = refl
look (x ∷ xs) ms js (suc i) = look xs ms js i

behind_front : (all front rest middle last : List Member) → all ≡ front ++ rest → rest ≡ middle ++ last → all ≡ front ++ (middle ++ last)
behind_front all front rest middle last e f = e ∙ ap (λ l. front ++ l) f

-- what a setup statement names, among the first components and among all
module _ (front middle : List Member) (case : TestCase) (system : Option ℕ) (most count : ℕ) (few : most + 1 ≤ length front)
    (all : count ≡ length front + length middle) (number : system ≡ option_map (λ _. length front) case.system) where
  abbrev Named : List (List ℕ) → EndComponent → ℕ → Type 0
  Named names c n = (i : ℕ) × (end_component_number names system c ≡ Some i) × (n ≡ shift front middle i)

  by_name : (names : List (List ℕ)) (name : List ℕ) (n : ℕ) → length names ≤ most → option_map (λ k. k + 1) (place_of_name names name) ≡ Some n
      → (i : ℕ) × (option_map (λ k. k + 1) (place_of_name names name) ≡ Some i) × (n ≡ shift front middle i)
  by_name names name n small e = by (place_of_name names name) refl e where
    by : (o : Option ℕ) → place_of_name names name ≡ o → option_map (λ k. k + 1) o ≡ Some n
        → (i : ℕ) × (option_map (λ k. k + 1) (place_of_name names name) ≡ Some i) × (n ≡ shift front middle i)
    by None f g = absurd (cc)
    by (Some k) f g =
        let there : k < length names = slice_get_within names k name (place_there names name k (sym f)) in
        let low : shift front middle (k + 1) ≡ k + 1 = shift_low front middle (k + 1) (omega (arith, there, small, few)) in
        (k + 1, ap (option_map (λ k. k + 1)) f, sym (same_Some (k + 1) n g) ∙ sym low)

  by_system : (o : Option (List ℕ)) (n : ℕ) → option_map (λ _. count) o ≡ Some n
      → (i : ℕ) × (option_map (λ _. length front) o ≡ Some i) × (n ≡ shift front middle i)
  by_system None n e = absurd (cc)
  by_system (Some s) n e =
      (length front, refl, sym (same_Some count n e) ∙ all ∙ omega (arith, shift_high front middle (length front) (omega arith)))

  found : (names : List (List ℕ)) (c : EndComponent) (n : ℕ) → length names ≤ most → end_component_number names (option_map (λ _. count) case.system) c ≡ Some n
      → Named names c n
  found names (end_component.Named x) n small e = by_name names x n small e
  found names end_component.Mtc n small e = (0, refl, sym (same_Some 0 n e) ∙ sym (shift_low front middle 0 (omega (arith, few))))
  found names end_component.SelfComponent n small e = (0, refl, sym (same_Some 0 n e) ∙ sym (shift_low front middle 0 (omega (arith, few))))
  found names end_component.System n small e = let r = by_system case.system n e in (r.0, number ∙ r.1, r.2)

module _ (names : List (List ℕ)) (made : List (List PortDecl)) (case : TestCase) (config : Setup) (r : IsConfigBySetup names made case config)
    (before rest : List SetupStatement) (split : case.setups ≡ before ++ rest) (first s : Setup) (system : Option ℕ)
    (added : AddsAll names (main_component case ∷ map created (creations before)) (empty_setup made) first) (last : AddsAll names (interface case) first s)
    (number : system ≡ option_map (λ _. length first.components) case.system) where
  abbrev Front : List Declared
  Front = main_component case ∷ map created (creations before)

  abbrev Middle : List Declared
  Middle = map created (creations rest)

  -- the setup statements before can be done
  pub makes_before : (t : Setup) × Makes system s before t
  makes_before =
      let all : component_list case ≡ Front ++ (Middle ++ interface case) =
      names_split names made case config r before rest split ∙ append_assoc Front Middle (interface case) in
      let one = zip_split (IsMember names) Front (Middle ++ interface case) r.start.components
      (subst (λ l. AllZip (IsMember names) l r.start.components) all r.components_are) in
      let two = zip_split (IsMember names) Middle (interface case) one.1 one.4 in
      let front = one.0 in
      let middle = two.0 in
      let there : AllZip (IsMember names) Front first.components = added.components [] tt in
      let here : s.components ≡ front ++ two.1 =
      zip_same (IsMember names) (member_one names) (Front ++ interface case) s.components (front ++ two.1) (last.components Front there)
      (zip_append (IsMember names) Front (interface case) front two.1 one.3 two.4) in
      let large : r.start.components ≡ front ++ (middle ++ two.1) = behind_front r.start.components front one.1 middle two.1 one.2 two.2 in
      let looks : (i : ℕ) → slice_get s.components i ≡ slice_get r.start.components (shift front middle i) =
      λ i. ap (λ l. slice_get l i) here ∙ look front middle two.1 i ∙ ap (λ l. slice_get l (shift front middle i)) (sym large) in
      let same : r.start ≡ seen r.start.components (shift front middle) (shift_apart front middle) s =
      seen_is r.start.components (shift front middle) (shift_apart front middle) r.start s (r.types_are ∙ sym (last.types_stay ∙ added.types_stay)) refl
      r.not_connected (last.connected_stay ∙ added.connected_stay) r.not_mapped (last.mapped_stay ∙ added.mapped_stay) in
      let size : length front ≡ length (creations before) + 1 =
      omega (arith, AllZip-long (IsMember names) Front front one.3, length-map (creations before) created) in
      let many : length (creations case.setups) + 1 ≡ length front + length middle =
      omega (
        arith,
        size,
        AllZip-long (IsMember names) Middle middle two.3,
        length-map (creations rest) created,
        ap (λ l. length (creations l)) split,
        ap length (filter_map-append creation_of before rest),
        length-append (creations before) (creations rest),
      ) in
      let firsts : length first.components ≡ length front =
      omega (arith, AllZip-long (IsMember names) Front first.components there, AllZip-long (IsMember names) Front front one.3) in
      let done = makes_first (interface_number case) r.start (length before) case.setups config r.makes in
      let part : Makes (interface_number case) r.start before done.0 =
      subst (λ l. Makes (interface_number case) r.start l done.0) (ap (take (length before)) split ∙ take_at before rest (length before) refl) done.1 in
      let result = makes_there r.start.components (shift front middle) (shift_apart front middle) (length (creations before)) system (interface_number case)
      (found front middle case system (length (creations before)) (length (creations case.setups) + 1) (omega (arith, size)) many
      (number ∙ ap (λ n. option_map (λ _. n) case.system) firsts))
      s r.start same looks before done.0 (omega (arith, length-map (creations before) variable_name)) part in
      (result.0, result.3)

-- the same of a test case that can be set up
pub before_can : (names ports : List (List ℕ)) (case : TestCase) (before : List SetupStatement) (first s : Setup) (system : Option ℕ)
    → HasFirst names case before first → AddsAll names (interface case) first s → system ≡ option_map (λ _. length first.components) case.system
    → CanSetUpBeside names ports first.types case → ((t : Setup) × Makes system s before t) × IsNumbered (variables before)
before_can names ports case before first s system has last number r =
    let all : variables case.setups ≡ variables before ++ variables has.rest =
    ap variables has.all ∙ ap (map variable_name) (filter_map-append creation_of before has.rest)
    ∙ map-append variable_name (creations before) (creations has.rest) in (
      makes_before names first.types case r.config r.is_set_up before has.rest has.all first s system has.added last number,
      numbered_first (variables before) (variables has.rest) (subst IsNumbered all (numbered_variables names ports case case.setups r.sound)),
    )
