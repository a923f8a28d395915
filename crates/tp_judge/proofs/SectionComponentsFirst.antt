-- The components: those of the sections first, and the others after them.
use Rattle.std.proofs.Common.{◌≡◌, ◌≢◌, inl, inr, ℕ, zero, suc, ◌+◌, ◌-◌, Some, List, [], ◌∷◌, ◌++◌, length, get_or}
use Rattle.std.proofs.Common.{slice_get, nat_lt, Contains, refl, ap, sym, ◌∙◌, subst, arith, zero-add}
use Rattle.std.specs.Prelude.{◌↔◌, AllPairs, IsTrue}
use Rattle.std.specs.Str.{bytes_eq}
use Rattle.std.proofs.lemmas.Bool.{cases_lt, lt-ltb, ltb-true}
use Rattle.std.proofs.lemmas.List.{get_or-append_right, get_or_append_left, get_or_default, length-append}
use Rattle.std.proofs.lemmas.List.Quantifiers.{position-Some}
use Rattle.std.proofs.lemmas.Option.{same_Some, slice_get-get_or}
use Rattle.std.proofs.lemmas.Slice.Eq.{bytes_eq-Decides}
use Rattle.tp_judge.specs.Tree.{section_named}
use Rattle.tp_judge.specs.Kept.{AddsOnly, AreOthers, Keeps}
use Rattle.tp_judge.proofs.NumbersIdentifyNames.{once}

-- the section of a name stands at its place
pub section_there : (names : List (List ℕ)) (name : List ℕ) (n : ℕ) → Some n ≡ section_named names name → slice_get names n ≡ Some name
section_there names name n e =
    let p = position-Some (bytes_eq name) names n name (sym e) in
    slice_get-get_or names n name p.0 ∙ ap Some (sym ((bytes_eq-Decides name (get_or names n name)).0 p.1))

-- what stands after other names
pub there_behind : {X : Type 0} (xs ys : List X) (k : ℕ) (y : X) → slice_get ys k ≡ Some y → slice_get (xs ++ ys) (length xs + k) ≡ Some y
there_behind [] ys k y e = ap (slice_get ys) (zero-add k) ∙ e
there_behind (x ∷ xs) ys k y e =
    let step : length (x ∷ xs) + k ≡ suc (length xs + k) = omega arith in
    ap (slice_get (x ∷ xs ++ ys)) step ∙ there_behind xs ys k y e

pub kept_behind : {X : Type 0} (xs ys zs : List X) → Keeps ys zs → Keeps (xs ++ ys) (xs ++ zs)
kept_behind [] ys zs kept k x e = kept k x e
kept_behind (w ∷ xs) ys zs kept zero x e = e
kept_behind (w ∷ xs) ys zs kept (suc k) x e = kept_behind xs ys zs kept k x e

pub still_others : (names others more : List (List ℕ)) (name : List ℕ) → AreOthers names others → AddsOnly others name more
    → (Contains names name → ⊥) → AreOthers names more
still_others names others more name were adds new k other at has = elim (adds k other at) [
  | inl old ↦ were k other old has
  | inr same ↦ new (subst (Contains names) (sym same) has)
]

pub apart_behind : (names others : List (List ℕ)) → AllPairs (λ a b. a ≢ b) names → AllPairs (λ a b. a ≢ b) others → AreOthers names others
    → AllPairs (λ a b. a ≢ b) (names ++ others)
apart_behind names others one other apart i j d low high same =
    let size = length-append names others in
    elim (cases_lt j (length names)) [
      | inl inside ↦
          one i j d low inside
          (sym (get_or_append_left names others d i (omega arith)) ∙ same ∙ get_or_append_left names others d j inside)
      | inr past ↦
          let k = j - length names in
          let right = get_or-append_right names others (length names) j d refl past in
          elim (cases_lt i (length names)) [
            | inl inside ↦
                let x = get_or others k d in
                apart k x (slice_get-get_or others k d (omega arith))
                (i, inside, get_or_default names i x d inside ∙ sym (get_or_append_left names others d i inside) ∙ same ∙ right)
            | inr behind ↦
                other (i - length names) k d (omega arith) (omega arith)
                (sym (get_or-append_right names others (length names) i d refl behind) ∙ same ∙ right)
          ]
    ]

-- a component has a section where its number is below how many there are
pub section_below : (names components : List (List ℕ)) (number : ℕ) (name : List ℕ) → Keeps names components → AllPairs (λ a b. a ≢ b) components
    → slice_get components number ≡ Some name → IsTrue (nat_lt number (length names)) ↔ Contains names name
section_below names components number name kept apart at = (
  λ is.
      let low = ltb-true number (length names) is in
      let there = slice_get-get_or names number [] low in
      let same = same_Some (get_or names number []) name (sym (kept number (get_or names number []) there) ∙ at) in
      (number, low, get_or_default names number name [] low ∙ same),
  λ has.
      let there = slice_get-get_or names has.0 name has.1 ∙ ap Some has.2 in
      let same = once components apart has.0 number name (kept has.0 name there) at in
      let low = has.1 in
      lt-ltb number (length names) (omega arith),
)
