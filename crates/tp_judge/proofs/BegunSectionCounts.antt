-- How many sections have begun.
use Rattle.std.proofs.Common.{◌≡◌, ℕ, zero, suc, ◌+◌, Bool, cond, true, false, Some, List, [], ◌∷◌, length, take}
use Rattle.std.proofs.Common.{slice_get, refl, ap, ◌∙◌, arith}
use Rattle.std.proofs.lemmas.Option.{same_Some}
use Rattle.tp_judge.specs.LineTexts.{Told, begins, passed, operated, otherwise, remarked, ended, resulted}
use Rattle.tp_judge.specs.Tree.{names_of}
use Rattle.tp_judge.specs.declared.referee.tables.Tables.{Tables}
use Rattle.tp_judge.specs.Kept.{Keeps}
use Rattle.tp_judge.specs.Numbering.{IsComponentNumber}
use Rattle.tp_judge.specs.Turns.{IsBegunBy, is_beginning}

-- how many sections these lines begin
abbrev pub begun_by : List Told → ℕ
begun_by tolds = length (names_of tolds)

abbrev one_if : Bool → ℕ
one_if b = cond b 1 0

-- one line more
one_more : (tolds : List Told) (place : ℕ) (told : Told) → slice_get tolds place ≡ Some told
    → begun_by (take (suc place) tolds) ≡ begun_by (take place tolds) + one_if (is_beginning told)
one_more [] place told at = absurd (cc)
one_more (begins name ∷ tolds) zero told at = let is = ap is_beginning (same_Some (begins name) told at) in rw (← is) refl
one_more (passed fate letter ∷ tolds) zero told at = let is = ap is_beginning (same_Some (passed fate letter) told at) in rw (← is) refl
one_more (operated o port ∷ tolds) zero told at = let is = ap is_beginning (same_Some (operated o port) told at) in rw (← is) refl
one_more (otherwise ∷ tolds) zero told at = let is = ap is_beginning (same_Some otherwise told at) in rw (← is) refl
one_more (remarked n word ∷ tolds) zero told at = let is = ap is_beginning (same_Some (remarked n word) told at) in rw (← is) refl
one_more (ended words ∷ tolds) zero told at = let is = ap is_beginning (same_Some (ended words) told at) in rw (← is) refl
one_more (resulted word ∷ tolds) zero told at = let is = ap is_beginning (same_Some (resulted word) told at) in rw (← is) refl
one_more (begins name ∷ tolds) (suc place) told at = let rest = one_more tolds place told at in omega arith
one_more (passed fate letter ∷ tolds) (suc place) told at = one_more tolds place told at
one_more (operated o port ∷ tolds) (suc place) told at = one_more tolds place told at
one_more (otherwise ∷ tolds) (suc place) told at = one_more tolds place told at
one_more (remarked n word ∷ tolds) (suc place) told at = one_more tolds place told at
one_more (ended words ∷ tolds) (suc place) told at = one_more tolds place told at
one_more (resulted word ∷ tolds) (suc place) told at = one_more tolds place told at

pub begun_more : (tolds : List Told) (place : ℕ) (told : Told) → slice_get tolds place ≡ Some told
    → begun_by (take (place + 1) tolds) ≡ begun_by (take place tolds) + one_if (is_beginning told)
begun_more tolds place told at = let next : place + 1 ≡ suc place = omega arith in ap (λ n. begun_by (take n tolds)) next ∙ one_more tolds place told at

-- a section that begins has the name at its place
there : (tolds : List Told) (place : ℕ) (name : List ℕ) → slice_get tolds place ≡ Some (begins name)
    → slice_get (names_of tolds) (begun_by (take place tolds)) ≡ Some name
there [] place name at = absurd (cc)
there (begins other ∷ tolds) zero name at = let is : begins other ≡ begins name = same_Some (begins other) (begins name) at in cc
there (passed fate letter ∷ tolds) zero name at = let is : passed fate letter ≡ begins name = same_Some (passed fate letter) (begins name) at in absurd (cc)
there (operated o port ∷ tolds) zero name at = let is : operated o port ≡ begins name = same_Some (operated o port) (begins name) at in absurd (cc)
there (otherwise ∷ tolds) zero name at = let is : otherwise ≡ begins name = same_Some otherwise (begins name) at in absurd (cc)
there (remarked n word ∷ tolds) zero name at = let is : remarked n word ≡ begins name = same_Some (remarked n word) (begins name) at in absurd (cc)
there (ended words ∷ tolds) zero name at = let is : ended words ≡ begins name = same_Some (ended words) (begins name) at in absurd (cc)
there (resulted word ∷ tolds) zero name at = let is : resulted word ≡ begins name = same_Some (resulted word) (begins name) at in absurd (cc)
there (begins other ∷ tolds) (suc place) name at = there tolds place name at
there (passed fate letter ∷ tolds) (suc place) name at = there tolds place name at
there (operated o port ∷ tolds) (suc place) name at = there tolds place name at
there (otherwise ∷ tolds) (suc place) name at = there tolds place name at
there (remarked n word ∷ tolds) (suc place) name at = there tolds place name at
there (ended words ∷ tolds) (suc place) name at = there tolds place name at
there (resulted word ∷ tolds) (suc place) name at = there tolds place name at

pub begun_there : (t : Tables) (tolds : List Told) (place begun : ℕ) (told : Told) → slice_get tolds place ≡ Some told
    → begun ≡ begun_by (take place tolds) → Keeps (names_of tolds) t.components → IsBegunBy told (IsComponentNumber t begun)
begun_there t tolds place begun (begins name) at is kept =
    kept begun name (ap (slice_get (names_of tolds)) is ∙ there tolds place name at)
begun_there t tolds place begun (passed fate letter) at is kept = tt
begun_there t tolds place begun (operated o port) at is kept = tt
begun_there t tolds place begun otherwise at is kept = tt
begun_there t tolds place begun (remarked n word) at is kept = tt
begun_there t tolds place begun (ended words) at is kept = tt
begun_there t tolds place begun (resulted word) at is kept = tt

pub begun_one : (tolds : List Told) (place was now : ℕ) (told : Told) → slice_get tolds place ≡ Some told → was ≡ begun_by (take place tolds)
    → is_beginning told ≡ true → now ≡ was + 1 → now ≡ begun_by (take (place + 1) tolds)
begun_one tolds place was now told at before is then' =
    let more = begun_more tolds place told at in
    let one : one_if (is_beginning told) ≡ 1 = ap one_if is in
    omega (arith, more, one, before, then')

pub begun_none : (tolds : List Told) (place was now : ℕ) (told : Told) → slice_get tolds place ≡ Some told → was ≡ begun_by (take place tolds)
    → is_beginning told ≡ false → now ≡ was → now ≡ begun_by (take (place + 1) tolds)
begun_none tolds place was now told at before is then' =
    let more = begun_more tolds place told at in
    let none : one_if (is_beginning told) ≡ 0 = ap one_if is in
    omega (arith, more, none, before, then')
