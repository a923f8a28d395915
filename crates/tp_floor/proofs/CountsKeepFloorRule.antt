-- The counts keep the floor's rule where they change as the place does.
use Rattle.std.proofs.Common.{◌≡◌, ℕ, zero, suc, ◌+◌, ◌≤◌, Bool, true, false, if◌then◌else◌, List, [], ◌∷◌, set, refl, sym, ap, ◌∙◌, subst, rules, arith}
use Rattle.std.specs.Prelude.{sum}
use Rattle.std.proofs.lemmas.List.Sums.{sum_by-cons}
use mathlib.Core.Option.{some, some-injective, some-ne-none}
use lib.ListN.{get_elem?}
use Rattle.crossbeam_utils.specs.Register.{Turns}
use Rattle.atomic_table.proofs.Lists.{set_again}
use Rattle.tp_floor.specs.declared.floor.Counts.{Counts}
use Rattle.tp_floor.specs.Standing.{AreCounted, ChangeTogether}
use Rattle.tp_floor.specs.contracts.floor.CountsPartialEq as equal

-- the sum with one number changed
sum-set : (places : List ℕ) (i v w : ℕ) → get_elem? places i ≡ some v → sum (set places i w) + v ≡ sum places + w
sum-set [] i v w e = absurd (some-ne-none v (sym e))
sum-set (x ∷ xs) zero v w e =
    let same : x ≡ v = some-injective x v e in
    let front : w + sum xs + v ≡ x + sum xs + w = omega arith in
    ap (λ n. n + v) (sum_by-cons (λ n. n) w xs) ∙ front ∙ ap (λ n. n + w) (sym (sum_by-cons (λ n. n) x xs))
sum-set (x ∷ xs) (suc i) v w e =
    let more : sum (set xs i w) + v ≡ sum xs + w = sum-set xs i v w e in
    let front : x + sum (set xs i w) + v ≡ x + sum xs + w = omega arith in
    ap (λ n. n + v) (sum_by-cons (λ n. n) x (set xs i w)) ∙ front ∙ ap (λ n. n + w) (sym (sum_by-cons (λ n. n) x xs))

counted : (x : Counts) (places : List ℕ) (i v : ℕ) → AreCounted x places → get_elem? places i ≡ some v → v ≤ x.resting
counted x places i v h e =
    let all : x.resting ≡ sum places = h in
    let others : sum (set places i 0) + v ≡ sum places + 0 = sum-set places i v 0 e in
    omega arith

stays : (x : Counts) (places : List ℕ) (i v : ℕ) → AreCounted x places → get_elem? places i ≡ some v → AreCounted x (set places i v)
stays x places i v h e = subst (λ l. x.resting ≡ sum l) (sym (set_again places i v e)) h

-- whoever looks learns that its place counts
pub looks : (place v : ℕ) → Turns AreCounted place v (λ x. x) ChangeTogether
looks place v x places h at = (v, stays x places place v h at, (counted x places place v h at, refl))

-- whoever still finds the counts that it saw writes the next ones, and its place becomes w
pub turns : (test : Counts → Bool) (place v w : ℕ) (seen next : Counts)
    → ((x : Counts) → test x ≡ true → x.resting ≡ seen.resting)
    → (v ≤ seen.resting → next.resting + v ≡ seen.resting + w)
    → Turns AreCounted place v (λ x. if test x then next else x) ChangeTogether
turns test place v w seen next right step x places h at = go (test x) refl
  where
    here : v ≤ x.resting
    here = counted x places place v h at

    go : (b : Bool) → test x ≡ b → (u : ℕ) × AreCounted (if b then next else x) (set places place u) × ChangeTogether v x (if b then next else x) u
    go true e =
        let is : x.resting ≡ seen.resting = right x e in
        let moved : sum (set places place w) + v ≡ sum places + w = sum-set places place v w at in
        let all : x.resting ≡ sum places = h in
        let by : next.resting + v ≡ seen.resting + w = step (subst (λ n. v ≤ n) is here) in
        (w, omega arith, (here, omega arith))
    go false e = (v, stays x places place v h at, (here, refl))

-- counts that `==` finds equal have as many at rest
pub alike : (x y : Counts) → equal.TheImpl.ghosts.eq x y ≡ true → x.resting ≡ y.resting
alike x y e = search rules
