-- The place of a byte in a text, and what stands before and behind it.
use Rattle.std.proofs.Common.{◌≡◌, ℕ, ◌-◌, ◌<◌, ◌≤◌, Bool, true, false, not, cond, Some, None, List, length, take, drop, refl, ap, sym, subst, arith}
use Rattle.std.specs.Prelude.{nat_lt, position}
use Rattle.std.specs.List.{position_or_len}
use Rattle.std.proofs.lemmas.Option.{cond_some}
use Rattle.std.proofs.lemmas.Bool.Decides.{nat_tests}
use Rattle.std.proofs.lemmas.List.{length-drop, length-take-le}
use Rattle.std.proofs.lemmas.List.Sums.{prefix_len-le-length}
use Rattle.std.proofs.Math.Seq.{take-length}
use Rattle.std.proofs.lemmas.Grind.{common_steps}
use Rattle.tp_common.specs.Cutting.{IsFrontOf, IsLeftOf}

pub range_is : (s : List ℕ) (n : ℕ) → take (length s - n) (drop n s) ≡ drop n s
range_is s n = grind (arith, common_steps)

-- where a test first passes
pub place_is : (p : ℕ → Bool) (s : List ℕ) (place : ℕ) → position p s ≡ Some place → (position_or_len p s ≡ place) × (position_or_len p s < length s)
place_is p s place e =
    let c = cond_some (nat_lt (position_or_len p s) (length s)) (position_or_len p s) place e in
    (c.1, grind (arith, nat_tests))

cond_none : {A : Type 0} (b : Bool) (x : A) → cond b (Some x) None ≡ None → b ≡ false
cond_none true x e = absurd (cc)
cond_none false x e = refl

-- where it passes nowhere
pub no_place : (p : ℕ → Bool) (s : List ℕ) → position p s ≡ None → position_or_len p s ≡ length s
no_place p s e =
    let f : nat_lt (position_or_len p s) (length s) ≡ false = cond_none (nat_lt (position_or_len p s) (length s)) (position_or_len p s) e in
    let le : position_or_len p s ≤ length s = prefix_len-le-length (λ c. not (p c)) s in
    let ge : length s ≤ position_or_len p s = grind (arith, nat_tests) in
    omega arith

-- a byte that is found stands in the text
pub found_within : (p : ℕ → Bool) (s : List ℕ) (place : ℕ) → position p s ≡ Some place → place < length s
found_within p s place e = let is = place_is p s place e in let same = is.0 in let low = is.1 in omega arith

pub front_at : (s : List ℕ) (n : ℕ) → n ≤ length s → IsFrontOf s (take n s)
front_at s n h =
    let size = length-take-le n s h in
    record { shorter = omega arith; is = ap (λ k. take k s) (sym size) }

pub front_all : (s : List ℕ) → IsFrontOf s s
front_all s = record { shorter = omega arith; is = sym (take-length s) }

-- what is cut off behind a place
pub left_at : (s : List ℕ) (n : ℕ) → n ≤ length s → IsLeftOf s (take (length s - n) (drop n s))
left_at s n h =
    let size = length-drop n s in
    let there : n ≡ length s - length (drop n s) = omega arith in
    subst (IsLeftOf s) (sym (range_is s n)) (record { shorter = omega arith; is = ap (λ k. drop k s) there })
