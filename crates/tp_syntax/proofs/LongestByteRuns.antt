-- Runs of bytes.
use Rattle.std.proofs.Common.{◌≡◌, ℕ, ◌+◌, ◌≤◌, zero-le, suc-le-suc, Bool, true, false, cond, List, [], ◌∷◌, ◌++◌, length, take, drop, refl, ap, sym, ◌∙◌, one-add}
use Rattle.std.specs.List.{prefix_len}
use Rattle.tp_syntax.specs.Cut.{StopsAt}
use Rattle.tp_syntax.specs.Spelling.{Run}

front_case : (p : ℕ → Bool) (x : ℕ) (xs : List ℕ) (b : Bool) → p x ≡ b → Run p (take (prefix_len p xs) xs)
    → Run p (take (cond b (1 + prefix_len p xs) 0) (x ∷ xs))
front_case p x xs true e rest = rw one-add (e, rest)
front_case p x xs false e rest = tt

-- what passes at the front
pub run_front : (p : ℕ → Bool) (xs : List ℕ) → Run p (take (prefix_len p xs) xs)
run_front p [] = tt
run_front p (x ∷ xs) = front_case p x xs (p x) refl (run_front p xs)

stops_case : (p : ℕ → Bool) (x : ℕ) (xs : List ℕ) (b : Bool) → p x ≡ b → StopsAt p (drop (prefix_len p xs) xs)
    → StopsAt p (drop (cond b (1 + prefix_len p xs) 0) (x ∷ xs))
stops_case p x xs true e rest = rw one-add rest
stops_case p x xs false e rest = e

pub run_stops : (p : ℕ → Bool) (xs : List ℕ) → StopsAt p (drop (prefix_len p xs) xs)
run_stops p [] = tt
run_stops p (x ∷ xs) = stops_case p x xs (p x) refl (run_stops p xs)

-- no other run goes further
pub run_longest : (p : ℕ → Bool) (xs ys rest more : List ℕ) → Run p ys → StopsAt p rest → xs ++ rest ≡ ys ++ more → length ys ≤ length xs
run_longest p xs [] rest more r s e = zero-le
run_longest p [] (y ∷ ys) [] more r s e = absurd cc
run_longest p [] (y ∷ ys) (b ∷ bs) more r s e =
    let same : b ≡ y = cc in
    let clash : true ≡ false = sym (r.0) ∙ ap p (sym same) ∙ s in
    absurd cc
run_longest p (x ∷ xs) (y ∷ ys) rest more r s e =
    let tails : xs ++ rest ≡ ys ++ more = cc in
    suc-le-suc (run_longest p xs ys rest more (r.1) s tails)
