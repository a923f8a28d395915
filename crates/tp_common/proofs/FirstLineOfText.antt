-- The lines of a text, from its front.
use Rattle.std.proofs.Common.{◌≡◌, ℕ, suc, ◌+◌, ◌-◌, ◌<◌, Bool, true, false, not, cond, Some, None, List, [], ◌∷◌, length, take, drop, refl, ap, sym, ◌∙◌, arith}
use Rattle.std.specs.Prelude.{◌==◌, position}
use Rattle.std.specs.List.{onto_first, position_or_len}
use Rattle.std.proofs.Math.Seq.{take-length}
use Rattle.std.proofs.lemmas.Grind.{common_steps}
use Rattle.tp_common.specs.Cutting.{lines_of}
use Rattle.tp_common.proofs.BytePlacesInText.{no_place, place_is, range_is}

abbrev is_end : ℕ → Bool
is_end c = c == 10

-- a byte before a text ends a line, or comes to its first one
first_either : (b : Bool) (x n : ℕ) (xs : List ℕ) → onto_first x (lines_of xs) ≡ (x ∷ take n xs) ∷ lines_of (drop (n + 1) xs)
    → cond b ([] ∷ lines_of xs) (onto_first x (lines_of xs))
    ≡ take (cond (not b) (1 + n) 0) (x ∷ xs) ∷ lines_of (drop (cond (not b) (1 + n) 0 + 1) (x ∷ xs))
first_either true x n xs h = refl
first_either false x n xs h =
    let one : suc n ≡ 1 + n = omega arith in
    let more : suc (n + 1) ≡ 1 + n + 1 = omega arith in
    h ∙ ap (λ k. take k (x ∷ xs) ∷ lines_of (drop (suc (n + 1)) (x ∷ xs))) one
    ∙ ap (λ k. take (1 + n) (x ∷ xs) ∷ lines_of (drop k (x ∷ xs))) more

first_grows : (x : ℕ) (xs : List ℕ)
    → onto_first x (lines_of xs) ≡ (x ∷ take (position_or_len is_end xs) xs) ∷ lines_of (drop (position_or_len is_end xs + 1) xs)
first_grows x [] = refl
first_grows x (y ∷ xs) = ap (onto_first x) (first_either (is_end y) y (position_or_len is_end xs) xs (first_grows y xs))

lines_of_some : (s : List ℕ) → 0 < length s → lines_of s ≡ take (position_or_len is_end s) s ∷ lines_of (drop (position_or_len is_end s + 1) s)
lines_of_some [] h = absurd (omega arith)
lines_of_some (x ∷ xs) h = first_either (is_end x) x (position_or_len is_end xs) xs (first_grows x xs)

pub line_at : (s : List ℕ) (place : ℕ) → 0 < length s → position (λ b. b == 10) s ≡ Some place
    → lines_of s ≡ take place s ∷ lines_of (take (length s - (place + 1)) (drop (place + 1) s))
line_at s place h e =
    let is : position_or_len is_end s ≡ place = (place_is is_end s place e).0 in
    lines_of_some s h ∙ ap (λ n. take n s ∷ lines_of (drop (n + 1) s)) is ∙ ap (λ l. take place s ∷ lines_of l) (sym (range_is s (place + 1)))

pub line_whole : (s : List ℕ) → 0 < length s → position (λ b. b == 10) s ≡ None → lines_of s ≡ s ∷ lines_of (take (length s - length s) (drop (length s) s))
line_whole s h e =
    let is : position_or_len is_end s ≡ length s = no_place is_end s e in
    let after : drop (length s + 1) s ≡ take (length s - length s) (drop (length s) s) = grind (arith, common_steps) in
    lines_of_some s h ∙ ap (λ n. take n s ∷ lines_of (drop (n + 1) s)) is
    ∙ ap (λ l. l ∷ lines_of (drop (length s + 1) s)) (take-length s) ∙ ap (λ l. s ∷ lines_of l) after
