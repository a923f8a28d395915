-- The words of a line, from its front.
use Rattle.std.proofs.Common.{◌≡◌, ℕ, suc, ◌+◌, ◌-◌, Bool, true, false, not, cond, Some, None, List, [], ◌∷◌, ◌++◌, length, take, drop, get_or, refl, ap, sym, ◌∙◌, arith}
use Rattle.std.specs.Prelude.{◌==◌, position}
use Rattle.std.specs.List.{onto_first, before_first, after_first, prefix_len, position_or_len, slice_split}
use Rattle.std.proofs.lemmas.Bool.Decides.{nat_tests}
use Rattle.std.proofs.lemmas.List.Splits.{slice_split_first}
use Rattle.std.proofs.lemmas.List.Sums.{split_at_first, passes_at_first}
use Rattle.std.proofs.Math.Seq.{take-length}
use Rattle.tp_common.specs.Cutting.{is_space, lacks}
use Rattle.tp_common.proofs.BytePlacesInText.{no_place, place_is, range_is}

pub word_at : (s : List ℕ) (place : ℕ) → position is_space s ≡ Some place
    → slice_split is_space s ≡ take place s ∷ slice_split is_space (take (length s - (place + 1)) (drop (place + 1) s))
word_at s place e =
    let there = place_is is_space s place e in
    slice_split_first is_space s 0 there.1 ∙ ap (λ n. take n s ∷ slice_split is_space (drop (n + 1) s)) there.0
    ∙ ap (λ l. take place s ∷ slice_split is_space l) (sym (range_is s (place + 1)))

no_more : (b : Bool) (n k : ℕ) → cond (not b) (1 + n) 0 ≡ suc k → (b ≡ false) × (n ≡ k)
no_more true n k e = absurd (omega (arith, e))
no_more false n k e = (refl, omega (arith, e))

split_none : (s : List ℕ) → position_or_len is_space s ≡ length s → slice_split is_space s ≡ s ∷ []
split_none [] e = refl
split_none (x ∷ xs) e =
    let more = no_more (is_space x) (position_or_len is_space xs) (length xs) e in
    ap (λ b. cond b ([] ∷ slice_split is_space xs) (onto_first x (slice_split is_space xs))) more.0 ∙ ap (onto_first x) (split_none xs more.1)

pub word_whole : (s : List ℕ) → position is_space s ≡ None → slice_split is_space s ≡ s ∷ []
word_whole s e = split_none s (no_place is_space s e)

take_cond : {X : Type 0} (x : X) (xs : List X) (b : Bool) (n : ℕ) → take (cond (not b) (1 + n) 0) (x ∷ xs) ≡ cond b [] (x ∷ take n xs)
take_cond x xs true n = refl
take_cond x xs false n = let e : 1 + n ≡ suc n = omega arith in ap (λ k. take k (x ∷ xs)) e

pub before_first-cons : {X : Type 0} (p : X → Bool) (x : X) (xs : List X) → before_first p (x ∷ xs) ≡ cond (p x) [] (x ∷ before_first p xs)
before_first-cons {X} p x xs = let np : X → Bool = λ z. not (p z) in take_cond x xs (p x) (prefix_len np xs)

-- what stands before the first of a byte lacks it
lacks_either : (c x : ℕ) (l : List ℕ) (b : Bool) → (x == c) ≡ b → lacks c l ≡ true → lacks c (cond b [] (x ∷ l)) ≡ true
lacks_either c x l true e h = refl
lacks_either c x l false e h = rw e h

lacks_before : (c : ℕ) (s : List ℕ) → lacks c (before_first (λ b. b == c) s) ≡ true
lacks_before c [] = refl
lacks_before c (x ∷ xs) =
    ap (lacks c) (before_first-cons (λ b. b == c) x xs)
    ∙ lacks_either c x (before_first (λ b. b == c) xs) (x == c) refl (lacks_before c xs)

pub word_lacks : (s : List ℕ) (place : ℕ) → position is_space s ≡ Some place → lacks 32 (take place s) ≡ true
word_lacks s place e =
    ap (λ n. lacks 32 (take n s)) (sym (place_is is_space s place e).0) ∙ lacks_before 32 s

pub whole_lacks : (s : List ℕ) → position is_space s ≡ None → lacks 32 s ≡ true
whole_lacks s e =
    ap (lacks 32) (sym (take-length s)) ∙ ap (λ n. lacks 32 (take n s)) (sym (no_place is_space s e)) ∙ lacks_before 32 s

byte_is : (b c : ℕ) → (b == c) ≡ true → b ≡ c
byte_is b c e = grind (arith, nat_tests)

-- a line is its first word, a space and the rest
pub word_parts : (s : List ℕ) (place : ℕ) → position is_space s ≡ Some place
    → s ≡ take place s ++ (32 ∷ take (length s - (place + 1)) (drop (place + 1) s))
word_parts s place e =
    let there = place_is is_space s place e in
    let here = byte_is (get_or s (position_or_len is_space s) 0) 32 (passes_at_first is_space s 0 there.1) in
    split_at_first is_space s 0 there.1
    ∙ ap (λ b. before_first is_space s ++ (b ∷ after_first is_space s)) here
    ∙ ap (λ n. take n s ++ (32 ∷ drop (n + 1) s)) there.0
    ∙ ap (λ l. take place s ++ (32 ∷ l)) (sym (range_is s (place + 1)))
