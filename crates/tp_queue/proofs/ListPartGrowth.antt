-- How the parts of a list change where one element is added at its end.
use Rattle.std.proofs.Common.{◌≡◌, ℕ, ◌+◌, ◌-◌, ◌≤◌, Bool, true, false, not, cond, List, [], ◌∷◌, ◌++◌, length, take, drop, refl, ap, sym, ◌∙◌, arith, suc, ◌||◌}
use Rattle.std.specs.List.{prefix_len, suffix_len, list_any, after_first, after_last, before_last}
use Rattle.std.proofs.lemmas.List.{reverse-append, take-append-le, drop-append-le, length-append}
use Rattle.std.proofs.Math.Seq.{take-append_seam}
use Rattle.std.proofs.lemmas.Grind.{common_steps}

suffix_len-push : {X : Type 0} (p : X → Bool) (xs : List X) (y : X) → suffix_len p (xs ++ y ∷ []) ≡ cond (p y) (1 + suffix_len p xs) 0
suffix_len-push p xs y = rw (reverse-append xs (y ∷ [])) refl

pub length-push : {X : Type 0} (xs : List X) (y : X) → length (xs ++ y ∷ []) ≡ length xs + 1
length-push xs y = length-append xs (y ∷ [])

pub after_last_keeps : {X : Type 0} (p : X → Bool) (xs : List X) (y : X) → p y ≡ false → after_last p (xs ++ y ∷ []) ≡ after_last p xs ++ y ∷ []
after_last_keeps {X} p xs y h =
    let np : X → Bool = λ x. not (p x) in
    let s : suffix_len np (xs ++ y ∷ []) ≡ 1 + suffix_len np xs = suffix_len-push np xs y ∙ ap (λ b. cond (not b) (1 + suffix_len np xs) 0) h in
    let n : length (xs ++ y ∷ []) - suffix_len np (xs ++ y ∷ []) ≡ length xs - suffix_len np xs = omega (arith, s, length-push xs y) in
    let m : length xs - suffix_len np xs ≤ length xs = omega arith in
    ap (λ k. drop k (xs ++ y ∷ [])) n ∙ drop-append-le (length xs - suffix_len np xs) xs (y ∷ []) m

pub after_last_cuts : {X : Type 0} (p : X → Bool) (xs : List X) (y : X) → p y ≡ true → after_last p (xs ++ y ∷ []) ≡ []
after_last_cuts {X} p xs y h =
    let np : X → Bool = λ x. not (p x) in
    let s : suffix_len np (xs ++ y ∷ []) ≡ 0 = suffix_len-push np xs y ∙ ap (λ b. cond (not b) (1 + suffix_len np xs) 0) h in
    grind (arith, common_steps, s)

pub before_last_keeps : {X : Type 0} (p : X → Bool) (xs : List X) (y : X) → p y ≡ false → before_last p (xs ++ y ∷ []) ≡ before_last p xs
before_last_keeps {X} p xs y h =
    let np : X → Bool = λ x. not (p x) in
    let s : suffix_len np (xs ++ y ∷ []) ≡ 1 + suffix_len np xs = suffix_len-push np xs y ∙ ap (λ b. cond (not b) (1 + suffix_len np xs) 0) h in
    let n : length (xs ++ y ∷ []) - suffix_len np (xs ++ y ∷ []) - 1 ≡ length xs - suffix_len np xs - 1 = omega (arith, s, length-push xs y) in
    let m : length xs - suffix_len np xs - 1 ≤ length xs = omega arith in
    ap (λ k. take k (xs ++ y ∷ [])) n ∙ take-append-le (length xs - suffix_len np xs - 1) xs (y ∷ []) m

pub before_last_cuts : {X : Type 0} (p : X → Bool) (xs : List X) (y : X) → p y ≡ true → before_last p (xs ++ y ∷ []) ≡ xs
before_last_cuts {X} p xs y h =
    let np : X → Bool = λ x. not (p x) in
    let s : suffix_len np (xs ++ y ∷ []) ≡ 0 = suffix_len-push np xs y ∙ ap (λ b. cond (not b) (1 + suffix_len np xs) 0) h in
    let n : length (xs ++ y ∷ []) - suffix_len np (xs ++ y ∷ []) - 1 ≡ length xs = omega (arith, s, length-push xs y) in
    ap (λ k. take k (xs ++ y ∷ [])) n ∙ take-append_seam xs (y ∷ [])

drop-cons_cond : {X : Type 0} (x : X) (xs : List X) (b : Bool) (n : ℕ) → drop (cond (not b) (1 + n) 0 + 1) (x ∷ xs) ≡ cond b xs (drop (n + 1) xs)
drop-cons_cond x xs true n = refl
drop-cons_cond x xs false n = let e : 1 + n + 1 ≡ suc (n + 1) = omega arith in ap (λ k. drop k (x ∷ xs)) e

pub after_first-cons : {X : Type 0} (p : X → Bool) (x : X) (xs : List X) → after_first p (x ∷ xs) ≡ cond (p x) xs (after_first p xs)
after_first-cons {X} p x xs = let np : X → Bool = λ z. not (p z) in drop-cons_cond x xs (p x) (prefix_len np xs)

keeps_either : {X : Type 0} (b c : Bool) (xs u v : List X) (y : X) → (b || c) ≡ true → (c ≡ true → u ≡ v ++ y ∷ [])
    → cond b (xs ++ y ∷ []) u ≡ cond b xs v ++ y ∷ []
keeps_either true c xs u v y h k = refl
keeps_either false c xs u v y h k = k h

cuts_either : {X : Type 0} (b c : Bool) (xs u : List X) → (b || c) ≡ false → (c ≡ false → u ≡ []) → cond b xs u ≡ []
cuts_either true c xs u h k = absurd (cc)
cuts_either false c xs u h k = k h

pub after_first_keeps : {X : Type 0} (p : X → Bool) (xs : List X) (y : X) → list_any p xs ≡ true → after_first p (xs ++ y ∷ []) ≡ after_first p xs ++ y ∷ []
after_first_keeps p [] y h = absurd (cc)
after_first_keeps p (x ∷ xs) y h =
    after_first-cons p x (xs ++ y ∷ [])
    ∙ keeps_either (p x) (list_any p xs) xs (after_first p (xs ++ y ∷ [])) (after_first p xs) y h (after_first_keeps p xs y)
    ∙ ap (λ l. l ++ y ∷ []) (sym (after_first-cons p x xs))

nil_either : {X : Type 0} (b : Bool) → cond {A = List X} b [] [] ≡ []
nil_either true = refl
nil_either false = refl

pub after_first_cuts : {X : Type 0} (p : X → Bool) (xs : List X) (y : X) → list_any p xs ≡ false → after_first p (xs ++ y ∷ []) ≡ []
after_first_cuts p [] y h = after_first-cons p y [] ∙ nil_either (p y)
after_first_cuts p (x ∷ xs) y h =
    after_first-cons p x (xs ++ y ∷ []) ∙ cuts_either (p x) (list_any p xs) (xs ++ y ∷ []) (after_first p (xs ++ y ∷ [])) h (after_first_cuts p xs y)
