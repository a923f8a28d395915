-- A list is cut at a byte in one way: at the first one, or at the last.
use Rattle.std.proofs.Common.{◌≡◌, ℕ, ◌<◌, ◌≤◌, ◌+◌, Bool, true, false, not, cond, Option, Some, None, List, [], ◌∷◌}
use Rattle.std.proofs.Common.{◌++◌, drop, suc, refl, ap, sym, ◌∙◌, arith}
use Rattle.std.specs.Prelude.{◌==◌, ◌&&◌}
use Rattle.std.specs.List.{after_first, list_all, prefix_len}
use Rattle.std.proofs.lemmas.Bool.Decides.{nat_tests}
use Rattle.std.specs.Char.{is_ascii_graphic}
use Rattle.std.specs.Fmt.{decimal}
use Rattle.std.specs.Str.Parse.{AllDigits}
use Rattle.std.proofs.Common.{◌^◌}
use Rattle.std.proofs.lemmas.Fmt.{decimal_is_IsNumeral}
use Rattle.std.proofs.lemmas.Str.Parse.{digit_from_value}
use Rattle.tp_common.specs.Cutting.{after_space, lacks}
use Rattle.tp_judge.specs.LineTexts.{is_port_byte}

pub both_true : (a b : Bool) → (a && b) ≡ true → (a ≡ true) × (b ≡ true)
both_true true b e = (refl, e)
both_true false b e = absurd (cc)

pub and_true : (a b : Bool) → a ≡ true → b ≡ true → (a && b) ≡ true
and_true true true p q = refl
and_true true false p q = q
and_true false b p q = p

same_byte : (c : ℕ) → not (c == c) ≡ true → ⊥
same_byte c e = grind (arith, nat_tests)

-- bytes among which one stands don't lack it
pub lacks_none : (c : ℕ) (a b : List ℕ) → lacks c (a ++ (c ∷ b)) ≡ true → ⊥
lacks_none c [] b e = same_byte c (both_true (not (c == c)) (lacks c b) e).0
lacks_none c (x ∷ a) b e = lacks_none c a b (both_true (not (x == c)) (lacks c (a ++ (c ∷ b))) e).1

pub lacks-append : (c : ℕ) (a b : List ℕ) → lacks c a ≡ true → lacks c b ≡ true → lacks c (a ++ b) ≡ true
lacks-append c [] b p q = q
lacks-append c (x ∷ a) b p q =
    let h = both_true (not (x == c)) (lacks c a) p in and_true (not (x == c)) (lacks c (a ++ b)) h.0 (lacks-append c a b h.1 q)

-- the first word of a line, and what stands after it, are determined
pub first_only : (a b : List ℕ) (r s : Option (List ℕ)) → lacks 32 a ≡ true → lacks 32 b ≡ true → a ++ after_space r ≡ b ++ after_space s
    → (a ≡ b) × (r ≡ s)
first_only [] [] None None p q e = (refl, refl)
first_only [] [] None (Some s) p q e = absurd (cc)
first_only [] [] (Some r) None p q e = absurd (cc)
first_only [] [] (Some r) (Some s) p q e = (refl, let h : r ≡ s = cc in ap Some h)
first_only [] (y ∷ b) None s p q e = absurd (cc)
first_only [] (y ∷ b) (Some r) s p q e =
    let h : 32 ≡ y = cc in
    let same : y == 32 ≡ true = grind (arith, nat_tests) in
    absurd (cc (same, (both_true (not (y == 32)) (lacks 32 b) q).0))
first_only (x ∷ a) [] r None p q e = absurd (cc)
first_only (x ∷ a) [] r (Some s) p q e =
    let h : 32 ≡ x = cc in
    let same : x == 32 ≡ true = grind (arith, nat_tests) in
    absurd (cc (same, (both_true (not (x == 32)) (lacks 32 a) p).0))
first_only (x ∷ a) (y ∷ b) r s p q e =
    let h : x ≡ y = cc in
    let t : a ++ after_space r ≡ b ++ after_space s = cc in
    let k = first_only a b r s (both_true (not (x == 32)) (lacks 32 a) p).1 (both_true (not (y == 32)) (lacks 32 b) q).1 t in
    (ap (λ z. z ∷ a) h ∙ ap (λ l. y ∷ l) k.0, k.1)

-- what stands before and after the last `.` is determined
pub last_only : (a b c d : List ℕ) → lacks 46 b ≡ true → lacks 46 d ≡ true → a ++ (46 ∷ b) ≡ c ++ (46 ∷ d) → (a ≡ c) × (b ≡ d)
last_only [] b [] d p q e = (refl, cc)
last_only [] b (z ∷ c) d p q e =
    let h : b ≡ c ++ (46 ∷ d) = cc in absurd (lacks_none 46 c d (ap (lacks 46) (sym h) ∙ p))
last_only (x ∷ a) b [] d p q e =
    let h : d ≡ a ++ (46 ∷ b) = cc in absurd (lacks_none 46 a b (ap (lacks 46) (sym h) ∙ q))
last_only (x ∷ a) b (z ∷ c) d p q e =
    let h : x ≡ z = cc in
    let t : a ++ (46 ∷ b) ≡ c ++ (46 ∷ d) = cc in
    let k = last_only a b c d p q t in
    (ap (λ y. y ∷ a) h ∙ ap (λ l. z ∷ l) k.0, k.1)

-- names have no space, and ports no `.`
graphic_byte : (b : ℕ) → is_ascii_graphic b ≡ true → not (b == 32) ≡ true
graphic_byte b e = grind (arith, nat_tests)

pub lacks-graphic : (w : List ℕ) → list_all is_ascii_graphic w ≡ true → lacks 32 w ≡ true
lacks-graphic [] e = refl
lacks-graphic (b ∷ w) e =
    let h = both_true (is_ascii_graphic b) (list_all is_ascii_graphic w) e in
    and_true (not (b == 32)) (lacks 32 w) (graphic_byte b h.0) (lacks-graphic w h.1)

pub lacks-port : (w : List ℕ) → list_all is_port_byte w ≡ true → lacks 32 w ≡ true
lacks-port [] e = refl
lacks-port (b ∷ w) e =
    let h = both_true (is_port_byte b) (list_all is_port_byte w) e in
    and_true (not (b == 32)) (lacks 32 w) (graphic_byte b (both_true (is_ascii_graphic b) (not (b == 46)) h.0).0) (lacks-port w h.1)

pub undotted : (w : List ℕ) → list_all is_port_byte w ≡ true → lacks 46 w ≡ true
undotted [] e = refl
undotted (b ∷ w) e =
    let h = both_true (is_port_byte b) (list_all is_port_byte w) e in
    and_true (not (b == 46)) (lacks 46 w) (both_true (is_ascii_graphic b) (not (b == 46)) h.0).1 (undotted w h.1)

digit_byte : (b : ℕ) → 48 ≤ b → not (b == 32) ≡ true
digit_byte b e = grind (arith, nat_tests)

lacks-digits : (ds : List ℕ) → AllDigits 10 ds → lacks 32 ds ≡ true
lacks-digits [] d = refl
lacks-digits (b ∷ ds) d =
    and_true (not (b == 32)) (lacks 32 ds) (digit_byte b (omega (arith, digit_from_value b d.0))) (lacks-digits ds d.1)

pub lacks-decimal : (n : ℕ) → n < 2 ^ 63 → lacks 32 (decimal n) ≡ true
lacks-decimal n h = lacks-digits (decimal n) (decimal_is_IsNumeral n (omega (arith, h))).0.1

drop_cond : {X : Type 0} (x : X) (xs : List X) (b : Bool) (n : ℕ) → drop (cond (not b) (1 + n) 0 + 1) (x ∷ xs) ≡ cond b xs (drop (n + 1) xs)
drop_cond x xs true n = refl
drop_cond x xs false n = let e : 1 + n + 1 ≡ suc (n + 1) = omega arith in ap (λ k. drop k (x ∷ xs)) e

pub after_first-cons : {X : Type 0} (p : X → Bool) (x : X) (xs : List X) → after_first p (x ∷ xs) ≡ cond (p x) xs (after_first p xs)
after_first-cons {X} p x xs = let np : X → Bool = λ z. not (p z) in drop_cond x xs (p x) (prefix_len np xs)
