-- Integers of 64 signed bits as ASCII, names as text, and what `parse` reads.
use Rattle.std.proofs.Common.{◌≡◌, inl, inr, ℕ, zero, suc, ◌<◌, ◌≤◌, ◌^◌, Bool, true, false, Option, Some, None, List, [], ◌∷◌, length, get_or, refl, ap, sym, ◌∙◌, subst, arith, pos, negsuc, neg_ℤ}
use Rattle.std.specs.Prelude.{ℤ, ◌≢◌, Result, Ok, Err, IfSome, MatchOption, FitsSigned, ◌&&◌}
use Rattle.std.specs.Borrow.{Bor}
use Rattle.std.specs.Int.{IsInRange, w64}
use Rattle.std.specs.Fmt.{decimal, signed_decimal}
use Rattle.std.specs.Str.{IsAscii, IsUtf8}
use Rattle.std.specs.Str.Parse.{AllDigits, ParsesSigned, digits_value}
use Rattle.std.specs.Result.{result_ok}
use Rattle.std.specs.List.{list_all}
use Rattle.std.specs.Char.{is_ascii_alphanumeric}
use Rattle.std.proofs.lemmas.Bool.Decides.{nat_tests}
use Rattle.std.proofs.lemmas.Fmt.{decimal_digit, decimal_is_IsNumeral, decimal-digits_value, first_decimal, IsAscii-decimal, parse-signed_decimal}
use Rattle.std.proofs.lemmas.Str.{IsUtf8-from_ascii}
use Rattle.std.proofs.lemmas.Str.Parse.{IsNumeralModel, digit_at, numerals_by_value, tells_digits, parse_signed_minus, parse_signed_plain}
use Rattle.std.proofs.lemmas.Result.{Ok-from_Ok_iff, OkIff-at_ok}
use Rattle.tp_port.specs.QueueLine.{BeginsAsInteger, IsName}

pub IsAscii-integer : (z : ℤ) → FitsSigned w64 z → IsAscii (signed_decimal z)
IsAscii-integer (pos n) fits i = IsAscii-decimal n (omega (arith, fits.sfits)) i
IsAscii-integer (negsuc n) fits zero = omega arith
IsAscii-integer (negsuc n) fits (suc i) = IsAscii-decimal (suc n) (omega (arith, fits.sfits)) i

pub parse_integer : {E : Type 0} (z : ℤ) (bs : List ℕ) (r : Result ℤ E) → FitsSigned w64 z → bs ≡ signed_decimal z → ParsesSigned w64 10 bs r → r ≡ Ok z
parse_integer (pos n) bs r fits is h = parse-signed_decimal w64 (pos n) bs r fits (omega (arith, fits.sfits)) is h
parse_integer (negsuc n) bs r fits is h =
    let k = decimal_is_IsNumeral (suc n) (omega (arith, fits.sfits)) in
    let read = parse_signed_minus (numerals_by_value _ tells_digits) w64 (45 ∷ decimal (suc n)) r (subst (λ l. ParsesSigned w64 10 l r) is h) refl in
    Ok-from_Ok_iff r _ _ read (k.0.1, k.0.0, omega (arith, k.1, fits.sfits)) ∙ ap (λ m. Ok (neg_ℤ (pos m))) k.1

both_true : (a b : Bool) → (a && b) ≡ true → (a ≡ true) × (b ≡ true)
both_true true b e = (refl, e)
both_true false b e = absurd (cc)

alphanumeric_below : (b : ℕ) → is_ascii_alphanumeric b ≡ true → b < 128
alphanumeric_below b e = grind (arith, nat_tests)

IsAscii-alphanumeric : (bs : List ℕ) → list_all is_ascii_alphanumeric bs ≡ true → IsAscii bs
IsAscii-alphanumeric [] e i = omega arith
IsAscii-alphanumeric (b ∷ bs) e zero = alphanumeric_below b (both_true (is_ascii_alphanumeric b) (list_all is_ascii_alphanumeric bs) e).0
IsAscii-alphanumeric (b ∷ bs) e (suc i) = IsAscii-alphanumeric bs (both_true (is_ascii_alphanumeric b) (list_all is_ascii_alphanumeric bs) e).1 i

IsUtf8-name : (name : List ℕ) → IsName name → IsUtf8 name
IsUtf8-name name is = IsUtf8-from_ascii _ (IsAscii-alphanumeric name is.alphanumeric)

-- a name is text
pub name_text : (word : List ℕ) (text : Option (Bor (List ℕ))) → IsName word
    → MatchOption text (¬ IsUtf8 word) (λ text. text.now ≡ word)
    → MatchOption text (¬ IsName word) (λ name. (name.now ≡ word) × IsName word)
name_text word None is e = absurd (e (IsUtf8-name word is))
name_text word (Some text) is e = (e, is)

own : IsNumeralModel (AllDigits 10) (digits_value 10)
own = numerals_by_value _ tells_digits

-- the decimal form of a number above 0 begins with a digit from 1 to 9
first_from_one : (n : ℕ) → 0 < n → n < 2 ^ 64 → IsInRange 49 57 (get_or (decimal n) 0 0)
first_from_one n some fits =
    let is = (decimal_is_IsNumeral n fits).0 in
    let digit = digit_at (decimal n) 0 is.1 is.0 in
    let first = first_decimal n some fits in
    (omega arith, omega arith)

pub integer_begins : (z : ℤ) → FitsSigned w64 z → BeginsAsInteger (signed_decimal z)
integer_begins (pos zero) fits = inl (decimal_digit 0 (omega arith))
integer_begins (pos (suc n)) fits = inr (inl (first_from_one (suc n) (omega arith) (omega (arith, fits.sfits))))
integer_begins (negsuc n) fits = inr (inr (refl, first_from_one (suc n) (omega arith) (omega (arith, fits.sfits))))

with_minus : (v : ℕ) (ds : List ℕ) → decimal v ≡ ds → 49 ≤ get_or ds 0 0 → 45 ∷ ds ≡ signed_decimal (neg_ℤ (pos v))
with_minus zero ds is first = absurd (omega (arith, first, ap (λ l. get_or l 0 0) (sym (decimal_digit 0 (omega arith)) ∙ is)))
with_minus (suc v) ds is first = ap (λ l. 45 ∷ l) (sym is)

unsigned_is : {E : Type 0} (z : ℤ) (bs : List ℕ) (r : Result ℤ E) → r ≡ Ok z → get_or bs 0 0 ≢ 43 → get_or bs 0 0 ≢ 45
    → (get_or bs 0 0 ≡ 48 → length bs ≡ 1) → ParsesSigned w64 10 bs r → bs ≡ signed_decimal z
unsigned_is z bs r ok plus sign zero_alone h =
    let k = OkIff-at_ok r _ _ z (parse_signed_plain own w64 bs r h plus sign) ok in
    sym (decimal-digits_value own bs k.0.0 k.0.1 zero_alone (omega (arith, k.0.2))) ∙ ap signed_decimal (sym k.1)

signed_is : {E : Type 0} (z : ℤ) (bs : List ℕ) (r : Result ℤ E) → r ≡ Ok z → get_or bs 0 0 ≡ 45 → 49 ≤ get_or bs 1 0
    → ParsesSigned w64 10 bs r → bs ≡ signed_decimal z
signed_is z [] r ok sign first h = absurd (omega (arith, sign))
signed_is z (b ∷ ds) r ok sign first h =
    let k = OkIff-at_ok r _ _ z (parse_signed_minus own w64 (b ∷ ds) r h sign) ok in
    let is = decimal-digits_value own ds k.0.0 k.0.1 (λ e. absurd (omega (arith, e, first))) (omega (arith, k.0.2)) in
    ap (λ c. c ∷ ds) sign ∙ with_minus (digits_value 10 ds) ds is first ∙ ap signed_decimal (sym k.1)

-- what begins as an integer does, and is read as one, is that one in decimal
decimal_is : {E : Type 0} (z : ℤ) (bs : List ℕ) (r : Result ℤ E) → r ≡ Ok z → BeginsAsInteger bs → ParsesSigned w64 10 bs r → bs ≡ signed_decimal z
decimal_is z bs r ok (inl e) h =
    let first : get_or bs 0 0 ≡ 48 = ap (λ l. get_or l 0 0) e in
    unsigned_is z bs r ok (λ p. omega (arith, p, first)) (λ p. omega (arith, p, first)) (λ p. ap length e) h
decimal_is z bs r ok (inr (inl range)) h =
    unsigned_is z bs r ok (λ p. omega (arith, p, range)) (λ p. omega (arith, p, range)) (λ p. absurd (omega (arith, p, range))) h
decimal_is z bs r ok (inr (inr signed)) h = signed_is z bs r ok signed.0 (omega (arith, signed.1)) h

-- the same where the text of the word was read, and the error left out
pub decimal_read : {E : Type 0} (word bs : List ℕ) (r : Result ℤ E) (o : Option ℤ) → bs ≡ word → o ≡ result_ok r → ParsesSigned w64 10 bs r
    → IfSome o (λ n. BeginsAsInteger word → word ≡ signed_decimal n)
decimal_read {E} word bs (Ok z) o same is h =
    subst (λ (p : Option ℤ). IfSome p (λ n. BeginsAsInteger word → word ≡ signed_decimal n)) (sym is)
    (subst (λ (l : List ℕ). BeginsAsInteger l → l ≡ signed_decimal z) same (λ begins. decimal_is {E = E} z bs (Ok z) refl begins h))
decimal_read word bs (Err e) o same is h =
    subst (λ (p : Option ℤ). IfSome p (λ n. BeginsAsInteger word → word ≡ signed_decimal n)) (sym is) tt
