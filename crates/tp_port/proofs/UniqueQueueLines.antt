-- A text says one list of lines at most.
use Rattle.std.proofs.Common.{◌≡◌, ℕ, suc, ◌<◌, ◌≤◌, ◌^◌, Option, Some, None, List, [], ◌∷◌, length, get_or, refl, ap, sym, ◌∙◌, subst, arith, pos, negsuc}
use Rattle.std.specs.Prelude.{ℤ, ◌==◌, if◌then◌else◌, FitsSigned, codes}
use Rattle.std.specs.Int.{w64}
use Rattle.std.specs.List.{AllZip}
use Rattle.std.specs.Fmt.{decimal, signed_decimal}
use Rattle.std.specs.Str.Parse.{AllDigits, digits_value}
use Rattle.std.proofs.lemmas.Fmt.{decimal_is_IsNumeral}
use Rattle.std.proofs.lemmas.Str.Parse.{digit_from_value}
use Rattle.tp_port.specs.declared.pattern.IntegerPattern.{IntegerPattern}
use Rattle.tp_port.specs.declared.pattern.IntegerPattern.TheVariants as pattern
use Rattle.tp_port.specs.declared.command.CommandVerb.{CommandVerb}
use Rattle.tp_port.specs.declared.command.CommandVerb.TheVariants as verb
use Rattle.tp_common.specs.Cutting.{lines_of}
use Rattle.tp_port.specs.QueueLine.{QueueLine, arrive, receive, check, trigger, clear, start, stop, halt, Wish, IsWish, IsQueueLine, PatternFits, Spells, Says, operands, verb_of, verb_text, pattern_text, from_words, wish_words}

-- from a verb's word back to the verb, by its first two bytes and its third
abbrev verb_at : ℕ → ℕ → ℕ → CommandVerb
verb_at a b c =
    if a == 97 then verb.Arrive
    else (if a == 114 then verb.Receive
    else (if a == 116 then verb.Trigger
    else (if a == 104 then verb.Halt
    else (if a == 99 then (if b == 104 then verb.Check else verb.Clear)
    else (if c == 97 then verb.Start
    else verb.Stop)))))

verb_back : (v : CommandVerb) → verb_at (get_or (verb_text v) 0 0) (get_or (verb_text v) 1 0) (get_or (verb_text v) 2 0) ≡ v
verb_back verb.Arrive = refl
verb_back verb.Receive = refl
verb_back verb.Check = refl
verb_back verb.Trigger = refl
verb_back verb.Clear = refl
verb_back verb.Start = refl
verb_back verb.Stop = refl
verb_back verb.Halt = refl

same_verb : (v w : CommandVerb) → verb_text v ≡ verb_text w → v ≡ w
same_verb v w e = sym (verb_back v) ∙ ap (λ t. verb_at (get_or t 0 0) (get_or t 1 0) (get_or t 2 0)) e ∙ verb_back w

same_decimal : (n m : ℕ) → n < 2 ^ 64 → m < 2 ^ 64 → decimal n ≡ decimal m → n ≡ m
same_decimal n m p q e = sym (decimal_is_IsNumeral n p).1 ∙ ap (digits_value 10) e ∙ (decimal_is_IsNumeral m q).1

first_digit : (ds : List ℕ) → 0 < length ds → AllDigits 10 ds → 48 ≤ get_or ds 0 0
first_digit [] some d = absurd (omega arith)
first_digit (c ∷ cs) some d = omega (arith, digit_from_value c d.0)

-- a decimal begins with a digit
begins : (n : ℕ) → n < 2 ^ 64 → 48 ≤ get_or (decimal n) 0 0
begins n p = let is = (decimal_is_IsNumeral n p).0 in first_digit (decimal n) is.0 is.1

same_signed : (y z : ℤ) → FitsSigned w64 y → FitsSigned w64 z → signed_decimal y ≡ signed_decimal z → y ≡ z
same_signed (pos n) (pos m) p q e = ap pos (same_decimal n m (omega (arith, p.sfits)) (omega (arith, q.sfits)) e)
same_signed (pos n) (negsuc m) p q e = absurd (omega (arith, begins n (omega (arith, p.sfits)), ap (λ l. get_or l 0 0) e))
same_signed (negsuc n) (pos m) p q e = absurd (omega (arith, begins m (omega (arith, q.sfits)), ap (λ l. get_or l 0 0) e))
same_signed (negsuc n) (negsuc m) p q e =
    let d : decimal (suc n) ≡ decimal (suc m) = cc in
    let s : suc n ≡ suc m = same_decimal (suc n) (suc m) (omega (arith, p.sfits)) (omega (arith, q.sfits)) d in
    ap negsuc (omega (arith, s))

no_mark : (z : ℤ) → FitsSigned w64 z → codes "?" ≡ signed_decimal z → ⊥
no_mark (pos n) p e =
    let d : AllDigits 10 (decimal n) = (decimal_is_IsNumeral n (omega (arith, p.sfits))).0.1 in
    let D : List ℕ → Type 0 = λ l. AllDigits 10 l in
    absurd (omega (arith, digit_from_value 63 (subst D (sym e) d).0))
no_mark (negsuc n) p e = absurd (omega (arith, ap (λ l. get_or l 0 0) e))

same_pattern : (p q : IntegerPattern) → PatternFits p → PatternFits q → pattern_text p ≡ pattern_text q → p ≡ q
same_pattern pattern.Any pattern.Any p q e = refl
same_pattern pattern.Any (pattern.Number m) p q e = absurd (no_mark m q e)
same_pattern (pattern.Number n) pattern.Any p q e = absurd (no_mark n p (sym e))
same_pattern (pattern.Number n) (pattern.Number m) p q e = ap pattern.Number (same_signed n m p q e)

same_from : (a b : Option (List ℕ)) → from_words a ≡ from_words b → a ≡ b
same_from None None e = refl
same_from None (Some b) e = absurd (cc)
same_from (Some a) None e = absurd (cc)
same_from (Some a) (Some b) e = let s : a ≡ b = cc in ap Some s

same_wish : (a b : Wish) → IsWish a → IsWish b → wish_words a ≡ wish_words b → a ≡ b
same_wish a b p q e =
    let v : pattern_text a.value ≡ pattern_text b.value = cc in
    let f : from_words a.from ≡ from_words b.from = cc in
    ap (λ x. record { value = x; from = a.from }) (same_pattern a.value b.value p.0 q.0 v)
    ∙ ap (λ x. record { value = b.value; from = x }) (same_from a.from b.from f)

same_arrival : (name word : List ℕ) (n m : ℤ) → IsQueueLine (arrive name n) → IsQueueLine (arrive word m)
    → name ∷ signed_decimal n ∷ [] ≡ word ∷ signed_decimal m ∷ [] → arrive name n ≡ arrive word m
same_arrival name word n m p q e =
    let w : name ≡ word = cc in
    let d : signed_decimal n ≡ signed_decimal m = cc in
    ap (λ x. arrive x n) w ∙ ap (arrive word) (same_signed n m p.1 q.1 d)

same_line : (a b : QueueLine) → verb_of a ≡ verb_of b → operands a ≡ operands b → IsQueueLine a → IsQueueLine b → a ≡ b
same_line (arrive name n) (arrive word m) e f p q = same_arrival name word n m p q f
same_line (arrive name n) (receive want) e f p q = absurd (cc)
same_line (arrive name n) (check want) e f p q = absurd (cc)
same_line (arrive name n) (trigger want) e f p q = absurd (cc)
same_line (arrive name n) clear e f p q = absurd (cc)
same_line (arrive name n) start e f p q = absurd (cc)
same_line (arrive name n) stop e f p q = absurd (cc)
same_line (arrive name n) halt e f p q = absurd (cc)
same_line (receive wish) (arrive word m) e f p q = absurd (cc)
same_line (receive wish) (receive want) e f p q = ap receive (same_wish wish want p q f)
same_line (receive wish) (check want) e f p q = absurd (cc)
same_line (receive wish) (trigger want) e f p q = absurd (cc)
same_line (receive wish) clear e f p q = absurd (cc)
same_line (receive wish) start e f p q = absurd (cc)
same_line (receive wish) stop e f p q = absurd (cc)
same_line (receive wish) halt e f p q = absurd (cc)
same_line (check wish) (arrive word m) e f p q = absurd (cc)
same_line (check wish) (receive want) e f p q = absurd (cc)
same_line (check wish) (check want) e f p q = ap check (same_wish wish want p q f)
same_line (check wish) (trigger want) e f p q = absurd (cc)
same_line (check wish) clear e f p q = absurd (cc)
same_line (check wish) start e f p q = absurd (cc)
same_line (check wish) stop e f p q = absurd (cc)
same_line (check wish) halt e f p q = absurd (cc)
same_line (trigger wish) (arrive word m) e f p q = absurd (cc)
same_line (trigger wish) (receive want) e f p q = absurd (cc)
same_line (trigger wish) (check want) e f p q = absurd (cc)
same_line (trigger wish) (trigger want) e f p q = ap trigger (same_wish wish want p q f)
same_line (trigger wish) clear e f p q = absurd (cc)
same_line (trigger wish) start e f p q = absurd (cc)
same_line (trigger wish) stop e f p q = absurd (cc)
same_line (trigger wish) halt e f p q = absurd (cc)
same_line clear (arrive word m) e f p q = absurd (cc)
same_line clear (receive want) e f p q = absurd (cc)
same_line clear (check want) e f p q = absurd (cc)
same_line clear (trigger want) e f p q = absurd (cc)
same_line clear clear e f p q = refl
same_line clear start e f p q = absurd (cc)
same_line clear stop e f p q = absurd (cc)
same_line clear halt e f p q = absurd (cc)
same_line start (arrive word m) e f p q = absurd (cc)
same_line start (receive want) e f p q = absurd (cc)
same_line start (check want) e f p q = absurd (cc)
same_line start (trigger want) e f p q = absurd (cc)
same_line start clear e f p q = absurd (cc)
same_line start start e f p q = refl
same_line start stop e f p q = absurd (cc)
same_line start halt e f p q = absurd (cc)
same_line stop (arrive word m) e f p q = absurd (cc)
same_line stop (receive want) e f p q = absurd (cc)
same_line stop (check want) e f p q = absurd (cc)
same_line stop (trigger want) e f p q = absurd (cc)
same_line stop clear e f p q = absurd (cc)
same_line stop start e f p q = absurd (cc)
same_line stop stop e f p q = refl
same_line stop halt e f p q = absurd (cc)
same_line halt (arrive word m) e f p q = absurd (cc)
same_line halt (receive want) e f p q = absurd (cc)
same_line halt (check want) e f p q = absurd (cc)
same_line halt (trigger want) e f p q = absurd (cc)
same_line halt clear e f p q = absurd (cc)
same_line halt start e f p q = absurd (cc)
same_line halt stop e f p q = absurd (cc)
same_line halt halt e f p q = refl

one_line : (text : List ℕ) (a b : QueueLine) → Spells text a → Spells text b → a ≡ b
one_line text a b p q =
    let words : verb_text (verb_of a) ∷ operands a ≡ verb_text (verb_of b) ∷ operands b = sym p.0 ∙ q.0 in
    let v : verb_text (verb_of a) ≡ verb_text (verb_of b) = cc in
    let o : operands a ≡ operands b = cc in
    same_line a b (same_verb (verb_of a) (verb_of b) v) o p.1 q.1

one_list : (texts : List (List ℕ)) (these those : List QueueLine) → AllZip Spells texts these → AllZip Spells texts those → these ≡ those
one_list [] [] [] p q = refl
one_list [] (a ∷ these) those p q = absurd p
one_list [] [] (b ∷ those) p q = absurd q
one_list (t ∷ ts) [] those p q = absurd p
one_list (t ∷ ts) (a ∷ these) [] p q = absurd q
one_list (t ∷ ts) (a ∷ these) (b ∷ those) p q =
    ap (λ x. x ∷ these) (one_line t a b p.0 q.0) ∙ ap (λ l. b ∷ l) (one_list ts these those p.1 q.1)

pub says_one : (text : List ℕ) (these those : List QueueLine) → Says text these → Says text those → these ≡ those
says_one text these those p q = one_list (lines_of text) these those p q
