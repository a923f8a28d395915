-- What a line tells is determined by its bytes.
use Rattle.std.proofs.Common.{◌≡◌, ℕ, Bool, true, false, not, cond, Option, Some, None, List, [], ◌∷◌, ◌++◌, refl, ap}
use Rattle.std.proofs.Common.{sym, ◌∙◌, arith}
use Rattle.std.specs.Prelude.{◌==◌}
use Rattle.std.specs.List.{before_first, after_first}
use Rattle.std.specs.Fmt.{decimal}
use Rattle.std.specs.Str.Parse.{digits_value}
use Rattle.std.proofs.lemmas.Fmt.{decimal_is_IsNumeral}
use Rattle.std.proofs.lemmas.Bool.Decides.{nat_tests}
use Rattle.tp_common.specs.declared.operation.PortOperation.TheVariants as operation
use Rattle.tp_judge.specs.declared.referee.line.MessageVerb.{MessageVerb}
use Rattle.tp_judge.specs.declared.referee.line.MessageVerb.TheVariants as fate
use Rattle.tp_judge.specs.declared.referee.line.Remark.TheVariants as remark
use Rattle.tp_judge.specs.declared.referee.line.Verb.{Verb}
use Rattle.tp_judge.specs.declared.referee.line.Verb.TheVariants as verb
use Rattle.tp_common.specs.Cutting.{after_space, is_space, lacks}
use Rattle.tp_judge.specs.LineTexts.{Letter, Told, begins, passed, operated, otherwise, remarked, ended, resulted}
use Rattle.tp_judge.specs.LineTexts.{IsLetter, IsTold, Spells, contents, letter_text, operands, verb_of, verb_text}
use Rattle.tp_judge.specs.Tree.{before_dot, after_dot, verbs, first_spelled, letter_in, told_by, told_in}
use Rattle.tp_common.proofs.FirstWordOfLine.{before_first-cons}
use Rattle.tp_judge.proofs.UniqueByteCuts.{after_first-cons, both_true, lacks_none, lacks-decimal, lacks-graphic}
use Rattle.tp_judge.proofs.UniqueByteCuts.{lacks-port, undotted}
use Rattle.tp_judge.proofs.MessagePartsFromBytes.{place_lacks}

-- no verb has a space
pub lacks-verb : (v : Verb) → lacks 32 (verb_text v) ≡ true
lacks-verb verb.Component = refl
lacks-verb (verb.Message fate.Sent) = refl
lacks-verb (verb.Message fate.Came) = refl
lacks-verb (verb.Message fate.Took) = refl
lacks-verb (verb.Message fate.Found) = refl
lacks-verb (verb.Message fate.Dropped) = refl
lacks-verb (verb.Message fate.Left) = refl
lacks-verb (verb.Operation operation.Start) = refl
lacks-verb (verb.Operation operation.Stop) = refl
lacks-verb (verb.Operation operation.Halt) = refl
lacks-verb (verb.Operation operation.Clear) = refl
lacks-verb verb.Else = refl
lacks-verb (verb.Remark remark.Set) = refl
lacks-verb (verb.Remark remark.Failed) = refl
lacks-verb (verb.Remark remark.Verdict) = refl
lacks-verb verb.End = refl
lacks-verb verb.Result = refl

found : (v : Verb) → first_spelled (verb_text v) verbs ≡ Some v
found verb.Component = refl
found (verb.Message fate.Sent) = refl
found (verb.Message fate.Came) = refl
found (verb.Message fate.Took) = refl
found (verb.Message fate.Found) = refl
found (verb.Message fate.Dropped) = refl
found (verb.Message fate.Left) = refl
found (verb.Operation operation.Start) = refl
found (verb.Operation operation.Stop) = refl
found (verb.Operation operation.Halt) = refl
found (verb.Operation operation.Clear) = refl
found verb.Else = refl
found (verb.Remark remark.Set) = refl
found (verb.Remark remark.Failed) = refl
found (verb.Remark remark.Verdict) = refl
found verb.End = refl
found verb.Result = refl

-- what stands after a first word, or nothing
abbrev rest_of : Option (List ℕ) → List ℕ
rest_of None = []
rest_of (Some rest) = rest

other_byte : (x : ℕ) → not (x == 32) ≡ true → (x == 32) ≡ false
other_byte x e = grind (arith, nat_tests)

before_word : (w : List ℕ) (r : Option (List ℕ)) → lacks 32 w ≡ true → before_first is_space (w ++ after_space r) ≡ w
before_word [] None e = refl
before_word [] (Some r) e = before_first-cons is_space 32 r
before_word (x ∷ w) r e =
    let h = both_true (not (x == 32)) (lacks 32 w) e in
    before_first-cons is_space x (w ++ after_space r)
    ∙ ap (λ b. cond b [] (x ∷ before_first is_space (w ++ after_space r))) (other_byte x h.0)
    ∙ ap (λ l. x ∷ l) (before_word w r h.1)

after_word : (w : List ℕ) (r : Option (List ℕ)) → lacks 32 w ≡ true → after_first is_space (w ++ after_space r) ≡ rest_of r
after_word [] None e = refl
after_word [] (Some r) e = after_first-cons is_space 32 r
after_word (x ∷ w) r e =
    let h = both_true (not (x == 32)) (lacks 32 w) e in
    after_first-cons is_space x (w ++ after_space r)
    ∙ ap (λ b. cond b (w ++ after_space r) (after_first is_space (w ++ after_space r))) (other_byte x h.0)
    ∙ after_word w r h.1

lacks_not : (a b : List ℕ) (c : Bool) → lacks 46 (a ++ (46 ∷ b)) ≡ c → c ≡ false
lacks_not a b true e = absurd (lacks_none 46 a b e)
lacks_not a b false e = refl

before_port : (a b : List ℕ) → lacks 46 b ≡ true → before_dot (a ++ (46 ∷ b)) ≡ a
before_port [] b e = ap (λ t. cond t [] (46 ∷ before_dot b)) e
before_port (x ∷ a) b e =
    ap (λ t. cond t [] (x ∷ before_dot (a ++ (46 ∷ b)))) (lacks_not a b (lacks 46 (a ++ (46 ∷ b))) refl)
    ∙ ap (λ l. x ∷ l) (before_port a b e)

after_port : (a b : List ℕ) → lacks 46 b ≡ true → after_dot (a ++ (46 ∷ b)) ≡ b
after_port [] b e = ap (λ t. cond t b (after_dot b)) e
after_port (x ∷ a) b e =
    ap (λ t. cond t (a ++ (46 ∷ b)) (after_dot (a ++ (46 ∷ b)))) (lacks_not a b (lacks 46 (a ++ (46 ∷ b))) refl)
    ∙ after_port a b e

same_letter : (a : Letter) (component port text : List ℕ) (number : ℕ) → component ≡ a.component → port ≡ a.port → number ≡ a.number
    → text ≡ a.text → record { component = component; port = port; number = number; text = text } ≡ a
same_letter a component port text number p q r s =
    ap (λ x. record { component = x; port = port; number = number; text = text }) p
    ∙ ap (λ x. record { component = a.component; port = x; number = number; text = text }) q
    ∙ ap (λ x. record { component = a.component; port = a.port; number = x; text = text }) r
    ∙ ap (λ x. record { component = a.component; port = a.port; number = a.number; text = x }) s

number_read : (letter : Letter) (more : List ℕ) → IsLetter letter → more ≡ contents letter
    → digits_value 10 (before_first is_space more) ≡ letter.number
number_read letter more is e =
    ap (λ l. digits_value 10 (before_first is_space l)) e
    ∙ ap (digits_value 10) (before_word (decimal letter.number) (Some letter.text) (lacks-decimal letter.number is.number))
    ∙ (decimal_is_IsNumeral letter.number (omega (arith, is.number))).1

text_read : (letter : Letter) (more : List ℕ) → IsLetter letter → more ≡ contents letter → after_first is_space more ≡ letter.text
text_read letter more is e =
    ap (after_first is_space) e ∙ after_word (decimal letter.number) (Some letter.text) (lacks-decimal letter.number is.number)

sent_read : (letter : Letter) → IsLetter letter → letter_in fate.Sent (letter_text fate.Sent letter) ≡ letter
sent_read letter is =
    let rest = letter_text fate.Sent letter in
    let place = before_word (letter.component ++ (46 ∷ letter.port)) (Some (contents letter)) (place_lacks letter is) in
    let more = after_word (letter.component ++ (46 ∷ letter.port)) (Some (contents letter)) (place_lacks letter is) in
    same_letter letter (before_dot (before_first is_space rest)) (after_dot (before_first is_space rest))
    (after_first is_space (after_first is_space rest)) (digits_value 10 (before_first is_space (after_first is_space rest)))
    (ap before_dot place ∙ before_port letter.component letter.port (undotted letter.port is.port.undotted))
    (ap after_dot place ∙ after_port letter.component letter.port (undotted letter.port is.port.undotted))
    (number_read letter (after_first is_space rest) is more)
    (text_read letter (after_first is_space rest) is more)

came_read : (letter : Letter) → IsLetter letter → letter_in fate.Came (letter_text fate.Came letter) ≡ letter
came_read letter is =
    let rest = letter_text fate.Came letter in
    let behind_port = letter.component ++ (32 ∷ contents letter) in
    let port = before_word letter.port (Some behind_port) (lacks-port letter.port is.port.undotted) in
    let more = after_word letter.port (Some behind_port) (lacks-port letter.port is.port.undotted) in
    let graphic = lacks-graphic letter.component is.component.graphic in
    let last : after_first is_space (after_first is_space rest) ≡ contents letter =
    ap (after_first is_space) more ∙ after_word letter.component (Some (contents letter)) graphic in
    same_letter letter (before_first is_space (after_first is_space rest)) (before_first is_space rest)
    (after_first is_space (after_first is_space (after_first is_space rest)))
    (digits_value 10 (before_first is_space (after_first is_space (after_first is_space rest))))
    (ap (before_first is_space) more ∙ before_word letter.component (Some (contents letter)) graphic)
    port
    (number_read letter (after_first is_space (after_first is_space rest)) is last)
    (text_read letter (after_first is_space (after_first is_space rest)) is last)

letter_read : (f : MessageVerb) (letter : Letter) → IsLetter letter → letter_in f (letter_text f letter) ≡ letter
letter_read fate.Sent letter is = sent_read letter is
letter_read fate.Came letter is = came_read letter is
letter_read fate.Took letter is = came_read letter is
letter_read fate.Found letter is = came_read letter is
letter_read fate.Dropped letter is = came_read letter is
letter_read fate.Left letter is = came_read letter is

by_verb : (told : Told) → IsTold told → told_by (Some (verb_of told)) (rest_of (operands told)) ≡ told
by_verb (begins name) is = refl
by_verb (passed f letter) is = ap (passed f) (letter_read f letter is)
by_verb (operated o port) is = refl
by_verb otherwise is = refl
by_verb (remarked n word) is = refl
by_verb (ended words) is = refl
by_verb (resulted word) is = refl

-- what a line is read as is what it tells
pub told_read : (line : List ℕ) (told : Told) → Spells line told → told_in line ≡ told
told_read line told is =
    let v = verb_of told in
    let lack = lacks-verb v in
    ap told_in is.0
    ∙ ap (λ w. told_by (first_spelled w verbs) (after_first is_space (verb_text v ++ after_space (operands told)))) (before_word (verb_text v) (operands told) lack)
    ∙ ap (λ r. told_by (first_spelled (verb_text v) verbs) r) (after_word (verb_text v) (operands told) lack)
    ∙ ap (λ w. told_by w (rest_of (operands told))) (found v)
    ∙ by_verb told is.1
