-- The lines of a text, judged and answered from its front.
use Rattle.std.proofs.Common.{◌≡◌, ℕ, zero, suc, ◌+◌, ◌-◌, ◌≤◌, inr, Option, Some, None, List, [], ◌∷◌, ◌++◌, length, take, refl, ap, sym, ◌∙◌, subst, arith, append_assoc, append-nil}
use Rattle.std.specs.Prelude.{slice_get, All, Result, Ok, Err, IfSome, IfErr, OnOk}
use Rattle.std.specs.List.{AllZip}
use Rattle.std.proofs.lemmas.List.{length-append}
use Rattle.std.proofs.lemmas.List.Elements.{All-append}
use Rattle.std.proofs.Math.Seq.{take-append_seam}
use Rattle.tp_port.specs.declared.replay.QueueFault.{QueueFault}
use Rattle.tp_port.specs.declared.replay.QueueFault.TheVariants as fault
use Rattle.tp_common.specs.Cutting.{lines_of}
use Rattle.tp_port.specs.QueueLine.{QueueLine, IsGood, IsFirstBad, Spells, Says}
use Rattle.tp_port.specs.Replay.{Progress, answer, sighted, after, text_from, left_text, queue_text}
use Rattle.tp_common.specs.Reading.{TakesBytes}
use Rattle.tp_common.specs.declared.watched.Watched.{Watched}
use Rattle.tp_port.specs.Faults.{IsAnswerTo, IsReplayed, HasFault, IsFaultOf, IsReadFaultOf}

get_after : {X : Type 0} (xs ys : List X) (y : X) → slice_get (xs ++ y ∷ ys) (length xs) ≡ Some y
get_after [] ys y = refl
get_after (x ∷ xs) ys y = get_after xs ys y

pub first_bad_here : (lines done more : List (List ℕ)) (line : List ℕ) (n : ℕ) → lines ≡ done ++ line ∷ more
    → length done ≡ n → All IsGood done → ¬ IsGood line → IsFirstBad lines (n + 1)
first_bad_here lines done more line n is len good bad =
    let place : n + 1 - 1 ≡ length done = omega (arith, len) in
    let front : done ≡ take (n + 1 - 1) lines = sym (ap (λ k. take k lines) place ∙ ap (take (length done)) is ∙ take-append_seam done (line ∷ more)) in
    let P : List (List ℕ) → Type 0 = λ ls. All IsGood ls in
    let at : slice_get lines (n + 1 - 1) ≡ Some line = ap (slice_get lines) place ∙ ap (λ ls. slice_get ls (length done)) is ∙ get_after done more line in
    (omega arith, subst P front good, (line, at, bad))

all_one : (P : List ℕ → Type 0) (line : List ℕ) → P line → All P (line ∷ [])
all_one P line h zero d k = h
all_one P line h (suc n) d k = absurd (omega arith)

pub good_more : (lines done more : List (List ℕ)) (line : List ℕ) (n : ℕ) → lines ≡ done ++ line ∷ more
    → length done ≡ n → All IsGood done → IsGood line
    → (front : List (List ℕ)) × (lines ≡ front ++ more) × All IsGood front × (length front ≡ n + 1)
good_more lines done more line n is len good here = (
  done ++ line ∷ [],
  is ∙ sym (append_assoc done (line ∷ []) more),
  All-append IsGood done (line ∷ []) good (all_one IsGood line here),
  omega (arith, len, length-append done (line ∷ [])),
)

pub empty_is : (l : List ℕ) → length l ≡ 0 → l ≡ []
empty_is [] e = refl
empty_is (x ∷ l) e = absurd (omega arith)

pub good_all : (lines done : List (List ℕ)) (rest : List ℕ) → length rest ≡ 0 → lines ≡ done ++ lines_of rest → All IsGood done → All IsGood lines
good_all lines done rest none is good =
    let P : List (List ℕ) → Type 0 = λ ls. All IsGood ls in
    subst P (sym (is ∙ ap (λ l. done ++ lines_of l) (empty_is rest none) ∙ append-nil done)) good

-- whatever the rest of a text says, the answers so far and those to it are the answers to the whole
pub record Goes (text rest : List ℕ) (s : Progress) (out : List ℕ) : Type 0 where
  pub on : (lines : List QueueLine) → Says rest lines → (all : List QueueLine) × Says text all × (out ++ text_from s lines ≡ queue_text all)

pub Goes-first : (text : List ℕ) (s : Progress) (out : List ℕ) → s ≡ record { senders = []; history = [] } → out ≡ [] → Goes text text s out
Goes-first text s out e f =
    record { on = λ lines says. (lines, says, ap (λ o. o ++ text_from s lines) f ∙ ap (λ t. text_from t lines) e) }

pub Goes-more : (text rest next line : List ℕ) (said : QueueLine) (s t : Progress) (out more : List ℕ)
    → lines_of rest ≡ line ∷ lines_of next → Spells line said → t ≡ after s said
    → more ≡ out ++ answer (sighted s said) said → Goes text rest s out → Goes text next t more
Goes-more text rest next line said s t out more cut spells progress answers goes =
    record {
      on = λ lines says.
          let P : List (List ℕ) → Type 0 = λ ls. AllZip Spells ls (said ∷ lines) in
          let whole = goes.on (said ∷ lines) (subst P (sym cut) (spells, says)) in (
            whole.0,
            whole.1,
            ap (λ m. m ++ text_from t lines) answers
                ∙ ap (λ u. (out ++ answer (sighted s said) said) ++ text_from u lines) progress
                ∙ append_assoc out (answer (sighted s said) said) (text_from (after s said) lines)
                ∙ whole.2,
          );
    }

pub Goes-end : (text rest : List ℕ) (s : Progress) (out : List ℕ) → length rest ≡ 0 → Goes text rest s out
    → (all : List QueueLine) × Says text all × (out ++ left_text s.senders s.history ≡ queue_text all)
Goes-end text rest s out none goes =
    let P : List ℕ → Type 0 = λ r. Says r [] in goes.on [] (subst P (sym (empty_is rest none)) tt)

-- a text whose lines say something has good lines alone
pub says_good : (texts : List (List ℕ)) (lines : List QueueLine) → AllZip Spells texts lines → All IsGood texts
says_good [] lines says k d h = absurd (omega arith)
says_good (text ∷ texts) [] says k d h = absurd says
says_good (text ∷ texts) (line ∷ lines) says zero d h = (line, says.0)
says_good (text ∷ texts) (line ∷ lines) says (suc k) d h = says_good texts lines says.1 k d (omega arith)

-- a fault of a text in memory, and of the same text where it was read
read_fault : (e : QueueFault) (text : List ℕ) (taken : ℕ) → length text ≤ 1048576 → taken ≤ 1048576 → IsFaultOf text e → IsReadFaultOf text taken e
read_fault (fault.BadLine n) text taken short few h = (short, h)
read_fault fault.Read text taken short few h = few
read_fault fault.Write text taken short few h = (short, h)
read_fault fault.Limit text taken short few h = absurd (omega arith)
read_fault fault.Memory text taken short few h = (few, inr h)

pub read_faults : (r : Result (Unit {0}) QueueFault) (old new : Option (List ℕ)) (text : List ℕ) → IfSome old (λ all. text ≡ all) → length text ≤ 1048576
    → TakesBytes old new None → IfErr r (IsFaultOf text) → IfErr r (HasFault old new)
read_faults (Ok x) old new text e short taken h = tt
read_faults (Err x) None new text e short taken h = (taken.0, taken.1, tt)
read_faults (Err x) (Some all) new text e short taken h =
    let P : List ℕ → Type 0 = λ s. IsReadFaultOf s (length taken.0) x in (taken.0, taken.1, subst P e (read_fault x text (length taken.0) short taken.2 h))

-- what is answered to a text that was read is answered to what the reader had
pub read_replayed : {W : Type 0} (contents : W → Option (List ℕ)) (known : Option (List ℕ)) (text lent : List ℕ) (old new : Watched W)
    → IfSome known (λ all. text ≡ all) → lent ≡ text → IsReplayed contents (Some lent) old new → IsReplayed contents known old new
read_replayed contents None text lent old new is same h = record { answer = h.answer; is = tt; written = h.written }
read_replayed contents (Some all) text lent old new is same h =
    record { answer = h.answer; is = subst (λ (t : List ℕ). IsAnswerTo t h.answer) (same ∙ is) h.is; written = h.written }

pub on_ok : {T E : Type 0} (r : Result T E) (P Q : Type 0) → (P → Q) → OnOk r P → OnOk r Q
on_ok (Ok v) P Q f h = f h
on_ok (Err e) P Q f h = tt
