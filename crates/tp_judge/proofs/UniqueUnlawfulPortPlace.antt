-- Of a port one place alone can be told.
use Rattle.std.proofs.Common.{◌≡◌, inl, inr, ℕ, zero, suc, ◌<◌, Some, List, [], ◌∷◌, ◌++◌, append_assoc, length, take}
use Rattle.std.proofs.Common.{refl, ap, sym, ◌∙◌, subst, arith}
use Rattle.std.specs.Prelude.{slice_get}
use Rattle.std.proofs.lemmas.List.{take-take}
use Rattle.std.proofs.lemmas.Option.{same_Some, slice_get_within}
use Rattle.tp_common.specs.declared.event.Env.{Env}
use Rattle.tp_common.specs.declared.event.Event.{Event}
use Rattle.tp_queue.specs.History.{queued}
use Rattle.tp_judge.specs.declared.line.MessageId.{MessageId}
use Rattle.tp_judge.specs.declared.line.Act.{Act}
use Rattle.tp_judge.specs.declared.line.Act.TheVariants as act
use Rattle.tp_judge.specs.declared.line.IndexedLine.{IndexedLine}
use Rattle.tp_judge.specs.declared.place.Rule.{Rule}
use Rattle.tp_judge.specs.declared.place.Rule.TheVariants as rule
use Rattle.tp_judge.specs.declared.place.UnlawfulPlace.{UnlawfulPlace}
use Rattle.tp_judge.specs.Lines.{envelope_of, left_of}
use Rattle.tp_judge.specs.Rules.{history_of, left_in, Breaks, IsBroken, IsReason}
use Rattle.tp_judge.specs.Lawful.{IsCloser, IsLeftBroken, IsLeftMissing, IsLeftWrong, IsToldFirst, IsUnlawfulPort}
use Rattle.tp_judge.proofs.FirstPlaceIsUnique.{neither_less, same_place}
use Rattle.tp_judge.proofs.BrokenPortReplays.{breaks_unlawful, broken_unlawful}
use Rattle.tp_judge.proofs.ReferencedLinesGrowth.{at_seam, split_line}

-- what stands among the first stands there in the whole list
at_front : (lines : List IndexedLine) (n k : ℕ) (line : IndexedLine) → k < n → slice_get lines k ≡ Some line → slice_get (take n lines) k ≡ Some line
at_front [] n k line below at = absurd (cc)
at_front (x ∷ lines) zero k line below at = absurd (omega arith)
at_front (x ∷ lines) (suc n) zero line below at = at
at_front (x ∷ lines) (suc n) (suc k) line below at = at_front lines n k line (omega arith) at

-- one reason is so
same_reason : (r s : Rule) (h : List (Event MessageId)) (e : Env MessageId) → IsReason r h e → IsReason s h e → r ≡ s
same_reason rule.Stopped rule.Stopped h e one two = refl
same_reason rule.Stopped rule.Behind h e one two = absurd (let other = two.0 in cc)
same_reason rule.Stopped rule.NotTop h e one two = absurd (two.0 one)
same_reason rule.Stopped _ h e one two = absurd two
same_reason rule.Behind rule.Stopped h e one two = absurd (let other = one.0 in cc)
same_reason rule.Behind rule.Behind h e one two = refl
same_reason rule.Behind rule.NotTop h e one two = absurd (two.1 one.0 one.1)
same_reason rule.Behind _ h e one two = absurd two
same_reason rule.NotTop rule.Stopped h e one two = absurd (one.0 two)
same_reason rule.NotTop rule.Behind h e one two = absurd (one.1 two.0 two.1)
same_reason rule.NotTop rule.NotTop h e one two = refl
same_reason rule.NotTop _ h e one two = absurd two
same_reason _ _ h e one two = absurd one

same_rule : (r s : Rule) (h : List (Event MessageId)) (a : Act) → Breaks r h a → Breaks s h a → r ≡ s
same_rule r s h (act.Took m) one two = same_reason r s h (envelope_of m) one.1 two.1
same_rule r s h (act.Found m) one two = same_reason r s h (envelope_of m) one.1 two.1
same_rule r s h (act.Dropped m) one two = same_reason r s h (envelope_of m) one.1 two.1
same_rule r s h _ one two = absurd one

-- no line before the first breaks a rule
none_sooner : (events : List IndexedLine) (a b : UnlawfulPlace) (first : IsBroken events a) (second : IsBroken events b) → first.before < second.before → ⊥
none_sooner events a b first second below =
    breaks_unlawful (take second.before events) first.before first.line a.rule
    (at_front events second.before first.before first.line below first.stands)
    (subst (λ (l : List IndexedLine). Breaks a.rule (history_of l) first.line.act)
    (sym (take-take first.before second.before events (omega arith))) first.breaks)
    second.lawful

one_broken : (events : List IndexedLine) (a b : UnlawfulPlace) → IsBroken events a → IsBroken events b → a ≡ b
one_broken events a b first second =
    let place = neither_less first.before second.before (none_sooner events a b first second) (none_sooner events b a second first) in
    let line = same_Some first.line second.line (sym first.stands ∙ ap (slice_get events) place ∙ second.stands) in
    let breaks = subst (λ (l : IndexedLine). Breaks a.rule (history_of (take second.before events)) l.act) line
    (subst (λ (n : ℕ). Breaks a.rule (history_of (take n events)) first.line.act) place first.breaks) in
    same_place a b
    (first.told ∙ ap (λ (l : IndexedLine). l.number) line ∙ sym second.told)
    (same_rule a.rule b.rule (history_of (take second.before events)) second.line.act breaks second.breaks)

-- what is told as left, and is queued first, is queued at its place
told_there : (h : List (Event MessageId)) (left : List IndexedLine) (k : ℕ) (line : IndexedLine) (e : Env MessageId) → slice_get left k ≡ Some line
    → left_of line.act ≡ Some e → IsToldFirst h left → slice_get (queued h) (length (left_in (take k left))) ≡ Some e
told_there h left k line e stands says right =
    let front = left_in (take k left) in
    let rest = split_line (λ line. left_of line.act) left k line e stands says in
    let whole : front ++ e ∷ (rest.0 ++ right.0) ≡ queued h =
    sym (append_assoc front (e ∷ rest.0) right.0) ∙ ap (λ l. l ++ right.0) (sym rest.1) ∙ right.1 in
    ap (λ l. slice_get l (length front)) (sym whole) ∙ at_seam front (rest.0 ++ right.0) e

-- no line among these is told wrongly
none_wrong : (h : List (Event MessageId)) (left closing : List IndexedLine) (place : UnlawfulPlace) (w : IsLeftWrong h left closing place) (n : ℕ)
    → w.before < n → IsToldFirst h (take n left) → ⊥
none_wrong h left closing place w n below right =
    w.wrong
    (ap (λ l. slice_get (queued h) (length (left_in l))) (sym (take-take w.before n left (omega arith)))
    ∙ told_there h (take n left) w.before w.line w.env (at_front left n w.before w.line below w.stands) w.says right)

one_left_wrong : (h : List (Event MessageId)) (left closing : List IndexedLine) (a b : UnlawfulPlace) → IsLeftWrong h left closing a
    → IsLeftWrong h left closing b → a.line ≡ b.line
one_left_wrong h left closing a b first second =
    let place = neither_less first.before second.before
    (λ low. none_wrong h left closing a first second.before low second.right)
    (λ high. none_wrong h left closing b second first.before high first.right) in
    let line = same_Some first.line second.line (sym first.stands ∙ ap (slice_get left) place ∙ second.stands) in
    first.told ∙ ap (λ (l : IndexedLine). l.number) line ∙ sym second.told

wrong_missing : (h : List (Event MessageId)) (left closing : List IndexedLine) (a b : UnlawfulPlace) → IsLeftWrong h left closing a
    → IsLeftMissing h left closing b → ⊥
wrong_missing h left closing a b w m = w.wrong (told_there h left w.before w.line w.env w.stands w.says m.right)

-- one line closes a section
same_closer : (closing : List IndexedLine) (x y : IndexedLine) → IsCloser closing x → IsCloser closing y → x.number ≡ y.number
same_closer closing x y a b =
    let place : a.place ≡ b.place = elim a.which [
      | inl ends ↦ elim b.which [
        | inl other_ends ↦ neither_less a.place b.place
            (λ low. b.none_before a.place x low a.at ends) (λ high. a.none_before b.place y high b.at other_ends)
        | inr none ↦ absurd (none.0 a.place x (slice_get_within closing a.place x a.at) a.at ends)
      ]
      | inr none ↦ elim b.which [
        | inl ends ↦ absurd (none.0 b.place y (slice_get_within closing b.place y b.at) b.at ends)
        | inr other_none ↦ let one = none.1 in let two = other_none.1 in omega arith
      ]
    ] in
    ap (λ (l : IndexedLine). l.number) (same_Some x y (sym a.at ∙ ap (slice_get closing) place ∙ b.at))

one_missing : (h : List (Event MessageId)) (left closing : List IndexedLine) (a b : UnlawfulPlace) → IsLeftMissing h left closing a
    → IsLeftMissing h left closing b → a.line ≡ b.line
one_missing h left closing a b first second =
    first.closes.2 ∙ same_closer closing first.closes.0 second.closes.0 first.closes.1 second.closes.1 ∙ sym second.closes.2

one_left : (h : List (Event MessageId)) (left closing : List IndexedLine) (a b : UnlawfulPlace) → IsLeftBroken h left closing a
    → IsLeftBroken h left closing b → a ≡ b
one_left h left closing a b first second =
    let line : a.line ≡ b.line = elim first.how [
      | inl wrong ↦ elim second.how [
        | inl other ↦ one_left_wrong h left closing a b wrong other
        | inr missing ↦ absurd (wrong_missing h left closing a b wrong missing)
      ]
      | inr missing ↦ elim second.how [
        | inl wrong ↦ absurd (wrong_missing h left closing b a wrong missing)
        | inr other ↦ one_missing h left closing a b missing other
      ]
    ] in
    same_place a b line (first.rule_is ∙ sym second.rule_is)

-- of a port one place can be told
pub one_at_port : (events left closing : List IndexedLine) (a b : UnlawfulPlace) → IsUnlawfulPort events left closing a
    → IsUnlawfulPort events left closing b → a ≡ b
one_at_port events left closing a b (inl first) (inl second) = one_broken events a b first second
one_at_port events left closing a b (inl broken) (inr left_broken) = absurd (broken_unlawful events a broken left_broken.0)
one_at_port events left closing a b (inr left_broken) (inl broken) = absurd (broken_unlawful events b broken left_broken.0)
one_at_port events left closing a b (inr first) (inr second) = one_left (history_of events) left closing a b first.1 second.1
