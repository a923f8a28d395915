-- A place at a port excludes that the port is lawful.
use Rattle.std.proofs.Common.{◌≡◌, ◌⊎◌, inl, inr, ℕ, Some, List, [], ◌∷◌, length, refl, ap, sym, ◌∙◌, take, arith}
use Rattle.std.specs.Prelude.{slice_get}
use Rattle.std.proofs.lemmas.Option.{none-some}
use Rattle.tp_common.specs.declared.event.Event.{Event}
use Rattle.tp_judge.specs.declared.line.MessageId.{MessageId}
use Rattle.tp_judge.specs.declared.line.IndexedLine.{IndexedLine}
use Rattle.tp_judge.specs.declared.place.UnlawfulPlace.{UnlawfulPlace}
use Rattle.tp_judge.specs.Lines.{left_of}
use Rattle.tp_judge.specs.Rules.{history_of, left_in}
use Rattle.tp_judge.specs.Lawful.{IsLawfulPort, IsLeftMissing, IsLeftWrong, IsToldLeft, IsUnlawfulPort}
use Rattle.tp_judge.proofs.BrokenPortReplays.{broken_unlawful}
use Rattle.tp_judge.proofs.ReferencedLinesGrowth.{at_seam, split_line}

-- where a line stands, a first one does
pub first_there : (closing : List IndexedLine) (k : ℕ) (line : IndexedLine) → slice_get closing k ≡ Some line → (x : IndexedLine) × (slice_get closing 0 ≡ Some x)
first_there [] k line at = absurd (none-some line at)
first_there (x ∷ closing) k line at = (x, refl)

unlawful_left : (h : List (Event MessageId)) (left closing : List IndexedLine) (place : UnlawfulPlace)
    → IsLeftWrong h left closing place ⊎ IsLeftMissing h left closing place → IsToldLeft h left closing → ⊥
unlawful_left h left closing place (inl w) told =
    let same = rw w.closed at told in
    let front = left_in (take w.before left) in
    let rest = split_line (λ line. left_of line.act) left w.before w.line w.env w.stands w.says in
    w.wrong (ap (λ l. slice_get l (length front)) (sym same ∙ rest.1) ∙ at_seam front rest.0 w.env)
unlawful_left h left closing place (inr m) told =
    let first = first_there closing m.closes.1.place m.closes.0 m.closes.1.at in
    let same = rw first.1 at told in
    let equal = ap length same in
    let missing = m.missing in
    omega arith

pub unlawful_port : (events left closing : List IndexedLine) (place : UnlawfulPlace) → IsUnlawfulPort events left closing place
    → IsLawfulPort events left closing → ⊥
unlawful_port events left closing place (inl broken) lawful = broken_unlawful events place broken lawful.lawful
unlawful_port events left closing place (inr broken) lawful =
    unlawful_left (history_of events) left closing place broken.1.how lawful.told_left
