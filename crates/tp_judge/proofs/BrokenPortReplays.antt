-- One line more of a port, and what a broken rule means for its history.
use Rattle.std.proofs.Common.{◌≡◌, ℕ, ◌+◌, ◌<◌, Bool, Option, Some, None, List, [], ◌∷◌, ◌++◌, length, get_or, take}
use Rattle.std.proofs.Common.{refl, ap, sym, ◌∙◌, subst, Bor}
use Rattle.std.specs.Prelude.{slice_get}
use Rattle.std.specs.Option.{option_to_list}
use Rattle.std.proofs.lemmas.Option.{none-some, same_Some}
use Rattle.tp_common.specs.declared.event.Env.{Env}
use Rattle.tp_common.specs.declared.event.Event.{Event}
use Rattle.tp_common.specs.declared.event.Event.TheVariants as event
use Rattle.tp_queue.specs.History.{Lawful, MayFollow, top}
use Rattle.tp_queue.specs.Answers.{removal}
use Rattle.tp_queue.specs.Calls.{TakesOut}
use Rattle.tp_queue.specs.Queues.{QueueState, StandsFor}
use Rattle.tp_judge.specs.declared.line.MessageId.{MessageId}
use Rattle.tp_judge.specs.declared.line.Act.{Act}
use Rattle.tp_judge.specs.declared.line.Act.TheVariants as act
use Rattle.tp_judge.specs.declared.line.IndexedLine.{IndexedLine}
use Rattle.tp_judge.specs.declared.place.Rule.{Rule}
use Rattle.tp_judge.specs.declared.place.UnlawfulPlace.{UnlawfulPlace}
use Rattle.tp_judge.specs.LinesByNumber.{lines_at}
use Rattle.tp_judge.specs.Lines.{envelope_of, event_of}
use Rattle.tp_judge.specs.Rules.{history_of, Breaks, IsBroken}
use Rattle.tp_judge.proofs.ReferencedLinesGrowth.{at_seam, filter_map-more, seen_at, seen-take, split_line}

pub replayed_more : (events : List (Bor IndexedLine)) (i : ℕ) (d : Bor IndexedLine) (q : QueueState MessageId) → i < length events
    → StandsFor q (history_of (lines_at (take i events)) ++ option_to_list (event_of (get_or events i d).now.act))
    → StandsFor q (history_of (lines_at (take (i + 1) events)))
replayed_more events i d q within stands =
    subst (λ (h : List (Event MessageId)). StandsFor q h)
    (sym (filter_map-more (λ line. event_of line.act) events i d within)) stands

pub broken_here : (events : List (Bor IndexedLine)) (i : ℕ) (d : Bor IndexedLine) (rule : Rule) → i < length events
    → Lawful (history_of (lines_at (take i events)))
    → Breaks rule (history_of (lines_at (take i events))) (get_or events i d).now.act
    → IsBroken (lines_at events) (record { line = (get_or events i d).now.number; rule = rule })
broken_here events i d rule within lawful breaks = record {
  before = i;
  line = (get_or events i d).now;
  stands = seen_at events i d within;
  told = refl;
  lawful = subst (λ (h : List (Event MessageId)). Lawful h) (ap history_of (sym (seen-take i events))) lawful;
  breaks = subst (λ (h : List (Event MessageId)). Breaks rule h (get_or events i d).now.act)
      (ap history_of (sym (seen-take i events))) breaks;
}

-- where this is the top, it is what was taken out
pub taken_out : (h : List (Event MessageId)) (e : Env MessageId) (r : Option (Env MessageId)) (after : QueueState MessageId) (received : Bool)
    → top h ≡ Some e → TakesOut h r after → StandsFor after (h ++ removal received e ∷ [])
taken_out h e None after received there out = absurd (none-some e (sym out.0 ∙ there))
taken_out h e (Some x) after received there out =
    subst (λ (y : Env MessageId). StandsFor after (h ++ removal received y ∷ []))
    (same_Some x e (sym out.0 ∙ there)) (out.1 received)

take_seam : (h rest : List (Event MessageId)) → take (length h) (h ++ rest) ≡ h
take_seam [] rest = refl
take_seam (x ∷ h) rest = ap (λ l. x ∷ l) (take_seam h rest)

-- what a broken rule makes of the line's event
may_not : (rule : Rule) (h : List (Event MessageId)) (a : Act) → Breaks rule h a
    → (e : Event MessageId) × (event_of a ≡ Some e) × (MayFollow h e → ⊥)
may_not rule h (act.Took m) broken = (event.Took (envelope_of m), refl, broken.0)
may_not rule h (act.Found m) broken = (event.Found (envelope_of m), refl, broken.0)
may_not rule h (act.Dropped m) broken = (event.Dropped (envelope_of m), refl, broken.0)
may_not rule h _ broken = absurd broken

-- no lawful history is told by lines of which one breaks a rule
pub breaks_unlawful : (events : List IndexedLine) (k : ℕ) (line : IndexedLine) (rule : Rule) → slice_get events k ≡ Some line
    → Breaks rule (history_of (take k events)) line.act → Lawful (history_of events) → ⊥
unfolding Lawful
breaks_unlawful events k line rule stands breaks lawful =
    let h = history_of (take k events) in
    let event = may_not rule h line.act breaks in
    let rest = split_line (λ line. event_of line.act) events k line event.0 stands event.1 in
    let here : slice_get (history_of events) (length h) ≡ Some event.0 =
    ap (λ (l : List (Event MessageId)). slice_get l (length h)) rest.1 ∙ at_seam h rest.0 event.0 in
    let follows = lawful (length h) event.0 here in
    event.2 (subst (λ (l : List (Event MessageId)). MayFollow l event.0)
    (ap (take (length h)) rest.1 ∙ take_seam h (event.0 ∷ rest.0)) follows)

pub broken_unlawful : (events : List IndexedLine) (place : UnlawfulPlace) → IsBroken events place → Lawful (history_of events) → ⊥
broken_unlawful events place b lawful = breaks_unlawful events b.before b.line place.rule b.stands b.breaks lawful
