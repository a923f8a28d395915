-- What a port's own lines say, when they are lawful, and where they aren't.
use Rattle.std.specs.Prelude.{◌≡◌, ◌≢◌, ◌-◌, ◌≤◌, ◌++◌, ℕ, Option, Some, None, List, take, slice_get, MatchOption, ⊤}
use Rattle.std.specs.List.{filter_map}
use Rattle.std.specs.Option.{option_to_list}
use Rattle.tp_common.specs.declared.event.Env.{Env}
use Rattle.tp_common.specs.declared.event.Event.{Event}
use Rattle.tp_common.specs.declared.event.Status.TheVariants as status
use Rattle.tp_queue.specs.History.{Lawful, queued, status_of, top, limit, gone}
use Rattle.tp_queue.specs.Queues.{QueueState, StandsFor}
use Rattle.tp_judge.specs.declared.line.MessageId.{MessageId}
use Rattle.tp_judge.specs.declared.line.Act.{Act}
use Rattle.tp_judge.specs.declared.line.Act.TheVariants as act
use Rattle.tp_judge.specs.declared.line.IndexedLine.{IndexedLine}
use Rattle.tp_judge.specs.declared.place.Rule.{Rule}
use Rattle.tp_judge.specs.declared.place.Rule.TheVariants as rule
use Rattle.tp_judge.specs.declared.place.UnlawfulPlace.{UnlawfulPlace}
use Rattle.tp_judge.specs.Lines.{event_of, left_of, looked_at}

-- the history of a port, according to these lines
abbrev pub history_of : List IndexedLine → List (Event MessageId)
history_of lines = filter_map (λ line. event_of line.act) lines

-- the messages that these lines report as left
abbrev pub left_in : List IndexedLine → List (Env MessageId)
left_in lines = filter_map (λ line. left_of line.act) lines

-- the message is queued, and not ahead of the mark
abbrev pub IsBehind : List (Event MessageId) → Env MessageId → Type 0
IsBehind h e = (k : ℕ) × (limit h - gone h ≤ k) × (slice_get (queued h) k ≡ Some e)

-- why a message that isn't the top can't be taken, found or discarded: the port is stopped; or it is halted, and the
-- message is after the mark; or neither
abbrev pub IsReason : Rule → List (Event MessageId) → Env MessageId → Type 0
IsReason rule.Stopped h e = status_of h ≡ status.Stopped
IsReason rule.Behind h e = (status_of h ≡ status.Halted) × IsBehind h e
IsReason rule.NotTop h e = (status_of h ≢ status.Stopped) × (status_of h ≡ status.Halted → IsBehind h e → ⊥)
IsReason _ h e = ⊥

-- the line takes, finds or discards a message that isn't the top, for this reason
abbrev pub Breaks : Rule → List (Event MessageId) → Act → Type 0
Breaks broken h a = MatchOption (looked_at a) ⊥ (λ e. (top h ≢ Some e) × IsReason broken h e)

-- the line is neither an arrival nor does it take, find or discard
abbrev pub IsOperation : Act → Type 0
IsOperation (act.Came m) = ⊥
IsOperation (act.Took m) = ⊥
IsOperation (act.Found m) = ⊥
IsOperation (act.Dropped m) = ⊥
IsOperation _ = ⊤

-- one more line after this history: either its event is lawful, and this is the queue after it; or the line breaks a
-- rule
abbrev pub Replays : List (Event MessageId) → Act → QueueState MessageId → Option Rule → Type 0
Replays h a after None = StandsFor after (h ++ option_to_list (event_of a))
Replays h a after (Some broken) = Breaks broken h a

-- the first of the port's lines that breaks a rule: those before it are a lawful history, and after that it breaks this
-- rule
pub record IsBroken (events : List IndexedLine) (place : UnlawfulPlace) : Type 0 where
  pub before : ℕ
  pub line : IndexedLine
  pub stands : slice_get events before ≡ Some line
  pub told : place.line ≡ line.number
  pub lawful : Lawful (history_of (take before events))
  pub breaks : Breaks place.rule (history_of (take before events)) line.act
