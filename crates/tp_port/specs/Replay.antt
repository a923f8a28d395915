-- The answers to a queue file: the senders by first occurrence, the port's history, and the text of each answer.
use Rattle.std.specs.Prelude.{ℕ, ℤ, ◌==◌, ◌&&◌, Bool, true, false, nat_eq, if◌then◌else◌, Option, Some, None, List, []}
use Rattle.std.specs.Prelude.{◌∷◌, ◌++◌, length, map, slice_get, codes, unwrap_or, option_and_then}
use Rattle.std.specs.List.{flat_map, list_any, position_or_len}
use Rattle.std.specs.Cmp.Lexicographic.{pointwise}
use Rattle.std.specs.Option.{option_to_list, option_map}
use Rattle.std.specs.Ordering.{int_eq}
use Rattle.std.specs.Fmt.{decimal, signed_decimal}
use Rattle.tp_common.specs.declared.event.Env.{Env}
use Rattle.tp_common.specs.declared.event.Event.{Event}
use Rattle.tp_common.specs.declared.event.Event.TheVariants as event
use Rattle.tp_port.specs.declared.pattern.IntegerPattern.{IntegerPattern}
use Rattle.tp_port.specs.declared.pattern.IntegerPattern.TheVariants as pattern
use Rattle.tp_queue.specs.History.{accepted, queued, status_of, top}
use Rattle.tp_queue.specs.Answers.{halted_count}
use Rattle.tp_port.specs.QueueLine.{QueueLine, arrive, receive, check, trigger, clear, start, stop, halt, Wish}

-- the progress of a replay: the senders in the order of their first occurrence, and the port's history
pub record Progress : Type 0 where
  pub senders : List (List ℕ)
  pub history : List (Event ℤ)

-- the senders after this name was seen
abbrev pub with_sender : List (List ℕ) → List ℕ → List (List ℕ)
with_sender senders name = if list_any (pointwise nat_eq name) senders then senders else senders ++ name ∷ []

abbrev pub seen_if : List (List ℕ) → Option (List ℕ) → List (List ℕ)
seen_if senders None = senders
seen_if senders (Some name) = with_sender senders name

-- the senders after this line was seen
abbrev pub seen_in : List (List ℕ) → QueueLine → List (List ℕ)
seen_in senders (arrive name n) = with_sender senders name
seen_in senders (receive wish) = seen_if senders wish.from
seen_in senders (check wish) = seen_if senders wish.from
seen_in senders (trigger wish) = seen_if senders wish.from
seen_in senders _ = senders

-- the number of a sender: its place among the senders, from 0
abbrev pub sender_number : List (List ℕ) → List ℕ → ℕ
sender_number senders name = position_or_len (pointwise nat_eq name) senders

-- the name of the sender of this number
abbrev pub sender_name : List (List ℕ) → ℕ → List ℕ
sender_name senders number = unwrap_or (slice_get senders number) []

-- the envelope of an `arrive`: its number is how many `arrive` lines come before it
abbrev pub arriving : Progress → List ℕ → ℤ → Env ℤ
arriving s name n = record { sender = sender_number s.senders name; number = length (accepted s.history); msg = n }

abbrev pub is_admitted : IntegerPattern → ℤ → Bool
is_admitted pattern.Any n = true
is_admitted (pattern.Number wanted) n = int_eq n wanted

abbrev pub is_from : Option ℕ → ℕ → Bool
is_from None sender = true
is_from (Some wanted) sender = sender == wanted

-- the envelope has a wanted value, and comes from the wanted sender, if one is named
abbrev pub meets : IntegerPattern → Option ℕ → Env ℤ → Bool
meets value from e = is_admitted value e.msg && is_from from e.sender

-- the envelope that a receiving operation succeeds with: the top, if it is wanted
abbrev pub found : IntegerPattern → Option ℕ → List (Event ℤ) → Option (Env ℤ)
found value from h = option_and_then (λ e. if meets value from e then Some e else None) (top h)

-- the number of the wanted sender
abbrev pub from_of : Progress → Wish → Option ℕ
from_of s wish = option_map (sender_number s.senders) wish.from

abbrev pub found_in : Progress → Wish → Option (Env ℤ)
found_in s wish = found wish.value (from_of s wish) s.history

-- the event of a `trigger` that finds a top, which is wanted or not
abbrev pub triggered : Bool → Env ℤ → Event ℤ
triggered true e = event.Took e
triggered false e = event.Dropped e

-- the events of a line, none or one, if its sender is already among the senders
abbrev pub events_of : Progress → QueueLine → List (Event ℤ)
events_of s (arrive name n) = event.Arrive (arriving s name n) ∷ []
events_of s (receive wish) = map event.Took (option_to_list (found_in s wish))
events_of s (check wish) = map event.Found (option_to_list (found_in s wish))
events_of s (trigger wish) =
    map (λ e. triggered (meets wish.value (from_of s wish) e) e) (option_to_list (top s.history))
events_of s clear = event.Cleared ∷ []
events_of s start = event.Started ∷ []
events_of s stop = event.Stopped ∷ []
events_of s halt = event.Halted ∷ []

-- an envelope's sender and value, and the end of the line
abbrev pub envelope_text : List (List ℕ) → Env ℤ → List ℕ
envelope_text senders e = sender_name senders e.sender ++ codes " " ++ signed_decimal e.msg ++ codes "\n"

-- the word and the envelope, or `no`
abbrev pub envelope_or_no : List (List ℕ) → List ℕ → Option (Env ℤ) → List ℕ
envelope_or_no senders word None = codes "no\n"
envelope_or_no senders word (Some e) = word ++ envelope_text senders e

abbrev pub trigger_word : Bool → List ℕ
trigger_word true = codes "took "
trigger_word false = codes "dropped "

abbrev pub triggered_text : List (List ℕ) → IntegerPattern → Option ℕ → Option (Env ℤ) → List ℕ
triggered_text senders value from None = codes "no\n"
triggered_text senders value from (Some e) = trigger_word (meets value from e) ++ envelope_text senders e

abbrev pub counted_text : List ℕ → ℕ → List ℕ
counted_text word n = word ++ decimal n ++ codes "\n"

abbrev pub halted_text : Option ℕ → List ℕ
halted_text None = codes "unchanged\n"
halted_text (Some n) = counted_text (codes "halted ") n

-- the answer to a line, if its sender is already among the senders
abbrev pub answer : Progress → QueueLine → List ℕ
answer s (arrive name n) = codes "queued\n"
answer s (receive wish) = envelope_or_no s.senders (codes "took ") (found_in s wish)
answer s (check wish) = envelope_or_no s.senders (codes "found ") (found_in s wish)
answer s (trigger wish) = triggered_text s.senders wish.value (from_of s wish) (top s.history)
answer s clear = counted_text (codes "cleared ") (length (queued s.history))
answer s start = counted_text (codes "cleared ") (length (queued s.history))
answer s stop = codes "stopped\n"
answer s halt = halted_text (halted_count (status_of s.history) s.history)

-- the progress when a line is executed: its sender has been seen
abbrev pub sighted : Progress → QueueLine → Progress
sighted s line = record { senders = seen_in s.senders line; history = s.history }

-- the progress after a line
abbrev pub after : Progress → QueueLine → Progress
after s line = record { senders = seen_in s.senders line; history = s.history ++ events_of (sighted s line) line }

-- the number of messages left in the queue, and each of them
abbrev pub text_of_left : List (List ℕ) → List (Env ℤ) → List ℕ
text_of_left senders envelopes =
    counted_text (codes "left ") (length envelopes) ++ flat_map (envelope_text senders) envelopes

-- what is queued in the end
abbrev pub left_text : List (List ℕ) → List (Event ℤ) → List ℕ
left_text senders h = text_of_left senders (queued h)

-- the answers to these lines after this progress, and then what is left in the queue
abbrev pub text_from : Progress → List QueueLine → List ℕ
text_from s [] = left_text s.senders s.history
text_from s (line ∷ lines) = answer (sighted s line) line ++ text_from (after s line) lines

-- the progress before the first line: no sender has been seen, and nothing has happened
abbrev pub first_progress : Progress
first_progress = record { senders = []; history = [] }

-- the whole answer to a queue file of these lines
abbrev pub queue_text : List QueueLine → List ℕ
queue_text lines = text_from first_progress lines
