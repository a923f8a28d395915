-- What the fields of a queue have to do with its history.
use Rattle.std.specs.Prelude.{◌≡◌, ℕ, ◌+◌, ◌≤◌, List, length}
use Rattle.tp_common.specs.declared.event.Env.{Env}
use Rattle.tp_common.specs.declared.event.Event.{Event}
use Rattle.tp_common.specs.declared.event.Status.{Status}
use Rattle.tp_common.specs.declared.event.Status.TheVariants as status
use Rattle.tp_queue.specs.History.{Lawful, queued, status_of, mark, gone, accepted}

-- `entries` are the queued envelopes and `now` is the status; where it is halted the mark is `ahead` envelopes ahead
pub record KeepsQueue {M : Type 0} (h : List (Event M)) (entries : List (Env M)) (now : Status) (ahead : ℕ)
    : Type 0 where
  pub lawful : Lawful h
  pub entries_are : entries ≡ queued h
  pub status_is : now ≡ status_of h
  pub in_range : gone h ≤ length (accepted h)
  pub mark_is : now ≡ status.Halted → gone h + ahead ≡ mark h
  pub mark_in_range : now ≡ status.Halted → ahead ≤ length entries
