-- What was read so far is taken off the front of what the reader had.
use Rattle.std.proofs.Common.{◌+◌, ◌-◌, ◌≤◌, take, vec_len}
use Rattle.std.specs.Io.KnownBytes.{Consumes}
use Rattle.tp_common.specs.Watching.{reader_left}
use Rattle.tp_common.specs.Reading.{IsRoom}
use Rattle.tp_common.proofs.text.read_up_to.Given as goal

abbrev pub invariant-loop-size : goal.invariant-loop-size
invariant-loop-size g l =
    (l.size ≤ vec_len l.text) × (vec_len l.text ≤ l.limit + 1) × IsRoom l.limit (vec_len l.text)
    × Consumes (reader_left g.R.Read.remaining l.initial.reader) (reader_left g.R.Read.remaining l.reader) (take l.size l.text.items)

abbrev pub decreases-loop-size : goal.decreases-loop-size
decreases-loop-size g l = l.limit + 1 - l.size
