-- Nothing was read while reads were interrupted.
use Rattle.std.proofs.Common.{◌≡◌, length}
use Rattle.std.specs.Io.KnownBytes.{Keeps}
use Rattle.tp_common.specs.Watching.{reader_left}
use Rattle.tp_common.proofs.text.read_again.Given as goal

abbrev pub invariant-loop : goal.invariant-loop
invariant-loop g l = (length l.part ≡ length l.initial.part) × Keeps (reader_left g.R.Read.remaining l.initial.reader) (reader_left g.R.Read.remaining l.reader)
