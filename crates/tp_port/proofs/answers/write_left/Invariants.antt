-- As many entries of the queue stand in the text as there were turns.
use Rattle.std.proofs.Common.{◌≡◌, ◌++◌, take}
use Rattle.std.specs.Prelude.{string_bytes}
use Rattle.std.specs.List.{flat_map}
use Rattle.tp_port.specs.Replay.{envelope_text}
use Rattle.tp_port.proofs.answers.write_left.Given as goal

abbrev pub invariant-loop-place : goal.invariant-loop-place
invariant-loop-place l = string_bytes l.out ≡ string_bytes l.initial.out ++ flat_map (envelope_text l.senders) (take l.place l.queue.entries)
