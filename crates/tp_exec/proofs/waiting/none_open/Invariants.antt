-- None is open where none of those that are left is.
use Rattle.std.proofs.Common.{◌↔◌, drop}
use Rattle.tp_behaviour.specs.Choices.{NoneOpen}
use Rattle.tp_exec.proofs.waiting.none_open.Given as goal

abbrev pub invariant-loop-guard : goal.invariant-loop-guard
invariant-loop-guard l = NoneOpen l.desk.log l.guards ↔ NoneOpen l.desk.log (drop l.guard-index l.guards)
