-- So many of the first components have something to do, and no more than there are.
use Rattle.std.proofs.Common.{◌≡◌, ◌≤◌}
use Rattle.tp_exec.specs.Reporting.{living_below}
use Rattle.tp_exec.proofs.run.count_living.Given as goal

abbrev pub invariant-loop-number : goal.invariant-loop-number
invariant-loop-number l = record {
  count : l.living ≡ living_below l.test_case l.number;
  few : l.living ≤ l.number;
}
