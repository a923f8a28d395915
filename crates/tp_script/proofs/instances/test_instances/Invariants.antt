-- `mtc` and the components so far have their instances.
use Rattle.std.proofs.Common.{◌≡◌, ◌+◌, length}
use Rattle.tp_script.specs.Instances.{AreInstances}
use Rattle.tp_script.proofs.instances.test_instances.Given as goal

abbrev pub invariant-loop-place : goal.invariant-loop-place
invariant-loop-place l = record {
  instances : AreInstances l.prepared l.instances.items;
  count : length l.instances.items ≡ l.place + 1;
}
