-- The sizes of what the components so far do are summed, up to where counting stops.
use Rattle.std.proofs.Common.{◌≡◌, map, sum, take}
use Rattle.tp_play.specs.Sizes.{capped}
use Rattle.tp_script.specs.Instances.{size_of_instance}
use Rattle.tp_script.proofs.total.count_instances.Given as goal

abbrev pub invariant-loop-instance : goal.invariant-loop-instance
invariant-loop-instance l = l.sum ≡ capped (sum (map (size_of_instance l.main l.functions) (take l.instance-index l.instances)))
