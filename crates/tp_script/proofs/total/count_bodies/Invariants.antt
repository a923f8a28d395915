-- The sizes of the bodies so far are listed, each up to where counting stops.
use Rattle.std.proofs.Common.{◌≡◌, map, take}
use Rattle.tp_play.specs.Sizes.{capped, size_of_body}
use Rattle.tp_script.proofs.total.count_bodies.Given as goal

abbrev pub invariant-loop-body : goal.invariant-loop-body
invariant-loop-body l = l.sizes.items ≡ map (λ b. capped (size_of_body b)) (take l.body-index l.bodies)
