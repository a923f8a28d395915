-- The ports so far have nothing beside them.
use Rattle.std.proofs.Common.{◌≡◌, [], replicate}
use Rattle.tp_config.proofs.links.Links.new.Given as goal

abbrev pub invariant-loop : goal.invariant-loop
invariant-loop l = l.ports.items ≡ replicate l.counter []
