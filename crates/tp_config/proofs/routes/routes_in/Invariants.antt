-- The routes to the ports passed so far are there.
use Rattle.std.proofs.Common.{◌≡◌, map}
use Rattle.tp_config.specs.Links.{routes_kept}
use Rattle.tp_config.specs.Shape.{links_of}
use Rattle.tp_config.proofs.routes.routes_in.Given as goal

abbrev pub invariant-loop-port : goal.invariant-loop-port
invariant-loop-port l = l.routes.items ≡ routes_kept (map links_of l.components) l.comp l.port
