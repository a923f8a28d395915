-- With each turn one route more is filed.
use Rattle.std.proofs.Common.{◌<◌, Some, arith, length, subst}
use Rattle.indexmap.specs.IndexMap.{Updates}
use Rattle.tp_config.specs.declared.port_type.RouteId.{RouteId}
use Rattle.tp_inbox.specs.Places.{route_eq}
use Rattle.tp_behaviour.proofs.SenderRouteTableGrowth.{file_next, others_next}
use Rattle.tp_behaviour.proofs.outbox.file.Goals as goal

pub loop-way-preserved : goal.loop-way-preserved
loop-way-preserved c =
    let routes = c.args.sender.now.routes in
    let low : c.loop-way.way < length routes = omega (arith, c.loop-way-test.true, c.ways-way-end.ensures.count) in
    let updates = subst (λ (r : RouteId). Updates route_eq c.loop-way.places c.insert.new.self r (Some record { sender = c.args.place; route_index = c.loop-way.way }))
    c.route.ensures c.in_ok-insert.ensures.updates in
    record {
      filed = file_next routes c.args.place c.loop-way.way c.loop-way.places c.insert.new.self c.ways-way-end.ensures.apart low c.loop-way.invariant.filed
          updates;
      others = others_next routes c.args.place c.loop-way.way c.args.places.now c.loop-way.places c.insert.new.self low c.loop-way.invariant.others updates;
    }
