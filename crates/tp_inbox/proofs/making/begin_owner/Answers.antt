-- The owner has drained nothing, and knows of no sender.
use Rattle.std.proofs.Common.{◌≡◌, ◌≢◌, rules, arith, length, subst, sym}
use Rattle.std.specs.Prelude.{List, AllPairs}
use Rattle.std.proofs.lemmas.Grind.{common_steps}
use Rattle.std.specs.Arc.{arc_value}
use Rattle.tp_config.specs.declared.port_type.RouteId.{RouteId}
use Rattle.tp_inbox.specs.Places.{AreFiled}
use Rattle.tp_inbox.proofs.making.begin_owner.Goals as goal

pub places_of-requires : goal.places_of-requires
places_of-requires c =
    let channel = arc_value c.args.channel in
    let same : c.as_slice.result.now ≡ channel.routes.items = search rules in
    subst (AllPairs (λ (r q : RouteId). r ≢ q)) (sym same) channel.routed.apart

pub invariant_of-result : goal.invariant_of-result
invariant_of-result c = record {
  pass = search rules;
  sound = search rules;
  split_off = search rules;
  known = search rules;
  ends = search rules;
  taken = search rules;
  counts = grind (arith, common_steps);
  places =
      let same : c.as_slice.result.now ≡ (arc_value c.args.channel).routes.items = search rules in
      subst (λ (l : List RouteId). AreFiled (length l) l c.in_ok-places.places) same c.in_ok-places.ensures;
  sources = search rules;
  sources_room = search rules;
  rest = search rules;
  rest_room = search rules;
}
