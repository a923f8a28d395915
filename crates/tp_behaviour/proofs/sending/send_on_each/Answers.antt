-- Each route has a sender, and one entry more stands for each turn.
use Rattle.std.proofs.Common.{◌∙◌, [], ◌∷◌, ◌++◌, Contains, ap, get_or, refl, subst, sym}
use Rattle.tp_value.specs.declared.message.Message.{Message}
use Rattle.tp_inbox.specs.Routed.{absent_route}
use Rattle.tp_behaviour.specs.LookOutcomes.{AddsEntry}
use Rattle.tp_behaviour.specs.Sends.{next_sent}
use Rattle.tp_behaviour.proofs.WorkerInvariantOnArrivals.{same_then}
use Rattle.tp_behaviour.proofs.SendOutcomes.{routes_stay, sent_on_more}
use Rattle.tp_behaviour.proofs.sending.send_on_each.Goals as goal

-- the senders are on the same routes as at the start
pub send_on-requires-clause-known : goal.send_on-requires-clause-known
send_on-requires-clause-known g c κs within =
    let q = get_or c.args.routes.now c.loop-route.route-index absent_route in
    subst (λ l. Contains l q) (sym (routes_stay c.args.worker.now c.loop-route.worker c.loop-route.invariant.same))
    (c.requires.known c.loop-route.route-index absent_route c.loop-route-test.true)

-- a copy of the message is sent, which equals it
pub loop-route-preserved : goal.loop-route-preserved
loop-route-preserved g c =
    let e = c.in_ok-send_on.ensures in
    let i = c.loop-route.invariant in
    let before = c.loop-route.worker in
    let routes = c.args.routes.now in
    let n = c.loop-route.route-index in
    let q = get_or routes n absent_route in
    let next = λ (m : Message). next_sent q m before.desk.log in
    let same = c.in_ok-copy.ensures in
    let log = e.log ∙ ap (λ m. before.desk.log ++ next m ∷ []) same in
    let trace = subst (λ m. AddsEntry before.desk (next m) c.send_on.new.worker.desk) same e.trace in
    record {
      consistent = e.consistent;
      same = same_then c.args.worker.now before c.send_on.new.worker i.same e.same;
      each = λ port started.
          sent_on_more port c.args.message.now routes n absent_route q c.args.worker.now.desk.log before.desk.log c.send_on.new.worker.desk.log
          (i.each port started) c.loop-route-test.true refl log trace;
    }
