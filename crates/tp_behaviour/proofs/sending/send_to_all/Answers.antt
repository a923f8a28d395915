-- All routes of the port have senders; where there is no route, that is the cause.
use Rattle.std.proofs.Common.{◌≡◌, ◌∙◌, Contains, arith, get_or, length, subst, sym}
use Rattle.std.specs.Prelude.{vec_len}
use Rattle.std.proofs.lemmas.List.Elements.{Contains-get_or}
use Rattle.std.specs.List.{AllZip}
use Rattle.tp_behaviour.specs.Paths.{IsSentOn}
use Rattle.tp_behaviour.specs.LookOutcomes.{TraceGrew}
use Rattle.tp_behaviour.specs.Workers.{role_of, values_of}
use Rattle.tp_behaviour.proofs.SendOutcomes.{cause_none, no_items, sends_all, some_items}
use Rattle.tp_behaviour.proofs.sending.send_to_all.Goals as goal

pub fail-requires-clause-cause : goal.fail-requires-clause-cause
fail-requires-clause-cause g c =
    let routes = c.in_ok-routes.routes in
    let long : length routes.items ≡ vec_len routes = omega (arith, routes.ok.0) in
    cause_none (role_of c.args.execution.now.task.now) (values_of c.args.frame.now) c.args.sending.now c.args.message.now routes.items c.args.worker.now.desk.log
    c.requires.started c.requires.sent c.requires.all c.in_ok-routes.ensures.routes
    (no_items routes.items (vec_len routes) long (sym c.is_empty.ensures ∙ c.if-is_empty.true))

-- each route from a port of the component has a sender
pub send_on_each-requires-clause-known : goal.send_on_each-requires-clause-known
send_on_each-requires-clause-known g c κs within k d below =
    let xs = c.as_slice.result.now in
    let q = get_or xs k d in
    c.requires.consistent.ends.from_ports c.args.sending.now.port q
    (subst (λ l. Contains l q) (c.as_slice.ensures.value ∙ c.in_ok-routes.ensures.routes) (Contains-get_or xs k d below))

pub returns-clause-sends : goal.returns-clause-sends
returns-clause-sends g c =
    let routes = c.in_ok-routes.routes in
    let x = c.args.sending.now in
    let m = c.args.message.now in
    let before = c.args.worker.now.desk.log in
    let after = c.send_on_each.new.worker.desk.log in
    let long : length routes.items ≡ vec_len routes = omega (arith, routes.ok.0) in
    let each = subst (λ l. TraceGrew (AllZip (IsSentOn x.port m) l) before after) c.as_slice.ensures.value
    (c.in_ok-send_on_each.ensures.each x.port c.requires.started) in
    sends_all (role_of c.args.execution.now.task.now) (values_of c.args.frame.now) x m routes.items before after c.requires.sent c.requires.all
    c.in_ok-routes.ensures.routes
    (some_items routes.items (vec_len routes) long (sym c.is_empty.ensures ∙ c.if-is_empty.false)) each
