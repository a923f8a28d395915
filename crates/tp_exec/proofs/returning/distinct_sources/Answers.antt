-- With each turn one route more is looked at, up to the last.
use Rattle.std.proofs.Common.{◌≡◌, ◌+◌, length, ap, ◌∙◌, arith}
use Rattle.std.proofs.lemmas.List.{take_all}
use Rattle.tp_inbox.specs.Routed.{sources_of}
use Rattle.tp_exec.proofs.RoutesBySourceComponent.{next_source}
use Rattle.tp_exec.proofs.returning.distinct_sources.Goals as goal

pub loop-place-init : goal.loop-place-init
loop-place-init c = c.new-seen.ensures.empty

pub loop-place-preserved : goal.loop-place-preserved
loop-place-preserved c =
    let n = c.loop-place.place in
    next_source c.args.routes.now n (n + 1) c.loop-place.seen.keys c.insert.new.self.keys c.loop-place-test.true (omega arith) c.loop-place.invariant
    c.in_ok-insert.ensures.keys

pub returns : goal.returns
returns c =
    let rs = c.args.routes.now in
    let whole : c.loop-place.place ≡ length rs = omega (arith, c.loop-place.auto.place-end, c.loop-place-test.false) in
    c.in_ok-sources.ensures.items ∙ c.as_slice.ensures.keys ∙ c.loop-place.invariant
    ∙ ap sources_of (take_all c.loop-place.place rs (omega (arith, whole)))
