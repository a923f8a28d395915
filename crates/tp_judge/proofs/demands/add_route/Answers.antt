-- A route with one end makes no demand; another makes those of its lines.
use Rattle.std.proofs.Common.{◌≡◌, ◌++◌, Some, false, true, ap, sym, subst, ◌∙◌, List, append-nil}
use Rattle.std.specs.Prelude.{OnOk, slice_get}
use Rattle.std.proofs.lemmas.Option.{slice_get-get_or}
use Rattle.tp_judge.specs.declared.demand.Demand.{Demand}
use Rattle.tp_judge.specs.Before.{came_on, sent_on}
use Rattle.tp_judge.specs.Demands.{pairs, route_demands, where_joined}
use Rattle.tp_judge.specs.LinesByNumber.{lines_at}
use Rattle.tp_judge.proofs.demands.add_route.Goals as goal

pub returns-then-not-index : goal.returns-then-not-index
returns-then-not-index c =
    let trace = c.args.trace.now in
    let route = c.args.route in
    let old = c.args.demands.now.items in
    let open' : slice_get trace.joined.items route ≡ Some false =
    slice_get-get_or trace.joined.items route c.index.result.now c.requires.route
    ∙ ap Some (sym c.index.ensures ∙ c.if-not-index.true) in
    sym (ap (λ o. old ++ where_joined o (pairs (sent_on trace route) (came_on trace route))) open' ∙ append-nil old)

pub returns : goal.returns
returns c =
    let trace = c.args.trace.now in
    let route = c.args.route in
    let old = c.args.demands.now.items in
    let joined : slice_get trace.joined.items route ≡ Some true =
    slice_get-get_or trace.joined.items route c.index.result.now c.requires.route
    ∙ ap Some (sym c.index.ensures ∙ c.if-not-index.false) in
    let sent =
    ap lines_at c.deref.ensures.value ∙ ap (λ v. lines_at v.items) c.index-2.ensures
    ∙ c.requires.rows.sent_are.each route c.index-2.result.now c.requires.route in
    let came =
    ap lines_at c.deref-2.ensures.value ∙ ap (λ v. lines_at v.items) c.index-3.ensures
    ∙ c.requires.rows.came_are.each route c.index-3.result.now c.requires.route in
    let is : pairs (lines_at c.deref.result.now) (lines_at c.deref-2.result.now) ≡ route_demands trace route =
    ap (λ l. pairs l (lines_at c.deref-2.result.now)) sent ∙ ap (λ l. pairs (sent_on trace route) l) came
    ∙ sym (ap (λ o. where_joined o (pairs (sent_on trace route) (came_on trace route))) joined) in
    subst (λ (l : List Demand). OnOk c.add_pairs.result (c.add_pairs.new.demands.items ≡ old ++ l)) is c.add_pairs.ensures
