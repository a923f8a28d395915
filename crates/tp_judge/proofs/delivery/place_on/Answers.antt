-- The rows of the route are its lines.
use Rattle.std.proofs.Common.{Some, ap, sym, ◌∙◌}
use Rattle.std.proofs.lemmas.List.Elements.{All-same}
use Rattle.std.proofs.lemmas.Option.{slice_get-get_or}
use Rattle.tp_judge.specs.Delivered.{NamesParcel}
use Rattle.tp_judge.specs.LinesByNumber.{lines_at}
use Rattle.tp_judge.proofs.RouteLinesNameParcels.{names_sent, names_came, route_found}
use Rattle.tp_judge.proofs.delivery.place_on.Goals as goal

pub route_place-requires-clause-sent : goal.route_place-requires-clause-sent
route_place-requires-clause-sent c =
    All-same NamesParcel _ _
    (ap lines_at c.deref.ensures.value ∙ ap (λ v. lines_at v.items) c.index-2.ensures
    ∙ c.requires.rows.sent_are.each c.args.route c.index-2.result.now c.requires.route)
    (names_sent c.args.route c.args.trace.now.lines.items)

pub route_place-requires-clause-came : goal.route_place-requires-clause-came
route_place-requires-clause-came c =
    All-same NamesParcel _ _
    (ap lines_at c.deref-2.ensures.value ∙ ap (λ v. lines_at v.items) c.index-3.ensures
    ∙ c.requires.rows.came_are.each c.args.route c.index-3.result.now c.requires.route)
    (names_came c.args.route c.args.trace.now.lines.items)

pub returns : goal.returns
returns c =
    route_found c.args.trace.now c.args.route _ _ c.route_place.result
    (ap lines_at c.deref.ensures.value ∙ ap (λ v. lines_at v.items) c.index-2.ensures
    ∙ c.requires.rows.sent_are.each c.args.route c.index-2.result.now c.requires.route)
    (ap lines_at c.deref-2.ensures.value ∙ ap (λ v. lines_at v.items) c.index-3.ensures
    ∙ c.requires.rows.came_are.each c.args.route c.index-3.result.now c.requires.route)
    (slice_get-get_or c.args.trace.now.joined.items c.args.route c.index.result.now c.requires.route
    ∙ ap Some (sym c.index.ensures ∙ c.if-not-index.false))
    c.route_place.ensures
