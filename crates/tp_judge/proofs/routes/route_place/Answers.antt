-- What came is what was sent, or there is a place.
use Rattle.std.proofs.Common.{length, ◌∙◌, arith}
use Rattle.tp_judge.specs.LinesByNumber.{lines_at}
use Rattle.tp_judge.specs.Delivered.{different, numbering, parcels}
use Rattle.tp_judge.proofs.LinesNameOneParcel.{length-parcels, length-seen, named_there, named_within}
use Rattle.tp_judge.proofs.UnlawfulRouteExclusions.{lost_behind, same_lists}
use Rattle.tp_judge.proofs.routes.route_place.Goals as goal

pub returns-in-Some : goal.returns-in-Some
returns-in-Some c = numbering c.in-Some.place c.told_at.ensures.rule c.told_at.ensures.told c.in-Some.ensures.numbered

pub returns-in-Some-first_difference : goal.returns-in-Some-first_difference
returns-in-Some-first_difference c =
    different c.in-Some-first_difference.place c.in_default.ensures.numbered c.in-Some-first_difference.ensures.differs c.fault_at.ensures

pub returns-then-came-sent : goal.returns-then-came-sent
returns-then-came-sent c =
    let sent = lines_at c.args.sent.now in
    let came = lines_at c.args.came.now in
    let size = length-seen c.args.sent.now in
    let short = c.if-came-sent.true in
    let there = named_there sent c.requires.sent (length c.args.came.now) (omega arith) in
    lost_behind sent came (length c.args.came.now) there.0 c.told_at-then-came-sent.result c.in_default.ensures.numbered
    c.in_default-first_difference.ensures.differs c.told_at-then-came-sent.ensures.rule c.told_at-then-came-sent.ensures.told
    there.1
    (λ j p at. named_within c.args.came.now c.requires.came j p at)

pub returns : goal.returns
returns c =
    let sent = lines_at c.args.sent.now in
    let came = lines_at c.args.came.now in
    let short = c.if-came-sent.false in
    let first = length-parcels sent c.requires.sent ∙ length-seen c.args.sent.now in
    let second = length-parcels came c.requires.came ∙ length-seen c.args.came.now in
    record {
      same = same_lists (parcels sent) (parcels came)
          (λ k below. c.in_default-first_difference.ensures.differs k (omega arith)) (omega arith);
      numbered = c.in_default.ensures.numbered;
    }
