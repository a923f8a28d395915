-- A message whose place another took: it never comes, or later, or another does with its number.
use Rattle.std.proofs.Common.{◌≡◌, sym, subst, arith}
use Rattle.tp_judge.specs.LinesByNumber.{lines_at}
use Rattle.tp_judge.specs.Delivered.{IsFirstArrival, changed_later, reordered}
use Rattle.tp_judge.proofs.LinesNameOneParcel.{named_within}
use Rattle.tp_judge.proofs.UnlawfulRouteExclusions.{later_arrival, lost_overtaken, same_parcel}
use Rattle.tp_judge.proofs.routes.overtaken_at.Goals as goal

pub returns-in-None : goal.returns-in-None
returns-in-None c =
    lost_overtaken (lines_at c.args.sent.now) (lines_at c.args.came.now) c.args.place c.parcel_at-parcel.result c.told_at.result
    c.requires.numbered c.requires.agrees c.told_at.ensures.rule c.told_at.ensures.told c.parcel_at-parcel.ensures c.in-None.ensures c.requires.overtaken

pub parcel_at-requires-clause-within : goal.parcel_at-requires-clause-within
parcel_at-requires-clause-within c =
    named_within c.args.came.now c.requires.came c.in-Some.later c.in-Some.ensures.parcel c.in-Some.ensures.at

pub told_at-requires-then-ne : goal.told_at-requires-then-ne
told_at-requires-then-ne c =
    named_within c.args.came.now c.requires.came c.in-Some.later c.in-Some.ensures.parcel c.in-Some.ensures.at

pub told_at-requires-in-Some : goal.told_at-requires-in-Some
told_at-requires-in-Some c =
    named_within c.args.came.now c.requires.came c.in-Some.later c.in-Some.ensures.parcel c.in-Some.ensures.at

pub returns-then-ne : goal.returns-then-ne
returns-then-ne c =
    let sent = c.parcel_at-parcel.result in
    let found = later_arrival (lines_at c.args.sent.now) (lines_at c.args.came.now) c.args.place c.in-Some.later sent c.parcel_at.result
    c.requires.numbered c.requires.agrees c.parcel_at-parcel.ensures c.requires.overtaken c.in-Some.ensures c.parcel_at.ensures in
    changed_later c.in-Some.later c.parcel_at.result sent c.told_at-then-ne.ensures.rule c.told_at-then-ne.ensures.told
    c.requires.overtaken c.parcel_at-parcel.ensures found.later found.first
    (λ message. let same = same_parcel sent c.parcel_at.result (sym found.first.is) message in grind (arith, c.ne.ensures, c.if-ne.true, same))

pub returns-else-ne : goal.returns-else-ne
returns-else-ne c =
    let sent = c.parcel_at-parcel.result in
    let found = later_arrival (lines_at c.args.sent.now) (lines_at c.args.came.now) c.args.place c.in-Some.later sent c.parcel_at.result
    c.requires.numbered c.requires.agrees c.parcel_at-parcel.ensures c.requires.overtaken c.in-Some.ensures c.parcel_at.ensures in
    let same : c.parcel_at.result ≡ sent = grind (arith, c.ne.ensures, c.if-ne.false) in
    reordered c.in-Some.later sent c.told_at-in-Some.ensures.rule c.told_at-in-Some.ensures.told c.requires.overtaken
    c.parcel_at-parcel.ensures found.later
    (subst (IsFirstArrival (lines_at c.args.came.now) sent.number c.in-Some.later) same found.first)
