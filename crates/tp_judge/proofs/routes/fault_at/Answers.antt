-- Which rule is broken, by the number of what came.
use Rattle.std.proofs.Common.{◌≡◌, ◌≢◌, Some, ap, sym, ◌∙◌, arith}
use Rattle.std.proofs.lemmas.Option.{slice_get_within}
use Rattle.std.specs.Prelude.{slice_get}
use Rattle.tp_judge.specs.LinesByNumber.{lines_at}
use Rattle.tp_judge.specs.Delivered.{parcels, invented, changed}
use Rattle.tp_judge.proofs.LinesNameOneParcel.{named_within}
use Rattle.tp_judge.proofs.UnlawfulRouteExclusions.{doubled_here, first_arrival, same_parcel}
use Rattle.tp_judge.proofs.routes.fault_at.Goals as goal

pub returns-then-parcel-sent : goal.returns-then-parcel-sent
returns-then-parcel-sent c =
    invented c.parcel_at-parcel.result c.told_at.ensures.rule c.told_at.ensures.told c.parcel_at-parcel.ensures
    (λ j q at same.
    let number = c.requires.numbered j q at in
    let within = named_within c.args.sent.now c.requires.sent j q at in
    let past = c.if-parcel-sent.true in
    omega arith)

pub returns-then-parcel-place : goal.returns-then-parcel-place
returns-then-parcel-place c =
    let parcel = c.parcel_at-parcel.result in
    doubled_here (lines_at c.args.sent.now) (lines_at c.args.came.now) c.args.place parcel c.told_at-then-parcel-place.result
    c.requires.numbered c.requires.differs.before c.told_at-then-parcel-place.ensures.rule c.told_at-then-parcel-place.ensures.told
    c.parcel_at-parcel.ensures (slice_get_within (parcels (lines_at c.args.came.now)) c.args.place parcel c.parcel_at-parcel.ensures)
    c.if-parcel-place.true

pub returns-then-ne : goal.returns-then-ne
returns-then-ne c =
    let parcel = c.parcel_at-parcel.result in
    let sent = c.parcel_at-original.result in
    let number = c.requires.numbered parcel.number sent c.parcel_at-original.ensures in
    let first = first_arrival (lines_at c.args.sent.now) (lines_at c.args.came.now) c.args.place c.args.place sent.number parcel
    c.requires.numbered c.requires.differs.before (let high = c.if-parcel-place.false in omega arith)
    c.parcel_at-parcel.ensures (sym number) (λ j q high low at. absurd (omega arith)) in
    changed parcel.number parcel sent c.told_at-then-ne.ensures.rule c.told_at-then-ne.ensures.told
    c.parcel_at-original.ensures first
    (λ message. let same = same_parcel sent parcel number message in grind (arith, c.ne.ensures, c.if-ne.true, same))

pub overtaken_at-requires-clause-overtaken : goal.overtaken_at-requires-clause-overtaken
overtaken_at-requires-clause-overtaken c =
    let parcel = c.parcel_at-parcel.result in
    let same : c.parcel_at-original.result ≡ parcel = grind (arith, c.ne.ensures, c.if-ne.false) in
    let there = c.parcel_at-original.ensures ∙ ap Some same in
    let other : c.args.place ≢ parcel.number =
    λ e. c.requires.differs.here (ap (slice_get (parcels (lines_at c.args.sent.now))) e ∙ there ∙ sym c.parcel_at-parcel.ensures) in
    let high = c.if-parcel-place.false in
    (parcel.number, parcel, omega arith, there, c.parcel_at-parcel.ensures)

pub overtaken_at-requires-clause-within : goal.overtaken_at-requires-clause-within
overtaken_at-requires-clause-within c =
    let low = c.if-parcel-sent.false in
    let high = c.if-parcel-place.false in
    omega arith
