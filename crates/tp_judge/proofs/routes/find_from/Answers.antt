-- No parcel is after the last line.
use Rattle.std.proofs.Common.{arith}
use Rattle.tp_judge.proofs.LinesNameOneParcel.{named_within}
use Rattle.tp_judge.proofs.routes.find_from.Goals as goal

pub returns : goal.returns
returns c =
    λ k p low at.
    let within = named_within c.args.came.now c.requires k p at in
    let done = c.loop-place-test.false in
    c.loop-place.invariant k p low (omega arith) at
