-- No parcel is after the last line.
use Rattle.std.proofs.Common.{arith}
use Rattle.tp_judge.proofs.LinesNameOneParcel.{named_within}
use Rattle.tp_judge.proofs.routes.misnumbered.Goals as goal

pub returns-clause-numbered : goal.returns-clause-numbered
returns-clause-numbered c =
    λ k p at.
    let within = named_within c.args.sent.now c.requires k p at in
    let done = c.loop-place-test.false in
    c.loop-place.invariant k p (omega arith) at
