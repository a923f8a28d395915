-- After what was sent nothing agrees with what came.
use Rattle.std.proofs.Common.{◌∙◌, arith}
use Rattle.std.proofs.lemmas.Bool.{false≢true}
use Rattle.tp_judge.proofs.LinesNameOneParcel.{named_within}
use Rattle.tp_judge.proofs.routes.agrees.Goals as goal

pub returns-then-place-sent : goal.returns-then-place-sent
returns-then-place-sent c =
    let past = c.if-place-sent.true in (
      λ is. absurd (false≢true is),
      λ same.
          let within = named_within c.args.sent.now c.requires.sent c.args.place c.parcel_at-parcel.result
          (same ∙ c.parcel_at-parcel.ensures) in
          absurd (omega arith),
    )
