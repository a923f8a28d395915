-- Each of these lines names a parcel.
use Rattle.std.proofs.Common.{sym, ◌∙◌}
use Rattle.tp_judge.specs.LinesByNumber.{lines_at}
use Rattle.tp_judge.proofs.ReferencedLinesGrowth.{seen_at}
use Rattle.tp_judge.proofs.LinesNameOneParcel.{named_at, names_none}
use Rattle.tp_judge.proofs.routes.parcel_at.Goals as goal

pub unreachable-requires : goal.unreachable-requires
unreachable-requires c =
    names_none c.args.lines.now c.requires.names c.args.place _ c.requires.within (sym c.parcel.ensures ∙ c.in-None.is)

pub returns : goal.returns
returns c =
    named_at (lines_at c.args.lines.now) c.requires.names c.args.place _ c.in-Some.parcel
    (seen_at c.args.lines.now c.args.place _ c.requires.within) (sym c.parcel.ensures ∙ c.in-Some.is)
