-- Each read takes more off the front of what the reader has, and a failed one takes nothing.
use Rattle.std.proofs.Common.{Some, rules, length-take-le, sym, subst}
use Rattle.std.proofs.lemmas.List.{places}
use Rattle.tp_common.specs.Reading.{EndsAt}
use Rattle.std.proofs.KnownBytes.{Consumes-kept}
use Rattle.tp_common.proofs.ReadBytesAndRoom.{ends_before, taken_more}
use Rattle.tp_common.proofs.text.read_up_to.Goals as goal

pub loop-size-preserved : goal.loop-size-preserved
loop-size-preserved g c =
    let read = c.in-Ok.ensures in
    (read.within, read.most, read.doubled, taken_more _ _ _ c.loop-size.text.items _ _ _ c.loop-size.invariant.3 read.front read.more)

pub returns-in-Err-clause-taken : goal.returns-in-Err-clause-taken
returns-in-Err-clause-taken g c =
    let long = length-take-le c.loop-size.size c.loop-size.text.items (search (rules, places)) in (
      _,
      Consumes-kept _ _ _ _ c.loop-size.invariant.3 c.in-Err.ensures.kept,
      subst (EndsAt c.args.limit (Some c.in-Err.fault)) (sym long) (ends_before c.args.limit _ _ c.loop-size-test.true c.in-Err.ensures.fault c.in-Err.ensures.full),
    )
