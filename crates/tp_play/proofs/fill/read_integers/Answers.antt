-- The next integer has 64 bits too, and at the end none is left.
use Rattle.std.proofs.Common.{pos, get_or, FitsSigned, SFits, w64, All, rules, subst}
use Rattle.std.proofs.lemmas.List.{take_all}
use Rattle.std.proofs.lemmas.List.Elements.{All-more}
use Rattle.tp_play.proofs.fill.read_integers.Goals as goal

pub loop-place-preserved : goal.loop-place-preserved
loop-place-preserved c =
    let fit : SFits w64 (get_or c.args.integers.now c.loop-place.place (pos 0)) = search rules in
    All-more (FitsSigned w64) c.args.integers.now c.loop-place.place (pos 0) c.loop-place-test.true c.loop-place.invariant fit

pub returns : goal.returns
returns c = subst (All (FitsSigned w64)) (take_all c.loop-place.place c.args.integers.now c.loop-place-test.false) c.loop-place.invariant
