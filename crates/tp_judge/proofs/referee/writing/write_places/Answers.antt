-- Each place adds its line.
use Rattle.std.proofs.Common.{get_or}
use Rattle.std.proofs.lemmas.List.{get_or_default}
use Rattle.tp_judge.specs.declared.place.UnlawfulPlace.{UnlawfulPlace}
use Rattle.tp_judge.specs.declared.place.Rule.TheVariants as rule
use Rattle.tp_judge.specs.RulingTexts.{place_text}
use Rattle.tp_common.proofs.WatchedWriterGrowth.{nothing_yet, one_more}
use Rattle.tp_judge.proofs.referee.writing.write_places.Goals as goal

pub loop-place-init : goal.loop-place-init
loop-place-init g c = nothing_yet g.W.Write.contents _

pub loop-place-preserved : goal.loop-place-preserved
loop-place-preserved g c =
    let places = c.args.places.now in
    let at = c.loop-place.place-index in
    let any : UnlawfulPlace = record { line = 0; rule = rule.Stopped } in
    one_more g.W.Write.contents place_text places at (get_or places at any) c.loop-place-test.true
    (get_or_default places at any (get_or places at any) c.loop-place-test.true) _ _ _ c.loop-place.invariant c.write_place.ensures
