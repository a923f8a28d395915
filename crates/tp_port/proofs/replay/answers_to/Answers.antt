-- Each line is carried out and answered, and with the last the whole text is.
use Rattle.std.proofs.Common.{◌≡◌, ◌∙◌, arith, length, refl}
use Rattle.std.proofs.lemmas.Bool.Decides.{nat_tests}
use Rattle.tp_port.specs.Replay.{after, first_progress}
use Rattle.tp_port.proofs.LineAnswersFromFront.{Goes-first, Goes-more, Goes-end}
use Rattle.tp_port.proofs.replay.answers_to.Goals as goal

pub loop-rest-init : goal.loop-rest-init
loop-rest-init c =
    record {
      fits = omega arith;
      within = record {
        arrivals = omega (arith, c.new-engine.ensures.within.arrivals);
        senders = omega (arith, c.new-engine.ensures.within.senders);
      };
      goes = (first_progress, c.new-engine.ensures.progress, Goes-first _ _ _ refl c.new-engine.ensures.answers);
    }

pub loop-rest-preserved : goal.loop-rest-preserved
loop-rest-preserved c =
    let come = c.loop-rest.invariant.goes in
    record {
      fits = omega (arith, c.loop-rest.invariant.fits, c.first_line.ensures.shorter);
      within = record {
        arrivals = omega (arith, c.in-Ok.ensures.arrivals, c.loop-rest.invariant.within.arrivals, c.loop-rest.invariant.fits, c.first_line.ensures.shorter);
        senders = omega (arith, c.in-Ok.ensures.senders, c.loop-rest.invariant.within.senders, c.loop-rest.invariant.fits, c.first_line.ensures.shorter);
      };
      goes = (
        after come.0 _,
        c.in-Ok.ensures.progress come.0 come.1,
        Goes-more _ _ _ _ _ _ _ _ _ c.first_line.ensures.lines c.in-Some.ensures refl (c.in-Ok.ensures.answers come.0 come.1) come.2,
      );
    }

pub returns-in-Ok-finish-clause-ok : goal.returns-in-Ok-finish-clause-ok
returns-in-Ok-finish-clause-ok c =
    let none : length c.loop-rest.rest.now ≡ 0 = grind (arith, nat_tests) in
    let come = c.loop-rest.invariant.goes in
    let whole = Goes-end _ _ _ _ none come.2 in
    (whole.0, whole.1, c.in-Ok-finish.ensures come.0 come.1 ∙ whole.2)
