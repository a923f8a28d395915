-- A bad line behind good ones is the first bad one; with no line left, all are good.
use Rattle.std.proofs.Common.{◌≡◌, ◌∙◌, ap, ◌++◌, arith, length}
use Rattle.std.proofs.lemmas.Bool.Decides.{nat_tests}
use Rattle.tp_port.proofs.LineAnswersFromFront.{first_bad_here, good_more, good_all}
use Rattle.tp_port.proofs.replay.first_bad.Goals as goal

pub returns-in-None : goal.returns-in-None
returns-in-None c =
    let d = c.loop-rest.invariant.1 in first_bad_here _ d.0 _ _ _ (d.1 ∙ ap (λ l. d.0 ++ l) c.first_line.ensures.lines) d.3 d.2 c.in-None.ensures

pub loop-rest-preserved : goal.loop-rest-preserved
loop-rest-preserved c =
    let d = c.loop-rest.invariant.1 in
    (omega arith, good_more _ d.0 _ _ _ (d.1 ∙ ap (λ l. d.0 ++ l) c.first_line.ensures.lines) d.3 d.2 (_, c.in-Some.ensures))

pub returns : goal.returns
returns c =
    let d = c.loop-rest.invariant.1 in let none : length c.loop-rest.rest.now ≡ 0 = grind (arith, nat_tests) in good_all _ d.0 c.loop-rest.rest.now none d.1 d.2
