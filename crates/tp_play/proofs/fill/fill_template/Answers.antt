-- What fits its type whatever integers the loop variables hold fits it: they hold integers of 64 bits.
use Rattle.std.proofs.Common.{sym, subst}
use Rattle.tp_value.specs.Fits.{Fits}
use Rattle.tp_play.proofs.fill.fill_template.Goals as goal

pub returns-in_ok-made-in-Of-clause-fits : goal.returns-in_ok-made-in-Of-clause-fits
returns-in_ok-made-in-Of-clause-fits c =
    rw c.in-Of.is (λ types always. subst (Fits types c.in-Of.ty) (sym c.in_ok-made-in-Of.ensures) (always c.args.turns.now c.read_integers.ensures))
