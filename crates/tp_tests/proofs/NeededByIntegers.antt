-- An integer needs no loop variable.
use Rattle.std.proofs.Common.{◌≡◌, ℕ, ℤ, sym, ap, ◌∙◌}
use Rattle.tp_play.specs.declared.body.SendValue.TheVariants as w
use Rattle.tp_play.specs.declared.body.SendValue.TheOpen as v
use Rattle.tp_play.specs.declared.body.SendValue.TheFolds.{fold-roll-SendValue}
use Rattle.tp_play.specs.Fills.{needed_step, needed}

pub needed_int : (z : ℤ) → needed (w.Int z) ≡ 0
unfolding needed
needed_int z = ap needed (sym (w.rolls-Int z)) ∙ fold-roll-SendValue ℕ needed_step (v.Int z)
