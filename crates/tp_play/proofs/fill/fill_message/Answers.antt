-- What has its type whatever integers the loop variables hold has it: they hold integers of 64 bits.
use Rattle.std.proofs.Common.{sym, subst}
use Rattle.tp_value.specs.HasType.{HasType}
use Rattle.tp_play.proofs.fill.fill_message.Goals as goal

pub returns-clause-typed : goal.returns-clause-typed
returns-clause-typed c types always = subst (HasType types c.args.message.now.ty) (sym c.in_ok-value.ensures) (always c.args.turns.now c.read_integers.ensures)
