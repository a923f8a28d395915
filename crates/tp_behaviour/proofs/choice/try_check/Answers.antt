-- What was found is what the branch wants.
use Rattle.std.proofs.Common.{refl, rules}
use Rattle.tp_behaviour.proofs.choice.try_check.Goals as goal

pub returns-in-Some : goal.returns-in-Some
returns-in-Some c = (c.in-Some.field-0.now, refl, search rules, search rules)
