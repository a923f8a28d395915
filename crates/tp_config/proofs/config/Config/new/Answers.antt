-- A configuration with no component and no pair is allowed.
use Rattle.tp_config.proofs.InvariantsAfterNewComponent.{keeps_empty}
use Rattle.tp_config.proofs.config.Config.new.Goals as goal

pub invariant_of-result : goal.invariant_of-result
invariant_of-result c = rw (c.new.ensures.items, c.new-2.ensures.items, c.new-3.ensures.items) (keeps_empty c.args.types.items c.requires)

pub returns-clause-lawful : goal.returns-clause-lawful
returns-clause-lawful c = (invariant_of-result c).setup
