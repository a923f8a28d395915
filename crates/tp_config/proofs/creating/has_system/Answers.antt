-- The components have the roles that contracts see.
use Rattle.std.proofs.Common.{◌∙◌}
use Rattle.tp_config.proofs.FieldsWithNewComponent.{roles_made}
use Rattle.tp_config.proofs.creating.has_system.Goals as goal

pub returns : goal.returns
returns c = c.any_system.ensures ∙ roles_made c.args.components.now
