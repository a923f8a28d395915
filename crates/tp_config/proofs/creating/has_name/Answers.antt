-- The components have the names that contracts see.
use Rattle.std.proofs.Common.{◌∙◌}
use Rattle.tp_config.proofs.FieldsWithNewComponent.{names_made}
use Rattle.tp_config.proofs.creating.has_name.Goals as goal

pub returns : goal.returns
returns c = c.any_named.ensures ∙ names_made c.args.components.now c.args.name.now
