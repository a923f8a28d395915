-- The bytes of a component's name are its text.
use Rattle.std.proofs.Common.{◌∙◌}
use Rattle.tp_report.proofs.ComponentAndPortNames.{component_is}
use Rattle.tp_report.proofs.words.component_name.Goals as goal

pub returns : goal.returns
returns c = c.as_bytes.ensures.value ∙ component_is c.args.config.now c.args.comp c.name.result.now c.name.ensures
