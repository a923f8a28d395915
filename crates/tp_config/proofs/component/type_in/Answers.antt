-- A component has the ports of its type, and one that isn't there has none.
use Rattle.std.proofs.Common.{◌∙◌, ap, sym}
use Rattle.std.specs.Option.{option_copied}
use Rattle.tp_config.proofs.PortLookupByFields.{ports_none, ports_some}
use Rattle.tp_config.proofs.component.type_in.Goals as goal

pub returns-in_default : goal.returns-in_default
returns-in_default c = ports_none _ _ _ (sym c.component_at.ensures ∙ ap option_copied c.in_default.is)

pub returns : goal.returns
returns c =
    ports_some _ _ _ c.in-Some.component.now _ (sym c.component_at.ensures ∙ ap option_copied c.in-Some.is) c.type_at.ensures
