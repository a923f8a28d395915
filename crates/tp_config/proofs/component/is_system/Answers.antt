-- The role of its component decides whether a port is one of the test system interface.
use Rattle.std.proofs.Common.{◌∙◌, ap, sym}
use Rattle.std.specs.Option.{option_copied}
use Rattle.tp_config.proofs.PortLookupByFields.{system_some, system_none}
use Rattle.tp_config.proofs.component.is_system.Goals as goal

pub returns-in-Some : goal.returns-in-Some
returns-in-Some c =
    c.is_system.ensures ∙ system_some _ _ c.in-Some.component.now (sym c.component_at.ensures ∙ ap option_copied c.in-Some.is)

pub returns-in-None : goal.returns-in-None
returns-in-None c = system_none _ _ (sym c.component_at.ensures ∙ ap option_copied c.in-None.is)
