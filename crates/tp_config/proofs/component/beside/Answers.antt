-- Nothing stands beside the port of a component that isn't there.
use Rattle.std.proofs.Common.{◌∙◌, ap, sym}
use Rattle.std.specs.Option.{option_copied}
use Rattle.tp_config.proofs.StoredPortLinks.{links_none}
use Rattle.tp_config.proofs.component.beside.Goals as goal

pub returns-in-None : goal.returns-in-None
returns-in-None c = links_none _ c.args.p (sym c.component_at.ensures ∙ ap option_copied c.in-None.is)
