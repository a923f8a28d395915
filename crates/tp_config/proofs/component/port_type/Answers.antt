-- A port has the port type that its component's type declares for it.
use Rattle.tp_config.proofs.PortLookupByFields.{types_none, types_entry}
use Rattle.tp_config.proofs.component.port_type.Goals as goal

pub returns-in_default : goal.returns-in_default
returns-in_default c = types_none _ _ c.args.p c.in_default.ensures

pub returns : goal.returns
returns c = types_entry _ _ c.args.p c.in-Some.comp_type.now _ c.in-Some.ensures c.port_at.ensures
