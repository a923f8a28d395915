-- A component has as many ports as its type declares.
use Rattle.std.proofs.Common.{◌∙◌, ap, length, sym}
use Rattle.tp_config.proofs.PortLookupByFields.{length_ports}
use Rattle.tp_config.proofs.component.port_count.Goals as goal

pub returns-in-Some : goal.returns-in-Some
returns-in-Some c = c.len.ensures.len ∙ sym (length_ports c.in-Some.comp_type.now) ∙ ap length c.in-Some.ensures
