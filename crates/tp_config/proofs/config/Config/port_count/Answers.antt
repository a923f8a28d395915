-- A component has as many ports as its type in the configuration that contracts see.
use Rattle.std.proofs.Common.{◌∙◌, ap, length}
use Rattle.tp_config.proofs.ComponentAndPortLookups.{seen_ports}
use Rattle.tp_config.proofs.config.Config.port_count.Goals as goal

pub returns : goal.returns
returns c =
    let i = c.self.inside in
    c.port_count.ensures ∙ ap length (seen_ports _ _ _ _ i.connected.items i.mapped.items c.args.self.now c.args.comp
    c.as_slice.ensures.value c.as_slice-2.ensures.value c.self.view_is)
