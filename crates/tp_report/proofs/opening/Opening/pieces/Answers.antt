-- The component of a port is one of the configuration.
use Rattle.std.proofs.Common.{subst}
use Rattle.tp_report.specs.LineOpenings.{NamesKnown}
use Rattle.tp_report.proofs.ComponentAndPortNames.{component_of}
use Rattle.tp_report.proofs.opening.Opening.pieces.Goals as goal

pub component_name-requires : goal.component_name-requires
component_name-requires c =
    component_of c.args.config.now c.in-Sent.to (subst (NamesKnown c.args.config.now) c.in-Sent.is c.requires)
