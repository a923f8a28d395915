-- A configuration is an allowed one at every moment.
use Rattle.std.proofs.Common.{subst}
use Rattle.tp_config.specs.Allowed.{IsSetup}
use Rattle.tp_config.proofs.config.Config.len.Goals as goal

pub returns-clause-lawful : goal.returns-clause-lawful
returns-clause-lawful c = subst IsSetup c.self.view_is c.self.invariant.setup
