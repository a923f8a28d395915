-- So it is in a report.
use Rattle.tp_exec.proofs.CausalDelivery.{delivery_is_causal}
use Rattle.tp_exec.proofs.laws.delivery_is_causal.Goals as goal

pub returns : goal.returns
returns c = delivery_is_causal
