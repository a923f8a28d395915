-- The refusals that report the faults of sends.
use Rattle.tp_common.specs.declared.refusal.Refusal.{Refusal}
use Rattle.tp_common.specs.declared.refusal.Refusal.TheVariants as refusal
use Rattle.tp_config.specs.Faults.{route_refusal}
use Rattle.tp_inbox.specs.declared.send_fault.SendFault.{SendFault}
use Rattle.tp_inbox.specs.declared.send_fault.SendFault.TheVariants as send_fault

-- the refusal for a send that can't be executed
abbrev pub send_refusal : SendFault → Refusal
send_refusal send_fault.NotSending = refusal.NotSending
send_refusal send_fault.UnsetVariable = refusal.UnsetVariable
send_refusal (send_fault.Unrouted f) = route_refusal f
