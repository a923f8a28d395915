-- The lines of a report, kind by kind.
use Rattle.std.specs.Prelude.{ℕ, zero, suc, List, [], ◌∷◌, ◌++◌, codes}
use Rattle.std.specs.List.{flat_map}
use Rattle.std.specs.Fmt.{decimal}
use Rattle.tp_common.specs.Label.{label}
use Rattle.tp_common.specs.declared.event.Env.{Env}
use Rattle.tp_queue.specs.History.{queued}
use Rattle.tp_value.specs.declared.message.Message.{Message}
use Rattle.tp_value.specs.declared.verdict.Verdict.{Verdict}
use Rattle.tp_config.specs.declared.port_type.CompId.{CompId}
use Rattle.tp_config.specs.declared.port_type.PortRef.{PortRef}
use Rattle.tp_config.specs.declared.port_type.RouteId.{RouteId}
use Rattle.tp_play.specs.TestCases.{Made}
use Rattle.tp_inbox.specs.declared.entry.Entry.{Entry}
use Rattle.tp_inbox.specs.declared.entry.Entry.TheVariants as entry
use Rattle.tp_inbox.specs.Desks.{Journal, at_port}
use Rattle.tp_inbox.specs.declared.ending.End.{End}
use Rattle.tp_inbox.specs.declared.ending.End.TheVariants as ending
use Rattle.tp_inbox.specs.declared.send_fault.SendFault.{SendFault}
use Rattle.tp_inbox.specs.Faults.{send_refusal}
use Rattle.tp_report.specs.declared.telling.Telling.{Telling}
use Rattle.tp_report.specs.declared.telling.Telling.TheVariants as telling
use Rattle.tp_report.specs.ReportWords.{line, component_name, port_name, full_name, message_text, verdict_word}

-- a component
abbrev pub heading : Made → CompId → List ℕ
heading made c = line (codes "component" ∷ component_name made.config c ∷ [])

-- a word and a verdict
abbrev pub verdict_line : List ℕ → Verdict → List ℕ
verdict_line word v = line (word ∷ verdict_word v ∷ [])

-- a word and the number of the refusal by which a send failed
abbrev pub failure_line : List ℕ → SendFault → List ℕ
failure_line word fault = line (word ∷ decimal (label (send_refusal fault)).0 ∷ [])

-- a word and a port of the component itself
abbrev pub port_line : Made → List ℕ → PortRef → List ℕ
port_line made word p = line (word ∷ port_name made.config p ∷ [])

-- the component that sent the envelope
abbrev pub sender_of : Env Message → CompId
sender_of e = record { 0 = e.sender }

-- a word, a port of the component itself, and a message there: the sender, its number and the message
abbrev pub envelope_line : Made → List ℕ → PortRef → Env Message → List ℕ
envelope_line made word p e =
    line (word ∷ port_name made.config p ∷ component_name made.config (sender_of e) ∷ decimal e.number
    ∷ message_text made.types e.msg ∷ [])

-- what was sent: the receiving component and port, the number and the message
abbrev pub sent_line : Made → RouteId → ℕ → Message → List ℕ
sent_line made r number m =
    line (codes "sent" ∷ full_name made.config r.to ∷ decimal number ∷ message_text made.types m ∷ [])

-- a port of a component
abbrev pub component_port : CompId → ℕ → PortRef
component_port c port = record { comp = c; port = port }

-- an arrival at a port: no line in a report, and one in a trace
abbrev pub arrival_text : Telling → Made → PortRef → Env Message → List ℕ
arrival_text telling.Report made p e = []
arrival_text telling.Trace made p e = envelope_line made (codes "came") p e

-- an entry of a component's history: one line, but for an arrival only in a trace
abbrev pub entry_text : Telling → Made → CompId → Entry → List ℕ
entry_text how made c (entry.Sent route number stamped) = sent_line made route number stamped.message
entry_text how made c (entry.Took port branch e) = envelope_line made (codes "took") (component_port c port) e
entry_text how made c (entry.Found port branch e) = envelope_line made (codes "found") (component_port c port) e
entry_text how made c (entry.Dropped port branch e) = envelope_line made (codes "dropped") (component_port c port) e
entry_text how made c (entry.Cleared port) = port_line made (codes "cleared") (component_port c port)
entry_text how made c (entry.Started port) = port_line made (codes "started") (component_port c port)
entry_text how made c (entry.Stopped port) = port_line made (codes "stopped") (component_port c port)
entry_text how made c (entry.Halted port) = port_line made (codes "halted") (component_port c port)
entry_text how made c entry.Else = line (codes "else" ∷ [])
entry_text how made c (entry.Verdict v) = verdict_line (codes "set") v
entry_text how made c (entry.Failed fault) = failure_line (codes "failed") fault
entry_text how made c (entry.Arrive port stamp e) = arrival_text how made (component_port c port) e

-- how the behaviour ended
abbrev pub end_text : End → List ℕ
end_text ending.Done = line (codes "end" ∷ codes "done" ∷ [])
end_text (ending.Error fault) = failure_line (codes "end error") fault
end_text ending.Waiting = line (codes "end" ∷ codes "waiting" ∷ [])

-- what is left at a port, the oldest first
unfoldable pub left_at : Made → Journal → ℕ → List ℕ
left_at made d port =
    flat_map (envelope_line made (codes "left") (component_port d.comp port)) (queued (at_port d port))

-- what is left at the first n ports, in declared order
abbrev pub left_below : Made → Journal → ℕ → List ℕ
left_below made d zero = []
left_below made d (suc n) = left_below made d n ++ left_at made d n
