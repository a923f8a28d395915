-- The text of a report and its trace, and which reports have them.
use Rattle.std.specs.Prelude.{◌≡◌, ℕ, List, ◌++◌, Some, All, codes, length, slice_get}
use Rattle.std.specs.List.{flat_map}
use Rattle.tp_common.specs.declared.event.Env.{Env}
use Rattle.tp_value.specs.declared.message.Message.{Message}
use Rattle.tp_config.specs.declared.port_type.CompId.{CompId}
use Rattle.tp_config.specs.Setup.{Setup, IsComponent, IsPort, ports_at}
use Rattle.tp_play.specs.TestCases.{Made}
use Rattle.tp_inbox.specs.declared.entry.Entry.{Entry}
use Rattle.tp_inbox.specs.declared.entry.Entry.TheVariants as entry
use Rattle.tp_inbox.specs.Desks.{Journal}
use Rattle.tp_report.specs.declared.report.CompReport.{CompReport}
use Rattle.tp_report.specs.declared.report.Report.{Report}
use Rattle.tp_report.specs.declared.telling.Telling.{Telling}
use Rattle.tp_report.specs.declared.telling.Telling.TheVariants as telling
use Rattle.tp_report.specs.Lines.{component_port, sender_of, heading, entry_text, end_text, verdict_line, left_below}

-- one component: its name, what its behaviour did, how it ended, its verdict, and what is left at its ports
unfoldable pub component_text : Telling → Made → CompReport → List ℕ
component_text how made x =
    heading made x.desk.comp
    ++ (flat_map (entry_text how made x.desk.comp) x.desk.log
    ++ (end_text x.ending
    ++ (verdict_line (codes "verdict") x.verdict
    ++ left_below made x.desk x.desk.ports)))

-- the text of a report or of its trace: the components in their order, and the overall verdict; an arrival has a line
-- only in the trace
unfoldable pub told_text : Telling → Made → Report → List ℕ
told_text how made report =
    flat_map (component_text how made) report.components.items ++ verdict_line (codes "result") report.result

-- **the text of a report**, in which no arrival has a line
abbrev pub report_text : Made → Report → List ℕ
report_text = told_text telling.Report

-- the port of the component and the sender of the message there belong to the configuration
abbrev pub AreOf : Setup → CompId → ℕ → Env Message → Type 0
AreOf s c port e = IsPort s (component_port c port) × IsComponent s (sender_of e)

-- everything that an entry of the component names belongs to the configuration: the receiving port of its route, its
-- port, its sender
abbrev pub IsKnown : Setup → CompId → Entry → Type 0
IsKnown s c (entry.Arrive port stamp e) = AreOf s c port e
IsKnown s c (entry.Took port branch e) = AreOf s c port e
IsKnown s c (entry.Found port branch e) = AreOf s c port e
IsKnown s c (entry.Dropped port branch e) = AreOf s c port e
IsKnown s c (entry.Cleared port) = IsPort s (component_port c port)
IsKnown s c (entry.Started port) = IsPort s (component_port c port)
IsKnown s c (entry.Stopped port) = IsPort s (component_port c port)
IsKnown s c (entry.Halted port) = IsPort s (component_port c port)
IsKnown s c (entry.Sent route number stamped) = IsPort s route.to
IsKnown s c entry.Else = Unit {0}
IsKnown s c (entry.Verdict v) = Unit {0}
IsKnown s c (entry.Failed fault) = Unit {0}

-- the desk is that of the component, and everything that its entries name belongs to the configuration
pub record IsDeskIn (s : Setup) (c : CompId) (d : Journal) : Type 0 where
  pub comp : d.comp ≡ c
  pub ports : d.ports ≡ length (ports_at s.types s.components c)
  pub known : All (IsKnown s c) d.log

-- the part of a report belongs to a component of the configuration, and has its desk
abbrev pub IsPresent : Setup → CompReport → Type 0
IsPresent s x = IsComponent s x.desk.comp × IsDeskIn s x.desk.comp x.desk

-- each part of the report has the desk of the component at its place
abbrev pub AreOwn : Setup → List CompReport → Type 0
AreOwn s xs = (c : CompId) (x : CompReport) → slice_get xs c.0 ≡ Some x → IsDeskIn s c x.desk

-- the report has a text: it has the components of the configuration in their order, each with its own desk, and every
-- route, port and sender in its entries is one of the configuration
pub record IsReportable (s : Setup) (report : Report) : Type 0 where
  pub everyone : length report.components.items ≡ length s.components
  pub each : AreOwn s report.components.items
