-- What an entry names, and so what is left at a port, is of the configuration.
use Rattle.std.proofs.Common.{◌≡◌, ℕ, ◌<◌, ◌==◌, Bool, true, false, cond, List, [], ◌∷◌, Option, Some, None, length, get_or, refl, sym, subst, arith}
use Rattle.std.specs.Prelude.{All, IsSome}
use Rattle.std.specs.List.{filter_map, cons_option}
use Rattle.std.proofs.lemmas.Option.{slice_get-get_or}
use Rattle.std.proofs.lemmas.List.Elements.{All-cons, All-drop, All-head, All-tail}
use Rattle.tp_common.specs.declared.event.Env.{Env}
use Rattle.tp_common.specs.declared.event.Event.{Event}
use Rattle.tp_common.specs.declared.event.Event.TheVariants as event
use Rattle.tp_queue.specs.History.{accepted, arrival, gone, queued}
use Rattle.tp_value.specs.declared.message.Message.{Message}
use Rattle.tp_config.specs.declared.port_type.CompId.{CompId}
use Rattle.tp_config.specs.Setup.{Setup, PortDecl, IsComponent, IsPort, decl_at, ports_at}
use Rattle.tp_inbox.specs.declared.entry.Entry.{Entry}
use Rattle.tp_inbox.specs.declared.entry.Entry.TheVariants as entry
use Rattle.tp_inbox.specs.History.{event_at, history_of}
use Rattle.tp_report.specs.declared.report.CompReport.{CompReport}
use Rattle.tp_report.specs.declared.report.Report.{Report}
use Rattle.tp_report.specs.Lines.{component_port, sender_of}
use Rattle.tp_report.specs.Reports.{IsKnown, IsDeskIn, IsPresent, IsReportable}

module _ (s : Setup) (c : CompId) (port : ℕ) where
  abbrev HasSender : Env Message → Type 0
  HasSender e = IsComponent s (sender_of e)

  arrives : (rest : List (Event Message)) (e : Env Message) → HasSender e → All HasSender (filter_map arrival rest)
      → (b : Bool) → All HasSender (filter_map arrival (cons_option (cond b (Some (event.Arrive e)) None) rest))
  arrives rest e h all true = All-cons HasSender e (filter_map arrival rest) h all
  arrives rest e h all false = all

  other : (rest : List (Event Message)) (v : Event Message) → arrival v ≡ None → All HasSender (filter_map arrival rest)
      → (b : Bool) → All HasSender (filter_map arrival (cons_option (cond b (Some v) None) rest))
  other rest v none all true = subst (λ o. All HasSender (cons_option o (filter_map arrival rest))) (sym none) all
  other rest v none all false = all

  more : (e : Entry) → IsKnown s c e → (rest : List (Event Message)) → All HasSender (filter_map arrival rest)
      → All HasSender (filter_map arrival (cons_option (event_at port e) rest))
  more (entry.Arrive p stamp env) h rest all = arrives rest env h.1 all (port == p)
  more (entry.Took p branch env) h rest all = other rest (event.Took env) refl all (port == p)
  more (entry.Found p branch env) h rest all = other rest (event.Found env) refl all (port == p)
  more (entry.Dropped p branch env) h rest all = other rest (event.Dropped env) refl all (port == p)
  more (entry.Cleared p) h rest all = other rest event.Cleared refl all (port == p)
  more (entry.Started p) h rest all = other rest event.Started refl all (port == p)
  more (entry.Stopped p) h rest all = other rest event.Stopped refl all (port == p)
  more (entry.Halted p) h rest all = other rest event.Halted refl all (port == p)
  more e h rest all = all

  arrived : (k : List Entry) → All (IsKnown s c) k → All HasSender (filter_map arrival (filter_map (event_at port) k))
  arrived [] h = λ i d low. absurd (omega arith)
  arrived (e ∷ k) h = more e (All-head (IsKnown s c) e k h) (filter_map (event_at port) k) (arrived k (All-tail (IsKnown s c) e k h))

  -- the sender of each message that is left
  pub senders : (k : List Entry) → All (IsKnown s c) k → All HasSender (queued (history_of port k))
  unfolding history_of queued accepted
  senders k h = All-drop HasSender (gone (filter_map (event_at port) k)) (filter_map arrival (filter_map (event_at port) k)) (arrived k h)

  is_there : (o : Option PortDecl) (d : PortDecl) → o ≡ Some d → IsSome o
  is_there o d e = subst (λ (p : Option PortDecl). IsSome p) (sym e) refl

  pub port_there : port < length (ports_at s.types s.components c) → IsPort s (component_port c port)
  unfolding decl_at
  port_there h =
      let d : PortDecl = record { name = []; ins = []; outs = [] } in
      is_there _ _ (slice_get-get_or (ports_at s.types s.components c) port d h)

-- each component of a report that has a text
pub present : (s : Setup) (report : Report) → IsReportable s report → All (IsPresent s) report.components.items
present s report h k d low =
    let x : CompReport = get_or report.components.items k d in
    let own : IsDeskIn s (record { 0 = k }) x.desk = h.each (record { 0 = k }) x (slice_get-get_or report.components.items k d low) in
    (subst (IsComponent s) (sym own.comp) (subst (λ n. k < n) h.everyone low), subst (λ (e : CompId). IsDeskIn s e x.desk) (sym own.comp) own)
