-- The kinds of entries, for an order of all entries.
use Rattle.std.specs.Prelude.{◌≡◌, ◌≤◌, ℕ, List, [], length, map}
use Rattle.std.proofs.Common.{ap, ◌∙◌, sym, subst}
use Rattle.std.proofs.lemmas.List.{get_or_past, length-map}
use Rattle.tp_inbox.specs.declared.entry.Entry.{Entry}
use Rattle.tp_inbox.specs.declared.entry.Entry.TheVariants as entry
use Rattle.tp_report.specs.declared.report.CompReport.{CompReport}
use Rattle.tp_judge.specs.declared.kind.EntryKind.{EntryKind}
use Rattle.tp_judge.specs.declared.kind.EntryKind.TheVariants as kind
use Rattle.tp_judge.specs.Kinds.{Kinds}
use Rattle.tp_exec.specs.OneOrder.{log_in, logs_of}

-- the kind of an entry of the component of this number
abbrev pub kind_of : ℕ → Entry → EntryKind ℕ
kind_of c (entry.Arrive port stamp env) = kind.Came env.sender
kind_of c (entry.Sent r number m) = kind.Sent r.to.comp.0 c
kind_of c (entry.Verdict v) = kind.Quiet
kind_of c (entry.Failed fault) = kind.Quiet
kind_of c (entry.Took port branch env) = kind.Looked
kind_of c (entry.Found port branch env) = kind.Looked
kind_of c (entry.Dropped port branch env) = kind.Looked
kind_of c (entry.Cleared port) = kind.Looked
kind_of c (entry.Started port) = kind.Looked
kind_of c (entry.Stopped port) = kind.Looked
kind_of c (entry.Halted port) = kind.Looked
kind_of c entry.Else = kind.Looked

-- the kinds of the entries of these histories
abbrev pub kinds_of : List (List Entry) → Kinds ℕ
kinds_of logs c = map (kind_of c) (log_in logs c)

-- a component that doesn't exist has an empty history
pub no_more : (components : List CompReport) (c : ℕ) → length components ≤ c → kinds_of (logs_of components) c ≡ []
no_more components c past =
    let P : ℕ → Type 0 = λ n. n ≤ c in
    let beyond = subst P (sym (length-map components (λ (x : CompReport). x.desk.log))) past in
    ap (λ k. map (kind_of c) k) (get_or_past (logs_of components) c [] beyond)
