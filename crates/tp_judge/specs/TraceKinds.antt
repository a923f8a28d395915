-- The lines of a trace, as histories by kinds.
use Rattle.std.specs.Prelude.{◌≡◌, ◌≤◌, ◌<◌, ◌==◌, ◌+◌, ℕ, List, [], if◌then◌else◌, length, map, slice_index}
use Rattle.std.specs.Prelude.{slice_index_or}
use Rattle.std.specs.Prelude.{take}
use Rattle.std.proofs.Common.{ap}
use Rattle.std.proofs.lemmas.List.{get_or_past}
use Rattle.tp_judge.specs.declared.kind.EntryKind.{EntryKind}
use Rattle.tp_judge.specs.declared.kind.EntryKind.TheVariants as kind
use Rattle.tp_judge.specs.declared.line.Mention.{Mention}
use Rattle.tp_judge.specs.declared.line.Act.{Act}
use Rattle.tp_judge.specs.declared.line.Act.TheVariants as act
use Rattle.tp_judge.specs.declared.line.IndexedLine.{IndexedLine}
use Rattle.tp_judge.specs.declared.sections.Section.{Section}
use Rattle.tp_judge.specs.declared.trace.IndexedTrace.{IndexedTrace}
use Rattle.tp_judge.specs.Kinds.{Kinds}
use Rattle.tp_judge.specs.OneRun.{LineAt, is_joined}

-- the kind of a component's line, for the order
abbrev pub kind_of : IndexedTrace → Act → EntryKind Mention
kind_of trace (act.Sent m) = if is_joined trace m then kind.Sent (slice_index trace.owners.items m.port) m else kind.Quiet
kind_of trace (act.Came m) = if is_joined trace m then kind.Came m else kind.Nothing
kind_of trace (act.Left m) = kind.Nothing
kind_of trace act.End = kind.Quiet
kind_of trace act.Other = kind.Quiet
kind_of trace _ = kind.Looked

-- the kind of a line in the history of a component: the lines of other components are `Nothing`
abbrev pub kind_in : IndexedTrace → ℕ → IndexedLine → EntryKind Mention
kind_in trace component line = if line.component == component then kind_of trace line.act else kind.Nothing

-- the section of a component that has none
abbrev pub no_section : Section
no_section = record { begin = 0; end = 0 }

abbrev pub section_at : List Section → ℕ → Section
section_at sections component = slice_index_or sections component no_section

-- the history of a component is the lines up to the end of its section
abbrev pub kinds_of : IndexedTrace → List Section → Kinds Mention
kinds_of trace sections component =
    take (section_at sections component).end (map (kind_in trace component) trace.lines.items)

-- the section with one more line at its end
abbrev pub extended : Section → ℕ → Section
extended section place = record { begin = if section.end == 0 then place else section.begin; end = place + 1 }

-- each component's lines before the end are between the ends of its section
pub record AreSections (trace : IndexedTrace) (end : ℕ) (sections : List Section) : Type 0 where
  pub size : length sections ≡ trace.components
  pub begin : (c : ℕ) → (section_at sections c).begin ≤ (section_at sections c).end
  pub within : (c : ℕ) → (section_at sections c).end ≤ end
  pub lines : (place : ℕ) (line : IndexedLine) → place < end → LineAt trace place line
      → ((section_at sections line.component).begin ≤ place) × (place < (section_at sections line.component).end)

-- the history of a component after the end of the list of sections is empty
pub no_more : (trace : IndexedTrace) (sections : List Section) (c : ℕ) → length sections ≤ c → kinds_of trace sections c ≡ []
no_more trace sections c past =
    ap (λ (s : Section). take s.end (map (kind_in trace c) trace.lines.items)) (get_or_past sections c no_section past)
