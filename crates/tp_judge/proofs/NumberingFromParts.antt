-- The parts of a numbering, put together.
use Rattle.std.proofs.Common.{◌≡◌, ◌+◌, ◌≤◌, Bool, List, length, map}
use Rattle.std.specs.List.{AllZip}
use Rattle.tp_judge.specs.LineTexts.{Told}
use Rattle.tp_judge.specs.declared.trace.IndexedTrace.{IndexedTrace}
use Rattle.tp_judge.specs.Lawful.{AreLinesRouted, AreWithin}
use Rattle.tp_judge.specs.declared.referee.tables.PortKey.{PortKey}
use Rattle.tp_judge.specs.declared.referee.tables.Tables.{Tables}
use Rattle.tp_judge.specs.Numbering.{AreTablesDistinct, IsLine, IsNumberingOf, stands_of}
use Rattle.tp_judge.specs.Joining.{AreJoinedBy, AreSections}
use Rattle.tp_judge.specs.Turns.{IsWhole}
use Rattle.tp_judge.proofs.JoinedRoutes.{joined_routes}
use Rattle.tp_judge.proofs.LinesNameRouteEnds.{numbering_routed}
use Rattle.tp_judge.proofs.LineNumbersWithinCounts.{numbering_within}
use Rattle.tp_judge.proofs.ZippedPrefixGrowth.{zip_length}

-- what the functions have made of these lines
pub record Made (tolds : List Told) (t : Tables) (sections : List Bool) (trace : IndexedTrace) : Type 0 where
  pub few : length tolds ≤ 268435456
  pub distinct : AreTablesDistinct t
  pub whole : IsWhole t
  pub lines : AllZip (IsLine t) (stands_of tolds) trace.lines.items
  pub sections_are : AreSections tolds t.components sections
  pub owners : trace.owners.items ≡ map (λ (port : PortKey). port.component) t.ports.keys
  pub joined : AreJoinedBy trace.owners.items sections t.routes.keys trace.joined.items
  pub components : trace.components ≡ length t.components
  pub numbers : trace.numbers ≡ length tolds + 1

module _ (tolds : List Told) (t : Tables) (sections : List Bool) (trace : IndexedTrace) (m : Made tolds t sections trace) where
  abbrev numbered : IsNumberingOf tolds trace
  numbered = record {
    tables = t;
    distinct = m.distinct;
    lines = m.lines;
    owners = m.owners;
    routes = zip_length _ t.routes.keys trace.joined.items m.joined;
    joined = joined_routes tolds t trace sections m.sections_are m.owners m.joined;
    components = m.components;
    numbers = m.numbers;
  }

  pub made_numbering : IsNumberingOf tolds trace
  made_numbering = numbered

  pub made_within : AreWithin trace
  made_within = numbering_within tolds trace m.few numbered m.whole

  pub made_routed : AreLinesRouted trace
  made_routed = numbering_routed tolds trace numbered
