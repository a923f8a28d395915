-- The ports at the ends of routes are those that the lines name.
use Rattle.std.proofs.Common.{◌≡◌, ℕ, List, map, slice_get, ap, sym, ◌∙◌, subst}
use Rattle.std.specs.Prelude.{slice_index}
use Rattle.std.proofs.lemmas.Option.{get_or_from_slice_get}
use Rattle.tp_common.specs.declared.operation.PortOperation.{PortOperation}
use Rattle.tp_common.specs.declared.operation.PortOperation.TheVariants as operation
use Rattle.tp_judge.specs.declared.referee.line.MessageVerb.{MessageVerb}
use Rattle.tp_judge.specs.declared.referee.line.MessageVerb.TheVariants as fate
use Rattle.tp_judge.specs.LineTexts.{Letter, Told, begins, passed, operated, otherwise, remarked, ended, resulted}
use Rattle.tp_judge.specs.declared.line.Mention.{Mention}
use Rattle.tp_judge.specs.declared.line.Act.{Act}
use Rattle.tp_judge.specs.declared.trace.IndexedTrace.{IndexedTrace}
use Rattle.tp_judge.specs.declared.referee.tables.PortKey.{PortKey}
use Rattle.tp_judge.specs.declared.referee.tables.RouteKey.{RouteKey}
use Rattle.tp_judge.specs.Numbering.{IsAct, IsMention, IsNumberingOf, act_of, operation_act, receiver_of, sender_of}
use Rattle.tp_judge.specs.Lawful.{AreLinesRouted, IsRouted, IsRoutedAct}
use Rattle.tp_judge.proofs.KeySetGrowth.{at_view}
use Rattle.tp_judge.proofs.LineNumbersWithinCounts.{each_line}

module _ (tolds : List Told) (trace : IndexedTrace) (h : IsNumberingOf tolds trace) where
  ends : List ℕ
  ends = map (λ (r : RouteKey). r.port) h.tables.routes.keys

  end_of : (sender receiver : ℕ) (letter : Letter) (m : Mention) → IsMention h.tables sender receiver letter m
      → m.port ≡ slice_index (map (λ (r : RouteKey). r.port) h.tables.routes.keys) m.route
  end_of sender receiver letter m is =
      sym (get_or_from_slice_get _ m.route m.port 0 (at_view (λ (r : RouteKey). r.port) h.tables.routes.keys m.route _ is.route))

  owner_of : (sender receiver : ℕ) (letter : Letter) (m : Mention) → IsMention h.tables sender receiver letter m
      → receiver ≡ slice_index trace.owners.items m.port
  owner_of sender receiver letter m is =
      sym (get_or_from_slice_get _ m.port receiver 0
      (ap (λ l. slice_get l m.port) h.owners ∙ at_view (λ (p : PortKey). p.component) h.tables.ports.keys m.port _ is.port.there))

  abbrev Routed : ℕ → Act → Type 0
  Routed c a = IsRoutedAct trace (map (λ (r : RouteKey). r.port) h.tables.routes.keys) c a

  passing : (c other : ℕ) (f : MessageVerb) (letter : Letter) (m : Mention) → IsMention h.tables (sender_of f c other) (receiver_of f c other) letter m
      → Routed c (act_of f m)
  passing c other fate.Sent letter m is = end_of c other letter m is
  passing c other fate.Came letter m is = (end_of other c letter m is, owner_of other c letter m is)
  passing c other fate.Took letter m is = tt
  passing c other fate.Found letter m is = tt
  passing c other fate.Dropped letter m is = tt
  passing c other fate.Left letter m is = tt

  operating : (c : ℕ) (o : PortOperation) (p : ℕ) → Routed c (operation_act o p)
  operating c operation.Start p = tt
  operating c operation.Stop p = tt
  operating c operation.Halt p = tt
  operating c operation.Clear p = tt

  act_routed : (c : ℕ) (told : Told) (a : Act) → IsAct h.tables c told a → Routed c a
  act_routed c (begins name) a is = subst (Routed c) (sym is) tt
  act_routed c (passed f letter) a is = subst (Routed c) (sym is.is) (passing c is.other f letter is.mention is.mentioned)
  act_routed c (operated o name) a is = subst (Routed c) (sym is.is) (operating c o is.port)
  act_routed c otherwise a is = subst (Routed c) (sym is) tt
  act_routed c (remarked remark word) a is = subst (Routed c) (sym is) tt
  act_routed c (ended words) a is = subst (Routed c) (sym is) tt
  act_routed c (resulted word) a is = subst (Routed c) (sym is) tt

  pub numbering_routed : AreLinesRouted trace
  numbering_routed = record {
    ports = map (λ (r : RouteKey). r.port) h.tables.routes.keys;
    each = each_line tolds h.tables trace.lines.items h.lines (IsRouted trace (map (λ (r : RouteKey). r.port) h.tables.routes.keys))
        (λ s l is. act_routed l.component s.told l.act is.says);
  }
