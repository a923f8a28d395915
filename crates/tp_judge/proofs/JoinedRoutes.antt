-- Which routes are joined.
use Rattle.std.proofs.Common.{◌≡◌, ℕ, Bool, true, Some, List, map, slice_get, Contains, ap, sym, ◌∙◌}
use Rattle.std.specs.Prelude.{◌↔◌, IsTrue}
use Rattle.std.proofs.lemmas.Option.{same_Some}
use Rattle.tp_judge.specs.LineTexts.{Told}
use Rattle.tp_judge.specs.Tree.{names_of}
use Rattle.tp_judge.specs.declared.trace.IndexedTrace.{IndexedTrace}
use Rattle.tp_judge.specs.declared.referee.tables.PortKey.{PortKey}
use Rattle.tp_judge.specs.declared.referee.tables.Tables.{Tables}
use Rattle.tp_judge.specs.Numbering.{AreJoined, IsComponentNumber}
use Rattle.tp_judge.specs.Joining.{AreJoinedBy, AreSections, IsJoinedBy}
use Rattle.tp_judge.proofs.KeySetGrowth.{at_view}
use Rattle.tp_judge.proofs.ZippedPrefixGrowth.{zip_get}

module _ (tolds : List Told) (t : Tables) (trace : IndexedTrace) (sections : List Bool)
    (are : AreSections tolds t.components sections)
    (owned : trace.owners.items ≡ map (λ (p : PortKey). p.component) t.ports.keys)
    (routed : AreJoinedBy trace.owners.items sections t.routes.keys trace.joined.items) where
  has : (c : ℕ) (name : List ℕ) → IsComponentNumber t c name → (slice_get sections c ≡ Some true) ↔ Contains (names_of tolds) name
  has c name is =
      let s = zip_get (λ n flag. IsTrue flag ↔ Contains (names_of tolds) n) t.components sections c name are is in
      (λ e. s.2.0 (same_Some s.0 true (sym s.1 ∙ e)), λ h. s.1 ∙ ap Some (s.2.1 h))

  pub joined_routes : AreJoined t tolds trace
  joined_routes k route port sender receiver there end from to =
      let j = zip_get (λ r flag. IsTrue flag ↔ IsJoinedBy trace.owners.items sections r) t.routes.keys trace.joined.items k route routed there in
      let owner : slice_get trace.owners.items route.port ≡ Some port.component =
      ap (λ l. slice_get l route.port) owned ∙ at_view (λ (p : PortKey). p.component) t.ports.keys route.port port end in (
        λ e.
            let b = j.2.0 (same_Some j.0 true (sym j.1 ∙ e)) in
            let same : b.owner ≡ port.component = same_Some b.owner port.component (sym b.owned ∙ owner) in
            ((has route.sender sender from).0 b.sender, (has port.component receiver to).0 (ap (slice_get sections) (sym same) ∙ b.receiver)),
        λ h.
            j.1 ∙ ap Some (j.2.1 (record {
              owner = port.component;
              owned = owner;
              sender = (has route.sender sender from).1 h.0;
              receiver = (has port.component receiver to).1 h.1;
            })),
      )
