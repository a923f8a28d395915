-- What is written piece by piece.
use Rattle.std.proofs.Common.{◌≡◌, ℕ, ◌+◌, ◌<◌, List, Option, Some, None, take, length, codes, ap, sym, ◌∙◌, subst, arith, add-one, inl, inr}
use Rattle.std.specs.Prelude.{All, slice_get}
use Rattle.std.specs.List.{flat_map}
use Rattle.tp_common.specs.declared.watched.Watched.{Watched}
use Rattle.tp_common.specs.Watching.{Writes}
use Rattle.tp_common.proofs.WatchedWriterGrowth.{one_more, writes_both}
use Rattle.std.proofs.lemmas.Option.{get_or_from_slice_get, slice_get_cases}
use Rattle.tp_value.specs.declared.message.Message.{Message}
use Rattle.tp_common.specs.declared.event.Env.{Env}
use Rattle.tp_queue.specs.History.{queued}
use Rattle.tp_config.specs.declared.port_type.CompId.{CompId}
use Rattle.tp_play.specs.TestCases.{Made}
use Rattle.tp_inbox.specs.declared.entry.Entry.{Entry}
use Rattle.tp_inbox.specs.Desks.{Journal, at_port}
use Rattle.tp_report.specs.declared.report.CompReport.{CompReport}
use Rattle.tp_report.specs.declared.report.Report.{Report}
use Rattle.tp_report.specs.declared.telling.Telling.{Telling}
use Rattle.tp_report.specs.Lines.{envelope_line, heading, entry_text, end_text, verdict_line, left_at, left_below, component_port}
use Rattle.tp_report.specs.Reports.{component_text, told_text}

-- where a list has an element
there : {X : Type 0} (xs : List X) (i : ℕ) (x : X) → slice_get xs i ≡ Some x → i < length xs
there xs i x e = elim ((slice_get_cases xs i).1) [ inl w ↦ w.1 | inr w ↦ absurd (cc) ]

-- what holds of each element holds of that at a place
pub all_at : {X : Type 0} (P : X → Type 0) (xs : List X) (i : ℕ) (x : X) → All P xs → slice_get xs i ≡ Some x → P x
all_at P xs i x all e = subst P (get_or_from_slice_get xs i x x e) (all i x (there xs i x e))

pub one_more_at : {W X : Type 0} (contents : W → Option (List ℕ)) (text : X → List ℕ) (xs : List X) (i : ℕ) (x : X) → slice_get xs i ≡ Some x
    → (start here now : Watched W) → Writes contents start here (flat_map text (take i xs)) → Writes contents here now (text x)
    → Writes contents start now (flat_map text (take (i + 1) xs))
one_more_at contents text xs i x e = one_more contents text xs i x (there xs i x e) (sym (get_or_from_slice_get xs i x x e))

module _ {W : Type 0} (contents : W → Option (List ℕ)) where
  -- what is left at one port more
  pub left_more : (made : Made) (d : Journal) (n : ℕ) (c : CompId) (es : List (Env Message)) → c ≡ d.comp → es ≡ queued (at_port d n)
      → (start here now : Watched W) → Writes contents start here (left_below made d n)
      → Writes contents here now (flat_map (envelope_line made (codes "left") (component_port c n)) es)
      → Writes contents start now (left_below made d (n + 1))
  unfolding left_at
  left_more made d n c es own is start here now p q =
      let at : flat_map (envelope_line made (codes "left") (component_port c n)) es ≡ left_at made d n =
      ap (flat_map (envelope_line made (codes "left") (component_port c n))) is
      ∙ ap (λ e. flat_map (envelope_line made (codes "left") (component_port e n)) (queued (at_port d n))) own in
      subst (λ k. Writes contents start now (left_below made d k)) (sym (add-one n))
      (writes_both contents start here now (left_below made d n) (left_at made d n) p (subst (Writes contents here now) at q))

  pub whole_component : (how : Telling) (made : Made) (x : CompReport) (c : CompId) (k : List Entry) → c ≡ x.desk.comp → k ≡ x.desk.log
      → (start headed noted ended judged done : Watched W) → Writes contents start headed (heading made c)
      → Writes contents headed noted (flat_map (entry_text how made c) k) → Writes contents noted ended (end_text x.ending)
      → Writes contents ended judged (verdict_line (codes "verdict") x.verdict)
      → Writes contents judged done (left_below made x.desk x.desk.ports) → Writes contents start done (component_text how made x)
  unfolding component_text
  whole_component how made x c k own is start headed noted ended judged done name entries end verdict left =
      writes_both contents start headed done _ _ (subst (λ e. Writes contents start headed (heading made e)) own name)
      (writes_both contents headed noted done _ _
      (subst (λ e. Writes contents headed noted (flat_map (entry_text how made e) x.desk.log)) own
      (subst (λ l. Writes contents headed noted (flat_map (entry_text how made c) l)) is entries))
      (writes_both contents noted ended done _ _ end (writes_both contents ended judged done _ _ verdict left)))

  pub whole_report : (how : Telling) (made : Made) (report : Report) (xs : List CompReport) → xs ≡ report.components.items
      → (start here done : Watched W) → Writes contents start here (flat_map (component_text how made) xs)
      → Writes contents here done (verdict_line (codes "result") report.result) → Writes contents start done (told_text how made report)
  unfolding told_text
  whole_report how made report xs is start here done components result =
      writes_both contents start here done _ _ (subst (λ ys. Writes contents start here (flat_map (component_text how made) ys)) is components) result

pub not_past : {X : Type 0} (xs : List X) (i : ℕ) → slice_get xs i ≡ None → i < length xs → ⊥
not_past xs i e low = elim ((slice_get_cases xs i).1) [ inl w ↦ absurd (cc) | inr w ↦ absurd (omega arith) ]
