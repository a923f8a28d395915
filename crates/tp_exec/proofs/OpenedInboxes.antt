-- How the inboxes are opened, one after the other.
use Rattle.std.proofs.Common.{◌≡◌, ◌⊎◌, inl, inr, ℕ, zero, suc, ◌+◌, Some, List, [], ◌∷◌, ◌++◌, length, slice_get, map, refl, sym, ap, ◌∙◌, subst}
use Rattle.std.specs.Prelude.{All}
use Rattle.std.proofs.lemmas.List.{append-nil, length_push, map-append}
use Rattle.std.proofs.lemmas.List.Concat.{flat_map-append}
use Rattle.std.proofs.lemmas.List.Elements.{All-nil, All-cons, All-append, All-push}
use Rattle.std.proofs.lemmas.Option.{same_Some}
use Rattle.tp_config.specs.declared.port_type.CompId.{CompId}
use Rattle.tp_config.specs.Setup.{Setup}
use Rattle.tp_inbox.specs.Ledgers.{Inbox, SenderLedger, end_of, new_sender}
use Rattle.tp_inbox.specs.Routed.{sources_of}
use Rattle.tp_behaviour.specs.declared.worker.Worker.{Worker}
use Rattle.tp_exec.specs.declared.inboxes.Opened.{Opened}
use Rattle.tp_exec.specs.OpenedWorkers.{AreOpened, IsBare, IsOpened, IsUnused}
use Rattle.tp_exec.specs.Rounds.{all_links, link_by, links_in}

-- what stands at a place of a list with one more is of the list, or is the one
push_cases : {X : Type 0} (xs : List X) (x : X) (k : ℕ) (y : X) → slice_get (xs ++ x ∷ []) k ≡ Some y → (slice_get xs k ≡ Some y) ⊎ ((k ≡ length xs) × (x ≡ y))
push_cases [] x zero y e = inr (refl, same_Some x y e)
push_cases [] x (suc k) y e = absurd (cc)
push_cases (z ∷ zs) x zero y e = inl e
push_cases (z ∷ zs) x (suc k) y e =
    elim (push_cases zs x k y e) [
      | inl h ↦ inl h
      | inr h ↦ inr (ap suc h.0, h.1)
    ]

-- the senders of an inbox are those of the links into it
new_ends : (i : Inbox) (cs : List CompId) → map end_of (map (new_sender i) cs) ≡ map (link_by i) cs
new_ends i [] = refl
new_ends i (c ∷ cs) = ap (λ l. link_by i c ∷ l) (new_ends i cs)

new_unused : (i : Inbox) (cs : List CompId) → All IsUnused (map (new_sender i) cs)
new_unused i [] = All-nil IsUnused
new_unused i (c ∷ cs) = All-cons IsUnused (new_sender i c) (map (new_sender i) cs) refl (new_unused i cs)

-- none yet
pub opened_none : (s : Setup) (o : Opened) → o.workers.items ≡ [] → o.senders.items ≡ [] → o.closers.items ≡ [] → AreOpened s 0 o
opened_none s o workers senders closers = record {
  count = ap length workers;
  each = λ k x stands. let e : slice_get [] k ≡ Some x = subst (λ l. slice_get l k ≡ Some x) workers stands in absurd (cc);
  bare = subst (All IsBare) (sym workers) (All-nil IsBare);
  senders = ap (map end_of) senders ∙ sym (ap all_links workers);
  unused = subst (All IsUnused) (sym senders) (All-nil IsUnused);
  closers = ap length closers;
}

-- one more
pub opened_next : (s : Setup) (n : ℕ) (o now : Opened) (x : Worker) (ys : List SenderLedger) → AreOpened s n o → IsOpened s n x → x.outbox ≡ []
    → ys ≡ map (new_sender x.owner.inbox) (sources_of x.owner.inbox.routes) → now.workers.items ≡ o.workers.items ++ x ∷ []
    → now.senders.items ≡ o.senders.items ++ ys → length now.closers.items ≡ length o.closers.items + 1 → AreOpened s (n + 1) now
opened_next s n o now x ys h one bare mine workers senders closers = record {
  count = ap length workers ∙ length_push o.workers.items x ∙ ap (λ k. k + 1) h.count;
  each = λ k y stands. by k y (push_cases o.workers.items x k y (subst (λ l. slice_get l k ≡ Some y) workers stands));
  bare = subst (All IsBare) (sym workers) (All-push IsBare o.workers.items x h.bare bare);
  senders =
      ap (map end_of) (senders ∙ ap (λ l. o.senders.items ++ l) mine)
      ∙ map-append end_of o.senders.items new
      ∙ ap (λ l. l ++ map end_of new) h.senders
      ∙ ap (λ l. all_links o.workers.items ++ l) (new_ends x.owner.inbox (sources_of x.owner.inbox.routes))
      ∙ ap (λ l. all_links o.workers.items ++ l) (sym (append-nil (links_in x.owner.inbox)))
      ∙ sym (flat_map-append (λ (y : Worker). links_in y.owner.inbox) o.workers.items (x ∷ []))
      ∙ sym (ap all_links workers);
  unused =
      subst (All IsUnused) (sym (senders ∙ ap (λ l. o.senders.items ++ l) mine))
      (All-append IsUnused o.senders.items new h.unused (new_unused x.owner.inbox (sources_of x.owner.inbox.routes)));
  closers = closers ∙ ap (λ k. k + 1) h.closers;
}
  where
    new : List SenderLedger
    new = map (new_sender x.owner.inbox) (sources_of x.owner.inbox.routes)

    by : (k : ℕ) (y : Worker) → (slice_get o.workers.items k ≡ Some y) ⊎ ((k ≡ length o.workers.items) × (x ≡ y)) → IsOpened s k y
    by k y (inl old) = h.each k y old
    by k y (inr w) = subst (λ j. IsOpened s j y) (sym (w.0 ∙ h.count)) (subst (IsOpened s n) w.1 one)
