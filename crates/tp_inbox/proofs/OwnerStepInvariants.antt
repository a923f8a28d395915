-- What the owner's steps keep.
use Rattle.std.proofs.Common.{◌≡◌, ℕ, zero, suc, ◌-◌, ◌<◌, Option, Some, None, List, [], ◌∷◌, ◌++◌, length, take, drop, take-append-drop, MatchOption, IfSome, refl, sym, ap, ◌∙◌, subst, length-append, arith}
use Rattle.crossbeam_queue.specs.Fifo.{Held}
use Rattle.tp_inbox.specs.declared.envelope.InboxEnvelope.{InboxEnvelope}
use Rattle.tp_inbox.specs.declared.rule.View.{View}
use Rattle.std.specs.Prelude.{slice_index_or}
use Rattle.tp_inbox.specs.Envelopes.{of, InOrder, AreRouted, AreFronts, Ledger, on_routes, one_of, envelopes_before, EndsWith}
use Rattle.tp_inbox.specs.Rule.{owner_pass, Takes, Knows, Sound}
use Rattle.tp_inbox.proofs.EnvelopesOfOneRoute.{among-append, append_nil, routed-append, routed-front, routed-back, in_order-front, next_number}

pub take_front : {A : Type 0} (xs ys : List A) (n : ℕ) → n ≡ length xs → take n (xs ++ ys) ≡ xs
take_front [] ys n e = ap (λ k. take k ys) e
take_front (x ∷ xs) ys zero e = absurd (omega arith)
take_front (x ∷ xs) ys (suc n) e = ap (λ l. x ∷ l) (take_front xs ys n (omega arith))

pub before-append : (xs ys : List InboxEnvelope) → envelopes_before (xs ++ ys) ys ≡ xs
before-append xs ys = take_front xs ys (length (xs ++ ys) - length ys) (omega (arith, length-append xs ys))

pub ends-append : (all xs ys : List InboxEnvelope) → all ≡ xs ++ ys → (envelopes_before all ys ≡ xs) × EndsWith all ys
ends-append all xs ys e =
    let b : envelopes_before all ys ≡ xs = ap (λ l. envelopes_before l ys) e ∙ before-append xs ys in
    (b, e ∙ ap (λ l. l ++ ys) (sym b))

pub before_nothing : (xs : List InboxEnvelope) → envelopes_before xs [] ≡ xs
before_nothing xs = ap (λ l. envelopes_before l []) (sym (append_nil xs)) ∙ before-append xs []

pub sound_taken : (v : View) (e : InboxEnvelope) (w : View) → Sound v → Takes v e w → Sound w
sound_taken v e w s t =
    subst Sound (sym t.0) record {
      owner = refl;
      order = t.2;
      routed = routed-append v.split_off v.taken (e ∷ []) s.routed (t.1, tt);
      fronts = t.3;
    }

pub fronts_of_known : (v : View) (items : List InboxEnvelope) → Knows v items → AreFronts v.taken v.known
fronts_of_known v items h k d low = let ps = (slice_index_or v.known k d).0 in (on_routes ps items, sym (among-append ps v.taken items) ∙ h k d low)

pub in_order_before : (all kept : List InboxEnvelope) → InOrder all → InOrder (envelopes_before all kept)
in_order_before all kept h = let n = length all - length kept in in_order-front (take n all) (drop n all) (subst InOrder (sym (take-append-drop n all)) h)

pub routed_before : (n m : ℕ) (all kept : List InboxEnvelope) → n ≡ m → AreRouted n all → AreRouted m (envelopes_before all kept)
routed_before n m all kept e h = let k = length all - length kept in routed-front m (take k all) (drop k all)
    (subst (λ (x : ℕ × List InboxEnvelope). AreRouted x.0 x.1) (λ i. (e i, sym (take-append-drop k all) i)) h)

pub sound_after : (X : Type 0) (r : Option InboxEnvelope) (v w : View) → Sound v → MatchOption r ((w ≡ v) × Knows v []) (λ e. Takes v e w × X) → Sound w
sound_after X None v w s h = subst Sound (sym h.0) s
sound_after X (Some e) v w s h = sound_taken v e w s h.0

at_some : {A : Type 0} (P : Type 0) (o : Option A) → P → IfSome o (λ _. P)
at_some P None p = tt
at_some P (Some x) p = p

-- the owner's pass once the senders have joined, and the queue was looked at
pub sound_joined : (v u w : View) (known : List Ledger) (n : ℕ) → Sound v → u ≡ owner_pass v.split_off v.taken known → w ≡ u → Held n (Knows u) → Sound w
sound_joined v u w known n s e same held =
    subst Sound (sym (same ∙ e)) record {
      owner = refl;
      order = s.order;
      routed = s.routed;
      fronts = subst (λ (x : View). AreFronts x.taken x.known) e (fronts_of_known u held.0 held.2);
    }

pub gathered : (v u w : View) (known : List Ledger) (routes : ℕ) (hand : Option InboxEnvelope) (rest : List InboxEnvelope) → v.split_off ≡ routes
    → EndsWith v.taken (one_of hand) → rest ≡ [] → u ≡ owner_pass v.split_off v.taken known → w ≡ u
    → (w.split_off ≡ routes) × (w.known ≡ known) × EndsWith w.taken (one_of hand ++ rest) × IfSome hand (λ _. rest ≡ [])
gathered v u w known routes hand rest split_off ends none e same = (
  ap (λ (x : View). x.split_off) (same ∙ e) ∙ split_off,
  ap (λ (x : View). x.known) (same ∙ e),
  subst (λ (x : List InboxEnvelope × List InboxEnvelope). EndsWith x.0 x.1)
      (λ i. (ap (λ (x : View). x.taken) (sym (same ∙ e)) i, (sym (append_nil (one_of hand)) ∙ ap (λ l. one_of hand ++ l) (sym none)) i)) ends,
  at_some (rest ≡ []) hand none,
)

pub routed_rest : (n m : ℕ) (all xs ys : List InboxEnvelope) → n ≡ m → all ≡ xs ++ ys → AreRouted n all → AreRouted m ys
routed_rest n m all xs ys e is h = routed-back m xs ys (subst (λ (x : ℕ × List InboxEnvelope). AreRouted x.0 x.1) (λ i. (e i, is i)) h)

-- what was taken out is of a route that there is, and the next of its route
pub arrived : (w : View) (xs : List InboxEnvelope) (e : InboxEnvelope) (routes : ℕ) → Sound w → w.split_off ≡ routes → w.taken ≡ xs ++ e ∷ [] → (e.place < routes)
    × (e.number ≡ length (of e.place xs))
arrived w xs e routes s m t = (
  (routed_rest w.split_off routes w.taken xs (e ∷ []) m t s.routed).0,
  next_number xs e (subst InOrder t s.order),
)

pub ends_nothing : (xs : List InboxEnvelope) → EndsWith xs []
ends_nothing xs = (ends-append xs xs [] (sym (append_nil xs))).1
