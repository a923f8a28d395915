-- One sender comes back.
use Rattle.std.proofs.Common.{◌≡◌, ◌≢◌, ℕ, suc, ◌<◌, Bool, cond, eq-eqb, ne_eqb, Option, Some, None, List, [], ◌∷◌, length, map, set, refl, sym, ap, ◌∙◌, subst, ⊎_elim, All, MatchOption, arith}
use Rattle.std.specs.Prelude.{filter, slice_index_or}
use Rattle.std.specs.Global.{Global}
use Rattle.std.specs.declared.vec.IntoIter.{IntoIter}
use Rattle.std.specs.Vec.Iter.{into_iter_items, into_iter_len, into_iter_steps}
use Rattle.std.proofs.lemmas.Grind.{get_or-set_at}
use Rattle.std.proofs.lemmas.List.{get_or-set_other, length-map, length-set}
use Rattle.std.proofs.lemmas.List.Elements.{All-head, All-tail}
use Rattle.tp_inbox.specs.declared.entry.Entry.{Entry}
use Rattle.tp_inbox.specs.Ledgers.{SenderLedger, end_of}
use Rattle.tp_inbox.proofs.EnvelopesOfOneRoute.{same_or_not}
use Rattle.tp_behaviour.specs.Workers.{IsLedgerOf}
use Rattle.tp_exec.specs.Rounds.{Link, comes_from}
use Rattle.tp_exec.specs.ReturnedSenders.{AreAtHand, CanTake, Gives, IsHandedBack, Leaves}

abbrev Hand : Type 0
Hand = IntoIter SenderLedger Global

from_here : (m : Link) (more : List Link) → filter (comes_from m.1.0) (m ∷ more) ≡ m ∷ filter (comes_from m.1.0) more
from_here m more = ap (λ (b : Bool). cond b (m ∷ filter (comes_from m.1.0) more) (filter (comes_from m.1.0) more))
    (eq-eqb m.1.0 m.1.0 refl)

from_else : (k : ℕ) (m : Link) (more : List Link) → m.1.0 ≢ k → filter (comes_from k) (m ∷ more) ≡ filter (comes_from k) more
from_else k m more n = ap (λ (b : Bool). cond b (m ∷ filter (comes_from k) more) (filter (comes_from k) more)) (ne_eqb m.1.0 k n)

parts : {A : Type 0} (x y : A) (xs ys : List A) → x ∷ xs ≡ y ∷ ys → (x ≡ y) × (xs ≡ ys)
parts x y xs ys e = (cc, cc)

nothing : {A : Type 0} (xs : List A) → length xs ≡ 0 → xs ≡ []
nothing [] e = refl
nothing (x ∷ xs) e = absurd (omega arith)

-- an iterator of no length has nothing more
pub no_rest : {X : Type 0} (it : IntoIter X Global) → into_iter_len it ≡ 0 → into_iter_items it ≡ []
no_rest it none = nothing (into_iter_items it) (sym it.rest.ok.0 ∙ none)

-- the senders on these links are held, and the next link is m
module _ (logs : ℕ → List Entry) (hands : List Hand) (m : Link) (more : List Link) (h : AreAtHand logs hands (m ∷ more)) where
  pub inside : m.1.0 < length hands
  inside = All-head (λ (n : Link). n.1.0 < length hands) m more h.within

  -- o has the senders of its component, and what a step leaves of it
  module _ (o it : Hand) (is : o ≡ slice_index_or hands m.1.0 o) where
    had : map end_of (into_iter_items o) ≡ m ∷ filter (comes_from m.1.0) more
    had = ap (λ (x : Hand). map end_of (into_iter_items x)) is ∙ h.each m.1.0 o inside ∙ from_here m more

    had_noted : All (IsLedgerOf (logs m.1.0)) (into_iter_items o)
    had_noted = subst (λ (x : Hand). All (IsLedgerOf (logs m.1.0)) (into_iter_items x)) (sym is) (h.noted m.1.0 o inside)

    held_some : into_iter_len o ≡ 0 → ⊥
    held_some none =
        let e : length (map end_of (into_iter_items o)) ≡ suc (length (filter (comes_from m.1.0) more)) = ap length had in
        let l : length (map end_of (into_iter_items o)) ≡ length (into_iter_items o) = length-map (into_iter_items o) end_of in
        let n = o.rest.ok in
        omega arith

    module _ (x : SenderLedger) (steps : into_iter_items o ≡ x ∷ into_iter_items it) where
      both : (end_of x ≡ m) × (map end_of (into_iter_items it) ≡ filter (comes_from m.1.0) more)
      both = parts (end_of x) m (map end_of (into_iter_items it)) (filter (comes_from m.1.0) more) (ap (map end_of) (sym steps) ∙ had)

      noted : All (IsLedgerOf (logs m.1.0)) (x ∷ into_iter_items it)
      noted = subst (All (IsLedgerOf (logs m.1.0))) steps had_noted

      held_back : IsHandedBack logs m x
      held_back = (both.0, All-head (IsLedgerOf (logs m.1.0)) x (into_iter_items it) noted)

      held_next : AreAtHand logs (set hands m.1.0 it) more
      held_next =
          let long : length (set hands m.1.0 it) ≡ length hands = length-set hands m.1.0 it in record {
            each = λ k d low.
                ⊎_elim
                (λ (e : k ≡ m.1.0). ap (λ (y : Hand). map end_of (into_iter_items y)) (get_or-set_at hands m.1.0 k it d e inside) ∙ both.1
                ∙ ap (λ (j : ℕ). filter (comes_from j) more) (sym e))
                (λ (n : k ≢ m.1.0). ap (λ (y : Hand). map end_of (into_iter_items y)) (get_or-set_other hands m.1.0 k it d n)
                ∙ h.each k d (omega arith) ∙ from_else k m more (λ e. n (sym e)))
                (same_or_not k m.1.0);
            noted = λ k d low.
                ⊎_elim
                (λ (e : k ≡ m.1.0).
                subst (λ (y : Hand). All (IsLedgerOf (logs k)) (into_iter_items y)) (sym (get_or-set_at hands m.1.0 k it d e inside))
                (subst (λ (j : ℕ). All (IsLedgerOf (logs j)) (into_iter_items it)) (sym e) (All-tail (IsLedgerOf (logs m.1.0)) x (into_iter_items it) noted)))
                (λ (n : k ≢ m.1.0). subst (λ (y : Hand). All (IsLedgerOf (logs k)) (into_iter_items y)) (sym (get_or-set_other hands m.1.0 k it d n))
                (h.noted k d (omega arith)))
                (same_or_not k m.1.0);
            within = λ k d low. subst (λ (n : ℕ). (slice_index_or more k d).1.0 < n) (sym long)
                (All-tail (λ (n : Link). n.1.0 < length hands) m more h.within k d low);
          }

-- o has the senders of a component, the next of which is r, and then has those of it
module _ (hands : List Hand) (m : Link) (o it : Hand) (is : o ≡ slice_index_or hands m.1.0 o) where
  -- there is a next one, and it is the one on the next link
  pub gives_one : (r : Option SenderLedger) → into_iter_steps o r it → MatchOption r (¬ CanTake hands (m ∷ [])) (λ s. Gives hands (m ∷ []) (s ∷ []))
  gives_one None steps = λ w. held_some w.0 hands m w.1 w.2 o it is steps.0
  gives_one (Some x) steps = λ logs more h. (held_back logs hands m more h o it is x steps.0, tt)

  -- without it all have the others
  pub leaves_others : (r : Option SenderLedger) → into_iter_steps o r it → Leaves hands (m ∷ []) (set hands m.1.0 it)
  leaves_others None steps = λ logs more h. absurd (held_some logs hands m more h o it is steps.0)
  leaves_others (Some x) steps = λ logs more h. held_next logs hands m more h o it is x steps.0
