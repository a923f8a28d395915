-- The clock of a history, as the history grows.
use Rattle.std.proofs.Common.{◌≡◌, ◌⊎◌, inl, inr, ℕ, zero, suc, ◌<◌, ◌≤◌, max, Some, List, [], ◌∷◌, ◌++◌, length, take, unwrap_or, refl, sym, ap, ◌∙◌, subst, arith}
use Rattle.std.specs.Prelude.{slice_get}
use Rattle.std.proofs.lemmas.List.{take-append-le}
use Rattle.std.proofs.lemmas.Option.{slice_get_within}
use Rattle.std.proofs.Math.Seq.{take-append_seam}
use Rattle.tp_inbox.specs.declared.entry.Entry.{Entry}
use Rattle.tp_inbox.specs.History.{IsClocked, IsTimely, arrivals, clock_of, stamp_of}

pub clock_of-push : (k : List Entry) (e : Entry) → clock_of (k ++ e ∷ []) ≡ max (clock_of k) (stamp_of e)
clock_of-push [] e = omega arith
clock_of-push (x ∷ k) e = let more = clock_of-push k e in omega (arith, more)

pub same_Some : {X : Type 0} (x y : X) → Some x ≡ Some y → x ≡ y
same_Some x y is = ap (λ o. unwrap_or o x) is

-- what stands in a list with one more at its end
get_push : {X : Type 0} (h : List X) (x : X) (k : ℕ) (e : X) → slice_get (h ++ x ∷ []) k ≡ Some e → ((k < length h) × (slice_get h k ≡ Some e))
    ⊎ ((k ≡ length h) × (x ≡ e))
get_push [] x zero e g = inr (refl, same_Some x e g)
get_push [] x (suc k) e g = absurd (cc)
get_push (y ∷ h) x zero e g = inl (omega arith, g)
get_push (y ∷ h) x (suc k) e g = elim (get_push h x k e g) [ inl p ↦ inl (omega (arith, p.0), p.1) | inr p ↦ inr (omega (arith, p.0), p.1) ]

-- an entry that may follow a history keeps it clocked
pub clocked-push : (k : List Entry) (x : Entry) → IsClocked k → IsTimely k x → IsClocked (k ++ x ∷ [])
unfolding IsClocked
clocked-push k x clocked timely n e is =
    elim (get_push k x n e is) [
      | inl p ↦
          let low : n ≤ length k = omega (arith, p.0) in subst (λ t. IsTimely t e) (sym (take-append-le n k (x ∷ []) low)) (clocked n e p.1)
      | inr p ↦
          let before : take n (k ++ x ∷ []) ≡ k = ap (λ m. take m (k ++ x ∷ [])) p.0 ∙ take-append_seam k (x ∷ []) in
          subst (IsTimely (take n (k ++ x ∷ []))) p.1 (subst (λ t. IsTimely t x) (sym before) timely)
    ]

-- what stands in a list stands there with one more at its end
get_front : {X : Type 0} (h : List X) (x : X) (k : ℕ) (e : X) → slice_get h k ≡ Some e → slice_get (h ++ x ∷ []) k ≡ Some e
get_front [] x k e g = absurd (cc)
get_front (y ∷ h) x zero e g = g
get_front (y ∷ h) x (suc k) e g = get_front h x k e g

-- without its latest entry a history is clocked too
pub clocked-front : (k : List Entry) (x : Entry) → IsClocked (k ++ x ∷ []) → IsClocked k
unfolding IsClocked
clocked-front k x clocked n e is =
    let below : n < length k = slice_get_within k n e is in
    let low : n ≤ length k = omega (arith, below) in
    subst (λ t. IsTimely t e) (take-append-le n k (x ∷ []) low) (clocked n e (get_front k x n e is))

pub arrivals_none : arrivals [] ≡ []
unfolding arrivals
arrivals_none = refl

pub clocked_at_start : IsClocked []
unfolding IsClocked
clocked_at_start n e is = absurd (cc)
