-- How the senders come to the workers of those who send by them.
use Rattle.std.proofs.Common.{◌≡◌, ◌≢◌, ◌⊎◌, inl, inr, ℕ, zero, suc, ◌<◌, Bool, true, cond, eq-eqb, ne_eqb, Some, List, [], ◌∷◌, ◌++◌, get_or, length, slice_get, map, refl, sym, ap, ◌∙◌, subst, append_assoc, arith}
use Rattle.std.specs.Prelude.{All, AllPairs, filter, slice_set}
use Rattle.std.specs.Global.{Global}
use Rattle.std.specs.declared.vec.IntoIter.{IntoIter}
use Rattle.std.specs.Vec.Iter.{into_iter_items, into_iter_len}
use Rattle.std.proofs.lemmas.List.{append-nil, length-map}
use Rattle.std.proofs.lemmas.Bool.{eqb-true}
use Rattle.std.proofs.lemmas.List.Elements.{All-head, All-tail, filter_passes}
use Rattle.std.proofs.lemmas.List.Kept.{AllPairs-filter}
use Rattle.std.proofs.lemmas.Option.{same_Some}
use Rattle.tp_inbox.specs.Ledgers.{SenderLedger}
use Rattle.tp_behaviour.specs.declared.worker.Worker.{Worker}
use Rattle.tp_exec.specs.OpenedWorkers.{AreApart, AreHandedOut, AreTwo, HasGiven, IsBare, IsFirstThere, IsFromOneOf, giving, is_of, rest_of}
use Rattle.tp_exec.proofs.PairwiseDifferentElements.{all_before, pairs_before}

-- of all the senders, those before the rest have been handed out
pub record AreDealt (before : List Worker) (all rest : List SenderLedger) (now : List Worker) : Type 0 where
  pub same : map rest_of now ≡ map rest_of before
  pub dealt : (k : ℕ) (x : Worker) → slice_get now k ≡ Some x → x.outbox ++ filter (is_of k) rest ≡ filter (is_of k) all
  pub within : All (IsFromOneOf before) rest

-- as many workers as before
pub as_many : (before now : List Worker) → map rest_of now ≡ map rest_of before → length now ≡ length before
as_many before now same = sym (length-map now rest_of) ∙ ap length same ∙ length-map before rest_of

from_here : (y : SenderLedger) (more : List SenderLedger) → filter (is_of y.source.0) (y ∷ more) ≡ y ∷ filter (is_of y.source.0) more
from_here y more = ap (λ (b : Bool). cond b (y ∷ filter (is_of y.source.0) more) (filter (is_of y.source.0) more))
    (eq-eqb y.source.0 y.source.0 refl)

from_else : (k : ℕ) (y : SenderLedger) (more : List SenderLedger) → y.source.0 ≢ k → filter (is_of k) (y ∷ more) ≡ filter (is_of k) more
from_else k y more n = ap (λ (b : Bool). cond b (y ∷ filter (is_of k) more) (filter (is_of k) more)) (ne_eqb y.source.0 k n)

-- what stands at a place of the list was there before, or was put there
set_cases : {X : Type 0} (xs : List X) (j k : ℕ) (v y : X) → slice_get (slice_set xs j v) k ≡ Some y → ((k ≡ j) × (v ≡ y))
    ⊎ ((j ≢ k) × (slice_get xs k ≡ Some y))
set_cases [] j k v y e = absurd (cc)
set_cases (x ∷ xs) zero zero v y e = inl (refl, same_Some v y e)
set_cases (x ∷ xs) zero (suc k) v y e = inr (λ (h : 0 ≡ suc k). absurd (omega (arith, h)), e)
set_cases (x ∷ xs) (suc j) zero v y e = inr (λ (h : suc j ≡ 0). absurd (omega (arith, h)), e)
set_cases (x ∷ xs) (suc j) (suc k) v y e =
    elim (set_cases xs j k v y e) [
      | inl h ↦ inl (ap suc h.0, h.1)
      | inr h ↦ inr (λ (g : suc j ≡ suc k). h.0 (omega (arith, g)), h.1)
    ]

-- a worker with one sender more has else what it had
kept : (xs : List Worker) (j : ℕ) (x : Worker) (y : SenderLedger) → slice_get xs j ≡ Some x → map rest_of (slice_set xs j (giving x y)) ≡ map rest_of xs
kept [] j x y stands = refl
kept (z ∷ zs) zero x y stands = ap (λ (u : Worker). rest_of u ∷ map rest_of zs) (sym (same_Some z x stands))
kept (z ∷ zs) (suc j) x y stands = ap (λ l. rest_of z ∷ l) (kept zs j x y stands)

nothing : {X : Type 0} (xs : List X) → length xs ≡ 0 → xs ≡ []
nothing [] e = refl
nothing (x ∷ xs) e = absurd (omega (arith, e))

-- an iterator of no length has nothing more
pub no_rest : {X : Type 0} (it : IntoIter X Global) → into_iter_len it ≡ 0 → into_iter_items it ≡ []
no_rest it none = nothing (into_iter_items it) (sym it.rest.ok.0 ∙ none)

-- where all have been handed out
pub dealt_last : (before : List Worker) (all : List SenderLedger) (now : List Worker) → AreDealt before all [] now → AreHandedOut before all now
dealt_last before all now h = record { same = h.same; senders = λ k x stands. sym (append-nil x.outbox) ∙ h.dealt k x stands }

-- one more
module _ (before : List Worker) (all rest : List SenderLedger) (y : SenderLedger) (now : List Worker) (h : AreDealt before all (y ∷ rest) now) where
  pub dealt_within : IsFromOneOf now y
  dealt_within = subst (λ n. y.source.0 < n) (sym (as_many before now h.same)) (All-head (IsFromOneOf before) y rest h.within)

  -- none of the senders that are there puts into the inbox of the next one
  pub dealt_apart : AreApart all → IsFirstThere now y
  dealt_apart apart x stands =
      let k = y.source.0 in
      let ours : SenderLedger → Type 0 = λ z. is_of k z ≡ true in
      let is : x.outbox ++ y ∷ filter (is_of k) rest ≡ filter (is_of k) all = ap (λ l. x.outbox ++ l) (sym (from_here y rest)) ∙ h.dealt k x stands in
      let two : All (λ (z : SenderLedger). AreTwo z y) x.outbox =
      pairs_before AreTwo x.outbox (filter (is_of k) rest) y (subst (AllPairs AreTwo) (sym is) (AllPairs-filter AreTwo (is_of k) all apart)) in
      let here : All ours x.outbox =
      all_before ours x.outbox (y ∷ filter (is_of k) rest) (subst (All ours) (sym is) (filter_passes (is_of k) all)) in
      λ j d low. two j d low (λ i. record { 0 = eqb-true (get_or x.outbox j d).source.0 k (here j d low) i })

  pub dealt_next : (after : List Worker) → HasGiven y now after → AreDealt before all rest after
  dealt_next after given = record {
    same = ap (map rest_of) given.2 ∙ kept now y.source.0 given.0 y given.1 ∙ h.same;
    dealt = λ k z stands. by k z (set_cases now y.source.0 k (giving given.0 y) z (subst (λ l. slice_get l k ≡ Some z) given.2 stands));
    within = All-tail (IsFromOneOf before) y rest h.within;
  }
    where
      had : (given.0.outbox ++ y ∷ []) ++ filter (is_of y.source.0) rest ≡ filter (is_of y.source.0) all
      had =
          append_assoc given.0.outbox (y ∷ []) (filter (is_of y.source.0) rest)
          ∙ ap (λ l. given.0.outbox ++ l) (sym (from_here y rest))
          ∙ h.dealt y.source.0 given.0 given.1

      by : (k : ℕ) (z : Worker) → ((k ≡ y.source.0) × (giving given.0 y ≡ z)) ⊎ ((y.source.0 ≢ k) × (slice_get now k ≡ Some z)) → z.outbox
          ++ filter (is_of k) rest ≡ filter (is_of k) all
      by k z (inl w) =
          subst (λ j. z.outbox ++ filter (is_of j) rest ≡ filter (is_of j) all) (sym w.0)
          (subst (λ (u : Worker). u.outbox ++ filter (is_of y.source.0) rest ≡ filter (is_of y.source.0) all) w.1 had)
      by k z (inr w) = ap (λ l. z.outbox ++ l) (sym (from_else k y rest w.0)) ∙ h.dealt k z w.1
