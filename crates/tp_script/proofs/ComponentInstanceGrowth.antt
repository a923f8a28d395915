-- Numbers of components, and instances that are added one by one.
use Rattle.std.proofs.Common.{◌≡◌, ◌⊎◌, inl, inr, ℕ, ◌+◌, ◌<◌, ◌≤◌, List, [], ◌∷◌, ◌++◌, Option, Some, length, slice_get, append_assoc, sym, ap, ◌∙◌, subst, arith}
use Rattle.std.proofs.{lemmas.List.length_push, lemmas.List.get_or_push, lemmas.List.get_or_append_left, lemmas.Bool.cases_lt}
use Rattle.std.proofs.lemmas.Option.{slice_get-get_or, get_or_from_slice_get}
use Rattle.tp_checks.proofs.PlacedEntriesGrowth.{push_cases}
use Rattle.tp_checks.specs.declared.prepared.Prepared.{Prepared}
use Rattle.tp_play.specs.declared.instance.Instance.{Instance}
use Rattle.tp_script.specs.{Behaviours.Numbers, Instances.AreInstances, Instances.IsInstance}

pub numbers_more : (count : ℕ) (before after next : List ℕ) → Numbers count before after → next ≡ after ++ (count + 1) ∷ [] → Numbers (count + 1) before next
numbers_more count before after next h e =
    record {
      variables = h.variables ++ (count + 1) ∷ [];
      as_many = length_push h.variables (count + 1) ∙ ap (λ n. n + 1) h.as_many;
      numbered = λ k lt. by k lt (cases_lt k count);
      all = e ∙ ap (λ l. l ++ (count + 1) ∷ []) h.all ∙ append_assoc before h.variables ((count + 1) ∷ []);
    }
  where
    longer : length (h.variables ++ (count + 1) ∷ []) ≡ count + 1
    longer = length_push h.variables (count + 1) ∙ ap (λ n. n + 1) h.as_many

    by : (k : ℕ) → k < count + 1 → (k < count) ⊎ (count ≤ k) → slice_get (h.variables ++ (count + 1) ∷ []) k ≡ Some (k + 1)
    by k lt (inl early) =
        slice_get-get_or (h.variables ++ (count + 1) ∷ []) k 0 (omega (arith, longer, lt))
        ∙ ap Some (get_or_append_left h.variables ((count + 1) ∷ []) 0 k (omega (arith, h.as_many, early))
        ∙ get_or_from_slice_get h.variables k (k + 1) 0 (h.numbered k early))
    by k lt (inr late) =
        let last : count ≡ k = omega (arith, lt, late) in
        slice_get-get_or (h.variables ++ (count + 1) ∷ []) k 0 (omega (arith, longer, lt))
        ∙ ap Some (get_or_push h.variables (count + 1) 0 k (h.as_many ∙ last) ∙ ap (λ n. n + 1) last)

pub instances_none : (p : Prepared) → AreInstances p []
instances_none p k x e = absurd (cc)

pub instances_more : (p : Prepared) (list next : List (Option Instance)) (x : Option Instance) → AreInstances p list → IsInstance p (length list) x
    → next ≡ list ++ x ∷ []
    → AreInstances p next
instances_more p list next x each here e k y at = by (push_cases list x k y (ap (λ l. slice_get l k) (sym e) ∙ at)) where
  by : (slice_get list k ≡ Some y) ⊎ ((k ≡ length list) × (y ≡ x)) → IsInstance p k y
  by (inl before) = each k y before
  by (inr (last, same)) = subst (λ n. IsInstance p n y) (sym last) (subst (IsInstance p (length list)) (sym same) here)
