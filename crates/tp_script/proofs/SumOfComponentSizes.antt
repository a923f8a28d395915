-- The sum of the sizes of what the components do.
use Rattle.std.proofs.Common.{◌≡◌, ◌⊎◌, inl, inr, ℕ, ◌+◌, ◌<◌, ◌≤◌, List, [], ◌∷◌, Option, None, Some, map, sum, slice_get, option_map, refl, sym, ap, ◌∙◌, arith}
use Rattle.std.proofs.{lemmas.Bool.cases_lt, lemmas.List.Sums.sum-map, lemmas.List.Sums.sum_by-cons}
use Rattle.std.specs.{List.slice_index_or, Option.option_map_or}
use Rattle.tp_config.proofs.PortLookupByFields.{get_or_mapped}
use Rattle.tp_play.specs.declared.body.Body.{Body}
use Rattle.tp_play.specs.{Sizes.size_limit, Sizes.capped, Sizes.size_of_body, Behaviours.size_of_behaviour}
use Rattle.tp_play.specs.Instances.{body_in, behaviour_of}
use Rattle.tp_checks.proofs.CappedStatementSizes.{cap_add, cap_above, cap_below}
use Rattle.tp_play.specs.declared.bodies.Bodies.{Bodies}
use Rattle.tp_play.specs.declared.instance.{Instance.Instance, WhichBody.WhichBody}
use Rattle.tp_play.specs.declared.instance.WhichBody.TheVariants as which_body
use Rattle.tp_script.specs.Instances.{size_from, size_of_instance}

pub sum_cons : {X : Type 0} (f : X → ℕ) (x : X) (xs : List X) → sum (map f (x ∷ xs)) ≡ f x + sum (map f xs)
sum_cons f x xs = sum-map f (x ∷ xs) ∙ sum_by-cons f x xs ∙ ap (λ n. f x + n) (sym (sum-map f xs))

cap_twice : (n : ℕ) → capped (capped n) ≡ capped n
cap_twice n = grind arith

capped_size : (o : Option Body) (refs : List ℕ)
    → capped (option_map_or (λ b. capped (size_of_body b)) o 0) ≡ capped (size_of_behaviour (option_map (λ b. record { body = b; references = refs }) o))
capped_size None refs = refl
capped_size (Some b) refs = cap_twice (size_of_body b)

module _ (bodies : Bodies) (own : ℕ) (sizes : List ℕ) (own_is : own ≡ capped (size_of_body bodies.main))
    (sizes_are : sizes ≡ map (λ b. capped (size_of_body b)) bodies.functions.items) where
  from : (s : WhichBody) (refs : List ℕ)
      → capped (size_from own sizes s) ≡ capped (size_of_behaviour (option_map (λ b. record { body = b; references = refs }) (body_in bodies s)))
  from which_body.TestCase refs = ap capped own_is ∙ cap_twice (size_of_body bodies.main)
  from (which_body.Function k) refs =
      ap (λ (l : List ℕ). capped (slice_index_or l k 0)) sizes_are
      ∙ ap capped (get_or_mapped (λ b. capped (size_of_body b)) bodies.functions.items k 0)
      ∙ capped_size (slice_get bodies.functions.items k) refs

  of_instance : (x : Option Instance) → capped (size_of_instance own sizes x) ≡ capped (size_of_behaviour (behaviour_of bodies x))
  of_instance None = refl
  of_instance (Some instance) = from instance.which_body (map (λ c. c.0) instance.references.items)

  pub sums : (instances : List (Option Instance)) → capped (sum (map (size_of_instance own sizes) instances)) ≡ capped
      (sum (map size_of_behaviour (map (behaviour_of bodies) instances)))
  sums [] = refl
  sums (x ∷ instances) =
      ap capped (sum_cons (size_of_instance own sizes) x instances)
      ∙ sym (cap_add (size_of_instance own sizes x) (sum (map (size_of_instance own sizes) instances)))
      ∙ ap (λ n. capped (n + capped (sum (map (size_of_instance own sizes) instances)))) (of_instance x)
      ∙ ap (λ n. capped (capped (size_of_behaviour (behaviour_of bodies x)) + n)) (sums instances)
      ∙ cap_add (size_of_behaviour (behaviour_of bodies x)) (sum (map size_of_behaviour (map (behaviour_of bodies) instances)))
      ∙ ap capped (sym (sum_cons size_of_behaviour (behaviour_of bodies x) (map (behaviour_of bodies) instances)))

pub few : (n : ℕ) → capped n < size_limit → n ≤ 100000
few n lt = by (cases_lt n size_limit) where
  by : (n < size_limit) ⊎ (size_limit ≤ n) → n ≤ 100000
  by (inl below) = omega (arith, below)
  by (inr above) = absurd (omega (arith, cap_above n above, lt))

pub many : (n : ℕ) → size_limit ≤ capped n → n ≤ 100000 → ⊥
many n le few = omega (arith, cap_below n (omega (arith, few)), le)
