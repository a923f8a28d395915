-- Where each field has an entry and there are no more of them, no entry is refused.
use Rattle.std.proofs.Common.{◌⊎◌, inl, inr, ◌≡◌, ◌≢◌, ℕ, ◌<◌, ◌≤◌, Bool, true, List, [], ◌∷◌, ◌++◌, length, Some, slice_get, slice_set, get_or, Contains, sym, ap, ◌∙◌, arith, subst}
use Rattle.std.proofs.lemmas.Bool.{cases_lt}
use Rattle.std.proofs.lemmas.List.{get_or-set_other, get_or-set_same, length-set, length-map}
use Rattle.std.proofs.lemmas.Option.{slice_get-get_or, slice_get_within, get_or_from_slice_get}
use Rattle.tp_value.specs.declared.types.Field.{Field}
use Rattle.tp_checks.specs.{Named.IsAbsent, Tables.AreDistinct, Placing.HaveEntries, Placing.field_names}
use Rattle.tp_checks.proofs.{PlacedEntriesGrowth.push_cases, DistinctNamesByCount.none_other, EachFieldHasEntry.names_differ}
use Rattle.tp_checks.proofs.UniqueZipsAndPlaces.{once}

-- the place of each entry is taken, and so is that of one more
pub placed_more : (taken : List Bool) (places : List ℕ) (p : ℕ) → p < length taken
    → ((i k : ℕ) → slice_get places i ≡ Some k → slice_get taken k ≡ Some true)
    → (i k : ℕ) → slice_get (places ++ p ∷ []) i ≡ Some k → slice_get (slice_set taken p true) k ≡ Some true
placed_more taken places p below before i k there = by (push_cases places p i k there) where
  now : slice_get (slice_set taken p true) p ≡ Some true
  now =
      slice_get-get_or (slice_set taken p true) p true (omega (arith, below, length-set taken p true))
      ∙ ap Some (get_or-set_same taken p true true below)

  other : k ≢ p → slice_get taken k ≡ Some true → slice_get (slice_set taken p true) k ≡ Some true
  other differ earlier =
      slice_get-get_or (slice_set taken p true) k true (omega (arith, slice_get_within taken k true earlier, length-set taken p true))
      ∙ ap Some (get_or-set_other taken p k true true differ ∙ get_or_from_slice_get taken k true true earlier)

  kept : slice_get taken k ≡ Some true → (k < p) ⊎ (p ≤ k) → (p < k) ⊎ (k ≤ p) → slice_get (slice_set taken p true) k ≡ Some true
  kept earlier (inl lt) after = other (omega arith) earlier
  kept earlier (inr le) (inl gt) = other (omega arith) earlier
  kept earlier (inr le) (inr ge) = let same : p ≡ k = omega arith in subst (λ m. slice_get (slice_set taken p true) m ≡ Some true) same now

  by : (slice_get places i ≡ Some k) ⊎ ((i ≡ length places) × (k ≡ p)) → slice_get (slice_set taken p true) k ≡ Some true
  by (inl earlier) = kept (before i k earlier) (cases_lt k p) (cases_lt p k)
  by (inr last) = subst (λ m. slice_get (slice_set taken p true) m ≡ Some true) (sym last.1) now

module _ (fields : List Field) (names : List (List ℕ)) (apart : AreDistinct (field_names fields)) (all : HaveEntries fields names) where
  count : length names ≡ length (field_names fields)
  count = all.count ∙ sym (length-map fields (λ f. f.name))

  -- none has a name that no field has
  pub no_unknown : (i : ℕ) (name : List ℕ) → slice_get names i ≡ Some name → IsAbsent (field_names fields) name → ⊥
  no_unknown i name there absent =
      none_other (field_names fields) names apart count all.each i name (slice_get_within names i name there)
      (λ (k, below, is).
      absent k
      (slice_get-get_or (field_names fields) k (get_or names i name) below ∙ ap Some (is ∙ get_or_from_slice_get names i name name there)))

  -- none has the place of an earlier one
  pub no_second : (places : List ℕ) (p : ℕ) (name : List ℕ)
      → ((i k : ℕ) → slice_get places i ≡ Some k → slice_get (field_names fields) k ≡ slice_get names i)
      → slice_get names (length places) ≡ Some name → slice_get (field_names fields) p ≡ Some name → Contains places p → ⊥
  no_second places p name same_name there placed (m, below, is) =
      let first : slice_get names m ≡ Some name = sym (same_name m p (slice_get-get_or places m p below ∙ ap Some is)) ∙ placed in
      omega (arith, below, once names name m (length places) (names_differ fields names apart all) first there)

  -- in the end each field has its entry
  pub none_missing : (places : List ℕ) → ((i k : ℕ) → slice_get places i ≡ Some k → slice_get (field_names fields) k ≡ slice_get names i)
      → length places ≡ length names → (k : ℕ) → k < length fields → (j : ℕ) × (slice_get places j ≡ Some k)
  none_missing places same_name many k below = (at, is_place ∙ ap Some same) where
    within : k < length (field_names fields)
    within = omega (arith, below, length-map fields (λ f. f.name))

    name : List ℕ
    name = get_or (field_names fields) k []

    entry : Contains names name
    entry = all.each k [] within

    at : ℕ
    at = entry.0

    place : ℕ
    place = get_or places at 0

    is_place : slice_get places at ≡ Some place
    is_place = slice_get-get_or places at 0 (omega (arith, entry.1, many))

    there : slice_get (field_names fields) place ≡ Some name
    there = same_name at place is_place ∙ slice_get-get_or names at name entry.1 ∙ ap Some entry.2

    same : place ≡ k
    same = once (field_names fields) name place k apart there (slice_get-get_or (field_names fields) k [] within)
