-- Names that are known.
use Rattle.std.proofs.Common.{◌≡◌, ℕ, true, List, Option, None, Some, All, Contains, get_or, is_some, refl}
use Rattle.std.proofs.lemmas.List.Sums.{AllPass-from_list_all, list_all-from_AllPass}
use Rattle.std.specs.List.{list_all}
use Rattle.tp_tree.specs.declared.tree.Direction.{Direction}
use Rattle.tp_checks.specs.{Tables.place_of_name, Resolved.ty_of, Rules.NamesType, Rules.has_known_messages}
use Rattle.tp_checks.proofs.NameSetLookups.{place_known, place_unknown}

pub known : (names : List (List ℕ)) (name : List ℕ) → is_some (place_of_name names name) ≡ true → Contains names name
known names name e = by (place_of_name names name) refl e where
  by : (o : Option ℕ) → o ≡ place_of_name names name → is_some o ≡ true → Contains names name
  by None f e = absurd (cc)
  by (Some n) f e = place_known names name n f

-- each name is known, where a look-up finds each
pub each_known : {A : Type 0} (names : List (List ℕ)) (f : A → List ℕ) (xs : List A) → list_all (λ x. is_some (place_of_name names (f x))) xs ≡ true
    → All (λ x. Contains names (f x)) xs
each_known names f xs e k d below = known names (f (get_or xs k d)) (AllPass-from_list_all (λ x. is_some (place_of_name names (f x))) xs e k d below)

pub there : (names : List (List ℕ)) (name : List ℕ) → Contains names name → is_some (place_of_name names name) ≡ true
there names name h = by (place_of_name names name) refl where
  by : (o : Option ℕ) → o ≡ place_of_name names name → is_some o ≡ true
  by None f = absurd (place_unknown names name f h)
  by (Some n) f = refl

-- a look-up finds each, where each name is known
pub each_there : {A : Type 0} (names : List (List ℕ)) (f : A → List ℕ) (xs : List A) → All (λ x. Contains names (f x)) xs
    → list_all (λ x. is_some (place_of_name names (f x))) xs ≡ true
each_there names f xs each =
    list_all-from_AllPass (λ x. is_some (place_of_name names (f x))) xs (λ k d below. there names (f (get_or xs k d)) (each k d below))

pub messages_known : (types : List (List ℕ)) (xs : List Direction) → has_known_messages types xs ≡ true → All (λ w. All (NamesType types) w.types) xs
messages_known types xs e k d below =
    AllPass-from_list_all (λ n. is_some (ty_of types n)) (get_or xs k d).types
    (AllPass-from_list_all (λ w. list_all (λ n. is_some (ty_of types n)) w.types) xs e k d below)

pub messages_there : (types : List (List ℕ)) (xs : List Direction) → All (λ w. All (NamesType types) w.types) xs → has_known_messages types xs ≡ true
messages_there types xs each =
    list_all-from_AllPass (λ w. list_all (λ n. is_some (ty_of types n)) w.types) xs
    (λ k d below. list_all-from_AllPass (λ n. is_some (ty_of types n)) (get_or xs k d).types (each k d below))
