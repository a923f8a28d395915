-- Names, and the set that holds them.
use Rattle.std.proofs.Common.{◌≡◌, ◌≢◌, ℕ, ◌+◌, ◌≤◌, Bool, true, false, cond, List, [], ◌∷◌, ◌++◌, Some, None, map, length, get_or, slice_get, option_map, nat_lt, Contains, refl, ap, sym, ◌∙◌, arith, add-one, true≢false, ◌||◌}
use Rattle.std.proofs.{lemmas.List.get_or_default, lemmas.List.map_push, lemmas.List.Sums.fails_before_first}
use Rattle.std.proofs.{lemmas.List.Quantifiers.position-Some, lemmas.List.Quantifiers.all_pairs_push, lemmas.Slice.Eq.bytes_eq-Decides}
use Rattle.std.proofs.lemmas.Option.{slice_get-get_or, slice_get-map, same_Some}
use Rattle.std.specs.{List.position_or_len, List.list_any, Str.bytes_eq}
use Rattle.indexmap.specs.IndexSet.{insert_key}
use Rattle.tp_checks.specs.Tables.{AreDistinct, place_of_name}

-- the name that has the place is the one that was looked for
pub place_there : (names : List (List ℕ)) (name : List ℕ) (n : ℕ) → Some n ≡ place_of_name names name → slice_get names n ≡ Some name
place_there names name n e =
    let p = position-Some (bytes_eq name) names n name (sym e) in
    slice_get-get_or names n name p.0 ∙ ap (λ (x : List ℕ). Some x) (sym ((bytes_eq-Decides name (get_or names n name)).0 p.1))

pub place_known : (names : List (List ℕ)) (name : List ℕ) (n : ℕ) → Some n ≡ place_of_name names name → Contains names name
place_known names name n e =
    let p = position-Some (bytes_eq name) names n name (sym e) in
    (n, p.0, sym ((bytes_eq-Decides name (get_or names n name)).0 p.1))

pub place_unknown : (names : List (List ℕ)) (name : List ℕ) → None ≡ place_of_name names name → Contains names name → ⊥
place_unknown names name e (k, below, is) =
    let here : bytes_eq name (get_or names k name) ≡ true = (bytes_eq-Decides name (get_or names k name)).1 (sym is) in
    by (nat_lt (position_or_len (bytes_eq name) names) (length names)) refl e here
  where
    by : (b : Bool) → nat_lt (position_or_len (bytes_eq name) names) (length names) ≡ b
        → None ≡ cond b (Some (position_or_len (bytes_eq name) names)) None → bytes_eq name (get_or names k name) ≡ true → ⊥
    by true f none here = cc
    by false f none here =
        let past : length names ≤ position_or_len (bytes_eq name) names = grind (arith, f) in
        let other : bytes_eq name (get_or names k name) ≡ false = fails_before_first (bytes_eq name) names k name (omega arith) in
        true≢false (sym here ∙ other)

-- a name that is not there can be added
pub distinct_more : (names : List (List ℕ)) (name : List ℕ) → AreDistinct names → (Contains names name → ⊥) → AreDistinct (names ++ name ∷ [])
distinct_more names name each new = all_pairs_push (λ a b. a ≢ b) names name each (λ k d below same. new (k, below, get_or_default names k name d below ∙ same))

module _ {K : Type 0} (v : K → List ℕ) where
  none_equal : (ks : List K) (k : K) → (Contains (map v ks) (v k) → ⊥) → list_any (λ y. bytes_eq (v k) (v y)) ks ≡ false
  none_equal [] k new = refl
  none_equal (y ∷ ys) k new = by (bytes_eq (v k) (v y)) refl (none_equal ys k (λ (n, below, is). new (n + 1, omega arith, rw add-one is)))
    where
      by : (b : Bool) → bytes_eq (v k) (v y) ≡ b → list_any (λ y. bytes_eq (v k) (v y)) ys ≡ false → (b || list_any (λ y. bytes_eq (v k) (v y)) ys) ≡ false
      by true f later = absurd (new (0, omega arith, sym ((bytes_eq-Decides (v k) (v y)).0 f)))
      by false f later = later

  -- a new name goes last
  pub key_added : (ks : List K) (k : K) → (Contains (map v ks) (v k) → ⊥) → map v (insert_key (λ x y. bytes_eq (v x) (v y)) ks k) ≡ map v ks ++ v k ∷ []
  key_added ks k new = ap (λ b. map v (cond b ks (ks ++ k ∷ []))) (none_equal ks k new) ∙ map_push v ks k

-- what stands at the place of a name has the name
pub named_at : {A : Type 0} (names : List (List ℕ)) (f : A → List ℕ) (xs : List A) (name : List ℕ) (k : ℕ) (x : A) → names ≡ map f xs
    → Some k ≡ place_of_name names name → slice_get xs k ≡ Some x → f x ≡ name
named_at names f xs name k x named placed there =
    same_Some (f x) name (sym (slice_get-map f xs k ∙ ap (option_map f) there) ∙ ap (λ l. slice_get l k) (sym named) ∙ place_there names name k placed)
