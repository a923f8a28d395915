-- The places of names, and the set that holds them.
use Rattle.std.proofs.Common.{◌≡◌, ℕ, ◌+◌, ◌≤◌, Bool, true, false, cond, not, List, [], ◌∷◌, ◌++◌, Some, None, map}
use Rattle.std.proofs.Common.{length, get_or, position, nat_lt, Contains, zero, suc, ◌≢◌, slice_get, refl, ap, sym, ◌∙◌}
use Rattle.std.proofs.Common.{arith, add-one, true≢false, ◌||◌}
use Rattle.std.proofs.lemmas.List.{length-map, map_push}
use Rattle.std.specs.Bool.{MatchBool}
use Rattle.std.specs.Prelude.{AllPairs, slice_index_or}
use Rattle.std.specs.List.{position_or_len, list_any, IsDistinct}
use Rattle.std.specs.Str.{bytes_eq}
use Rattle.std.proofs.lemmas.List.Quantifiers.{position-Some}
use Rattle.std.proofs.lemmas.Map.Keys.{apart_from_distinct}
use Rattle.std.proofs.lemmas.Option.{same_Some, slice_get-get_or, get_or_from_slice_get}
use Rattle.std.proofs.lemmas.List.Sums.{fails_before_first}
use Rattle.std.proofs.lemmas.Slice.Eq.{bytes_eq-Decides}
use Rattle.indexmap.specs.IndexSet.{insert_key}
use Rattle.tp_judge.specs.Tree.{section_named}

place_map : {X Y : Type 0} (v : X → Y) (p : Y → Bool) (xs : List X) → position_or_len (λ x. p (v x)) xs ≡ position_or_len p (map v xs)
place_map v p [] = refl
place_map v p (x ∷ xs) = ap (λ n. cond (not (p (v x))) (1 + n) 0) (place_map v p xs)

-- a look-up by what is seen of the items
pub position_map : {X Y : Type 0} (v : X → Y) (p : Y → Bool) (xs : List X) → position (λ x. p (v x)) xs ≡ position p (map v xs)
position_map v p xs =
    ap (λ n. cond (nat_lt n (length xs)) (Some n) None) (place_map v p xs)
    ∙ ap (λ m. cond (nat_lt (position_or_len p (map v xs)) m) (Some (position_or_len p (map v xs))) None) (sym (length-map xs v))

pub place_known : (names : List (List ℕ)) (name : List ℕ) (n : ℕ) → Some n ≡ section_named names name → Contains names name
place_known names name n e =
    let p = position-Some (bytes_eq name) names n name (sym e) in
    (n, p.0, sym ((bytes_eq-Decides name (get_or names n name)).0 p.1))

pub place_unknown : (names : List (List ℕ)) (name : List ℕ) → None ≡ section_named names name → Contains names name → ⊥
place_unknown names name e (k, below, is) =
    let here : bytes_eq name (get_or names k name) ≡ true = (bytes_eq-Decides name (get_or names k name)).1 (sym is) in
    by (nat_lt (position_or_len (bytes_eq name) names) (length names)) refl e here
  where
    by : (b : Bool) → nat_lt (position_or_len (bytes_eq name) names) (length names) ≡ b
        → None ≡ cond b (Some (position_or_len (bytes_eq name) names)) None → bytes_eq name (get_or names k name) ≡ true → ⊥
    by true f none here = cc
    by false f none here =
        let past : length names ≤ position_or_len (bytes_eq name) names = grind (arith, f) in
        let other : bytes_eq name (get_or names k name) ≡ false = fails_before_first (bytes_eq name) names k name (omega arith) in
        true≢false (sym here ∙ other)

-- what stands in a list of views is the view of something
pub seen_at : {X Y : Type 0} (v : X → Y) (xs : List X) (k : ℕ) (y : Y) → slice_get (map v xs) k ≡ Some y
    → (x : X) × (slice_get xs k ≡ Some x) × (v x ≡ y)
seen_at v [] k y e = absurd (cc)
seen_at v (x ∷ xs) zero y e = (x, refl, same_Some (v x) y e)
seen_at v (x ∷ xs) (suc k) y e = seen_at v xs k y e

-- no two views are the same of a list of which no two are equal by a test that the views pass
pub views_apart : {X Y : Type 0} (v : X → Y) (eq : X → X → Bool) → ((x y : X) → v x ≡ v y → eq x y ≡ true) → (xs : List X) → IsDistinct eq xs
    → AllPairs (λ x y. x ≢ y) (map v xs)
views_apart v eq passes xs distinct i j d low high same =
    let few : length (map v xs) ≡ length xs = length-map xs v in
    let a = seen_at v xs i (slice_index_or (map v xs) i d) (slice_get-get_or (map v xs) i d (omega (arith, low, high))) in
    let b = seen_at v xs j (slice_index_or (map v xs) j d) (slice_get-get_or (map v xs) j d high) in
    let one = get_or_from_slice_get xs i a.0 a.0 a.1 in
    let other = get_or_from_slice_get xs j b.0 a.0 b.1 in
    let apart : eq (get_or xs i a.0) (get_or xs j a.0) ≡ false = apart_from_distinct eq xs i j a.0 distinct low (omega (arith, few, high)) in
    let equal : eq (get_or xs i a.0) (get_or xs j a.0) ≡ true = passes _ _ (ap v one ∙ a.2 ∙ same ∙ sym (ap v other ∙ b.2)) in
    true≢false (sym equal ∙ apart)

module _ {K : Type 0} (v : K → List ℕ) where
  equal_there : (ks : List K) (k : K) → list_any (λ y. bytes_eq (v k) (v y)) ks ≡ true → Contains (map v ks) (v k)
  equal_there [] k e = absurd (cc)
  equal_there (y ∷ ys) k e = by (bytes_eq (v k) (v y)) refl e (equal_there ys k)
    where
      by : (b : Bool) → bytes_eq (v k) (v y) ≡ b → (b || list_any (λ y. bytes_eq (v k) (v y)) ys) ≡ true
          → (list_any (λ y. bytes_eq (v k) (v y)) ys ≡ true → Contains (map v ys) (v k)) → Contains (map v (y ∷ ys)) (v k)
      by true f e rest = (0, omega arith, sym ((bytes_eq-Decides (v k) (v y)).0 f))
      by false f e rest = let there = rest e in (there.0 + 1, let low = there.1 in omega arith, rw add-one there.2)

  none_there : (ks : List K) (k : K) → list_any (λ y. bytes_eq (v k) (v y)) ks ≡ false → Contains (map v ks) (v k) → ⊥
  none_there [] k e (n, below, is) = absurd (omega arith)
  none_there (y ∷ ys) k e (zero, below, is) = here (bytes_eq (v k) (v y)) ((bytes_eq-Decides (v k) (v y)).1 (sym is)) e
    where
      here : (b : Bool) → b ≡ true → (b || list_any (λ y. bytes_eq (v k) (v y)) ys) ≡ false → ⊥
      here true f e = true≢false e
      here false f e = true≢false (sym f)
  none_there (y ∷ ys) k e (suc n, below, is) = none_there ys k (later (bytes_eq (v k) (v y)) e) (n, omega arith, is)
    where
      later : (b : Bool) → (b || list_any (λ y. bytes_eq (v k) (v y)) ys) ≡ false → list_any (λ y. bytes_eq (v k) (v y)) ys ≡ false
      later true e = absurd (true≢false e)
      later false e = e

  -- an insertion says whether the name is new
  pub name_inserted : (ks news : List K) (k : K) (added : Bool) → added ≡ not (list_any (λ y. bytes_eq (v k) (v y)) ks)
      → news ≡ insert_key (λ x y. bytes_eq (v x) (v y)) ks k
      → MatchBool added ((Contains (map v ks) (v k) → ⊥) × (map v news ≡ map v ks ++ v k ∷ [])) (Contains (map v ks) (v k))
  name_inserted ks news k added says is = by (list_any (λ y. bytes_eq (v k) (v y)) ks) refl added says is
    where
      by : (b : Bool) → list_any (λ y. bytes_eq (v k) (v y)) ks ≡ b → (added : Bool) → added ≡ not b → news ≡ cond b ks (ks ++ k ∷ [])
          → MatchBool added ((Contains (map v ks) (v k) → ⊥) × (map v news ≡ map v ks ++ v k ∷ [])) (Contains (map v ks) (v k))
      by true there false says is = equal_there ks k there
      by true there true says is = absurd (true≢false says)
      by false none true says is = (none_there ks k none, ap (map v) is ∙ map_push v ks k)
      by false none false says is = absurd (true≢false (sym says))
