-- The named types, and the map that holds them.
use Rattle.std.proofs.Common.{◌≡◌, ℕ, ◌+◌, ◌≤◌, Bool, true, false, cond, not, List, [], ◌∷◌, ◌++◌, Some, None, map, length, get_or, slice_get, position, nat_lt, Contains, refl, ap, sym, ◌∙◌, arith, add-one, true≢false}
use Rattle.std.proofs.lemmas.List.{length-map}
use Rattle.std.specs.List.{position_or_len}
use Rattle.std.specs.Str.{bytes_eq}
use Rattle.std.proofs.lemmas.List.Quantifiers.{position-Some}
use Rattle.std.proofs.lemmas.List.Sums.{fails_before_first}
use Rattle.std.proofs.lemmas.Option.{slice_get-get_or, slice_get-map}
use Rattle.std.specs.Option.{option_map}
use Rattle.std.proofs.lemmas.Slice.Eq.{bytes_eq-Decides}
use Rattle.indexmap.specs.IndexMap.{insert_entry}
use Rattle.tp_value.specs.declared.types.TypeDef.{TypeDef}
use Rattle.tp_value.specs.declared.types.Types.{Types}
use Rattle.tp_value.specs.Types.{names_of_types, type_number}

place_map : {X Y : Type 0} (v : X → Y) (p : Y → Bool) (xs : List X) → position_or_len (λ x. p (v x)) xs ≡ position_or_len p (map v xs)
place_map v p [] = refl
place_map v p (x ∷ xs) = ap (λ n. cond (not (p (v x))) (1 + n) 0) (place_map v p xs)

position_map : {X Y : Type 0} (v : X → Y) (p : Y → Bool) (xs : List X) → position (λ x. p (v x)) xs ≡ position p (map v xs)
position_map v p xs =
    ap (λ n. cond (nat_lt n (length xs)) (Some n) None) (place_map v p xs)
    ∙ ap (λ m. cond (nat_lt (position_or_len p (map v xs)) m) (Some (position_or_len p (map v xs))) None) (sym (length-map xs v))

-- the name of this number is the one that was looked for
pub name_there : (types : Types) (name : List ℕ) (n : ℕ) → Some n ≡ type_number types name → slice_get (names_of_types types) n ≡ Some name
name_there types name n e =
    let p = position-Some (bytes_eq name) (names_of_types types) n name (sym e) in
    slice_get-get_or (names_of_types types) n name p.0 ∙ ap (λ (x : List ℕ). Some x) (sym ((bytes_eq-Decides name (get_or (names_of_types types) n name)).0 p.1))

pub name_known : (types : Types) (name : List ℕ) (n : ℕ) → Some n ≡ type_number types name → Contains (names_of_types types) name
name_known types name n e =
    let p = position-Some (bytes_eq name) (names_of_types types) n name (sym e) in
    (n, p.0, sym ((bytes_eq-Decides name (get_or (names_of_types types) n name)).0 p.1))

pub name_unknown : (types : Types) (name : List ℕ) → None ≡ type_number types name → Contains (names_of_types types) name → ⊥
name_unknown types name e (k, below, is) =
    let here : bytes_eq name (get_or (names_of_types types) k name) ≡ true = (bytes_eq-Decides name (get_or (names_of_types types) k name)).1 (sym is) in
    by (nat_lt (position_or_len (bytes_eq name) (names_of_types types)) (length (names_of_types types))) refl e here
  where
    by : (b : Bool) → nat_lt (position_or_len (bytes_eq name) (names_of_types types)) (length (names_of_types types)) ≡ b
        → None ≡ cond b (Some (position_or_len (bytes_eq name) (names_of_types types))) None → bytes_eq name (get_or (names_of_types types) k name) ≡ true → ⊥
    by true f none here = cc
    by false f none here =
        let past : length (names_of_types types) ≤ position_or_len (bytes_eq name) (names_of_types types) = grind (arith, f) in
        let other : bytes_eq name (get_or (names_of_types types) k name) ≡ false = fails_before_first (bytes_eq name) (names_of_types types) k name (omega arith) in
        true≢false (sym here ∙ other)

module _ {K : Type 0} (v : K → List ℕ) where
  -- what contracts see of the entries
  abbrev pub shown : List (K × TypeDef) → Types
  shown es = map (λ e. (v e.0, e.1)) es

  names_shown : (es : List (K × TypeDef)) → map v (map (λ e. e.0) es) ≡ names_of_types (shown es)
  names_shown [] = refl
  names_shown (e ∷ es) = ap (λ r. v e.0 ∷ r) (names_shown es)

  -- a look-up among the keys gives the number
  pub number_is : (es : List (K × TypeDef)) (types : Types) (name : List ℕ) → shown es ≡ types
      → position (λ k. bytes_eq name (v k)) (map (λ e. e.0) es) ≡ type_number types name
  number_is es types name e =
      position_map v (bytes_eq name) (map (λ e. e.0) es) ∙ ap (position (bytes_eq name)) (names_shown es) ∙ ap (λ t. type_number t name) e

  -- the name of an entry
  pub name_at : (es : List (K × TypeDef)) (types : Types) (n : ℕ) → shown es ≡ types → slice_get (names_of_types types) n ≡ option_map (λ e. v e.0) (slice_get es n)
  name_at es types n e =
      ap (λ t. slice_get (names_of_types t) n) (sym e) ∙ ap (λ (l : List (List ℕ)). slice_get l n) (two es) ∙ slice_get-map (λ (e : K × TypeDef). v e.0) es n
    where
      two : (es : List (K × TypeDef)) → names_of_types (shown es) ≡ map (λ e. v e.0) es
      two [] = refl
      two (e ∷ es) = ap (λ r. v e.0 ∷ r) (two es)

  -- a new name goes last
  pub entry_added : (es : List (K × TypeDef)) (k : K) (d : TypeDef) → (Contains (names_of_types (shown es)) (v k) → ⊥)
      → shown (insert_entry (λ x y. bytes_eq (v x) (v y)) es k d) ≡ shown es ++ (v k, d) ∷ []
  entry_added [] k d new = refl
  entry_added (e ∷ es) k d new = by (bytes_eq (v k) (v e.0)) refl (entry_added es k d (λ (n, below, is). new (n + 1, omega arith, rw add-one is)))
    where
      by : (b : Bool) → bytes_eq (v k) (v e.0) ≡ b → shown (insert_entry (λ x y. bytes_eq (v x) (v y)) es k d) ≡ shown es ++ (v k, d) ∷ []
          → shown (cond b ((e.0, d) ∷ es) (e ∷ insert_entry (λ x y. bytes_eq (v x) (v y)) es k d)) ≡ shown (e ∷ es) ++ (v k, d) ∷ []
      by true f later = absurd (new (0, omega arith, sym ((bytes_eq-Decides (v k) (v e.0)).0 f)))
      by false f later = ap (λ r. (v e.0, e.1) ∷ r) later
