-- The names of the fields of a record, put into a table one after the other, and looked up there.
use Rattle.std.proofs.Common.{option_map, ◌≡◌, ℕ, ◌+◌, ◌<◌, List, [], ◌∷◌, ◌++◌, None, Some, map, take, length, get_or, slice_get, position, Contains, refl, sym, ap, ◌∙◌, subst, arith}
use Rattle.std.proofs.lemmas.List.{get_or_default, get_or-take, take_more, length-map, length-take}
use Rattle.std.proofs.lemmas.Option.{slice_get-map, slice_get_read, get_or_from_slice_get}
use Rattle.std.specs.Str.{bytes_eq}
use Rattle.indexmap.specs.IndexSet.{insert_key}
use Rattle.tp_value.specs.declared.types.Field.{Field}
use Rattle.tp_checks.specs.{Named.IsAbsent, Tables.AreDistinct, Placing.field_names}
use Rattle.tp_checks.proofs.{FirstPlacesOfNames.position_is_place, FirstPlacesOfNames.position_is_nowhere, NameSetLookups.key_added}
use Rattle.tp_config.proofs.ComponentAndPortLookups.{position_map}

-- a name isn't among those before it
name_is_new : (names : List (List ℕ)) (i : ℕ) (d : List ℕ) → AreDistinct names → i < length names → Contains (take i names) (get_or names i d) → ⊥
name_is_new names i d apart below (k, within, is) =
    let before : k < i = omega (arith, length-take i names) in
    apart k i (get_or names i d) before below
    (sym (get_or-take i names k (get_or names i d) before) ∙ is ∙ get_or_default names i d (get_or names i d) below)

module _ {K : Type 0} (v : K → List ℕ) (fields : List Field) where
  -- one name more is listed
  pub listed_more : (keys : List K) (k : K) (i : ℕ) (f : Field) → AreDistinct (field_names fields) → i < length fields → f ≡ get_or fields i f
      → v k ≡ f.name → map v keys ≡ take i (field_names fields)
      → map v (insert_key (λ x y. bytes_eq (v x) (v y)) keys k) ≡ take (i + 1) (field_names fields)
  listed_more keys k i f apart below here named before =
      let names = field_names fields in
      let within : i < length names = omega (arith, below, length-map fields (λ g. g.name)) in
      let at : get_or names i [] ≡ v k =
      get_or_from_slice_get names i f.name []
      (slice_get-map (λ g. g.name) fields i ∙ ap (option_map (λ g. g.name)) (slice_get_read fields (length fields) i f refl below here))
      ∙ sym named in
      let new : Contains (map v keys) (v k) → ⊥ = λ h.
      name_is_new names i [] apart within (subst (Contains (take i names)) (sym at) (subst (λ l. Contains l (v k)) before h)) in
      key_added v keys k new ∙ ap (λ l. l ++ v k ∷ []) before ∙ ap (λ y. take i names ++ y ∷ []) (sym at) ∙ sym (take_more names i [] within)

  -- where all are listed, a name stands in the table at the place of its field
  pub found_place : (keys : List K) (name : List ℕ) (k : ℕ) → map v keys ≡ field_names fields → Some k ≡ position (λ x. bytes_eq name (v x)) keys
      → slice_get (field_names fields) k ≡ Some name
  found_place keys name k all found =
      (position_is_place (field_names fields) name k
      (found ∙ position_map v (bytes_eq name) keys ∙ ap (position (bytes_eq name)) all)).there

  -- and one that isn't in it is that of no field
  pub found_none : (keys : List K) (name : List ℕ) → map v keys ≡ field_names fields → None ≡ position (λ x. bytes_eq name (v x)) keys
      → IsAbsent (field_names fields) name
  found_none keys name all none =
      position_is_nowhere (field_names fields) name (none ∙ position_map v (bytes_eq name) keys ∙ ap (position (bytes_eq name)) all)
