-- Each field has an entry that stands for something, and there are no more entries than fields.
use Rattle.std.proofs.Common.{option_map, ◌≡◌, ℕ, List, length, map, Some, slice_get, get_or, Contains, sym, ap, ◌∙◌, arith, subst}
use Rattle.std.proofs.{lemmas.List.length-map, lemmas.List.Elements.All-map}
use Rattle.std.proofs.lemmas.Option.{slice_get-get_or, slice_get_within, get_or_from_slice_get, slice_get-map}
use Rattle.std.specs.List.{AllZip}
use Rattle.tp_value.specs.declared.types.Field.{Field}
use Rattle.tp_checks.specs.{Tables.AreDistinct, Placing.HaveEntries, Placing.field_names}
use Rattle.tp_checks.proofs.{ListPrefixGrowth.contains_at, ListPrefixGrowth.zip_beside, UniqueZipsAndPlaces.same_named}
use Rattle.tp_checks.proofs.DistinctNamesByCount.{none_twice}

-- as many names as fields, and each field's: no two of them are one
pub names_differ : (fields : List Field) (names : List (List ℕ)) → AreDistinct (field_names fields) → HaveEntries fields names → AreDistinct names
names_differ fields names apart all i j d before below same =
    none_twice (field_names fields) names apart (all.count ∙ sym (length-map fields (λ f. f.name))) all.each i j d (omega (arith, before, below)) below
    (λ e. omega (arith, e, before)) same

module _ {E W : Type 0} (name : E → List ℕ) (R : Field → E → W → Type 0) (entries : List E) where
  -- an entry of the field's name that stands for this
  pub record Entry (f : Field) (made : W) : Type 0 where
    pub at : ℕ
    pub entry : E
    pub is_entry : slice_get entries at ≡ Some entry
    pub same : name entry ≡ f.name
    pub stands : R f entry made

  -- each field has one
  module _ (fields : List Field) (made : List W) (as_many : length entries ≡ length fields) (all : AllZip Entry fields made) where
    pub have_entries : HaveEntries fields (map name entries)
    have_entries = record {
      count = length-map entries name ∙ as_many;
      each =
          All-map (Contains (map name entries)) (λ g. g.name) fields
          (λ k d below. among (get_or fields k d) k (zip_beside Entry fields made k (get_or fields k d) all (slice_get-get_or fields k d below)));
    }
      where
        among : (f : Field) (k : ℕ) → (y : W) × (slice_get made k ≡ Some y) × Entry f y → Contains (map name entries) f.name
        among f k (y, at, e) =
            let there : slice_get (map name entries) e.at ≡ Some f.name =
            slice_get-map name entries e.at ∙ ap (option_map name) e.is_entry ∙ ap Some e.same in
            (e.at, slice_get_within (map name entries) e.at f.name there, get_or_from_slice_get (map name entries) e.at f.name f.name there)

    -- so no two entries have one name
    pub distinct_entries : AreDistinct (field_names fields) → AreDistinct (map name entries)
    distinct_entries apart = names_differ fields (map name entries) apart have_entries

    -- and the entry of a field's name is the one that stands for something
    pub entry_stands : AreDistinct (field_names fields) → (i p : ℕ) (x : E) (f : Field) → slice_get entries i ≡ Some x → slice_get fields p ≡ Some f
        → name x ≡ f.name → (y : W) × R f x y
    entry_stands apart i p x f here is_field same =
        let beside = zip_beside Entry fields made p f all is_field in
        let e = beside.2 in
        let one = same_named name entries e.entry x (distinct_entries apart) (contains_at entries e.at e.entry e.is_entry) (contains_at entries i x here)
        (e.same ∙ sym same) in
        (beside.0, subst (λ z. R f z beside.0) one e.stands)
