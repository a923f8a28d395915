-- Which entry is for which field.
use Rattle.std.specs.Prelude.{◌≡◌, ◌<◌, ◌⊎◌, ℕ, List, [], map, Some, length, slice_get, All, Contains}
use Rattle.tp_value.specs.declared.types.Field.{Field}

-- the names of the fields, in declared order
abbrev pub field_names : List Field → List (List ℕ)
field_names fields = map (λ f. f.name) fields

-- the entries of these names are for the fields at these places: each has the name of its field, and each field has an
-- entry
pub record IsPlacing (fields : List Field) (names : List (List ℕ)) (places : List ℕ) : Type 0 where
  pub count : length names ≡ length fields
  pub as_many : length places ≡ length names
  pub same_name : (i k : ℕ) → slice_get places i ≡ Some k → slice_get (field_names fields) k ≡ slice_get names i
  pub each : (k : ℕ) → k < length fields → Contains places k

-- there are as many entries of these names as fields, and each field has an entry of its name
pub record HaveEntries (fields : List Field) (names : List (List ℕ)) : Type 0 where
  pub count : length names ≡ length fields
  pub each : All (Contains names) (field_names fields)

-- an entry of a record that fits the field of its name, given what an entry of a field stands for
pub record IsEntry {E W : Type 0} (name : E → List ℕ) (stands : Field → E → W → Type 0) (fields : List Field) (x : E)
    : Type 0 where
  pub place : ℕ
  pub field : Field
  pub made : W
  pub declared : slice_get fields place ≡ Some field
  pub same_name : name x ≡ field.name
  pub fits : stands field x made

-- a table of the names of the fields: it holds none yet, or all of them in declared order
abbrev pub IsTable : List Field → List (List ℕ) → Type 0
IsTable fields names = (names ≡ []) ⊎ (names ≡ field_names fields)
