-- Where a parcel with a given number arrived, from a given place on.
use Rattle.std.specs.Prelude.{◌≡◌, ◌≢◌, ◌<◌, ◌≤◌, ℕ, List}
use Rattle.tp_judge.specs.declared.line.Parcel.{Parcel}
use Rattle.tp_judge.specs.declared.line.IndexedLine.{IndexedLine}
use Rattle.tp_judge.specs.Delivered.{ParcelAt}

-- the first parcel with this number that arrived, from the place `from` on, is at the place k
pub record HasNumberFrom (came : List IndexedLine) (from number k : ℕ) : Type 0 where
  pub within : from ≤ k
  pub parcel : Parcel
  pub at : ParcelAt came k parcel
  pub is : parcel.number ≡ number
  pub none_before : (j : ℕ) (p : Parcel) → from ≤ j → j < k → ParcelAt came j p → p.number ≢ number

-- no parcel with this number arrived from this place on
abbrev pub NoNumberFrom : List IndexedLine → ℕ → ℕ → Type 0
NoNumberFrom came from number = (k : ℕ) (p : Parcel) → from ≤ k → ParcelAt came k p → p.number ≢ number
