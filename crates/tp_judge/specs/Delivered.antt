-- What makes the routes of a trace lawful, and where they aren't.
use Rattle.std.specs.Prelude.{◌≡◌, ◌≢◌, ◌<◌, ◌⊎◌, ℕ, true, Some, IsSome, List, length, slice_get}
use Rattle.std.specs.List.{filter_map}
use Rattle.tp_judge.specs.declared.line.Parcel.{Parcel}
use Rattle.tp_judge.specs.declared.line.IndexedLine.{IndexedLine}
use Rattle.tp_judge.specs.declared.line.By.TheVariants as by
use Rattle.tp_judge.specs.declared.place.Rule.TheVariants as rule
use Rattle.tp_judge.specs.declared.place.UnlawfulPlace.{UnlawfulPlace}
use Rattle.tp_judge.specs.declared.trace.IndexedTrace.{IndexedTrace}
use Rattle.tp_judge.specs.Lines.{lines_with, parcel_of}

-- the line names a parcel that was sent or arrived
abbrev pub NamesParcel : IndexedLine → Type 0
NamesParcel line = IsSome (parcel_of line.act)

-- the parcels that these lines name
abbrev pub parcels : List IndexedLine → List Parcel
parcels lines = filter_map (λ line. parcel_of line.act) lines

-- the k-th parcel, from 0
abbrev pub ParcelAt : List IndexedLine → ℕ → Parcel → Type 0
ParcelAt lines k p = slice_get (parcels lines) k ≡ Some p

-- they are numbered 0, 1, 2 and so on
abbrev pub AreParcelsNumbered : List Parcel → Type 0
AreParcelsNumbered ps = (k : ℕ) (p : Parcel) → slice_get ps k ≡ Some p → p.number ≡ k

-- **a route**: the parcels that were sent are those that arrived, in that order and each once, numbered from 0
pub record CameAsSent (sent came : List IndexedLine) : Type 0 where
  pub same : parcels sent ≡ parcels came
  pub numbered : AreParcelsNumbered (parcels sent)

-- the place is the k-th of these lines
pub record IsPlaceOfLine (lines : List IndexedLine) (k : ℕ) (place : UnlawfulPlace) : Type 0 where
  pub line : IndexedLine
  pub stands : slice_get lines k ≡ Some line
  pub told : place.line ≡ line.number

-- the first sending that doesn't have the next number
pub record IsMisnumbered (sent : List IndexedLine) (k : ℕ) : Type 0 where
  pub before : (j : ℕ) (p : Parcel) → j < k → ParcelAt sent j p → p.number ≡ j
  pub parcel : Parcel
  pub at : ParcelAt sent k parcel
  pub wrong : parcel.number ≢ k

-- at each place below this one, the arrival is that of the parcel that was sent there
abbrev pub AgreesBelow : List IndexedLine → List IndexedLine → ℕ → Type 0
AgreesBelow sent came n = (k : ℕ) → k < n → slice_get (parcels sent) k ≡ slice_get (parcels came) k

-- the first place at which the arrival differs from the sending
pub record DiffersAt (sent came : List IndexedLine) (k : ℕ) : Type 0 where
  pub before : AgreesBelow sent came k
  pub here : slice_get (parcels sent) k ≢ slice_get (parcels came) k

-- no sending has the parcel's number
abbrev pub NeverSent : List IndexedLine → Parcel → Type 0
NeverSent sent p = (j : ℕ) (q : Parcel) → ParcelAt sent j q → q.number ≢ p.number

-- no arrival has the parcel's number
abbrev pub NeverCame : List IndexedLine → Parcel → Type 0
NeverCame came p = (j : ℕ) (q : Parcel) → ParcelAt came j q → q.number ≢ p.number

-- nothing arrived at this place: there are no more arrivals
abbrev pub NothingCame : List IndexedLine → ℕ → Type 0
NothingCame came k = (p : Parcel) → ParcelAt came k p → ⊥

-- the parcel that arrived at the place was sent at a later one
abbrev pub IsOvertaken : List IndexedLine → List IndexedLine → ℕ → Type 0
IsOvertaken sent came k = (m : ℕ) × (p : Parcel) × (k < m) × ParcelAt sent m p × ParcelAt came k p

-- the first arrival with the number is this one, at this place
pub record IsFirstArrival (came : List IndexedLine) (number k : ℕ) (p : Parcel) : Type 0 where
  pub at : ParcelAt came k p
  pub is : p.number ≡ number
  pub none_before : (j : ℕ) (q : Parcel) → j < k → ParcelAt came j q → q.number ≢ number

-- what is wrong at this place of the route, the first at which the arrival differs from the sending. It is what is
-- wrong with the parcel that arrived there. If nothing arrived there, or a parcel that was sent later, it is what
-- happened to the parcel that was sent there
pub data IsWrongAt (sent came : List IndexedLine) (k : ℕ) (place : UnlawfulPlace) : Type 0 where
  -- the parcel that was sent there never arrived; in its place nothing did, or a parcel that was sent later
  lost : (p : Parcel) → place.rule ≡ rule.Lost → IsPlaceOfLine sent k place → ParcelAt sent k p → NeverCame came p
      → NothingCame came k ⊎ IsOvertaken sent came k → IsWrongAt sent came k place
  -- the parcel that arrived there has a number that had arrived before
  doubled : (j : ℕ) (p q : Parcel) → place.rule ≡ rule.Doubled → IsPlaceOfLine came k place → ParcelAt came k p
      → j < k → ParcelAt came j q → q.number ≡ p.number → IsWrongAt sent came k place
  -- the parcel that arrived there was never sent
  invented : (p : Parcel) → place.rule ≡ rule.Invented → IsPlaceOfLine came k place → ParcelAt came k p → NeverSent sent p
      → IsWrongAt sent came k place
  -- the parcel that arrived there is the first with its number, and under this number another message was sent
  changed : (j : ℕ) (p q : Parcel) → place.rule ≡ rule.Changed → IsPlaceOfLine came k place → ParcelAt sent j q
      → IsFirstArrival came q.number k p → q.message ≢ p.message → IsWrongAt sent came k place
  -- the parcel that was sent there arrived further down, with another message, and in its place one that was sent later
  changed_later : (m : ℕ) (p q : Parcel) → place.rule ≡ rule.Changed → IsPlaceOfLine came m place → IsOvertaken sent came k
      → ParcelAt sent k q → k < m → IsFirstArrival came q.number m p → q.message ≢ p.message → IsWrongAt sent came k place
  -- the parcel that was sent there arrived further down, and in its place one that was sent later
  reordered : (m : ℕ) (p : Parcel) → place.rule ≡ rule.Reordered → IsPlaceOfLine came m place → IsOvertaken sent came k
      → ParcelAt sent k p → k < m → IsFirstArrival came p.number m p → IsWrongAt sent came k place

-- the first place at which the route isn't lawful. Each of these lines names one parcel
pub data IsUnlawfulRoute (sent came : List IndexedLine) (place : UnlawfulPlace) : Type 0 where
  -- a sending doesn't have the next number
  numbering : (k : ℕ) → place.rule ≡ rule.Numbering → IsPlaceOfLine sent k place → IsMisnumbered sent k
      → IsUnlawfulRoute sent came place
  -- or each has it, and the arrivals differ from the sendings
  different : (k : ℕ) → AreParcelsNumbered (parcels sent) → DiffersAt sent came k → IsWrongAt sent came k place
      → IsUnlawfulRoute sent came place

-- both ends of the route have a section
abbrev pub IsJoined : IndexedTrace → ℕ → Type 0
IsJoined trace route = slice_get trace.joined.items route ≡ Some true

-- the route is lawful, if both its ends have a section
abbrev pub IsDeliveredAt : IndexedTrace → ℕ → Type 0
IsDeliveredAt trace route = IsJoined trace route
    → CameAsSent (lines_with by.Sent route trace.lines.items) (lines_with by.Came route trace.lines.items)

-- the place at which the route isn't lawful
pub record IsUnlawfulOn (trace : IndexedTrace) (route : ℕ) (place : UnlawfulPlace) : Type 0 where
  pub joined : IsJoined trace route
  pub broken : IsUnlawfulRoute (lines_with by.Sent route trace.lines.items)
      (lines_with by.Came route trace.lines.items) place

-- **delivery**: all routes are lawful
abbrev pub Delivered : IndexedTrace → Type 0
Delivered trace = (route : ℕ) → route < length trace.joined.items → IsDeliveredAt trace route

-- the first place at which some route isn't lawful
abbrev pub IsRoutePlace : IndexedTrace → UnlawfulPlace → Type 0
IsRoutePlace trace place = (route : ℕ) × (route < length trace.joined.items) × IsUnlawfulOn trace route place
