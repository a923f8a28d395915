-- Histories whose entries are known by their kinds.
use Rattle.std.specs.Prelude.{◌≡◌, ◌<◌, ◌==◌, ℕ, Bool, true, false, Option, Some, None, List, cond, take, slice_get}
use Rattle.std.specs.Prelude.{option_and_then}
use Rattle.std.specs.List.{filter_map}
use Rattle.tp_judge.specs.declared.kind.EntryKind.{EntryKind}
use Rattle.tp_judge.specs.declared.kind.EntryKind.TheVariants as kind
use Rattle.tp_judge.specs.OneOrder.{Histories}

-- a place in the histories: the number of the component, and the place in its history
pub record Spot : Type 0 where
  pub comp : ℕ
  pub place : ℕ

-- the history of the component of each number
abbrev pub Kinds : Type 0 → Type 0
Kinds M = ℕ → List (EntryKind M)

-- whether the component did it itself
abbrev pub is_own : {M : Type 0} → EntryKind M → Bool
is_own {M} (kind.Sent to m) = true
is_own {M} (kind.Came m) = false
is_own {M} kind.Looked = true
is_own {M} kind.Quiet = true
is_own {M} kind.Nothing = false

-- the message of an arrival
abbrev pub came_of : {M : Type 0} → EntryKind M → Option M
came_of {M} (kind.Came m) = Some m
came_of {M} _ = None

-- the messages of the arrivals among these entries
abbrev pub came_in : {M : Type 0} → List (EntryKind M) → List M
came_in {M} k = filter_map came_of k

-- whether the entry sends to the component of this number
abbrev pub sends : {M : Type 0} → ℕ → EntryKind M → Bool
sends {M} d (kind.Sent to m) = d == to
sends {M} d _ = false

-- the message that the entry sends to the component of this number
abbrev pub sent_of : {M : Type 0} → ℕ → EntryKind M → Option M
sent_of {M} d (kind.Sent to m) = cond (d == to) (Some m) None
sent_of {M} d _ = None

-- the kind of the entry at the spot
abbrev pub kind_at : {M : Type 0} → Kinds M → Spot → Option (EntryKind M)
kind_at {M} kinds a = slice_get (kinds a.comp) a.place

-- the entry at the spot is something that its component did itself
pub record IsOwn {M : Type 0} (kinds : Kinds M) (a : Spot) : Type 0 where
  pub act : EntryKind M
  pub stands : kind_at kinds a ≡ Some act
  pub own : is_own act ≡ true

-- the message that is sent at the spot to the component
abbrev pub sent_from : {M : Type 0} → Kinds M → ℕ → Spot → Option M
sent_from {M} kinds d a = option_and_then (sent_of d) (kind_at kinds a)

-- the messages that are sent to the component at these spots, in their order
abbrev pub sent_by : {M : Type 0} → Kinds M → ℕ → List Spot → List M
sent_by {M} kinds d order = filter_map (sent_from kinds d) order

-- the messages that had arrived at the component before the spot
abbrev pub came_before : {M : Type 0} → Kinds M → Spot → List M
came_before {M} kinds a = came_in (take a.place (kinds a.comp))

-- the spots are of one component, the first before the second
abbrev pub IsEarlierSpot : Spot → Spot → Type 0
IsEarlierSpot a b = (a.comp ≡ b.comp) × (a.place < b.place)

-- what these histories say
abbrev pub histories_of : {M : Type 0} → Kinds M → Histories Spot M
histories_of {M} kinds = record {
  component = λ a. a.comp;
  IsOwn = IsOwn kinds;
  IsEarlier = IsEarlierSpot;
  IsLook = λ a. kind_at kinds a ≡ Some kind.Looked;
  sent_to = sent_from kinds;
  came_before = came_before kinds;
  came = λ c. came_in (kinds c);
}

-- messages that compare as equal are sent by one component
abbrev pub AreOwnedBy : {M : Type 0} → Kinds M → (M → ℕ) → Type 0
AreOwnedBy {M} kinds owner =
    (c p d : ℕ) (m : M) → slice_get (kinds c) p ≡ Some (kind.Sent d m) → owner m ≡ c

abbrev pub AreOwned : {M : Type 0} → Kinds M → Type 0
AreOwned {M} kinds = (owner : M → ℕ) × AreOwnedBy kinds owner
