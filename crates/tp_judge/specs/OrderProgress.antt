-- How far a search for one order has gone through the histories of components.
use Rattle.std.specs.Prelude.{◌≡◌, ℕ, ◌<◌, ◌≤◌, ◌+◌, ◌^◌, Some, List, length, take, slice_get, slice_index, slice_set}
use Rattle.tp_judge.specs.declared.kind.EntryKind.{EntryKind}
use Rattle.tp_judge.specs.declared.kind.EntryKind.TheVariants as kind
use Rattle.tp_judge.specs.declared.progress.OrderProgress.{OrderProgress}
use Rattle.tp_judge.specs.OneOrder.{IsAt, IsFrontOf}
use Rattle.tp_judge.specs.Kinds.{IsOwn, Kinds, Spot, came_before, came_in, kind_at, sent_by}

-- the spot may follow these in an order
pub record MayComeNext {M : Type 0} (kinds : Kinds M) (before : List Spot) (a : Spot) : Type 0 where
  pub own : IsOwn kinds a
  pub new : (i : ℕ) → ¬ IsAt before i a
  pub kept : (j : ℕ) → j < a.place → IsOwn kinds (record { comp = a.comp; place = j })
      → (i : ℕ) × IsAt before i (record { comp = a.comp; place = j })
  pub sent : IsFrontOf (came_before kinds a) (sent_by kinds a.comp before)
  pub seen : kind_at kinds a ≡ Some kind.Looked → came_before kinds a ≡ sent_by kinds a.comp before

-- the order has everything that the components did themselves before these places; this many messages arrived at each
-- component before its place, and this many were sent to it by the entries in the order
pub record IsGone {M : Type 0} (kinds : Kinds M) (at came out : ℕ → ℕ) (order : List Spot) : Type 0 where
  pub follows : (i : ℕ) (a : Spot) → IsAt order i a → MayComeNext kinds (take i order) a
  pub each : (a : Spot) → IsOwn kinds a → a.place < at a.comp → (i : ℕ) × IsAt order i a
  pub below : (i : ℕ) (a : Spot) → IsAt order i a → a.place < at a.comp
  pub known : (c : ℕ) → length (came_in (take (at c) (kinds c))) ≡ came c
  pub most : (c : ℕ) → came c ≤ out c
  pub sent : (c : ℕ) → sent_by kinds c order ≡ take (out c) (came_in (kinds c))
  pub within : (c : ℕ) → at c ≤ length (kinds c)

-- the counts still fit after an entry of this kind
abbrev pub HasSpace : {M : Type 0} → List ℕ → List ℕ → ℕ → EntryKind M → Type 0
HasSpace {M} came sent c (kind.Came m) = slice_index came c + 1 < 2 ^ 64
HasSpace {M} came sent c (kind.Sent d m) = (d < length sent) × (slice_index sent d + 1 < 2 ^ 64)
HasSpace {M} came sent c _ = Unit {0}

-- after an entry of this kind: how many arrivals of each component are before its place, and how many messages were
-- sent to each
abbrev pub came_then : {M : Type 0} → ℕ → EntryKind M → List ℕ → List ℕ
came_then {M} c (kind.Came m) came = slice_set came c (slice_index came c + 1)
came_then {M} c _ came = came

abbrev pub sent_then : {M : Type 0} → EntryKind M → List ℕ → List ℕ
sent_then {M} (kind.Sent d m) sent = slice_set sent d (slice_index sent d + 1)
sent_then {M} _ sent = sent

-- the component to which the entry sends, or the component of the entry if it sends nothing
abbrev pub affected : {M : Type 0} → ℕ → EntryKind M → ℕ
affected {M} c (kind.Sent d m) = d
affected {M} c _ = c

-- the progress has its numbers for this number of components
pub record HasSize (progress : OrderProgress) (size : ℕ) : Type 0 where
  pub places : length progress.places.items ≡ size
  pub came : length progress.came.items ≡ size
  pub sent : length progress.sent.items ≡ size

-- the history has only entries of the kind `Nothing` before the place
pub record IsBegun {M : Type 0} (k : List (EntryKind M)) (place : ℕ) : Type 0 where
  pub within : place ≤ length k
  pub nothing : (q : ℕ) → q < place → slice_get k q ≡ Some kind.Nothing

-- the histories of this number of components begin at these places
abbrev pub BeginSo : {M : Type 0} → Kinds M → ℕ → (ℕ → ℕ) → Type 0
BeginSo {M} kinds size begin = (c : ℕ) → c < size → IsBegun (kinds c) (begin c)

-- the history of each of this number of components begins at its place
pub record AreBegun {M : Type 0} (kinds : Kinds M) (size : ℕ) (places : List ℕ) : Type 0 where
  pub size_is : length places ≡ size
  pub each : (c : ℕ) → c < length places → IsBegun (kinds c) (slice_index places c)
