-- The cursor of each component: a place in its history that goes ahead to the next message to be sent to it.
use Rattle.std.specs.Prelude.{◌≡◌, ℕ, ◌<◌, ◌≤◌, Some, List, length, slice_get, slice_index, take, ◌↔◌}
use Rattle.tp_judge.specs.declared.kind.EntryKind.{EntryKind}
use Rattle.tp_judge.specs.declared.kind.EntryKind.TheVariants as kind
use Rattle.tp_judge.specs.declared.progress.ArrivalCursor.{ArrivalCursor}
use Rattle.tp_judge.specs.declared.progress.OrderProgress.{OrderProgress}
use Rattle.tp_judge.specs.Kinds.{Kinds, came_in}
use Rattle.tp_judge.specs.Greedy.{AreLookedBefore}

-- all looks before the first place of this history are also before the second
abbrev pub LookedUpTo : {M : Type 0} → List (EntryKind M) → ℕ → ℕ → Type 0
LookedUpTo {M} k place p = (q : ℕ) → q < place → slice_get k q ≡ Some kind.Looked → q < p

-- the second place is the least one after all looks before the first
abbrev pub IsAfter : {M : Type 0} → List (EntryKind M) → ℕ → ℕ → Type 0
IsAfter {M} k place after = (p : ℕ) → (after ≤ p) ↔ LookedUpTo k place p

-- the place is the least one after the looks that must come before the message of this number is sent
abbrev pub IsAfterLooks : {M : Type 0} → List (EntryKind M) → ℕ → ℕ → Type 0
IsAfterLooks {M} k number after = (p : ℕ) → (after ≤ p) ↔ AreLookedBefore k number p

-- the cursor counts the arrivals before its place, and has the least place after all looks before it
pub record IsCursorOf {M : Type 0} (k : List (EntryKind M)) (cursor : ArrivalCursor) : Type 0 where
  pub came : length (came_in (take cursor.place k)) ≡ cursor.came
  pub most : cursor.came ≤ cursor.place
  pub after : IsAfter k cursor.place cursor.after

-- each of this number of components has its cursor, which goes no further than to the next message to be sent to it
pub record AreCursorsOf {M : Type 0} (kinds : Kinds M) (size : ℕ) (progress : OrderProgress) (cursors : List ArrivalCursor)
    : Type 0 where
  pub size_is : length cursors ≡ size
  pub each : (c : ℕ) (cursor : ArrivalCursor) → slice_get cursors c ≡ Some cursor
      → IsCursorOf (kinds c) cursor × (cursor.came ≤ slice_index progress.sent.items c)

-- the cursor of the component is after the looks that must come before the message of this number is sent to it
abbrev pub HasPassedLooks : {M : Type 0} → List (EntryKind M) → ℕ → List ArrivalCursor → ℕ → Type 0
HasPassedLooks {M} k number cursors c =
    (cursor : ArrivalCursor) → slice_get cursors c ≡ Some cursor → IsAfterLooks k number cursor.after

-- a cursor at a place before which nothing happened
abbrev pub cursor_at : ℕ → ArrivalCursor
cursor_at place = record { place = place; came = 0; after = 0 }
