-- What it is that a component can go on in its history, and that none can.
use Rattle.std.specs.Prelude.{◌≡◌, ℕ, zero, suc, ◌+◌, ◌<◌, ◌≤◌, ◌==◌, Some, List, cond, length, take, slice_get}
use Rattle.std.specs.Prelude.{slice_index}
use Rattle.std.specs.List.{sum_by}
use Rattle.tp_judge.specs.declared.progress.OrderProgress.{OrderProgress}
use Rattle.tp_judge.specs.declared.kind.EntryKind.{EntryKind}
use Rattle.tp_judge.specs.declared.kind.EntryKind.TheVariants as kind
use Rattle.tp_judge.specs.Kinds.{AreOwnedBy, Kinds, Spot, came_in, sent_by, sends}
use Rattle.tp_judge.specs.OrderProgress.{HasSize, IsGone}

-- how many messages are sent to the component in this history
abbrev pub count_sent_to : {M : Type 0} → ℕ → List (EntryKind M) → ℕ
count_sent_to {M} d k = sum_by (λ e. cond (sends d e) 1 0) k

-- how many of the messages are of this component
abbrev pub many : {M : Type 0} → (M → ℕ) → ℕ → List M → ℕ
many {M} owner c xs = sum_by (λ x. cond (owner x == c) 1 0) xs

-- each look of this history before which so many messages came, or fewer, stands before the place
abbrev pub AreLookedBefore : {M : Type 0} → List (EntryKind M) → ℕ → ℕ → Type 0
AreLookedBefore {M} k n place =
    (q : ℕ) → slice_get k q ≡ Some kind.Looked → length (came_in (take q k)) ≤ n → q < place

-- the order has what was sent before these places; no more is sent than came, and only after the looks that saw less
pub record IsGreedy {M : Type 0} (kinds : Kinds M) (owner : M → ℕ) (at out : ℕ → ℕ) (order : List Spot) : Type 0 where
  pub counted : (c d : ℕ) → many owner c (sent_by kinds d order) ≡ count_sent_to d (take (at c) (kinds c))
  pub fits : (c : ℕ) → out c ≤ length (came_in (kinds c))
  pub looked : (c q : ℕ) → slice_get (kinds c) q ≡ Some kind.Looked → length (came_in (take q (kinds c))) < out c → q < at c

-- some order is gone through so far, with these numbers for each component
abbrev pub IsProgressBy : {M : Type 0} → Kinds M → (M → ℕ) → List ℕ → List ℕ → List ℕ → Type 0
IsProgressBy {M} kinds owner places came sent =
    (order : List Spot) × IsGone kinds (slice_index places) (slice_index came) (slice_index sent) order
    × IsGreedy kinds owner (slice_index places) (slice_index sent) order

-- and messages that are compared alike are sent by one component
abbrev pub IsProgress : {M : Type 0} → Kinds M → OrderProgress → Type 0
IsProgress {M} kinds progress = (owner : M → ℕ) × AreOwnedBy kinds owner
    × IsProgressBy kinds owner progress.places.items progress.came.items progress.sent.items

-- the next message to that component is this one, and that one has looked where it was to look before
abbrev pub MaySend : {M : Type 0} → Kinds M → (ℕ → ℕ) → (ℕ → ℕ) → M → ℕ → Type 0
MaySend {M} kinds at out m d =
    (slice_get (came_in (kinds d)) (out d) ≡ Some m) × AreLookedBefore (kinds d) (out d) (at d)

-- the component can do a thing of this kind
abbrev pub CanHappen : {M : Type 0} → Kinds M → (ℕ → ℕ) → (ℕ → ℕ) → (ℕ → ℕ) → ℕ → EntryKind M → Type 0
CanHappen {M} kinds at came out c (kind.Came m) = came c < out c
CanHappen {M} kinds at came out c kind.Looked = came c ≡ out c
CanHappen {M} kinds at came out c kind.Quiet = Unit {0}
CanHappen {M} kinds at came out c kind.Nothing = Unit {0}
CanHappen {M} kinds at came out c (kind.Sent d m) = MaySend kinds at out m d

-- this component can't go on
abbrev pub CannotGoOn : {M : Type 0} → Kinds M → (ℕ → ℕ) → (ℕ → ℕ) → (ℕ → ℕ) → ℕ → Type 0
CannotGoOn {M} kinds at came out c =
    (e : EntryKind M) → slice_get (kinds c) (at c) ≡ Some e → ¬ CanHappen kinds at came out c e

-- none can
abbrev pub IsStuck : {M : Type 0} → Kinds M → (ℕ → ℕ) → (ℕ → ℕ) → (ℕ → ℕ) → Type 0
IsStuck {M} kinds at came out = (c : ℕ) → CannotGoOn kinds at came out c

-- the search has reached this progress in the histories of so many components, and none of them can advance
pub record IsStuckSearch {M : Type 0} (kinds : Kinds M) (size : ℕ) (progress : OrderProgress) : Type 0 where
  pub size_is : HasSize progress size
  pub gone : IsProgress kinds progress
  pub stuck : IsStuck kinds (slice_index progress.places.items) (slice_index progress.came.items)
      (slice_index progress.sent.items)

-- the sum of the first so many of these
abbrev pub sum_below : (ℕ → ℕ) → ℕ → ℕ
sum_below f zero = 0
sum_below f (suc n) = f 0 + sum_below (λ k. f (suc k)) n

-- how many entries the histories of the first so many components have
abbrev pub entries_of : {M : Type 0} → Kinds M → ℕ → ℕ
entries_of {M} kinds n = sum_below (λ c. length (kinds c)) n
