-- What it means that one order of everything that components did themselves gives their histories (ES 201 873-4): each
-- message is in its queue as soon as it is sent, and a look at ports sees everything that was sent to its component
-- before.
use Rattle.std.specs.Prelude.{◌≡◌, ℕ, ◌<◌, ◌++◌, Option, Some, List, take, slice_get}
use Rattle.std.specs.List.{filter_map}

-- what the histories of components say, with each entry at a place of its own, and messages as they are compared
pub record Histories (Place Message : Type 0) : Type 1 where
  -- the component in whose history the place is
  pub component : Place → ℕ
  -- the entry at the place is something that the component did itself
  pub IsOwn : Place → Type 0
  -- both places are in one history, the first before the second
  pub IsEarlier : Place → Place → Type 0
  -- at the place the component looks at ports
  pub IsLook : Place → Type 0
  -- the message that is sent at the place to the component of this number
  pub sent_to : ℕ → Place → Option Message
  -- the messages that had arrived at the component before the place
  pub came_before : Place → List Message
  -- all messages that arrived at the component of this number
  pub came : ℕ → List Message

-- the first list is a prefix of the second
abbrev pub IsFrontOf : {X : Type 0} → List X → List X → Type 0
IsFrontOf {X} front whole = (rest : List X) × (front ++ rest ≡ whole)

-- this is at that place of the order
abbrev pub IsAt : {X : Type 0} → List X → ℕ → X → Type 0
IsAt {X} order i a = slice_get order i ≡ Some a

-- the first comes before the second in the order
abbrev pub IsBefore : {X : Type 0} → List X → X → X → Type 0
IsBefore {X} order a b = (i : ℕ) × (j : ℕ) × (i < j) × IsAt order i a × IsAt order j b

-- the messages that are sent to the component at these places, in their order
abbrev pub all_sent : {P M : Type 0} → Histories P M → ℕ → List P → List M
all_sent {P} {M} histories component order = filter_map (histories.sent_to component) order

-- **the order gives the histories**
pub record IsOrderOf {P M : Type 0} (histories : Histories P M) (order : List P) : Type 0 where
  -- it has everything that the components did themselves, each once, and nothing else
  pub own : (i : ℕ) (a : P) → IsAt order i a → histories.IsOwn a
  pub each : (a : P) → histories.IsOwn a → (i : ℕ) × IsAt order i a
  pub once : (i j : ℕ) (a : P) → IsAt order i a → IsAt order j a → i ≡ j
  -- it keeps the order of each history
  pub kept : (a b : P) → histories.IsEarlier a b → histories.IsOwn a → histories.IsOwn b → IsBefore order a b
  -- the messages that had arrived at a component before it did something are a prefix of those sent to it before that
  pub sent : (i : ℕ) (a : P) → IsAt order i a
      → IsFrontOf (histories.came_before a) (all_sent histories (histories.component a) (take i order))
  -- and if it looks at ports, they are all messages that were sent to it before
  pub seen : (i : ℕ) (a : P) → IsAt order i a → histories.IsLook a
      → histories.came_before a ≡ all_sent histories (histories.component a) (take i order)
  -- in the end all messages that were sent have arrived, in the order of sending
  pub ended : (component : ℕ) → histories.came component ≡ all_sent histories component order

-- **one order**: there is such an order
abbrev pub HasOneOrder : {P M : Type 0} → Histories P M → Type 0
HasOneOrder {P} {M} histories = (order : List P) × IsOrderOf histories order
