-- How the tables grow, line by line.
use Rattle.std.specs.Prelude.{◌≡◌, ◌+◌, ◌<◌, ◌≤◌, ℕ, Some, Bool, true, false, List, [], ◌∷◌, ◌++◌, length, slice_get, ⊤}
use Rattle.tp_judge.specs.LineTexts.{Told, begins, resulted}
use Rattle.tp_judge.specs.declared.line.Act.{Act}
use Rattle.tp_judge.specs.declared.line.IndexedLine.{IndexedLine}
use Rattle.tp_judge.specs.declared.referee.tables.PortKey.{PortKey}
use Rattle.tp_judge.specs.declared.referee.tables.Tables.{Tables}
use Rattle.tp_judge.specs.Kept.{Keeps}
use Rattle.tp_judge.specs.Numbering.{IsAct, IsComponentNumber}

-- how many elements the tables have
abbrev pub size : Tables → ℕ
size t = length t.components + (length t.names + (length t.ports.keys + (length t.routes.keys + length t.messages)))

-- there are numbers of 32 bits for n more elements
abbrev pub HasRoom : ℕ → Tables → Type 0
HasRoom n t = size t + n ≤ 4294967296

-- the component of each port has a number
abbrev pub IsWhole : Tables → Type 0
IsWhole t = (k : ℕ) (port : PortKey) → slice_get t.ports.keys k ≡ Some port → port.component < length t.components

-- each element keeps its number, and at most n are new
pub record KeepsNumbers (n : ℕ) (old new : Tables) : Type 0 where
  pub components : Keeps old.components new.components
  pub names : Keeps old.names new.names
  pub ports : Keeps old.ports.keys new.ports.keys
  pub routes : Keeps old.routes.keys new.routes.keys
  pub messages : Keeps old.messages new.messages
  pub few : size new ≤ size old + n

-- the line is inside a section
abbrev pub IsInside : Told → Type 0
IsInside (begins name) = ⊥
IsInside (resulted word) = ⊥
IsInside _ = ⊤

-- the line begins a section
abbrev pub is_beginning : Told → Bool
is_beginning (begins name) = true
is_beginning _ = false

-- if the line begins a section, P holds for the name of its component
abbrev pub IsBegunBy : Told → (List ℕ → Type 0) → Type 0
IsBegunBy (begins name) P = P name
IsBegunBy _ P = ⊤

-- one more line, which is inside a section
pub record IsAdded (t : Tables) (here number : ℕ) (told : Told) (after : ℕ) (lines more : List IndexedLine) : Type 0 where
  pub stays : after ≡ here
  pub act : Act
  pub says : IsAct t here told act
  pub added : more ≡ lines ++ record { number = number; component = here; act = act } ∷ []

-- the line of this number is taken, in the section of the component `here`; after it the section is that of the
-- component `after`
abbrev pub IsTurn : Tables → ℕ → ℕ → Told → ℕ → List IndexedLine → List IndexedLine → Type 0
IsTurn t here number (begins name) after lines more = IsComponentNumber t after name × (more ≡ lines)
IsTurn t here number (resulted word) after lines more = (after ≡ here) × (more ≡ lines)
IsTurn t here number told after lines more = IsAdded t here number told after lines more
