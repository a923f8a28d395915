-- How many bytes are read from a reader, and how the reading of a text ends.
use Rattle.std.specs.Prelude.{◌≡◌, ℕ, ◌+◌, ◌*◌, ◌^◌, ◌≤◌, ◌⊎◌, Option, Some, None, List, length}
use Rattle.std.specs.Io.KnownBytes.{Consumes}
use Rattle.tp_common.specs.declared.text.ReadFault.{ReadFault}
use Rattle.tp_common.specs.declared.text.ReadFault.TheVariants as read_fault

-- a size of the buffer for the text while it is doubled: 0, or 8,192 doubled any number of times
abbrev pub IsCapacity : ℕ → Type 0
IsCapacity n = (n ≡ 0) ⊎ ((k : ℕ) × (n ≡ 8192 * 2 ^ k))

-- a size of the buffer: doubled each time, up to one byte more than the limit
abbrev pub IsRoom : ℕ → ℕ → Type 0
IsRoom limit n = IsCapacity n ⊎ (n ≡ limit + 1)

-- n bytes have been read when reading ends with this fault, or with none: one more than the limit if and only if there
-- are too many; memory runs out only when the buffer is full
abbrev pub EndsAt : ℕ → Option ReadFault → ℕ → Type 0
EndsAt limit None n = n ≤ limit
EndsAt limit (Some read_fault.Read) n = n ≤ limit
EndsAt limit (Some read_fault.Limit) n = n ≡ limit + 1
EndsAt limit (Some read_fault.Memory) n = (n ≤ limit) × IsCapacity n

-- reading within this limit consumes bytes at the front of what the reader has, if that is known, and ends with this
-- fault, or with none
abbrev pub TakesWithin : ℕ → Option (List ℕ) → Option (List ℕ) → Option ReadFault → Type 0
TakesWithin limit old new fault = (bytes : List ℕ) × Consumes old new bytes × EndsAt limit fault (length bytes)

-- the same with a limit of 1 MiB
abbrev pub TakesBytes : Option (List ℕ) → Option (List ℕ) → Option ReadFault → Type 0
TakesBytes old new fault = TakesWithin 1048576 old new fault
