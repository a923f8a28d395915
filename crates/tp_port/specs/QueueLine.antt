-- The lines of a queue file: what each one says, and how it is spelled.
use Rattle.std.specs.Prelude.{◌≡◌, ◌⊎◌, ℕ, ℤ, ◌-◌, ◌<◌, ◌≤◌, Bool, true, false, Option, Some, None, List, [], ◌∷◌}
use Rattle.std.specs.Prelude.{length, take, slice_get, get_or, codes, IfSome, All, FitsSigned}
use Rattle.std.specs.Int.{IsInRange, w64}
use Rattle.std.specs.List.{list_all, AllZip}
use Rattle.std.specs.Char.{is_ascii_alphabetic, is_ascii_alphanumeric}
use Rattle.std.specs.Fmt.{signed_decimal}
use Rattle.tp_common.specs.Cutting.{lines_of, words_of}
use Rattle.tp_port.specs.declared.pattern.IntegerPattern.{IntegerPattern}
use Rattle.tp_port.specs.declared.pattern.IntegerPattern.TheVariants as pattern
use Rattle.tp_port.specs.declared.command.CommandVerb.{CommandVerb}
use Rattle.tp_port.specs.declared.command.CommandVerb.TheVariants as verb

abbrev pub starts_with_letter : List ℕ → Bool
starts_with_letter [] = false
starts_with_letter (b ∷ bs) = is_ascii_alphabetic b

-- a letter, and then letters and digits: 1 to 20 in all
pub record IsName (name : List ℕ) : Type 0 where
  pub letter : starts_with_letter name ≡ true
  pub alphanumeric : list_all is_ascii_alphanumeric name ≡ true
  pub short : length name ≤ 20

-- the matching criteria of a receiving operation: the value of a message, and its sender, if one is named
pub record Wish : Type 0 where
  pub value : IntegerPattern
  pub from : Option (List ℕ)

-- a line of a queue file
pub data QueueLine : Type 0 where
  arrive : List ℕ → ℤ → QueueLine
  receive : Wish → QueueLine
  check : Wish → QueueLine
  trigger : Wish → QueueLine
  clear : QueueLine
  start : QueueLine
  stop : QueueLine
  halt : QueueLine

-- the first word of a line
abbrev pub verb_text : CommandVerb → List ℕ
verb_text verb.Arrive = codes "arrive"
verb_text verb.Receive = codes "receive"
verb_text verb.Check = codes "check"
verb_text verb.Trigger = codes "trigger"
verb_text verb.Clear = codes "clear"
verb_text verb.Start = codes "start"
verb_text verb.Stop = codes "stop"
verb_text verb.Halt = codes "halt"

abbrev pub verb_of : QueueLine → CommandVerb
verb_of (arrive name n) = verb.Arrive
verb_of (receive wish) = verb.Receive
verb_of (check wish) = verb.Check
verb_of (trigger wish) = verb.Trigger
verb_of clear = verb.Clear
verb_of start = verb.Start
verb_of stop = verb.Stop
verb_of halt = verb.Halt

-- the word is `0`, or it begins like any other integer in decimal: with a digit from 1 to 9, possibly after a `-`
abbrev pub BeginsAsInteger : List ℕ → Type 0
BeginsAsInteger word =
    (word ≡ codes "0") ⊎ IsInRange 49 57 (get_or word 0 0) ⊎ ((get_or word 0 0 ≡ 45) × IsInRange 49 57 (get_or word 1 0))

abbrev pub pattern_text : IntegerPattern → List ℕ
pattern_text pattern.Any = codes "?"
pattern_text (pattern.Number n) = signed_decimal n

abbrev pub from_words : Option (List ℕ) → List (List ℕ)
from_words None = []
from_words (Some name) = codes "from" ∷ name ∷ []

abbrev pub wish_words : Wish → List (List ℕ)
wish_words wish = pattern_text wish.value ∷ from_words wish.from

-- the words of an arrival: its sender's name, and its value
abbrev pub arrival_words : List ℕ → ℤ → List (List ℕ)
arrival_words name n = name ∷ signed_decimal n ∷ []

-- the words after the first
abbrev pub operands : QueueLine → List (List ℕ)
operands (arrive name n) = arrival_words name n
operands (receive wish) = wish_words wish
operands (check wish) = wish_words wish
operands (trigger wish) = wish_words wish
operands clear = []
operands start = []
operands stop = []
operands halt = []

-- an integer has 64 signed bits
abbrev pub PatternFits : IntegerPattern → Type 0
PatternFits pattern.Any = Unit {0}
PatternFits (pattern.Number n) = FitsSigned w64 n

abbrev pub IsWish : Wish → Type 0
IsWish wish = PatternFits wish.value × IfSome wish.from IsName

-- an arrival's sender is a name, and its value has 64 signed bits
abbrev pub IsArriveLine : List ℕ → ℤ → Type 0
IsArriveLine name n = IsName name × FitsSigned w64 n

-- the names in the line are valid, and its integers have 64 signed bits
abbrev pub IsQueueLine : QueueLine → Type 0
IsQueueLine (arrive name n) = IsArriveLine name n
IsQueueLine (receive wish) = IsWish wish
IsQueueLine (check wish) = IsWish wish
IsQueueLine (trigger wish) = IsWish wish
IsQueueLine clear = Unit {0}
IsQueueLine start = Unit {0}
IsQueueLine stop = Unit {0}
IsQueueLine halt = Unit {0}

-- the text says the line: its words are the line's, with one space between them and none elsewhere
abbrev pub Spells : List ℕ → QueueLine → Type 0
Spells text line = (words_of text ≡ verb_text (verb_of line) ∷ operands line) × IsQueueLine line

-- the text is a line of a queue file
abbrev pub IsGood : List ℕ → Type 0
IsGood text = (line : QueueLine) × Spells text line

-- the lines of the text say these, in order
abbrev pub Says : List ℕ → List QueueLine → Type 0
Says text lines = AllZip Spells (lines_of text) lines

-- a text says at most one list of lines
abbrev pub SaysOneAtMost : Type 0
SaysOneAtMost = (text : List ℕ) (these those : List QueueLine) → Says text these → Says text those → these ≡ those

-- the line of this number, from 1, is the first that isn't valid in a queue file
abbrev pub IsFirstBad : List (List ℕ) → ℕ → Type 0
IsFirstBad texts n = (0 < n)
    × All IsGood (take (n - 1) texts)
    × ((text : List ℕ) × (slice_get texts (n - 1) ≡ Some text) × ¬ IsGood text)
