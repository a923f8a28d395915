-- How a line is read, part by part.
use Rattle.std.specs.Prelude.{◌≡◌, ℕ, ◌<◌, ◌^◌, Option, Some, None, List, ◌∷◌, ◌++◌, length}
use Rattle.std.specs.Fmt.{decimal}
use Rattle.tp_judge.specs.declared.referee.line.Line.{Line}
use Rattle.tp_judge.specs.declared.referee.line.Verb.{Verb}
use Rattle.tp_judge.specs.LineTexts.{Told, IsTold, verb_of, operands}
use Rattle.tp_judge.specs.Tree.{told_of}

-- a number below 2^63, and a text after it that has at least one byte
abbrev pub IsContents : ℕ → List ℕ → Type 0
IsContents n text = (n < 2 ^ 63) × (0 < length text)

-- a number in decimal, a space, and the text after it
abbrev pub contents_text : ℕ → List ℕ → List ℕ
contents_text n text = decimal n ++ (32 ∷ text)

-- a line of this verb and these operands was read, or none because no line has them
abbrev pub IsRead : Verb → Option (List ℕ) → Option Line → Type 0
IsRead verb rest None = (told : Told) → verb_of told ≡ verb → IsTold told → rest ≡ operands told → ⊥
IsRead verb rest (Some line) =
    (verb_of (told_of line) ≡ verb) × IsTold (told_of line) × (rest ≡ operands (told_of line))
