-- The integers that a pattern of a queue file admits.
use Rattle.std.specs.Prelude.{◌≡◌, ℤ}
use Rattle.tp_port.specs.declared.pattern.IntegerPattern.{IntegerPattern}
use Rattle.tp_port.specs.declared.pattern.IntegerPattern.TheVariants as pattern

-- `?` admits every integer, and an integer only itself
abbrev pub Admits : IntegerPattern → ℤ → Type 0
Admits pattern.Any n = Unit {0}
Admits (pattern.Number wanted) n = n ≡ wanted
