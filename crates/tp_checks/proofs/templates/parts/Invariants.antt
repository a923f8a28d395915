-- Each character of the pattern so far has its part.
use Rattle.std.proofs.Common.{◌≡◌, map, take}
use Rattle.tp_checks.specs.Messages.{part_of}
use Rattle.tp_checks.proofs.templates.parts.Given as goal

abbrev pub invariant-loop-character : goal.invariant-loop-character
invariant-loop-character l = l.parts ≡ map part_of (take l.character-index l.text)
