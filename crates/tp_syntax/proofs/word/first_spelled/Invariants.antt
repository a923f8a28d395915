-- No entry so far is spelled so: what the rest of the table answers is what the table answers.
use Rattle.std.proofs.Common.{◌≡◌, drop, map}
use Rattle.tp_syntax.specs.Word.{first_spelled}
use Rattle.tp_syntax.proofs.word.first_spelled.Given as goal

abbrev pub invariant-loop-spelling : goal.invariant-loop-spelling
invariant-loop-spelling l =
    first_spelled l.bytes (map (λ e. (e.0.now, e.1)) (drop l.spelling-index l.table)) ≡ first_spelled l.bytes (map (λ e. (e.0.now, e.1)) l.table)
