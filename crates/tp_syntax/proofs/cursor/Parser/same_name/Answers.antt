-- The name that comes is the wanted one.
use Rattle.std.proofs.Common.{◌∙◌, List, ℕ, ap, sym}
use Rattle.std.specs.Str.{bytes_eq}
use Rattle.tp_syntax.proofs.BoundNames.{same_read}
use Rattle.tp_syntax.proofs.StepsOfReading.{parsed_ok}
use Rattle.tp_syntax.proofs.cursor.Parser.same_name.Goals as goal

pub returns-then-eq-clause-parses : goal.returns-then-eq-clause-parses
returns-then-eq-clause-parses c =
    parsed_ok (same_read c.skip.ensures c.in_ok-spelling.ensures.yes
    (sym (ap (λ (x : List ℕ). bytes_eq x c.in_ok-spelling.spelling.now) c.as_str.ensures) ∙ (sym c.eq.ensures ∙ c.if-eq.true)))
