-- The text of an integer is its type's name, a colon and its digits.
use Rattle.std.proofs.Common.{List, ℕ, [], ◌∷◌, subst, to_z-of_z}
use Rattle.std.specs.Fmt.{decimal}
use Rattle.tp_common.specs.Watching.{Writes}
use Rattle.tp_report.specs.ReportWords.{rest_of_line}
use Rattle.tp_report.proofs.IntegerMessageText.{integer_text}
use Rattle.tp_report.proofs.rest.write_rest_of_line.Goals as goal

pub returns-in-Some : goal.returns-in-Some
returns-in-Some g c =
    subst
    (λ (text : List ℕ). Writes g.W.Write.contents c.args.out.now c.write_integer.new.out (rest_of_line (decimal c.args.number ∷ text ∷ [])))
    (integer_text c.args.types.now record { ty = c.args.ty; value = c.args.value.now } c.in-Some.integer c.in-Some.ensures)
    (rw (to_z-of_z c.in-Some.ensures.2) at c.write_integer.ensures)
