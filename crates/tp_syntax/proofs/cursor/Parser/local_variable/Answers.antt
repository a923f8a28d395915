-- A variable, item by item.
use Rattle.std.proofs.Common.{ℕ, Some, refl, ap}
use Rattle.tp_syntax.specs.Reading.{reads_rule, reads_else, reads_more, reads_none}
use Rattle.tp_syntax.specs.Parsing.{leads_rule, leads_this, leads_last, leads_more}
use Rattle.tp_syntax.proofs.BehaviourViews.{end_local}
use Rattle.tp_syntax.proofs.ReadingGoesOn.{goes_ok}
use Rattle.tp_syntax.proofs.cursor.Parser.local_variable.Goals as goal

pub returns-clause-goes : goal.returns-clause-goes
returns-clause-goes c =
    goes_ok (leads_rule refl (leads_this c.requires (leads_more
    (reads_rule (ap (λ (n : ℕ). Some n) c.line-line.ensures) (reads_else (reads_more c.pass_word.ensures.read (reads_more c.in_ok-type_name.ensures.parses.parsed
    (reads_more c.in_ok-name.ensures.parses.parsed reads_none)))))
    (leads_last (end_local c.may_end-has_semicolon.ensures.end)))))
