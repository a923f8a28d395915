-- A pairing, item by item.
use Rattle.std.proofs.Common.{refl, ◌∙◌}
use Rattle.tp_syntax.specs.Parsing.{leads_this, leads_other, leads_last, leads_more}
use Rattle.tp_syntax.proofs.ReadingGoesOn.{goes_ok, leads_noted}
use Rattle.tp_syntax.proofs.CaseViews.{end_setup}
use Rattle.tp_syntax.proofs.cursor.Parser.setup_part.Goals as goal

pub returns-then-is_word-clause-goes : goal.returns-then-is_word-clause-goes
returns-then-is_word-clause-goes c =
    goes_ok (leads_noted refl refl (leads_this (c.is_word.ensures ∙ c.if-is_word.true) (leads_more c.pass_word.ensures.read (leads_more
    c.in_ok-first.ensures.parses.parsed (leads_last (end_setup c.end-end.ensures.ends))))))

pub returns-then-is_word-2-clause-goes : goal.returns-then-is_word-2-clause-goes
returns-then-is_word-2-clause-goes c =
    goes_ok (leads_noted refl refl (leads_other (c.is_word.ensures ∙ c.if-is_word.false) (leads_this (c.is_word-2.ensures ∙ c.if-is_word-2.true)
    (leads_more c.pass_word-then-is_word-2.ensures.read (leads_more c.in_ok-first-2.ensures.parses.parsed (leads_last (end_setup
    c.end-end-then-is_word-2.ensures.ends)))))))
