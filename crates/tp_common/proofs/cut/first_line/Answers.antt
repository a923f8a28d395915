-- The first line ends at the first byte 10, and is the whole text where there is none.
use Rattle.std.proofs.Common.{◌+◌, length, sym, ◌∙◌, arith}
use Rattle.std.specs.Prelude.{◌==◌}
use Rattle.tp_common.proofs.FirstLineOfText.{line_at, line_whole}
use Rattle.tp_common.proofs.BytePlacesInText.{found_within, front_all, front_at, left_at}
use Rattle.tp_common.proofs.cut.first_line.Goals as goal

pub returns-in-Some-clause-lines : goal.returns-in-Some-clause-lines
returns-in-Some-clause-lines c = line_at _ _ c.requires (sym c.find_byte.ensures ∙ c.in-Some.is)

pub returns-in-None-clause-lines : goal.returns-in-None-clause-lines
returns-in-None-clause-lines c = line_whole _ c.requires (sym c.find_byte.ensures ∙ c.in-None.is)

pub returns-in-Some-clause-front : goal.returns-in-Some-clause-front
returns-in-Some-clause-front c =
    let low = found_within (λ b. b == 10) c.args.text.now c.in-Some.place (sym c.find_byte.ensures ∙ c.in-Some.is) in
    front_at c.args.text.now c.in-Some.place (omega arith)

pub returns-in-Some-clause-left : goal.returns-in-Some-clause-left
returns-in-Some-clause-left c =
    let low = found_within (λ b. b == 10) c.args.text.now c.in-Some.place (sym c.find_byte.ensures ∙ c.in-Some.is) in
    left_at c.args.text.now (c.in-Some.place + 1) (omega arith)

pub returns-in-None-clause-front : goal.returns-in-None-clause-front
returns-in-None-clause-front c = front_all c.args.text.now

pub returns-in-None-clause-left : goal.returns-in-None-clause-left
returns-in-None-clause-left c = left_at c.args.text.now (length c.args.text.now) (omega arith)
