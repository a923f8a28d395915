-- A `for` is 1 and its block once for each turn, up to where counting stops.
use Rattle.std.proofs.Common.{◌≡◌, ◌+◌, ◌*◌, ap, sym, ◌∙◌}
use Rattle.tp_play.specs.Sizes.{capped, size_of, size_of_all, turns_between}
use Rattle.tp_checks.proofs.CappedStatementSizes.{size_for, cap_one, cap_product}
use Rattle.tp_checks.proofs.size.+size.Goals as goal

pub count_statement-returns-in-For : goal.count_statement-returns-in-For
count_statement-returns-in-For t c =
    let turns = turns_between c.in-For.first c.in-For.bound in
    let block = size_of_all c.in-For.block in
    let inside : c.count_block-in-For.result ≡ capped block = c.count_block-in-For.ensures ∙ ap (λ l. capped (size_of_all l)) c.as_slice-in-For.ensures in
    let times : c.cap-in-For.result ≡ capped turns = c.cap-in-For.ensures ∙ ap capped c.turn_count.ensures in
    c.cap-in-For-2.ensures ∙ ap (λ x. capped (1 + x * c.count_block-in-For.result)) times ∙ ap (λ x. capped (1 + capped turns * x)) inside
    ∙ sym (cap_one (capped turns * capped block)) ∙ ap (λ x. capped (1 + x)) (cap_product turns block) ∙ cap_one (turns * block)
    ∙ ap capped (sym (ap size_of c.in-For.is ∙ size_for c.in-For.first c.in-For.bound c.in-For.block))
