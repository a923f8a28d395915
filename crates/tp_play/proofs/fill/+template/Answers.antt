-- What stands inside a template speaks of no more loop variables than the template itself.
use Rattle.std.proofs.Common.{map, length, ap, ◌∙◌, arith, rules}
use Rattle.tp_play.specs.declared.body.RecvTemplate.TheViews.{the_lemmas}
use Rattle.tp_play.specs.Fills.{greatest, needed_by_template}
use Rattle.tp_play.proofs.FilledValueEquations.{needed_by_one_of, needed_by_none_of, needed_by_record, needed_by_list, enough_for_each}
use Rattle.tp_play.proofs.fill.+template.Goals as goal

pub fill_one-fill_all-requires : goal.fill_one-fill_all-requires
fill_one-fill_all-requires t c = (
  search (rules, the_lemmas),
  omega (
    arith,
    c.requires.given,
    ap needed_by_template c.in-OneOf.is ∙ needed_by_one_of c.in-OneOf.members,
    ap (λ l. greatest (map needed_by_template l)) c.as_slice.ensures,
  ),
)

pub fill_one-fill_all-requires-in-NoneOf : goal.fill_one-fill_all-requires-in-NoneOf
fill_one-fill_all-requires-in-NoneOf t c = (
  search (rules, the_lemmas),
  omega (
    arith,
    c.requires.given,
    ap needed_by_template c.in-NoneOf.is ∙ needed_by_none_of c.in-NoneOf.members,
    ap (λ l. greatest (map needed_by_template l)) c.as_slice-in-NoneOf.ensures,
  ),
)

pub fill_one-fill_all-requires-in-Record : goal.fill_one-fill_all-requires-in-Record
fill_one-fill_all-requires-in-Record t c = (
  search (rules, the_lemmas),
  omega (
    arith,
    c.requires.given,
    ap needed_by_template c.in-Record.is ∙ needed_by_record c.in-Record.members,
    ap (λ l. greatest (map needed_by_template l)) c.as_slice-in-Record.ensures,
  ),
)

pub fill_one-fill_all-requires-in-List : goal.fill_one-fill_all-requires-in-List
fill_one-fill_all-requires-in-List t c = (
  search (rules, the_lemmas),
  omega (
    arith,
    c.requires.given,
    ap needed_by_template c.in-List.is ∙ needed_by_list c.in-List.members,
    ap (λ l. greatest (map needed_by_template l)) c.as_slice-in-List.ensures,
  ),
)

pub fill_all-fill_one-requires : goal.fill_all-fill_one-requires
fill_all-fill_one-requires t c = (
  search (rules, the_lemmas),
  enough_for_each needed_by_template c.args.templates.now c.loop-template.template-index c.template-item.result
      (length c.args.turns.now) c.requires.given c.loop-template-test.true c.template-item.is,
)
