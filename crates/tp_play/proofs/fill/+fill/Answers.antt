-- The fields and elements of a value speak of no more loop variables than the value itself.
use Rattle.std.proofs.Common.{map, length, ap, ◌∙◌, arith, rules}
use Rattle.tp_play.specs.declared.body.SendValue.TheViews.{the_lemmas}
use Rattle.tp_play.specs.Fills.{greatest, needed}
use Rattle.tp_play.proofs.FilledValueEquations.{needed_record, needed_list, enough_for_each}
use Rattle.tp_play.proofs.fill.+fill.Goals as goal

pub fill_value-fill_values-requires : goal.fill_value-fill_values-requires
fill_value-fill_values-requires t c = (
  search (rules, the_lemmas),
  omega (
    arith,
    c.requires.given,
    ap needed c.in-Record.is ∙ needed_record c.in-Record.fields,
    ap (λ l. greatest (map needed l)) c.as_slice.ensures,
  ),
)

pub fill_value-fill_values-requires-in-List : goal.fill_value-fill_values-requires-in-List
fill_value-fill_values-requires-in-List t c = (
  search (rules, the_lemmas),
  omega (
    arith,
    c.requires.given,
    ap needed c.in-List.is ∙ needed_list c.in-List.elements,
    ap (λ l. greatest (map needed l)) c.as_slice-in-List.ensures,
  ),
)

pub fill_values-fill_value-requires : goal.fill_values-fill_value-requires
fill_values-fill_value-requires t c = (
  search (rules, the_lemmas),
  enough_for_each needed c.args.values.now c.loop-value.value-index c.value-item.result (length c.args.turns.now)
      c.requires.given c.loop-value-test.true c.value-item.is,
)
