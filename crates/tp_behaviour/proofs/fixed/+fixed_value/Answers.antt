-- A value is fixed by what its kind is made of.
use Rattle.std.proofs.Common.{◌∙◌, Some, ap, subst, sym}
use Rattle.std.specs.Prelude.{All}
use Rattle.std.proofs.lemmas.List.{take_all}
use Rattle.std.proofs.lemmas.Option.{slice_get-get_or}
use Rattle.tp_behaviour.specs.Fixed.{IsFixedValue}
use Rattle.tp_behaviour.proofs.FixedValueRules.{fixed_bool, fixed_int, fixed_list, fixed_record, fixed_text}
use Rattle.tp_behaviour.proofs.BranchLookOutcomes.{one_more}
use Rattle.tp_behaviour.proofs.fixed.+fixed_value.Goals as goal

pub is_fixed_value-returns-in-Int : goal.is_fixed_value-returns-in-Int
is_fixed_value-returns-in-Int t c = λ yes. subst IsFixedValue (sym c.in-Int.is) (fixed_int c.in-Int.field-0)

pub is_fixed_value-returns-in-Bool : goal.is_fixed_value-returns-in-Bool
is_fixed_value-returns-in-Bool t c = λ yes. subst IsFixedValue (sym c.in-Bool.is) (fixed_bool c.in-Bool.field-0)

pub is_fixed_value-returns-in-Text : goal.is_fixed_value-returns-in-Text
is_fixed_value-returns-in-Text t c = λ yes. subst IsFixedValue (sym c.in-Text.is) (fixed_text c.in-Text.field-0)

pub is_fixed_value-returns-in-Record : goal.is_fixed_value-returns-in-Record
is_fixed_value-returns-in-Record t c = λ yes.
    subst IsFixedValue (sym c.in-Record.is) (fixed_record c.in-Record.fields (subst (All IsFixedValue) c.as_slice.ensures (c.are_fixed_values.ensures yes)))

pub is_fixed_value-returns-in-List : goal.is_fixed_value-returns-in-List
is_fixed_value-returns-in-List t c = λ yes.
    subst IsFixedValue (sym c.in-List.is)
    (fixed_list c.in-List.elements (subst (All IsFixedValue) c.as_slice-in-List.ensures (c.are_fixed_values-in-List.ensures yes)))

pub are_fixed_values-loop-value-preserved : goal.are_fixed_values-loop-value-preserved
are_fixed_values-loop-value-preserved t c =
    let xs = c.args.values.now in
    let i = c.loop-value.value-index in
    let x = c.value-item.result in
    one_more IsFixedValue i xs x (slice_get-get_or xs i x c.loop-value-test.true ∙ ap Some (sym c.value-item.is)) c.loop-value.invariant
    (c.is_fixed_value.ensures c.if-not-is_fixed_value.false)

pub are_fixed_values-returns : goal.are_fixed_values-returns
are_fixed_values-returns t c =
    λ yes. subst (All IsFixedValue) (take_all c.loop-value.value-index c.args.values.now c.loop-value-test.false) c.loop-value.invariant
