-- A template is fixed by what its kind is made of.
use Rattle.std.proofs.Common.{◌∙◌, Some, ap, subst, sym}
use Rattle.std.specs.Prelude.{All}
use Rattle.std.proofs.lemmas.List.{take_all}
use Rattle.std.proofs.lemmas.Option.{slice_get-get_or}
use Rattle.tp_behaviour.specs.Fixed.{IsFixed}
use Rattle.tp_behaviour.proofs.FixedValueRules.{fixed_any, fixed_elements, fixed_exact, fixed_many, fixed_members, fixed_none_of, fixed_one_of, fixed_pattern, fixed_range}
use Rattle.tp_behaviour.proofs.BranchLookOutcomes.{one_more}
use Rattle.tp_behaviour.proofs.fixed.+fixed_template.Goals as goal

pub is_fixed-returns-in-Exact : goal.is_fixed-returns-in-Exact
is_fixed-returns-in-Exact t c = λ yes. subst IsFixed (sym c.in-Exact.is) (fixed_exact c.in-Exact.value (c.is_fixed_value.ensures yes))

pub is_fixed-returns-in-Any : goal.is_fixed-returns-in-Any
is_fixed-returns-in-Any t c = λ yes. subst IsFixed (sym c.in-Any.is) fixed_any

pub is_fixed-returns-in-AnyOrNone : goal.is_fixed-returns-in-AnyOrNone
is_fixed-returns-in-AnyOrNone t c = λ yes. subst IsFixed (sym c.in-AnyOrNone.is) fixed_many

pub is_fixed-returns-in-Range : goal.is_fixed-returns-in-Range
is_fixed-returns-in-Range t c = λ yes. subst IsFixed (sym c.in-Range.is) (fixed_range c.in-Range.field-0 c.in-Range.field-1)

pub is_fixed-returns-in-Pattern : goal.is_fixed-returns-in-Pattern
is_fixed-returns-in-Pattern t c = λ yes. subst IsFixed (sym c.in-Pattern.is) (fixed_pattern c.in-Pattern.field-0)

pub is_fixed-returns-in-OneOf : goal.is_fixed-returns-in-OneOf
is_fixed-returns-in-OneOf t c = λ yes.
    subst IsFixed (sym c.in-OneOf.is) (fixed_one_of c.in-OneOf.members (subst (All IsFixed) c.as_slice.ensures (c.are_fixed.ensures yes)))

pub is_fixed-returns-in-NoneOf : goal.is_fixed-returns-in-NoneOf
is_fixed-returns-in-NoneOf t c = λ yes.
    subst IsFixed (sym c.in-NoneOf.is)
    (fixed_none_of c.in-NoneOf.members (subst (All IsFixed) c.as_slice-in-NoneOf.ensures (c.are_fixed-in-NoneOf.ensures yes)))

pub is_fixed-returns-in-Record : goal.is_fixed-returns-in-Record
is_fixed-returns-in-Record t c = λ yes.
    subst IsFixed (sym c.in-Record.is)
    (fixed_members c.in-Record.members (subst (All IsFixed) c.as_slice-in-Record.ensures (c.are_fixed-in-Record.ensures yes)))

pub is_fixed-returns-in-List : goal.is_fixed-returns-in-List
is_fixed-returns-in-List t c = λ yes.
    subst IsFixed (sym c.in-List.is) (fixed_elements c.in-List.members (subst (All IsFixed) c.as_slice-in-List.ensures (c.are_fixed-in-List.ensures yes)))

pub are_fixed-loop-template-preserved : goal.are_fixed-loop-template-preserved
are_fixed-loop-template-preserved t c =
    let xs = c.args.templates.now in
    let i = c.loop-template.template-index in
    let x = c.template-item.result in
    one_more IsFixed i xs x (slice_get-get_or xs i x c.loop-template-test.true ∙ ap Some (sym c.template-item.is)) c.loop-template.invariant
    (c.is_fixed.ensures c.if-not-is_fixed.false)

pub are_fixed-returns : goal.are_fixed-returns
are_fixed-returns t c =
    λ yes. subst (All IsFixed) (take_all c.loop-template.template-index c.args.templates.now c.loop-template-test.false) c.loop-template.invariant
