-- A template of each kind fits as its layer says, and fields fit only where there are as many.
use Rattle.std.proofs.Common.{rules, arith, ◌≡◌, length}
use Rattle.std.proofs.lemmas.Grind.{common_steps}
use Rattle.tp_value.proofs.HasTypeEquations.{FieldsHave-length}
use Rattle.tp_value.proofs.FitsEquations.{fits_exact, fits_any, fits_many, fits_one_of, fits_none_of, fits_range, fits_pattern, fits_record, fits_list}
use Rattle.tp_value.proofs.fitting.+template_fits.Goals as goal

pub fields_fit-returns-then-declared-members : goal.fields_fit-returns-then-declared-members
fields_fit-returns-then-declared-members t c =
    (λ h. (cc), λ h. let e : length c.args.declared.now ≡ length c.args.members.now = FieldsHave-length _ _ _ h in grind (arith, common_steps))

pub template_fits-returns-in-Exact : goal.template_fits-returns-in-Exact
template_fits-returns-in-Exact t c = rw (c.in-Exact.is, fits_exact) (search rules)

pub template_fits-returns-in-Any : goal.template_fits-returns-in-Any
template_fits-returns-in-Any t c = rw (c.in-Any.is, fits_any) (search rules)

pub template_fits-returns-in-AnyOrNone : goal.template_fits-returns-in-AnyOrNone
template_fits-returns-in-AnyOrNone t c = rw (c.in-AnyOrNone.is, fits_many) (search rules)

pub template_fits-returns-in-OneOf : goal.template_fits-returns-in-OneOf
template_fits-returns-in-OneOf t c = rw (c.in-OneOf.is, fits_one_of, ← c.as_slice.ensures) (search rules)

pub template_fits-returns-in-NoneOf : goal.template_fits-returns-in-NoneOf
template_fits-returns-in-NoneOf t c = rw (c.in-NoneOf.is, fits_none_of, ← c.as_slice-in-NoneOf.ensures) (search rules)

pub template_fits-returns-then-eq : goal.template_fits-returns-then-eq
template_fits-returns-then-eq t c = rw (c.in-Range.is, fits_range) (search rules)

pub template_fits-returns-else-eq : goal.template_fits-returns-else-eq
template_fits-returns-else-eq t c = rw (c.in-Range.is, fits_range) (search rules)

pub template_fits-returns-in-Pattern : goal.template_fits-returns-in-Pattern
template_fits-returns-in-Pattern t c = rw (c.in-Pattern.is, fits_pattern) (search rules)

pub template_fits-returns-in-Some-Record : goal.template_fits-returns-in-Some-Record
template_fits-returns-in-Some-Record t c =
    rw (
      c.in-Record.is,
      fits_record,
      ← c.in-Some-Record.ensures,
      c.in-Some-Record.field-0-is,
      ← c.as_slice-in-Some-Record.ensures,
      ← c.as_slice-in-Some-Record-2.ensures,
    ) (search rules)

pub template_fits-returns-in-Some-ListOf : goal.template_fits-returns-in-Some-ListOf
template_fits-returns-in-Some-ListOf t c = rw (c.in-Record.is, fits_record) (search rules)

pub template_fits-returns-in-Some-ListOf-2 : goal.template_fits-returns-in-Some-ListOf-2
template_fits-returns-in-Some-ListOf-2 t c = rw (c.in-Record.is, fits_record) (search rules)

pub template_fits-returns-in-Some-ListOf-definition : goal.template_fits-returns-in-Some-ListOf-definition
template_fits-returns-in-Some-ListOf-definition t c =
    rw (
      c.in-List.is,
      fits_list,
      ← c.in-Some-ListOf-definition.ensures,
      c.in-Some-ListOf-definition.field-0-is,
      ← c.as_slice-in-Some-ListOf-definition.ensures,
    ) (search rules)

pub template_fits-returns-in-Some-Record-definition : goal.template_fits-returns-in-Some-Record-definition
template_fits-returns-in-Some-Record-definition t c = rw (c.in-List.is, fits_list) (search rules)

pub template_fits-returns-in-Some-Record-definition-2 : goal.template_fits-returns-in-Some-Record-definition-2
template_fits-returns-in-Some-Record-definition-2 t c = rw (c.in-List.is, fits_list) (search rules)
