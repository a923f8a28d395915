-- A value of each kind has the type as its layer says, a record only where it has as many fields.
use Rattle.std.proofs.Common.{rules, ◌≡◌, length, arith}
use Rattle.std.proofs.lemmas.Grind.{common_steps}
use Rattle.tp_value.proofs.HasTypeEquations.{has_int, has_bool, has_text, has_record, has_list, FieldsHave-length}
use Rattle.tp_value.proofs.typing.+has_type.Goals as goal

pub fields_have-returns-then-declared-values : goal.fields_have-returns-then-declared-values
fields_have-returns-then-declared-values t c =
    (λ h. (cc), λ h. let e : length c.args.declared.now ≡ length c.args.values.now = FieldsHave-length _ _ _ h in grind (arith, common_steps))

pub has_type-returns-in-Int : goal.has_type-returns-in-Int
has_type-returns-in-Int t c = rw (c.in-Int.is, has_int) (search rules)

pub has_type-returns-in-Bool : goal.has_type-returns-in-Bool
has_type-returns-in-Bool t c = rw (c.in-Bool.is, has_bool) (search rules)

pub has_type-returns-then-eq : goal.has_type-returns-then-eq
has_type-returns-then-eq t c = rw (c.in-Text.is, has_text) (search rules)

pub has_type-returns-else-eq : goal.has_type-returns-else-eq
has_type-returns-else-eq t c = rw (c.in-Text.is, has_text) (search rules)

pub has_type-returns-in-Some-Record : goal.has_type-returns-in-Some-Record
has_type-returns-in-Some-Record t c =
    rw (
      c.in-Record.is,
      has_record,
      ← c.in-Some-Record.ensures,
      c.in-Some-Record.field-0-is,
      ← c.as_slice-in-Some-Record.ensures,
      ← c.as_slice-in-Some-Record-2.ensures,
    ) (search rules)

pub has_type-returns-in-Some-ListOf : goal.has_type-returns-in-Some-ListOf
has_type-returns-in-Some-ListOf t c = rw (c.in-Record.is, has_record) (search rules)

pub has_type-returns-in-Some-ListOf-2 : goal.has_type-returns-in-Some-ListOf-2
has_type-returns-in-Some-ListOf-2 t c = rw (c.in-Record.is, has_record) (search rules)

pub has_type-returns-in-Some-ListOf-definition : goal.has_type-returns-in-Some-ListOf-definition
has_type-returns-in-Some-ListOf-definition t c =
    rw (
      c.in-List.is,
      has_list,
      ← c.in-Some-ListOf-definition.ensures,
      c.in-Some-ListOf-definition.field-0-is,
      ← c.as_slice-in-Some-ListOf-definition.ensures,
    ) (search rules)

pub has_type-returns-in-Some-Record-definition : goal.has_type-returns-in-Some-Record-definition
has_type-returns-in-Some-Record-definition t c = rw (c.in-List.is, has_list) (search rules)

pub has_type-returns-in-Some-Record-definition-2 : goal.has_type-returns-in-Some-Record-definition-2
has_type-returns-in-Some-Record-definition-2 t c = rw (c.in-List.is, has_list) (search rules)
