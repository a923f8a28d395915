-- All have their types where those that are left do.
use Rattle.std.proofs.Common.{◌≡◌, ◌↔◌, drop, length}
use Rattle.tp_value.specs.HasType.{AllHave, FieldsHave, HasType}
use Rattle.tp_value.proofs.typing.+has_type.Given as goal

abbrev pub invariant-all_have-loop-value : goal.invariant-all_have-loop-value
invariant-all_have-loop-value l = AllHave (λ v t. HasType l.types t v) l.ty l.values ↔ AllHave (λ v t. HasType l.types t v) l.ty (drop l.value-index l.values)

abbrev pub invariant-fields_have-loop-index : goal.invariant-fields_have-loop-index
invariant-fields_have-loop-index l =
    (length l.declared ≡ length l.values)
    × (FieldsHave (λ v t. HasType l.types t v) l.declared l.values ↔ FieldsHave (λ v t. HasType l.types t v) (drop l.index l.declared) (drop l.index l.values))
