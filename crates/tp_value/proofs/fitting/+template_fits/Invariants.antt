-- All fit where those that are left do.
use Rattle.std.proofs.Common.{◌≡◌, ◌↔◌, drop, length}
use Rattle.tp_value.specs.HasType.{AllHave, FieldsHave}
use Rattle.tp_value.specs.Matches.{is_many}
use Rattle.tp_value.specs.Fits.{ElementsFit, Fits}
use Rattle.tp_value.proofs.fitting.+template_fits.Given as goal

abbrev pub invariant-all_fit-loop-member : goal.invariant-all_fit-loop-member
invariant-all_fit-loop-member l = AllHave (λ m t. Fits l.types t m) l.ty l.members ↔ AllHave (λ m t. Fits l.types t m) l.ty (drop l.member-index l.members)

abbrev pub invariant-elements_fit-loop-member : goal.invariant-elements_fit-loop-member
invariant-elements_fit-loop-member l =
    ElementsFit is_many (λ m t. Fits l.types t m) l.ty l.members ↔ ElementsFit is_many (λ m t. Fits l.types t m) l.ty (drop l.member-index l.members)

abbrev pub invariant-fields_fit-loop-index : goal.invariant-fields_fit-loop-index
invariant-fields_fit-loop-index l =
    (length l.declared ≡ length l.members)
    × (FieldsHave (λ m t. Fits l.types t m) l.declared l.members ↔ FieldsHave (λ m t. Fits l.types t m) (drop l.index l.declared) (drop l.index l.members))
