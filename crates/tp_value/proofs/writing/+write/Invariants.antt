-- What writes the rest writes the whole.
use Rattle.std.proofs.Common.{drop}
use Rattle.tp_common.specs.declared.watched.Watched.{Watched}
use Rattle.tp_common.specs.Watching.{Writes}
use Rattle.tp_value.specs.ValueText.{element_texts, field_texts, comma_separated, value_text}
use Rattle.tp_value.specs.Separators.{listed_from}
use Rattle.tp_value.proofs.writing.+write.Given as goal

abbrev pub invariant-write_elements-loop-index : goal.invariant-write_elements-loop-index
invariant-write_elements-loop-index g l =
    (done : Watched _) → Writes g.W.Write.contents l.out done
    (listed_from l.index (element_texts (λ v t. value_text l.types t v) l.ty (drop l.index l.values)))
    → Writes g.W.Write.contents l.initial.out done (comma_separated (element_texts (λ v t. value_text l.types t v) l.ty l.values))

abbrev pub invariant-write_fields-loop-index : goal.invariant-write_fields-loop-index
invariant-write_fields-loop-index g l =
    (done : Watched _) → Writes g.W.Write.contents l.out done
    (listed_from l.index (field_texts (λ v t. value_text l.types t v) (drop l.index l.declared) (drop l.index l.values)))
    → Writes g.W.Write.contents l.initial.out done (comma_separated (field_texts (λ v t. value_text l.types t v) l.declared l.values))
