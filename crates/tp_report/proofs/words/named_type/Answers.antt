-- Where no type has the number, the name is empty.
use Rattle.std.proofs.Common.{◌∙◌, ap, List, ℕ, Option, []}
use Rattle.std.specs.Prelude.{unwrap_or}
use Rattle.std.proofs.lemmas.Option.{unwrap_or-slice_get}
use Rattle.tp_value.specs.Types.{names_of_types}
use Rattle.tp_report.proofs.words.named_type.Goals as goal

pub returns-in-None : goal.returns-in-None
returns-in-None c = ap (λ (o : Option (List ℕ)). unwrap_or o []) c.in-None.ensures ∙ unwrap_or-slice_get (names_of_types c.args.types.now) c.args.number []
