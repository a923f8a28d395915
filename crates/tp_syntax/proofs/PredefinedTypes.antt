-- The trees of predefined types.
use Rattle.std.proofs.Common.{◌≡◌, true, refl}
use Rattle.std.proofs.lemmas.Bool.{false≢true}
use Rattle.tp_syntax.specs.declared.token.Symbol.TheVariants.{Colon}
use Rattle.tp_tree.specs.declared.message.TypeName.{TypeName}
use Rattle.tp_tree.specs.declared.message.TypeName.TheVariants as type_name
use Rattle.tp_syntax.specs.Reading.{Tree, more, of, one, sym as symbol_leaf}
use Rattle.tp_syntax.specs.Rule.{a_type, sent}
use Rattle.tp_syntax.specs.OperationTrees.{is_predefined, message_sent, predefined_tree, type_tree}
use Rattle.tp_syntax.proofs.StepsOfReading.{parsing}

pub predefined_type : (t : TypeName) → is_predefined t ≡ true → type_tree t ≡ of a_type (one (predefined_tree t))
predefined_type type_name.Integer p = refl
predefined_type type_name.Boolean p = refl
predefined_type type_name.Charstring p = refl
predefined_type (type_name.Named n) p = absurd (false≢true p)

pub predefined_sent : (t : TypeName) (v : Tree) → is_predefined t ≡ true
    → message_sent t v ≡ of sent (more (predefined_tree t) (more (symbol_leaf Colon) (one v)))
predefined_sent type_name.Integer v p = refl
predefined_sent type_name.Boolean v p = refl
predefined_sent type_name.Charstring v p = refl
predefined_sent (type_name.Named n) v p = absurd (false≢true p)

pub ruleset predefined_parsing = (parsing, predefined_type, predefined_sent)
