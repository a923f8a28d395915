-- Lists of types and fields.
use Rattle.std.proofs.Common.{◌≡◌, true, false, List, [], ◌∷◌, drop, refl, ap, ◌∙◌}
use Rattle.tp_syntax.specs.declared.token.Symbol.TheVariants.{RightBrace, Semicolon}
use Rattle.tp_tree.specs.declared.tree.Direction.{Direction}
use Rattle.tp_syntax.specs.Reading.{more, of, one, sym as symbol_leaf}
use Rattle.tp_syntax.specs.Rule.{a_declaration, a_field, a_parameter, a_type, a_way, declarations, declared_name, end_of_declaration, end_of_way, more_arguments, more_fields, more_names, more_parameters, more_types, more_ways, ways, who}
use Rattle.tp_syntax.specs.DefinitionTrees.{steps, direction_tree, ways_tree}
use Rattle.tp_syntax.proofs.StepsOfReading.{parsing}
use Rattle.tp_syntax.proofs.PartsAfterCommas.{Separated, gathered_first}
use Rattle.tp_syntax.proofs.PartsWithSemicolons.{InSteps, stepped_first}

pub fields_chain : Separated a_field more_fields
fields_chain = record { is = refl; silent = refl }

pub types_chain : Separated a_type more_types
types_chain = record { is = refl; silent = refl }

pub names_chain : Separated declared_name more_names
names_chain = record { is = refl; silent = refl }

pub arguments_chain : Separated who more_arguments
arguments_chain = record { is = refl; silent = refl }

pub parameters_chain : Separated a_parameter more_parameters
parameters_chain = record { is = refl; silent = refl }

pub ports_steps : InSteps a_declaration declarations end_of_declaration
ports_steps = record { goes = refl; ends = refl; silent = (refl, refl) }

pub ways_steps : InSteps a_way more_ways end_of_way
ways_steps = record { goes = refl; ends = refl; silent = (refl, refl) }

pub ways_one : (x : Direction) → x.has_semicolon ≡ false
    → ways_tree (x ∷ []) ≡ of ways (more (direction_tree x) (one (of end_of_way (one (symbol_leaf RightBrace)))))
ways_one x e = rw e refl

pub ways_more : (ds : List Direction) (x : Direction) → ds ≡ x ∷ drop 1 ds → x.has_semicolon ≡ true → ways_tree ds
    ≡ of ways (more (direction_tree x) (one (of end_of_way (more (symbol_leaf Semicolon) (one
    (steps more_ways end_of_way direction_tree (λ (y : Direction). y.has_semicolon) (drop 1 ds)))))))
ways_more ds x b e = ap ways_tree b ∙ rw e refl

pub ruleset listing = (parsing, gathered_first)

pub ruleset stepping = (parsing, stepped_first)
