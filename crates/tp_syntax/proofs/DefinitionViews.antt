-- The ends of definitions.
use Rattle.std.proofs.Common.{Bool, refl}
use Rattle.tp_syntax.specs.Rule.{a_definition, definitions, end_of_list}
use Rattle.tp_syntax.specs.declared.cursor.Parser.{Parser}
use Rattle.tp_syntax.specs.declared.parts.End.{End}
use Rattle.tp_syntax.specs.Parsing.{Ends, Enters, Leads, end_frames, enter, part_or_end, left}
use Rattle.tp_syntax.proofs.ReadingGoesOn.{leading}
use Rattle.tp_syntax.proofs.StepsOfReading.{parsing}

pub enter_definitions : {p : Parser} {b : Bool} → Enters p b → Leads definitions (left p) (enter definitions) (part_or_end a_definition b) (left p)
enter_definitions e = e.entered definitions a_definition refl refl

pub list_end : {p q : Parser} {x : End} → Ends p x q
    → Leads end_of_list (left p) (end_frames end_of_list definitions x.has_semicolon) (part_or_end a_definition x.is_open) (left q)
list_end e = e.ended end_of_list definitions a_definition refl refl refl refl

pub ruleset definition_parsing = (parsing, leading, enter_definitions, list_end)
