-- The bodies of functions.
use Rattle.std.proofs.Common.{◌≡◌, Bool, List, [], ◌∷◌, ◌++◌, map, refl, ap, sym, ◌∙◌}
use Rattle.std.proofs.lemmas.List.{map-append}
use Rattle.tp_tree.specs.declared.tree.Variable.{Variable}
use Rattle.tp_syntax.specs.Rule.{end_of_variable, variables}
use Rattle.tp_syntax.specs.declared.cursor.Parser.{Parser}
use Rattle.tp_syntax.specs.DefinitionTrees.{open_behind}
use Rattle.tp_syntax.specs.CaseTrees.{variable_part, Part}
use Rattle.tp_syntax.specs.Parsing.{HasEnd, Leads, part_or_end, semicolon_frames, left}
use Rattle.tp_syntax.proofs.ReadingGoesOn.{leading}
use Rattle.tp_syntax.proofs.StepsOfReading.{parsing}

pub end_local : {p q : Parser} {b : Bool} → HasEnd p b q → Leads end_of_variable (left p) (semicolon_frames end_of_variable b) (part_or_end variables b) (left q)
end_local e = e.ended end_of_variable variables refl refl

open_pushed : (b : Bool) (ps : List Part) (p : Part) → open_behind b (ps ++ p ∷ []) ≡ p.semicolon
open_pushed b [] p = refl
open_pushed b (q ∷ ps) p = open_pushed q.semicolon ps p

pub open_grown : (b : Bool) (vs ws : List Variable) (v : Variable) → ws ≡ vs ++ v ∷ [] → v.has_semicolon ≡ open_behind b (map variable_part ws)
open_grown b vs ws v e =
    sym (ap (λ (xs : List Variable). open_behind b (map variable_part xs)) e
    ∙ (ap (open_behind b) (map-append variable_part vs (v ∷ [])) ∙ open_pushed b (map variable_part vs) (variable_part v)))

pub ruleset behaviour_parsing = (parsing, leading, end_local)
