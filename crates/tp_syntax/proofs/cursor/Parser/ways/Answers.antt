-- The directions of a port type: one, or one and more.
use Rattle.std.proofs.Common.{List, [], ◌∷◌, ◌++◌, refl, ap, ◌∙◌}
use Rattle.tp_tree.specs.declared.tree.Direction.{Direction}
use Rattle.tp_syntax.specs.Reading.{reads_rule, reads_this, reads_other, reads_else, reads_more, reads_none}
use Rattle.tp_syntax.specs.DefinitionTrees.{ways_tree}
use Rattle.tp_syntax.proofs.StepsOfReading.{parsed_as}
use Rattle.tp_syntax.proofs.TypeTrees.{ways_more, ways_one}
use Rattle.tp_syntax.proofs.cursor.Parser.ways.Goals as goal

pub returns-then-first-clause-parses : goal.returns-then-first-clause-parses
returns-then-first-clause-parses c = parsed_as (ways_more _ _ c.in_ok-directions.ensures.begins c.if-first.true)
    (reads_rule refl (reads_else (reads_more c.in_ok-first.ensures.parses.parsed (reads_more (reads_rule refl (reads_this (c.in_ok-first.ensures.ends ∙ c.if-first.true)
    (reads_more c.pass_symbol.ensures.read (reads_more c.in_ok-directions.ensures.parses.parsed reads_none)))) reads_none))))

pub returns-clause-parses : goal.returns-clause-parses
returns-clause-parses c = parsed_as (ap ways_tree (c.in_ok-push.ensures.ok ∙ ap (λ (xs : List Direction). xs ++ c.in_ok-first.first ∷ []) c.new-directions.ensures) ∙ ways_one _ c.if-first.false)
    (reads_rule refl (reads_else (reads_more c.in_ok-first.ensures.parses.parsed (reads_more (reads_rule refl (reads_other (c.in_ok-first.ensures.ends ∙ c.if-first.false)
    (reads_else (reads_more c.in_ok-symbol.ensures.parses.parsed reads_none)))) reads_none))))
