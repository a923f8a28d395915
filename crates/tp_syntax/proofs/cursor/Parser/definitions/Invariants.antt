-- What is left is read as what remains of the definitions.
use Rattle.std.proofs.Common.{◌≤◌, ◌++◌, length}
use Rattle.tp_syntax.specs.Rule.{a_definition, definitions}
use Rattle.tp_syntax.specs.DefinitionTrees.{frames_of_all}
use Rattle.tp_syntax.specs.Parsing.{Leads, enter, part_or_end, left}
use Rattle.tp_syntax.proofs.cursor.Parser.definitions.Given as goal

abbrev pub invariant-more : goal.invariant-more
invariant-more l = record {
  so_far : Leads definitions (left l.fn.self) (enter definitions ++ frames_of_all l.definitions) (part_or_end a_definition l.is_open) (left l.self);
  shorter : length l.self.rest.now ≤ length l.fn.self.rest.now;
}

abbrev pub decreases-more : goal.decreases-more
decreases-more l = length l.self.rest.now
