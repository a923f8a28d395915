-- What is left is read as what remains of the names.
use Rattle.std.proofs.Common.{◌≤◌, length}
use Rattle.tp_syntax.specs.Rule.{more_names}
use Rattle.tp_syntax.specs.Parsing.{left}
use Rattle.tp_syntax.specs.DefinitionTrees.{declared_tree}
use Rattle.tp_syntax.proofs.PartsAfterCommas.{Gathered}
use Rattle.tp_syntax.proofs.cursor.Parser.more_names.Given as goal

abbrev pub invariant-more : goal.invariant-more
invariant-more l = record {
  gathered : Gathered more_names declared_tree l.fn.first (left l.fn.self) (left l.self) l.names;
  shorter : length l.self.rest.now ≤ length l.fn.self.rest.now;
}

abbrev pub decreases-more : goal.decreases-more
decreases-more l = length l.self.rest.now
