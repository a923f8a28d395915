-- What is left is read as what remains of the directions.
use Rattle.std.proofs.Common.{◌≡◌, ◌≤◌, ◌∷◌, drop, length}
use Rattle.tp_syntax.specs.Rule.{end_of_way, more_ways}
use Rattle.tp_tree.specs.declared.tree.Direction.{Direction}
use Rattle.tp_syntax.specs.Parsing.{left}
use Rattle.tp_syntax.specs.DefinitionTrees.{direction_tree}
use Rattle.tp_syntax.proofs.PartsWithSemicolons.{Stepped}
use Rattle.tp_syntax.proofs.cursor.Parser.more_ways.Given as goal

abbrev pub invariant-more : goal.invariant-more
invariant-more l = record {
  begins : l.directions ≡ l.fn.first ∷ drop 1 l.directions;
  stepped : Stepped more_ways end_of_way direction_tree (λ (d : Direction). d.has_semicolon) (left l.fn.self) (left l.self) (drop 1 l.directions);
  shorter : length l.self.rest.now ≤ length l.fn.self.rest.now;
}

abbrev pub decreases-more : goal.decreases-more
decreases-more l = length l.self.rest.now
