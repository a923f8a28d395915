-- What is kept, and what will be.
use Rattle.std.proofs.Common.{◌≡◌, ◌++◌, map}
use Rattle.tp_syntax.specs.Lexeme.{placed_lexeme}
use Rattle.tp_syntax.specs.SettledTokens.{settled, settled_behind}
use Rattle.std.specs.Vec.Iter.{into_iter_items, into_iter_len}
use Rattle.tp_syntax.proofs.parser.settle.Given as goal

abbrev pub invariant-more : goal.invariant-more
invariant-more l = record {
  so_far : map placed_lexeme l.kept.items ++ settled_behind l.minus (map placed_lexeme (into_iter_items l.rest)) ≡ settled (map placed_lexeme l.fn.tokens.items);
}

abbrev pub decreases-more : goal.decreases-more
decreases-more l = into_iter_len l.rest
