-- What is left is read as what remains of the fields.
use Rattle.std.proofs.Common.{◌≤◌, length}
use Rattle.tp_syntax.specs.Rule.{more_fields}
use Rattle.tp_syntax.specs.Parsing.{left}
use Rattle.tp_syntax.specs.DefinitionTrees.{field_type_tree}
use Rattle.tp_syntax.proofs.PartsAfterCommas.{Gathered}
use Rattle.tp_syntax.proofs.cursor.Parser.more_field_types.Given as goal

abbrev pub invariant-more : goal.invariant-more
invariant-more l = record {
  gathered : Gathered more_fields field_type_tree l.fn.first (left l.fn.self) (left l.self) l.fields;
  shorter : length l.self.rest.now ≤ length l.fn.self.rest.now;
}

abbrev pub decreases-more : goal.decreases-more
decreases-more l = length l.self.rest.now
