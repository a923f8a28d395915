use Rattle.std.proofs.Common.{◌+◌, ◌*◌, ◌≤◌, length}
use Rattle.tp_syntax.specs.Rule.{more_value_fields, more_values}
use Rattle.tp_syntax.specs.Parsing.{left}
use Rattle.tp_syntax.specs.ValueTrees.{field_tree, value_tree}
use Rattle.tp_syntax.proofs.PartsAfterCommas.{Gathered}
use Rattle.tp_syntax.proofs.cursor.Parser.+value.Given as goal

abbrev pub decreases-value : goal.decreases-value
decreases-value l = 3 * length l.self.now.rest.now + 1

abbrev pub decreases-unnamed_value : goal.decreases-unnamed_value
decreases-unnamed_value l = 3 * length l.self.now.rest.now

abbrev pub decreases-value_entries : goal.decreases-value_entries
decreases-value_entries l = 3 * length l.self.now.rest.now + 2

abbrev pub decreases-more_values : goal.decreases-more_values
decreases-more_values l = 3 * length l.self.now.rest.now

abbrev pub decreases-more_value_fields : goal.decreases-more_value_fields
decreases-more_value_fields l = 3 * length l.self.now.rest.now

abbrev pub decreases-value_field : goal.decreases-value_field
decreases-value_field l = 3 * length l.self.now.rest.now + 2

abbrev pub invariant-more_values-more : goal.invariant-more_values-more
invariant-more_values-more l = record {
  gathered : Gathered more_values value_tree l.fn.first (left l.fn.self) (left l.self) l.values;
  shorter : length l.self.rest.now ≤ length l.fn.self.rest.now;
}

abbrev pub decreases-more_values-more : goal.decreases-more_values-more
decreases-more_values-more l = length l.self.rest.now

abbrev pub invariant-more_value_fields-more : goal.invariant-more_value_fields-more
invariant-more_value_fields-more l = record {
  gathered : Gathered more_value_fields field_tree l.fn.first (left l.fn.self) (left l.self) l.fields;
  shorter : length l.self.rest.now ≤ length l.fn.self.rest.now;
}

abbrev pub decreases-more_value_fields-more : goal.decreases-more_value_fields-more
decreases-more_value_fields-more l = length l.self.rest.now
