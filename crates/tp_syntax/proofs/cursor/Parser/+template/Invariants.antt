use Rattle.std.proofs.Common.{◌+◌, ◌*◌, ◌≤◌, length}
use Rattle.tp_syntax.specs.Rule.{more_template_fields, more_templates}
use Rattle.tp_syntax.specs.Parsing.{left}
use Rattle.tp_syntax.specs.TemplateTrees.{field_tree, template_tree}
use Rattle.tp_syntax.proofs.PartsAfterCommas.{Gathered}
use Rattle.tp_syntax.proofs.cursor.Parser.+template.Given as goal

abbrev pub decreases-template : goal.decreases-template
decreases-template l = 6 * length l.self.now.rest.now + 2

abbrev pub decreases-uncounted : goal.decreases-uncounted
decreases-uncounted l = 6 * length l.self.now.rest.now + 1

abbrev pub decreases-counted : goal.decreases-counted
decreases-counted l = 6 * length l.self.now.rest.now + 1

abbrev pub decreases-other : goal.decreases-other
decreases-other l = 6 * length l.self.now.rest.now

abbrev pub decreases-parenthesised : goal.decreases-parenthesised
decreases-parenthesised l = 6 * length l.self.now.rest.now + 3

abbrev pub decreases-after_minus : goal.decreases-after_minus
decreases-after_minus l = 6 * length l.self.now.rest.now + 2

abbrev pub decreases-after_number : goal.decreases-after_number
decreases-after_number l = 6 * length l.self.now.rest.now + 1

abbrev pub decreases-entries : goal.decreases-entries
decreases-entries l = 6 * length l.self.now.rest.now + 3

abbrev pub decreases-more_templates : goal.decreases-more_templates
decreases-more_templates l = 6 * length l.self.now.rest.now

abbrev pub decreases-more_fields : goal.decreases-more_fields
decreases-more_fields l = 6 * length l.self.now.rest.now

abbrev pub decreases-field : goal.decreases-field
decreases-field l = 6 * length l.self.now.rest.now + 3

abbrev pub invariant-more_templates-more : goal.invariant-more_templates-more
invariant-more_templates-more l = record {
  gathered : Gathered more_templates template_tree l.fn.first (left l.fn.self) (left l.self) l.templates;
  shorter : length l.self.rest.now ≤ length l.fn.self.rest.now;
}

abbrev pub decreases-more_templates-more : goal.decreases-more_templates-more
decreases-more_templates-more l = length l.self.rest.now

abbrev pub invariant-more_fields-more : goal.invariant-more_fields-more
invariant-more_fields-more l = record {
  gathered : Gathered more_template_fields field_tree l.fn.first (left l.fn.self) (left l.self) l.fields;
  shorter : length l.self.rest.now ≤ length l.fn.self.rest.now;
}

abbrev pub decreases-more_fields-more : goal.decreases-more_fields-more
decreases-more_fields-more l = length l.self.rest.now
