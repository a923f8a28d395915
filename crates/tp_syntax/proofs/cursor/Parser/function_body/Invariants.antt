-- What is left is read as what remains of the body.
use Rattle.std.proofs.Common.{◌≡◌, ◌≤◌, true, length, map}
use Rattle.tp_syntax.specs.Rule.{variables}
use Rattle.tp_syntax.specs.DefinitionTrees.{local_frames, open_behind}
use Rattle.tp_syntax.specs.CaseTrees.{variable_part}
use Rattle.tp_syntax.specs.Parsing.{Leads, all_frames, part_or_end, left}
use Rattle.tp_syntax.proofs.cursor.Parser.function_body.Given as goal

abbrev pub invariant-more : goal.invariant-more
invariant-more l = record {
  so_far : Leads variables (left l.fn.self) (all_frames local_frames (map variable_part l.variables)) (part_or_end variables l.is_open) (left l.self);
  at : l.is_open ≡ open_behind true (map variable_part l.variables);
  shorter : length l.self.rest.now ≤ length l.fn.self.rest.now;
}

abbrev pub decreases-more : goal.decreases-more
decreases-more l = length l.self.rest.now
