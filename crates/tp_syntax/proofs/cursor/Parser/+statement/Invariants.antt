-- What is left is read as what remains of the statements, or of the branches.
use Rattle.std.proofs.Common.{◌+◌, ◌*◌, ◌≤◌, ◌++◌, length, map}
use Rattle.tp_syntax.specs.Rule.{a_branch, a_statement, statements}
use Rattle.tp_syntax.specs.Parsing.{Leads, all_frames, enter, part_or_end, left}
use Rattle.tp_syntax.specs.StatementTrees.{branch_frames, branch_of, step_frames, step_of}
use Rattle.tp_syntax.proofs.cursor.Parser.+statement.Given as goal

abbrev pub decreases-statement : goal.decreases-statement
decreases-statement l = 3 * length l.self.now.rest.now + 1

abbrev pub decreases-compound : goal.decreases-compound
decreases-compound l = 3 * length l.self.now.rest.now

abbrev pub decreases-statements : goal.decreases-statements
decreases-statements l = 3 * length l.self.now.rest.now + 2

abbrev pub decreases-branches : goal.decreases-branches
decreases-branches l = 3 * length l.self.now.rest.now + 2

abbrev pub decreases-reception : goal.decreases-reception
decreases-reception l = 3 * length l.self.now.rest.now + 1

abbrev pub decreases-branch_end : goal.decreases-branch_end
decreases-branch_end l = 3 * length l.self.now.rest.now

abbrev pub decreases-otherwise : goal.decreases-otherwise
decreases-otherwise l = 3 * length l.self.now.rest.now + 1

abbrev pub invariant-statements-more : goal.invariant-statements-more
invariant-statements-more l = record {
  so_far : Leads statements (left l.fn.self) (enter statements ++ all_frames step_frames (map step_of l.statements)) (part_or_end a_statement l.is_open) (left l.self);
  shorter : length l.self.rest.now ≤ length l.fn.self.rest.now;
}

abbrev pub decreases-statements-more : goal.decreases-statements-more
decreases-statements-more l = length l.self.rest.now

abbrev pub invariant-branches-more : goal.invariant-branches-more
invariant-branches-more l = record {
  so_far : Leads a_branch (left l.fn.self) (all_frames branch_frames (map branch_of l.branches)) (part_or_end a_branch l.is_open) (left l.self);
  shorter : length l.self.rest.now ≤ length l.fn.self.rest.now;
}

abbrev pub decreases-branches-more : goal.decreases-branches-more
decreases-branches-more l = length l.self.rest.now
