-- What is left is read as what remains of the body.
use Rattle.std.proofs.Common.{◌≡◌, ◌≤◌, ◌++◌, true, length}
use Rattle.tp_syntax.specs.Rule.{case_setups}
use Rattle.tp_syntax.specs.declared.cases.Stage.TheVariants as stage
use Rattle.tp_syntax.specs.CaseTrees.{IsUpTo, parts_of, stage_rank, part_rule, parts_frames}
use Rattle.tp_syntax.specs.Parsing.{Leads, enter, part_or_end, left}
use Rattle.tp_syntax.proofs.CaseViews.{stage_behind}
use Rattle.tp_syntax.proofs.cursor.Parser.case_body.Given as goal

abbrev pub invariant-more : goal.invariant-more
invariant-more l = record {
  so_far : Leads case_setups (left l.fn.self) (enter case_setups ++ parts_frames stage.Setups (parts_of l.body)) (part_or_end (part_rule l.stage) l.is_open) (left l.self);
  at : l.stage ≡ stage_behind stage.Setups (parts_of l.body);
  fits : l.is_open ≡ true → IsUpTo (stage_rank l.stage) l.body;
  shorter : length l.self.rest.now ≤ length l.fn.self.rest.now;
}

abbrev pub decreases-more : goal.decreases-more
decreases-more l = length l.self.rest.now
