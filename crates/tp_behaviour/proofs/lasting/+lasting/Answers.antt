-- Each statement has what lasts of it, and each branch.
use Rattle.std.proofs.Common.{◌∙◌, None, Some, ap, subst, sym}
use Rattle.tp_play.specs.declared.body.ResolvedStatement.TheVariants as b
use Rattle.tp_behaviour.specs.Lasting.{AreLasting, AreLastingBranches, IsLasting, IsLastingBranch}
use Rattle.tp_behaviour.proofs.LastingStatementRules.{make_all_ports, make_alt, make_branch, make_control, make_for, make_receive, make_send, make_set_verdict, zipped_all, zipped_more}
use Rattle.tp_behaviour.proofs.lasting.+lasting.Goals as goal
use Rattle.tp_behaviour.proofs.lasting.+lasting.Goals.{lasting_statement-in-Some+in_ok-block-in-Some, lasting_statement-in-None}

pub lasting_block-loop-statement-preserved : goal.lasting_block-loop-statement-preserved
lasting_block-loop-statement-preserved t c =
    let xs = c.args.block.now in
    let i = c.loop-statement.statement-index in
    subst (AreLasting _) (sym c.in_ok-push.ensures.ok)
    (zipped_more IsLasting xs i c.statement-item.result c.loop-statement.made c.in_ok-one.one c.loop-statement-test.true c.statement-item.is
    c.loop-statement.invariant c.in_ok-one.ensures)

pub lasting_block-returns : goal.lasting_block-returns
lasting_block-returns t c =
    zipped_all IsLasting c.args.block.now c.loop-statement.statement-index c.loop-statement.made c.loop-statement-test.false c.loop-statement.invariant

pub lasting_branches-loop-branch-preserved : goal.lasting_branches-loop-branch-preserved
lasting_branches-loop-branch-preserved t c =
    let xs = c.args.branches.now in
    let i = c.loop-branch.branch-index in
    subst (AreLastingBranches _) (sym c.in_ok-push.ensures.ok)
    (zipped_more IsLastingBranch xs i c.branch-item.result c.loop-branch.made c.in_ok-one.one c.loop-branch-test.true c.branch-item.is c.loop-branch.invariant
    c.in_ok-one.ensures)

pub lasting_branches-returns : goal.lasting_branches-returns
lasting_branches-returns t c =
    zipped_all IsLastingBranch c.args.branches.now c.loop-branch.branch-index c.loop-branch.made c.loop-branch-test.false c.loop-branch.invariant

pub lasting_branch-returns : goal.lasting_branch-returns
lasting_branch-returns t c =
    make_branch c.in_ok-wanted.wanted c.new.result c.in_ok-block.block c.args.branch.now c.in_ok-wanted.ensures
    (subst (λ xs. AreLasting xs c.in_ok-block.block) c.as_slice.ensures c.in_ok-block.ensures)

-- each statement
pub lasting_statement-returns-in_ok-wanted-in-Receive : goal.lasting_statement-returns-in_ok-wanted-in-Receive
lasting_statement-returns-in_ok-wanted-in-Receive t c =
    make_receive c.args.statement.now c.in_ok-wanted-in-Receive.wanted _ _ c.in-Receive.receiving c.in-Receive.is c.in_ok-wanted-in-Receive.ensures

pub lasting_statement-returns-after-otherwise : goal.lasting_statement-returns-after-otherwise
lasting_statement-returns-after-otherwise t c =
    let block = c.match-otherwise.block in
    let branches = subst (λ xs. AreLastingBranches xs c.in_ok-branches-in-Alt.branches) c.as_slice.ensures c.in_ok-branches-in-Alt.ensures in
    elim c.match-otherwise.branch [
      | lasting_statement-in-Some+in_ok-block-in-Some w ↦
          make_alt c.args.statement.now None c.in_ok-branches-in-Alt.branches block c.in-Alt.branches (Some w.in-Some.block)
          (c.in-Alt.is ∙ ap (λ o. b.Alt c.in-Alt.branches o) w.in-Some.is) branches
          (subst (AreLasting w.in-Some.block) (sym w.block-is)
          (subst (λ xs. AreLasting xs w.in_ok-block-in-Some.block) w.as_slice-in-Some.ensures w.in_ok-block-in-Some.ensures))
      | lasting_statement-in-None w ↦
          make_alt c.args.statement.now None c.in_ok-branches-in-Alt.branches block c.in-Alt.branches None
          (c.in-Alt.is ∙ ap (λ o. b.Alt c.in-Alt.branches o) w.in-None.is) branches tt
    ]

pub lasting_statement-returns-in_ok-block-in-For : goal.lasting_statement-returns-in_ok-block-in-For
lasting_statement-returns-in_ok-block-in-For t c =
    make_for c.args.statement.now None _ c.in_ok-block-in-For.block c.in-For.field-0 c.in-For.field-1 c.in-For.block c.in-For.is
    (subst (λ xs. AreLasting xs c.in_ok-block-in-For.block) c.as_slice-in-For.ensures c.in_ok-block-in-For.ensures)

pub lasting_statement-returns-in-Send : goal.lasting_statement-returns-in-Send
lasting_statement-returns-in-Send t c = make_send c.args.statement.now _ c.in-Send.field-0 c.in-Send.is

pub lasting_statement-returns-in-Control : goal.lasting_statement-returns-in-Control
lasting_statement-returns-in-Control t c = make_control c.args.statement.now _ c.in-Control.field-0 c.in-Control.field-1 c.in-Control.is

pub lasting_statement-returns-in-AllPorts : goal.lasting_statement-returns-in-AllPorts
lasting_statement-returns-in-AllPorts t c = make_all_ports c.args.statement.now _ c.in-AllPorts.field-0 c.in-AllPorts.is

pub lasting_statement-returns-in-SetVerdict : goal.lasting_statement-returns-in-SetVerdict
lasting_statement-returns-in-SetVerdict t c = make_set_verdict c.args.statement.now _ c.in-SetVerdict.field-0 c.in-SetVerdict.is
