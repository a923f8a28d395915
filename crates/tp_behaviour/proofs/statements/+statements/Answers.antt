-- The parts of a path follow one another: statements, blocks of branches, turns.
use Rattle.std.proofs.Common.{◌≡◌, ◌∙◌, ◌+◌, ◌+ℤ◌, ◌<ℤ◌, ◌≤ℤ◌, ◌++◌, ◌∷◌, [], get_or, length, of_z, pos, refl, to_z, w64, ap, sym, subst, SFits, arith, rules}
use Rattle.std.proofs.lemmas.Int.{ints, to_z-of_z}
use Rattle.std.proofs.lemmas.Option.{slice_get-get_or, slice_get_within}
use Rattle.std.proofs.lemmas.Result.{on_ok_weaker}
use Rattle.std.specs.Prelude.{List}
use Rattle.tp_play.specs.declared.body.ResolvedStatement.{ResolvedStatement}
use Rattle.tp_play.specs.declared.body.ResolvedStatement.TheVariants as b
use Rattle.tp_play.specs.Playable.{CanEnterAll, CanPlayAll}
use Rattle.tp_play.specs.Sizes.{turns_between}
use Rattle.tp_play.proofs.PlayableStatementRules.{plays_alt, plays_control, plays_else, plays_for, plays_receive, plays_send}
use Rattle.tp_behaviour.specs.declared.outcome.Outcome.TheVariants as outcome
use Rattle.tp_behaviour.specs.declared.deciding.Decision.TheVariants as decision
use Rattle.tp_behaviour.specs.declared.lasting.Lasting.{out-Lasting}
use Rattle.tp_behaviour.specs.Lasting.{AreLasting, AreLastingBranches, IsLasting, IsLastingBranch}
use Rattle.tp_behaviour.specs.Outcomes.{Executed, Stepped, depth_of, stage_at}
use Rattle.tp_behaviour.specs.PartOutcomes.{Decided, ExecutedIn, IsDecisionOf, Turned}
use Rattle.tp_behaviour.proofs.AltAndForOutcomes.{step_branch, step_else, step_for, step_waits}
use Rattle.tp_behaviour.proofs.BlockPathGrowth.{passed_all, passed_more, passed_start, passed_stop}
use Rattle.tp_behaviour.proofs.LastingStatementRules.{lasts_alt, lasts_block, lasts_else, lasts_for, lasts_receive, zipped_get, zipped_long}
use Rattle.tp_behaviour.proofs.WorkerInvariantOnArrivals.{same_then}
use Rattle.tp_behaviour.proofs.PlayableBlocksAndBranches.{plays_at, plays_block}
use Rattle.tp_behaviour.proofs.StatementOutcomes.{carried}
use Rattle.tp_behaviour.proofs.UnchangedWorkerPorts.{ports_there, waits_from}
use Rattle.tp_behaviour.proofs.BlockTurnGrowth.{made_all, made_start, made_more, made_stop, none_there, turned_as, turned_empty}
use Rattle.tp_behaviour.proofs.statements.+statements.Goals as goal

-- one statement after the other
pub execute-loop-place-init : goal.execute-loop-place-init
execute-loop-place-init g t c = record {
  consistent = c.requires.consistent;
  same = record { inbox = refl; ends = refl };
  held = c.requires.held;
  turns = refl;
  goes_on = c.requires.goes_on;
  passed = passed_start c.args.execution.now.task.now c.args.block.statements.now c.args.worker.now c.args.frame.now;
}

pub execute-step-requires-clause-can : goal.execute-step-requires-clause-can
execute-step-requires-clause-can g t c κs within =
    plays_at (stage_at c.args.execution.now.task.now) (depth_of c.loop-place.frame) (depth_of c.args.frame.now) c.args.block.statements.now c.loop-place.place
    c.statement-item.result
    (ap length c.loop-place.invariant.turns) c.loop-place-test.true c.statement-item.is c.requires.can

pub execute-loop-place-preserved : goal.execute-loop-place-preserved
execute-loop-place-preserved g t c =
    let step = c.in_ok-step.ensures in
    let done : Stepped c.args.execution.now.task.now c.statement-item.result outcome.Done c.loop-place.worker c.loop-place.frame c.step.new.worker
    c.step.new.frame = rw c.in-Done.is at step.ended in
    record {
      consistent = step.consistent;
      same = same_then c.args.worker.now c.loop-place.worker c.step.new.worker c.loop-place.invariant.same step.same;
      held = step.held;
      turns = step.turns ∙ c.loop-place.invariant.turns;
      goes_on = c.in-Done.is;
      passed =
          passed_more c.args.execution.now.task.now c.args.block.statements.now c.loop-place.place c.statement-item.result c.args.worker.now c.args.frame.now
          c.loop-place.worker c.loop-place.frame
          c.step.new.worker c.step.new.frame c.loop-place.invariant.turns c.loop-place-test.true c.statement-item.is c.loop-place.invariant.passed done;
    }

pub execute-returns-in_default-clause-ended : goal.execute-returns-in_default-clause-ended
execute-returns-in_default-clause-ended g t c =
    passed_stop c.args.execution.now.task.now c.args.block.statements.now c.loop-place.place c.statement-item.result c.step.new.outcome c.args.worker.now
    c.args.frame.now
    c.loop-place.worker c.loop-place.frame c.step.new.worker c.step.new.frame c.in_default.not-Done
    c.loop-place.invariant.turns c.loop-place-test.true c.statement-item.is c.loop-place.invariant.passed c.in_ok-step.ensures.ended

pub execute-returns-clause-ended : goal.execute-returns-clause-ended
execute-returns-clause-ended g t c =
    subst (λ o. Executed c.args.execution.now.task.now c.args.block.statements.now o c.args.worker.now c.args.frame.now c.loop-place.worker c.loop-place.frame)
    (sym c.loop-place.invariant.goes_on)
    (passed_all c.args.execution.now.task.now c.args.block.statements.now c.loop-place.place c.args.worker.now c.args.frame.now c.loop-place.worker
    c.loop-place.frame
    c.loop-place-test.false c.loop-place.invariant.passed)

-- the ports are the same throughout
pub execute-returns-in_default-clause-within : goal.execute-returns-in_default-clause-within
execute-returns-in_default-clause-within g t c =
    waits_from c.args.execution.now.task.now c.args.worker.now c.loop-place.worker c.step.new.outcome c.requires.consistent c.loop-place.invariant.consistent
    c.in_ok-step.ensures.within

-- the block of a branch
pub branch-execute-requires-clause-can : goal.branch-execute-requires-clause-can
branch-execute-requires-clause-can g t c κs within =
    subst (CanPlayAll (stage_at c.args.execution.now.task.now) (depth_of c.args.frame.now)) (sym c.as_slice.ensures)
    (plays_block (stage_at c.args.execution.now.task.now) (depth_of c.args.frame.now) c.args.alt.branches.now c.args.place c.index-alt-place.result c.requires.can
    c.requires.within)

pub branch-returns-clause-ended : goal.branch-returns-clause-ended
branch-returns-clause-ended g t c =
    let x = get_or c.args.alt.branches.now c.args.place c.index-alt-place.result in
    on_ok_weaker c.execute.result
    (λ h. (
      x,
      slice_get-get_or c.args.alt.branches.now c.args.place c.index-alt-place.result c.requires.within,
      subst (λ (l : List ResolvedStatement). Executed c.args.execution.now.task.now l c.execute.new.outcome c.args.worker.now c.args.frame.now c.execute.new.worker
          c.execute.new.frame)
          c.as_slice.ensures h,
    ))
    c.execute.ensures.ended

-- each statement
pub step-play_send-requires-clause-can : goal.step-play_send-requires-clause-can
step-play_send-requires-clause-can g t c κs within =
    plays_send (stage_at c.args.execution.now.task.now) (depth_of c.args.frame.now) c.args.statement.now c.in-Send.sending c.in-Send.is c.requires.can

pub step-receive-requires-clause-can : goal.step-receive-requires-clause-can
step-receive-requires-clause-can g t c κs within =
    plays_receive (stage_at c.args.execution.now.task.now) (depth_of c.args.frame.now) c.args.statement.now c.in-Receive.receiving c.in-Receive.is c.requires.can

pub step-control-requires-clause-within : goal.step-control-requires-clause-within
step-control-requires-clause-within g t c κs within =
    let p = c.args.execution.now.task.now in
    let there = ports_there p c.args.worker.now c.requires.consistent in
    let below = plays_control (stage_at p) (depth_of c.args.frame.now) c.args.statement.now c.in-Control.port c.in-Control.operation c.in-Control.is
    c.requires.can in
    omega (arith, there, below)

pub step-play_alt-requires-clause-can : goal.step-play_alt-requires-clause-can
step-play_alt-requires-clause-can g t c κs within = rw c.in-Alt.is at c.requires.can

pub step-play_alt-requires-clause-lasting : goal.step-play_alt-requires-clause-lasting
step-play_alt-requires-clause-lasting g t c κs within = rw c.in-Alt.is at c.requires.lasting

pub step-turns-requires-clause-can : goal.step-turns-requires-clause-can
step-turns-requires-clause-can g t c κs within =
    subst (CanPlayAll (stage_at c.args.execution.now.task.now) (depth_of c.args.frame.now + 1)) (sym c.as_slice.ensures)
    (plays_for (stage_at c.args.execution.now.task.now) (depth_of c.args.frame.now) c.args.statement.now c.in-For.first c.in-For.bound c.in-For.block c.in-For.is
    c.requires.can)

-- what lasts of each statement, and of what it is made of
pub execute-bounds-block-place : goal.execute-bounds-block-place
execute-bounds-block-place g t c =
    omega (arith, zipped_long IsLasting c.args.block.statements.now c.args.block.lasting.now c.requires.lasting, c.loop-place-test.true)

pub execute-step-requires-clause-lasting : goal.execute-step-requires-clause-lasting
execute-step-requires-clause-lasting g t c κs within =
    let ls = c.args.block.lasting.now in
    let i = c.loop-place.place in
    let x = c.statement-item.result in
    let l = c.index-block-place.result in
    subst (λ (y : ResolvedStatement). IsLasting y (get_or ls i l)) (sym c.statement-item.is)
    (zipped_get IsLasting c.args.block.statements.now ls i x l c.requires.lasting c.loop-place-test.true)

pub branch-bounds-alt-place-2 : goal.branch-bounds-alt-place-2
branch-bounds-alt-place-2 g t c =
    omega (arith, zipped_long IsLastingBranch c.args.alt.branches.now c.args.alt.lasting.now c.requires.lasting, c.requires.within)

pub branch-execute-requires-clause-lasting : goal.branch-execute-requires-clause-lasting
branch-execute-requires-clause-lasting g t c κs within =
    let x = get_or c.args.alt.branches.now c.args.place c.index-alt-place.result in
    let l = get_or c.args.alt.lasting.now c.args.place c.index-alt-place-2.result in
    subst (λ ls. AreLasting c.as_slice.result.now ls) (sym c.as_slice-2.ensures)
    (subst (λ xs. AreLasting xs (out-Lasting l).block) (sym c.as_slice.ensures)
    (lasts_block x l
    (zipped_get IsLastingBranch c.args.alt.branches.now c.args.alt.lasting.now c.args.place c.index-alt-place.result c.index-alt-place-2.result
    c.requires.lasting c.requires.within)))

pub step-receive-requires-clause-lasting : goal.step-receive-requires-clause-lasting
step-receive-requires-clause-lasting g t c κs within =
    lasts_receive c.args.statement.now c.args.lasting.now c.in-Receive.receiving c.in-Receive.is c.requires.lasting

pub step-turns-requires-clause-lasting : goal.step-turns-requires-clause-lasting
step-turns-requires-clause-lasting g t c κs within =
    subst (λ ls. AreLasting c.as_slice.result.now ls) (sym c.as_slice-in-For.ensures)
    (subst (λ xs. AreLasting xs (out-Lasting c.args.lasting.now).block) (sym c.as_slice.ensures)
    (lasts_for c.args.statement.now c.args.lasting.now c.in-For.first c.in-For.bound c.in-For.block c.in-For.is c.requires.lasting))

-- what each statement comes to
pub step-returns-in-Control-clause-ended : goal.step-returns-in-Control-clause-ended
step-returns-in-Control-clause-ended g t c =
    on_ok_weaker c.control.result
    (carried c.args.execution.now.task.now c.args.statement.now (b.Control c.in-Control.port c.in-Control.operation) c.args.outcome.now c.args.worker.now
    c.control.new.worker c.args.frame.now c.in-Control.is c.requires.goes_on)
    c.control.ensures.stepped

pub step-returns-in-AllPorts-clause-ended : goal.step-returns-in-AllPorts-clause-ended
step-returns-in-AllPorts-clause-ended g t c =
    on_ok_weaker c.all_ports.result
    (carried c.args.execution.now.task.now c.args.statement.now (b.AllPorts c.in-AllPorts.operation) c.args.outcome.now c.args.worker.now
    c.all_ports.new.worker c.args.frame.now c.in-AllPorts.is c.requires.goes_on)
    c.all_ports.ensures.stepped

pub step-returns-in-SetVerdict-clause-ended : goal.step-returns-in-SetVerdict-clause-ended
step-returns-in-SetVerdict-clause-ended g t c =
    on_ok_weaker c.set_verdict.result
    (carried c.args.execution.now.task.now c.args.statement.now (b.SetVerdict c.in-SetVerdict.verdict) c.args.outcome.now c.args.worker.now
    c.set_verdict.new.worker c.args.frame.now c.in-SetVerdict.is c.requires.goes_on)
    c.set_verdict.ensures.stepped

pub step-returns-in-For-clause-ended : goal.step-returns-in-For-clause-ended
step-returns-in-For-clause-ended g t c =
    let low : SFits w64 c.in-For.first = search rules in
    let high : SFits w64 c.in-For.bound = search rules in
    let first = to_z w64 (of_z w64 c.in-For.first) in
    let bound = to_z w64 (of_z w64 c.in-For.bound) in
    on_ok_weaker c.turns.result
    (step_for c.args.execution.now.task.now c.args.statement.now c.in-For.first c.in-For.bound first bound c.in-For.block c.as_slice.result.now
    c.turns.new.outcome
    c.args.worker.now c.args.frame.now c.turns.new.worker c.turns.new.frame c.in-For.is (to_z-of_z w64 c.in-For.first low)
    (to_z-of_z w64 c.in-For.bound high) c.as_slice.ensures)
    c.turns.ensures.ended

-- an `alt`
pub play_alt-decide-requires-clause-can : goal.play_alt-decide-requires-clause-can
play_alt-decide-requires-clause-can g t c κs within =
    subst (CanEnterAll (stage_at c.args.execution.now.task.now) (depth_of c.args.frame.now)) (sym c.as_slice.ensures)
    (plays_alt (stage_at c.args.execution.now.task.now) (depth_of c.args.frame.now) (b.Alt c.args.branches.now c.args.otherwise.now) c.args.branches.now c.args.otherwise.now refl
    c.requires.can)

pub play_alt-branch-execution-requires-clause-within : goal.play_alt-branch-execution-requires-clause-within
play_alt-branch-execution-requires-clause-within g t c κs within =
    let there : IsDecisionOf c.as_slice.result.now (decision.Branch c.in-Branch.place) = rw c.in-Branch.is at c.in_ok-place.ensures.there in
    slice_get_within c.as_slice.result.now c.in-Branch.place there.0 there.1

pub play_alt-branch-execution-requires-clause-can : goal.play_alt-branch-execution-requires-clause-can
play_alt-branch-execution-requires-clause-can g t c κs within =
    subst (λ n. CanEnterAll (stage_at c.args.execution.now.task.now) n c.as_slice.result.now) (sym (ap length c.in_ok-place.ensures.turns))
    (subst (CanEnterAll (stage_at c.args.execution.now.task.now) (depth_of c.args.frame.now)) (sym c.as_slice.ensures)
    (plays_alt (stage_at c.args.execution.now.task.now) (depth_of c.args.frame.now) (b.Alt c.args.branches.now c.args.otherwise.now) c.args.branches.now c.args.otherwise.now refl
    c.requires.can))

pub play_alt-execute-requires-clause-can : goal.play_alt-execute-requires-clause-can
play_alt-execute-requires-clause-can g t c κs within =
    let whole = ap (λ o. b.Alt c.args.branches.now o) c.in-Some.is in
    subst (λ n. CanPlayAll (stage_at c.args.execution.now.task.now) n c.as_slice-in-Some.result.now) (sym (ap length c.in_ok-place.ensures.turns))
    (subst (CanPlayAll (stage_at c.args.execution.now.task.now) (depth_of c.args.frame.now)) (sym c.as_slice-in-Some.ensures)
    (plays_else (stage_at c.args.execution.now.task.now) (depth_of c.args.frame.now) (b.Alt c.args.branches.now c.args.otherwise.now) c.args.branches.now c.in-Some.block whole c.requires.can))

pub play_alt-decide-requires-clause-lasting : goal.play_alt-decide-requires-clause-lasting
play_alt-decide-requires-clause-lasting g t c κs within =
    subst (λ ls. AreLastingBranches c.as_slice.result.now ls) (sym c.as_slice-2.ensures)
    (subst (λ xs. AreLastingBranches xs (out-Lasting c.args.lasting.now).branches) (sym c.as_slice.ensures)
    (lasts_alt (b.Alt c.args.branches.now c.args.otherwise.now) c.args.lasting.now c.args.branches.now c.args.otherwise.now refl c.requires.lasting))

pub play_alt-branch-execution-requires-clause-lasting : goal.play_alt-branch-execution-requires-clause-lasting
play_alt-branch-execution-requires-clause-lasting g t c κs within =
    subst (λ ls. AreLastingBranches c.as_slice.result.now ls) (sym c.as_slice-2.ensures)
    (subst (λ xs. AreLastingBranches xs (out-Lasting c.args.lasting.now).branches) (sym c.as_slice.ensures)
    (lasts_alt (b.Alt c.args.branches.now c.args.otherwise.now) c.args.lasting.now c.args.branches.now c.args.otherwise.now refl c.requires.lasting))

pub play_alt-execute-requires-clause-lasting : goal.play_alt-execute-requires-clause-lasting
play_alt-execute-requires-clause-lasting g t c κs within =
    let whole = ap (λ o. b.Alt c.args.branches.now o) c.in-Some.is in
    subst (λ ls. AreLasting c.as_slice-in-Some.result.now ls) (sym c.as_slice-in-Some-2.ensures)
    (subst (λ xs. AreLasting xs (out-Lasting c.args.lasting.now).block) (sym c.as_slice-in-Some.ensures)
    (lasts_else (b.Alt c.args.branches.now c.args.otherwise.now) c.args.lasting.now c.args.branches.now c.in-Some.block whole c.requires.lasting))

pub play_alt-returns-in-Branch-clause-ended : goal.play_alt-returns-in-Branch-clause-ended
play_alt-returns-in-Branch-clause-ended g t c =
    let decide = c.in_ok-place.ensures in
    let decided : Decided c.args.execution.now.task.now c.as_slice.result.now c.is_some.result
    (decision.Branch c.in-Branch.place) c.args.worker.now c.args.frame.now
    c.decide.new.worker c.decide.new.frame
    = rw c.in-Branch.is at decide.decided in
    on_ok_weaker c.branch-execution.result
    (step_branch c.args.execution.now.task.now (b.Alt c.args.branches.now c.args.otherwise.now) c.args.branches.now c.as_slice.result.now c.args.otherwise.now c.is_some.result
    c.in-Branch.place c.branch-execution.new.outcome
    c.args.worker.now c.args.frame.now c.decide.new.worker c.decide.new.frame c.branch-execution.new.worker c.branch-execution.new.frame
    refl c.as_slice.ensures decide.turns decided)
    c.branch-execution.ensures.ended

pub play_alt-returns-in-Some-clause-ended : goal.play_alt-returns-in-Some-clause-ended
play_alt-returns-in-Some-clause-ended g t c =
    let decide = c.in_ok-place.ensures in
    let decided : Decided c.args.execution.now.task.now c.as_slice.result.now c.is_some.result decision.Else c.args.worker.now c.args.frame.now
    c.decide.new.worker
    c.decide.new.frame
    = rw c.in-Else.is at decide.decided in
    on_ok_weaker c.execute.result
    (step_else c.args.execution.now.task.now (b.Alt c.args.branches.now c.args.otherwise.now) c.args.branches.now c.as_slice.result.now c.args.otherwise.now c.in-Some.block
    c.as_slice-in-Some.result.now c.is_some.result c.execute.new.outcome
    c.args.worker.now c.args.frame.now c.decide.new.worker c.decide.new.frame c.execute.new.worker c.execute.new.frame
    refl c.in-Some.is c.as_slice.ensures c.as_slice-in-Some.ensures decide.turns decided)
    c.execute.ensures.ended

pub play_alt-returns-in-Waits-clause-ended : goal.play_alt-returns-in-Waits-clause-ended
play_alt-returns-in-Waits-clause-ended g t c =
    let decide = c.in_ok-place.ensures in
    let decided : Decided c.args.execution.now.task.now c.as_slice.result.now c.is_some.result
    (decision.Waits c.in-Waits.guards) c.args.worker.now c.args.frame.now
    c.decide.new.worker c.decide.new.frame
    = rw c.in-Waits.is at decide.decided in
    step_waits c.args.execution.now.task.now (b.Alt c.args.branches.now c.args.otherwise.now) c.args.branches.now c.as_slice.result.now c.args.otherwise.now c.is_some.result c.in-Waits.guards
    c.args.worker.now c.args.frame.now c.decide.new.worker c.decide.new.frame refl c.as_slice.ensures c.is_some.ensures decided

-- the turns of a `for`
pub turns-returns-then-is_empty-clause-ended : goal.turns-returns-then-is_empty-clause-ended
turns-returns-then-is_empty-clause-ended g t c =
    subst (λ o. Turned c.args.execution.now.task.now c.args.values.start c.args.block.statements.now (turns_between c.args.values.start c.args.values.end) o
    c.args.worker.now c.args.frame.now c.args.worker.now c.args.frame.now)
    (sym c.requires.goes_on)
    (turned_empty c.args.execution.now.task.now c.args.values.start c.args.block.statements.now (turns_between c.args.values.start c.args.values.end)
    c.args.worker.now c.args.frame.now (none_there c.args.block.statements.now c.if-is_empty.ensures))

pub turns-loop-value-init : goal.turns-loop-value-init
turns-loop-value-init g t c = record {
  consistent = c.requires.consistent;
  same = record { inbox = refl; ends = refl };
  held = c.requires.held;
  turns = refl;
  goes_on = c.requires.goes_on;
  made = made_start c.args.execution.now.task.now _ _ c.args.block.statements.now c.args.worker.now c.args.frame.now;
}

pub turns-loop-value-preserved : goal.turns-loop-value-preserved
turns-loop-value-preserved g t c =
    let turn = c.in_ok-turn.ensures in
    let first = to_z w64 (of_z w64 c.args.values.start) in
    let bound = to_z w64 (of_z w64 c.args.values.end) in
    let value = to_z w64 c.loop-value.value-bits in
    let next = to_z w64 (of_z w64 (value +ℤ pos 1)) in
    let below : value <ℤ bound = grind (arith, ints) in
    let is : next ≡ value +ℤ pos 1 = omega (arith, ints) in
    let done : ExecutedIn c.args.execution.now.task.now (c.loop-value.frame.turns.items ++ value ∷ []) c.args.block.statements.now outcome.Done
    c.loop-value.worker c.loop-value.frame c.turn.new.worker c.turn.new.frame
    = rw c.in-Done.is at turn.ended in
    record {
      consistent = turn.consistent;
      same = same_then c.args.worker.now c.loop-value.worker c.turn.new.worker c.loop-value.invariant.same turn.same;
      held = turn.held;
      turns = turn.turns ∙ c.loop-value.invariant.turns;
      goes_on = c.in-Done.is;
      made =
          made_more c.args.execution.now.task.now first value bound next c.args.block.statements.now c.args.worker.now c.args.frame.now c.loop-value.worker
          c.loop-value.frame c.turn.new.worker c.turn.new.frame
          c.loop-value.invariant.turns below is c.loop-value.invariant.made done;
    }

pub turns-returns-in_default-clause-same : goal.turns-returns-in_default-clause-same
turns-returns-in_default-clause-same g t c =
    same_then c.args.worker.now c.loop-value.worker c.turn.new.worker c.loop-value.invariant.same c.in_ok-turn.ensures.same

pub turns-returns-in_default-clause-turns : goal.turns-returns-in_default-clause-turns
turns-returns-in_default-clause-turns g t c = c.in_ok-turn.ensures.turns ∙ c.loop-value.invariant.turns

pub turns-returns-in_default-clause-ended : goal.turns-returns-in_default-clause-ended
turns-returns-in_default-clause-ended g t c =
    let first = to_z w64 (of_z w64 c.args.values.start) in
    let bound = to_z w64 (of_z w64 c.args.values.end) in
    let low : SFits w64 c.args.values.start = search rules in
    let high : SFits w64 c.args.values.end = search rules in
    let value = to_z w64 c.loop-value.value-bits in
    let below : value <ℤ bound = grind (arith, ints) in
    turned_as c.args.execution.now.task.now c.turn.new.outcome c.args.block.statements.now first c.args.values.start bound c.args.values.end
    c.args.worker.now c.args.frame.now c.turn.new.worker c.turn.new.frame
    (to_z-of_z w64 c.args.values.start low) (to_z-of_z w64 c.args.values.end high)
    (made_stop c.args.execution.now.task.now first value bound c.args.block.statements.now c.turn.new.outcome c.args.worker.now c.args.frame.now
    c.loop-value.worker c.loop-value.frame
    c.turn.new.worker c.turn.new.frame c.in_default.not-Done c.loop-value.invariant.turns below c.loop-value.invariant.made c.in_ok-turn.ensures.ended)

pub turns-returns-in_default-clause-within : goal.turns-returns-in_default-clause-within
turns-returns-in_default-clause-within g t c =
    waits_from c.args.execution.now.task.now c.args.worker.now c.loop-value.worker c.turn.new.outcome c.requires.consistent c.loop-value.invariant.consistent
    c.in_ok-turn.ensures.within

pub turns-returns-clause-ended : goal.turns-returns-clause-ended
turns-returns-clause-ended g t c =
    let first = to_z w64 (of_z w64 c.args.values.start) in
    let bound = to_z w64 (of_z w64 c.args.values.end) in
    let low : SFits w64 c.args.values.start = search rules in
    let high : SFits w64 c.args.values.end = search rules in
    let value = to_z w64 c.loop-value.value-bits in
    let above : bound ≤ℤ value = grind (arith, ints) in
    subst (λ o. Turned c.args.execution.now.task.now c.args.values.start c.args.block.statements.now (turns_between c.args.values.start c.args.values.end) o
    c.args.worker.now c.args.frame.now c.loop-value.worker c.loop-value.frame)
    (sym c.loop-value.invariant.goes_on)
    (turned_as c.args.execution.now.task.now outcome.Done c.args.block.statements.now first c.args.values.start bound c.args.values.end c.args.worker.now
    c.args.frame.now c.loop-value.worker c.loop-value.frame
    (to_z-of_z w64 c.args.values.start low) (to_z-of_z w64 c.args.values.end high)
    (made_all c.args.execution.now.task.now first value bound c.args.block.statements.now c.args.worker.now c.args.frame.now c.loop-value.worker
    c.loop-value.frame above c.loop-value.invariant.made))
