-- The behaviour begins with the component's own worker, and what comes back is that worker.
use Rattle.std.proofs.Common.{◌≢◌, None, sym, ◌∙◌, subst}
use Rattle.std.proofs.lemmas.Result.{IfOk-weaker}
use Rattle.tp_config.specs.declared.port_type.CompId.{CompId}
use Rattle.tp_play.specs.TestCases.{behaviour_at}
use Rattle.tp_exec.specs.Returns.{IsTaskOf}
use Rattle.tp_exec.proofs.BehavioursBackFromThreads.{behaved_back, desk_comp, waiting_begins}
use Rattle.tp_exec.proofs.threads.run_component.Goals as goal

pub task_of-task-requires : goal.task_of-task-requires
task_of-task-requires g c =
    let made = c.args.test_case.now in
    let x = c.args.worker in
    subst (λ (k : CompId). behaviour_at made k.0 ≢ None) (sym (c.comp.ensures ∙ desk_comp made x c.requires.waiting)) c.requires.busy

pub play-played-requires-after_bounds : goal.play-played-requires-after_bounds
play-played-requires-after_bounds g c κs within =
    let made = c.args.test_case.now in
    let x = c.args.worker in
    let its = subst (λ (k : CompId). IsTaskOf made k c.task_of-task.result) (c.comp.ensures ∙ desk_comp made x c.requires.waiting)
    c.task_of-task.ensures.task in
    waiting_begins made c.task_of-task.result x its c.requires.waiting

pub returns : goal.returns
returns g c =
    let made = c.args.test_case.now in
    let x = c.args.worker in
    let task = c.task_of-task.result in
    let its = subst (λ (k : CompId). IsTaskOf made k task) (c.comp.ensures ∙ desk_comp made x c.requires.waiting) c.task_of-task.ensures.task in
    IfOk-weaker c.play-played.result _ _ (λ p behaved. behaved_back made task x p its behaved) c.play-played.ensures
