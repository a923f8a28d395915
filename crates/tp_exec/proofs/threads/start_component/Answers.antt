-- The component has nothing to do, or goes into a thread with all that it needs there.
use denote.Param.Send.{sendable}
use Rattle.std.proofs.Crossing.{crosses}
use Rattle.tp_play.proofs.TestCaseThreadSafety.{test_case_sync}
use Rattle.tp_exec.proofs.WorkerThreadSafety.{context_sync, worker_send, played_send}
use Rattle.tp_exec.proofs.BehavioursBackFromThreads.{busy_where_some, nothing_where_none}
use Rattle.tp_exec.proofs.threads.start_component.Goals as goal

pub returns-then-is_none-clause-child : goal.returns-then-is_none-clause-child
returns-then-is_none-clause-child g c =
    let made = c.args.test_case.now in
    c.done_at_once.ensures.returned made c.requires
    (nothing_where_none made c.args.worker c.comp-comp.result c.body.result c.requires c.comp-comp.ensures c.body.ensures.behaviour c.if-is_none.ensures)

pub returns-then-eq-clause-child : goal.returns-then-eq-clause-child
returns-then-eq-clause-child g c = (
  c.requires,
  busy_where_some c.args.test_case.now c.args.worker c.comp-comp.result c.body.result c.requires c.comp-comp.ensures c.body.ensures.behaviour
      c.if-is_none.ensures,
)

pub spawn_with-requires-send-F : goal.spawn_with-requires-send-F
spawn_with-requires-send-F g c κs within = search (sendable, crosses, worker_send, test_case_sync, context_sync) depth 30 fits 20000

pub spawn_with-requires-send-T : goal.spawn_with-requires-send-T
spawn_with-requires-send-T g c κs within = search (sendable, crosses, played_send) depth 30 fits 20000

pub spawn_with-requires-clause-runs : goal.spawn_with-requires-clause-runs
spawn_with-requires-clause-runs g c κs within = (
  (
    c.requires,
    busy_where_some c.args.test_case.now c.args.worker c.comp-comp.result c.body.result c.requires c.comp-comp.ensures c.body.ensures.behaviour
        c.if-is_none.ensures,
  ),
  (search (sendable, c.type_bounds.sync-R), search (sendable, c.type_bounds.sync-G)),
)
