-- Where all have come back, the workers are still those of the run, and each has done what it is there for.
use Rattle.std.proofs.Common.{◌≡◌, List, All, IfOk, Ok, Err, Result, Vec, map}
use Rattle.std.specs.Global.{Global}
use Rattle.tp_play.specs.TestCases.{Made}
use Rattle.tp_behaviour.specs.declared.worker.Worker.{Worker}
use Rattle.tp_exec.specs.declared.played.Played.{Played}
use Rattle.tp_exec.specs.Returns.{HasReturned, identity_of, identities_of}
use Rattle.tp_exec.specs.Rounds.{ArePlayed, AreWorkers, workers_of}
use Rattle.tp_exec.proofs.ComponentsAfterThreads.{all_played, all_workers, all_waiting}
use Rattle.tp_exec.proofs.threads.play_all.Goals as goal

module _ {E : Type 0} (made : Made) (workers : List Worker) (are : AreWorkers made.config workers) where
  workers_after : (r : Result (Vec Played Global) E) → IfOk r (λ v. identities_of v.items ≡ map identity_of workers) → IfOk r (λ v. All (HasReturned made) v.items)
      → IfOk r (λ v. AreWorkers made.config (workers_of v.items))
  workers_after (Ok v) identities back = all_workers made workers v.items are identities back
  workers_after (Err e) identities back = tt

  played_after : (r : Result (Vec Played Global) E) → IfOk r (λ v. identities_of v.items ≡ map identity_of workers) → IfOk r (λ v. All (HasReturned made) v.items)
      → IfOk r (λ v. ArePlayed made v.items)
  played_after (Ok v) identities back = all_played made workers v.items are identities back
  played_after (Err e) identities back = tt

pub play_each-requires-after_bounds : goal.play_each-requires-after_bounds
play_each-requires-after_bounds g c κs within = all_waiting c.args.test_case.now c.args.workers.items c.requires.workers c.requires.begun

pub returns-clause-workers : goal.returns-clause-workers
returns-clause-workers g c =
    workers_after c.args.test_case.now c.args.workers.items c.requires.workers c.play_each.result c.play_each.ensures.identities c.play_each.ensures.returned

pub returns-clause-played : goal.returns-clause-played
returns-clause-played g c =
    played_after c.args.test_case.now c.args.workers.items c.requires.workers c.play_each.result c.play_each.ensures.identities c.play_each.ensures.returned
