-- What goes into the threads of a run, and what they return.
use Rattle.std.specs.Prelude.{◌≡◌, ◌≢◌, ℕ, Some, None, List, [], map}
use Rattle.tp_config.specs.declared.port_type.CompId.{CompId}
use Rattle.tp_play.specs.BorrowedBehaviours.{as_behaviour}
use Rattle.tp_play.specs.TestCases.{Made, behaviour_at}
use Rattle.tp_inbox.specs.Ledgers.{Inbox, end_of}
use Rattle.tp_behaviour.specs.declared.task.Task.{Task}
use Rattle.tp_behaviour.specs.declared.worker.Worker.{Worker}
use Rattle.tp_behaviour.specs.Moments.{moments}
use Rattle.tp_behaviour.specs.Outcomes.{CanBehave, HasEnded, WaitsWithin}
use Rattle.tp_behaviour.specs.Workers.{IsConsistent, role_of}
use Rattle.tp_exec.specs.declared.played.Played.{Played}
use Rattle.tp_exec.specs.Rounds.{HasNotBegun, HasPlayed, IsWorkerOf, Link}

-- the identity of a worker: its inbox, and the links of its senders
abbrev pub identity_of : Worker → Inbox × List Link
identity_of x = (x.owner.inbox, map end_of x.outbox)

-- the identities of all workers that were returned
abbrev pub identities_of : List Played → List (Inbox × List Link)
identities_of played = map (λ (p : Played). identity_of p.worker) played

-- the number of the component whose worker it is
abbrev pub worker_number : Worker → ℕ
worker_number x = x.owner.inbox.comp.0

-- the worker is that of its component, and has done nothing yet
pub record IsYetToBegin (made : Made) (x : Worker) : Type 0 where
  pub worker_of : IsWorkerOf made.config (worker_number x) x
  pub begun : HasNotBegun x

-- the component has a behaviour
abbrev pub IsBusy : Made → Worker → Type 0
IsBusy made x = behaviour_at made (worker_number x) ≢ None

-- the task is that of this component
pub record IsTaskOf (made : Made) (c : CompId) (task : Task) : Type 0 where
  pub config : task.config.now ≡ made.config
  pub comp : task.comp ≡ c
  pub behaviour : behaviour_at made c.0 ≡ Some (as_behaviour task.behaviour)
  pub can : CanBehave task

-- the worker can begin the behaviour
pub record CanBegin (task : Task) (x : Worker) : Type 0 where
  pub consistent : IsConsistent (role_of task) x
  pub begun : moments x.desk.log ≡ []
  pub can : CanBehave task

-- the behaviour has ended, with the worker that began it
pub record HasBehaved (task : Task) (before : Worker) (p : Played) : Type 0 where
  pub identity : identity_of p.worker ≡ identity_of before
  pub consistent : IsConsistent (role_of task) p.worker
  pub ended : HasEnded (role_of task) task.behaviour.body.now p.outcome p.worker.desk.log
  pub within : WaitsWithin p.worker.desk.ports p.outcome

-- the component has executed its behaviour, if it has one, and the worker is still its own
pub record HasReturned (made : Made) (p : Played) : Type 0 where
  pub worker_of : IsWorkerOf made.config (worker_number p.worker) p.worker
  pub played : HasPlayed made (worker_number p.worker) p

-- what the thread of a component returns: the worker that went into it, after the component has executed its behaviour
pub record IsBack (made : Made) (before : Worker) (p : Played) : Type 0 where
  pub identity : identity_of p.worker ≡ identity_of before
  pub returned : HasReturned made p
