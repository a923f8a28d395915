-- The ports of a worker, which stay as they are while a behaviour runs.
use Rattle.std.proofs.Common.{◌≡◌, ◌∙◌, ℕ, subst, sym}
use Rattle.tp_behaviour.specs.declared.outcome.Outcome.{Outcome}
use Rattle.tp_behaviour.specs.declared.task.Task.{Task}
use Rattle.tp_behaviour.specs.declared.worker.Worker.{Worker}
use Rattle.tp_behaviour.specs.Outcomes.{WaitsWithin, stage_at}
use Rattle.tp_behaviour.specs.Workers.{IsConsistent, role_of}

-- the desk has the ports that the body speaks of
pub ports_there : (p : Task) (s : Worker) → IsConsistent (role_of p) s → s.desk.ports ≡ (stage_at p).ports
ports_there p s m = m.desk.1 ∙ m.ends.ports

-- what it waits for, seen from another worker
pub waits_from : (p : Task) (s t : Worker) (o : Outcome) → IsConsistent (role_of p) s → IsConsistent (role_of p) t → WaitsWithin t.desk.ports o
    → WaitsWithin s.desk.ports o
waits_from p s t o here there h = subst (λ (n : ℕ). WaitsWithin n o) (ports_there p t there ∙ sym (ports_there p s here)) h
