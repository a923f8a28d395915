-- What has come back from a thread, or had nothing to do there, has done what it is there for.
use Rattle.std.proofs.Common.{◌≡◌, ℕ, true, false, Option, Some, None, List, [], refl, sym, ap, ◌∙◌, subst, true≢false}
use Rattle.std.specs.Option.{is_some, option_map}
use Rattle.std.proofs.lemmas.Option.{none-some}
use Rattle.tp_config.specs.declared.port_type.CompId.{CompId}
use Rattle.tp_config.specs.Setup.{Setup}
use Rattle.tp_play.specs.declared.test_case.Behaviour.{Behaviour as BorrowedBehaviour}
use Rattle.tp_play.specs.Behaviours.{Behaviour}
use Rattle.tp_play.specs.BorrowedBehaviours.{as_behaviour}
use Rattle.tp_play.specs.TestCases.{Made, behaviour_at}
use Rattle.tp_inbox.specs.declared.entry.Entry.{Entry}
use Rattle.tp_inbox.specs.Ledgers.{Inbox}
use Rattle.tp_behaviour.specs.declared.outcome.Outcome.TheVariants as outcome
use Rattle.tp_behaviour.specs.declared.task.Task.{Task}
use Rattle.tp_behaviour.specs.declared.worker.Worker.{Worker}
use Rattle.tp_behaviour.specs.Held.{Actor}
use Rattle.tp_behaviour.specs.Moments.{Moment, moments}
use Rattle.tp_behaviour.specs.Paths.{IsPath}
use Rattle.tp_behaviour.specs.Outcomes.{HasEnded}
use Rattle.tp_behaviour.specs.Workers.{IsConsistent, role_of}
use Rattle.tp_exec.specs.declared.played.Played.{Played}
use Rattle.tp_exec.specs.Returns.{CanBegin, HasBehaved, HasReturned, IsBack, IsBusy, IsTaskOf, IsYetToBegin, worker_number}
use Rattle.tp_exec.specs.Rounds.{BehaviourEnded, comp_at}

-- a worker is as well that of its component for a behaviour with other references
pub consistent_for : (s : Setup) (c : CompId) (references others : List ℕ) (x : Worker)
    → IsConsistent (record { config = s; comp = c; references = references }) x → IsConsistent (record { config = s; comp = c; references = others }) x
consistent_for s c references others x h = record {
  ends = record { comp = h.ends.comp; ports = h.ends.ports; here = h.ends.here; loops = h.ends.loops; from_ports = h.ends.from_ports };
  desk = h.desk;
  arrived = h.arrived;
  noted = h.noted;
  theirs = h.theirs;
  sent = h.sent;
  fresh = h.fresh;
}

-- a body without a statement is at its end at once
nothing_to_do : (r : Actor) (k : List Entry) → moments k ≡ [] → HasEnded r (record { variables = []; statements = [] }) outcome.Done k
nothing_to_do r k none = ([], subst (λ (ts : List Moment). IsPath r [] [] [] ts []) (sym none) (IsPath.no_statement [] []))

none_at_all : moments [] ≡ []
unfolding moments
none_at_all = refl

-- no moment, where nothing has happened
pub no_moment : (k : List Entry) → k ≡ [] → moments k ≡ []
no_moment k none = ap moments none ∙ none_at_all

-- a component that has nothing to do
pub returned_at_once : (made : Made) (x : Worker) → IsYetToBegin made x → behaviour_at made (worker_number x) ≡ None
    → HasReturned made (record { worker = x; outcome = outcome.Done })
returned_at_once made x waits nothing = record {
  worker_of = waits.worker_of;
  played = record {
    ended = subst (λ (d : Option Behaviour). BehaviourEnded made.config (comp_at (worker_number x)) d outcome.Done x.desk.log) (sym nothing)
        (nothing_to_do (record { config = made.config; comp = comp_at (worker_number x); references = [] }) x.desk.log
        (no_moment x.desk.log waits.begun));
    within = tt;
  };
}

-- a behaviour that has come to its end is that of its component
pub behaved_back : (made : Made) (task : Task) (before : Worker) (p : Played) → IsTaskOf made before.owner.inbox.comp task → HasBehaved task before p
    → IsBack made before p
behaved_back made task before p its behaved =
    let inbox : p.worker.owner.inbox ≡ before.owner.inbox = ap (λ b. b.0) behaved.identity in
    let c : CompId = p.worker.owner.inbox.comp in
    let same : before.owner.inbox.comp ≡ c = ap (λ (i : Inbox). i.comp) (sym inbox) in
    let is : task.comp ≡ c = its.comp ∙ same in
    let references : List ℕ = (as_behaviour task.behaviour).references in
    let r : Actor = record { config = made.config; comp = c; references = references } in
    let role : role_of task ≡ r = λ i. record { config = its.config i; comp = is i; references = references } in
    let behaviour : behaviour_at made c.0 ≡ Some (as_behaviour task.behaviour) =
    subst (λ (d : CompId). behaviour_at made d.0 ≡ Some (as_behaviour task.behaviour)) same its.behaviour in
    let consistent : IsConsistent r p.worker = subst (λ (q : Actor). IsConsistent q p.worker) role behaved.consistent in
    record {
      identity = behaved.identity;
      returned = record {
        worker_of = λ others. consistent_for made.config c references others p.worker consistent;
        played = record {
          ended = subst (λ (d : Option Behaviour). BehaviourEnded made.config c d p.outcome p.worker.desk.log) (sym behaviour)
              (subst (λ (q : Actor). HasEnded q task.behaviour.body.now p.outcome p.worker.desk.log) role behaved.ended);
          within = behaved.within;
        };
      };
    }

-- a component can begin with its own task
pub waiting_begins : (made : Made) (task : Task) (x : Worker) → IsTaskOf made x.owner.inbox.comp task → IsYetToBegin made x → CanBegin task x
waiting_begins made task x its waits =
    let references : List ℕ = (as_behaviour task.behaviour).references in
    let r : Actor = record { config = made.config; comp = x.owner.inbox.comp; references = references } in
    let role : role_of task ≡ r = λ i. record { config = its.config i; comp = its.comp i; references = references } in
    record {
      consistent = subst (λ (q : Actor). IsConsistent q x) (sym role) (waits.worker_of references);
      begun = no_moment x.desk.log waits.begun;
      can = its.can;
    }

-- the desk of a worker is that of its component
pub desk_comp : (made : Made) (x : Worker) → IsYetToBegin made x → x.desk.comp ≡ x.owner.inbox.comp
desk_comp made x waits = (waits.worker_of []).desk.0

-- a component with which a body comes has something to do, and one without has nothing
pub nothing_where_none : (made : Made) (x : Worker) (comp : CompId) (r : Option BorrowedBehaviour) → IsYetToBegin made x → comp ≡ x.desk.comp
    → option_map as_behaviour r ≡ behaviour_at made comp.0 → is_some r ≡ false → behaviour_at made (worker_number x) ≡ None
nothing_where_none made x comp None waits its is none = ap (λ (c : CompId). behaviour_at made c.0) (sym (its ∙ desk_comp made x waits)) ∙ sym is
nothing_where_none made x comp (Some d) waits its is none = absurd (true≢false none)

pub busy_where_some : (made : Made) (x : Worker) (comp : CompId) (r : Option BorrowedBehaviour) → IsYetToBegin made x → comp ≡ x.desk.comp
    → option_map as_behaviour r ≡ behaviour_at made comp.0 → is_some r ≡ true → IsBusy made x
busy_where_some made x comp None waits its is some = absurd (true≢false (sym some))
busy_where_some made x comp (Some d) waits its is some =
    λ nothing. none-some (as_behaviour d) (sym nothing ∙ ap (λ (c : CompId). behaviour_at made c.0) (sym (its ∙ desk_comp made x waits)) ∙ sym is)
