-- What an `alt` goes on with is what was chosen.
use Rattle.std.proofs.Common.{◌∙◌, ap, refl, subst, sym}
use Rattle.std.specs.Prelude.{IsSome}
use Rattle.tp_behaviour.specs.Outcomes.{depth_of}
use Rattle.tp_behaviour.specs.Workers.{role_of, values_of}
use Rattle.tp_behaviour.specs.Views.{all_viewed}
use Rattle.tp_behaviour.proofs.AltChoicesWithinBounds.{chose_within, entered, entered_there, guards_within}
use Rattle.tp_behaviour.proofs.GuardViewsByPlace.{viewed_within}
use Rattle.tp_behaviour.proofs.deciding.decide.Goals as goal

pub choose-requires-clause-within : goal.choose-requires-clause-within
choose-requires-clause-within g c κs within =
    viewed_within c.args.worker.now.desk.ports c.as_slice.result.now
    (guards_within c.args.execution.now.task.now c.args.worker.now (depth_of c.args.frame.now) (values_of c.args.frame.now) c.args.alt.branches.now
    (all_viewed c.as_slice.result.now)
    c.requires.consistent c.requires.can (ap all_viewed c.as_slice.ensures.value ∙ c.in_ok-views.ensures))

-- the branch that is chosen is one of these
pub enter-requires-clause-there : goal.enter-requires-clause-there
enter-requires-clause-there g c =
    chose_within (role_of c.args.execution.now.task.now) (values_of c.args.frame.now) c.args.alt.branches.now (all_viewed c.as_slice.result.now)
    c.args.alt.has_else c.in-Branch.place
    c.args.worker.now.desk.log c.choose.new.worker.desk.log (ap all_viewed c.as_slice.ensures.value ∙ c.in_ok-views.ensures)
    (rw c.in-Branch.is at c.in_ok-place.ensures.chose)

pub enter-requires-clause-chosen : goal.enter-requires-clause-chosen
enter-requires-clause-chosen g c =
    let chose = rw c.in-Branch.is at c.in_ok-place.ensures.chose in
    subst IsSome (sym chose.2.1) refl

pub returns-in-Branch-clause-decided : goal.returns-in-Branch-clause-decided
returns-in-Branch-clause-decided g c =
    entered (role_of c.args.execution.now.task.now) (values_of c.args.frame.now) c.args.alt.branches.now (all_viewed c.as_slice.result.now) c.args.alt.has_else
    c.in-Branch.place
    c.enter.new.frame.variables.items c.args.worker.now.desk.log c.choose.new.worker.desk.log (ap all_viewed c.as_slice.ensures.value ∙ c.in_ok-views.ensures)
    (rw c.in-Branch.is at c.in_ok-place.ensures.chose) c.in_ok-enter-in-Branch.ensures.set

pub returns-in-Branch-clause-there : goal.returns-in-Branch-clause-there
returns-in-Branch-clause-there g c =
    entered_there (all_viewed c.as_slice.result.now) c.args.alt.has_else c.in-Branch.place c.args.alt.branches.now _ _ _ _
    (rw c.in-Branch.is at c.in_ok-place.ensures.chose) c.in_ok-enter-in-Branch.ensures.set

-- what it waits for is within the ports
pub returns-clause-within : goal.returns-clause-within
returns-clause-within g c =
    guards_within c.args.execution.now.task.now c.args.worker.now (depth_of c.args.frame.now) (values_of c.args.frame.now) c.args.alt.branches.now
    c.in_ok-guards-in-Waits.guards.items
    c.requires.consistent c.requires.can c.in_ok-guards-in-Waits.ensures
