-- The outcomes of the parts of a statement: the decision of an `alt`, the block of a branch, and the turns of a `for`.
use Rattle.std.specs.Prelude.{◌≡◌, ◌<◌, ℕ, ℤ, Bool, true, false, Option, Some, None, List, All, slice_get}
use Rattle.tp_common.specs.declared.event.Env.{Env}
use Rattle.tp_value.specs.declared.message.Message.{Message}
use Rattle.tp_play.specs.declared.body.ResolvedStatement.{ResolvedStatement}
use Rattle.tp_play.specs.declared.body.ResolvedBranch.{ResolvedBranch}
use Rattle.tp_behaviour.specs.declared.choice.Guard.{Guard}
use Rattle.tp_behaviour.specs.declared.deciding.Decision.{Decision}
use Rattle.tp_behaviour.specs.declared.deciding.Decision.TheVariants as decision
use Rattle.tp_behaviour.specs.declared.held.Held.{Held}
use Rattle.tp_behaviour.specs.declared.outcome.Outcome.{Outcome}
use Rattle.tp_behaviour.specs.declared.task.Task.{Task}
use Rattle.tp_behaviour.specs.declared.worker.Worker.{Worker}
use Rattle.tp_behaviour.specs.declared.worker.Frame.{Frame}
use Rattle.tp_behaviour.specs.Choices.{IsChoice, IsDrop}
use Rattle.tp_behaviour.specs.Held.{redirected}
use Rattle.tp_behaviour.specs.Moments.{Moment}
use Rattle.tp_behaviour.specs.Outcomes.{Ends, EndsTurns, Executed}
use Rattle.tp_behaviour.specs.Paths.{guards_of}
use Rattle.tp_behaviour.specs.LookOutcomes.{Ending, TraceGrew}
use Rattle.tp_behaviour.specs.Workers.{role_of, values_of}

-- the branches of an `alt`, with loop variables and references replaced by their values
abbrev pub guards_at : Task → Frame → List ResolvedBranch → List Guard
guards_at p s branches = guards_of (role_of p) (values_of s) branches

-- what the branch at this place took or found is stored in the variables that it names
pub record IsEntered (branches : List ResolvedBranch) (place : ℕ) (env : Env Message)
    (vs ws : List (Option Held)) : Type 0 where
  pub branch : ResolvedBranch
  pub there : slice_get branches place ≡ Some branch
  pub set : ws ≡ redirected branch.receiving env vs

-- after any messages that `trigger` branches discarded, the branch at this place was chosen, and its variables were set
pub record Enters (branches : List ResolvedBranch) (guards : List Guard) (place : ℕ) (vs ws : List (Option Held))
    (ts : List Moment) : Type 0 where
  pub env : Env Message
  pub chosen : Ending guards (λ t. (any : Bool) → IsChoice guards any t (Some (place, env))) ts
  pub entered : IsEntered branches place env vs ws

-- after any messages that `trigger` branches discarded, `[else]` was chosen
pub record EntersElse (guards : List Guard) (has_else : Bool) (vs ws : List (Option Held))
    (ts : List Moment) : Type 0 where
  pub there : has_else ≡ true
  pub chosen : Ending guards (λ t. IsChoice guards true t None) ts
  pub kept : ws ≡ vs

-- after any messages that `trigger` branches discarded, an `alt` without `[else]` waits for one of these branches
pub record Rests (guards : List Guard) (has_else : Bool) (waiting : List Guard) (ts : List Moment) : Type 0 where
  pub none : has_else ≡ false
  pub drops : All (IsDrop guards) ts
  pub same : waiting ≡ guards

-- the decision of an `alt`: what happened up to the block that it goes on with
abbrev pub Decided : Task → List ResolvedBranch → Bool → Decision → Worker → Frame → Worker → Frame → Type 0
Decided p branches has_else (decision.Branch place) here before there after =
    TraceGrew (Enters branches (guards_at p before branches) place before.variables.items after.variables.items)
    here.desk.log there.desk.log
Decided p branches has_else decision.Else here before there after =
    TraceGrew (EntersElse (guards_at p before branches) has_else before.variables.items after.variables.items) here.desk.log
    there.desk.log
Decided p branches has_else (decision.Waits waiting) here before there after =
    TraceGrew (Rests (guards_at p before branches) has_else waiting.items) here.desk.log there.desk.log

-- the block of the branch at this place was executed, with this outcome
abbrev pub ExecutedAt : Task → List ResolvedBranch → ℕ → Outcome → Worker → Frame → Worker → Frame → Type 0
ExecutedAt p branches place o here before there after =
    (x : ResolvedBranch) × (slice_get branches place ≡ Some x) × Executed p x.block o here before there after

-- a block was executed with these values of the loop variables around it, and had this outcome
abbrev pub ExecutedIn : Task → List ℤ → List ResolvedStatement → Outcome → Worker → Frame → Worker → Frame → Type 0
ExecutedIn p turns block o here before there after =
    TraceGrew (λ ts. Ends (role_of p) o turns before.variables.items block ts after.variables.items) here.desk.log
    there.desk.log

-- this number of turns of a block was executed, from this value of the loop variable on, and had this outcome
abbrev pub Turned : Task → ℤ → List ResolvedStatement → ℕ → Outcome → Worker → Frame → Worker → Frame → Type 0
Turned p first block count o here before there after =
    TraceGrew (λ ts. EndsTurns (role_of p) o before.turns.items before.variables.items first block count ts
    after.variables.items) here.desk.log there.desk.log

-- if the `alt` goes on with a branch, it is one of its branches
abbrev pub IsDecisionOf : List ResolvedBranch → Decision → Type 0
IsDecisionOf branches (decision.Branch place) = (x : ResolvedBranch) × (slice_get branches place ≡ Some x)
IsDecisionOf branches _ = Unit {0}

-- if the `alt` waits, it waits for operations on the first n ports
abbrev pub RestsWithin : ℕ → Decision → Type 0
RestsWithin n (decision.Waits waiting) = All (λ (g : Guard). g.port < n) waiting.items
RestsWithin n _ = Unit {0}
