-- How the execution of statements ends.
use Rattle.std.specs.Prelude.{◌≡◌, ◌<◌, ◌+ℤ◌, ℕ, ℤ, pos, All, Option, List, [], ◌∷◌, ◌++◌, length}
use Rattle.tp_config.specs.Setup.{ports_at}
use Rattle.tp_play.specs.declared.body.ResolvedStatement.{ResolvedStatement}
use Rattle.tp_play.specs.declared.body.Body.{Body}
use Rattle.tp_play.specs.Playable.{IsPlayable, Stage, stage_of}
use Rattle.tp_inbox.specs.declared.entry.Entry.{Entry}
use Rattle.tp_inbox.specs.declared.ending.End.TheVariants as end
use Rattle.tp_behaviour.specs.declared.choice.Guard.{Guard}
use Rattle.tp_behaviour.specs.declared.held.Held.{Held}
use Rattle.tp_behaviour.specs.declared.outcome.Outcome.{Outcome}
use Rattle.tp_behaviour.specs.declared.outcome.Outcome.TheVariants as outcome
use Rattle.tp_behaviour.specs.declared.task.Task.{Task}
use Rattle.tp_behaviour.specs.declared.worker.Worker.{Worker}
use Rattle.tp_behaviour.specs.declared.worker.Frame.{Frame}
use Rattle.tp_behaviour.specs.BehaviourEnds.{Stops, StopsWithin}
use Rattle.tp_behaviour.specs.Held.{Actor, unset}
use Rattle.tp_behaviour.specs.Moments.{Moment, moments}
use Rattle.tp_behaviour.specs.Paths.{AreTurns, IsPath, IsStep}
use Rattle.tp_behaviour.specs.LookOutcomes.{TraceGrew}
use Rattle.tp_behaviour.specs.Workers.{AreHeld, role_of}

-- the outcome of statements: they are executed to their end, and the variables then hold these values; or they stop at
-- a send that fails with this fault, or at a wait with these branches
abbrev pub Ends : Actor → Outcome → List ℤ → List (Option Held) → List ResolvedStatement → List Moment → List (Option Held)
    → Type 0
Ends r outcome.Done turns vs xs ts ws = IsPath r turns vs xs ts ws
Ends r (outcome.Error fault) turns vs xs ts ws = Stops r (λ _. ⊥) (end.Error fault) turns vs xs ts
Ends r (outcome.Waiting guards) turns vs xs ts ws = Stops r (λ gs. gs ≡ guards.items) end.Waiting turns vs xs ts

-- the outcome of one statement, in the same way
abbrev pub EndsStep : Actor → Outcome → List ℤ → List (Option Held) → ResolvedStatement → List Moment → List (Option Held)
    → Type 0
EndsStep r outcome.Done turns vs x ts ws = IsStep r turns vs x ts ws
EndsStep r (outcome.Error fault) turns vs x ts ws = StopsWithin r (λ _. ⊥) (end.Error fault) turns vs x ts
EndsStep r (outcome.Waiting guards) turns vs x ts ws =
    StopsWithin r (λ gs. gs ≡ guards.items) end.Waiting turns vs x ts

-- n turns of a block, fewer than `count`, are complete, and the next one stops
abbrev pub StopsTurn : Actor → List ℤ → List (Option Held) → ℤ → List ResolvedStatement → ℕ
    → (List ℤ → List (Option Held) → List Moment → Type 0) → List Moment → Type 0
StopsTurn r turns vs first block count stops ts =
    (n : ℕ) × (us : List (Option Held)) × (before : List Moment) × (more : List Moment) × (ts ≡ before ++ more)
    × (n < count)
    × AreTurns r turns vs first block n before us × stops (turns ++ (first +ℤ pos n) ∷ []) us more

-- the outcome of this number of turns of a block
abbrev pub EndsTurns : Actor → Outcome → List ℤ → List (Option Held) → ℤ → List ResolvedStatement → ℕ → List Moment
    → List (Option Held) → Type 0
EndsTurns r outcome.Done turns vs first block count ts ws = AreTurns r turns vs first block count ts ws
EndsTurns r (outcome.Error fault) turns vs first block count ts ws =
    StopsTurn r turns vs first block count
    (λ inner us more. Stops r (λ _. ⊥) (end.Error fault) inner us block more) ts
EndsTurns r (outcome.Waiting guards) turns vs first block count ts ws =
    StopsTurn r turns vs first block count
    (λ inner us more. Stops r (λ gs. gs ≡ guards.items) end.Waiting inner us block more) ts

-- a behaviour with this history has this outcome: its moments, to which later arrivals add none, are those of the
-- body's statements, which begin with no variable set and have this outcome
abbrev pub HasEnded : Actor → Body → Outcome → List Entry → Type 0
HasEnded r body o k = (vs : List (Option Held)) × Ends r o [] (unset body) body.statements (moments k) vs

-- if it waits, it waits for operations on the first n ports
abbrev pub WaitsWithin : ℕ → Outcome → Type 0
WaitsWithin n (outcome.Waiting guards) = All (λ (g : Guard). g.port < n) guards.items
WaitsWithin n _ = Unit {0}

-- the stage on which the body of a behaviour is played
abbrev pub stage_at : Task → Stage
stage_at p =
    stage_of p.types.now (length (ports_at p.config.now.types p.config.now.components p.comp))
    (length p.behaviour.references.now) p.behaviour.body.now

-- the behaviour can execute its body: each place that the body mentions exists
abbrev pub CanBehave : Task → Type 0
CanBehave p =
    IsPlayable p.types.now (length (ports_at p.config.now.types p.config.now.components p.comp))
    (length p.behaviour.references.now) p.behaviour.body.now

-- the body's variables hold only what they are declared for
abbrev pub HoldsAsDeclared : Task → Frame → Type 0
HoldsAsDeclared p s = AreHeld p.behaviour.body.now.variables s.variables.items

-- the number of loop variables around a statement
abbrev pub depth_of : Frame → ℕ
depth_of s = length s.turns.items

-- the block was executed, from the first worker and frame to the second, with this outcome
abbrev pub Executed : Task → List ResolvedStatement → Outcome → Worker → Frame → Worker → Frame → Type 0
Executed p block o here before there after =
    TraceGrew (λ ts. Ends (role_of p) o before.turns.items before.variables.items block ts after.variables.items)
    here.desk.log there.desk.log

-- the statement was executed, from the first worker and frame to the second, with this outcome
abbrev pub Stepped : Task → ResolvedStatement → Outcome → Worker → Frame → Worker → Frame → Type 0
Stepped p x o here before there after =
    TraceGrew (λ ts. EndsStep (role_of p) o before.turns.items before.variables.items x ts after.variables.items)
    here.desk.log there.desk.log
