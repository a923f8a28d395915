-- What an `alt` goes on with: what it waits for is within the component's ports, and the branch that is chosen is one of its own.
use Rattle.std.proofs.Common.{◌≡◌, ℕ, ◌<◌, Bool, true, Option, Some, None, List, [], ◌∷◌, length, slice_get, ap, sym, subst, arith}
use Rattle.std.specs.Prelude.{All, IfSome}
use Rattle.std.proofs.lemmas.List.{length-map}
use Rattle.std.proofs.lemmas.List.Elements.{All-nil, All-cons}
use Rattle.tp_common.specs.declared.event.Env.{Env}
use Rattle.tp_value.specs.declared.message.Message.{Message}
use Rattle.tp_play.specs.declared.body.ResolvedBranch.{ResolvedBranch}
use Rattle.tp_play.specs.Playable.{CanEnterAll, Stage}
use Rattle.tp_play.proofs.PlayableStatementRules.{enters_receive}
use Rattle.tp_inbox.specs.declared.entry.Entry.{Entry}
use Rattle.tp_inbox.specs.History.{last_chosen}
use Rattle.tp_behaviour.specs.declared.choice.Guard.{Guard}
use Rattle.tp_behaviour.specs.declared.choosing.Choice.TheVariants as choice
use Rattle.tp_behaviour.specs.declared.deciding.Decision.TheVariants as decision
use Rattle.tp_behaviour.specs.declared.held.Held.{Held}
use Rattle.tp_behaviour.specs.declared.task.Task.{Task}
use Rattle.tp_behaviour.specs.declared.worker.Worker.{Worker}
use Rattle.tp_behaviour.specs.Held.{Actor, Values, guard_of, redirected}
use Rattle.tp_behaviour.specs.Outcomes.{stage_at}
use Rattle.tp_behaviour.specs.PartOutcomes.{Enters, IsDecisionOf, IsEntered}
use Rattle.tp_behaviour.specs.Paths.{guards_of}
use Rattle.tp_behaviour.specs.LookOutcomes.{Chose, TraceGrew}
use Rattle.tp_behaviour.specs.Workers.{IsConsistent, role_of}
use Rattle.tp_behaviour.proofs.AltChoiceOutcomes.{chosen_below}
use Rattle.tp_behaviour.proofs.UnchangedWorkerPorts.{ports_there}

below_each : (s : Stage) (n : ℕ) (r : Actor) (vs : Values) (xs : List ResolvedBranch) → CanEnterAll s n xs → All (λ (g : Guard). g.port < s.ports) (guards_of r vs xs)
below_each s n r vs [] can = All-nil (λ (g : Guard). g.port < s.ports)
below_each s n r vs (x ∷ xs) can =
    All-cons (λ (g : Guard). g.port < s.ports) (guard_of r vs x.receiving) (guards_of r vs xs) (enters_receive s n x can.0).port (below_each s n r vs xs can.1)

-- what an `alt` looks at is within the desk's ports
pub guards_within : (p : Task) (s : Worker) (n : ℕ) (vs : Values) (xs : List ResolvedBranch) (gs : List Guard) → IsConsistent (role_of p) s → CanEnterAll (stage_at p) n xs
    → gs ≡ guards_of (role_of p) vs xs → All (λ (g : Guard). g.port < s.desk.ports) gs
guards_within p s n vs xs gs consistent can is =
    subst (λ (m : ℕ). All (λ (g : Guard). g.port < m) gs) (sym (ports_there p s consistent))
    (subst (All (λ (g : Guard). g.port < (stage_at p).ports)) (sym is) (below_each (stage_at p) n (role_of p) vs xs can))

-- the branch that is chosen is there
pub chose_within : (r : Actor) (vs : Values) (xs : List ResolvedBranch) (gs : List Guard) (has_else : Bool) (i : ℕ) (k n : List Entry)
    → gs ≡ guards_of r vs xs → TraceGrew (Chose gs has_else n (choice.Branch i)) k n → i < length xs
chose_within r vs xs gs has_else i k n is grew =
    let t = grew.2 in
    let below : i < length gs = chosen_below gs true t.2.1 (Some (i, t.0)) (t.2.4 true) in
    omega (arith, ap length is, length-map xs (λ (x : ResolvedBranch). guard_of r vs x.receiving))

-- the variables are set, if there was an envelope
pub sets : (x : ResolvedBranch) (xs : List ResolvedBranch) (i : ℕ) (vs ws : List (Option Held)) (o : Option (Env Message)) → slice_get xs i ≡ Some x
    → IfSome o (λ e. ws ≡ redirected x.receiving e vs) → IfSome o (λ e. IsEntered xs i e vs ws)
sets x xs i vs ws None there set = tt
sets x xs i vs ws (Some e) there set = record { branch = x; there = there; set = set }

-- its variables are set, so it is there
pub entered_there : (gs : List Guard) (has_else : Bool) (i : ℕ) (xs : List ResolvedBranch) (vs ws : List (Option Held)) (k n : List Entry)
    → TraceGrew (Chose gs has_else n (choice.Branch i)) k n → IfSome (last_chosen n) (λ e. IsEntered xs i e vs ws) → IsDecisionOf xs (decision.Branch i)
entered_there gs has_else i xs vs ws k n chose set =
    let e : IsEntered xs i chose.2.0 vs ws = subst (λ o. IfSome o (λ e. IsEntered xs i e vs ws)) chose.2.1 set in
    (e.branch, e.there)

-- a branch was chosen, and its variables set
pub entered : (r : Actor) (vs : Values) (xs : List ResolvedBranch) (gs : List Guard) (has_else : Bool) (i : ℕ) (ws : List (Option Held))
    (k n : List Entry)
    → gs ≡ guards_of r vs xs → TraceGrew (Chose gs has_else n (choice.Branch i)) k n
    → IfSome (last_chosen n) (λ e. IsEntered xs i e vs.variables ws)
    → TraceGrew (Enters xs (guards_of r vs xs) i vs.variables ws) k n
entered r vs xs gs has_else i ws k n is grew set =
    let h : TraceGrew (Chose (guards_of r vs xs) has_else n (choice.Branch i)) k n =
    subst (λ (ys : List Guard). TraceGrew (Chose ys has_else n (choice.Branch i)) k n) is grew in (
      h.0,
      h.1,
      record {
        env = h.2.0;
        chosen = h.2.2;
        entered = subst (λ o. IfSome o (λ e. IsEntered xs i e vs.variables ws)) h.2.1 set;
      },
    )
