-- How a behaviour ends, and what it means that a history follows a behaviour to its end.
use Rattle.std.specs.Prelude.{◌≡◌, ◌<◌, ◌⊎◌, ◌+ℤ◌, ℕ, ℤ, pos, Bool, true, Option, Some, None, List, [], ◌∷◌, ◌++◌, All}
use Rattle.std.specs.Prelude.{slice_get}
use Rattle.tp_common.specs.declared.event.Env.{Env}
use Rattle.tp_config.specs.declared.port_type.CompId.{CompId}
use Rattle.tp_config.specs.declared.routes.RouteFault.{RouteFault}
use Rattle.tp_config.specs.declared.routes.RouteFault.TheVariants as route_fault
use Rattle.tp_config.specs.Routes.{RouteCause, routes_from}
use Rattle.tp_play.specs.declared.body.SendOperation.{SendOperation}
use Rattle.tp_play.specs.declared.body.Receiver.TheVariants as receiver
use Rattle.tp_play.specs.declared.body.Receiving.{Receiving}
use Rattle.tp_play.specs.declared.body.ResolvedStatement.{ResolvedStatement}
use Rattle.tp_play.specs.declared.body.ResolvedStatement.TheVariants as statement
use Rattle.tp_play.specs.declared.body.ResolvedBranch.{ResolvedBranch}
use Rattle.tp_play.specs.declared.body.Body.{Body}
use Rattle.tp_play.specs.Sizes.{turns_between}
use Rattle.tp_inbox.specs.declared.entry.Entry.{Entry}
use Rattle.tp_inbox.specs.declared.entry.Entry.TheVariants as entry
use Rattle.tp_behaviour.specs.declared.choice.Guard.{Guard}
use Rattle.tp_behaviour.specs.declared.held.Held.{Held}
use Rattle.tp_inbox.specs.declared.ending.End.{End}
use Rattle.tp_inbox.specs.declared.ending.End.TheVariants as ending
use Rattle.tp_inbox.specs.declared.send_fault.SendFault.{SendFault}
use Rattle.tp_inbox.specs.declared.send_fault.SendFault.TheVariants as send_fault
use Rattle.tp_behaviour.specs.Moments.{Moment, moments}
use Rattle.tp_behaviour.specs.Choices.{IsChoice, IsDrop, NoneOpen}
use Rattle.tp_value.specs.declared.message.Message.{Message}
use Rattle.tp_behaviour.specs.Held.{Actor, Values, SendsUnset, NamesUnset, IsNamed, guard_of, redirected, unset}
use Rattle.tp_behaviour.specs.Paths.{IsPath, AreTurns, IsStarted, guards_of, own_port}

-- a send ends the behaviour with this fault, the first whose cause holds: the port isn't started; a variable that it
-- uses isn't set; there is no route, or none to the component named, or there are several and none is named
pub data IsFailure (r : Actor) (vs : Values) (x : SendOperation) (k : List Entry) : SendFault → Type 0 where
  not_started : ¬ IsStarted k x.port → IsFailure r vs x k send_fault.NotSending
  not_set : IsStarted k x.port → SendsUnset vs x.sent ⊎ NamesUnset vs x.to
      → IsFailure r vs x k send_fault.UnsetVariable
  no_single_route : (named : Option CompId) (f : RouteFault) → IsStarted k x.port
      → ¬ (SendsUnset vs x.sent ⊎ NamesUnset vs x.to)
      → IsNamed r vs x.to named → RouteCause r.config (own_port r x.port) named f
      → IsFailure r vs x k (send_fault.Unrouted f)
  no_route_at_all : IsStarted k x.port → ¬ (SendsUnset vs x.sent ⊎ NamesUnset vs x.to) → x.to ≡ receiver.All
      → routes_from r.config (own_port r x.port) ≡ [] → IsFailure r vs x k (send_fault.Unrouted route_fault.NoRoute)

mutual
  -- the moments lead to this statement or to one within it, and the behaviour stops there with this end; if it waits,
  -- `rests` holds for the branches
  pub data StopsWithin (r : Actor) (rests : List Guard → Type 0) : End → List ℤ → List (Option Held) → ResolvedStatement
      → List Moment → Type 0 where
    -- at a send that fails
    fails : (turns : List ℤ) (vs : List (Option Held)) (x : SendOperation) (k : List Entry) (fault : SendFault)
        → IsFailure r (record { turns = turns; variables = vs }) x k fault
        → StopsWithin r rests (ending.Error fault) turns vs (statement.Send x)
        (record { before = k; entry = entry.Failed fault } ∷ [])
    -- at a receiving operation
    waits : (turns : List ℤ) (vs : List (Option Held)) (x : Receiving) (drops : List Moment)
        → All (IsDrop (guard_of r (record { turns = turns; variables = vs }) x ∷ [])) drops
        → rests (guard_of r (record { turns = turns; variables = vs }) x ∷ [])
        → StopsWithin r rests ending.Waiting turns vs (statement.Receive x) drops
    -- at an `alt` without `[else]`
    waits_at_alt : (turns : List ℤ) (vs : List (Option Held)) (branches : List ResolvedBranch) (drops : List Moment)
        → All (IsDrop (guards_of r (record { turns = turns; variables = vs }) branches)) drops
        → rests (guards_of r (record { turns = turns; variables = vs }) branches)
        → StopsWithin r rests ending.Waiting turns vs (statement.Alt branches None) drops
    -- within the block of the branch that was chosen
    within_branch : (end : End) (turns : List ℤ) (vs : List (Option Held)) (branches : List ResolvedBranch)
        (otherwise : Option (List ResolvedStatement)) (has_else : Bool)
        (drops : List Moment) (t : Moment) (i : ℕ) (e : Env Message) (x : ResolvedBranch) (ts : List Moment)
        → All (IsDrop (guards_of r (record { turns = turns; variables = vs }) branches)) drops
        → IsChoice (guards_of r (record { turns = turns; variables = vs }) branches) has_else t (Some (i, e))
        → slice_get branches i ≡ Some x → Stops r rests end turns (redirected x.receiving e vs) x.block ts
        → StopsWithin r rests end turns vs (statement.Alt branches otherwise) (drops ++ t ∷ ts)
    within_else : (end : End) (turns : List ℤ) (vs : List (Option Held)) (branches : List ResolvedBranch)
        (block : List ResolvedStatement)
        (drops : List Moment) (t : Moment) (ts : List Moment)
        → All (IsDrop (guards_of r (record { turns = turns; variables = vs }) branches)) drops
        → IsChoice (guards_of r (record { turns = turns; variables = vs }) branches) true t None
        → Stops r rests end turns vs block ts
        → StopsWithin r rests end turns vs (statement.Alt branches (Some block)) (drops ++ t ∷ ts)
    -- within a turn of a `for`, after n complete ones
    within_for : (end : End) (turns : List ℤ) (vs ws : List (Option Held)) (first bound : ℤ) (block : List ResolvedStatement)
        (n : ℕ) (ts more : List Moment)
        → AreTurns r turns vs first block n ts ws → n < turns_between first bound
        → Stops r rests end (turns ++ (first +ℤ pos n) ∷ []) ws block more
        → StopsWithin r rests end turns vs (statement.For first bound block) (ts ++ more)

  -- the moments are a path of some of these statements, from the first on, and then lead to a stop within the next one
  pub data Stops (r : Actor) (rests : List Guard → Type 0) : End → List ℤ → List (Option Held) → List ResolvedStatement
      → List Moment → Type 0 where
    stops : (end : End) (turns : List ℤ) (vs ws : List (Option Held)) (xs : List ResolvedStatement) (x : ResolvedStatement)
        (rest : List ResolvedStatement) (ts more : List Moment)
        → IsPath r turns vs xs ts ws → StopsWithin r rests end turns ws x more
        → Stops r rests end turns vs (xs ++ x ∷ rest) (ts ++ more)

-- the history follows the behaviour to this end: if it waits, none of the branches is open in the whole history
pub data Follows (r : Actor) (body : Body) (k : List Entry) : End → Type 0 where
  done : (vs : List (Option Held)) → IsPath r [] (unset body) body.statements (moments k) vs
      → Follows r body k ending.Done
  error : (fault : SendFault) → Stops r (NoneOpen k) (ending.Error fault) [] (unset body) body.statements (moments k)
      → Follows r body k (ending.Error fault)
  waiting : Stops r (NoneOpen k) ending.Waiting [] (unset body) body.statements (moments k)
      → Follows r body k ending.Waiting
