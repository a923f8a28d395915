-- What it means that a component's actions follow its behaviour (ES 201 873-1, 19 to 24; in the words of ES 201 873-4,
-- the states of an entity that evaluates its statements one after the other). A path is a list of moments.
use Rattle.std.specs.Prelude.{◌≡◌, ◌≢◌, ℕ, suc, ℤ, pos, ◌+ℤ◌, Bool, true, false, Option, Some, None, List, [], ◌∷◌}
use Rattle.std.specs.Prelude.{◌++◌, All, length, map, slice_get}
use Rattle.std.specs.List.{AllZip}
use Rattle.tp_common.specs.declared.event.Env.{Env}
use Rattle.tp_common.specs.declared.event.Status.TheVariants as status
use Rattle.tp_queue.specs.History.{status_of}
use Rattle.tp_value.specs.declared.message.Message.{Message}
use Rattle.tp_value.specs.declared.verdict.Verdict.{Verdict}
use Rattle.tp_config.specs.declared.port_type.CompId.{CompId}
use Rattle.tp_config.specs.declared.port_type.PortRef.{PortRef}
use Rattle.tp_config.specs.declared.port_type.RouteId.{RouteId}
use Rattle.tp_config.specs.Setup.{ports_at}
use Rattle.tp_config.specs.Routes.{IsRoute, routes_from}
use Rattle.tp_common.specs.declared.operation.PortOperation.{PortOperation}
use Rattle.tp_common.specs.declared.operation.PortOperation.TheVariants as port_operation
use Rattle.tp_play.specs.declared.body.SendOperation.{SendOperation}
use Rattle.tp_play.specs.declared.body.Receiver.TheVariants as receiver
use Rattle.tp_play.specs.declared.body.Receiving.{Receiving}
use Rattle.tp_play.specs.declared.body.ResolvedStatement.{ResolvedStatement}
use Rattle.tp_play.specs.declared.body.ResolvedStatement.TheVariants as statement
use Rattle.tp_play.specs.declared.body.ResolvedBranch.{ResolvedBranch}
use Rattle.tp_play.specs.Sizes.{turns_between}
use Rattle.tp_inbox.specs.declared.stamped.Stamped.{Stamped}
use Rattle.tp_inbox.specs.declared.entry.Entry.{Entry}
use Rattle.tp_inbox.specs.declared.entry.Entry.TheVariants as entry
use Rattle.tp_inbox.specs.History.{history_of, sent_on}
use Rattle.tp_behaviour.specs.declared.held.Held.{Held}
use Rattle.tp_behaviour.specs.Moments.{Moment}
use Rattle.tp_behaviour.specs.declared.choice.Guard.{Guard}
use Rattle.tp_behaviour.specs.Choices.{IsChoice, IsDrop}
use Rattle.tp_behaviour.specs.Held.{Actor, Values, IsSentAs, IsNamed, guard_of, redirected}

-- the port of the behaviour's component at this place
abbrev pub own_port : Actor → ℕ → PortRef
own_port r port = record { comp = r.comp; port = port }

-- the port is started
abbrev pub IsStarted : List Entry → ℕ → Type 0
IsStarted k port = status_of (history_of port k) ≡ status.Started

-- the port is started, and the message is sent on this route, with the next number there and some stamp
abbrev pub IsSentOn : ℕ → Message → RouteId → Moment → Type 0
IsSentOn port m route t =
    IsStarted t.before port
    × ((s : Stamped) × (s.message ≡ m) × (t.entry ≡ entry.Sent route (length (sent_on route t.before)) s))

-- the entry that an operation on a port makes
abbrev pub operated : PortOperation → ℕ → Entry
operated port_operation.Start port = entry.Started port
operated port_operation.Stop port = entry.Stopped port
operated port_operation.Halt port = entry.Halted port
operated port_operation.Clear port = entry.Cleared port

-- one entry for each of the first n ports, from port 0 on, with nothing between them
pub data AreOperated (o : PortOperation) : ℕ → List Moment → Type 0 where
  no_port : AreOperated o 0 []
  first_port : (k : List Entry) → AreOperated o 1 (record { before = k; entry = operated o 0 } ∷ [])
  one_port_more : (n : ℕ) (k : List Entry) (ts : List Moment)
      → AreOperated o (suc n) (ts ++ record { before = k; entry = operated o n } ∷ [])
      → AreOperated o (suc (suc n))
      (ts ++ record { before = k; entry = operated o n } ∷ record {
        before = k ++ operated o n ∷ [];
        entry =
            operated o (suc n);
      } ∷ [])

-- the branches of an `alt`, with loop variables and references replaced by their values
abbrev pub guards_of : Actor → Values → List ResolvedBranch → List Guard
guards_of r vs branches = map (λ (x : ResolvedBranch). guard_of r vs x.receiving) branches

mutual
  -- this is a path of the statement, after which the body's variables hold these values
  pub data IsStep (r : Actor) : List ℤ → List (Option Held) → ResolvedStatement → List Moment → List (Option Held)
      → Type 0 where
    -- 22.2.1: one entry, on the only route of the port, or on the one to the component that is named
    send : (turns : List ℤ) (vs : List (Option Held)) (x : SendOperation) (m : Message) (named : Option CompId)
        (route : RouteId) (t : Moment)
        → IsSentAs (record { turns = turns; variables = vs }) x.sent m
        → IsNamed r (record { turns = turns; variables = vs }) x.to named
        → IsRoute r.config (own_port r x.port) named route → IsSentOn x.port m route t
        → IsStep r turns vs (statement.Send x) (t ∷ []) vs
    -- `to all component`: one entry for each route of the port, in the order of the connections; there is at least one
    send_to_all : (turns : List ℤ) (vs : List (Option Held)) (x : SendOperation) (m : Message) (ts : List Moment)
        → IsSentAs (record { turns = turns; variables = vs }) x.sent m → x.to ≡ receiver.All → ts ≢ []
        → AllZip (IsSentOn x.port m) (routes_from r.config (own_port r x.port)) ts
        → IsStep r turns vs (statement.Send x) ts vs
    -- 22.2.2, 22.2.3, 22.4: any number of messages that a `trigger` discards, and then the one that is taken or found
    receive : (turns : List ℤ) (vs : List (Option Held)) (x : Receiving) (drops : List Moment) (t : Moment)
        (e : Env Message)
        → All (IsDrop (guard_of r (record { turns = turns; variables = vs }) x ∷ [])) drops
        → IsChoice (guard_of r (record { turns = turns; variables = vs }) x ∷ []) false t (Some (0, e))
        → IsStep r turns vs (statement.Receive x) (drops ++ t ∷ []) (redirected x e vs)
    -- 22.5: one entry, even if the operation has no effect
    control : (turns : List ℤ) (vs : List (Option Held)) (port : ℕ) (o : PortOperation) (k : List Entry)
        → IsStep r turns vs (statement.Control port o) (record { before = k; entry = operated o port } ∷ []) vs
    -- `all port`: one entry for each port, in declared order, with no arrival between them
    all_ports : (turns : List ℤ) (vs : List (Option Held)) (o : PortOperation) (ts : List Moment)
        → AreOperated o (length (ports_at r.config.types r.config.components r.comp)) ts
        → IsStep r turns vs (statement.AllPorts o) ts vs
    -- 24.2
    set_verdict : (turns : List ℤ) (vs : List (Option Held)) (v : Verdict) (k : List Entry)
        → IsStep r turns vs (statement.SetVerdict v) (record { before = k; entry = entry.Verdict v } ∷ []) vs
    -- 20.2: any number of messages that `trigger` branches discard, then the choice of a branch, and its block
    branch : (turns : List ℤ) (vs : List (Option Held)) (branches : List ResolvedBranch) (otherwise : Option (List ResolvedStatement))
        (has_else : Bool)
        (drops : List Moment) (t : Moment) (i : ℕ) (e : Env Message) (x : ResolvedBranch) (ts : List Moment)
        (ws : List (Option Held))
        → All (IsDrop (guards_of r (record { turns = turns; variables = vs }) branches)) drops
        → IsChoice (guards_of r (record { turns = turns; variables = vs }) branches) has_else t (Some (i, e))
        → slice_get branches i ≡ Some x → IsPath r turns (redirected x.receiving e vs) x.block ts ws
        → IsStep r turns vs (statement.Alt branches otherwise) (drops ++ t ∷ ts) ws
    -- or the choice of `[else]`, and its block
    otherwise : (turns : List ℤ) (vs : List (Option Held)) (branches : List ResolvedBranch) (block : List ResolvedStatement)
        (drops : List Moment) (t : Moment) (ts : List Moment) (ws : List (Option Held))
        → All (IsDrop (guards_of r (record { turns = turns; variables = vs }) branches)) drops
        → IsChoice (guards_of r (record { turns = turns; variables = vs }) branches) true t None
        → IsPath r turns vs block ts ws
        → IsStep r turns vs (statement.Alt branches (Some block)) (drops ++ t ∷ ts) ws
    -- 19.4: the block once for each value of the variable, from the first on, below the bound
    counted : (turns : List ℤ) (vs : List (Option Held)) (first bound : ℤ) (block : List ResolvedStatement) (ts : List Moment)
        (ws : List (Option Held))
        → AreTurns r turns vs first block (turns_between first bound) ts ws
        → IsStep r turns vs (statement.For first bound block) ts ws

  -- this is a path of the statements, one after the other
  pub data IsPath (r : Actor) : List ℤ → List (Option Held) → List ResolvedStatement → List Moment → List (Option Held)
      → Type 0 where
    no_statement : (turns : List ℤ) (vs : List (Option Held)) → IsPath r turns vs [] [] vs
    one_statement_more : (turns : List ℤ) (vs ws us : List (Option Held)) (xs : List ResolvedStatement) (x : ResolvedStatement)
        (ts more : List Moment)
        → IsPath r turns vs xs ts ws → IsStep r turns ws x more us → IsPath r turns vs (xs ++ x ∷ []) (ts ++ more) us

  -- this is a path of this number of turns of a block, if the loop variable begins with this value
  pub data AreTurns (r : Actor) : List ℤ → List (Option Held) → ℤ → List ResolvedStatement → ℕ → List Moment
      → List (Option Held) → Type 0 where
    no_turn : (turns : List ℤ) (vs : List (Option Held)) (first : ℤ) (block : List ResolvedStatement)
        → AreTurns r turns vs first block 0 [] vs
    one_turn_more : (turns : List ℤ) (vs ws us : List (Option Held)) (first : ℤ) (block : List ResolvedStatement) (n : ℕ)
        (ts more : List Moment)
        → AreTurns r turns vs first block n ts ws → IsPath r (turns ++ (first +ℤ pos n) ∷ []) ws block more us
        → AreTurns r turns vs first block (suc n) (ts ++ more) us
