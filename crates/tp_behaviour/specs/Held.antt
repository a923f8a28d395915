-- What the variables of a behaviour hold, and the parts of statements with the values of their variables.
use Rattle.std.specs.Prelude.{◌≡◌, ℕ, ℤ, Option, Some, None, List, map, slice_get, slice_set}
use Rattle.std.specs.Option.{option_map}
use Rattle.std.specs.List.{slice_index_or}
use Rattle.tp_common.specs.declared.event.Env.{Env}
use Rattle.tp_value.specs.declared.message.Message.{Message}
use Rattle.tp_config.specs.declared.port_type.CompId.{CompId}
use Rattle.tp_config.specs.Setup.{Setup}
use Rattle.tp_play.specs.declared.body.Sent.{Sent}
use Rattle.tp_play.specs.declared.body.Sent.TheVariants as sent
use Rattle.tp_play.specs.declared.body.Receiver.{Receiver}
use Rattle.tp_play.specs.declared.body.Receiver.TheVariants as receiver
use Rattle.tp_play.specs.declared.body.SendMsg.{SendMsg}
use Rattle.tp_play.specs.declared.body.Receiving.{Receiving}
use Rattle.tp_play.specs.declared.body.Body.{Body}
use Rattle.tp_play.specs.Fills.{filled, filled_wanted}
use Rattle.tp_behaviour.specs.declared.held.Held.{Held}
use Rattle.tp_behaviour.specs.declared.held.Held.TheVariants as held
use Rattle.tp_behaviour.specs.declared.choice.Guard.{Guard}

-- the identity of a behaviour: the configuration, its component, and the numbers of the components it has references to
pub record Actor : Type 0 where
  pub config : Setup
  pub comp : CompId
  pub references : List ℕ

-- what the loop variables around a statement hold, the outermost first, and what the body's variables hold, if they are
-- set
pub record Values : Type 0 where
  pub turns : List ℤ
  pub variables : List (Option Held)

-- the variables of a body at its beginning: none is set
abbrev pub unset : Body → List (Option Held)
unset body = map (λ _. None) body.variables

-- this is what the variable at this place holds
abbrev pub Holds : Values → ℕ → Held → Type 0
Holds vs k x = slice_get vs.variables k ≡ Some (Some x)

-- the variable at this place isn't set
abbrev pub IsUnset : Values → ℕ → Type 0
IsUnset vs k = slice_get vs.variables k ≡ Some None

-- the message that is sent: the one that is written, or the one that a variable holds
pub data IsSentAs (vs : Values) : Sent → Message → Type 0 where
  written : (m : SendMsg) → IsSentAs vs (sent.Written m) (record { ty = m.ty; value = filled vs.turns m.value })
  variable : (k : ℕ) (m : Message) → Holds vs k (held.Value m) → IsSentAs vs (sent.Variable k) m

-- the component that a send to one receiver names, if it names one
pub data IsNamed (r : Actor) (vs : Values) : Receiver → Option CompId → Type 0 where
  nobody : IsNamed r vs receiver.Nobody None
  reference : (k : ℕ) (c : CompId) → slice_get r.references k ≡ Some c.0 → IsNamed r vs (receiver.Reference k) (Some c)
  variable : (k : ℕ) (c : CompId) → Holds vs k (held.Component c) → IsNamed r vs (receiver.Variable k) (Some c)

-- the message to send is a variable that isn't set
abbrev pub SendsUnset : Values → Sent → Type 0
SendsUnset vs (sent.Variable k) = IsUnset vs k
SendsUnset vs (sent.Written m) = ⊥

abbrev pub NamesUnset : Values → Receiver → Type 0
NamesUnset vs (receiver.Variable k) = IsUnset vs k
NamesUnset vs _ = ⊥

-- a receiving operation with its loop variables and references replaced by their values
abbrev pub guard_of : Actor → Values → Receiving → Guard
guard_of r vs x = record {
  port = x.port;
  kind = x.kind;
  wanted = filled_wanted vs.turns x.wanted;
  sender = option_map (λ k. slice_index_or r.references k 0) x.sender;
}

-- the variables after the one at this place was set to this, if a place is named
abbrev pub set_to : Option ℕ → Held → List (Option Held) → List (Option Held)
set_to None x vs = vs
set_to (Some k) x vs = slice_set vs k (Some x)

-- the variables after the operation took or found this envelope: first the value is stored, then the sender (22.2.2,
-- `-> value v sender w`)
abbrev pub redirected : Receiving → Env Message → List (Option Held) → List (Option Held)
redirected x e vs =
    set_to x.sender_to (held.Component (record { 0 = e.sender })) (set_to x.value_to (held.Value e.msg) vs)
