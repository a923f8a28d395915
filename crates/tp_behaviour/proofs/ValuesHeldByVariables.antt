-- What the variables of a behaviour hold.
use Rattle.std.proofs.Common.{◌≡◌, ◌∙◌, ℕ, zero, suc, ◌<◌, Option, Some, None, List, [], ◌∷◌, get_or, length, map, option_map, slice_get, ap, refl, subst, sym}
use Rattle.std.proofs.lemmas.Option.{same_Some, get_or_from_slice_get, slice_get-get_or, slice_get-map}
use Rattle.tp_value.specs.declared.message.Message.{Message}
use Rattle.tp_value.specs.declared.types.Ty.{Ty}
use Rattle.tp_config.specs.declared.port_type.CompId.{CompId}
use Rattle.tp_play.specs.declared.body.SendMsg.{SendMsg}
use Rattle.tp_play.specs.declared.body.Sent.{Sent}
use Rattle.tp_play.specs.declared.body.Receiver.{Receiver}
use Rattle.tp_play.specs.declared.body.Receiver.TheVariants as to
use Rattle.tp_play.specs.declared.body.VariableType.{VariableType}
use Rattle.tp_play.specs.declared.body.VariableType.TheVariants as kind
use Rattle.tp_play.specs.Playable.{CanAddress, CanSay, Stage}
use Rattle.tp_play.specs.declared.body.Sent.TheVariants as sent
use Rattle.tp_play.specs.Fills.{filled}
use Rattle.tp_behaviour.specs.declared.held.Held.{Held}
use Rattle.tp_behaviour.specs.declared.held.Held.TheVariants as held
use Rattle.tp_behaviour.specs.Held.{IsSentAs, Values}
use Rattle.tp_behaviour.specs.Sends.{CanFill, CanName}
use Rattle.tp_behaviour.specs.Workers.{AreHeld, HoldsNoMessage, HoldsMessages, IsHeldAs}

-- what was read at a place stands there
pub read_at : {X : Type 0} (xs : List X) (k : ℕ) (x y : X) → slice_get xs k ≡ Some x → y ≡ get_or xs k y → slice_get xs k ≡ Some y
read_at xs k x y at e = at ∙ ap Some (sym (e ∙ get_or_from_slice_get xs k x y at))

pub read_same : {X : Type 0} (xs : List X) (k : ℕ) (x y : X) → slice_get xs k ≡ Some x → y ≡ get_or xs k y → x ≡ y
read_same xs k x y at e = sym (e ∙ get_or_from_slice_get xs k x y at)

-- a message that was written is sent as it was filled
pub sent_written : (vs : Values) (m : SendMsg) (x : Message) → x.ty ≡ m.ty → x.value ≡ filled vs.turns m.value → IsSentAs vs (sent.Written m) x
sent_written vs m x ty value = subst (λ (y : Message). IsSentAs vs (sent.Written m) y) (λ i. record { ty = sym ty i; value = sym value i }) (IsSentAs.written m)

-- the component that a reference names
pub referred : (cs : List CompId) (k : ℕ) (d : CompId) → k < length cs → slice_get (map (λ (c : CompId). c.0) cs) k ≡ Some (get_or cs k d).0
referred cs k d below = slice_get-map (λ (c : CompId). c.0) cs k ∙ ap (option_map (λ (c : CompId). c.0)) (slice_get-get_or cs k d below)

-- what is at this place holds what the type says
held_at : (types : List VariableType) (vs : List (Option Held)) (k : ℕ) (t : VariableType) → AreHeld types vs → slice_get types k ≡ Some t → (x : Option Held)
    × (slice_get vs k ≡ Some x) × IsHeldAs t x
held_at [] vs k t held at = absurd (cc)
held_at (u ∷ types) [] k t held at = absurd held
held_at (u ∷ types) (v ∷ vs) zero t held at = (v, refl, subst (λ (w : VariableType). IsHeldAs w v) (same_Some u t at) held.0)
held_at (u ∷ types) (v ∷ vs) (suc k) t held at = held_at types vs k t held.1 at

no_component : (u : Ty) (x : Option Held) (c : CompId) → IsHeldAs (kind.Message u) x → x ≡ Some (held.Component c) → ⊥
no_component u None c is e = absurd (cc)
no_component u (Some (held.Value m)) c is e = absurd (cc)
no_component u (Some (held.Component d)) c is e = is

no_message : (x : Option Held) (m : Message) → IsHeldAs kind.Component x → x ≡ Some (held.Value m) → ⊥
no_message None m is e = absurd (cc)
no_message (Some (held.Value n)) m is e = is
no_message (Some (held.Component d)) m is e = absurd (cc)

-- a variable of messages holds no component, and one of components no message
pub holds_messages : (types : List VariableType) (vs : List (Option Held)) (k : ℕ) (u : Ty) → AreHeld types vs → slice_get types k ≡ Some (kind.Message u)
    → HoldsMessages vs k
holds_messages types vs k u held at = let h = held_at types vs k (kind.Message u) held at in (h.0, h.1, λ c e. no_component u h.0 c h.2 e)

pub holds_components : (types : List VariableType) (vs : List (Option Held)) (k : ℕ) → AreHeld types vs → slice_get types k ≡ Some kind.Component
    → HoldsNoMessage vs k
holds_components types vs k held at = let h = held_at types vs k kind.Component held at in (h.0, h.1, λ m e. no_message h.0 m h.2 e)

-- so what is sent can be made
pub can_fill : (s : Stage) (n : ℕ) (vs : List (Option Held)) (x : Sent) → AreHeld s.variables vs → CanSay s n x → CanFill vs n x
can_fill s n vs (sent.Written m) held can = can.around
can_fill s n vs (sent.Variable k) held can = holds_messages s.variables vs k can.0 held can.1

-- and who is named is known, where not all are named
pub can_name : (s : Stage) (vs : List (Option Held)) (x : Receiver) → AreHeld s.variables vs → CanAddress s x → (x ≡ to.All → ⊥) → CanName vs s.references x
can_name s vs to.Nobody held can one = tt
can_name s vs (to.Reference k) held can one = can
can_name s vs (to.Variable k) held can one = holds_components s.variables vs k held can
can_name s vs to.All held can one = one refl
