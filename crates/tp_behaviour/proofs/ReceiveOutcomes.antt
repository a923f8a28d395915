-- What a receiving operation comes to, and what the variables hold after it.
use Rattle.std.proofs.Common.{◌≡◌, ℕ, zero, suc, ◌<◌, ℤ, Bool, false, Option, Some, None, List, [], ◌∷◌, ◌++◌, length, slice_get, refl, sym, ap, subst, arith}
use Rattle.std.specs.Prelude.{slice_set, IfSome}
use Rattle.std.proofs.lemmas.Option.{same_Some, slice_get_within}
use Rattle.tp_common.specs.declared.event.Env.{Env}
use Rattle.tp_value.specs.declared.message.Message.{Message}
use Rattle.tp_play.specs.declared.body.Receiving.{Receiving}
use Rattle.tp_play.specs.declared.body.RecvMsg.{RecvMsg}
use Rattle.tp_play.specs.declared.body.ResolvedStatement.TheVariants as b
use Rattle.tp_play.specs.declared.body.VariableType.{VariableType}
use Rattle.tp_play.specs.declared.body.VariableType.TheVariants as kind
use Rattle.tp_play.specs.Playable.{CanKeepSender, CanKeepValue, Stage}
use Rattle.tp_play.proofs.PlayableStatementRules.{keeps_sender, keeps_value}
use Rattle.tp_config.specs.declared.port_type.CompId.{CompId}
use Rattle.tp_inbox.specs.declared.entry.Entry.{Entry}
use Rattle.tp_inbox.specs.declared.ending.End.TheVariants as ending
use Rattle.tp_inbox.specs.History.{last_chosen}
use Rattle.tp_behaviour.specs.declared.choice.Guard.{Guard}
use Rattle.tp_behaviour.specs.declared.choosing.Choice.TheVariants as choice
use Rattle.tp_behaviour.specs.declared.held.Held.{Held}
use Rattle.tp_behaviour.specs.declared.held.Held.TheVariants as held
use Rattle.tp_behaviour.specs.Choices.{IsChoice}
use Rattle.tp_behaviour.specs.BehaviourEnds.{StopsWithin}
use Rattle.tp_behaviour.specs.Held.{Actor, guard_of, redirected, set_to}
use Rattle.tp_behaviour.specs.Moments.{Moment}
use Rattle.tp_behaviour.specs.Paths.{IsStep}
use Rattle.tp_behaviour.specs.LookOutcomes.{Chose, TraceGrew}
use Rattle.tp_behaviour.specs.Workers.{AreHeld, IsHeldAs}
use Rattle.tp_behaviour.proofs.AltChoiceOutcomes.{chosen_below}

-- of one operation it is the first
the_first : (g : Guard) (has_else : Bool) (t : Moment) (i : ℕ) (e : Env Message) → IsChoice (g ∷ []) has_else t (Some (i, e)) → i ≡ 0
the_first g has_else t i e chosen = let h : i < 1 = chosen_below (g ∷ []) has_else t (Some (i, e)) chosen in omega (arith, h)

-- an operation that stands alone is carried out once it is chosen
pub received : (r : Actor) (turns : List ℤ) (vs ws : List (Option Held)) (x : Receiving) (gs : List Guard) (i : ℕ) (k n : List Entry)
    → gs ≡ guard_of r (record { turns = turns; variables = vs }) x ∷ [] → TraceGrew (Chose gs false n (choice.Branch i)) k n
    → IfSome (last_chosen n) (λ e. ws ≡ redirected x e vs)
    → TraceGrew (λ ts. IsStep r turns vs (b.Receive x) ts ws) k n
received r turns vs ws x gs i k n are h set =
    let g : Guard = guard_of r (record { turns = turns; variables = vs }) x in
    let one : TraceGrew (Chose (g ∷ []) false n (choice.Branch i)) k n = subst (λ l. TraceGrew (Chose l false n (choice.Branch i)) k n) are h in
    let e : Env Message = one.2.0 in
    let same : ws ≡ redirected x e vs = subst (λ o. IfSome o (λ e. ws ≡ redirected x e vs)) one.2.1 set in
    let drops : List Moment = one.2.2.0 in
    let t : Moment = one.2.2.1 in
    let chosen : IsChoice (g ∷ []) false t (Some (i, e)) = one.2.2.4 false in
    let first : IsChoice (g ∷ []) false t (Some (0, e)) = subst (λ j. IsChoice (g ∷ []) false t (Some (j, e))) (the_first g false t i e chosen) chosen in (
      one.0,
      one.1,
      subst (λ ts. IsStep r turns vs (b.Receive x) ts ws) (sym one.2.2.2)
          (subst (IsStep r turns vs (b.Receive x) (drops ++ t ∷ [])) (sym same) (IsStep.receive turns vs x drops t e one.2.2.3 first)),
    )

-- or waits for just these
pub waits_for : (r : Actor) (turns : List ℤ) (vs : List (Option Held)) (x : Receiving) (gs : List Guard) (k n : List Entry)
    → gs ≡ guard_of r (record { turns = turns; variables = vs }) x ∷ [] → TraceGrew (Chose gs false n choice.Waits) k n
    → TraceGrew (λ ts. StopsWithin r (λ ys. ys ≡ gs) ending.Waiting turns vs (b.Receive x) ts) k n
waits_for r turns vs x gs k n are h =
    let g : Guard = guard_of r (record { turns = turns; variables = vs }) x in
    let one : TraceGrew (Chose (g ∷ []) false n choice.Waits) k n = subst (λ l. TraceGrew (Chose l false n choice.Waits) k n) are h in
    (one.0, one.1, StopsWithin.waits turns vs x one.0 one.2.1 (sym are))

-- as many variables are held as are declared
pub held_as_many : (types : List VariableType) (vs : List (Option Held)) → AreHeld types vs → length vs ≡ length types
held_as_many [] [] h = refl
held_as_many [] (v ∷ vs) h = absurd h
held_as_many (u ∷ types) [] h = absurd h
held_as_many (u ∷ types) (v ∷ vs) h = ap suc (held_as_many types vs h.1)

-- one that is set holds what it is declared for, and so do the others
held_set : (types : List VariableType) (vs : List (Option Held)) (k : ℕ) (u : VariableType) (x : Held) → slice_get types k ≡ Some u → IsHeldAs u (Some x)
    → AreHeld types vs → AreHeld types (slice_set vs k (Some x))
held_set [] vs k u x at fits h = absurd (cc)
held_set (t ∷ types) [] k u x at fits h = absurd h
held_set (t ∷ types) (v ∷ vs) zero u x at fits h = (subst (λ s. IsHeldAs s (Some x)) (sym (same_Some t u at)) fits, h.1)
held_set (t ∷ types) (v ∷ vs) (suc k) u x at fits h = (h.0, held_set types vs k u x at fits h.1)

module _ (s : Stage) (vs : List (Option Held)) (h : AreHeld s.variables vs) where
  -- a value
  pub value_within : (x : RecvMsg) (place : Option ℕ) → CanKeepValue s x place → IfSome place (λ k. k < length vs)
  value_within x None can = tt
  value_within x (Some k) can =
      let v = keeps_value s x (Some k) k refl can in
      let low : k < length s.variables = slice_get_within s.variables k (kind.Message v.0) v.3 in
      let many = held_as_many s.variables vs h in
      omega arith

  pub value_held : (x : RecvMsg) (place : Option ℕ) (m : Message) → CanKeepValue s x place → AreHeld s.variables (set_to place (held.Value m) vs)
  value_held x None m can = h
  value_held x (Some k) m can = let v = keeps_value s x (Some k) k refl can in held_set s.variables vs k (kind.Message v.0) (held.Value m) v.3 tt h

  -- a sender
  pub sender_within : (place : Option ℕ) → CanKeepSender s place → IfSome place (λ k. k < length vs)
  sender_within None can = tt
  sender_within (Some k) can =
      let low : k < length s.variables = slice_get_within s.variables k kind.Component (keeps_sender s (Some k) k refl can) in
      let many = held_as_many s.variables vs h in
      omega arith

  pub sender_held : (place : Option ℕ) (c : CompId) → CanKeepSender s place → AreHeld s.variables (set_to place (held.Component c) vs)
  sender_held None c can = h
  sender_held (Some k) c can = held_set s.variables vs k kind.Component (held.Component c) (keeps_sender s (Some k) k refl can) tt h
