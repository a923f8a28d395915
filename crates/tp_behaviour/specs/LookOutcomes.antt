-- The outcome of one look at the branches of an `alt`, and of the whole `alt`.
use Rattle.std.specs.Prelude.{◌≡◌, ℤ, Bool, true, false, Option, Some, None, List, [], ◌∷◌, ◌++◌, All}
use Rattle.tp_common.specs.declared.event.Env.{Env}
use Rattle.tp_value.specs.declared.message.Message.{Message}
use Rattle.tp_config.specs.declared.port_type.CompId.{CompId}
use Rattle.tp_play.specs.declared.body.ResolvedStatement.{ResolvedStatement}
use Rattle.tp_inbox.specs.declared.entry.Entry.{Entry}
use Rattle.tp_inbox.specs.Desks.{Journal}
use Rattle.tp_inbox.specs.History.{last_chosen}
use Rattle.tp_behaviour.specs.declared.choice.Guard.{Guard}
use Rattle.tp_behaviour.specs.declared.choice.LookResult.{LookResult}
use Rattle.tp_behaviour.specs.declared.choice.LookResult.TheVariants as look
use Rattle.tp_behaviour.specs.declared.choosing.Choice.{Choice}
use Rattle.tp_behaviour.specs.declared.choosing.Choice.TheVariants as choice
use Rattle.tp_behaviour.specs.declared.held.Held.{Held}
use Rattle.tp_behaviour.specs.Moments.{Moment, moments}
use Rattle.tp_behaviour.specs.Held.{Actor}
use Rattle.tp_behaviour.specs.Looks.{moment}
use Rattle.tp_behaviour.specs.Paths.{IsStep}
use Rattle.tp_behaviour.specs.Choices.{NoneOpen, IsChoice, IsDrop}
use Rattle.tp_behaviour.specs.Fresh.{HasOwn}

-- from the first history to the second, the trace grew by moments for which this holds
abbrev pub TraceGrew : (List Moment → Type 0) → List Entry → List Entry → Type 0
TraceGrew p before after = (ts : List Moment) × (moments after ≡ moments before ++ ts) × p ts

-- there is just one moment, and this holds for it
abbrev pub One : (Moment → Type 0) → List Moment → Type 0
One p ts = (t : Moment) × (ts ≡ t ∷ []) × p t

-- the trace grew by one moment: that of this entry
abbrev pub AddsEntry : Journal → Entry → Journal → Type 0
AddsEntry before e after = moments after.log ≡ moments before.log ++ moment before e ∷ []

-- the trace grew by a path of the statement, whatever loop variables and variables hold, and they stay as they are
abbrev pub Carries : Actor → ResolvedStatement → Journal → Journal → Type 0
Carries r x before after = (turns : List ℤ) (vs : List (Option Held))
    → TraceGrew (λ ts. IsStep r turns vs x ts vs) before.log after.log

-- the outcome of a look at the branches
abbrev pub Saw : CompId → List Guard → LookResult → List Entry → List Entry → Type 0
Saw c gs (look.Taken i) before after =
    (e : Env Message) × (last_chosen after ≡ Some e)
    × TraceGrew (One (λ t. (has_else : Bool) → IsChoice gs has_else t (Some (i, e)))) before after
Saw c gs look.Discarded before after = TraceGrew (One (IsDrop gs)) before after
Saw c gs look.Nothing before after = (moments after ≡ moments before) × NoneOpen after gs × HasOwn c after

-- the outcome of a look before all that has arrived is moved: if it chose and discarded nothing, it says nothing of
-- the branches
abbrev pub SawEarly : CompId → List Guard → LookResult → List Entry → List Entry → Type 0
SawEarly c gs (look.Taken i) before after = Saw c gs (look.Taken i) before after
SawEarly c gs look.Discarded before after = Saw c gs look.Discarded before after
SawEarly c gs look.Nothing before after = moments after ≡ moments before

-- any number of messages that a `trigger` discards, followed by a moment for which this holds
abbrev pub Ending : List Guard → (Moment → Type 0) → List Moment → Type 0
Ending gs p ts = (drops : List Moment) × (t : Moment) × (ts ≡ drops ++ t ∷ []) × All (IsDrop gs) drops × p t

-- the outcome of an `alt`, and the history after it
abbrev pub Chose : List Guard → Bool → List Entry → Choice → List Moment → Type 0
Chose gs has_else after (choice.Branch i) ts =
    (e : Env Message) × (last_chosen after ≡ Some e)
    × Ending gs (λ t. (any : Bool) → IsChoice gs any t (Some (i, e))) ts
Chose gs has_else after choice.Else ts = (has_else ≡ true) × Ending gs (λ t. IsChoice gs true t None) ts
Chose gs has_else after choice.Waits ts = (has_else ≡ false) × All (IsDrop gs) ts
