-- What an `alt` comes to, and which branch it chooses.
use Rattle.std.proofs.Common.{◌≡◌, ◌∙◌, ℕ, ◌<◌, Bool, true, Option, Some, None, List, [], ◌∷◌, ◌++◌, length, ap, refl}
use Rattle.std.specs.Prelude.{All}
use Rattle.std.proofs.lemmas.List.{append_assoc}
use Rattle.std.proofs.lemmas.Option.{slice_get_within}
use Rattle.tp_common.specs.declared.event.Env.{Env}
use Rattle.tp_value.specs.declared.message.Message.{Message}
use Rattle.tp_config.specs.declared.port_type.CompId.{CompId}
use Rattle.tp_inbox.specs.declared.entry.Entry.{Entry}
use Rattle.tp_inbox.specs.declared.entry.Entry.TheVariants as entry
use Rattle.tp_inbox.specs.Desks.{Journal}
use Rattle.tp_behaviour.specs.declared.choice.Guard.{Guard}
use Rattle.tp_behaviour.specs.declared.choice.LookResult.{LookResult}
use Rattle.tp_behaviour.specs.declared.choice.LookResult.TheVariants as look
use Rattle.tp_behaviour.specs.declared.choosing.Choice.TheVariants as choice
use Rattle.tp_behaviour.specs.Choices.{IsChoice, IsDrop, NoneOpen}
use Rattle.tp_behaviour.specs.Looks.{moment}
use Rattle.tp_behaviour.specs.Moments.{Moment, moments}
use Rattle.tp_behaviour.specs.LookOutcomes.{Chose, Saw, SawEarly, TraceGrew}

-- the place of a choice is below this, where a branch was chosen
abbrev IsBelow : ℕ → Option (ℕ × Env Message) → Type 0
IsBelow n None = Unit {0}
IsBelow n (Some c) = c.0 < n

-- the branch that is chosen is one of these
pub chosen_below : (gs : List Guard) (any : Bool) (t : Moment) (o : Option (ℕ × Env Message)) → IsChoice gs any t o → IsBelow (length gs) o
chosen_below gs any _ _ (IsChoice.branch k i g e there finds none) = slice_get_within gs i g there
chosen_below gs any _ _ (IsChoice.otherwise k has none) = tt

-- a look from a history with the same moments
pub saw_after : (c : CompId) (gs : List Guard) (x : LookResult) (before mid after : List Entry) → moments mid ≡ moments before
    → Saw c gs x mid after → Saw c gs x before after
saw_after c gs (look.Taken i) before mid after same (e, last, (ts, grown, one)) = (e, last, (ts, grown ∙ ap (λ k. k ++ ts) same, one))
saw_after c gs look.Discarded before mid after same (ts, grown, one) = (ts, grown ∙ ap (λ k. k ++ ts) same, one)
saw_after c gs look.Nothing before mid after same (grown, none, own) = (grown ∙ same, none, own)

pub saw_early : (c : CompId) (gs : List Guard) (x : LookResult) (before after : List Entry) → Saw c gs x before after → SawEarly c gs x before after
saw_early c gs (look.Taken i) before after saw = saw
saw_early c gs look.Discarded before after saw = saw
saw_early c gs look.Nothing before after saw = saw.0

-- what was discarded so far, and then the choice of a branch
pub chose_branch : (c : CompId) (gs : List Guard) (has_else : Bool) (i : ℕ) (k l n : List Entry) → TraceGrew (All (IsDrop gs)) k l
    → Saw c gs (look.Taken i) l n → TraceGrew (Chose gs has_else n (choice.Branch i)) k n
chose_branch c gs has_else i k l n (drops, grown, are) (e, last, (ts, more, (t, one, chosen))) = (
  drops ++ t ∷ [],
  more ∙ ap (λ r. moments l ++ r) one ∙ ap (λ r. r ++ t ∷ []) grown ∙ append_assoc (moments k) drops (t ∷ []),
  (e, last, (drops, t, refl, are, chosen)),
)

-- `[else]`, where no branch is open
pub chose_else : (gs : List Guard) (has_else : Bool) (k l n : List Entry) (d : Journal) → has_else ≡ true → TraceGrew (All (IsDrop gs)) k l
    → moments d.log ≡ moments l
    → NoneOpen d.log gs → moments n ≡ moments d.log ++ moment d entry.Else ∷ [] → TraceGrew (Chose gs has_else n choice.Else) k n
chose_else gs has_else k l n d there (drops, grown, are) same none more = (
  drops ++ moment d entry.Else ∷ [],
  more ∙ ap (λ ts. ts ++ moment d entry.Else ∷ []) (same ∙ grown) ∙ append_assoc (moments k) drops (moment d entry.Else ∷ []),
  (there, (drops, moment d entry.Else, refl, are, IsChoice.otherwise d.log refl none)),
)
