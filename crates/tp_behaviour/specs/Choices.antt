-- Which branch of an `alt` can be chosen (ES 201 873-1, 20.2, 22.2.2, 22.2.3, 22.4). A stand-alone receiving operation
-- is an `alt` of one branch without `[else]`.
use Rattle.std.specs.Prelude.{◌≡◌, ◌⊎◌, ℕ, Bool, true, Option, Some, None, List, All, slice_get, take}
use Rattle.tp_common.specs.declared.event.Env.{Env}
use Rattle.tp_queue.specs.History.{top}
use Rattle.tp_common.specs.Criteria.{Satisfies}
use Rattle.tp_queue.specs.Answers.{Finds}
use Rattle.tp_value.specs.declared.message.Message.{Message}
use Rattle.tp_value.specs.Admits.{Admits}
use Rattle.tp_common.specs.declared.operation.ReceiveKind.{ReceiveKind}
use Rattle.tp_common.specs.declared.operation.ReceiveKind.TheVariants as receive_kind
use Rattle.tp_inbox.specs.declared.entry.Entry.{Entry}
use Rattle.tp_inbox.specs.declared.entry.Entry.TheVariants as entry
use Rattle.tp_inbox.specs.History.{history_of}
use Rattle.tp_behaviour.specs.declared.choice.Guard.{Guard}
use Rattle.tp_behaviour.specs.Moments.{Moment}

-- the port has a top that the operation wants, from the component that it names
abbrev pub IsSatisfied : List Entry → Guard → Type 0
IsSatisfied k g = (e : Env Message) × Finds (Admits g.wanted) g.sender (history_of g.port k) e

-- the operation can be chosen, or discards the top: it is a `trigger` whose port has a top at all
abbrev pub IsOpen : List Entry → Guard → Type 0
IsOpen k g = IsSatisfied k g
    ⊎ ((g.kind ≡ receive_kind.Trigger) × ((e : Env Message) × (top (history_of g.port k) ≡ Some e)))

-- none of these is open
abbrev pub NoneOpen : List Entry → List Guard → Type 0
NoneOpen k gs = All (λ g. ¬ IsOpen k g) gs

-- the entry of a message that is taken out, or, by a `check`, found
abbrev pub chosen : ReceiveKind → ℕ → Env Message → ℕ → Entry
chosen receive_kind.Receive port e i = entry.Took port i e
chosen receive_kind.Trigger port e i = entry.Took port i e
chosen receive_kind.Check port e i = entry.Found port i e

-- the entry is the choice of the branch at this place, by which this envelope was taken or found, or of `[else]`; no
-- branch before it was open
pub data IsChoice (gs : List Guard) (has_else : Bool) : Moment → Option (ℕ × Env Message) → Type 0 where
  branch : (k : List Entry) (i : ℕ) (g : Guard) (e : Env Message) → slice_get gs i ≡ Some g
      → Finds (Admits g.wanted) g.sender (history_of g.port k) e → NoneOpen k (take i gs)
      → IsChoice gs has_else (record { before = k; entry = chosen g.kind g.port e i }) (Some (i, e))
  otherwise : (k : List Entry) → has_else ≡ true → NoneOpen k gs
      → IsChoice gs has_else (record { before = k; entry = entry.Else }) None

-- the entry is a message that a `trigger` discarded, and no branch before it was open; the `alt` then looks anew
pub data IsDrop (gs : List Guard) : Moment → Type 0 where
  dropped : (k : List Entry) (i : ℕ) (g : Guard) (e : Env Message) → slice_get gs i ≡ Some g
      → g.kind ≡ receive_kind.Trigger
      → top (history_of g.port k) ≡ Some e → ¬ Satisfies (Admits g.wanted) g.sender e → NoneOpen k (take i gs)
      → IsDrop gs (record { before = k; entry = entry.Dropped g.port i e })
