-- The results of trying the branches of an `alt`.
use Rattle.std.specs.Prelude.{◌≡◌, ℕ, Bool, Some, List}
use Rattle.tp_common.specs.declared.event.Env.{Env}
use Rattle.tp_queue.specs.History.{top}
use Rattle.tp_common.specs.Criteria.{Satisfies}
use Rattle.tp_queue.specs.Answers.{Finds}
use Rattle.tp_value.specs.declared.message.Message.{Message}
use Rattle.tp_value.specs.Admits.{Admits}
use Rattle.tp_common.specs.declared.operation.ReceiveKind.TheVariants as receive_kind
use Rattle.tp_inbox.specs.declared.entry.Entry.{Entry}
use Rattle.tp_inbox.specs.declared.entry.Entry.TheVariants as entry
use Rattle.tp_inbox.specs.Desks.{Journal, adding, at_port}
use Rattle.tp_behaviour.specs.declared.choice.Guard.{Guard}
use Rattle.tp_behaviour.specs.declared.choice.LookResult.{LookResult}
use Rattle.tp_behaviour.specs.declared.choice.LookResult.TheVariants as look
use Rattle.tp_behaviour.specs.Moments.{Moment}
use Rattle.tp_behaviour.specs.Choices.{IsOpen, NoneOpen, IsChoice, IsDrop, chosen}

-- the result of trying the branch at place i, and the desk after it
abbrev pub Tried : Guard → ℕ → Journal → LookResult → Journal → Type 0
Tried g i d (look.Taken j) after =
    (e : Env Message) × (j ≡ i) × Finds (Admits g.wanted) g.sender (at_port d g.port) e
    × (after ≡ adding d (chosen g.kind g.port e i))
Tried g i d look.Discarded after =
    (e : Env Message) × (g.kind ≡ receive_kind.Trigger) × (top (at_port d g.port) ≡ Some e)
    × ¬ Satisfies (Admits g.wanted) g.sender e
    × (after ≡ adding d (entry.Dropped g.port i e))
Tried g i d look.Nothing after = (¬ IsOpen d.log g) × (after ≡ d)

-- the moment of an entry that is added to this desk
abbrev pub moment : Journal → Entry → Moment
moment d t = record { before = d.log; entry = t }

-- the result of trying all branches, and the desk after it: the choice of a branch, a message that a `trigger`
-- discarded, or nothing if no branch is open
abbrev pub Looked : List Guard → Journal → LookResult → Journal → Type 0
Looked gs d (look.Taken i) after =
    (e : Env Message) × (t : Entry) × ((has_else : Bool) → IsChoice gs has_else (moment d t) (Some (i, e)))
    × (after ≡ adding d t)
Looked gs d look.Discarded after = (t : Entry) × IsDrop gs (moment d t) × (after ≡ adding d t)
Looked gs d look.Nothing after = NoneOpen d.log gs × (after ≡ d)
