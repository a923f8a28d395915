-- A sending that is noted is no arrival.
use Rattle.std.proofs.Common.{◌≡◌, ℕ, List, [], ◌∷◌, ◌++◌, Result, Ok, Err, ap, sym, subst, refl, ◌∙◌}
use Rattle.std.specs.Prelude.{IfErr, OnOk}
use Rattle.std.proofs.lemmas.List.{append-nil}
use Rattle.tp_common.specs.declared.memory.Memory.{Memory}
use Rattle.tp_value.specs.declared.message.Message.{Message}
use Rattle.tp_config.specs.declared.port_type.RouteId.{RouteId}
use Rattle.tp_inbox.specs.declared.entry.Entry.{Entry}
use Rattle.tp_inbox.specs.declared.entry.Entry.TheVariants as entry
use Rattle.tp_inbox.specs.declared.stamped.Stamped.{Stamped}
use Rattle.tp_inbox.specs.Desks.{Journal, adding}
use Rattle.tp_inbox.specs.History.{arrivals, next_of}
use Rattle.tp_inbox.specs.Ledgers.{Inbox, IsDeskOf}
use Rattle.tp_inbox.proofs.ArrivalsOfEnvelopes.{arrivals-append}
use Rattle.tp_tests.proofs.ends.Mailbox.note_sending.Goals as goal

no_arrival : (route : RouteId) (number : ℕ) (m : Stamped) → arrivals (entry.Sent route number m ∷ []) ≡ []
unfolding arrivals
no_arrival route number m = refl

kept : (r : Result Stamped (Memory × Message)) (before after : Journal) (inbox : Inbox) (drained : List Entry) (route : RouteId) (number : ℕ) (m : Message)
    → OnOk r (after ≡ adding before (entry.Sent route number (next_of before.log m)))
    → IfErr r (λ back. (back.1 ≡ m) × (after ≡ before))
    → IsDeskOf inbox before × (arrivals before.log ≡ drained) → IsDeskOf inbox after × (arrivals after.log ≡ drained)
kept (Ok put) before after inbox drained route number m ok err (is, same) = (
  subst (IsDeskOf inbox) (sym ok) is,
  ap (λ (d : Journal). arrivals d.log) ok ∙ arrivals-append before.log (entry.Sent route number (next_of before.log m) ∷ [])
      ∙ ap (λ l. arrivals before.log ++ l) (no_arrival route number (next_of before.log m)) ∙ append-nil (arrivals before.log) ∙ same,
)
kept (Err back) before after inbox drained route number m ok err (is, same) =
    (subst (IsDeskOf inbox) (sym err.1) is, ap (λ (d : Journal). arrivals d.log) err.1 ∙ same)

pub invariant_of-self : goal.invariant_of-self
invariant_of-self c =
    kept c.note_sending.result _ _ c.self.inside.owner.inbox _ _ _ _ c.note_sending.ensures.ok c.note_sending.ensures.err c.self.invariant
