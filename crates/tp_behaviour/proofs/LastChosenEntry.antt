-- The last entry of a history after a choice took or found the envelope.
use Rattle.std.proofs.Common.{◌≡◌, ℕ, ◌-◌, Bool, Some, List, [], ◌∷◌, ◌++◌, length, slice_get, refl, ap, ◌∙◌, arith}
use Rattle.std.specs.Option.{option_and_then}
use Rattle.std.proofs.lemmas.List.{length-append}
use Rattle.tp_common.specs.declared.event.Env.{Env}
use Rattle.tp_common.specs.declared.operation.ReceiveKind.{ReceiveKind}
use Rattle.tp_common.specs.declared.operation.ReceiveKind.TheVariants as kind
use Rattle.tp_value.specs.declared.message.Message.{Message}
use Rattle.tp_inbox.specs.declared.entry.Entry.{Entry}
use Rattle.tp_inbox.specs.History.{chosen_by, last_chosen}
use Rattle.tp_behaviour.specs.declared.choice.Guard.{Guard}
use Rattle.tp_behaviour.specs.Choices.{IsChoice, chosen}
use Rattle.tp_behaviour.specs.Moments.{Moment}

get_last : {X : Type 0} (xs : List X) (x : X) → slice_get (xs ++ x ∷ []) (length xs) ≡ Some x
get_last [] x = refl
get_last (y ∷ xs) x = get_last xs x

-- what the last entry took or found
pub last_is : (k : List Entry) (t : Entry) → last_chosen (k ++ t ∷ []) ≡ chosen_by t
last_is k t =
    let end : length (k ++ t ∷ []) - 1 ≡ length k = omega (arith, length-append k (t ∷ [])) in
    ap (λ n. option_and_then chosen_by (slice_get (k ++ t ∷ []) n)) end ∙ ap (option_and_then chosen_by) (get_last k t)

kind_takes : (k : ReceiveKind) (port : ℕ) (e : Env Message) (i : ℕ) → chosen_by (chosen k port e i) ≡ Some e
kind_takes kind.Receive port e i = refl
kind_takes kind.Trigger port e i = refl
kind_takes kind.Check port e i = refl

-- the entry of a choice took or found its envelope
pub choice_takes : (gs : List Guard) (any : Bool) (t : Moment) (i : ℕ) (e : Env Message) → IsChoice gs any t (Some (i, e)) → chosen_by t.entry ≡ Some e
choice_takes gs any _ i e (IsChoice.branch k _ g _ there finds none) = kind_takes g.kind g.port e i
