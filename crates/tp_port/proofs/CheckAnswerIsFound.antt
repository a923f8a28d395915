-- The answer of a `check` is what was found, and the history ends with it.
use Rattle.std.proofs.Common.{◌≡◌, ℕ, Option, Some, List, [], ◌∷◌, ◌++◌, ap, sym, ◌∙◌, subst}
use Rattle.tp_common.specs.declared.event.Env.{Env}
use Rattle.tp_common.specs.declared.event.Event.{Event}
use Rattle.tp_common.specs.declared.event.Event.TheVariants as event
use Rattle.tp_queue.specs.History.{Lawful, top}
use Rattle.tp_queue.specs.Answers.{Checks, Finds, checked}
use Rattle.tp_queue.specs.Queues.{QueueState, StandsFor}

found_at : {M : Type 0} (admits : M → Type 0) (from : Option ℕ) (h after : List (Event M)) (q : QueueState M) (e : Env M) (r : Option (Env M))
    → Finds admits from h e → StandsFor q (h ++ event.Found e ∷ []) → r ≡ top h → after ≡ h ++ event.Found e ∷ []
    → (after ≡ checked h r) × Lawful after × Checks admits from h r
found_at admits from h after q e r finds s is grown =
    let there : r ≡ Some e = is ∙ finds.0 in
    rw there (grown, subst Lawful (sym grown) s.lawful, finds)

pub check_done : {M : Type 0} (admits : M → Type 0) (from : Option ℕ) (h v after : List (Event M)) (q : QueueState M) (e twin : Env M) (r : Option (Env M))
    → h ≡ v → Finds admits from h e → StandsFor q (h ++ event.Found e ∷ []) → r ≡ top h → after ≡ h ++ event.Found twin ∷ [] → twin ≡ e
    → (after ≡ checked v r) × Lawful after × Checks admits from v r
check_done admits from h v after q e twin r same finds s is grown copied =
    subst (λ (g : List (Event _)). (after ≡ checked g r) × Lawful after × Checks admits from g r) same
    (found_at admits from h after q e r finds s is (grown ∙ ap (λ x. h ++ event.Found x ∷ []) copied))
