-- What a component is given to do, it can do.
use Rattle.std.proofs.Common.{◌≡◌, ℕ, Option, None, Some, IfSome, option_map, sym}
use Rattle.tp_play.specs.TestCases.{Made, behaviour_at}
use Rattle.tp_play.specs.BorrowedBehaviours.{as_behaviour}
use Rattle.tp_play.specs.declared.test_case.Behaviour.{Behaviour as BorrowedBehaviour}
use Rattle.tp_play.specs.Ready.{CanDo, IsReady}

pub can_at : (made : Made) (k : ℕ) (o : Option BorrowedBehaviour) → IsReady made → option_map as_behaviour o ≡ behaviour_at made k
    → IfSome o (λ c. CanDo made.config made.types k (as_behaviour c))
can_at made k None is e = tt
can_at made k (Some c) is e = is.can_do k (as_behaviour c) (sym e)
