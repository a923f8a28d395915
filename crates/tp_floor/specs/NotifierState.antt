-- What contracts see of a notifier.
use Rattle.std.specs.Prelude.{ℕ, Bool, Option}

-- how many pushes were announced; whether the inbox was closed; and, if the owner rests, how many envelopes it had
-- taken out before: it is woken when more than these were announced
pub record NotifierState : Type 0 where
  pub announced : ℕ
  pub closed : Bool
  pub awaits : Option ℕ
