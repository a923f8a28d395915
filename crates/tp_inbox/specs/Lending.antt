-- The state of a desk after a reference into it has ended.
use Rattle.std.specs.Prelude.{◌≡◌, ℕ, Option, Result, MatchResult, ⊤}
use Rattle.std.specs.Option.{option_copied}
use Rattle.std.specs.Borrow.{Fml, Bor, MutBor, follows_so}
use mathlib.Core.Option.{none}
use Rattle.tp_common.specs.declared.event.Env.{Env}
use Rattle.tp_value.specs.declared.message.Message.{Message}
use Rattle.tp_inbox.specs.Desks.{Journal, checked_at}
use Rattle.tp_inbox.specs.contracts.desk.Desk.{the_row}

-- when the reference has ended, the desk is the one after a `check` with the result r; an error leaves it as it was
abbrev pub ends_checked_at : ℕ → ℕ → {E : Type 0} → MutBor Journal → Result (Option (Bor (Env Message))) E → Fml
ends_checked_at port branch d r =
    follows_so the_row the_row d.ghost_name none (λ _ _. ⊤)
    (λ n. MatchResult r (λ answer. n ≡ checked_at port branch d.now (option_copied answer)) (λ _. n ≡ d.now))
