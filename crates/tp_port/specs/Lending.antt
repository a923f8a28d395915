-- What a queue is when a reference into it has ended.
use Rattle.std.specs.Prelude.{◌≡◌, List, Option, Result, MatchResult, ⊤}
use Rattle.std.specs.Option.{option_copied}
use Rattle.std.specs.Borrow.{Fml, RattleType, Bor, MutBor, follows_so}
use mathlib.Core.Option.{none}
use Rattle.tp_common.specs.declared.event.Env.{Env}
use Rattle.tp_common.specs.declared.event.Event.{Event}
use Rattle.tp_queue.specs.History.{Lawful}
use Rattle.tp_queue.specs.Answers.{checked}
use Rattle.tp_port.specs.contracts.port_queue.PortQueue.{the_row}

-- when the reference has ended, the queue has the history after a `check` that returned r, and this history is lawful
abbrev pub ends_checked : (M : RattleType) {E : Type 0} → MutBor (List (Event M.Denot))
    → Result (Option (Bor (Env M.Denot))) E → Fml
ends_checked M q r = follows_so (the_row M) (the_row M) q.ghost_name none (λ _ _. ⊤) (λ n. MatchResult r
    (λ answer. (n ≡ checked q.now (option_copied answer)) × Lawful n)
    (λ _. (n ≡ q.now) × Lawful n))
