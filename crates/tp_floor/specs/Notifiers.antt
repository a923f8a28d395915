-- What contracts see of a notifier, and what holds for every notifier.
use Rattle.std.specs.Prelude.{◌≡◌, ◌≤◌, ℕ, false, Some, is_some, if◌then◌else◌}
use Rattle.crossbeam_utils.specs.Seq.{cell_view}
use Rattle.tp_floor.specs.declared.notifier.Notifier.TheInside.{Inside}
use Rattle.tp_floor.specs.NotifierState.{NotifierState}

-- what contracts see of its fields
abbrev pub notifier_state : Inside → NotifierState
notifier_state s = record { announced = s.announced; closed = s.closed; awaits = s.awaits }

-- while the owner rests, no more were announced than it had taken out, and the inbox is open; its place counts as at
-- rest if and only if the owner rests
pub record IsNotifier (s : Inside) : Type 0 where
  pub asleep : (taken : ℕ) → s.awaits ≡ Some taken → (s.announced ≤ taken) × (s.closed ≡ false)
  pub counted : cell_view s.place.pass ≡ (if is_some s.awaits then 1 else 0)
