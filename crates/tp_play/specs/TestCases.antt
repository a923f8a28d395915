-- What contracts see of a test case.
use Rattle.std.specs.Prelude.{ℕ, Option, None, List}
use Rattle.std.specs.List.{slice_index_or}
use Rattle.tp_value.specs.declared.types.Types.{Types}
use Rattle.tp_config.specs.Setup.{Setup}
use Rattle.tp_play.specs.Behaviours.{Behaviour}

-- what contracts see of a test case: its configuration, the record and record-of types, and what each component does,
-- in the order of the components
pub record Made : Type 0 where
  pub config : Setup
  pub types : Types
  pub behaviours : List (Option Behaviour)

-- the behaviour of the component of this number, or none if there is no such component
abbrev pub behaviour_at : Made → ℕ → Option Behaviour
behaviour_at made k = slice_index_or made.behaviours k None
