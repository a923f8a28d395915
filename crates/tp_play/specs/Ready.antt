-- What an executor can rely on, whatever the module of its test case was.
use Rattle.std.specs.Prelude.{◌≡◌, ◌<◌, ◌+◌, ℕ, true, false, Some, All, codes, length, slice_get}
use Rattle.tp_value.specs.declared.types.Types.{Types}
use Rattle.tp_config.specs.declared.port_type.CompId.{CompId}
use Rattle.tp_config.specs.declared.port_type.Role.TheVariants as role
use Rattle.tp_config.specs.Setup.{Setup, Member, is_system_member, ports_at}
use Rattle.tp_play.specs.Playable.{IsPlayable}
use Rattle.tp_play.specs.Behaviours.{Behaviour}
use Rattle.tp_play.specs.TestCases.{Made, behaviour_at}

-- how many ports the component of this number has
abbrev pub port_count : Setup → ℕ → ℕ
port_count config k = length (ports_at config.types config.components (record { 0 = k }))

-- the component of this number can execute this behaviour
pub record CanDo (config : Setup) (types : Types) (k : ℕ) (d : Behaviour) : Type 0 where
  -- each place that its body mentions exists, and holds what it must
  pub playable : IsPlayable types (port_count config k) (length d.references) d.body
  -- its references name components of the configuration
  pub known : All (λ c. c < length config.components) d.references

-- the component of number 0 is `mtc`
pub record HasMain (config : Setup) : Type 0 where
  pub member : Member
  pub there : slice_get config.components 0 ≡ Some member
  pub name : member.name ≡ codes "mtc"
  pub role : member.role ≡ role.Test

-- the component is the test system interface, and the last one
pub record IsSystem (config : Setup) (c : CompId) : Type 0 where
  pub member : Member
  pub there : slice_get config.components c.0 ≡ Some member
  pub is_system : is_system_member member ≡ true
  pub last : c.0 + 1 ≡ length config.components

-- no component is the test system interface
abbrev pub HasNoSystem : Setup → Type 0
HasNoSystem config = (k : ℕ) (m : Member) → slice_get config.components k ≡ Some m → is_system_member m ≡ false

-- the test case can be executed
pub record IsReady (made : Made) : Type 0 where
  pub main : HasMain made.config
  -- the test system interface, if there is one, is the last component
  pub system_last : (k : ℕ) (m : Member) → slice_get made.config.components k ≡ Some m → is_system_member m ≡ true
      → k + 1 ≡ length made.config.components
  -- the list has one place for each component, with its behaviour or none
  pub everyone : length made.behaviours ≡ length made.config.components
  pub can_do : (k : ℕ) (d : Behaviour) → behaviour_at made k ≡ Some d → CanDo made.config made.types k d
