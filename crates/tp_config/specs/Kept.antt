-- How the fields of a configuration depend on each other.
use Rattle.std.specs.Prelude.{◌≡◌, List, length}
use Rattle.tp_config.specs.declared.port_type.CompId.{CompId}
use Rattle.tp_config.specs.declared.port_type.PortRef.{PortRef}
use Rattle.tp_config.specs.Setup.{Setup, ports_at}
use Rattle.tp_config.specs.Allowed.{IsSetup}
use Rattle.tp_config.specs.Links.{row, links_at}
use Rattle.tp_config.specs.Routes.{beside}

-- the lists kept for the ports agree with the pairs of the configuration
pub record KeepsPairs (s : Setup) (links : List (List (List PortRef))) : Type 0 where
  pub setup : IsSetup s
  -- each component has a list for each of its ports
  pub shape : (c : CompId) → length (row links c) ≡ length (ports_at s.types s.components c)
  -- the list of a port has the ports with which it forms a pair
  pub kept : (p : PortRef) → links_at links p ≡ beside s p
