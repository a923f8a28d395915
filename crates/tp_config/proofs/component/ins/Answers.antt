-- A port receives what its port type receives, and one that isn't there receives nothing.
use Rattle.std.proofs.Common.{◌∙◌, ap, sym, Some, None}
use Rattle.std.specs.Prelude.{option_map}
use Rattle.std.specs.Option.{option_copied}
use Rattle.tp_config.specs.Shape.{types_of_port_type}
use Rattle.tp_config.proofs.PortLookupByFields.{ins_by}
use Rattle.tp_config.proofs.component.ins.Goals as goal

pub returns-in-Some : goal.returns-in-Some
returns-in-Some c =
    ins_by _ _ _ (Some c.in-Some.port_type.now) (sym (ap (λ o. option_map types_of_port_type (option_copied o)) c.in-Some.is) ∙ c.port_type.ensures)

pub returns-in-None : goal.returns-in-None
returns-in-None c = ins_by _ _ _ None (sym (ap (λ o. option_map types_of_port_type (option_copied o)) c.in-None.is) ∙ c.port_type.ensures)
