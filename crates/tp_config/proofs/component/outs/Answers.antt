-- A port sends what its port type sends, and one that isn't there sends nothing.
use Rattle.std.proofs.Common.{◌∙◌, ap, sym, Some, None}
use Rattle.std.specs.Prelude.{option_map}
use Rattle.std.specs.Option.{option_copied}
use Rattle.tp_config.specs.Shape.{types_of_port_type}
use Rattle.tp_config.proofs.PortLookupByFields.{outs_by}
use Rattle.tp_config.proofs.component.outs.Goals as goal

pub returns-in-Some : goal.returns-in-Some
returns-in-Some c =
    outs_by _ _ _ (Some c.in-Some.port_type.now) (sym (ap (λ o. option_map types_of_port_type (option_copied o)) c.in-Some.is) ∙ c.port_type.ensures)

pub returns-in-None : goal.returns-in-None
returns-in-None c = outs_by _ _ _ None (sym (ap (λ o. option_map types_of_port_type (option_copied o)) c.in-None.is) ∙ c.port_type.ensures)
