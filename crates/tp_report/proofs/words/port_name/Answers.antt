-- A port's name is the one that the type of its component declares at its place.
use Rattle.std.proofs.Common.{◌∙◌, ap, []}
use Rattle.std.specs.Option.{option_map_or}
use Rattle.std.specs.String.{string_bytes}
use Rattle.tp_report.proofs.ComponentAndPortNames.{component_of, port_is}
use Rattle.tp_report.proofs.words.port_name.Goals as goal

pub comp_type-requires : goal.comp_type-requires
comp_type-requires c = component_of c.args.config.now c.args.port c.requires

pub returns-in-Some : goal.returns-in-Some
returns-in-Some c =
    c.as_bytes.ensures.value ∙ ap (λ o. option_map_or (λ e. string_bytes e.0) o []) c.in-Some.ensures.entry
    ∙ port_is c.comp_type.result.now c.args.config.now c.args.port c.comp_type.ensures

pub returns-in-None : goal.returns-in-None
returns-in-None c =
    ap (λ o. option_map_or (λ e. string_bytes e.0) o []) c.in-None.ensures.entry
    ∙ port_is c.comp_type.result.now c.args.config.now c.args.port c.comp_type.ensures
