-- A port that is refused is among all of them.
use Rattle.std.proofs.Common.{◌+◌, ◌++◌, ◌∙◌, ap, arith, drop, map, subst, take}
use Rattle.std.proofs.lemmas.List.{map-append}
use Rattle.tp_config.specs.{Setup.PortDecl, Shape.ports_of}
use Rattle.tp_checks.specs.{Tables.AreDistinct, Definitions.declared, Resolved.port_decl}
use Rattle.tp_checks.proofs.DistinctNamesInParts.{distinct_first, map_twice}
use Rattle.tp_checks.proofs.ModuleRefusalPropagation.{handed_on, mapped_behind}
use Rattle.tp_checks.proofs.ports.add_ports.Goals as goal

pub returns-in_err-add_port-clause-refused : goal.returns-in_err-add_port-clause-refused
returns-in_err-add_port-clause-refused c =
    let i = c.loop-name.name-index in
    let items = c.args.names.now in
    let made = c.args.port_type.now in
    let old = ports_of c.args.component.now in
    handed_on c.from_residual.result _ c.from_residual.ensures.1 c.in_err-add_port.ensures.refused
    (λ h. distinct_first _ (map declared (drop (i + 1) items))
    (subst AreDistinct
    (mapped_behind declared (map (λ (p : PortDecl). p.name) old) (map (λ (p : PortDecl). p.name) (ports_of c.loop-name.component)) items i c.name-item.result
    (omega arith) c.name-item.is
    (ap (map (λ (p : PortDecl). p.name)) c.loop-name.invariant
    ∙ map-append (λ (p : PortDecl). p.name) old (map (port_decl made) (take i items))
    ∙ ap (λ l. map (λ (p : PortDecl). p.name) old ++ l) (map_twice (λ (p : PortDecl). p.name) (port_decl made) (take i items)))) h))
