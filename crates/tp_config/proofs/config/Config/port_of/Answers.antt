-- The port at the place that was found has the name, and where none was found none has it.
use Rattle.std.proofs.Common.{◌∙◌, ap, arith, length, refl}
use Rattle.std.specs.Str.{bytes_eq}
use Rattle.tp_config.specs.Setup.{port_names}
use Rattle.tp_config.specs.Shape.{setup_of}
use Rattle.tp_config.proofs.PortLookupByFields.{length_ports}
use Rattle.tp_config.proofs.RouteLaws.{few_at}
use Rattle.tp_config.proofs.ComponentAndPortLookups.{name_known, name_there, name_unknown, named_port, port_place, seen_ports, tells_back}
use Rattle.tp_config.proofs.config.Config.port_of.Goals as goal

pub overflow_cast-result : goal.overflow_cast-result
overflow_cast-result c =
    let i = c.self.inside in
    let s = setup_of i.types.items i.components.items i.connected.items i.mapped.items in
    let ports =
    c.in_ok-comp_type.ensures ∙ seen_ports _ _ _ _ i.connected.items i.mapped.items s c.args.comp c.as_slice.ensures.value c.as_slice-2.ensures.value refl in
    omega (arith, few_at s c.self.invariant.setup c.args.comp, ap length ports, length_ports c.in_ok-comp_type.comp_type.now, c.in-Some.ensures.within)

pub returns-in-Some-clause-there : goal.returns-in-Some-clause-there
returns-in-Some-clause-there c =
    let i = c.self.inside in
    let ports = c.in_ok-comp_type.ensures ∙ seen_ports _ _ _ _ i.connected.items i.mapped.items c.args.self.now c.args.comp c.as_slice.ensures.value
    c.as_slice-2.ensures.value c.self.view_is in (
      refl,
      name_there (bytes_eq c.args.name.now) c.args.name.now (tells_back c.args.name.now) (port_names c.args.self.now c.args.comp) c.in-Some.place
          (c.in-Some.ensures.index ∙ port_place c.in_ok-comp_type.comp_type.now c.args.self.now c.args.comp c.args.name.now ports),
    )

pub returns-in-Some-clause-port : goal.returns-in-Some-clause-port
returns-in-Some-clause-port c =
    named_port c.args.self.now (record { comp = c.args.comp; port = c.in-Some.place }) c.args.name.now (returns-in-Some-clause-there c).1

pub returns-in-Some-clause-known : goal.returns-in-Some-clause-known
returns-in-Some-clause-known c =
    let i = c.self.inside in
    let ports = c.in_ok-comp_type.ensures ∙ seen_ports _ _ _ _ i.connected.items i.mapped.items c.args.self.now c.args.comp c.as_slice.ensures.value
    c.as_slice-2.ensures.value c.self.view_is in (
      λ _. name_known (bytes_eq c.args.name.now) c.args.name.now (tells_back c.args.name.now) (port_names c.args.self.now c.args.comp) c.in-Some.place
          (c.in-Some.ensures.index ∙ port_place c.in_ok-comp_type.comp_type.now c.args.self.now c.args.comp c.args.name.now ports),
      λ _. refl,
    )

pub returns-in-None-clause-known : goal.returns-in-None-clause-known
returns-in-None-clause-known c =
    let i = c.self.inside in
    let ports = c.in_ok-comp_type.ensures ∙ seen_ports _ _ _ _ i.connected.items i.mapped.items c.args.self.now c.args.comp c.as_slice.ensures.value
    c.as_slice-2.ensures.value c.self.view_is in (
      λ h. absurd (cc),
      λ h. absurd (name_unknown (bytes_eq c.args.name.now) c.args.name.now (tells_back c.args.name.now)
          (port_names c.args.self.now c.args.comp) (c.in-None.ensures.index
          ∙ port_place c.in_ok-comp_type.comp_type.now c.args.self.now c.args.comp c.args.name.now ports) h),
    )
