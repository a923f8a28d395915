-- A name stands in the table of ports where a port of this name is declared, or nowhere.
use Rattle.std.proofs.Common.{string_bytes, ◌∙◌}
use Rattle.tp_checks.proofs.{FirstPlacesOfNames.position_is_place, FirstPlacesOfNames.position_is_nowhere, PortNamesGrowth.position_shown}
use Rattle.tp_checks.specs.Scoping.{ports_in}
use Rattle.tp_checks.proofs.lookup.place_of_port.Goals as goal

pub returns-in-Some-clause-there : goal.returns-in-Some-clause-there
returns-in-Some-clause-there c =
    position_is_place (ports_in c.args.ports.now).names c.args.name.now c.in-Some.place
    (c.in-Some.ensures.index ∙ position_shown string_bytes c.args.ports.now.ports.entries c.args.name.now)

pub returns-in-None-clause-absent : goal.returns-in-None-clause-absent
returns-in-None-clause-absent c =
    position_is_nowhere (ports_in c.args.ports.now).names c.args.name.now
    (c.in-None.ensures.index ∙ position_shown string_bytes c.args.ports.now.ports.entries c.args.name.now)
