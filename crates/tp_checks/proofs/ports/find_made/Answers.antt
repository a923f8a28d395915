-- What was made at the place of the name is that of the port type of this name.
use Rattle.std.proofs.Common.{sym}
use Rattle.tp_checks.specs.Sorted.{port_types_in}
use Rattle.tp_checks.proofs.PortTypesAsDeclared.{made_of, made_there}
use Rattle.tp_checks.proofs.ports.find_made.Goals as goal

pub returns-clause-found : goal.returns-clause-found
returns-clause-found c =
    made_of c.args.sorted.now.type_names c.args.sorted.now.port_names (port_types_in c.args.sorted.now) c.args.made.now c.args.name.now c.in-Some.place
    c.in-Some-made_at.found.now
    c.requires.names c.requires.lists c.in-Some.ensures.place (sym c.in-Some-made_at.ensures)

pub returns-in_default-made_at-clause-unknown : goal.returns-in_default-made_at-clause-unknown
returns-in_default-made_at-clause-unknown c = λ _.
    made_there c.args.sorted.now.type_names c.args.sorted.now.port_names (port_types_in c.args.sorted.now) c.args.made.now c.args.name.now c.in-Some.place
    c.requires.names c.requires.lists c.in-Some.ensures.place c.in_default-made_at.ensures
