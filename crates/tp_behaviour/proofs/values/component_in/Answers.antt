-- What a variable for components holds.
use Rattle.std.proofs.Common.{◌∙◌, ap, Some}
use Rattle.tp_behaviour.proofs.ValuesHeldByVariables.{read_at, read_same}
use Rattle.tp_behaviour.proofs.values.component_in.Goals as goal

-- what was read is what the variable holds
pub unreachable-requires : goal.unreachable-requires
unreachable-requires c =
    let x = c.requires in
    let xs = c.args.frame.now.variables.items in
    let same = read_same xs c.args.place x.0 c.index.result.now x.1 c.index.ensures in
    x.2 c.in-Value.field-0 (same ∙ c.in-Some.is ∙ ap Some c.in-Value.is)

pub returns-in-Component : goal.returns-in-Component
returns-in-Component c =
    let x = c.requires in
    let xs = c.args.frame.now.variables.items in
    let at = read_at xs c.args.place x.0 c.index.result.now x.1 c.index.ensures in
    at ∙ ap Some (c.in-Some.is ∙ ap Some c.in-Component.is)

pub returns-in-None : goal.returns-in-None
returns-in-None c =
    let x = c.requires in
    let xs = c.args.frame.now.variables.items in
    let at = read_at xs c.args.place x.0 c.index.result.now x.1 c.index.ensures in
    at ∙ ap Some c.in-None.is
