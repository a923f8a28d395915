-- A type is found in the table of a list just where the list has it.
use Rattle.std.proofs.Common.{◌∙◌, sym}
use Rattle.tp_checks.proofs.TypeListMembership.{listed, unlisted}
use Rattle.tp_checks.proofs.lookup.lists.Goals as goal

pub returns : goal.returns
returns c = (λ h. listed c.args.types.now c.args.ty (sym c.has.ensures ∙ h), λ h. c.has.ensures ∙ unlisted c.args.types.now c.args.ty h)
