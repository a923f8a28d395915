-- A name that is refused is among all of them.
use Rattle.std.proofs.Common.{◌+◌, arith, drop, map, subst}
use Rattle.tp_checks.specs.{Tables.IsNumbered, Definitions.declared}
use Rattle.tp_checks.proofs.DistinctNamesInParts.{numbered_first}
use Rattle.tp_checks.proofs.ModuleRefusalPropagation.{handed_on, mapped_behind}
use Rattle.tp_checks.proofs.unique_names.declare_all.Goals as goal

pub returns-in_err-add_name-clause-refused : goal.returns-in_err-add_name-clause-refused
returns-in_err-add_name-clause-refused g c =
    handed_on c.from_residual.result _ c.from_residual.ensures.1 c.in_err-add_name.ensures.refused
    (λ h. rw c.declared_name.ensures (numbered_first _ (map (λ x. declared (g.D.Declares.declared_name x)) (drop (c.loop-item.item-index + 1) c.args.list.now))
    (subst IsNumbered
    (mapped_behind (λ x. declared (g.D.Declares.declared_name x)) c.args.names.now c.loop-item.names c.args.list.now c.loop-item.item-index c.item-item.result
    (omega arith) c.item-item.is c.loop-item.invariant.names) h)))
