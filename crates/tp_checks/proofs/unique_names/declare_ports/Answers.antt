-- A name that is refused is among those of all ports.
use Rattle.std.proofs.{lemmas.Grind.common_steps, Common.◌≡◌, Common.◌++◌, Common.◌+◌, Common.arith, Common.drop, Common.map, Common.subst}
use Rattle.tp_tree.specs.declared.tree.PortDeclaration.{PortDeclaration}
use Rattle.tp_checks.specs.{Tables.IsNumbered, Definitions.declared, Definitions.declared_ports, Refused.Tells}
use Rattle.tp_checks.specs.BrokenNames.{DeclaringBreaks, port_name_list}
use Rattle.tp_checks.proofs.{DistinctNamesInParts.numbered_first, ModuleRefusalPropagation.flat_behind, ModuleRefusalPropagation.handed_on}
use Rattle.tp_checks.proofs.{NameFaultsTold.map_same, NameFaultsTold.port_among, ModuleFaultPropagation.handed}
use Rattle.tp_checks.proofs.unique_names.declare_ports.Goals as goal

pub returns-in_err-declare_all-clause-refused : goal.returns-in_err-declare_all-clause-refused
returns-in_err-declare_all-clause-refused c =
    handed_on c.from_residual.result _ c.from_residual.ensures.1 c.in_err-declare_all.ensures.refused
    (λ h. rw c.as_slice.ensures
    (numbered_first _ (declared_ports (drop (c.loop-port.port-index + 1) c.args.ports.now))
    (subst IsNumbered
    (flat_behind (λ (p : PortDeclaration). map declared p.names) c.args.names.now c.loop-port.names c.args.ports.now c.loop-port.port-index
    c.port-item.result (omega arith) c.port-item.is c.loop-port.invariant.names) h)))

pub returns-in_err-declare_all-clause-told : goal.returns-in_err-declare_all-clause-told
returns-in_err-declare_all-clause-told c =
    let told : Tells (DeclaringBreaks c.loop-port.names c.port-item.result.names) c.in_err-declare_all.field-0.0 =
    subst (λ l. Tells (DeclaringBreaks c.loop-port.names l) c.in_err-declare_all.field-0.0) (map_same c.port-item.result.names)
    (rw c.as_slice.ensures at c.in_err-declare_all.ensures.told) in
    handed (Tells (DeclaringBreaks c.args.names.now (port_name_list c.args.ports.now))) c.from_residual.result _ c.from_residual.ensures.1
    (port_among c.args.names.now c.loop-port.names c.args.ports.now c.loop-port.port-index c.port-item.result _ (omega arith) c.port-item.is
    c.loop-port.invariant.names told)

pub loop-port-preserved : goal.loop-port-preserved
loop-port-preserved c =
    let added : c.declare_all.new.names ≡ c.loop-port.names ++ map declared c.port-item.result.names =
    rw c.as_slice.ensures at c.in_ok-declare_all.ensures.names in
    grind (arith, common_steps)
