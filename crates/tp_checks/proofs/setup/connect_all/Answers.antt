-- Before the first statement there are no variables, and each statement is one step more.
use Rattle.std.proofs.Common.{arith, subst, sym, take}
use Rattle.tp_checks.specs.{Components.component_number, Configuring.nothing, Configuring.HaveOwnPorts, Refused.Tells}
use Rattle.tp_checks.specs.BrokenSetup.{PairsBreak}
use Rattle.tp_checks.proofs.{SetupStatementGrowth.makes_more, SetupStatementGrowth.variables_more, ModuleRefusalPropagation.handed_on}
use Rattle.tp_checks.proofs.{UniqueConfigurations.makes_leaves, UniqueConfigurations.next_step, ModuleFaultPropagation.handed}
use Rattle.tp_checks.proofs.PairFaultsTold.{numbered_next, pair_among}
use Rattle.tp_checks.proofs.setup.connect_all.Goals as goal

pub loop-setup-init : goal.loop-setup-init
loop-setup-init c = record { known = c.new-known.ensures.empty; numbered = c.new-known.ensures.numbered; makes = nothing }

pub loop-setup-preserved : goal.loop-setup-preserved
loop-setup-preserved c = record {
  known = variables_more c.args.setups.now c.loop-setup.setup-index c.setup-item.result (omega arith) c.setup-item.is c.loop-setup.known c.add_setup.new.known
      c.loop-setup.invariant.known c.in_ok-add_setup.ensures.known;
  numbered = c.in_ok-add_setup.ensures.numbered c.loop-setup.invariant.numbered;
  makes = makes_more c.args.setups.now c.loop-setup.setup-index c.setup-item.result (omega arith) c.setup-item.is
      (component_number c.args.system) c.args.config.now
      c.loop-setup.config c.add_setup.new.config c.loop-setup.known
      c.loop-setup.invariant.makes c.loop-setup.invariant.known c.in_ok-add_setup.ensures.step;
}

pub returns-in_err-add_setup-clause-refused : goal.returns-in_err-add_setup-clause-refused
returns-in_err-add_setup-clause-refused c = λ own.
    let xs = c.args.setups.now in
    let i = c.loop-setup.setup-index in
    let system = component_number c.args.system in
    handed_on c.from_residual.result _ c.from_residual.ensures.1
    (c.in_err-add_setup.ensures.refused c.loop-setup.invariant.numbered
    (subst HaveOwnPorts (sym (makes_leaves system c.args.config.now (take i xs) c.loop-setup.config c.loop-setup.invariant.makes).0) own))
    (next_step system c.args.config.now own xs i c.setup-item.result c.loop-setup.config c.loop-setup.known (omega arith) c.setup-item.is
    c.loop-setup.invariant.makes c.loop-setup.invariant.known)

pub returns-in_err-add_setup-clause-told : goal.returns-in_err-add_setup-clause-told
returns-in_err-add_setup-clause-told c = λ own.
    let xs = c.args.setups.now in
    let i = c.loop-setup.setup-index in
    let x = c.setup-item.result in
    let system = component_number c.args.system in
    let before = c.loop-setup.invariant in
    handed (Tells (PairsBreak system c.args.config.now xs)) c.from_residual.result _ c.from_residual.ensures.1
    (pair_among xs i x (omega arith) c.setup-item.is c.loop-setup.known before.known system c.args.config.now c.loop-setup.config
    c.in_err-add_setup.field-0.0 before.makes
    (c.in_err-add_setup.ensures.told before.numbered
    (numbered_next xs i x (omega arith) c.setup-item.is c.loop-setup.known before.known own)))
