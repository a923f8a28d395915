-- What refuses a connection beside fewer components refuses it beside all.
use Rattle.std.proofs.Common.{subst, sym}
use Rattle.tp_checks.specs.{Components.component_number, Configuring.HaveOwnPorts, Additions.InterfaceBreaks, Additions.StopsCreating}
use Rattle.tp_checks.specs.BrokenSetup.{SetupBreaks}
use Rattle.tp_checks.proofs.RulesOfAddedComponents.{interface_can, numbered_variables}
use Rattle.tp_checks.proofs.{ModuleRefusalPropagation.breaks_part, SetupBeforeRefusedCreate.before_can, RuleFaultPropagation.told_from}
use Rattle.tp_checks.proofs.SetupFaultsTold.{awaits, interface_breaks, pairs_told, stopped_told}
use Rattle.tp_checks.proofs.setup.first_fault.Goals.{in-Ok-connect_all, in-Err-connect_all}
use Rattle.tp_checks.proofs.setup.first_fault.Goals as goal

pub returns-in-Err-clause-broken : goal.returns-in-Err-clause-broken
returns-in-Err-clause-broken c = λ have.
    let first = c.requires.first in
    breaks_part _ _ c.in-Err.fault
    (λ r. interface_can c.args.rules.now.type_names.now c.args.config.now.types c.args.case.case.now r.config r.is_set_up have c.args.config.now r.sound.few
    c.args.stopped.before.now first.rest first.all first.added) c.in-Err.ensures.refused

pub returns-clause-broken : goal.returns-clause-broken
returns-clause-broken c = λ have.
    elim c.match-connect_all.branch [
      | in-Ok-connect_all w ↦ rw w.result-is (c.requires.broken have)
      | in-Err-connect_all w ↦
          rw w.result-is
          (breaks_part _ _ w.in-Err-connect_all.fault
          (before_can c.args.rules.now.type_names.now c.args.rules.now.port_names.now c.args.case.case.now c.args.stopped.before.now c.args.config.now
          c.add_interface.new.config (component_number c.in-Ok.system) c.requires.first c.in-Ok.ensures.added c.in-Ok.ensures.number)
          (w.in-Err-connect_all.ensures.refused (subst HaveOwnPorts (sym c.in-Ok.ensures.added.types_stay) have.own)))
    ]

pub returns-in-Err-clause-told : goal.returns-in-Err-clause-told
returns-in-Err-clause-told c = λ have known (stops : StopsCreating _ _ _ _ _ _ _).
    let rules = c.args.rules.now in
    let case = c.args.case.case.now in
    let line = c.args.case.line in
    let s = c.args.config.now in
    let before = c.args.stopped.before.now in
    let first = c.requires.first in
    told_from line (InterfaceBreaks case s) (SetupBreaks rules.type_names.now rules.port_names.now s.types case line) c.in-Err.fault
    (interface_breaks rules.type_names.now rules.port_names.now s.types case line before stops.sound s first.added first.rest first.all)
    (c.in-Err.ensures.told (awaits rules.type_names.now rules.port_names.now s.types case line before stops.sound s first.added have known))

pub returns-clause-told : goal.returns-clause-told
returns-clause-told c = λ have known (stops : StopsCreating _ _ _ _ _ _ _).
    let rules = c.args.rules.now in
    let case = c.args.case.case.now in
    let line = c.args.case.line in
    let s = c.args.config.now in
    let before = c.args.stopped.before.now in
    let first = c.requires.first in
    let system = component_number c.in-Ok.system in
    elim c.match-connect_all.branch [
      | in-Ok-connect_all w ↦
          rw w.result-is
          (stopped_told rules.type_names.now rules.port_names.now s.types case line before stops.sound s first.added c.add_interface.new.config
          c.in-Ok.ensures.added system c.in-Ok.ensures.number _ c.args.stopped.fault stops w.in-Ok-connect_all.ensures.makes)
      | in-Err-connect_all w ↦
          rw w.result-is
          (pairs_told rules.type_names.now rules.port_names.now s.types case line before stops.sound s first.added c.add_interface.new.config
          c.in-Ok.ensures.added system c.in-Ok.ensures.number first.rest w.in-Err-connect_all.fault first.all
          (w.in-Err-connect_all.ensures.told (numbered_variables rules.type_names.now rules.port_names.now case before stops.sound)))
    ]
