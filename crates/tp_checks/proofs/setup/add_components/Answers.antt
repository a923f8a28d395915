-- First `mtc` is added, and after it the components of the setup statements.
use Rattle.std.proofs.Common.{ap, subst}
use Rattle.std.specs.Prelude.{IfErr}
use Rattle.tp_checks.specs.{Refused.IsRefusedBy, Refused.Tells, Components.main_component, Components.CanAdd, Sorted.component_types_in}
use Rattle.tp_checks.specs.{Configuring.AreOwnPorts, Configuring.CanSetUp, BrokenSetup.CaseSetupBreaks, Rules.AreComponentTypesKnown}
use Rattle.indexmap.proofs.MapLemmas.{OnOk-map}
use Rattle.tp_checks.proofs.{RulesOfAddedComponents.main_added, RulesOfAddedComponents.main_can, ModuleRefusalPropagation.handed_on}
use Rattle.tp_checks.proofs.{SetupStatementOutcomes.adds_main, PortsOfComponentTypes.have_ports, SetupFaultsTold.main_free}
use Rattle.tp_checks.proofs.ModuleFaultPropagation.{handed, memory_left, tells_memory}
use Rattle.tp_tree.specs.declared.tree.Defined.TheVariants as defined
use Rattle.tp_checks.proofs.setup.add_components.Goals as goal

pub returns-clause-added : goal.returns-clause-added
returns-clause-added c =
    OnOk-map c.create_all.result _ _
    (adds_main c.args.sorted.now.component_names c.args.case.case.now c.args.config.now c.add_component.new.config c.create_all.new.config
    (rw c.as_str.ensures at c.in_ok-add_component.ensures.added)) c.create_all.ensures.added

pub create_all-requires-clause-main : goal.create_all-requires-clause-main
create_all-requires-clause-main c =
    main_added c.args.sorted.now.component_names (main_component c.args.case.case.now) c.args.config.now c.add_component.new.config c.requires.empty
    (rw c.as_str.ensures at c.in_ok-add_component.ensures.added)

pub returns-in_err-add_component-clause-refused : goal.returns-in_err-add_component-clause-refused
returns-in_err-add_component-clause-refused c = λ own.
    let types = component_types_in c.args.sorted.now in
    let names = c.args.sorted.now.component_names in
    handed_on c.from_residual.result _ c.from_residual.ensures.1 c.in_err-add_component.ensures.refused
    (λ r. rw c.as_str.ensures
    (main_can names c.args.config.now.types c.args.case.case.now r.config r.is_set_up
    (have_ports types names c.args.config.now.types c.requires.named own) c.args.config.now c.requires.empty))

pub returns-clause-refused : goal.returns-clause-refused
returns-clause-refused c =
    let types = component_types_in c.args.sorted.now in
    let names = c.args.sorted.now.component_names in
    subst (λ t. AreOwnPorts types t → IfErr c.create_all.result (IsRefusedBy (CanSetUp names types t c.args.case.case.now)))
    (ap (λ s. s.types) c.in_ok-add_component.ensures.added.added) c.create_all.ensures.refused

pub returns-in_err-add_component-clause-told : goal.returns-in_err-add_component-clause-told
returns-in_err-add_component-clause-told c = λ own known.
    let types = component_types_in c.args.sorted.now in
    let names = c.args.sorted.now.component_names in
    let case = c.args.case.case.now in
    let made = c.args.config.now.types in
    let P = CaseSetupBreaks names types made case c.args.case.line in
    handed (Tells P) c.from_residual.result _ c.from_residual.ensures.1
    (tells_memory P c.in_err-add_component.field-0.0
    (memory_left (CanAdd names (main_component case) c.args.config.now) c.in_err-add_component.field-0.0
    (rw c.as_str.ensures at c.in_err-add_component.ensures.refused)
    (main_free names made case c.args.config.now (have_ports types names made c.requires.named own) known.0 c.requires.empty)))

pub returns-clause-told : goal.returns-clause-told
returns-clause-told c =
    let types = component_types_in c.args.sorted.now in
    let names = c.args.sorted.now.component_names in
    let case = c.args.case.case.now in
    subst (λ t. AreOwnPorts types t → AreComponentTypesKnown names (defined.TestCase case)
    → IfErr c.create_all.result (Tells (CaseSetupBreaks names types t case c.args.case.line)))
    (ap (λ s. s.types) c.in_ok-add_component.ensures.added.added) c.create_all.ensures.told
