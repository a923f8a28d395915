-- The components are added in their order, and then connected and mapped as the text says.
use Rattle.std.proofs.Common.{◌∙◌, subst, sym, [], append-nil, map, ◌∷◌}
use Rattle.std.proofs.lemmas.Result.{IfErr-weaker}
use Rattle.tp_checks.specs.{Configuring.HaveOwnPorts, Sorted.component_types_in, Refused.Tells, Additions.InterfaceBreaks}
use Rattle.tp_checks.specs.Components.{component_number, AddsAll, created, creations, main_component}
use Rattle.tp_checks.specs.BrokenSetup.{CaseSetupBreaks, PairsBreak}
use Rattle.indexmap.proofs.MapLemmas.{OnOk-map}
use Rattle.tp_checks.proofs.RulesOfAddedComponents.{all_ready, interface_ready, numbered_variables}
use Rattle.tp_checks.proofs.{ModuleRefusalPropagation.breaks_part, ModuleRefusalPropagation.handed_on, SetupStatementOutcomes.set_up_is}
use Rattle.tp_checks.proofs.{PortsOfComponentTypes.have_ports, ModuleFaultPropagation.handed, RuleFaultPropagation.told_from}
use Rattle.tp_checks.proofs.SetupFaultsTold.{awaits, beside_told, interface_breaks, pairs_told}
use Rattle.tp_config.specs.Setup.{Setup, empty_setup}
use Rattle.tp_checks.proofs.setup.configure.Goals as goal

pub returns-clause-config : goal.returns-clause-config
returns-clause-config c =
    OnOk-map c.connect_all.result _ _
    (set_up_is c.args.sorted.now.component_names c.args.config.now.types c.args.case.case.now c.args.config.now c.add_components.new.config
    c.add_interface.new.config c.connect_all.new.config
    (component_number c.in_ok-system.system) c.as_slice.result.now c.requires.empty c.in_ok-add_components.ensures.added c.in_ok-system.ensures.added
    c.in_ok-system.ensures.number
    c.as_slice.ensures) c.connect_all.ensures.makes

pub returns-in_err-system-clause-refused : goal.returns-in_err-system-clause-refused
returns-in_err-system-clause-refused c = λ own.
    let types = component_types_in c.args.sorted.now in
    let names = c.args.sorted.now.component_names in
    let made = c.args.config.now.types in
    handed_on c.from_residual-in_err-system.result _ c.from_residual-in_err-system.ensures.1 c.in_err-system.ensures.refused
    (λ r. interface_ready names types made c.args.case.case.now r (have_ports types names made c.requires.named own) c.args.config.now
    c.add_components.new.config c.requires.empty c.in_ok-add_components.ensures.added)

pub returns-clause-refused : goal.returns-clause-refused
returns-clause-refused c = λ own.
    let types = component_types_in c.args.sorted.now in
    let names = c.args.sorted.now.component_names in
    let made = c.args.config.now.types in
    IfErr-weaker c.connect_all.result _ _
    (λ f. breaks_part _ _ f
    (λ r. all_ready names types made c.args.case.case.now r c.args.config.now c.add_components.new.config c.add_interface.new.config
    (component_number c.in_ok-system.system) c.as_slice.result.now c.requires.empty c.as_slice.ensures c.in_ok-add_components.ensures.added
    c.in_ok-system.ensures.added c.in_ok-system.ensures.number))
    (c.connect_all.ensures.refused
    (subst HaveOwnPorts (sym (c.in_ok-system.ensures.added.types_stay ∙ c.in_ok-add_components.ensures.added.types_stay))
    (have_ports types names made c.requires.named own).own))

pub returns-in_err-system-clause-told : goal.returns-in_err-system-clause-told
returns-in_err-system-clause-told c = λ own known.
    let types = component_types_in c.args.sorted.now in
    let names = c.args.sorted.now.component_names in
    let made = c.args.config.now.types in
    let case = c.args.case.case.now in
    let line = c.args.case.line in
    let s = c.add_components.new.config in
    let sound = c.in_ok-add_components.ensures.sound in
    let added : AddsAll names (main_component case ∷ map created (creations case.setups)) (empty_setup made) s =
    subst (λ (z : Setup). AddsAll names (main_component case ∷ map created (creations case.setups)) z s) c.requires.empty
    c.in_ok-add_components.ensures.added in
    handed (Tells (CaseSetupBreaks names types made case line)) c.from_residual-in_err-system.result _ c.from_residual-in_err-system.ensures.1
    (told_from line (InterfaceBreaks case s) (CaseSetupBreaks names types made case line) c.in_err-system.field-0.0
    (λ rule b. record {
      ports = sound.ports;
      has_ports = sound.has_ports;
      breaks = interface_breaks names sound.ports made case line case.setups sound.sound s added [] (sym (append-nil case.setups)) rule b;
    })
    (c.in_err-system.ensures.told (awaits names sound.ports made case line case.setups sound.sound s added
    (have_ports types names made c.requires.named own) known)))

pub returns-clause-told : goal.returns-clause-told
returns-clause-told c = λ own known.
    let types = component_types_in c.args.sorted.now in
    let names = c.args.sorted.now.component_names in
    let made = c.args.config.now.types in
    let case = c.args.case.case.now in
    let line = c.args.case.line in
    let first = c.add_components.new.config in
    let s = c.add_interface.new.config in
    let sound = c.in_ok-add_components.ensures.sound in
    let system = component_number c.in_ok-system.system in
    let added : AddsAll names (main_component case ∷ map created (creations case.setups)) (empty_setup made) first =
    subst (λ (z : Setup). AddsAll names (main_component case ∷ map created (creations case.setups)) z first) c.requires.empty
    c.in_ok-add_components.ensures.added in
    IfErr-weaker c.connect_all.result (Tells (PairsBreak system s case.setups)) (Tells (CaseSetupBreaks names types made case line))
    (λ f told. beside_told names sound.ports types made case line sound.has_ports f
    (pairs_told names sound.ports made case line case.setups sound.sound first added s c.in_ok-system.ensures.added system
    c.in_ok-system.ensures.number [] f (sym (append-nil case.setups)) told))
    (rw c.as_slice.ensures at (c.connect_all.ensures.told
    (rw c.as_slice.ensures (numbered_variables names sound.ports case case.setups sound.sound))))
