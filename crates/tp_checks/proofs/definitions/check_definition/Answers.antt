-- A component type and a function that were looked at obey the rules on definitions.
use Rattle.std.proofs.{Common.◌≡◌, Common.◌∙◌, Common.true, Common.subst, Common.sym, lemmas.Result.IfErr-weaker}
use Rattle.tp_checks.specs.{Sorted.IsSoundIn, Refused.TellsAt, BrokenDefinitions.DefinitionBreaks}
use Rattle.tp_checks.proofs.SoundDefinitionRules.{sound_component, sound_function, unsound_component, unsound_port}
use Rattle.tp_checks.proofs.ModuleFaultPropagation.{handed}
use Rattle.tp_tree.specs.declared.tree.Defined.{Defined}
use Rattle.tp_checks.proofs.definitions.check_definition.Goals as goal

pub returns-in_ok-check_component-in-Component-clause-sound : goal.returns-in_ok-check_component-in-Component-clause-sound
returns-in_ok-check_component-in-Component-clause-sound c =
    sound_component c.args.sorted.now.type_names c.args.sorted.now.port_names c.args.sorted.now.component_names c.args.system.now
    c.args.definition.now.defined
    c.in-Component.component c.in-Component.is c.in_ok-check_component-in-Component.ensures.known c.in_ok-check_component-in-Component.ensures.few

pub returns-in_ok-check_function-in-Function-clause-sound : goal.returns-in_ok-check_function-in-Function-clause-sound
returns-in_ok-check_function-in-Function-clause-sound c =
    sound_function c.args.sorted.now.type_names c.args.sorted.now.port_names c.args.sorted.now.component_names c.args.system.now
    c.args.definition.now.defined
    c.in-Function.function c.in-Function.is c.in_ok-check_function-in-Function.ensures.runs_on c.in_ok-check_function-in-Function.ensures.parameters
    c.in_ok-check_function-in-Function.ensures.sut

pub returns-in_err-check_component-in-Component-clause-refused : goal.returns-in_err-check_component-in-Component-clause-refused
returns-in_err-check_component-in-Component-clause-refused c =
    handed _ c.from_residual.result _ c.from_residual.ensures.1
    (unsound_component c.args.sorted.now.type_names c.args.sorted.now.port_names c.args.sorted.now.component_names
    c.args.system.now c.args.definition.now.defined
    c.in-Component.component c.args.definition.now.line _ c.in-Component.is c.in_err-check_component-in-Component.ensures.refused)

pub returns-in-Port-clause-refused : goal.returns-in-Port-clause-refused
returns-in-Port-clause-refused c =
    IfErr-weaker c.known-in-Port.result (λ _. ¬ (c.are_messages_known.result ≡ true))
    (λ _. ¬ IsSoundIn c.args.sorted.now c.args.system.now c.args.definition.now)
    (λ y isnt. unsound_port c.args.sorted.now.type_names c.args.sorted.now.port_names c.args.sorted.now.component_names
    c.args.system.now c.args.definition.now.defined c.in-Port.port c.in-Port.is
    (λ e. isnt (c.are_messages_known.ensures ∙ rw c.as_slice-in-Port.ensures e)))
    c.known-in-Port.ensures.refused

pub returns-in_err-check_function-in-Function-clause-told : goal.returns-in_err-check_function-in-Function-clause-told
returns-in_err-check_function-in-Function-clause-told c =
    let s = c.args.sorted.now in
    let x = c.args.definition.now in
    let system = c.args.system.now in
    handed (TellsAt x.line (DefinitionBreaks s.type_names s.port_names s.component_names system x.defined))
    c.from_residual-in_err-check_function-in-Function.result _ c.from_residual-in_err-check_function-in-Function.ensures.1
    (subst (λ (y : Defined). TellsAt x.line (DefinitionBreaks s.type_names s.port_names s.component_names system y)
    c.in_err-check_function-in-Function.field-0.0) (sym c.in-Function.is)
    (c.in_err-check_function-in-Function.ensures.told s.type_names s.port_names))
