-- The next definition obeys the rules, and at the end each does.
use Rattle.std.proofs.Common.{arith}
use Rattle.tp_checks.specs.{Sorted.AreSound, Sorted.IsSoundIn, Refused.Tells, BrokenDefinitions.DefinitionsBreak}
use Rattle.tp_checks.proofs.{ModuleRefusalPropagation.all_at, ListPrefixGrowth.all_more, ListPrefixGrowth.all_whole}
use Rattle.tp_checks.proofs.{DefinitionFaultsTold.definition_among, ModuleFaultPropagation.handed}
use Rattle.tp_checks.proofs.definitions.check_definitions.Goals as goal

pub loop-definition-preserved : goal.loop-definition-preserved
loop-definition-preserved c =
    all_more (IsSoundIn c.args.sorted.now c.args.system.now)
    c.args.definitions.now c.loop-definition.definition-index c.definition-item.result (omega arith) c.definition-item.is c.loop-definition.invariant
    c.in_ok-check_definition.ensures.sound

pub returns-clause-sound : goal.returns-clause-sound
returns-clause-sound c =
    all_whole (IsSoundIn c.args.sorted.now c.args.system.now)
    c.args.definitions.now c.loop-definition.definition-index (omega arith) c.loop-definition.invariant

pub returns-in_err-check_definition-clause-refused : goal.returns-in_err-check_definition-clause-refused
returns-in_err-check_definition-clause-refused c =
    handed _ c.from_residual.result _ c.from_residual.ensures.1
    (λ (h : AreSound c.args.sorted.now c.args.system.now c.args.definitions.now). c.in_err-check_definition.ensures.refused
    (all_at (IsSoundIn c.args.sorted.now c.args.system.now) c.args.definitions.now c.loop-definition.definition-index
    c.definition-item.result (omega arith) c.definition-item.is h))

pub returns-in_err-check_definition-clause-told : goal.returns-in_err-check_definition-clause-told
returns-in_err-check_definition-clause-told c =
    let s = c.args.sorted.now in
    let system = c.args.system.now in
    handed (Tells (DefinitionsBreak s.type_names s.port_names s.component_names system c.args.definitions.now)) c.from_residual.result _
    c.from_residual.ensures.1
    (definition_among s.type_names s.port_names s.component_names system c.args.definitions.now c.loop-definition.definition-index c.definition-item.result
    c.in_err-check_definition.field-0.0 (omega arith) c.definition-item.is c.loop-definition.invariant c.in_err-check_definition.ensures.told)
