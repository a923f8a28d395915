-- The names that were sorted out are the module's, so its definitions obey the rules.
use Rattle.std.proofs.Common.{inr, subst, sym}
use Rattle.tp_checks.specs.{Definitions.type_names, Definitions.port_type_names, Definitions.component_type_names, Rules.HasUniqueNames}
use Rattle.tp_checks.specs.{Sorted.AreSound, Sorted.HasSoundDefinitions, Refused.Tells}
use Rattle.tp_checks.specs.BrokenDefinitions.{DefinitionsBreak, DefinitionsOfBreak}
use Rattle.tp_checks.proofs.{ModuleRefusalPropagation.handed_on, SoundDefinitionRules.sound_all, DefinitionFaultsTold.told_all}
use Rattle.tp_checks.proofs.ModuleFaultPropagation.{handed, memory_left, tells_memory}
use Rattle.tp_checks.proofs.definitions.sort_sound.Goals as goal

pub returns-clause-sound : goal.returns-clause-sound
returns-clause-sound c =
    let s = c.in_ok-sorted.sorted in
    let m = c.args.parsed.now in
    sound_all s.type_names (type_names m) s.port_names (port_type_names m) s.component_names (component_type_names m)
    c.args.case.now.system m.definitions
    c.in_ok-sorted.ensures.sorted.types.names_are c.in_ok-sorted.ensures.sorted.ports.names_are c.in_ok-sorted.ensures.sorted.components.names_are
    (subst (AreSound s c.args.case.now.system) c.as_slice.ensures c.in_ok-check_definitions.ensures.sound)

pub returns-in_err-sorted-clause-refused : goal.returns-in_err-sorted-clause-refused
returns-in_err-sorted-clause-refused c =
    handed_on c.from_residual.result _ c.from_residual.ensures.1 c.in_err-sorted.ensures.refused
    (λ (h : HasUniqueNames c.args.parsed.now × HasSoundDefinitions c.args.parsed.now c.args.case.now). h.0)

pub returns-in_err-check_definitions-clause-refused : goal.returns-in_err-check_definitions-clause-refused
returns-in_err-check_definitions-clause-refused c =
    let s = c.in_ok-sorted.sorted in
    let m = c.args.parsed.now in
    handed _ c.from_residual-in_err-check_definitions.result _ c.from_residual-in_err-check_definitions.ensures.1
    (inr (λ (h : HasUniqueNames m × HasSoundDefinitions m c.args.case.now). c.in_err-check_definitions.ensures.refused
    (subst (AreSound s c.args.case.now.system) (sym c.as_slice.ensures)
    (sound_all (type_names m) s.type_names (port_type_names m) s.port_names (component_type_names m) s.component_names
    c.args.case.now.system m.definitions (sym c.in_ok-sorted.ensures.sorted.types.names_are)
    (sym c.in_ok-sorted.ensures.sorted.ports.names_are) (sym c.in_ok-sorted.ensures.sorted.components.names_are) h.1))))

pub returns-in_err-sorted-clause-told : goal.returns-in_err-sorted-clause-told
returns-in_err-sorted-clause-told c = λ unique.
    handed (Tells (DefinitionsOfBreak c.args.parsed.now c.args.case.now)) c.from_residual.result _ c.from_residual.ensures.1
    (tells_memory (DefinitionsOfBreak c.args.parsed.now c.args.case.now) c.in_err-sorted.field-0.0
    (memory_left (HasUniqueNames c.args.parsed.now) c.in_err-sorted.field-0.0 c.in_err-sorted.ensures.refused unique))

pub returns-in_err-check_definitions-clause-told : goal.returns-in_err-check_definitions-clause-told
returns-in_err-check_definitions-clause-told c = λ unique.
    let s = c.in_ok-sorted.sorted in
    let m = c.args.parsed.now in
    let system = c.args.case.now.system in
    let fault = c.in_err-check_definitions.field-0.0 in
    handed (Tells (DefinitionsOfBreak m c.args.case.now)) c.from_residual-in_err-check_definitions.result _
    c.from_residual-in_err-check_definitions.ensures.1
    (told_all s.type_names (type_names m) s.port_names (port_type_names m) s.component_names (component_type_names m) system m.definitions fault
    c.in_ok-sorted.ensures.sorted.types.names_are c.in_ok-sorted.ensures.sorted.ports.names_are c.in_ok-sorted.ensures.sorted.components.names_are
    (subst (λ l. Tells (DefinitionsBreak s.type_names s.port_names s.component_names system l) fault) c.as_slice.ensures
    c.in_err-check_definitions.ensures.told))
