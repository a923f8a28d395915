-- What is made of definitions that obey the rules is refused only because memory ran out.
use Rattle.tp_checks.specs.{Rules.HasUniqueNames, Sorted.HasSoundDefinitions, Sorted.IsSortedSound, Refused.Tells}
use Rattle.tp_checks.specs.BrokenDefinitions.{DefinitionsOfBreak}
use Rattle.tp_checks.proofs.{SoundSortedDefinitions.sorted_sound, ModuleRefusalPropagation.handed_on}
use Rattle.tp_checks.proofs.ModuleFaultPropagation.{handed, memory_left, tells_memory}
use Rattle.tp_checks.proofs.definitions.define.Goals as goal

pub returns-in_err-types-clause-refused : goal.returns-in_err-types-clause-refused
returns-in_err-types-clause-refused c =
    handed_on c.from_residual-in_err-types.result _ c.from_residual-in_err-types.ensures.1 c.in_err-types.ensures.refused
    (λ (h : HasUniqueNames c.args.parsed.now × HasSoundDefinitions c.args.parsed.now c.args.case.case.now).
    sorted_sound c.args.parsed.now c.in_ok-sorted.sorted c.args.case.case.now c.in_ok-sorted.ensures.sorted h.0 h.1)

pub returns-in_err-types-clause-told : goal.returns-in_err-types-clause-told
returns-in_err-types-clause-told c = λ unique.
    let m = c.args.parsed.now in
    let case = c.args.case.case.now in
    let fault = c.in_err-types.field-0.0 in
    handed (Tells (DefinitionsOfBreak m case)) c.from_residual-in_err-types.result _ c.from_residual-in_err-types.ensures.1
    (tells_memory (DefinitionsOfBreak m case) fault
    (memory_left (IsSortedSound c.in_ok-sorted.sorted) fault c.in_err-types.ensures.refused
    (sorted_sound m c.in_ok-sorted.sorted case c.in_ok-sorted.ensures.sorted unique c.in_ok-sorted.ensures.sound)))
