-- The third pass tells what setup or starts do.
use Rattle.std.proofs.Common.{map}
use Rattle.tp_checks.specs.{Refused.Tells, Broken.ThirdPassBreaks, Broken.on_setup, Broken.on_starts, BrokenSetup.CaseSetupBreaks}
use Rattle.tp_checks.specs.{BrokenStarts.StartsBreak, Sorted.component_types_in, Sorted.functions_in}
use Rattle.tp_config.specs.Shape.{ports_of}
use Rattle.tp_checks.proofs.{ModuleFaultPropagation.handed, RuleFaultPropagation.told_on}
use Rattle.tp_checks.proofs.preparing.set_up_and_start.Goals as goal

pub returns-in_err-made-clause-told : goal.returns-in_err-made-clause-told
returns-in_err-made-clause-told c = λ own known.
    let s = c.args.sorted.now in
    let case = c.args.case.case.now in
    let line = c.args.case.line in
    let made = map ports_of c.args.components.items in
    let P = ThirdPassBreaks s.component_names (component_types_in s) made (functions_in s) case line in
    handed (Tells P) c.from_residual.result _ c.from_residual.ensures.1
    (told_on (CaseSetupBreaks s.component_names (component_types_in s) made case line) P c.in_err-made.field-0.0 (λ rule at b. on_setup rule at b)
    (c.in_err-made.ensures.told own known))

pub returns-in_err-starts-clause-told : goal.returns-in_err-starts-clause-told
returns-in_err-starts-clause-told c = λ own known.
    let s = c.args.sorted.now in
    let case = c.args.case.case.now in
    let line = c.args.case.line in
    let made = map ports_of c.args.components.items in
    let P = ThirdPassBreaks s.component_names (component_types_in s) made (functions_in s) case line in
    handed (Tells P) c.from_residual-in_err-starts.result _ c.from_residual-in_err-starts.ensures.1
    (told_on (StartsBreak (functions_in s) case line) P c.in_err-starts.field-0.0
    (λ rule at b. on_starts c.in_ok-made.made.config rule at c.in_ok-made.ensures.sound c.in_ok-made.ensures.config b)
    (c.in_err-starts.ensures.told c.in_ok-made.ensures.numbered))
