-- An entry that sets a verdict joins it, a failure makes it `error`, and another one leaves it.
use Rattle.std.proofs.Common.{◌∙◌, sym, ap, ◌∷◌, [], ◌++◌}
use Rattle.tp_value.specs.Verdicts.{worse}
use Rattle.tp_inbox.specs.declared.entry.Entry.{Entry}
use Rattle.tp_report.specs.Verdicts.{local_verdict}
use Rattle.tp_report.proofs.WorstVerdictGrowth.{after_set, after_failure, after_other}
use Rattle.tp_report.proofs.verdicts.verdict_after.Goals as goal

pub returns-in-Verdict : goal.returns-in-Verdict
returns-in-Verdict c before is =
    c.join.ensures ∙ ap (λ v. worse v c.in-Verdict.set) is ∙ sym (after_set before c.in-Verdict.set) ∙ ap (λ (e : Entry). local_verdict (before ++ e ∷ []))
    (sym c.in-Verdict.is)

pub returns-in-Failed : goal.returns-in-Failed
returns-in-Failed c before is = after_failure before c.in-Failed.field-0 ∙ ap (λ (e : Entry). local_verdict (before ++ e ∷ [])) (sym c.in-Failed.is)

pub returns-in_default : goal.returns-in_default
returns-in_default c before is = is ∙ after_other before c.args.entry.now c.in_default.not-Verdict c.in_default.not-Failed
