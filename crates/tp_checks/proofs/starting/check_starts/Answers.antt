-- Each component is started once, and `all component.done` is there where there are any.
use Rattle.std.proofs.Common.{subst}
use Rattle.tp_checks.specs.{Tables.IsNumbered, Refused.Tells, Components.variables, Sorted.functions_in}
use Rattle.tp_checks.specs.BrokenStarts.{AfterStartsBreaks, AreStarted, StartBreaksAmong, StartsBreak, a_start, after_starts}
use Rattle.tp_checks.specs.Starting.{started_names, type_names_of}
use Rattle.tp_checks.proofs.{ModuleFaultPropagation.handed, RuleFaultPropagation.told_on}
use Rattle.tp_checks.proofs.starting.check_starts.Goals as goal

pub returns-clause-starts : goal.returns-clause-starts
returns-clause-starts c = record {
  starts = rw (← c.requires.variables) c.in_ok-started.ensures.started;
  once = subst IsNumbered c.in_ok-started.ensures.names c.in_ok-started.ensures.numbered;
  all = rw (← c.in_ok-started.ensures.names) c.in_ok-places.ensures.places;
  done = c.in_ok-places.ensures.done;
}

pub returns-in_err-started-clause-told : goal.returns-in_err-started-clause-told
returns-in_err-started-clause-told c = λ few.
    let functions = functions_in c.args.sorted.now in
    let case = c.args.case.case.now in
    let fault = c.in_err-started.field-0.0 in
    let P = StartsBreak functions case c.args.case.line in
    handed (Tells P) c.from_residual.result _ c.from_residual.ensures.1
    (told_on (StartBreaksAmong functions (variables case.setups) (type_names_of case) case.starts) P fault
    (λ rule line b. a_start rule line b)
    (subst (λ n. Tells (StartBreaksAmong functions n (type_names_of case) case.starts) fault) c.requires.variables
    (c.in_err-started.ensures.told few)))

pub returns-in_err-places-clause-told : goal.returns-in_err-places-clause-told
returns-in_err-places-clause-told c = λ few.
    let functions = functions_in c.args.sorted.now in
    let case = c.args.case.case.now in
    let fault = c.in_err-places.field-0.0 in
    let P = StartsBreak functions case c.args.case.line in
    let named = c.in_ok-started.ensures.names in
    let obey : AreStarted functions (variables case.setups) (type_names_of case) case.starts = record {
      made = c.in_ok-started.starts.items;
      each = rw (← c.requires.variables) c.in_ok-started.ensures.started;
      once = subst IsNumbered named c.in_ok-started.ensures.numbered;
    } in
    handed (Tells P) c.from_residual-in_err-places.result _ c.from_residual-in_err-places.ensures.1
    (told_on (AfterStartsBreaks (started_names case.starts) case c.args.case.line) P fault (λ rule line b. after_starts rule line obey b)
    (subst (λ n. Tells (AfterStartsBreaks n case c.args.case.line) fault) named c.in_err-places.ensures.told))
