-- There are as many starts as components, so where there are any they are waited for.
use Rattle.std.proofs.{Common.◌≡◌, Common.◌<◌, Common.◌∙◌, Common.arith, Common.length, Common.subst, Common.sym, lemmas.List.length-map}
use Rattle.std.proofs.lemmas.Slice.Zip.{AllZip-long}
use Rattle.std.specs.List.{AllZip}
use Rattle.tp_checks.specs.{Components.creations, Components.variable_name, Components.variables, Starting.IsStartPlace, Refused.Tells}
use Rattle.tp_checks.specs.BrokenStarts.{AfterStartsBreaks, no_done}
use Rattle.tp_checks.proofs.{StartFaultsTold.all_started, StartFaultsTold.some_creations, ModuleFaultPropagation.handed}
use Rattle.tp_checks.proofs.starting.place_starts.Goals as goal

pub returns-clause-places : goal.returns-clause-places
returns-clause-places c = rw (← c.as_slice.ensures) c.in_ok-places.ensures.places

pub returns-clause-done : goal.returns-clause-done
returns-clause-done c =
    let case = c.args.case.case.now in
    let all : AllZip (IsStartPlace c.args.started.now) (variables case.setups) c.in_ok-places.places.items =
    rw (← c.as_slice.ensures) c.in_ok-places.ensures.places in
    let count : length c.in_ok-places.places.items ≡ length (creations case.setups) =
    AllZip-long (IsStartPlace c.args.started.now) (variables case.setups) c.in_ok-places.places.items all
    ∙ length-map (creations case.setups) variable_name in
    λ some. c.in_ok-check_done.ensures.done (subst (λ l. 0 < length l) (sym c.deref.ensures.value) (omega (arith, some, count)))

pub returns-in_err-check_done-clause-told : goal.returns-in_err-check_done-clause-told
returns-in_err-check_done-clause-told c =
    let case = c.args.case.case.now in
    let started = c.args.started.now in
    let places = c.in_ok-places.places.items in
    let all : AllZip (IsStartPlace started) (variables case.setups) places = rw (← c.as_slice.ensures) c.in_ok-places.ensures.places in
    let told = c.in_err-check_done.ensures.told in
    handed (Tells (AfterStartsBreaks started case c.args.case.line)) c.from_residual-in_err-check_done.result _
    c.from_residual-in_err-check_done.ensures.1
    (rw told.0 (no_done (all_started started (variables case.setups) places all)
    (some_creations started case.setups places all (rw c.deref.ensures.value at told.1)) told.2))
