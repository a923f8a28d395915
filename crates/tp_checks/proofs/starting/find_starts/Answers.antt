-- A statement that makes no component needs no start, and the next `var` has one.
use Rattle.std.proofs.Common.{inr, ◌++◌, ◌∷◌, [], arith, map, subst, sym, take}
use Rattle.std.proofs.lemmas.List.{map_push}
use Rattle.std.specs.List.{AllZip}
use Rattle.tp_checks.specs.{Components.creations, Components.variable_name, Starting.IsStartPlace}
use Rattle.tp_checks.proofs.{CreatedComponentGrowth.no_creation, CreatedComponentGrowth.one_creation, ListPrefixGrowth.zip_push}
use Rattle.tp_checks.proofs.StartLookups.{not_started}
use Rattle.tp_checks.proofs.starting.find_starts.Goals as goal

pub loop-setup-preserved-in_default : goal.loop-setup-preserved-in_default
loop-setup-preserved-in_default c =
    rw (no_creation c.args.setups.now c.loop-setup.setup-index c.setup-item.result (omega arith) c.setup-item.is c.in_default.ensures) c.loop-setup.invariant

pub loop-setup-preserved : goal.loop-setup-preserved
loop-setup-preserved c =
    let before = creations (take c.loop-setup.setup-index c.args.setups.now) in
    let one = c.in-Some.creation.now in
    let R = IsStartPlace c.args.started.now in
    rw (
      one_creation c.args.setups.now c.loop-setup.setup-index c.setup-item.result (omega arith) c.setup-item.is one c.in-Some.ensures,
      c.in_ok-push.ensures.items,
    )
    (subst (λ l. AllZip R l (c.loop-setup.places.items ++ c.in-Some-find.place ∷ [])) (sym (map_push variable_name before one))
    (zip_push R (map variable_name before) c.loop-setup.places.items (variable_name one) c.in-Some-find.place c.loop-setup.invariant
    (rw c.as_str.ensures at (sym c.in-Some-find.ensures.place))))

pub returns-in_default-find-clause-refused : goal.returns-in_default-find-clause-refused
returns-in_default-find-clause-refused c =
    inr (not_started c.args.setups.now c.loop-setup.setup-index c.setup-item.result (omega arith) c.setup-item.is c.in-Some.creation.now c.in-Some.ensures
    c.args.started.now (rw c.as_str.ensures at c.in_default-find.ensures.place))
