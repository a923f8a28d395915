-- Before the first name nothing is added, and the next adds the type that it names.
use Rattle.std.proofs.Common.{◌++◌, ◌∷◌, [], arith, append-nil, subst, sym, take}
use Rattle.std.specs.List.{AllZip}
use Rattle.std.proofs.lemmas.List.{take_all}
use Rattle.tp_checks.specs.Resolved.{IsTypeNamed}
use Rattle.tp_checks.proofs.ListPrefixGrowth.{behind_more, zip_push}
use Rattle.tp_checks.proofs.ports.add_types.Goals as goal

pub loop-name-init : goal.loop-name-init
loop-name-init c = λ before h. subst (λ l. AllZip (IsTypeNamed c.args.types.now) l c.args.made.now) (sym (append-nil before)) h

pub loop-name-preserved : goal.loop-name-preserved
loop-name-preserved c = λ before h.
    rw c.in_ok-push.ensures.ok
    (subst (λ l. AllZip (IsTypeNamed c.args.types.now) l (c.loop-name.made ++ c.in-Some.ty ∷ []))
    (behind_more before c.args.names.now c.loop-name.name-index c.name-item.result (omega arith) c.name-item.is)
    (zip_push (IsTypeNamed c.args.types.now) (before ++ take c.loop-name.name-index c.args.names.now) c.loop-name.made c.name-item.result c.in-Some.ty
    (c.loop-name.invariant before h) (sym c.in-Some.ensures)))

pub returns-clause-added : goal.returns-clause-added
returns-clause-added c =
    λ before h. subst (λ l. AllZip (IsTypeNamed c.args.types.now) (before ++ l) c.loop-name.made) (take_all c.loop-name.name-index c.args.names.now (omega arith))
    (c.loop-name.invariant before h)
