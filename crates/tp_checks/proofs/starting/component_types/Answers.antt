-- A statement that makes no component adds no type, and the next `var` adds its own.
use Rattle.std.proofs.Common.{◌++◌, ◌∷◌, [], ◌∙◌, ap, arith, map, sym, take}
use Rattle.std.proofs.lemmas.List.{map_push}
use Rattle.tp_tree.specs.declared.tree.Creation.{Creation}
use Rattle.tp_checks.specs.Components.{creations}
use Rattle.tp_checks.proofs.CreatedComponentGrowth.{no_creation, one_creation}
use Rattle.tp_checks.proofs.starting.component_types.Goals as goal

pub loop-setup-preserved-in_default : goal.loop-setup-preserved-in_default
loop-setup-preserved-in_default c =
    c.loop-setup.invariant
    ∙ ap (λ l. c.args.case.now.runs_on ∷ map (λ (c : Creation). c.type_name) l)
    (sym (no_creation c.as_slice-setup-items.result.now c.loop-setup.setup-index c.setup-item.result (omega arith) c.setup-item.is c.in_default.ensures))

pub loop-setup-preserved : goal.loop-setup-preserved
loop-setup-preserved c =
    let before = creations (take c.loop-setup.setup-index c.as_slice-setup-items.result.now) in
    let one = c.in-Some.creation.now in
    ap (map (λ t. t.now)) c.in_ok-push-2.ensures.items ∙ map_push (λ t. t.now) c.loop-setup.types.items c.as_str-in-loop-setup.result
    ∙ ap (λ l. l ++ c.as_str-in-loop-setup.result.now ∷ []) c.loop-setup.invariant
    ∙ ap (λ n. (c.args.case.now.runs_on ∷ map (λ (c : Creation). c.type_name) before) ++ n ∷ []) c.as_str-in-loop-setup.ensures
    ∙ ap (λ l. c.args.case.now.runs_on ∷ l) (sym (map_push (λ (c : Creation). c.type_name) before one))
    ∙ ap (λ l. c.args.case.now.runs_on ∷ map (λ (c : Creation). c.type_name) l)
    (sym (one_creation c.as_slice-setup-items.result.now c.loop-setup.setup-index c.setup-item.result (omega arith) c.setup-item.is one c.in-Some.ensures))
