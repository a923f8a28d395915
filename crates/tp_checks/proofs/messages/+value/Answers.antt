-- The next value stands for what is made of it, and at the end each field has one.
use Rattle.std.proofs.{Common.◌≡◌, Common.arith, Common.◌∙◌, Common.map, Common.Some, Common.rules, lemmas.List.length-map}
use Rattle.tp_value.specs.declared.types.TypeDef.TheVariants as def
use Rattle.tp_checks.specs.declared.fault.ModuleRule.TheVariants as rule
use Rattle.tp_checks.specs.{Messages.no_name, Messages.one_name_more, Messages.AreNamed, BrokenValues.IsValueOf, Scoping.stands_here}
use Rattle.tp_checks.specs.BrokenValues as b
use Rattle.tp_checks.proofs.EntriesInDeclaredOrder.{place_below, placed, placed_entries, entered_more, in_order}
use Rattle.tp_checks.proofs.{RuleFaultPropagation.tells_at, RuleFaultPropagation.told_rule, BrokenValueRules.record_behind}
use Rattle.tp_checks.proofs.messages.+value.Goals.{resolve_value-in_default-via-in-Some+in_default, resolve_value-in_default-via-in_default}
use Rattle.tp_checks.proofs.messages.+value.Goals as goal

pub resolve_named-index_mut-requires : goal.resolve_named-index_mut-requires
resolve_named-index_mut-requires t c = omega (arith, c.in-Some.ensures.lookup.3.0, c.loop-index.invariant.as_many, c.loop-index.made.ok.0)

pub resolve_named-loop-index-init : goal.resolve_named-loop-index-init
resolve_named-loop-index-init t c = record {
  as_many = search rules;
  filled = λ i k below there. absurd (omega (arith, below));
  fit = λ k d below. absurd (omega (arith, below));
}

pub resolve_named-loop-index-preserved : goal.resolve_named-loop-index-preserved
resolve_named-loop-index-preserved t c =
    entered_more (λ x. x.name) (stands_here IsValueOf c.args.context.now) c.args.entries.now c.args.fields.now c.loop-index.index c.loop-index.made.items
    c.index-place.result.now c.in_ok-one.one c.in-Some.field.now c.index-entries-index.result
    (placed (λ x. x.name) (stands_here IsValueOf c.args.context.now) c.args.entries.now c.args.fields.now c.in_ok-places.ensures.placed c.loop-index.index
    c.index-place.result.now c.in-Some.field.now c.index-entries-index.result (omega arith) c.index-place.ensures c.in-Some.ensures.lookup.3.0
    c.in-Some.ensures.lookup.1 c.index-entries-index.is)
    c.in_ok-one.ensures.stands c.loop-index.invariant

pub resolve_named-returns-clause-named : goal.resolve_named-returns-clause-named
resolve_named-returns-clause-named t c =
    let made = stands_here AreNamed c.args.context.now c.args.entries.now in
    rw c.from_vec.ensures (in_order (λ x. x.name) (stands_here IsValueOf c.args.context.now) c.args.entries.now c.args.fields.now made
    (no_name c.args.entries.now) (λ fs ws f j x y. one_name_more c.args.entries.now fs ws f j x y) c.loop-index.index c.loop-index.made.items
    c.in_ok-places.ensures.placed (omega arith) c.loop-index.invariant)

pub resolve_named-returns-in_default-clause-told : goal.resolve_named-returns-in_default-clause-told
resolve_named-returns-in_default-clause-told t c =
    let below = place_below c.args.fields.now (map (λ x. x.name) c.args.entries.now) c.in_ok-places.places.items c.in_ok-places.ensures.placed
    c.loop-index.index c.index-place.result.now (omega (arith, length-map c.args.entries.now (λ x. x.name))) c.index-place.ensures in
    absurd (omega (arith, c.in_default.ensures.lookup.3, below))

pub resolve_named-returns-in_err-one-clause-told : goal.resolve_named-returns-in_err-one-clause-told
resolve_named-returns-in_err-one-clause-told t c = λ sound apart.
    let at =
    placed (λ x. x.name) (stands_here IsValueOf c.args.context.now) c.args.entries.now c.args.fields.now c.in_ok-places.ensures.placed c.loop-index.index
    c.index-place.result.now c.in-Some.field.now c.index-entries-index.result (omega arith) c.index-place.ensures c.in-Some.ensures.lookup.3.0
    c.in-Some.ensures.lookup.1 c.index-entries-index.is in
    tells_at _ _ _ c.from_residual-in_err-one.result c.in_err-one.field-0.0 c.from_residual-in_err-one.ensures.1
    (λ r broken. b.entry c.args.fields.now c.args.entries.now c.loop-index.index c.index-place.result.now c.in-Some.field.now c.index-entries-index.result r
    (placed_entries c.args.fields.now (map (λ x. x.name) c.args.entries.now) c.in_ok-places.places.items c.in_ok-places.ensures.placed)
    c.loop-index.invariant.fit at.is_entry at.is_field at.same broken)
    (c.in_err-one.ensures.told sound)

pub resolve_value-returns-in_default-clause-told : goal.resolve_value-returns-in_default-clause-told
resolve_value-returns-in_default-clause-told t c = λ sound.
    told_rule _ rule.WrongType _ _ (cc) (rw c.in-Record.is (b.no_record c.args.ty c.in-Record.entries (λ fs is.
    let p = record_behind c.definition.result fs (c.definition.ensures ∙ is) in
    let found : c.definition.result ≡ Some p.0 = p.1 in
    let held : p.0.now ≡ def.Record fs = p.2 in
    elim c.in_default.branch [
      | resolve_value-in_default-via-in-Some+in_default w ↦ absurd (cc)
      | resolve_value-in_default-via-in_default w ↦ absurd (cc)
    ])))
