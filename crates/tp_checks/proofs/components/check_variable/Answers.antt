-- Why a component variable is refused.
use Rattle.tp_checks.specs.{Components.variable_name, Tables.AreDistinct, BrokenSetup.many, BrokenSetup.other_type}
use Rattle.std.proofs.Common.{◌≡◌, ◌++◌, ◌∷◌, [], ◌∙◌, Bool, true, false, Contains, ap, arith, length, not, refl, subst, sym, true≢false}
use Rattle.std.proofs.{lemmas.List.length_push, lemmas.Slice.Eq.bytes_eq-Decides}
use Rattle.tp_checks.proofs.DistinctNamesInParts.{repeated}
use Rattle.tp_checks.proofs.components.check_variable.Goals as goal

pub returns-then-ne-clause-told : goal.returns-then-ne-clause-told
returns-then-ne-clause-told c = λ others small.
    let names = c.args.variables.now in
    let one = c.args.creation.now in
    let fresh : Contains names (variable_name one) → ⊥ =
    λ h. repeated names (variable_name one) h
    (subst AreDistinct (c.in_default.ensures.ok ∙ ap (λ n. names ++ n ∷ []) c.as_str.ensures) c.in_default.ensures.distinct) in
    let free : Contains c.args.rules.now.port_names.now (variable_name one) → ⊥ =
    λ h. true≢false (sym (c.has.ensures.known.1 (rw c.as_str-2.ensures h)) ∙ c.if-has.false) in
    let same : c.as_str-4.result.now ≡ c.as_str-5.result.now → ⊥ =
    λ e. true≢false (sym c.if-ne.true ∙ c.ne.ensures ∙ ap not ((bytes_eq-Decides c.as_str-4.result.now c.as_str-5.result.now).1 e)) in
    rw c.refused-then-ne.ensures (
      refl,
      other_type fresh free (rw c.as_str-3.ensures at (c.has-2.ensures.known.0 c.if-not-has.false))
          (λ e. same (c.as_str-4.ensures ∙ e ∙ sym c.as_str-5.ensures)),
    )

-- a test that fails, negated
negated : (b : Bool) → not b ≡ false → b ≡ true
negated true e = refl
negated false e = absurd (cc)

pub returns-then-len-rules-clause-told : goal.returns-then-len-rules-clause-told
returns-then-len-rules-clause-told c = λ others small.
    let names = c.args.variables.now in
    let one = c.args.creation.now in
    let fresh : Contains names (variable_name one) → ⊥ =
    λ h. repeated names (variable_name one) h
    (subst AreDistinct (c.in_default.ensures.ok ∙ ap (λ n. names ++ n ∷ []) c.as_str.ensures) c.in_default.ensures.distinct) in
    let free : Contains c.args.rules.now.port_names.now (variable_name one) → ⊥ =
    λ h. true≢false (sym (c.has.ensures.known.1 (rw c.as_str-2.ensures h)) ∙ c.if-has.false) in
    let same : c.as_str-4.result.now ≡ c.as_str-5.result.now =
    (bytes_eq-Decides c.as_str-4.result.now c.as_str-5.result.now).0 (negated _ (sym c.ne.ensures ∙ c.if-ne.false)) in
    rw c.refused-then-len-rules.ensures (
      refl,
      many fresh free (rw c.as_str-3.ensures at (c.has-2.ensures.known.0 c.if-not-has.false))
          (sym c.as_str-4.ensures ∙ same ∙ c.as_str-5.ensures)
          (omega (
            arith,
            c.if-len-rules.true,
            c.len.ensures,
            ap length c.in_default.ensures.ok,
            length_push names c.as_str.result.now,
          )),
    )
