-- A name that is not there goes after the others, which stay different and few.
use Rattle.std.proofs.Common.{◌++◌, ◌∷◌, [], ◌∙◌, ◌≡◌, ◌<◌, ◌^◌, Contains, ap, map, subst, sym, true≢false, length, arith}
use Rattle.std.proofs.lemmas.List.{length_push, length-map}
use Rattle.tp_checks.specs.Tables.{AreDistinct, IsNumbered}
use Rattle.tp_checks.proofs.NameSetLookups.{key_added, distinct_more}
use Rattle.tp_checks.proofs.name_set.NameSet.add.Goals as goal

pub returns-clause-ok : goal.returns-clause-ok
returns-clause-ok c =
    let new : Contains (map (λ n. n.now) c.self.inside.names.keys) c.args.name.now → ⊥ = λ h.
    true≢false (sym (c.find.ensures.known.1 (subst (λ l. Contains l c.args.name.now) c.self.view_is h)) ∙ sym c.is_some.ensures ∙ c.if-is_some.false) in
    ap (map (λ n. n.now)) c.in-Ok.ensures.keys
    ∙ key_added (λ n. n.now) c.self.inside.names.keys c.args.name new
    ∙ ap (λ l. l ++ c.args.name.now ∷ []) c.self.view_is

pub invariant_of-self-2 : goal.invariant_of-self-2
invariant_of-self-2 c =
    let new : Contains c.args.self.now c.args.name.now → ⊥ = λ h. true≢false (sym (c.find.ensures.known.1 h) ∙ sym c.is_some.ensures ∙ c.if-is_some.false) in
    let shown : length c.args.self.now ≡ length c.self.inside.names.keys = ap length (sym c.self.view_is) ∙ length-map c.self.inside.names.keys (λ n. n.now) in
    let few : length (c.args.self.now ++ c.args.name.now ∷ []) < 2 ^ 32 =
    omega (arith, length_push c.args.self.now c.args.name.now, shown, c.len.ensures.len, c.if-len.false) in
    subst IsNumbered (sym (returns-clause-ok c)) (record { few = few; distinct = distinct_more c.args.self.now c.args.name.now c.find.ensures.distinct new })

pub returns-clause-distinct : goal.returns-clause-distinct
returns-clause-distinct c =
    subst AreDistinct (sym (returns-clause-ok c)) (distinct_more c.args.self.now c.args.name.now c.find.ensures.distinct
    (λ h. true≢false (sym (c.find.ensures.known.1 h) ∙ sym c.is_some.ensures ∙ c.if-is_some.false)))

pub returns-clause-numbered : goal.returns-clause-numbered
returns-clause-numbered c = invariant_of-self-2 c
