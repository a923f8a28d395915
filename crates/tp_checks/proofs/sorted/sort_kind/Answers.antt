-- A definition of another kind changes nothing, and one of the kind goes after the others.
use Rattle.std.proofs.Common.{◌+◌, ◌++◌, ◌∷◌, [], ◌∙◌, ap, arith, map, refl, subst, sym}
use Rattle.std.proofs.lemmas.List.{map_push}
use Rattle.tp_checks.specs.Tables.{IsNumbered}
use Rattle.tp_checks.proofs.{DistinctNamesInParts.numbered_kind_first, ModuleRefusalPropagation.name_refused}
use Rattle.tp_checks.proofs.SortedDefinitionGrowth.{same_kind, more_kind}
use Rattle.tp_checks.proofs.sorted.sort_kind.Goals as goal

pub loop-definition-preserved-in_default : goal.loop-definition-preserved-in_default
loop-definition-preserved-in_default g c =
    same_kind g.K.DefinitionKind.as_kind g.K.DefinitionKind.name c.args.definitions.now c.loop-definition.definition-index
    c.definition-item.result (omega arith)
    c.definition-item.is
    c.loop-definition.names (map (λ x. x.now) c.loop-definition.sorted.items) c.loop-definition.invariant c.in_default.ensures

pub loop-definition-preserved : goal.loop-definition-preserved
loop-definition-preserved g c =
    more_kind g.K.DefinitionKind.as_kind g.K.DefinitionKind.name c.args.definitions.now c.loop-definition.definition-index
    c.definition-item.result (omega arith)
    c.definition-item.is
    c.loop-definition.names c.add.new.self (map (λ x. x.now) c.loop-definition.sorted.items) (map (λ x. x.now) c.push.new.self.items)
    c.in-Some.one.now c.loop-definition.invariant c.in-Some.ensures
    (c.in_default-add.ensures.ok ∙ ap (λ l. c.loop-definition.names ++ l ∷ []) c.name.ensures)
    (ap (map (λ x. x.now)) c.in_ok-push.ensures.items ∙ map_push (λ x. x.now) c.loop-definition.sorted.items c.in-Some.one)

pub returns-in-Err-clause-refused : goal.returns-in-Err-clause-refused
returns-in-Err-clause-refused g c =
    let kind = g.K.DefinitionKind.as_kind in
    let name = g.K.DefinitionKind.name in
    let items = c.args.definitions.now in
    let i = c.loop-definition.definition-index in
    let more =
    more_kind kind name items i c.definition-item.result (omega arith) c.definition-item.is c.loop-definition.names
    (c.loop-definition.names ++ name c.in-Some.one.now ∷ []) (map (λ x. x.now) c.loop-definition.sorted.items)
    (map (λ x. x.now) c.loop-definition.sorted.items ++ c.in-Some.one.now ∷ []) c.in-Some.one.now c.loop-definition.invariant c.in-Some.ensures refl refl in
    name_refused _ _ c.in-Err.fault c.at.result c.at.ensures.memory c.in-Err.ensures.refused
    (λ h. rw c.name.ensures (subst IsNumbered (sym more.names_are) (numbered_kind_first kind name items (i + 1) h)))
