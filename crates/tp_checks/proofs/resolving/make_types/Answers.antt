-- The next type goes after the others, under its own name.
use Rattle.std.proofs.Common.{arith, map}
use Rattle.tp_checks.specs.{Resolved.IsNamedType, Definitions.type_of, Rules.AreSoundTypes, Rules.AreTypesKnown}
use Rattle.std.specs.Prelude.{IsSome}
use Rattle.tp_checks.proofs.{DistinctNamesInParts.type_numbered, ModuleRefusalPropagation.all_at_map, ModuleRefusalPropagation.handed_on}
use Rattle.tp_checks.proofs.ListPrefixGrowth.{zip_map_more}
use Rattle.tp_checks.proofs.resolving.make_types.Goals as goal

pub loop-defined-preserved : goal.loop-defined-preserved
loop-defined-preserved c =
    rw c.in_ok-add_type.ensures.added.2
    (zip_map_more (IsNamedType c.args.names.now) (λ x. x.now) c.args.definitions.now c.loop-defined.types c.loop-defined.defined-index c.defined-item.result
    c.in_ok-add_type.ensures.added.0 (omega arith) c.defined-item.is c.loop-defined.invariant c.in_ok-add_type.ensures.added.1)

pub returns-in_err-add_type-clause-refused : goal.returns-in_err-add_type-clause-refused
returns-in_err-add_type-clause-refused c =
    let i = c.loop-defined.defined-index in
    let x = c.defined-item.result in
    handed_on c.from_residual.result _ c.from_residual.ensures.1 c.in_err-add_type.ensures.refused
    (λ (h : AreSoundTypes c.args.names.now (map (λ x. x.now) c.args.definitions.now)). (
      all_at_map (λ y. IsSome (type_of y)) (λ x. x.now) c.args.definitions.now i x (omega arith) c.defined-item.is h.kinds,
      all_at_map (AreTypesKnown c.args.names.now) (λ x. x.now) c.args.definitions.now i x (omega arith) c.defined-item.is h.known,
      type_numbered c.args.names.now (λ x. x.now) c.args.definitions.now c.loop-defined.types i x (omega arith) c.defined-item.is c.loop-defined.invariant h.names,
    ))
