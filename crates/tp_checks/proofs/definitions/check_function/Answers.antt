-- The type of a parameter is unknown, and why a function is refused.
use Rattle.std.proofs.Common.{◌∙◌, refl, sym, true≢false}
use Rattle.tp_checks.specs.{Rules.IsSoundFunction, Refused.TellsAt}
use Rattle.tp_checks.specs.BrokenDefinitions.{DefinitionBreaks, no_system, unknown_component_type}
use Rattle.tp_checks.proofs.{KnownNamesByLookup.each_known, KnownNamesByLookup.each_there, ModuleFaultPropagation.handed}
use Rattle.tp_tree.specs.declared.tree.Defined.TheVariants as defined
use Rattle.tp_checks.proofs.definitions.check_function.Goals as goal

pub returns-in_err-known-2-clause-refused : goal.returns-in_err-known-2-clause-refused
returns-in_err-known-2-clause-refused c =
    handed _ c.from_residual-in_err-known-2.result _ c.from_residual-in_err-known-2.ensures.1
    (λ (h : IsSoundFunction c.args.components.now c.args.system.now c.args.function.now).
    c.in_err-known-2.ensures.refused
    (c.are_parameters_known.ensures
    ∙ rw c.as_slice.ensures (each_there c.args.components.now (λ p. p.type_name) c.args.function.now.parameters h.0.1)))

pub returns-in_err-known-2-clause-told : goal.returns-in_err-known-2-clause-told
returns-in_err-known-2-clause-told c = λ types ports.
    handed (TellsAt c.args.line (DefinitionBreaks types ports c.args.components.now c.args.system.now
    (defined.Function c.args.function.now))) c.from_residual-in_err-known-2.result _ c.from_residual-in_err-known-2.ensures.1
    (rw c.in_err-known-2.ensures.told (
      refl,
      unknown_component_type (λ h. c.in_err-known-2.ensures.refused
          (c.are_parameters_known.ensures
          ∙ rw c.as_slice.ensures (each_there c.args.components.now (λ p. p.type_name) c.args.function.now.parameters h.1))),
    ))

pub returns-then-not-plays_system-clause-told : goal.returns-then-not-plays_system-clause-told
returns-then-not-plays_system-clause-told c = λ types ports.
    rw c.refused.ensures (
      refl,
      no_system (
        rw c.as_str.ensures at (c.has.ensures.known.0 c.in_ok-known.ensures.known),
        each_known c.args.components.now (λ p. p.type_name) c.args.function.now.parameters
            (sym (rw c.as_slice.ensures at c.are_parameters_known.ensures) ∙ c.in_ok-known-2.ensures.known),
      )
          (λ plays. true≢false (sym (c.plays_system.ensures.1 (plays (sym c.as_str-2.ensures ∙ c.is_sut.ensures.0 c.if-is_sut.true)))
          ∙ c.if-not-plays_system.true)),
    )
