-- The next argument names a component that there is, which has its parameter's type.
use Rattle.std.proofs.{Common.ap, Common.arith, Common.inr, Common.length, Common.map, lemmas.Slice.Zip.AllZip-long}
use Rattle.tp_checks.specs.Starting.{HasParameterType, IsArgument}
use Rattle.tp_checks.proofs.{ModuleRefusalPropagation.handed_on, ListPrefixGrowth.zip_more, UniqueZipsAndPlaces.zip_both}
use Rattle.tp_checks.proofs.starting.check_arguments.Goals as goal

pub loop-i-preserved : goal.loop-i-preserved
loop-i-preserved c =
    rw c.in_ok-push.ensures.items
    (record {
      known = zip_more (IsArgument c.args.variables.now) c.as_slice-arguments.result.now c.loop-i.made.items c.loop-i.i c.index-arguments-i.result
          c.in_ok-comp.comp (omega arith) c.index-arguments-i.is c.loop-i.invariant.known c.in_ok-comp.ensures.known;
      fits = zip_more (HasParameterType (map (λ t. t.now) c.args.types.now)) c.args.parameters.now c.loop-i.made.items c.loop-i.i c.index-parameters-i.result
          c.in_ok-comp.comp (omega arith) c.index-parameters-i.is c.loop-i.invariant.fits c.in_ok-comp.ensures.fits;
    })

pub returns-then-arguments-parameters-clause-refused : goal.returns-then-arguments-parameters-clause-refused
returns-then-arguments-parameters-clause-refused c = λ few. inr (λ r. c.if-arguments-parameters.true
    (omega (
      arith,
      ap length c.as_slice-arguments.ensures,
      AllZip-long (IsArgument c.args.variables.now) c.args.start.now.arguments r.0 r.1,
      AllZip-long (HasParameterType (map (λ t. t.now) c.args.types.now)) c.args.parameters.now r.0 r.2,
    )))

pub returns-in_err-comp-clause-refused : goal.returns-in_err-comp-clause-refused
returns-in_err-comp-clause-refused c = λ few.
    handed_on c.from_residual.result _ c.from_residual.ensures.1 (c.in_err-comp.ensures.refused few)
    (λ r. zip_both (IsArgument c.args.variables.now) (HasParameterType (map (λ t. t.now) c.args.types.now)) c.args.start.now.arguments
    c.args.parameters.now r.0 c.loop-i.i c.index-arguments-i.result c.index-parameters-i.result r.1 r.2
    (omega (arith, ap length c.as_slice-arguments.ensures))
    (rw (← c.as_slice-arguments.ensures) c.index-arguments-i.is) c.index-parameters-i.is)
