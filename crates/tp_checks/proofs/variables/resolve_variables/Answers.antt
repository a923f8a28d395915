-- The next variable holds what its type says, and its name is new.
use Rattle.std.proofs.Common.{refl, sym, ◌∙◌, true≢false, arith, subst, take, ◌<◌, ap, length}
use Rattle.std.proofs.{lemmas.List.length_push, lemmas.Option.slice_get_read}
use Rattle.tp_checks.specs.declared.fault.ModuleRule.TheVariants as rule
use Rattle.tp_checks.specs.{Bodies.AreVariables, Bodies.no_variable, Bodies.one_variable_more, Scoping.visible_in}
use Rattle.tp_checks.specs.BrokenBodies.{VariablesBreak, in_variable, no_type, not_new, too_many}
use Rattle.tp_checks.proofs.{ListPrefixGrowth.pushed, NameLookupsAreUnique.absent_contained}
use Rattle.tp_checks.proofs.RuleFaultPropagation.{tells_from, told_here}
use Rattle.tp_checks.proofs.variables.resolve_variables.Goals as goal

pub loop-variable-init : goal.loop-variable-init
loop-variable-init c = record { declared = no_variable _ c.new.ensures.empty c.new-2.ensures; numbered = c.new.ensures.numbered }

pub loop-variable-preserved : goal.loop-variable-preserved
loop-variable-preserved c =
    let x = c.variable-item.result in
    let new = rw c.as_str-name.ensures at c.is_new.ensures.0 c.if-not-is_new.false in
    let names = rw c.as_str-name.ensures at c.in_ok-add_variable.ensures.names in
    let few : length c.loop-variable.variables.names < 4294967295 =
    omega (arith, c.add_variable.ensures.numbered.few, ap length names, length_push c.loop-variable.variables.names x.name) in
    record {
      declared = subst (λ l. AreVariables (visible_in c.args.scope.now) l c.add_variable.new.variables)
          (pushed c.args.declared.now c.loop-variable.variable-index x (omega arith) c.variable-item.is)
          (one_variable_more (take c.loop-variable.variable-index c.args.declared.now) c.loop-variable.variables c.add_variable.new.variables x
          c.in-Some.held c.loop-variable.invariant.declared few c.in-Some.ensures.there new names c.in_ok-add_variable.ensures.types);
      numbered = c.add_variable.ensures.numbered;
    }

pub returns-in_default-clause-told : goal.returns-in_default-clause-told
returns-in_default-clause-told c =
    let x = c.variable-item.result in
    told_here x.line rule.Unknown (VariablesBreak (visible_in c.args.scope.now) c.args.declared.now) _ (cc)
    (in_variable c.loop-variable.variables c.loop-variable.variable-index x _ c.loop-variable.invariant.declared
    (slice_get_read c.args.declared.now (length c.args.declared.now) c.loop-variable.variable-index x refl (omega arith) c.variable-item.is)
    (no_type c.in_default.ensures.absent))

pub returns-then-not-is_new-clause-told : goal.returns-then-not-is_new-clause-told
returns-then-not-is_new-clause-told c =
    let x = c.variable-item.result in
    told_here x.line rule.Duplicate (VariablesBreak (visible_in c.args.scope.now) c.args.declared.now) _ (cc)
    (in_variable c.loop-variable.variables c.loop-variable.variable-index x _ c.loop-variable.invariant.declared
    (slice_get_read c.args.declared.now (length c.args.declared.now) c.loop-variable.variable-index x refl (omega arith) c.variable-item.is)
    (not_new c.in-Some.held c.in-Some.ensures.there
    (λ h. true≢false (sym ((rw c.as_str-name.ensures at c.is_new.ensures.1) h) ∙ c.if-not-is_new.true))))

pub returns-in_err-add_variable-clause-told : goal.returns-in_err-add_variable-clause-told
returns-in_err-add_variable-clause-told c =
    let x = c.variable-item.result in
    let vs = c.loop-variable.variables in
    let new = rw c.as_str-name.ensures at c.is_new.ensures.0 c.if-not-is_new.false in
    tells_from _ _ _ c.from_residual.result _ c.from_residual.ensures.1
    (λ r h. rw h.0 (in_variable vs c.loop-variable.variable-index x _ c.loop-variable.invariant.declared
    (slice_get_read c.args.declared.now (length c.args.declared.now) c.loop-variable.variable-index x refl (omega arith) c.variable-item.is)
    (too_many c.in-Some.held c.in-Some.ensures.there new h.1)))
    (c.in_err-add_variable.ensures.told (rw c.as_str-name.ensures (absent_contained vs.names x.name new.no_variable)))
