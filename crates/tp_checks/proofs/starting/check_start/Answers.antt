-- The function is not `sut`, runs on the component's type, and is given what it takes.
use Rattle.std.proofs.Common.{◌≡◌, ◌+◌, ◌∙◌, ℕ, Option, None, Some, ap, map, refl, inr, slice_get, sym, true≢false, Contains, subst}
use Rattle.std.proofs.lemmas.Option.{same_Some}
use Rattle.std.specs.Option.{option_map}
use Rattle.tp_checks.specs.{Tables.place_of_name, Sorted.functions_in, Refused.TellsAt}
use Rattle.tp_checks.specs.BrokenStarts.{ArgumentsBreak, IsStartFunction, StartBreaks, other_arguments, other_type, starts_sut, unknown_function, unknown_variable}
use Rattle.tp_checks.proofs.NameSetLookups.{named_at, place_known, place_unknown}
use Rattle.tp_checks.proofs.StartLookups.{given_there, item_there, no_function, runs_there}
use Rattle.tp_checks.proofs.{ModuleRefusalPropagation.handed_on, StartFaultsTold.start_function, ModuleFaultPropagation.handed}
use Rattle.tp_checks.proofs.RuleFaultPropagation.{told_at}
use Rattle.tp_tree.specs.declared.tree.Function.{Function}
use Rattle.tp_checks.proofs.starting.check_start.Goals as goal

-- the place of the name of a component variable, whose component is the one after it
place_before : (o : Option ℕ) (n : ℕ) → option_map (λ k. k + 1) o ≡ Some n → (k : ℕ) × (o ≡ Some k) × (n ≡ k + 1)
place_before None n e = absurd (cc)
place_before (Some k) n e = (k, refl, sym (same_Some (k + 1) n e))

pub returns-clause-start : goal.returns-clause-start
returns-clause-start c =
    let xs = functions_in c.args.sorted.now in
    let one = c.in-Some-definition_at.function.now in
    let place = c.in-Some-find.place in
    let there : slice_get xs place ≡ Some one =
    ap (λ l. slice_get (map (λ f. f.now) l) place) (sym c.deref.ensures.value) ∙ sym c.in-Some-definition_at.ensures in
    let known =
    place_before (place_of_name c.args.variables.now c.args.start.now.component) c.in-Some.comp.0
    (rw c.as_str.ensures at c.in-Some.ensures.known) in
    record {
      variable = known.0;
      variable_known = known.1;
      function = one;
      function_known = there;
      named = named_at c.args.sorted.now.function_names (λ f. f.name) xs c.args.start.now.function place one c.requires
          (rw c.as_str-2.ensures at c.in-Some-find.ensures.place) there;
      not_sut = λ h. true≢false (sym (c.is_sut.ensures.1 (c.as_str-3.ensures ∙ h)) ∙ c.if-is_sut.false);
      runs_on = rw (known.2, c.as_str-4.ensures) at (c.is_of_type.ensures.0 c.if-not-is_of_type.false);
      arguments_known = c.in_ok-arguments.ensures.known;
      arguments_fit = rw c.as_slice.ensures at c.in_ok-arguments.ensures.fits;
    }

pub returns-in_default-find-clause-refused : goal.returns-in_default-find-clause-refused
returns-in_default-find-clause-refused c = λ few. inr (no_function (functions_in c.args.sorted.now) c.args.sorted.now.function_names c.requires
    c.args.variables.now (map (λ t. t.now) c.args.types.now) c.args.start.now (rw c.as_str-2.ensures at c.in_default-find.ensures.place))

pub returns-in_default-definition_at-clause-refused : goal.returns-in_default-definition_at-clause-refused
returns-in_default-definition_at-clause-refused c = λ few. inr (λ r. item_there (λ (f : Function). f.name) (functions_in c.args.sorted.now)
    c.args.sorted.now.function_names c.args.start.now.function c.in-Some-find.place c.requires
    (rw c.as_str-2.ensures at c.in-Some-find.ensures.place)
    (c.in_default-definition_at.ensures ∙ ap (λ l. slice_get (map (λ f. f.now) l) c.in-Some-find.place) c.deref.ensures.value))

pub returns-then-not-is_of_type-clause-refused : goal.returns-then-not-is_of_type-clause-refused
returns-then-not-is_of_type-clause-refused c = λ few. inr (λ r. true≢false (sym (c.is_of_type.ensures.1
    (rw (← c.as_str-4.ensures) at (runs_there (functions_in c.args.sorted.now) c.args.sorted.now.function_names c.requires c.args.variables.now
    (map (λ t. t.now) c.args.types.now) c.args.start.now c.in-Some.comp.0 c.in-Some-find.place c.in-Some-definition_at.function.now
    c.in-Some-find.ensures.distinct (rw c.as_str-2.ensures at c.in-Some-find.ensures.place)
    (ap (λ l. slice_get (map (λ f. f.now) l) c.in-Some-find.place) (sym c.deref.ensures.value) ∙ sym c.in-Some-definition_at.ensures)
    (rw c.as_str.ensures at c.in-Some.ensures.known) r.0 r.1))) ∙ c.if-not-is_of_type.true))

pub returns-in_err-arguments-clause-refused : goal.returns-in_err-arguments-clause-refused
returns-in_err-arguments-clause-refused c = λ few.
    handed_on c.from_residual.result _ c.from_residual.ensures.1 (c.in_err-arguments.ensures.refused few) (rw c.as_slice.ensures
    (given_there (functions_in c.args.sorted.now) c.args.sorted.now.function_names c.requires c.args.variables.now
    (map (λ t. t.now) c.args.types.now) c.args.start.now c.in-Some-find.place c.in-Some-definition_at.function.now
    c.in-Some-find.ensures.distinct (rw c.as_str-2.ensures at c.in-Some-find.ensures.place)
    (ap (λ l. slice_get (map (λ f. f.now) l) c.in-Some-find.place) (sym c.deref.ensures.value) ∙ sym c.in-Some-definition_at.ensures)))

pub returns-in_default-clause-told : goal.returns-in_default-clause-told
returns-in_default-clause-told c = λ started few new.
    rw c.refused.ensures (
      refl,
      unknown_variable (place_unknown c.args.variables.now c.args.start.now.component
          (sym (rw c.as_str.ensures at (c.in_default.ensures.absent few)))),
    )

pub returns-in_default-find-clause-told : goal.returns-in_default-find-clause-told
returns-in_default-find-clause-told c = λ started few new.
    let xs = functions_in c.args.sorted.now in
    let names = c.args.variables.now in
    let types = map (λ t. t.now) c.args.types.now in
    let x = c.args.start.now in
    let known =
    place_before (place_of_name names x.component) c.in-Some.comp.0 (rw c.as_str.ensures at c.in-Some.ensures.known) in
    rw c.refused-in_default-find.ensures (
      refl,
      unknown_function (place_known names x.component known.0 (sym known.1)) new
          (λ h. place_unknown c.args.sorted.now.function_names x.function
          (rw c.as_str-2.ensures at c.in_default-find.ensures.place)
          (subst (λ l. Contains l x.function) (sym c.requires) h)),
    )

pub returns-in_default-definition_at-clause-told : goal.returns-in_default-definition_at-clause-told
returns-in_default-definition_at-clause-told c = λ started few new.
    absurd (item_there (λ (f : Function). f.name) (functions_in c.args.sorted.now) c.args.sorted.now.function_names
    c.args.start.now.function c.in-Some-find.place c.requires (rw c.as_str-2.ensures at c.in-Some-find.ensures.place)
    (c.in_default-definition_at.ensures ∙ ap (λ l. slice_get (map (λ f. f.now) l) c.in-Some-find.place) c.deref.ensures.value))

pub returns-then-is_sut-clause-told : goal.returns-then-is_sut-clause-told
returns-then-is_sut-clause-told c = λ started few new.
    let xs = functions_in c.args.sorted.now in
    let names = c.args.variables.now in
    let types = map (λ t. t.now) c.args.types.now in
    let x = c.args.start.now in
    let known =
    place_before (place_of_name names x.component) c.in-Some.comp.0 (rw c.as_str.ensures at c.in-Some.ensures.known) in
    let one = c.in-Some-definition_at.function.now in
    let there : slice_get xs c.in-Some-find.place ≡ Some one =
    ap (λ l. slice_get (map (λ f. f.now) l) c.in-Some-find.place) (sym c.deref.ensures.value) ∙ sym c.in-Some-definition_at.ensures in
    let function : IsStartFunction xs x one =
    start_function xs c.args.sorted.now.function_names x c.in-Some-find.place one c.requires
    (rw c.as_str-2.ensures at c.in-Some-find.ensures.place) there in
    rw c.refused-then-is_sut.ensures (
      refl,
      starts_sut one (place_known names x.component known.0 (sym known.1)) new function
          (sym c.as_str-3.ensures ∙ c.is_sut.ensures.0 c.if-is_sut.true),
    )

pub returns-then-not-is_of_type-clause-told : goal.returns-then-not-is_of_type-clause-told
returns-then-not-is_of_type-clause-told c = λ started few new.
    let xs = functions_in c.args.sorted.now in
    let names = c.args.variables.now in
    let types = map (λ t. t.now) c.args.types.now in
    let x = c.args.start.now in
    let known =
    place_before (place_of_name names x.component) c.in-Some.comp.0 (rw c.as_str.ensures at c.in-Some.ensures.known) in
    let one = c.in-Some-definition_at.function.now in
    let there : slice_get xs c.in-Some-find.place ≡ Some one =
    ap (λ l. slice_get (map (λ f. f.now) l) c.in-Some-find.place) (sym c.deref.ensures.value) ∙ sym c.in-Some-definition_at.ensures in
    let function : IsStartFunction xs x one =
    start_function xs c.args.sorted.now.function_names x c.in-Some-find.place one c.requires
    (rw c.as_str-2.ensures at c.in-Some-find.ensures.place) there in
    rw c.refused-then-not-is_of_type.ensures (
      refl,
      other_type one known.0 known.1 new function
          (λ h. true≢false (sym (c.is_sut.ensures.1 (c.as_str-3.ensures ∙ h)) ∙ c.if-is_sut.false))
          (λ e. true≢false (sym (c.is_of_type.ensures.1 (rw (known.2, c.as_str-4.ensures) e)) ∙ c.if-not-is_of_type.true)),
    )

pub returns-in_err-arguments-clause-told : goal.returns-in_err-arguments-clause-told
returns-in_err-arguments-clause-told c = λ started few new.
    let xs = functions_in c.args.sorted.now in
    let names = c.args.variables.now in
    let types = map (λ t. t.now) c.args.types.now in
    let x = c.args.start.now in
    let known =
    place_before (place_of_name names x.component) c.in-Some.comp.0 (rw c.as_str.ensures at c.in-Some.ensures.known) in
    let one = c.in-Some-definition_at.function.now in
    let there : slice_get xs c.in-Some-find.place ≡ Some one =
    ap (λ l. slice_get (map (λ f. f.now) l) c.in-Some-find.place) (sym c.deref.ensures.value) ∙ sym c.in-Some-definition_at.ensures in
    let function : IsStartFunction xs x one =
    start_function xs c.args.sorted.now.function_names x c.in-Some-find.place one c.requires
    (rw c.as_str-2.ensures at c.in-Some-find.ensures.place) there in
    handed (TellsAt x.line (StartBreaks xs names types started x)) c.from_residual.result _ c.from_residual.ensures.1
    (told_at x.line (ArgumentsBreak names types one.parameters x.arguments) (StartBreaks xs names types started x)
    c.in_err-arguments.field-0.0
    (λ rule b. other_arguments one known.0 rule known.1 new function
    (λ h. true≢false (sym (c.is_sut.ensures.1 (c.as_str-3.ensures ∙ h)) ∙ c.if-is_sut.false))
    (rw (known.2, c.as_str-4.ensures) at (c.is_of_type.ensures.0 c.if-not-is_of_type.false)) b)
    (rw c.as_slice.ensures at (c.in_err-arguments.ensures.told few)))
