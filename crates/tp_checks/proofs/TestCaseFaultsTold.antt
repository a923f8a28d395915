-- A definition whose names can't be given, or that is the second test case, and the line of the first.
use Rattle.std.proofs.Common.{◌≡◌, ◌≢◌, ◌≤◌, ◌⊎◌, inl, inr, ℕ, ◌+◌, ◌<◌, true, ◌||◌, Option, None, Some, IfSome, List, [], ◌∷◌, ◌++◌, All, Contains, length, take, drop, get_or, is_some, refl, sym, ap, ◌∙◌, subst, arith}
use Rattle.std.proofs.{lemmas.List.get_or_push, lemmas.List.length_push, lemmas.List.Elements.Contains-append_left}
use Rattle.std.specs.{List.cons_option, List.list_any, Option.option_to_list}
use Rattle.tp_tree.specs.declared.tree.{Definition.Definition, TestCase.TestCase}
use Rattle.tp_checks.specs.declared.fault.{ModuleRule.ModuleRule, ModuleRule.TheVariants.Duplicate}
use Rattle.tp_checks.specs.{Tables.IsNumbered, Cases.cases_of}
use Rattle.tp_checks.specs.BrokenNames.{DefinedNameBreaks, DefinitionNamesBreak, GivenNamesBreak, given, names_before, second_case}
use Rattle.tp_checks.specs.BrokenNames.{in_definition, inner_name, no_test_case, own_name}
use Rattle.tp_checks.specs.Definitions.{BeginsAmong, of_kind, case_of, inner_names, name_of}
use Rattle.tp_checks.specs.declared.unique_names.CaseAt.{CaseAt}
use Rattle.tp_checks.proofs.{DistinctNamesInParts.no_case, ModuleFaultPropagation.name_told}
use Rattle.tp_checks.proofs.{NameFaultsTold.name_among, NameFaultsTold.split_here, ListPrefixGrowth.kept_more, ListPrefixGrowth.pushed}

one_case : (o : Option CaseAt) → length (cases_of o) ≤ 1
one_case None = omega arith
one_case (Some c) = omega arith

abbrev Begins : List Definition → Option CaseAt → Type 0
Begins xs o = IfSome o (λ found. BeginsAmong xs found.case.now found.line)

module _ (xs : List Definition) (i : ℕ) (x : Definition) (lt : i < length xs) (is : x ≡ get_or xs i x) where
  later : (case : TestCase) (line : ℕ) → BeginsAmong (take i xs) case line → BeginsAmong (take (i + 1) xs) case line
  later case line b = record {
    definition = b.definition;
    there = subst (λ l. Contains l b.definition) (pushed xs i x lt is) (Contains-append_left (take i xs) (x ∷ []) b.definition b.there);
    is = b.is;
    line_is = b.line_is;
  }

  here : Contains (take (i + 1) xs) x
  here =
      subst (λ l. Contains l x) (pushed xs i x lt is)
      (length (take i xs), omega (arith, length_push (take i xs) x), get_or_push (take i xs) x x (length (take i xs)) refl)

  -- where the test case begins that was found, after one more definition
  pub begins_more : (before after : Option CaseAt) → Begins (take i xs) before
      → (after ≡ before) ⊎ IfSome after (λ found. (case_of x.defined ≡ Some found.case.now) × (found.line ≡ x.line)) → Begins (take (i + 1) xs) after
  begins_more None after b (inl same) = rw same tt
  begins_more (Some c) after b (inl same) = rw same (later c.case.now c.line b)
  begins_more before None b (inr next) = tt
  begins_more before (Some c) b (inr next) = record { definition = x; there = here; is = next.0; line_is = next.1 }

  module _ (names : List (List ℕ)) (case : Option CaseAt) (named : names ≡ names_before (take i xs)) (numbered : IsNumbered names)
      (cases : of_kind case_of (take i xs) ≡ cases_of case) (each : All (λ (d : Definition). IsNumbered (inner_names d.defined)) (take i xs)) where
    definition_told : (rule : ModuleRule) (line : ℕ) → DefinedNameBreaks (take i xs) x rule line → DefinitionNamesBreak xs rule line
    definition_told rule line b = record {
      before = take i xs;
      definition = x;
      after = drop (i + 1) xs;
      split = split_here xs i x lt is;
      obey = record {
        names = subst IsNumbered named numbered;
        inner = each;
        one_case = omega (arith, one_case case, ap length cases);
      };
      breaks = b;
    }

    -- a name that it gives is given before
    pub given_told : (rule : ModuleRule) (line : ℕ) → GivenNamesBreak names x rule line → DefinitionNamesBreak xs rule line
    given_told rule line b = definition_told rule line (given rule line (subst (λ l. GivenNamesBreak l x rule line) named b))

    -- it is the second test case
    pub second_told : IsNumbered (names ++ name_of x.defined ∷ []) → IsNumbered (inner_names x.defined)
        → 1 < length (cases_of case ++ option_to_list (case_of x.defined)) → DefinitionNamesBreak xs Duplicate x.line
    second_told own inner many =
        let all : of_kind case_of (take i xs ++ x ∷ []) ≡ cases_of case ++ option_to_list (case_of x.defined) =
        ap (of_kind case_of) (pushed xs i x lt is) ∙ kept_more (λ (d : Definition). case_of d.defined) xs i x lt is
        ∙ ap (λ l. l ++ option_to_list (case_of x.defined)) cases in
        definition_told Duplicate x.line (second_case (subst (λ l. IsNumbered (l ++ name_of x.defined ∷ [])) named own) inner
        (subst (λ l. 1 < length l) (sym all) many))

-- where a definition is a test case, there is one
pub some_case : (xs : List Definition) → list_any (λ (x : Definition). is_some (case_of x.defined)) xs ≡ true → of_kind case_of xs ≢ []
some_case [] e = absurd (cc)
some_case (x ∷ xs) e = by (case_of x.defined) refl (some_case xs) e where
  by : (o : Option TestCase) → o ≡ case_of x.defined → (list_any (λ (x : Definition). is_some (case_of x.defined)) xs ≡ true → of_kind case_of xs ≢ [])
      → (is_some o || list_any (λ (x : Definition). is_some (case_of x.defined)) xs) ≡ true → cons_option o (of_kind case_of xs) ≢ []
  by None f rest e same = rest e same
  by (Some c) f rest e same = cc

pub ruleset names = (name_told, name_among, own_name, inner_name, given_told, second_told, no_test_case, in_definition, some_case, no_case)
