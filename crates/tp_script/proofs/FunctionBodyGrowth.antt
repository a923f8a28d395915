-- The functions among the definitions up to the next one, and their bodies.
use Rattle.std.proofs.Common.{◌≡◌, ℕ, ◌+◌, ◌<◌, List, [], ◌∷◌, ◌++◌, Option, None, Some, length, map, take, get_or, append-nil, sym, ap, ◌∙◌, subst}
use Rattle.std.specs.{List.AllZip, Option.option_to_list}
use Rattle.tp_tree.specs.declared.tree.{Definition.Definition, Function.Function}
use Rattle.tp_checks.specs.{Tables.IsNumbered, Definitions.of_kind, Definitions.declared, Definitions.function_of, Definitions.inner_names}
use Rattle.tp_checks.proofs.ListPrefixGrowth.{kept_more, zip_push}
use Rattle.tp_script.specs.Scopes.{HaveOwnNames, Known}
use Rattle.tp_script.proofs.ExecutableTestCases.{function_defined}

module _ {B : Type 0} (R : Function → B → Type 0) (xs : List Definition) (ys : List B) (i : ℕ) (x : Definition) where
  more : (o : Option Function) → i < length xs → x ≡ get_or xs i x → o ≡ function_of x.defined
      → of_kind function_of (take (i + 1) xs) ≡ of_kind function_of (take i xs) ++ option_to_list o
  more o lt is e = kept_more (λ (d : Definition). function_of d.defined) xs i x lt is ∙ ap (λ p. of_kind function_of (take i xs) ++ option_to_list p) (sym e)

  pub no_function : i < length xs → x ≡ get_or xs i x → AllZip R (of_kind function_of (take i xs)) ys → None ≡ function_of x.defined
      → AllZip R (of_kind function_of (take (i + 1) xs)) ys
  no_function lt is each e = subst (λ l. AllZip R l ys) (sym (more None lt is e ∙ append-nil (of_kind function_of (take i xs)))) each

  pub one_function : i < length xs → x ≡ get_or xs i x → AllZip R (of_kind function_of (take i xs)) ys → (f : Function) (y : B) → Some f ≡ function_of x.defined
      → R f y
      → AllZip R (of_kind function_of (take (i + 1) xs)) (ys ++ y ∷ [])
  one_function lt is each f y e here =
      subst (λ l. AllZip R l (ys ++ y ∷ [])) (sym (more (Some f) lt is e)) (zip_push R (of_kind function_of (take i xs)) ys f y each here)

module _ (known : Known) (xs : List Definition) (i : ℕ) (x : Definition) (f : Function) (lt : i < length xs) (is : x ≡ get_or xs i x)
    (found : Some f ≡ function_of x.defined) where
  -- the function has parameters with names of their own
  pub own_parameters : HaveOwnNames xs → IsNumbered (map (λ p. declared p.name) f.parameters)
  own_parameters own =
      subst (λ d. IsNumbered (inner_names d)) (function_defined x.defined f (sym found)) (subst (λ (d : Definition). IsNumbered (inner_names d.defined)) (sym is) (own i x lt))
