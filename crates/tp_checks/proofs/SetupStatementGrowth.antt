-- One more setup statement.
use Rattle.std.proofs.Common.{◌≡◌, ℕ, ◌+◌, ◌<◌, List, ◌++◌, Option, None, Some, length, take, get_or, map, sym, ap, ◌∙◌, subst, refl}
use Rattle.std.proofs.lemmas.List.{map-append}
use Rattle.std.specs.Option.{option_map, option_to_list}
use Rattle.tp_tree.specs.declared.tree.{Creation.Creation, SetupStatement.SetupStatement}
use Rattle.tp_config.specs.Setup.{Setup}
use Rattle.tp_checks.specs.Components.{creation_of, creations, variable_name, variables}
use Rattle.tp_checks.specs.Configuring.{IsStep, Makes, one_more}
use Rattle.tp_checks.proofs.ListPrefixGrowth.{kept_more, pushed}

variable_in : (o : Option Creation) → option_to_list (option_map variable_name o) ≡ map variable_name (option_to_list o)
variable_in None = refl
variable_in (Some c) = refl

module _ (xs : List SetupStatement) (i : ℕ) (x : SetupStatement) (lt : i < length xs) (is : x ≡ get_or xs i x) where
  pub variables_more : (names more : List (List ℕ)) → names ≡ variables (take i xs) → more ≡ names ++ option_to_list (option_map variable_name (creation_of x))
      → more ≡ variables (take (i + 1) xs)
  variables_more names more before next =
      next ∙ ap (λ l. l ++ option_to_list (option_map variable_name (creation_of x))) before ∙ ap (λ l. variables (take i xs) ++ l) (variable_in (creation_of x))
      ∙ sym (map-append variable_name (creations (take i xs)) (option_to_list (creation_of x))) ∙ ap (map variable_name) (sym (kept_more creation_of xs i x lt is))

  pub makes_more : (system : Option ℕ) (start s t : Setup) (names : List (List ℕ)) → Makes system start (take i xs) s → names ≡ variables (take i xs)
      → IsStep s names system x.action t → Makes system start (take (i + 1) xs) t
  makes_more system start s t names before named step =
      subst (λ l. Makes system start l t) (pushed xs i x lt is) (one_more (take i xs) s x t before (subst (λ n. IsStep s n system x.action t) named step))
