-- One step of a loop that sorts definitions.
use Rattle.std.proofs.Common.{◌≡◌, ℕ, ◌+◌, ◌<◌, List, [], ◌∷◌, ◌++◌, Option, None, Some, length, take, get_or, map, sym, ap, ◌∙◌}
use Rattle.std.proofs.lemmas.List.{map_push, append-nil}
use Rattle.std.specs.Option.{option_to_list}
use Rattle.tp_tree.specs.declared.tree.{Definition.Definition, Defined.Defined}
use Rattle.tp_checks.specs.{Definitions.of_kind, Sorted.AreOfKind}
use Rattle.tp_checks.proofs.ListPrefixGrowth.{kept_more}

module _ {T : Type 0} (kind : Defined → Option T) (name : T → List ℕ) (xs : List Definition) (i : ℕ) (x : Definition) (lt : i < length xs)
    (is : x ≡ get_or xs i x) where
  among_more : of_kind kind (take (i + 1) xs) ≡ of_kind kind (take i xs) ++ option_to_list (kind x.defined)
  among_more = kept_more (λ (d : Definition). kind d.defined) xs i x lt is

  -- a definition of another kind
  pub same_kind : (names : List (List ℕ)) (items : List T) → AreOfKind kind name (take i xs) names items → None ≡ kind x.defined
      → AreOfKind kind name (take (i + 1) xs) names items
  same_kind names items before other =
      let same : of_kind kind (take (i + 1) xs) ≡ of_kind kind (take i xs) =
      among_more ∙ ap (λ o. of_kind kind (take i xs) ++ option_to_list o) (sym other) ∙ append-nil (of_kind kind (take i xs)) in
      record { items_are = before.items_are ∙ sym same; names_are = before.names_are ∙ ap (map name) (sym same) }

  -- one more of the kind
  pub more_kind : (names more : List (List ℕ)) (items all : List T) (y : T) → AreOfKind kind name (take i xs) names items → Some y ≡ kind x.defined
      → more ≡ names ++ name y ∷ [] → all ≡ items ++ y ∷ [] → AreOfKind kind name (take (i + 1) xs) more all
  more_kind names more items all y before this named there =
      let next : of_kind kind (take (i + 1) xs) ≡ of_kind kind (take i xs) ++ y ∷ [] =
      among_more ∙ ap (λ o. of_kind kind (take i xs) ++ option_to_list o) (sym this) in
      record {
        items_are = there ∙ ap (λ l. l ++ y ∷ []) before.items_are ∙ sym next;
        names_are = named ∙ ap (λ l. l ++ name y ∷ []) before.names_are ∙ sym (map_push name (of_kind kind (take i xs)) y) ∙ ap (map name) (sym next);
      }
