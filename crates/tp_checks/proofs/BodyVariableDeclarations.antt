-- The variables of a body: what their rule fixes, and what it says of each.
use Rattle.std.proofs.Common.{◌⊎◌, inl, inr, ◌≡◌, ℕ, ◌<◌, List, [], ◌∷◌, ◌++◌, Some, length, take, slice_get, refl, sym, ap, ◌∙◌, subst, arith}
use Rattle.std.proofs.{Math.Seq.take-length, lemmas.List.length_push, lemmas.List.same_from_push, lemmas.List.take-append-le}
use Rattle.std.proofs.lemmas.Option.{slice_get_within}
use Rattle.tp_tree.specs.declared.tree.Variable.{Variable}
use Rattle.tp_play.specs.declared.body.VariableType.{VariableType}
use Rattle.tp_checks.specs.declared.scope.Variables.{Variables}
use Rattle.tp_checks.specs.Scoping.{AreTyped, IsNew, Visible}
use Rattle.tp_checks.specs.Bodies.{AreVariables, no_variable, one_variable_more, IsVariableType}
use Rattle.tp_checks.proofs.{NameLookupsAreUnique.held_fixed, PlacedEntriesGrowth.push_cases}

-- a list with one more isn't empty
no_push : {A : Type 0} (xs : List A) (x : A) → [] ≡ xs ++ x ∷ [] → ⊥
no_push xs x e = omega (arith, length_push xs x, ap length e)

same_variables : (vs ws : Variables) → vs.names ≡ ws.names → vs.types ≡ ws.types → vs ≡ ws
same_variables vs ws p q = ap (λ n. record vs { names = n }) p ∙ ap (λ t. record ws { types = t }) q

module _ (scope : Visible) where
  pub typed_variables : {xs : List Variable} {vs : Variables} → AreVariables scope xs vs → AreTyped vs
  typed_variables (no_variable vs names types) = record { as_many = ap length types ∙ sym (ap length names) }
  typed_variables (one_variable_more xs vs ws x held before few is_held new names types) =
      let p : AreTyped vs = typed_variables before in
      record {
        as_many = omega (arith, p.as_many, ap length names, ap length types, length_push vs.names x.name, length_push vs.types held);
      }

  variables_as : {xs ys : List Variable} {vs ws : Variables} → AreVariables scope xs vs → AreVariables scope ys ws → xs ≡ ys → vs ≡ ws
  variables_as (no_variable vs names types) (no_variable ws others kinds) e = same_variables vs ws (names ∙ sym others) (types ∙ sym kinds)
  variables_as (no_variable vs names types) (one_variable_more ys us ws y h before few is_held new others kinds) e = absurd (no_push ys y e)
  variables_as (one_variable_more xs us vs x g earlier less is_kind fresh names types) (no_variable ws others kinds) e = absurd (no_push xs x (sym e))
  variables_as (one_variable_more xs ts vs x g earlier less is_kind fresh names types) (one_variable_more ys us ws y h before few is_held new others kinds) e =
      let p = same_from_push xs ys x y e in
      let same : ts ≡ us = variables_as earlier before p.0 in
      let one : x ≡ y = p.1 in
      let held : g ≡ h = held_fixed scope y.type_name g h (subst (λ (z : Variable). IsVariableType scope z.type_name g) one is_kind) is_held in
      same_variables vs ws (cc) (cc)

  pub variables_fixed : (xs : List Variable) (vs ws : Variables) → AreVariables scope xs vs → AreVariables scope xs ws → vs ≡ ws
  variables_fixed xs vs ws a b = variables_as a b refl

  -- what the rule says of a variable after these
  pub record Next (xs : List Variable) (vs : Variables) (x : Variable) : Type 0 where
    pub few : length vs.names < 4294967295
    pub held : VariableType
    pub is_held : IsVariableType scope x.type_name held
    pub new : IsNew scope vs [] x.name

  pub has_next : {xs : List Variable} {ws : Variables} → AreVariables scope xs ws → (i : ℕ) (x : Variable) → slice_get xs i ≡ Some x
      → (vs : Variables) × AreVariables scope (take i xs) vs × Next (take i xs) vs x
  has_next (no_variable ws names types) i x there =
      let below = slice_get_within [] i x there in absurd (omega arith)
  has_next (one_variable_more xs vs ws y h before few is_held new names types) i x there =
      by (λ (earlier : slice_get xs i ≡ Some x). has_next before i x earlier) (push_cases xs y i x there)
    where
      by : (slice_get xs i ≡ Some x → (us : Variables) × AreVariables scope (take i xs) us × Next (take i xs) us x)
          → (slice_get xs i ≡ Some x) ⊎ ((i ≡ length xs) × (x ≡ y))
          → (us : Variables) × AreVariables scope (take i (xs ++ y ∷ [])) us × Next (take i (xs ++ y ∷ [])) us x
      by again (inl earlier) =
          let below : i < length xs = slice_get_within xs i x earlier in
          let same : take i xs ≡ take i (xs ++ y ∷ []) = sym (take-append-le i xs (y ∷ []) (omega arith)) in
          subst (λ l. (us : Variables) × AreVariables scope l us × Next l us x) same (again earlier)
      by again (inr (at, is)) =
          let same : xs ≡ take i (xs ++ y ∷ []) =
          sym (ap (λ n. take n (xs ++ y ∷ [])) at ∙ take-append-le (length xs) xs (y ∷ []) (omega arith) ∙ take-length xs) in
          let here : Next xs vs y = record { few = few; held = h; is_held = is_held; new = new } in
          subst (λ l. (us : Variables) × AreVariables scope l us × Next l us x) same (vs, before, subst (Next xs vs) (sym is) here)
