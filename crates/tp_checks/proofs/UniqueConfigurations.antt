-- Setup statements make one configuration, and each does its step.
use Rattle.std.proofs.Common.{◌≡◌, ℕ, ◌+◌, ◌<◌, ◌≤◌, ◌⊎◌, inl, inr, List, [], ◌∷◌, ◌++◌, Option, length, take, drop, get_or, map, refl, sym, ap, ◌∙◌, subst, arith}
use Rattle.std.proofs.{lemmas.Bool.cases_lt, lemmas.List.Elements.filter_map-append}
use Rattle.std.proofs.lemmas.List.{length_push, map-append, same_from_push, take-append-drop, take-append-le, take_all}
use Rattle.std.specs.Option.{option_map, option_to_list}
use Rattle.tp_tree.specs.declared.tree.{SetupAction.SetupAction, SetupStatement.SetupStatement}
use Rattle.tp_tree.specs.declared.tree.SetupAction.TheVariants as setup_action
use Rattle.tp_config.specs.Setup.{Setup, connecting, mapping}
use Rattle.tp_checks.specs.{Tables.IsNumbered, Components.creation_of, Components.creations, Components.variable_name, Components.variables}
use Rattle.tp_checks.specs.Configuring.{HaveOwnPorts, IsStep, Makes, nothing, one_more}
use Rattle.tp_checks.proofs.{SetupStatementGrowth.variables_more, PortsOfPairEnds.same_end, DistinctNamesInParts.numbered_first}
use Rattle.tp_checks.proofs.ListPrefixGrowth.{pushed}

module _ (names : List (List ℕ)) (system : Option ℕ) where
  -- a setup statement makes one configuration
  pub step_same : (a : SetupAction) (s t u : Setup) → HaveOwnPorts s.types → IsStep s names system a t → IsStep s names system a u → t ≡ u
  step_same (setup_action.Create c) s t u own first second = first ∙ sym second
  step_same (setup_action.Connect x y) s t u own first second =
      first.connected ∙ ap (λ a. connecting s a first.q) (same_end s names system own x first.p second.p first.first second.first)
      ∙ ap (connecting s second.p) (same_end s names system own y first.q second.q first.second second.second) ∙ sym second.connected
  step_same (setup_action.Map x y) s t u own first second =
      first.mapped ∙ ap (λ a. mapping s a first.q) (same_end s names system own x first.p second.p first.first second.first)
      ∙ ap (mapping s second.p) (same_end s names system own y first.q second.q first.second second.second) ∙ sym second.mapped

  step_leaves : (a : SetupAction) (s t : Setup) → IsStep s names system a t → (t.types ≡ s.types) × (t.components ≡ s.components)
  step_leaves (setup_action.Create c) s t e = (ap (λ (u : Setup). u.types) e, ap (λ (u : Setup). u.components) e)
  step_leaves (setup_action.Connect x y) s t e = (ap (λ (u : Setup). u.types) e.connected, ap (λ (u : Setup). u.components) e.connected)
  step_leaves (setup_action.Map x y) s t e = (ap (λ (u : Setup). u.types) e.mapped, ap (λ (u : Setup). u.components) e.mapped)

module _ (system : Option ℕ) (start : Setup) where
  -- the component types and the components stay
  pub makes_leaves : (xs : List SetupStatement) (t : Setup) → Makes system start xs t → (t.types ≡ start.types) × (t.components ≡ start.components)
  makes_leaves xs t nothing = (refl, refl)
  makes_leaves xs t (one_more ys s x u before step) =
      let earlier = makes_leaves ys s before in
      let here = step_leaves (variables ys) system x.action s t step in
      (here.0 ∙ earlier.0, here.1 ∙ earlier.1)

  abbrev Last : List SetupStatement → Setup → Type 0
  Last xs t =
      (ys : List SetupStatement) × (x : SetupStatement) × (s : Setup) × (xs ≡ ys ++ x ∷ []) × Makes system start ys s
      × IsStep s (variables ys) system x.action t

  last : (xs : List SetupStatement) (t : Setup) → Makes system start xs t → ((xs ≡ []) × (t ≡ start)) ⊎ Last xs t
  last xs t nothing = inl (refl, refl)
  last xs t (one_more ys s x u before step) = inr (ys, x, s, refl, before, step)

  not_none : {A : Type 0} (xs : List SetupStatement) (x : SetupStatement) → [] ≡ xs ++ x ∷ [] → A
  not_none xs x e = absurd (omega (arith, ap length e, length_push xs x))

  -- they make one configuration
  pub makes_same : HaveOwnPorts start.types → (xs ys : List SetupStatement) (s t : Setup) → Makes system start xs s → Makes system start ys t → xs ≡ ys → s ≡ t
  makes_same own xs ys s t nothing second e = by (last ys t second) where
    by : ((ys ≡ []) × (t ≡ start)) ⊎ Last ys t → s ≡ t
    by (inl h) = sym h.1
    by (inr h) = not_none h.0 h.1 (e ∙ h.3)
  makes_same own xs ys s t (one_more vs u x w before step) second e =
      by (last ys t second) (λ zs z made f. makes_same own vs zs u z before made f)
    where
      by : ((ys ≡ []) × (t ≡ start)) ⊎ Last ys t → ((zs : List SetupStatement) (z : Setup) → Makes system start zs z → vs ≡ zs → u ≡ z) → s ≡ t
      by (inl h) again = not_none vs x (sym (e ∙ h.0))
      by (inr h) again =
          let parts = same_from_push vs h.0 x h.1 (e ∙ h.3) in
          let same : u ≡ h.2 = again h.0 h.2 h.4 parts.0 in
          let other : IsStep u (variables vs) system x.action t =
          subst (λ z. IsStep z (variables vs) system x.action t) (sym same)
          (subst (λ l. IsStep h.2 (variables l) system x.action t) (sym parts.0)
          (subst (λ (z : SetupStatement). IsStep h.2 (variables h.0) system z.action t) (sym parts.1) h.5)) in
          step_same (variables vs) system x.action u s t (subst HaveOwnPorts (sym (makes_leaves vs u before).0) own) step other

  -- the first of them make one as well
  pub makes_first : (n : ℕ) (xs : List SetupStatement) (t : Setup) → Makes system start xs t → (s : Setup) × Makes system start (take n xs) s
  makes_first n xs t nothing = (start, subst (λ l. Makes system start l start) (sym (take_all n [] (omega arith))) nothing)
  makes_first n xs t (one_more ys s x u before step) = by (cases_lt (length ys) n) (makes_first n ys s before) where
    by : (length ys < n) ⊎ (n ≤ length ys) → (s : Setup) × Makes system start (take n ys) s → (s : Setup) × Makes system start (take n (ys ++ x ∷ [])) s
    by (inl past) h =
        (u, subst (λ l. Makes system start l u) (sym (take_all n (ys ++ x ∷ []) (omega (arith, length_push ys x, past)))) (one_more ys s x u before step))
    by (inr inside) h = (h.0, subst (λ l. Makes system start l h.0) (sym (take-append-le n ys (x ∷ []) inside)) h.1)

  -- where all can be done, the next one can, in what those before it made
  pub next_step : HaveOwnPorts start.types → (xs : List SetupStatement) (i : ℕ) (x : SetupStatement) (s : Setup) (names : List (List ℕ)) → i < length xs
      → x ≡ get_or xs i x → Makes system start (take i xs) s → names ≡ variables (take i xs)
      → ((t : Setup) × Makes system start xs t) × IsNumbered (variables xs)
      → ((t : Setup) × IsStep s names system x.action t) × IsNumbered (names ++ option_to_list (option_map variable_name (creation_of x)))
  next_step own xs i x s names lt is before named r = (
    by (last (take (i + 1) xs) h.0 h.1),
    subst IsNumbered (sym more) (numbered_first (variables (take (i + 1) xs)) (variables (drop (i + 1) xs))
        (subst IsNumbered rest r.1)),
  )
    where
      h : (s : Setup) × Makes system start (take (i + 1) xs) s
      h = makes_first (i + 1) xs r.0.0 r.0.1

      more : names ++ option_to_list (option_map variable_name (creation_of x)) ≡ variables (take (i + 1) xs)
      more = variables_more xs i x lt is names (names ++ option_to_list (option_map variable_name (creation_of x))) named refl

      rest : variables xs ≡ variables (take (i + 1) xs) ++ variables (drop (i + 1) xs)
      rest =
          ap variables (sym (take-append-drop (i + 1) xs)) ∙ ap (map variable_name) (filter_map-append creation_of (take (i + 1) xs) (drop (i + 1) xs))
          ∙ map-append variable_name (creations (take (i + 1) xs)) (creations (drop (i + 1) xs))

      by : ((take (i + 1) xs ≡ []) × (h.0 ≡ start)) ⊎ Last (take (i + 1) xs) h.0 → (t : Setup) × IsStep s names system x.action t
      by (inl w) = not_none (take i xs) x (sym (pushed xs i x lt is ∙ w.0))
      by (inr w) =
          let parts = same_from_push (take i xs) w.0 x w.1 (pushed xs i x lt is ∙ w.3) in
          let same : w.2 ≡ s = makes_same own w.0 (take i xs) w.2 s w.4 before (sym parts.0) in (
            h.0,
            subst (λ z. IsStep z names system x.action h.0) same
                (subst (λ l. IsStep w.2 l system x.action h.0) (ap variables (sym parts.0) ∙ sym named)
                (subst (λ (z : SetupStatement). IsStep w.2 (variables w.0) system z.action h.0) (sym parts.1) w.5)),
          )
