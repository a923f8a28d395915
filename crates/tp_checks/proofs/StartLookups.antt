-- What the rules on starts say of each start.
use Rattle.std.proofs.Common.{◌≡◌, ℕ, ◌+◌, ◌<◌, List, [], ◌∷◌, ◌++◌, Option, None, Some, All, Contains, length, take, drop, get_or, map, option_map, slice_get, sym, ap, ◌∙◌, subst, arith, append_assoc}
use Rattle.std.proofs.lemmas.List.{get_or-map, length-map, map-append, take-append-drop}
use Rattle.std.proofs.lemmas.List.Elements.{filter_map-append}
use Rattle.std.proofs.lemmas.Option.{get_or_from_slice_get, slice_get-map, slice_get_within, same_Some}
use Rattle.std.specs.List.{AllZip}
use Rattle.tp_tree.specs.declared.tree.{ComponentStart.ComponentStart, Creation.Creation, Function.Function, SetupStatement.SetupStatement}
use Rattle.tp_checks.specs.Tables.{AreDistinct, place_of_name}
use Rattle.tp_checks.specs.Components.{creation_of, creations, variable_name, variables}
use Rattle.tp_checks.specs.Starting.{HasParameterType, IsArgument, IsStartOf, IsStartPlace}
use Rattle.tp_checks.proofs.{NameSetLookups.place_there, NameSetLookups.place_unknown, CreatedComponentGrowth.one_creation}
use Rattle.tp_checks.proofs.{ListPrefixGrowth.contains_at, UniqueZipsAndPlaces.once, UniqueZipsAndPlaces.zip_middle}
use Rattle.tp_checks.specs.declared.starts.StartedComponent.{StartedComponent}
use Rattle.tp_config.specs.declared.port_type.CompId.{CompId}

-- what has the name is named
pub named_there : {A : Type 0} (f : A → List ℕ) (xs : List A) (names : List (List ℕ)) (name : List ℕ) (x : A) → names ≡ map f xs → Contains xs x
    → f x ≡ name → Contains names name
named_there f xs names name x named there is =
    subst (λ l. Contains l name) (sym named)
    (subst (Contains (map f xs)) is
    (there.0, omega (arith, length-map xs f, there.1), get_or-map f xs there.0 x (f x) there.1 ∙ ap f there.2))

-- what holds of each holds of what stands at a place
pub all_got : {A : Type 0} (P : A → Type 0) (xs : List A) (k : ℕ) (x : A) → All P xs → slice_get xs k ≡ Some x → P x
all_got P xs k x each e = subst P (get_or_from_slice_get xs k x x e) (each k x (slice_get_within xs k x e))

-- the place after that of a component variable
pub place_behind : (o : Option ℕ) (k n : ℕ) → o ≡ Some k → option_map (λ k. k + 1) o ≡ Some n → n ≡ k + 1
place_behind o k n e f = sym (same_Some (k + 1) n (sym (ap (option_map (λ k. k + 1)) e) ∙ f))

module _ (functions : List Function) (names : List (List ℕ)) (named : names ≡ map (λ (f : Function). f.name) functions)
    (variables types : List (List ℕ)) (x : ComponentStart) where
  stands : (made : StartedComponent) → IsStartOf functions variables types x made → slice_get names made.function ≡ Some x.function
  stands made h =
      ap (λ l. slice_get l made.function) named ∙ slice_get-map (λ (f : Function). f.name) functions made.function
      ∙ ap (option_map (λ (f : Function). f.name)) h.function_known ∙ ap (λ (n : List ℕ). Some n) h.named

  -- the function of a start is there
  pub no_function : None ≡ place_of_name names x.function → (made : StartedComponent) × IsStartOf functions variables types x made → ⊥
  no_function none r = place_unknown names x.function none (contains_at names r.0.function x.function (stands r.0 r.1))

  -- it is the one that stands at the place of its name
  pub same_function : (place : ℕ) (one : Function) → AreDistinct names → Some place ≡ place_of_name names x.function
      → slice_get functions place ≡ Some one → (made : StartedComponent) (h : IsStartOf functions variables types x made) → h.function ≡ one
  same_function place one apart placed there made h =
      let same : made.function ≡ place =
      once names x.function made.function place apart (stands made h) (place_there names x.function place placed) in
      same_Some h.function one (sym h.function_known ∙ ap (slice_get functions) same ∙ there)

  -- it runs on the type of the component
  pub runs_there : (comp place : ℕ) (one : Function) → AreDistinct names → Some place ≡ place_of_name names x.function
      → slice_get functions place ≡ Some one → option_map (λ k. k + 1) (place_of_name variables x.component) ≡ Some comp
      → (made : StartedComponent) → IsStartOf functions variables types x made → slice_get types comp ≡ Some one.runs_on
  runs_there comp place one apart placed there behind made h =
      ap (slice_get types) (place_behind (place_of_name variables x.component) h.variable comp h.variable_known behind) ∙ h.runs_on
      ∙ ap (λ (f : Function). Some f.runs_on) (same_function place one apart placed there made h)

  -- and is given what it takes
  pub given_there : (place : ℕ) (one : Function) → AreDistinct names → Some place ≡ place_of_name names x.function
      → slice_get functions place ≡ Some one → (made : StartedComponent) × IsStartOf functions variables types x made
      → (made : List CompId) × AllZip (IsArgument variables) x.arguments made × AllZip (HasParameterType types) one.parameters made
  given_there place one apart placed there r = (
    r.0.arguments.items,
    r.1.arguments_known,
    subst (λ (f : Function). AllZip (HasParameterType types) f.parameters r.0.arguments.items) (same_function place one apart placed there r.0 r.1)
        r.1.arguments_fit,
  )

-- a place of a name has an item
pub item_there : {A : Type 0} (f : A → List ℕ) (xs : List A) (names : List (List ℕ)) (name : List ℕ) (place : ℕ) → names ≡ map f xs
    → Some place ≡ place_of_name names name → None ≡ slice_get xs place → ⊥
item_there f xs names name place named placed none =
    let at : slice_get (map f xs) place ≡ Some name = ap (λ l. slice_get l place) (sym named) ∙ place_there names name place placed in
    let gone : slice_get (map f xs) place ≡ None = slice_get-map f xs place ∙ ap (option_map f) (sym none) in
    cc

module _ (xs : List SetupStatement) (i : ℕ) (x : SetupStatement) (lt : i < length xs) (is : x ≡ get_or xs i x) (c : Creation)
    (this : Some c ≡ creation_of x) where
  -- a component that is made, among those before it and those after it
  pub creation_among : creations xs ≡ creations (take i xs) ++ c ∷ creations (drop (i + 1) xs)
  creation_among =
      ap creations (sym (take-append-drop (i + 1) xs)) ∙ filter_map-append creation_of (take (i + 1) xs) (drop (i + 1) xs)
      ∙ ap (λ l. l ++ creations (drop (i + 1) xs)) (one_creation xs i x lt is c this)
      ∙ append_assoc (creations (take i xs)) (c ∷ []) (creations (drop (i + 1) xs))

  pub variable_among : variables xs ≡ variables (take i xs) ++ variable_name c ∷ variables (drop (i + 1) xs)
  variable_among = ap (map variable_name) creation_among ∙ map-append variable_name (creations (take i xs)) (c ∷ creations (drop (i + 1) xs))

  -- where each component is started, this one is
  pub not_started : (started : List (List ℕ)) → None ≡ place_of_name started (variable_name c)
      → (places : List ℕ) × AllZip (IsStartPlace started) (variables xs) places → ⊥
  not_started started none r =
      let at = zip_middle (IsStartPlace started) (variables (take i xs)) (variable_name c) (variables (drop (i + 1) xs)) r.0
      (subst (λ l. AllZip (IsStartPlace started) l r.0) variable_among r.1) in
      let there : place_of_name started (variable_name c) ≡ Some at.0 = at.1 in
      cc
