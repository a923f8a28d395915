-- What a component of a module's test case does is fixed by the module.
use Rattle.std.proofs.Common.{◌≡◌, ◌⊎◌, inl, inr, ℕ, ◌+◌, ◌<◌, List, [], ◌∷◌, ◌++◌, Option, None, Some, Contains, length, map, slice_get, option_map, refl, sym, ap, ◌∙◌, subst, arith}
use Rattle.std.proofs.{lemmas.Grind.same_number_lists, lemmas.List.length-map, lemmas.Slice.Zip.AllZip-long}
use Rattle.std.proofs.lemmas.Option.{get_or_from_slice_get, same_Some, slice_get-map, slice_get_within}
use Rattle.tp_tree.specs.declared.tree.{Module.Module, TestCase.TestCase, Function.Function, ComponentName.ComponentName}
use Rattle.tp_tree.specs.declared.tree.ComponentStart.{ComponentStart}
use Rattle.tp_config.specs.declared.port_type.CompId.{CompId}
use Rattle.tp_checks.specs.{Tables.AreDistinct, Definitions.definition_names, Definitions.functions, Rules.sut, Scoping.OwnNames}
use Rattle.tp_checks.specs.{Components.creations, Components.variable_name, Components.variables, Configuring.interface_number}
use Rattle.tp_checks.specs.Starting.{AreStarts, IsArgument, IsStartPlace, IsStartOf, started_names, type_names_of}
use Rattle.tp_checks.specs.declared.starts.{StartedComponent.StartedComponent, Starts.Starts}
use Rattle.tp_checks.proofs.ListPrefixGrowth.{contains_at, zip_at}
use Rattle.tp_checks.proofs.UniqueZipsAndPlaces.{place_in, zip_same}
use Rattle.tp_play.specs.declared.body.Body.{Body}
use Rattle.tp_play.specs.Behaviours.{Behaviour}
use Rattle.tp_script.specs.Behaviours as d
use Rattle.tp_script.specs.{Behaviours.AreReferences, Behaviours.Does, Scopes.Known, Scopes.IsFunctionBody, Scopes.IsMainBody}
use Rattle.tp_script.proofs.{BodiesFixedByText.scoped_body_fixed, TypesFixedByModule.one_function_named}

abbrev numbers_of : List CompId → List ℕ
numbers_of xs = map (λ (c : CompId). c.0) xs

abbrev comp : ℕ → CompId
comp n = record { 0 = n }

abbrev behaviour : Body → List ℕ → Behaviour
behaviour body references = record { body = body; references = references }

-- the references that a body has are fixed by what it may name
references_fixed : (itself : ℕ) (arguments : List ℕ) (count : ℕ) (xs ys : List ℕ) → AreReferences itself arguments count xs → AreReferences itself arguments count ys → xs ≡ ys
references_fixed itself arguments count xs ys h k = h.all ∙ ap (λ l. (0 ∷ itself ∷ arguments) ++ l) same ∙ sym k.all where
  same : h.variables ≡ k.variables
  same =
      same_number_lists h.variables k.variables (h.as_many ∙ sym k.as_many)
      (λ i below. get_or_from_slice_get h.variables i (i + 1) 0 (h.numbered i (omega (arith, below, h.as_many)))
      ∙ sym (get_or_from_slice_get k.variables i (i + 1) 0 (k.numbered i (omega (arith, below, h.as_many)))))

argument_fixed : (names : List (List ℕ)) (x : ComponentName) (a b : CompId) → IsArgument names x a → IsArgument names x b → a ≡ b
argument_fixed names x a b h k = ap comp (same_Some a.0 b.0 (sym h ∙ k))

module _ (m : Module) (apart : AreDistinct (definition_names m)) (known : Known) (own : OwnNames known.types) (case : TestCase) where
  record AtMain (k : ℕ) (o : Option Behaviour) : Type 0 where
    does : Behaviour
    number : k ≡ 0
    body : IsMainBody known case does.body
    references : AreReferences 0 [] (length known.components) does.references
    is : o ≡ Some does

  record AtStarted (starts : Starts) (k : ℕ) (o : Option Behaviour) : Type 0 where
    does : Behaviour
    before : ℕ
    place : ℕ
    start : StartedComponent
    function : Function
    number : k ≡ before + 1
    placed : slice_get starts.places.items before ≡ Some place
    started : slice_get starts.starts.items place ≡ Some start
    function_known : slice_get (functions m) start.function ≡ Some function
    body : IsFunctionBody known function does.body
    references : AreReferences (before + 1) (numbers_of start.arguments.items) (length known.components) does.references
    is : o ≡ Some does

  record AtSystem (k : ℕ) (o : Option Behaviour) : Type 0 where
    does : Behaviour
    function : Function
    number : interface_number case ≡ Some k
    there : Contains (functions m) function
    named : function.name ≡ sut
    body : IsFunctionBody known function does.body
    references : AreReferences k [] (length known.components) does.references
    is : o ≡ Some does

  record AtNobody (k : ℕ) (o : Option Behaviour) : Type 0 where
    number : interface_number case ≡ Some k
    absent : Contains (map (λ (f : Function). f.name) (functions m)) sut → ⊥
    is : o ≡ None

  abbrev At : Starts → ℕ → Option Behaviour → Type 0
  At starts k o = AtMain k o ⊎ (AtStarted starts k o ⊎ (AtSystem k o ⊎ AtNobody k o))

  at : (starts : Starts) (k : ℕ) (o : Option Behaviour) → Does known (functions m) case starts k o → At starts k o
  at starts k o (d.main x is refs) = inl (record { does = x; number = refl; body = is; references = refs; is = refl })
  at starts k o (d.started j place x f y there start function is refs) =
      inr (inl (record { does = y; before = j; place = place; start = x; function = f; number = refl; placed = there; started = start; function_known = function; body = is; references = refs; is = refl }))
  at starts k o (d.system n f x number there named is refs) =
      inr (inr (inl (record { does = x; function = f; number = number; there = there; named = named; body = is; references = refs; is = refl })))
  at starts k o (d.nobody n number absent) = inr (inr (inr (record { number = number; absent = absent; is = refl })))

  -- the test system interface stands after the components that are made
  behind_created : (k : ℕ) → interface_number case ≡ Some k → length (creations case.setups) + 1 ≡ k
  behind_created k e = by case.system e where
    by : (o : Option (List ℕ)) → option_map (λ _. length (creations case.setups) + 1) o ≡ Some k → length (creations case.setups) + 1 ≡ k
    by None f = absurd (cc)
    by (Some s) f = same_Some (length (creations case.setups) + 1) k f

  -- and these after `mtc`
  among_created : (starts : Starts) → AreStarts (functions m) case starts → (j place : ℕ) → slice_get starts.places.items j ≡ Some place → j < length (creations case.setups)
  among_created starts are j place e =
      let inside = slice_get_within starts.places.items j place e in
      let long = AllZip-long (IsStartPlace (started_names case.starts)) (variables case.setups) starts.places.items are.all in
      omega (arith, inside, long, length-map (creations case.setups) variable_name)

  body_same : (f : Function) (x y : Body) → IsFunctionBody known f x → IsFunctionBody known f y → x ≡ y
  body_same f x y h k = scoped_body_fixed known _ _ _ f.variables f.statements own x y h k

  does_same : (x y : Behaviour) (o p : Option Behaviour) → o ≡ Some x → p ≡ Some y → x.body ≡ y.body → x.references ≡ y.references → o ≡ p
  does_same x y o p e f body references =
      e ∙ ap (λ b. Some (behaviour b x.references)) body ∙ ap (λ r. Some (behaviour y.body r)) references ∙ sym f

  main_fixed : (k : ℕ) (o p : Option Behaviour) → AtMain k o → AtMain k p → o ≡ p
  main_fixed k o p h g =
      does_same h.does g.does o p h.is g.is
      (scoped_body_fixed known _ _ _ case.variables case.statements own h.does.body g.does.body h.body g.body)
      (references_fixed 0 [] (length known.components) h.does.references g.does.references h.references g.references)

  system_fixed : (k : ℕ) (o p : Option Behaviour) → AtSystem k o → AtSystem k p → o ≡ p
  system_fixed k o p h g =
      let same : h.function ≡ g.function = one_function_named m h.function g.function apart h.there g.there (h.named ∙ sym g.named) in
      does_same h.does g.does o p h.is g.is
      (body_same g.function h.does.body g.does.body (subst (λ f. IsFunctionBody known f h.does.body) same h.body) g.body)
      (references_fixed k [] (length known.components) h.does.references g.does.references h.references g.references)

  somebody : (k : ℕ) (o p : Option Behaviour) → AtSystem k o → AtNobody k p → ⊥
  somebody k o p h g =
      let i = place_in (functions m) h.function h.there in
      g.absent (contains_at (map (λ (f : Function). f.name) (functions m)) i.0 sut
      (slice_get-map (λ (f : Function). f.name) (functions m) i.0 ∙ ap (option_map (λ (f : Function). f.name)) i.1 ∙ ap Some h.named))

  -- what starts a component is fixed
  module _ (starts others : Starts) (are : AreStarts (functions m) case starts) (so : AreStarts (functions m) case others) where
    place_same : (j p q : ℕ) → slice_get starts.places.items j ≡ Some p → slice_get others.places.items j ≡ Some q → p ≡ q
    place_same j p q e f =
        let v = zip_at (IsStartPlace (started_names case.starts)) (variables case.setups) starts.places.items j p are.all e in
        let w = zip_at (IsStartPlace (started_names case.starts)) (variables case.setups) others.places.items j q so.all f in
        let same : v.0 ≡ w.0 = same_Some v.0 w.0 (sym v.1 ∙ w.1) in
        same_Some p q (sym (subst (λ n. IsStartPlace (started_names case.starts) n p) same v.2) ∙ w.2)

    abbrev Starting : ComponentStart → StartedComponent → Type 0
    Starting = IsStartOf (functions m) (variables case.setups) (type_names_of case)

    -- the function and the arguments of a start
    record SameStart (x y : StartedComponent) (f g : Function) : Type 0 where
      function : f ≡ g
      arguments : numbers_of x.arguments.items ≡ numbers_of y.arguments.items

    start_same : (p : ℕ) (x y : StartedComponent) (f g : Function) → slice_get starts.starts.items p ≡ Some x → slice_get others.starts.items p ≡ Some y
        → slice_get (functions m) x.function ≡ Some f → slice_get (functions m) y.function ≡ Some g → SameStart x y f g
    start_same p x y f g e i known_f known_g =
        let s = zip_at Starting case.starts starts.starts.items p x are.starts e in
        let t = zip_at Starting case.starts others.starts.items p y so.starts i in
        let same : s.0 ≡ t.0 = same_Some s.0 t.0 (sym s.1 ∙ t.1) in
        let here : Starting t.0 x = subst (λ z. Starting z x) same s.2 in
        let first : here.function ≡ f = same_Some here.function f (sym here.function_known ∙ known_f) in
        let second : t.2.function ≡ g = same_Some t.2.function g (sym t.2.function_known ∙ known_g) in
        record {
          function = one_function_named m f g apart (contains_at (functions m) x.function f known_f) (contains_at (functions m) y.function g known_g)
              (ap (λ (h : Function). h.name) (sym first) ∙ here.named ∙ sym t.2.named ∙ ap (λ (h : Function). h.name) second);
          arguments = ap numbers_of (zip_same (IsArgument (variables case.setups)) (argument_fixed (variables case.setups))
              t.0.arguments x.arguments.items y.arguments.items here.arguments_known t.2.arguments_known);
        }

    started_fixed : (k : ℕ) (o p : Option Behaviour) → AtStarted starts k o → AtStarted others k p → o ≡ p
    started_fixed k o p h g =
        let before : h.before ≡ g.before = omega (arith, h.number, g.number) in
        let place : h.place ≡ g.place = place_same g.before h.place g.place (subst (λ j. slice_get starts.places.items j ≡ Some h.place) before h.placed) g.placed in
        let same = start_same g.place h.start g.start h.function g.function (subst (λ j. slice_get starts.starts.items j ≡ Some h.start) place h.started) g.started
        h.function_known g.function_known in
        does_same h.does g.does o p h.is g.is
        (body_same g.function h.does.body g.does.body (subst (λ f. IsFunctionBody known f h.does.body) same.function h.body) g.body)
        (references_fixed (g.before + 1) (numbers_of g.start.arguments.items) (length known.components) h.does.references g.does.references
        (subst (λ n. AreReferences (n + 1) (numbers_of g.start.arguments.items) (length known.components) h.does.references) before
        (subst (λ l. AreReferences (h.before + 1) l (length known.components) h.does.references) same.arguments h.references))
        g.references)

    by_kind : (k : ℕ) (o p : Option Behaviour) → At starts k o → At others k p → o ≡ p
    by_kind k o p (inl h) (inl g) = main_fixed k o p h g
    by_kind k o p (inl h) (inr (inl g)) = absurd (omega (arith, h.number, g.number))
    by_kind k o p (inl h) (inr (inr (inl g))) = absurd (omega (arith, h.number, behind_created k g.number))
    by_kind k o p (inl h) (inr (inr (inr g))) = absurd (omega (arith, h.number, behind_created k g.number))
    by_kind k o p (inr (inl h)) (inl g) = absurd (omega (arith, h.number, g.number))
    by_kind k o p (inr (inl h)) (inr (inl g)) = started_fixed k o p h g
    by_kind k o p (inr (inl h)) (inr (inr (inl g))) =
        absurd (omega (arith, h.number, among_created starts are h.before h.place h.placed, behind_created k g.number))
    by_kind k o p (inr (inl h)) (inr (inr (inr g))) =
        absurd (omega (arith, h.number, among_created starts are h.before h.place h.placed, behind_created k g.number))
    by_kind k o p (inr (inr (inl h))) (inl g) = absurd (omega (arith, g.number, behind_created k h.number))
    by_kind k o p (inr (inr (inl h))) (inr (inl g)) =
        absurd (omega (arith, g.number, among_created others so g.before g.place g.placed, behind_created k h.number))
    by_kind k o p (inr (inr (inl h))) (inr (inr (inl g))) = system_fixed k o p h g
    by_kind k o p (inr (inr (inl h))) (inr (inr (inr g))) = absurd (somebody k o p h g)
    by_kind k o p (inr (inr (inr h))) (inl g) = absurd (omega (arith, g.number, behind_created k h.number))
    by_kind k o p (inr (inr (inr h))) (inr (inl g)) =
        absurd (omega (arith, g.number, among_created others so g.before g.place g.placed, behind_created k h.number))
    by_kind k o p (inr (inr (inr h))) (inr (inr (inl g))) = absurd (somebody k p o g h)
    by_kind k o p (inr (inr (inr h))) (inr (inr (inr g))) = h.is ∙ sym g.is

    pub does_fixed : (k : ℕ) (o p : Option Behaviour) → Does known (functions m) case starts k o → Does known (functions m) case others k p → o ≡ p
    does_fixed k o p h g = by_kind k o p (at starts k o h) (at others k p g)
