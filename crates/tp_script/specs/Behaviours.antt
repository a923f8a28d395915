-- What the components of a test case do.
use Rattle.std.specs.Prelude.{◌≡◌, ◌<◌, ◌+◌, ℕ, Option, Some, None, List, [], ◌∷◌, ◌++◌, Contains, length, map}
use Rattle.std.specs.Prelude.{slice_get}
use Rattle.tp_tree.specs.declared.tree.{Function.Function, TestCase.TestCase}
use Rattle.tp_checks.specs.declared.starts.{StartedComponent.StartedComponent, Starts.Starts}
use Rattle.tp_checks.specs.{Configuring.interface_number, Rules.sut}
use Rattle.tp_play.specs.Behaviours.{Behaviour}
use Rattle.tp_script.specs.Scopes.{Known, IsMainBody, IsFunctionBody}

-- `after` is `before` followed by the numbers of the components of `count` component variables: 1, 2, ..
pub record Numbers (count : ℕ) (before after : List ℕ) : Type 0 where
  pub variables : List ℕ
  pub as_many : length variables ≡ count
  pub numbered : (k : ℕ) → k < count → slice_get variables k ≡ Some (k + 1)
  pub all : after ≡ before ++ variables

-- the components that the references of a body name: `mtc`, the component itself, the arguments of its start, and the
-- component variables of the test case
abbrev pub AreReferences : ℕ → List ℕ → ℕ → List ℕ → Type 0
AreReferences itself arguments count references = Numbers count (0 ∷ itself ∷ arguments) references

-- the behaviour of the component of this number, given the functions and the starts
pub data Does (known : Known) (functions : List Function) (case : TestCase) (starts : Starts)
    : ℕ → Option Behaviour → Type 0 where
  -- `mtc`: the test case's own body
  main : (d : Behaviour) → IsMainBody known case d.body → AreReferences 0 [] (length known.components) d.references
      → Does known functions case starts 0 (Some d)
  -- a created component: the body of the function that its start names, with the arguments of this start
  started : (k place : ℕ) (x : StartedComponent) (f : Function) (d : Behaviour) → slice_get starts.places.items k ≡ Some place
      → slice_get starts.starts.items place ≡ Some x → slice_get functions x.function ≡ Some f
      → IsFunctionBody known f d.body
      → AreReferences (k + 1) (map (λ c. c.0) x.arguments.items) (length known.components) d.references
      → Does known functions case starts (k + 1) (Some d)
  -- the test system interface: the body of `sut`
  system : (n : ℕ) (f : Function) (d : Behaviour) → interface_number case ≡ Some n → Contains functions f
      → f.name ≡ sut → IsFunctionBody known f d.body
      → AreReferences n [] (length known.components) d.references
      → Does known functions case starts n (Some d)
  -- or nothing, if no function has that name
  nobody : (n : ℕ) → interface_number case ≡ Some n
      → (Contains (map (λ (f : Function). f.name) functions) sut → ⊥)
      → Does known functions case starts n None
