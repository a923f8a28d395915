-- Which instances of bodies the components of a test case have.
use Rattle.std.specs.Prelude.{◌≡◌, ◌<◌, ◌≤◌, ◌+◌, ℕ, Option, Some, None, List, [], All, map, slice_get, length, IsSome}
use Rattle.std.specs.{Prelude.is_some, List.slice_index_or}
use Rattle.std.specs.Prelude.{if◌then◌else◌}
use Rattle.tp_checks.specs.declared.prepared.Prepared.{Prepared}
use Rattle.tp_checks.specs.declared.starts.StartedComponent.{StartedComponent}
use Rattle.tp_checks.specs.{Rules.sut, Tables.place_of_name}
use Rattle.tp_play.specs.declared.instance.{Instance.Instance, WhichBody.WhichBody}
use Rattle.tp_play.specs.declared.instance.WhichBody.TheVariants as which_body
use Rattle.tp_script.specs.{Scopes.Known, Behaviours.AreReferences}

-- what the bodies may use, after the first three passes
abbrev pub known_in : Prepared → Known
known_in p =
    record {
      types = p.types;
      component_types = p.sorted.component_names;
      ports = p.config.types;
      components = p.variables;
    }

-- the component of this number has this instance of a body
pub data IsInstance (p : Prepared) : ℕ → Option Instance → Type 0 where
  main : (x : Instance) → x.which_body ≡ which_body.TestCase
      → AreReferences 0 [] (length p.variables) (map (λ c. c.0) x.references.items)
      → IsInstance p 0 (Some x)
  started : (k place : ℕ) (s : StartedComponent) (x : Instance) → slice_get p.starts.places.items k ≡ Some place
      → slice_get p.starts.starts.items place ≡ Some s → x.which_body ≡ which_body.Function s.function
      → AreReferences (k + 1) (map (λ c. c.0) s.arguments.items) (length p.variables)
      (map (λ c. c.0) x.references.items)
      → IsInstance p (k + 1) (Some x)
  system : (n place : ℕ) (x : Instance) → IsSome p.case.case.now.system → n ≡ length p.starts.places.items + 1
      → place_of_name p.sorted.function_names sut ≡ Some place → x.which_body ≡ which_body.Function place
      → AreReferences n [] (length p.variables) (map (λ c. c.0) x.references.items)
      → IsInstance p n (Some x)
  nobody : (n : ℕ) → IsSome p.case.case.now.system → n ≡ length p.starts.places.items + 1
      → place_of_name p.sorted.function_names sut ≡ None
      → IsInstance p n None

-- the components have these instances of bodies, by their numbers
abbrev pub AreInstances : Prepared → List (Option Instance) → Type 0
AreInstances p instances = (k : ℕ) (x : Option Instance) → slice_get instances k ≡ Some x → IsInstance p k x

-- how many components there are: `mtc`, those that are started, and the test system interface
abbrev pub instance_count : Prepared → ℕ
instance_count p = length p.starts.places.items + 1 + (if is_some p.case.case.now.system then 1 else 0)

-- the size of a component's body, given that of the test case's own body and those of the functions' bodies
abbrev pub size_from : ℕ → List ℕ → WhichBody → ℕ
size_from own functions which_body.TestCase = own
size_from own functions (which_body.Function place) = slice_index_or functions place 0

abbrev pub size_of_instance : ℕ → List ℕ → Option Instance → ℕ
size_of_instance own functions None = 0
size_of_instance own functions (Some instance) = size_from own functions instance.which_body

-- there are at most 63 component variables, and each is started
pub record AreFew (p : Prepared) : Type 0 where
  pub few : length p.variables ≤ 63
  pub as_many : length p.starts.places.items ≡ length p.variables
  pub started : All (λ place. place < length p.starts.starts.items) p.starts.places.items
