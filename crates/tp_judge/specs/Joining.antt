-- Which components have a section, and which routes have one at both ends.
use Rattle.std.specs.Prelude.{◌≡◌, ◌↔◌, ℕ, Bool, true, Some, List, Contains, IsTrue, slice_get}
use Rattle.std.specs.List.{AllZip}
use Rattle.tp_judge.specs.LineTexts.{Told}
use Rattle.tp_judge.specs.Tree.{names_of}
use Rattle.tp_judge.specs.declared.referee.tables.RouteKey.{RouteKey}

-- for each of these components, whether it has a section
abbrev pub AreSections : List Told → List (List ℕ) → List Bool → Type 0
AreSections tolds components sections =
    AllZip (λ name flag. IsTrue flag ↔ Contains (names_of tolds) name) components sections

-- both ends of the route have a section
pub record IsJoinedBy (owners : List ℕ) (sections : List Bool) (route : RouteKey) : Type 0 where
  pub owner : ℕ
  pub owned : slice_get owners route.port ≡ Some owner
  pub sender : slice_get sections route.sender ≡ Some true
  pub receiver : slice_get sections owner ≡ Some true

-- for each of these routes, whether both its ends have a section
abbrev pub AreJoinedBy : List ℕ → List Bool → List RouteKey → List Bool → Type 0
AreJoinedBy owners sections routes joined =
    AllZip (λ route flag. IsTrue flag ↔ IsJoinedBy owners sections route) routes joined
