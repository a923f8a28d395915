-- A name stands for one thing: the rules of look-ups fix what they give.
use Rattle.std.proofs.Common.{Contains, subst, ◌⊎◌, inl, inr, ◌≡◌, ℕ, ◌<◌, ◌≤◌, List, ◌++◌, Option, Some, None, option_map, slice_get, refl, sym, ap, ◌∙◌, arith}
use Rattle.std.proofs.lemmas.Bool.{cases_lt}
use Rattle.std.proofs.lemmas.Option.{same_Some, slice_get-get_or, slice_get_within, get_or_from_slice_get}
use Rattle.tp_value.specs.declared.types.{Ty.Ty, Types.Types}
use Rattle.tp_value.specs.declared.types.Ty.TheVariants as ty
use Rattle.tp_value.specs.Types.{type_number}
use Rattle.tp_config.specs.declared.port_type.PortType.{PortType}
use Rattle.tp_tree.specs.declared.message.TypeName.{TypeName}
use Rattle.tp_tree.specs.declared.message.TypeName.TheVariants as t
use Rattle.tp_tree.specs.declared.tree.ComponentName.{ComponentName}
use Rattle.tp_tree.specs.declared.tree.ComponentName.TheVariants as c
use Rattle.tp_play.specs.declared.body.VariableType.{VariableType}
use Rattle.tp_play.specs.declared.body.VariableType.TheVariants as kind
use Rattle.tp_checks.specs.declared.scope.Variables.{Variables}
use Rattle.tp_checks.specs.{Named.IsPlace, Named.IsAbsent, Bodies.IsVariableType}
use Rattle.tp_checks.specs.Scoping.{IsPortNamed, IsReference, IsType, IsVariable, Visible}
use Rattle.tp_checks.specs.Bodies as b
use Rattle.tp_checks.specs.Scoping as d

pub place_fixed : (names : List (List ℕ)) (name : List ℕ) (j k : ℕ) → IsPlace names name j → IsPlace names name k → j ≡ k
place_fixed names name j k p q = by (cases_lt j k) (cases_lt k j) where
  by : (j < k) ⊎ (k ≤ j) → (k < j) ⊎ (j ≤ k) → j ≡ k
  by (inl lt) after = absurd (q.first j lt p.there)
  by (inr le) (inl gt) = absurd (p.first k gt q.there)
  by (inr le) (inr ge) = omega arith

pub port_fixed : (scope : Visible) (name : List ℕ) (j k : ℕ) (p q : PortType) → IsPortNamed scope name j p → IsPortNamed scope name k q → p ≡ q
port_fixed scope name j k p q a b =
    same_Some p q (sym a.typed ∙ ap (slice_get scope.ports.types) (place_fixed _ name j k a.named b.named) ∙ b.typed)

pub variable_fixed : (vs : Variables) (name : List ℕ) (j k : ℕ) (h g : VariableType) → IsVariable vs name j h → IsVariable vs name k g → h ≡ g
variable_fixed vs name j k h g a b =
    same_Some h g (sym a.typed ∙ ap (slice_get vs.types) (place_fixed vs.names name j k a.named b.named) ∙ b.typed)

pub message_fixed : (vs : Variables) (name : List ℕ) (j k : ℕ) (u v : Ty) → IsVariable vs name j (kind.Message u) → IsVariable vs name k (kind.Message v)
    → u ≡ v
message_fixed vs name j k u v a b = let same = variable_fixed vs name j k (kind.Message u) (kind.Message v) a b in cc

module _ (types : Types) where
  -- the type that a name stands for, if there is one
  stands : TypeName → Option Ty
  stands t.Integer = Some ty.Integer
  stands t.Boolean = Some ty.Boolean
  stands t.Charstring = Some ty.Charstring
  stands (t.Named n) = option_map ty.Named (type_number types n)

  type_stands : {x : TypeName} {u : Ty} → IsType types x u → stands x ≡ Some u
  unfolding stands
  type_stands d.integer = refl
  type_stands d.boolean = refl
  type_stands d.charstring = refl
  type_stands (d.type_named n k e) = ap (option_map ty.Named) e

  pub type_fixed : (x : TypeName) (u v : Ty) → IsType types x u → IsType types x v → u ≡ v
  type_fixed x u v a b = same_Some u v (sym (type_stands a) ∙ type_stands b)

  -- a name that stands for no type has no number
  pub no_number : (n : List ℕ) → ((u : Ty) → IsType types (t.Named n) u → ⊥) → type_number types n ≡ None
  no_number n none = by (type_number types n) refl where
    by : (o : Option ℕ) → type_number types n ≡ o → o ≡ None
    by None e = refl
    by (Some k) e = absurd (none (ty.Named k) (d.type_named n k e))

-- what a variable holds, by the type that its name stands for
holds : Option Ty → VariableType
holds (Some u) = kind.Message u
holds None = kind.Component

held_as : {scope : Visible} {x : TypeName} {h : VariableType} → IsVariableType scope x h → h ≡ holds (stands scope.types x)
unfolding holds stands
held_as {scope} (b.message x u h) = ap holds (sym (type_stands scope.types h))
held_as (b.component n k none p) = ap (λ o. holds (option_map ty.Named o)) (sym none)

pub held_fixed : (scope : Visible) (x : TypeName) (h g : VariableType) → IsVariableType scope x h → IsVariableType scope x g → h ≡ g
held_fixed scope x h g a c = held_as a ∙ sym (held_as c)

-- what is looked up stands nowhere else
pub absent_place : (names : List (List ℕ)) (name : List ℕ) (k : ℕ) → IsAbsent names name → IsPlace names name k → ⊥
absent_place names name k absent p = absent k p.there

pub absent_contained : (names : List (List ℕ)) (name : List ℕ) → IsAbsent names name → Contains names name → ⊥
absent_contained names name absent (k, below, is) = absent k (slice_get-get_or names k name below ∙ ap Some is)

pub contained_at : (names : List (List ℕ)) (name : List ℕ) (k : ℕ) → slice_get names k ≡ Some name → Contains names name
contained_at names name k there = (k, slice_get_within names k name there, get_or_from_slice_get names k name name there)

-- a reference that isn't there
module _ (scope : Visible) (variables : Variables) (turns : List (List ℕ)) where
  Stands : ComponentName → Type 0
  Stands c.Mtc = Unit {0}
  Stands c.SelfComponent = Unit {0}
  Stands (c.Named n) =
      IsAbsent turns n × IsAbsent variables.names n
      × ((k : ℕ) × IsPlace (scope.parameters ++ scope.component_variables) n k)

  reference_stands : {x : ComponentName} {k : ℕ} → IsReference scope variables turns x k → Stands x
  unfolding Stands
  reference_stands d.mtc = tt
  reference_stands d.itself = tt
  reference_stands (d.component_named n k a b p) = (a, b, (k, p))

  pub reference_named : (x : ComponentName) (n : List ℕ) (k : ℕ) → x ≡ c.Named n → IsReference scope variables turns x k
      → IsAbsent turns n × IsAbsent variables.names n
      × ((j : ℕ) × IsPlace (scope.parameters ++ scope.component_variables) n j)
  unfolding Stands
  reference_named x n k e h = subst Stands e (reference_stands h)
