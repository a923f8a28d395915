-- What a component does.
use Rattle.std.specs.Prelude.{ℕ, Option, List}
use Rattle.std.specs.Option.{option_map_or}
use Rattle.tp_play.specs.declared.body.Body.{Body}
use Rattle.tp_play.specs.Sizes.{size_of_body}

-- what a component does: a body, and the numbers of the components that its references name
pub record Behaviour : Type 0 where
  pub body : Body
  pub references : List ℕ

-- how many statements a component executes at most: the block of a `for` counts once for each turn
abbrev pub size_of_behaviour : Option Behaviour → ℕ
size_of_behaviour d = option_map_or (λ (d : Behaviour). size_of_body d.body) d 0
