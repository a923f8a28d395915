-- How a test case keeps the behaviours of its components.
use Rattle.std.specs.Prelude.{Option, Some, None, map, slice_get}
use Rattle.std.specs.Option.{option_map}
use Rattle.tp_play.specs.declared.body.Body.{Body}
use Rattle.tp_play.specs.declared.instance.Instance.{Instance}
use Rattle.tp_play.specs.declared.instance.WhichBody.{WhichBody}
use Rattle.tp_play.specs.declared.instance.WhichBody.TheVariants as which_body
use Rattle.tp_play.specs.declared.bodies.Bodies.{Bodies}
use Rattle.tp_play.specs.Behaviours.{Behaviour}

-- the body of the test case, or of the function at this place
abbrev pub body_in : Bodies → WhichBody → Option Body
body_in bodies which_body.TestCase = Some bodies.main
body_in bodies (which_body.Function place) = slice_get bodies.functions.items place

abbrev pub behaviour_in : Bodies → Instance → Option Behaviour
behaviour_in bodies instance =
    option_map (λ b. record { body = b; references = map (λ c. c.0) instance.references.items })
    (body_in bodies instance.which_body)

-- the behaviour of a component that has this instance of a body, or none
abbrev pub behaviour_of : Bodies → Option Instance → Option Behaviour
behaviour_of bodies None = None
behaviour_of bodies (Some instance) = behaviour_in bodies instance
