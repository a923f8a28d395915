-- What contracts see of what a component does.
use Rattle.std.specs.Prelude.{map}
use Rattle.tp_play.specs.declared.test_case.Behaviour.{Behaviour as BorrowedBehaviour}
use Rattle.tp_play.specs.Behaviours.{Behaviour}

abbrev pub as_behaviour : BorrowedBehaviour → Behaviour
as_behaviour c = record { body = c.body.now; references = map (λ x. x.0) c.references.now }
