-- There are the types of the list.
use Rattle.tp_config.proofs.directions.types_of.Goals as goal

pub returns-in-Some : goal.returns-in-Some
returns-in-Some c = λ ty. rw c.in-Some.is (c.distinct.ensures.same ty)
