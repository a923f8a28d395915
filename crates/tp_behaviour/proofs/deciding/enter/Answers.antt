-- The variables are set as the chosen branch says.
use Rattle.std.proofs.lemmas.Option.{slice_get-get_or}
use Rattle.tp_behaviour.specs.Outcomes.{depth_of, stage_at}
use Rattle.tp_behaviour.proofs.AltChoicesWithinBounds.{sets}
use Rattle.tp_behaviour.proofs.PlayableBlocksAndBranches.{receives_at}
use Rattle.tp_behaviour.proofs.deciding.enter.Goals as goal

pub redirect-requires-clause-can : goal.redirect-requires-clause-can
redirect-requires-clause-can c =
    receives_at (stage_at c.args.task.now) (depth_of c.args.frame.now) c.args.branches.now c.args.place c.index-branches-place.result c.requires.can
    c.requires.there

-- they are those of the branch at this place
pub returns-clause-set : goal.returns-clause-set
returns-clause-set c =
    sets _ c.args.branches.now c.args.place _ _ _ (slice_get-get_or c.args.branches.now c.args.place c.index-branches-place.result c.requires.there)
    c.in_ok-redirect.ensures.set
