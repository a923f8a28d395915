-- To take out, or to find the queue empty, is a step of the rule, and what is known of the owner's pass is kept.
use Rattle.tp_inbox.proofs.StepsKeepDeliveryRule.{takes_as, learns_as}
use Rattle.tp_inbox.proofs.OwnerStepInvariants.{sound_after}
use Rattle.tp_inbox.proofs.owner.take_out.Goals as goal

pub pop_as-requires-clause-rule : goal.pop_as-requires-clause-rule
pop_as-requires-clause-rule g c = (takes_as _ _ _ _ _ c.requires.sound.owner, learns_as _ _ _ _ _ c.requires.sound.owner)

pub returns-clause-sound : goal.returns-clause-sound
returns-clause-sound g c = sound_after _ c.pop_as.result _ _ c.requires.sound c.pop_as.ensures.rule
