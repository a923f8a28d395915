-- The pass may be split once more, for the next route, and at the end there are the senders of all.
use Rattle.std.proofs.Common.{◌≡◌, length, arith}
use Rattle.std.specs.Arc.{arc_value}
use Rattle.tp_inbox.specs.InboxEndFields.{inbox_of}
use Rattle.tp_inbox.proofs.StepsKeepDeliveryRule.{splits_as}
use Rattle.tp_inbox.proofs.SendersBySourceComponent.{made_all}
use Rattle.tp_inbox.proofs.making.split.Goals as goal

pub another-theirs-requires-clause-rule : goal.another-theirs-requires-clause-rule
another-theirs-requires-clause-rule c = splits_as _ _ _ _ _ c.loop-place.invariant.view

pub returns-clause-senders : goal.returns-clause-senders
returns-clause-senders c =
    let inbox = inbox_of (arc_value c.args.channel.now) in
    let all : c.loop-place.place ≡ length inbox.routes = omega (arith, c.loop-place.auto.place-end, c.loop-place-test.false, c.loop-place.invariant.count) in
    made_all inbox c.loop-place.place c.loop-place.senders.items all c.loop-place.invariant.senders
