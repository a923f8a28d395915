-- Each entry adds its message, if it has one.
use Rattle.tp_inbox.proofs.MessagesPutOnRoute.{next_entry}
use Rattle.tp_inbox.proofs.settled.messages_of.Goals as goal

pub loop-entry-preserved : goal.loop-entry-preserved
loop-entry-preserved c =
    next_entry c.args.route c.args.log.now c.loop-entry.entry-index c.entry-item.result c.loop-entry-test.true c.entry-item.is c.loop-entry.messages.items _
    c.loop-entry.invariant c.in_ok-add_entry.ensures
