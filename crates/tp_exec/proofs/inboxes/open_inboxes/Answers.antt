-- Before the first component no inbox is opened.
use Rattle.tp_exec.proofs.OpenedInboxes.{opened_none}
use Rattle.tp_exec.proofs.inboxes.open_inboxes.Goals as goal

pub loop-place-init : goal.loop-place-init
loop-place-init c = opened_none c.args.config.now _ c.new.ensures.items c.new-2.ensures.items c.new-3.ensures.items
