-- The opened inboxes with their senders handed out are the workers of the run.
use Rattle.tp_exec.proofs.WorkersWithSenders.{senders_apart, senders_within, are_workers, have_not_begun}
use Rattle.tp_exec.proofs.inboxes.make_workers.Goals as goal

pub hand_out-requires-clause-within : goal.hand_out-requires-clause-within
hand_out-requires-clause-within c =
    senders_within c.args.config.now c.open_inboxes.ensures.lawful c.in_ok-workers.field-0 c.in_ok-workers.ensures.opened

pub hand_out-requires-clause-apart : goal.hand_out-requires-clause-apart
hand_out-requires-clause-apart c =
    senders_apart c.args.config.now c.open_inboxes.ensures.lawful c.in_ok-workers.field-0 c.in_ok-workers.ensures.opened

pub returns-clause-workers : goal.returns-clause-workers
returns-clause-workers c =
    are_workers c.args.config.now c.open_inboxes.ensures.lawful c.in_ok-workers.field-0 c.in_ok-equipped.equipped.items c.in_ok-workers.ensures.opened
    c.in_ok-equipped.ensures

pub returns-clause-begun : goal.returns-clause-begun
returns-clause-begun c =
    have_not_begun c.args.config.now c.open_inboxes.ensures.lawful c.in_ok-workers.field-0 c.in_ok-equipped.equipped.items c.in_ok-workers.ensures.opened
    c.in_ok-equipped.ensures

pub returns-clause-closers : goal.returns-clause-closers
returns-clause-closers c = c.in_ok-workers.ensures.opened.closers
