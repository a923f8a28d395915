-- The next component has its inbox and its desk, and the senders into it stand after the others.
use Rattle.std.proofs.Common.{length, ap, ◌∙◌}
use Rattle.std.proofs.lemmas.List.{length_push}
use Rattle.tp_exec.proofs.OpenedInboxes.{opened_next}
use Rattle.tp_exec.proofs.inboxes.open_next.Goals as goal

pub returns : goal.returns
returns c =
    let made = c.in_ok-owner.ensures in
    let had = c.args.opened.now in
    opened_next c.args.config.now c.args.comp.0 had _ _ c.in_ok-owner.senders.items c.requires.before
    (record { comp = made.comp; ports = made.ports; routes = made.routes; drained = made.drained; desk = c.in_ok-desk.ensures.desk })
    c.new-2.ensures made.senders c.in_ok-push.ensures.items c.in_ok-append.ensures.items
    (ap length c.in_ok-push-2.ensures.items ∙ length_push had.closers.items _)
