-- What had arrived and the rest are what the senders have put, on the inbox's routes and at ports that there are.
use Rattle.std.proofs.Common.{ℕ, ◌<◌, ◌++◌, All, map, sym, subst}
use Rattle.tp_common.specs.declared.event.Env.{Env}
use Rattle.tp_value.specs.declared.message.Message.{Message}
use Rattle.tp_inbox.specs.Routed.{AreDelivered, AreArrivalsNumbered, IsArrivalOn, rest_arrivals}
use Rattle.tp_inbox.specs.Ledgers.{Inbox, put_by}
use Rattle.tp_inbox.proofs.InboxRestAfterHistory.{rest_within}
use Rattle.tp_exec.proofs.AllInboxSendersReturn.{all_routed}
use Rattle.tp_exec.proofs.settling.settle.Goals as goal

pub returns-in-Ok-clause-delivered : goal.returns-in-Ok-clause-delivered
returns-in-Ok-clause-delivered g c =
    let all = c.args.desk.now.log ++ rest_arrivals c.in-Ok.rest.items in
    subst (λ (i : Inbox). AreDelivered i.comp all (map put_by c.args.senders.items)) c.gather-gathered.ensures.inbox
    (subst (AreDelivered c.gather-gathered.result.inbox.comp all) c.gather-gathered.ensures.sent c.in-Ok.ensures.delivered)

pub returns-in-Ok-clause-numbered : goal.returns-in-Ok-clause-numbered
returns-in-Ok-clause-numbered g c =
    subst (λ (i : Inbox). AreArrivalsNumbered i.routes (c.args.desk.now.log ++ rest_arrivals c.in-Ok.rest.items)) c.gather-gathered.ensures.inbox
    c.in-Ok.ensures.numbered

pub returns-in-Ok-clause-routed : goal.returns-in-Ok-clause-routed
returns-in-Ok-clause-routed g c =
    let rest = c.in-Ok.rest.items in
    all_routed c.args.owner.inbox.routes c.args.desk.now.log c.args.owner.drained rest c.requires.arrived c.gather-gathered.ensures.routed
    (subst (λ (i : Inbox). All (IsArrivalOn i.routes) (rest_arrivals rest)) c.gather-gathered.ensures.inbox c.in-Ok.ensures.routed)

pub returns-in-Ok-clause-within : goal.returns-in-Ok-clause-within
returns-in-Ok-clause-within g c =
    let i = c.args.owner.inbox in
    let rest = c.in-Ok.rest.items in
    subst (λ n. All (λ (x : ℕ × Env Message × ℕ). x.0 < n) rest) (sym c.requires.desk.1)
    (rest_within i.comp i.ports i.routes rest c.gather-gathered.ensures.are
    (subst (λ (j : Inbox). All (IsArrivalOn j.routes) (rest_arrivals rest)) c.gather-gathered.ensures.inbox c.in-Ok.ensures.routed))
