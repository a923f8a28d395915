-- The senders that came back are the inbox's, and what they have put is what has come.
use Rattle.std.proofs.Common.{◌≡◌, All, map, refl, sym, ap, subst}
use Rattle.tp_inbox.specs.Desks.{Journal, adding_all}
use Rattle.tp_inbox.specs.History.{arrivals}
use Rattle.tp_inbox.specs.Ledgers.{put_by}
use Rattle.tp_inbox.specs.Routed.{AreDelivered, AreArrivalsNumbered, IsArrivalOn, rest_arrivals}
use Rattle.tp_exec.proofs.AllInboxSendersReturn.{are_senders, has_all}
use Rattle.tp_exec.proofs.settling.settle_one.Goals as goal

pub settle-requires-clause-senders : goal.settle-requires-clause-senders
settle-requires-clause-senders g c =
    let w = c.requires.held in
    are_senders w.0 c.args.idle.owner.inbox c.in_ok-senders.senders.items (c.in_ok-senders.ensures.back w.0 w.1 w.2)

pub returns-clause-end : goal.returns-clause-end
returns-clause-end g c =
    let d = c.args.idle.desk in
    let i = c.args.idle.owner.inbox in
    let rest = c.in_ok-rest.rest.items in
    let grown : c.append.new.desk ≡ adding_all d (rest_arrivals rest) = c.in_ok-append.ensures in
    record {
      outcome = refl;
      comp = ap (λ (j : Journal). j.comp) grown;
      ports = ap (λ (j : Journal). j.ports) grown;
      rest = rest;
      grown = ap (λ (j : Journal). j.log) grown;
      sound = record { lawful = c.log-log.ensures.lawful; within = c.log-log.ensures.within; clocked = c.log-log.ensures.clocked };
      routed = subst (λ (j : Journal). All (IsArrivalOn i.routes) (arrivals j.log)) (sym grown) c.in_ok-rest.ensures.routed;
      counts = c.in_ok-senders.ensures.routes;
    }

pub returns-clause-come : goal.returns-clause-come
returns-clause-come g c = λ logs more h.
    let d = c.args.idle.desk in
    let i = c.args.idle.owner.inbox in
    let ss = c.in_ok-senders.senders.items in
    let rest = c.in_ok-rest.rest.items in
    let grown : c.append.new.desk ≡ adding_all d (rest_arrivals rest) = c.in_ok-append.ensures in
    has_all logs i record { desk = c.append.new.desk; outcome = c.args.idle.outcome; counts = c.in_ok-senders.counts } ss
    (c.in_ok-senders.ensures.back logs more h)
    (subst (λ (j : Journal). AreDelivered i.comp j.log (map put_by ss)) (sym grown) c.in_ok-rest.ensures.delivered)
    (subst (λ (j : Journal). AreArrivalsNumbered i.routes j.log) (sym grown) c.in_ok-rest.ensures.numbered) c.settle.ensures.are.here
    c.in_ok-senders.ensures.counted
