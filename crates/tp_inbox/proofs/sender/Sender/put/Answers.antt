-- To put is a step of the rule, and the sender keeps what it has put.
use Rattle.std.proofs.Common.{◌≡◌, true, rules, length, get_or, refl, sym, ap, ◌∙◌, subst}
use Rattle.std.proofs.lemmas.List.{get_or_read_under}
use Rattle.tp_inbox.specs.declared.envelope.InboxEnvelope.{InboxEnvelope}
use Rattle.tp_inbox.specs.declared.stamped.Stamped.{Stamped}
use Rattle.tp_inbox.specs.Envelopes.{of, has}
use Rattle.tp_inbox.specs.Ledgers.{putting}
use Rattle.tp_inbox.proofs.StepsKeepDeliveryRule.{sends_as}
use Rattle.tp_inbox.proofs.SenderPutInvariants.{on_way, has-at, grown, ledger_after}
use Rattle.tp_inbox.proofs.sender.Sender.put.Goals as goal

pub push_as-requires-clause-rule : goal.push_as-requires-clause-rule
push_as-requires-clause-rule g c n =
    let s = c.self.inside in
    let put = s.pass.me.view.client.put in
    let k = on_way s _ c.args.way c.self.invariant c.self.view_is c.requires in
    let at : c.index.result.now ≡ get_or s.places.items c.args.way 0 = get_or_read_under s.places.items c.args.way _ _ 0 c.index.ensures k.0 refl in
    sends_as n _ _ s.places.items put _ c.self.invariant.view (subst (λ q. has s.places.items q ≡ true) (sym at) (has-at s.places.items c.args.way 0 k.0))
    (c.count-number.ensures ∙ ap length k.1 ∙ ap (λ q. length (of q put)) (sym at))

pub invariant_of-self : goal.invariant_of-self
invariant_of-self g c =
    let s = c.self.inside in
    let was = c.self.invariant in
    let k = on_way s _ c.args.way was c.self.view_is c.requires in
    let at : c.index.result.now ≡ get_or s.places.items c.args.way 0 = get_or_read_under s.places.items c.args.way _ _ 0 c.index.ensures k.0 refl in
    let e : InboxEnvelope = record { place = c.index.result.now; number = c.count-number.result; stamped = c.in-Ok.stamped } in
    let more = grown s _ c.push_as.new.pass.me.view.client c.args.way e _ was c.self.view_is c.requires at c.count-number.ensures
    c.in-Ok-push_as.ensures.rule.0 (search rules) in
    record {
      pass = search rules;
      view = more.view;
      low = was.low;
      apart = was.apart;
      routed = more.routed;
      counts = more.told;
    }

pub returns-in-Ok-push_as-clause-ok : goal.returns-in-Ok-push_as-clause-ok
returns-in-Ok-push_as-clause-ok g c =
    let s = c.self.inside in
    let k = on_way s _ c.args.way c.self.invariant c.self.view_is c.requires in
    let at : c.index.result.now ≡ get_or s.places.items c.args.way 0 = get_or_read_under s.places.items c.args.way _ _ 0 c.index.ensures k.0 refl in
    let e : InboxEnvelope = record { place = c.index.result.now; number = c.count-number.result; stamped = c.in-Ok.stamped } in
    let put = ledger_after s _ c.push_as.new.pass.me.view.client c.args.way e c.self.invariant c.self.view_is c.requires at c.count-number.ensures
    c.in-Ok-push_as.ensures.rule.0 in
    (λ i. record { inbox = (c.self.view_is i).inbox; source = (c.self.view_is i).source; routes = (c.self.view_is i).routes; ledger = put i })
    ∙ ap (λ (stamped : Stamped). putting c.args.self.now c.args.way stamped) c.in-Ok.ensures.ok
