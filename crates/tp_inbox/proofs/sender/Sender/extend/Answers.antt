-- A pass that has put nothing gives its route over, by a step of the rule.
use Rattle.std.proofs.Common.{rules, ◌≡◌, ◌∷◌, [], ◌++◌}
use Rattle.tp_inbox.proofs.StepsKeepDeliveryRule.{pairs_as}
use Rattle.tp_inbox.proofs.SenderPutInvariants.{widened}
use Rattle.tp_inbox.proofs.sender.Sender.extend.Goals as goal

pub absorb-requires-clause-rule : goal.absorb-requires-clause-rule
absorb-requires-clause-rule c =
    pairs_as _ _ _ _ c.self.inside.places.items c.self.inside.pass.me.view.client.put (c.args.place ∷ []) c.self.invariant.view c.requires.view

pub invariant_of-self-2 : goal.invariant_of-self-2
invariant_of-self-2 c =
    let places : c.push_reserved.new.self.items ≡ c.self.inside.places.items ++ c.args.place ∷ [] = search rules in
    let counts : c.push_reserved-2.new.self.items ≡ c.self.inside.counts.items ++ 0 ∷ [] = search rules in
    let w = widened c.self.inside _ c.args.other.me.view.client c.absorb.new.pass.me.view.client c.args.place c.push_reserved.new.self.items
    c.push_reserved-2.new.self.items c.self.invariant c.self.view_is c.requires.fresh c.requires.view c.absorb.ensures.rule places counts
    c.requires.place c.requires.apart in
    record {
      pass = search rules;
      view = w.view;
      low = w.low;
      apart = w.apart;
      routed = w.routed;
      counts = w.told;
    }
