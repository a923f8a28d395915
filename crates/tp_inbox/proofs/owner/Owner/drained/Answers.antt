-- A route that is found has its own count, and of one that isn't nothing has come.
use Rattle.std.proofs.Common.{◌∙◌, ◌<◌, length, arith, sym}
use Rattle.std.proofs.lemmas.List.{get_or_read}
use Rattle.tp_inbox.proofs.OwnerDrainedEnvelopes.{counted_at, none_counted}
use Rattle.tp_inbox.proofs.owner.Owner.drained.Goals as goal

-- what is found is a place of the counts
pub index-requires : goal.index-requires
index-requires c =
    let low = (c.self.invariant.places.known c.args.route c.in-Some.place (sym c.place_of.ensures ∙ c.in-Some.is)).0 in
    omega (arith, low, c.self.invariant.counts.0, c.self.inside.counts.ok.0)

pub returns-in-Some : goal.returns-in-Some
returns-in-Some c =
    let place = c.in-Some.place in
    let counts = c.self.inside.counts.items in
    let found = sym c.place_of.ensures ∙ c.in-Some.is in
    let low = (c.self.invariant.places.known c.args.route place found).0 in
    let within : place < length counts = omega (arith, low, c.self.invariant.counts.0) in
    counted_at c.self.inside _ c.args.route place _ c.self.invariant c.self.view_is found (get_or_read counts place _ within c.index.ensures 0)

pub returns-in-None : goal.returns-in-None
returns-in-None c = none_counted c.self.inside _ c.args.route c.self.invariant c.self.view_is (sym c.place_of.ensures ∙ c.in-None.is)
