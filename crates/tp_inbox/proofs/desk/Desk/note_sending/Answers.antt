-- The queues and the clock keep to the history with the sending at its end.
use Rattle.std.proofs.Common.{◌≡◌, ◌∙◌, ◌+◌, ◌<◌, ap, arith, max, sym}
use Rattle.tp_inbox.specs.declared.stamped.Stamped.{Stamped}
use Rattle.tp_inbox.specs.declared.entry.Entry.TheVariants as entry
use Rattle.tp_inbox.specs.Desks.{Journal}
use Rattle.tp_inbox.specs.History.{clock_of}
use Rattle.tp_inbox.proofs.PortQueuesMatchLog.{kept_by_note, grown_by}
use Rattle.tp_inbox.proofs.desk.Desk.note_sending.Goals as goal

-- the stamp is one above the clock, so that it may follow, and is the clock from then on
pub invariant_of-self-2 : goal.invariant_of-self-2
invariant_of-self-2 c =
    let log = c.self.inside.log.items in
    let next : c.in-Some.stamp ≡ clock_of log + 1 = c.in-Some.ensures.1 ∙ ap (λ (d : Journal). clock_of d.log + 1) (sym c.self.view_is) in
    let mine : c.in-Ok-copy_of.noted.stamp ≡ c.in-Some.stamp = ap (λ (s : Stamped). s.stamp) c.in-Ok-copy_of.ensures.ok in
    let timely : clock_of log < c.in-Ok-copy_of.noted.stamp = omega (arith, next, mine) in
    let time = c.self.invariant.time in
    let later : c.in-Some.stamp ≡ max c.self.inside.clock c.in-Ok-copy_of.noted.stamp = omega (arith, next, mine, time) in
    kept_by_note _ _ _ _ _ (entry.Sent c.args.route c.args.number c.in-Ok-copy_of.noted) c.self.invariant tt timely later
    (grown_by _ _ _ _ _ c.push_reserved.ensures.items c.reserve_entry.ensures.items
    (λ i. entry.Sent (c.in-Some-of.ensures.1 i) (c.in-Ok.ensures.1 i) c.in-Ok-copy_of.noted))
