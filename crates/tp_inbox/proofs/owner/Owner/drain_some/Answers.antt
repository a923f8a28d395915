-- What was moved more is in the desk, and was drained.
use Rattle.std.proofs.Common.{◌++◌, ap, ◌∙◌, append_assoc, sym}
use Rattle.tp_inbox.specs.Desks.{Journal, adding_all}
use Rattle.tp_inbox.specs.Ledgers.{Draining}
use Rattle.tp_inbox.proofs.OwnerDrainedEnvelopes.{adding_twice, arrivals_more}
use Rattle.tp_inbox.proofs.owner.Owner.drain_some.Goals as goal

pub loop-preserved : goal.loop-preserved
loop-preserved g c =
    let was = c.loop.invariant in
    let ok = c.in_ok-move_next.ensures.ok in
    record {
      inbox = c.move_next.ensures.inbox ∙ was.inbox;
      moved = (
        was.moved.0 ++ ok.0,
        ok.1 ∙ ap (λ (d : Journal). adding_all d ok.0) was.moved.1 ∙ adding_twice c.args.desk.now was.moved.0 ok.0,
        ok.2 ∙ ap (λ l. l ++ ok.0) was.moved.2 ∙ append_assoc c.args.self.now.drained was.moved.0 ok.0,
      );
      arrivals = arrivals_more c.loop.desk c.move_next.new.desk c.loop.self.drained _ ok.0 was.arrivals ok.1 ok.2 ok.3;
      drained = c.move_next.ensures.drained;
    }

pub returns-then-not-branch-clause-arrivals : goal.returns-then-not-branch-clause-arrivals
returns-then-not-branch-clause-arrivals g c =
    let ok = c.in_ok-move_next.ensures.ok in
    arrivals_more c.loop.desk c.move_next.new.desk c.loop.self.drained _ ok.0 c.loop.invariant.arrivals ok.1 ok.2 ok.3
    ∙ ap (λ (d : Draining). d.drained) (sym c.mark.ensures)
