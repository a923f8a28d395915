-- The cursor is at the arrival, or goes on by one entry.
use Rattle.std.proofs.Common.{◌≡◌, ◌≤◌, inl, inr, Some, length, refl, sym, subst, ap, ◌+◌, ◌∙◌, arith}
use Rattle.tp_judge.specs.declared.kind.EntryKind.TheVariants as kind
use Rattle.tp_judge.specs.declared.progress.ArrivalCursor.{ArrivalCursor}
use Rattle.tp_judge.specs.Cursors.{IsCursorOf}
use Rattle.tp_judge.proofs.ArrivalCursors.{arrival_is, at_arrival, no_arrival, on_came, on_looked, on_other}
use Rattle.tp_judge.proofs.one_order.find_arrival.Goals as goal
use Rattle.tp_judge.proofs.one_order.find_arrival.Goals.{in-Came+else-cursor-number, in-Looked, in-Sent}

pub returns-then-cursor-number-clause-message : goal.returns-then-cursor-number-clause-message
returns-then-cursor-number-clause-message g c =
    let k = g.H.Histories.kinds c.args.histories.now c.args.to in
    let cursor = c.loop-cursor.cursor in
    arrival_is k cursor.place c.args.number c.in-Came.message c.in-Came.ensures
    (c.loop-cursor.invariant.cursor.came ∙ c.if-cursor-number.true)

pub returns-then-cursor-number-clause-after : goal.returns-then-cursor-number-clause-after
returns-then-cursor-number-clause-after g c =
    let k = g.H.Histories.kinds c.args.histories.now c.args.to in
    let cursor = c.loop-cursor.cursor in
    at_arrival k cursor.place c.args.number cursor.after c.in-Came.message c.in-Came.ensures
    (c.loop-cursor.invariant.cursor.came ∙ c.if-cursor-number.true) c.loop-cursor.invariant.cursor.after

pub loop-cursor-preserved : goal.loop-cursor-preserved
loop-cursor-preserved g c =
    let k = g.H.Histories.kinds c.args.histories.now c.args.to in
    let cursor = c.loop-cursor.cursor in
    let was = c.loop-cursor.invariant in
    let most = was.most in
    let P : ArrivalCursor → Type 0 = λ x. record {
      cursor : IsCursorOf k (record { place = x.place + 1; came = x.came; after = x.after });
      most : x.came ≤ c.args.number;
    } in
    elim c.match-kind.branch [
      | in-Came+else-cursor-number w ↦
          let other = w.if-cursor-number.false in
          subst P (sym w.cursor-is) (record {
            cursor = on_came k cursor w.in-Came.message w.in-Came.ensures was.cursor;
            most = omega (arith, most, other);
          })
      | in-Looked w ↦
          subst P (sym w.cursor-is) (record { cursor = on_looked k cursor w.in-Looked.ensures was.cursor; most = most })
      | in-Sent w ↦ elim w.in-Sent.is [
        | inl sent ↦
            let at = c.kind.ensures ∙ ap Some sent.2 in
            subst P (sym w.cursor-is) (record { cursor = on_other k cursor (kind.Sent sent.0 sent.1) at refl (λ o. absurd (cc)) was.cursor; most = most })
        | inr (inl quiet) ↦
            let at = c.kind.ensures ∙ ap Some quiet in
            subst P (sym w.cursor-is) (record { cursor = on_other k cursor kind.Quiet at refl (λ o. absurd (cc)) was.cursor; most = most })
        | inr (inr nothing) ↦
            let at = c.kind.ensures ∙ ap Some nothing in
            subst P (sym w.cursor-is) (record { cursor = on_other k cursor kind.Nothing at refl (λ o. absurd (cc)) was.cursor; most = most })
      ]
    ]

pub returns-clause-message : goal.returns-clause-message
returns-clause-message g c =
    let k = g.H.Histories.kinds c.args.histories.now c.args.to in
    let came = c.loop-cursor.invariant.cursor.came in
    let most = c.loop-cursor.invariant.most in
    let end = c.end-end.ensures in
    no_arrival k c.loop-cursor.cursor.place c.args.number (omega (arith, end, c.loop-cursor-test.false)) (omega (arith, came, most))
