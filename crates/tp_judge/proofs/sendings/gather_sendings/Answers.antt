-- One line more sends on a route, or doesn't.
use Rattle.std.proofs.Common.{◌+◌, ℕ, List, ap, sym, subst, ◌∙◌}
use Rattle.std.specs.declared.vec.Vec.{Vec}
use Rattle.std.specs.declared.alloc.Global.{Global}
use Rattle.tp_judge.specs.Sendings.{AreSendingRows}
use Rattle.tp_judge.proofs.SendingRowsGrowth.{line_in_trace, sendings_more, sendings_same, sent_below}
use Rattle.tp_judge.proofs.sendings.gather_sendings.Goals as goal
use Rattle.tp_judge.proofs.sendings.gather_sendings.Goals.{in-Some+in_ok-push, in_default}

pub loop-place-preserved : goal.loop-place-preserved
loop-place-preserved c =
    let trace = c.args.trace.now in
    let place = c.loop-place.place in
    let at = line_in_trace trace c.deref-line-items.result.now place _ c.deref-line-items.ensures.value c.loop-place-test.true in
    let P : List (Vec ℕ Global) → Type 0 = AreSendingRows trace (place + 1) in
    elim c.match-key.branch [
      | in-Some+in_ok-push w ↦
          subst P (sym (ap (λ v. v.items) w.rows-is))
          (sendings_more trace place w.in-Some.route _ c.loop-place.rows.items w.index_mut.result.now w.push.new.self at
          (sym w.in-Some.ensures) (sent_below trace place w.in-Some.route _ c.requires at (sym w.in-Some.ensures))
          w.index_mut.ensures.value w.in_ok-push.ensures.items c.loop-place.invariant)
      | in_default w ↦
          subst P (sym (ap (λ v. v.items) w.rows-is))
          (sendings_same trace place _ c.loop-place.rows.items at (sym c.key.ensures ∙ w.in_default.is) c.loop-place.invariant)
    ]
