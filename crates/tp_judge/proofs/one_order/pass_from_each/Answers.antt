-- One component more, which could go on or not.
use Rattle.std.proofs.Common.{◌≡◌, ◌<◌, ◌≤◌, ◌+◌, inl, inr, ℕ, List, All, true, false, sum, slice_index, sym, ap, ◌∙◌, subst, arith}
use Rattle.std.proofs.lemmas.Bool.{cases_lt, false≢true}
use Rattle.std.specs.declared.vec.Vec.{Vec}
use Rattle.std.specs.declared.alloc.Global.{Global}
use Rattle.tp_judge.specs.declared.progress.ArrivalCursor.{ArrivalCursor}
use Rattle.tp_judge.specs.declared.progress.OrderProgress.{OrderProgress}
use Rattle.tp_judge.specs.OrderProgress.{HasSize}
use Rattle.tp_judge.specs.Greedy.{CannotGoOn, IsProgress}
use Rattle.tp_judge.specs.Cursors.{AreCursorsOf}
use Rattle.tp_judge.proofs.one_order.pass_from_each.Goals as goal
use Rattle.tp_judge.proofs.one_order.pass_from_each.Goals.{in-None, in-Some+in_ok-push-in-Some+in_ok-wake-in-Some+in_ok-pass_ready-in-Some}

pub loop-c-preserved : goal.loop-c-preserved
loop-c-preserved g c =
    let kinds = g.H.Histories.kinds c.args.histories.now in
    let n = g.H.Histories.size c.args.histories.now in
    let first = sum c.args.progress.now.places.items in
    let was = c.loop-c.invariant in
    let Below : Vec ℕ Global → Type 0 = λ r. All (λ x. x < n) r.items in
    let Size : OrderProgress → Type 0 = λ p. HasSize p n in
    let Cursors : Vec ArrivalCursor Global → Type 0 = λ v. AreCursorsOf kinds n c.match-step.progress v.items in
    let Progress : OrderProgress → Type 0 = IsProgress kinds in
    let Grown : OrderProgress → Type 0 = λ p. first ≤ sum p.places.items in
    let Ahead : OrderProgress → Type 0 = λ p. first < sum p.places.items in
    elim c.match-step.branch [
      | in-None w ↦
          let still : c.match-step.progress ≡ c.loop-c.progress = w.progress-is ∙ w.in-None.ensures.same in
          let Held : OrderProgress → Type 0 = λ p. (k : ℕ) → k < c.loop-c.c + 1 → CannotGoOn kinds (slice_index p.places.items)
          (slice_index p.came.items) (slice_index p.sent.items) k in
          record {
            ready = subst Below (sym w.ready-is) was.ready;
            size = subst Size (sym still) was.size;
            cursors = subst Cursors (sym w.cursors-is)
                (subst (λ (p : OrderProgress). AreCursorsOf kinds n p c.step.new.cursors.items) (sym w.progress-is) c.step.ensures.cursors);
            progress = subst Progress (sym still) was.progress;
            grown = subst Grown (sym still) was.grown;
            ahead = λ yes. subst Ahead (sym still) (was.ahead (sym w.any-is ∙ yes));
            held = λ none. subst Held (sym still) (λ k low. elim (cases_lt k c.loop-c.c) [
              | inl before ↦ was.held (sym w.any-is ∙ none) k before
              | inr past ↦
                  let same : k ≡ c.loop-c.c = omega (arith, past, low) in
                  let P : ℕ → Type 0 = λ x. CannotGoOn kinds (slice_index c.loop-c.progress.places.items)
                  (slice_index c.loop-c.progress.came.items) (slice_index c.loop-c.progress.sent.items) x in
                  subst P (sym same) w.in-None.ensures.held
            ]);
          }
      | in-Some+in_ok-push-in-Some+in_ok-wake-in-Some+in_ok-pass_ready-in-Some w ↦
          let new = w.in_ok-pass_ready-in-Some.ensures in
          let one = w.in-Some.ensures.ahead.1 in
          let more = new.grown in
          let before = was.grown in
          record {
            ready = subst Below (sym w.ready-is) new.ready;
            size = subst Size (sym w.progress-is) new.size;
            cursors = subst Cursors (sym w.cursors-is)
                (subst (λ (p : OrderProgress). AreCursorsOf kinds n p w.pass_ready.new.cursors.items) (sym w.progress-is) new.cursors);
            progress = subst Progress (sym w.progress-is) new.progress;
            grown = subst Grown (sym w.progress-is) (omega (arith, one, more, before));
            ahead = λ yes. subst Ahead (sym w.progress-is) (omega (arith, one, more, before));
            held = λ none. absurd (false≢true (sym none ∙ w.any-is));
          }
    ]
