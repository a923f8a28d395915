-- At first nothing is gone by.
use Rattle.std.proofs.Common.{ℕ, List, length, map, replicate, sym, ap, subst, ◌∙◌}
use Rattle.std.proofs.lemmas.List.{length-replicate}
use Rattle.tp_judge.specs.Greedy.{IsProgressBy}
use Rattle.tp_judge.specs.Cursors.{AreCursorsOf, cursor_at}
use Rattle.tp_judge.proofs.ArrivalCursors.{cursors_begun}
use Rattle.tp_judge.proofs.OrderProgressGrowth.{begun}
use Rattle.tp_judge.proofs.one_order.search_order.Goals as goal

pub pass_until_stuck-requires-clause-size : goal.pass_until_stuck-requires-clause-size
pass_until_stuck-requires-clause-size g c =
    let n = g.H.Histories.size c.args.histories.now in
    let is = c.in_ok-progress.ensures in
    record {
      places = is.places.size_is;
      came = ap length is.came ∙ length-replicate {A = ℕ} n 0;
      sent = ap length is.sent ∙ length-replicate {A = ℕ} n 0;
    }

pub pass_until_stuck-requires-clause-progress : goal.pass_until_stuck-requires-clause-progress
pass_until_stuck-requires-clause-progress g c =
    let kinds = g.H.Histories.kinds c.args.histories.now in
    let n = g.H.Histories.size c.args.histories.now in
    let owner = c.requires.owned.0 in
    let none = replicate n 0 in
    let new = c.in_ok-progress.progress in
    let is = c.in_ok-progress.ensures in (
      owner,
      c.requires.owned.1,
      subst (λ (s : List ℕ). IsProgressBy kinds owner new.places.items new.came.items s) (sym is.sent)
          (subst (λ (s : List ℕ). IsProgressBy kinds owner new.places.items s none) (sym is.came)
          (begun kinds owner n n n new.places.items is.places)),
    )

pub pass_until_stuck-requires-clause-cursors : goal.pass_until_stuck-requires-clause-cursors
pass_until_stuck-requires-clause-cursors g c =
    let kinds = g.H.Histories.kinds c.args.histories.now in
    let n = g.H.Histories.size c.args.histories.now in
    let progress = c.in_ok-progress.progress in
    let is = c.in_ok-progress.ensures in
    subst (AreCursorsOf kinds n progress) (sym (c.in_ok-cursors.ensures ∙ ap (map cursor_at) c.deref.ensures.value)) (cursors_begun kinds n progress progress.places.items is.places)
