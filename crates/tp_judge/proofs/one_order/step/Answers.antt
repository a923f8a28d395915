-- The next thing is done.
use Rattle.std.proofs.Common.{◌≡◌, ◌<◌, ◌≤◌, ◌+◌, ℕ, List, Some, length, set, refl, sym, ap, ◌∙◌, subst, slice_index, arith}
use Rattle.std.specs.Prelude.{slice_get}
use Rattle.std.proofs.lemmas.Grind.{get_or_default_zero}
use Rattle.tp_judge.specs.OrderProgress.{sent_then}
use Rattle.tp_judge.specs.Greedy.{IsProgressBy}
use Rattle.tp_judge.proofs.OrderProgressGrowth.{done, sent_grows}
use Rattle.tp_judge.proofs.ArrivalCursors.{cursors_still}
use Rattle.tp_judge.proofs.one_order.step.Goals as goal

pub returns-clause-progress : goal.returns-clause-progress
returns-clause-progress g c =
    let h = c.args.histories.now in
    let kinds = g.H.Histories.kinds h in
    let was = c.args.progress.now in
    let places = was.places.items in
    let known = was.came.items in
    let sent = was.sent.items in
    let n = c.args.c in
    let p = slice_index places n in
    let size = c.requires.size in
    let low : n < length places = omega (arith, size.places, c.requires.within) in
    let k = c.kind-kind.result in
    let is = c.index-place.ensures ∙ get_or_default_zero places n c.index-place.result.now low in
    let at : slice_get (kinds n) p ≡ Some k = subst (λ m. slice_get (kinds n) m ≡ Some k) is c.kind-kind.ensures in
    let can = c.if-not-is_possible.ensures.can.0 refl in
    let low_known : n < length known = omega (arith, size.came, c.requires.within) in
    let progress = c.requires.progress in
    let owner = progress.0 in
    let r = done kinds owner progress.1 places known sent n k at low low_known
    (λ d past. g.met.H.Histories.no_more h d (omega (arith, past, size.sent))) can progress.2 in
    let then = set places n (p + 1) in
    let new = c.pass_entry.new.progress in (
      owner,
      progress.1,
      subst (λ (s : List ℕ). IsProgressBy kinds owner s new.came.items new.sent.items) (sym c.pass_entry.ensures.places)
          (subst (λ (s : List ℕ). IsProgressBy kinds owner then new.came.items s) (sym c.pass_entry.ensures.sent)
          (subst (λ (s : List ℕ). IsProgressBy kinds owner then s (sent_then k sent)) (sym c.pass_entry.ensures.came) r)),
    )

pub returns-clause-cursors : goal.returns-clause-cursors
returns-clause-cursors g c =
    let h = c.args.histories.now in
    let was = c.args.progress.now in
    let new = c.pass_entry.new.progress in
    cursors_still (g.H.Histories.kinds h) (g.H.Histories.size h) was new _
    (λ x. subst (λ (s : List ℕ). slice_index was.sent.items x ≤ slice_index s x) (sym c.pass_entry.ensures.sent)
    (sent_grows c.kind-kind.result was.sent.items x)) c.if-not-is_possible.ensures.cursors
