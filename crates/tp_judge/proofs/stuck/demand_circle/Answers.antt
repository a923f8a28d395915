-- The path goes on to a line that has to stand before its last one, and ends where it comes to a line of its own.
use Rattle.std.proofs.Common.{◌≡◌, ℕ, ◌+◌, ◌<◌, List, [], ◌∷◌, ◌++◌, ◌-◌, length, set, All, subst, sym, ap, ◌∙◌, arith, rules}
use Rattle.std.proofs.lemmas.List.{get_or_read, length-set}
use Rattle.std.proofs.lemmas.Option.{slice_get_within}
use Rattle.tp_judge.specs.OneRun.{IsDemandCircle, IsDemanded}
use Rattle.tp_judge.proofs.DemandPathsReachCircles.{IsPath, back_from, path_begun, path_ends, path_more}
use Rattle.tp_judge.proofs.stuck.demand_circle.Goals as goal

pub loop-path-init : goal.loop-path-init
loop-path-init c =
    let ahead = c.before_next_own-x.ensures.holds.ahead in
    record {
      size = search rules;
      cursors = c.before_next_own-x.ensures.cursors;
      ahead = ahead;
      below = slice_get_within c.args.histories.now.trace.now.lines.items c.before_next_own-x.result ahead.own.line ahead.own.at;
      path = path_begun (IsDemanded c.args.histories.now.trace.now) (length c.args.histories.now.trace.now.lines.items) _
          c.in_ok-places.places.items c.new-path.result.items c.before_next_own-x.result
          (c.in_ok-places.ensures.items_if_clones_equal (λ y is. is)) c.new-path.ensures.items;
    }

pub loop-path-preserved : goal.loop-path-preserved
loop-path-preserved c =
    let lines = c.args.histories.now.trace.now.lines.items in
    let wants = IsDemanded c.args.histories.now.trace.now in
    let places = c.loop-path.places.items in
    let path = c.loop-path.path.items in
    let x = c.loop-path.x in
    let y = c.before_line-x.result in
    let was = c.loop-path.invariant in
    let low = was.below in
    let size = was.size in
    let ahead = c.before_line-x.ensures.ahead in
    let more = path_more wants (length lines) places path x y was.path low (omega (arith, size, low)) c.before_line-x.ensures.demanded in
    let count : c.len-in-loop-path.result ≡ length path + 1 = let pushed = c.in_ok-push.ensures.len in omega (arith, pushed) in
    let Q : ℕ → Type 0 = λ k. IsPath wants (length lines) (set places x k) (path ++ x ∷ []) y in
    let R : List ℕ → Type 0 = λ p. IsPath wants (length lines) (set places x c.len-in-loop-path.result) p y in
    record {
      size = length-set places x c.len-in-loop-path.result ∙ size;
      cursors = c.before_line-x.ensures.cursors;
      ahead = ahead;
      below = slice_get_within lines y ahead.own.line ahead.own.at;
      path = subst R (sym c.in_ok-push.ensures.items) (subst Q (sym count) more);
    }

pub back_from-requires : goal.back_from-requires
back_from-requires c =
    let lines = c.args.histories.now.trace.now.lines.items in
    let places = c.loop-path.places.items in
    let x = c.loop-path.x in
    let was = c.loop-path.invariant in
    let low : x < length places = let w = was.below in let size = was.size in omega (arith, w, size) in
    let here = get_or_read places x _ low c.index.ensures 0 in
    let again = get_or_read places x _ low c.index-2.ensures 0 in
    let ends = path_ends (IsDemanded c.args.histories.now.trace.now) (length lines) places c.loop-path.path.items x _ was.path again
    (λ e. c.loop-path-test.false (here ∙ sym again ∙ e)) in
    let size = ap length c.deref-2.ensures.value in
    let inside = ends.0 in
    omega (arith, size, inside)

pub returns-clause-below : goal.returns-clause-below
returns-clause-below c =
    let lines = c.args.histories.now.trace.now.lines.items in
    let places = c.loop-path.places.items in
    let path = c.loop-path.path.items in
    let x = c.loop-path.x in
    let q = c.index-2.result.now in
    let was = c.loop-path.invariant in
    let low : x < length places = let w = was.below in let size = was.size in omega (arith, w, size) in
    let here = get_or_read places x _ low c.index.ensures 0 in
    let again = get_or_read places x q low c.index-2.ensures 0 in
    let ends = path_ends (IsDemanded c.args.histories.now.trace.now) (length lines) places path x q was.path again
    (λ e. c.loop-path-test.false (here ∙ sym again ∙ e)) in
    let P : List ℕ → Type 0 = λ xs. All (λ y. y < length lines) xs in
    subst P (sym (c.in_ok-back_from.ensures ∙ ap (back_from (q - 1)) c.deref-2.ensures.value)) ends.2

pub returns-clause-circle : goal.returns-clause-circle
returns-clause-circle c =
    let trace = c.args.histories.now.trace.now in
    let places = c.loop-path.places.items in
    let path = c.loop-path.path.items in
    let x = c.loop-path.x in
    let q = c.index-2.result.now in
    let was = c.loop-path.invariant in
    let low : x < length places = let w = was.below in let size = was.size in omega (arith, w, size) in
    let here = get_or_read places x _ low c.index.ensures 0 in
    let again = get_or_read places x q low c.index-2.ensures 0 in
    let ends = path_ends (IsDemanded trace) (length trace.lines.items) places path x q was.path again
    (λ e. c.loop-path-test.false (here ∙ sym again ∙ e)) in
    subst (IsDemandCircle trace) (sym (c.in_ok-back_from.ensures ∙ ap (back_from (q - 1)) c.deref-2.ensures.value)) ends.1
