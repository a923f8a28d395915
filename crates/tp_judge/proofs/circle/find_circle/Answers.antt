-- The path goes on to what is wanted before its number, and ends where it comes to a number of its own.
use Rattle.std.proofs.Common.{◌≡◌, ℕ, ◌+◌, ◌<◌, List, [], ◌∷◌, ◌++◌, ◌-◌, length, set, All, subst, sym, ap, ◌∙◌, arith}
use Rattle.std.proofs.lemmas.List.{get_or_read, length-set}
use Rattle.std.proofs.lemmas.Result.{IfOk-weaker}
use Rattle.tp_judge.specs.Circle.{IsCircle, IsDemandedBefore}
use Rattle.tp_judge.specs.AfterOrdering.{HoldsUp}
use Rattle.tp_judge.proofs.DemandPathsReachCircles.{IsPath, back_from, path_more, path_ends}
use Rattle.tp_judge.proofs.circle.find_circle.Goals as goal

pub loop-path-preserved : goal.loop-path-preserved
loop-path-preserved c =
    let demands = c.args.demands.now in
    let waits = c.args.waits.now in
    let from = c.in_ok-from.from.items in
    let places = c.loop-path.places.items in
    let path = c.loop-path.path.items in
    let x = c.loop-path.x in
    let y = c.index-x.result.now in
    let was = c.loop-path.invariant in
    let low = was.waits.0 in
    let size = was.size in
    let sizes = c.in_ok-from.ensures.size in
    let read = get_or_read from x y (omega (arith, sizes, low)) c.index-x.ensures 0 in
    let P : ℕ → Type 0 = λ i. HoldsUp demands waits i x in
    let holds = subst P (sym read) (c.in_ok-from.ensures.from x was.waits) in
    let more = path_more (IsDemandedBefore demands) (length waits) places path x y was.path low (omega (arith, size, low)) holds.1 in
    let count : c.len.result ≡ length path + 1 = let pushed = c.in_ok-push.ensures.len in omega (arith, pushed) in
    let Q : ℕ → Type 0 = λ n. IsPath (IsDemandedBefore demands) (length waits) (set places x n) (path ++ x ∷ []) y in
    let R : List ℕ → Type 0 = λ p. IsPath (IsDemandedBefore demands) (length waits) (set places x c.len.result) p y in
    record {
      size = length-set places x c.len.result ∙ size;
      waits = holds.0;
      path = subst R (sym c.in_ok-push.ensures.items) (subst Q (sym count) more);
    }

pub back_from-requires : goal.back_from-requires
back_from-requires c =
    let places = c.loop-path.places.items in
    let x = c.loop-path.x in
    let was = c.loop-path.invariant in
    let low : x < length places = let w = was.waits.0 in let size = was.size in omega (arith, w, size) in
    let here = get_or_read places x _ low c.index.ensures 0 in
    let again = get_or_read places x _ low c.index-2.ensures 0 in
    let ends = path_ends (IsDemandedBefore c.args.demands.now) (length c.args.waits.now) places c.loop-path.path.items x _ was.path again (λ e. c.loop-path-test.false (here ∙ sym again ∙ e)) in
    let size = ap length c.deref.ensures.value in
    let inside = ends.0 in
    omega (arith, size, inside)

pub returns-clause-below : goal.returns-clause-below
returns-clause-below c =
    let places = c.loop-path.places.items in
    let path = c.loop-path.path.items in
    let x = c.loop-path.x in
    let q = c.index-2.result.now in
    let was = c.loop-path.invariant in
    let low : x < length places = let w = was.waits.0 in let size = was.size in omega (arith, w, size) in
    let here = get_or_read places x _ low c.index.ensures 0 in
    let again = get_or_read places x q low c.index-2.ensures 0 in
    let ends = path_ends (IsDemandedBefore c.args.demands.now) (length c.args.waits.now) places path x q was.path again (λ e. c.loop-path-test.false (here ∙ sym again ∙ e)) in
    let P : List ℕ → Type 0 = λ xs. All (λ y. y < length c.args.waits.now) xs in
    IfOk-weaker c.back_from.result _ (λ circle. P circle.items)
    (λ circle is. subst P (sym (is ∙ ap (back_from (q - 1)) c.deref.ensures.value)) ends.2) c.back_from.ensures

pub returns-clause-circle : goal.returns-clause-circle
returns-clause-circle c =
    let places = c.loop-path.places.items in
    let path = c.loop-path.path.items in
    let x = c.loop-path.x in
    let q = c.index-2.result.now in
    let was = c.loop-path.invariant in
    let low : x < length places = let w = was.waits.0 in let size = was.size in omega (arith, w, size) in
    let here = get_or_read places x _ low c.index.ensures 0 in
    let again = get_or_read places x q low c.index-2.ensures 0 in
    let ends = path_ends (IsDemandedBefore c.args.demands.now) (length c.args.waits.now) places path x q was.path again (λ e. c.loop-path-test.false (here ∙ sym again ∙ e)) in
    let P = IsCircle c.args.demands.now in
    IfOk-weaker c.back_from.result _ (λ circle. P circle.items)
    (λ circle is. subst P (sym (is ∙ ap (back_from (q - 1)) c.deref.ensures.value)) ends.1) c.back_from.ensures
