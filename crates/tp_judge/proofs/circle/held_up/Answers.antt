-- Each demand for a number that waits is put in the table.
use Rattle.std.proofs.Common.{◌≡◌, ℕ, ◌+◌, List, length, set, subst, sym, ap, ◌∙◌, Vec, Global, arith}
use Rattle.std.proofs.lemmas.List.{length-set}
use Rattle.std.proofs.lemmas.List.Elements.{All-get_or}
use Rattle.tp_judge.specs.Order.{IsBelow}
use Rattle.tp_judge.specs.Places.{no_demand, before_at, after_at}
use Rattle.tp_judge.proofs.WaitingNumbersHeldUp.{AreHeld, held_set, held_skip, held_all}
use Rattle.tp_judge.proofs.circle.held_up.Goals as goal
use Rattle.tp_judge.proofs.circle.held_up.Goals.{then-waits-demand-gt0, else-waits-demand-gt0}

pub loop-demand-preserved : goal.loop-demand-preserved
loop-demand-preserved c =
    let demands = c.args.demands.now in
    let waits = c.args.waits.now in
    let from = c.loop-demand.from.items in
    let n = c.loop-demand.demand-index in
    let t = after_at demands n in
    let x = before_at demands n in
    let was = c.loop-demand.invariant in
    let below = All-get_or (IsBelow (length waits)) demands n no_demand c.loop-demand-test.true c.requires.below in
    let items : Vec ℕ Global → List ℕ = λ v. v.items in
    let P : List ℕ → Type 0 = λ f. AreHeld demands waits f (n + 1) in
    elim c.if-waits-demand-gt0.branch [
      | then-waits-demand-gt0 w ↦
          let is : c.if-waits-demand-gt0.from.items ≡ set from t x = ap items w.from-is in
          let size = was.size in
          record {
            size = ap length is ∙ length-set from t x ∙ was.size;
            held = subst P (sym is) (held_set demands waits from n was.held c.loop-demand-test.true (omega (arith, size, below.1)) (below.0, w.if-waits-demand-gt0.true));
          }
      | else-waits-demand-gt0 w ↦
          let is : c.if-waits-demand-gt0.from.items ≡ from = ap items w.from-is in
          record {
            size = ap length is ∙ was.size;
            held = subst P (sym is) (held_skip demands waits from n was.held w.if-waits-demand-gt0.false);
          }
    ]

pub returns-clause-from : goal.returns-clause-from
returns-clause-from c =
    held_all c.args.demands.now c.args.waits.now c.loop-demand.from.items c.loop-demand.demand-index c.loop-demand-test.false
    c.loop-demand.invariant.held c.requires.stuck
