-- The element is less than all before it, or none of these is greater.
use Rattle.std.proofs.Common.{◌≤◌, take, sym, subst, arith}
use Rattle.std.specs.Prelude.{Contains}
use Rattle.std.proofs.lemmas.List.{take_all}
use Rattle.std.proofs.lemmas.List.Elements.{All-more, All-same, All-weaker, Contains-get_or}
use Rattle.tp_judge.proofs.circles.least.Goals as goal
use Rattle.tp_judge.proofs.circles.least.Goals.{then-x-least, else-x-least}

pub loop-x-preserved : goal.loop-x-preserved
loop-x-preserved c =
    let xs = c.args.xs.now in
    let i = c.loop-x.x-index in
    elim c.if-x-least.branch [
      | then-x-least w ↦
          let less = w.if-x-least.true in
          let is = w.least-is in
          record {
            among = subst (Contains xs) (sym w.least-is) (Contains-get_or xs i 0 c.loop-x-test.true);
            below = All-more (λ x. c.if-x-least.least ≤ x) xs i 0 c.loop-x-test.true
                (All-weaker (λ x. c.loop-x.least ≤ x) (λ x. c.if-x-least.least ≤ x) (λ x most. omega arith) (take i xs) c.loop-x.invariant.below)
                (omega arith);
          }
      | else-x-least w ↦
          let most = w.if-x-least.false in
          let is = w.least-is in
          record {
            among = subst (Contains xs) (sym w.least-is) c.loop-x.invariant.among;
            below = All-more (λ x. c.if-x-least.least ≤ x) xs i 0 c.loop-x-test.true
                (All-weaker (λ x. c.loop-x.least ≤ x) (λ x. c.if-x-least.least ≤ x) (λ x more. omega arith) (take i xs) c.loop-x.invariant.below)
                (omega arith);
          }
    ]

pub returns : goal.returns
returns c =
    let xs = c.args.xs.now in
    let i = c.loop-x.x-index in
    (c.loop-x.invariant.among, All-same (λ x. c.loop-x.least ≤ x) xs (take i xs) (sym (take_all i xs c.loop-x-test.false)) c.loop-x.invariant.below)
