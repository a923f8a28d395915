-- Where there are no places the trace is lawful, and so its routes are.
use Rattle.std.proofs.Common.{◌≡◌, [], arith}
use Rattle.std.proofs.lemmas.List.{nil_from_length}
use Rattle.tp_judge.proofs.referee.ruling.ruling_on.Goals as goal

pub one_run-requires-clause-delivered : goal.one_run-requires-clause-delivered
one_run-requires-clause-delivered c =
    let none = nil_from_length c.in_ok-places.places.items (grind (arith, c.is_empty.ensures, c.if-is_empty.true)) in
    (c.in_ok-places.ensures.lawful.0 none).orderly.delivered

pub returns-then-is_empty : goal.returns-then-is_empty
returns-then-is_empty c =
    let none = nil_from_length c.in_ok-places.places.items (grind (arith, c.is_empty.ensures, c.if-is_empty.true)) in
    (c.in_ok-places.ensures.lawful.0 none, c.in_ok-run.ensures)

pub returns : goal.returns
returns c =
    let some : c.in_ok-places.places.items ≡ [] → ⊥ = grind (arith, c.is_empty.ensures, c.if-is_empty.false) in
    record {
      some = some;
      unlawful = λ lawful. some (c.in_ok-places.ensures.lawful.1 lawful);
      told = c.in_ok-places.ensures.told;
      in_order = c.in_ok-places.ensures.sorted;
      all = c.in_ok-places.ensures.all;
    }
