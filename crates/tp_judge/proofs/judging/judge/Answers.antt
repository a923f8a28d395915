-- Each place is one of a port, a route or a circle, and none is left out, also where they stand in another order.
use Rattle.std.proofs.Common.{◌≡◌, inl, inr, List, [], ◌++◌, length, ap, subst, arith}
use Rattle.std.specs.List.Sorted.{IsPermutation}
use Rattle.std.proofs.lemmas.List.{length-append, nil_from_length}
use Rattle.std.proofs.lemmas.List.Elements.{All-append, All-weaker}
use Rattle.std.proofs.lemmas.List.Sorted.{All-permutation, IsPermutation-sym, length_permutation}
use Rattle.tp_judge.specs.declared.place.UnlawfulPlace.{UnlawfulPlace}
use Rattle.tp_judge.specs.Judged.{IsOrderPlace, IsUnlawfulPlace}
use Rattle.tp_judge.specs.Lawful.{IsPortPlace}
use Rattle.tp_judge.proofs.judging.judge.Goals as goal

-- what is empty in another order is empty
nil_moved : (xs ys : List UnlawfulPlace) → IsPermutation xs ys → xs ≡ [] → ys ≡ []
nil_moved xs ys moved none =
    let same = length_permutation xs ys moved in
    let size = ap length none in
    nil_from_length ys (omega arith)

pub returns : goal.returns
returns c =
    let trace = c.args.trace.now in
    let ports = c.in_ok-places.places.items in
    let order = c.in_ok-order.order.items in
    let places = c.put_in_order.new.places.items in
    let is : c.append.new.self.items ≡ ports ++ order = c.in_ok-append.ensures.items in
    let moved = subst (λ (l : List UnlawfulPlace). IsPermutation l places) is c.in_ok-put_in_order.ensures.same in
    let count = length-append ports order in
    record {
      lawful = (
        λ none.
            let empty = ap length (nil_moved places (ports ++ order) (IsPermutation-sym (ports ++ order) places moved) none) in
            record {
              ports = c.in_ok-places.ensures.lawful.0 (nil_from_length ports (omega arith));
              orderly = c.in_ok-order.ensures.lawful.0 (nil_from_length order (omega arith));
            },
        λ lawful.
            let first = ap length (c.in_ok-places.ensures.lawful.1 lawful.ports) in
            let second = ap length (c.in_ok-order.ensures.lawful.1 lawful.orderly) in
            nil_moved (ports ++ order) places moved (nil_from_length (ports ++ order) (omega arith)),
      );
      told =
          All-permutation (IsUnlawfulPlace trace) (ports ++ order) places moved
          (All-append (IsUnlawfulPlace trace) ports order
          (All-weaker (IsPortPlace trace) (IsUnlawfulPlace trace) (λ place here. inl here) ports c.in_ok-places.ensures.told)
          (All-weaker (IsOrderPlace trace) (IsUnlawfulPlace trace) (λ place here. inr here) order c.in_ok-order.ensures.told));
      all =
          record { ports = ports; order = order; of_ports = c.in_ok-places.ensures.all; of_order = c.in_ok-order.ensures.all; are = moved };
      sorted = c.in_ok-put_in_order.ensures.sorted;
    }
