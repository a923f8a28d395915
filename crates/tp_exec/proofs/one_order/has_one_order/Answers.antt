-- There is an order by kinds where there is one by entries.
use Rattle.std.proofs.Common.{arith}
use Rattle.std.proofs.lemmas.Result.{IfOk-weaker}
use Rattle.tp_exec.specs.OneOrder.{logs_of}
use Rattle.tp_exec.proofs.OneOrderByKinds.{one_order_by_kinds, owned}
use Rattle.tp_exec.proofs.one_order.has_one_order.Goals as goal

pub has_one_order-requires-clause-owned : goal.has_one_order-requires-clause-owned
has_one_order-requires-clause-owned c = (λ m. m, owned (logs_of c.args.components.now))

pub has_one_order-requires-clause-begun : goal.has_one_order-requires-clause-begun
has_one_order-requires-clause-begun c =
    λ k low. record { within = omega arith; nothing = λ q none. absurd (omega (arith, none)) }

pub returns : goal.returns
returns c =
    let both = one_order_by_kinds (logs_of c.args.components.now) in
    IfOk-weaker c.has_one_order.result _ _ (λ is found. (λ yes. both.0 (found.0 yes), λ has. found.1 (both.1 has))) c.has_one_order.ensures
