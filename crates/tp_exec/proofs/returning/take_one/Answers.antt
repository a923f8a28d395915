-- The component that has the sender has it as its next.
use Rattle.std.proofs.Common.{arith}
use Rattle.tp_exec.specs.Rounds.{link_by}
use Rattle.tp_exec.proofs.OneSenderReturns.{gives_one, inside, leaves_others}
use Rattle.tp_exec.proofs.returning.take_one.Goals as goal

pub index_mut-requires : goal.index_mut-requires
index_mut-requires c =
    let w = c.requires in
    let low = inside w.1.0 c.args.hands.now.items (link_by w.0 c.args.source) w.1.1 w.1.2 in
    let long = c.args.hands.now.ok in
    omega arith

pub returns-clause-held : goal.returns-clause-held
returns-clause-held c =
    λ i. leaves_others c.args.hands.now.items (link_by i c.args.source) c.index_mut.result.now c.next.new.self c.index_mut.ensures.value c.next.result
    c.next.ensures.cases

pub returns-clause-back : goal.returns-clause-back
returns-clause-back c =
    λ i. gives_one c.args.hands.now.items (link_by i c.args.source) c.index_mut.result.now c.next.new.self c.index_mut.ensures.value c.next.result
    c.next.ensures.cases
