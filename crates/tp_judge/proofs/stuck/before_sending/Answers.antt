-- The next message is another one, or a look holds this one back.
use Rattle.std.proofs.Common.{sym, ◌∙◌, arith}
use Rattle.std.proofs.lemmas.Bool.{false≢true}
use Rattle.tp_judge.proofs.StuckLines.{due_ahead, due_next, due_within, look_holds, next_due, turn_demanded}
use Rattle.tp_judge.proofs.stuck.before_sending.Goals as goal

pub next_message-requires-clause-to : goal.next_message-requires-clause-to
next_message-requires-clause-to c =
    due_within c.args.histories.now c.args.progress.now c.requires.stuck c.args.to c.args.message c.requires.due

pub unreachable-requires : goal.unreachable-requires
unreachable-requires c =
    let next = due_next c.args.histories.now c.args.progress.now c.requires.stuck c.args.to c.args.message c.requires.due in
    c.in_default.not-Some next.0 (c.next_message.ensures.message ∙ next.1)

pub sending_place-requires-clause-come : goal.sending_place-requires-clause-come
sending_place-requires-clause-come c =
    let due = next_due c.args.histories.now c.args.progress.now c.requires.stuck c.args.to c.in-Some.next (sym c.in-Some.ensures.message) in
    (c.args.to, due.place, due.comes)

pub returns-then-not-is_same-clause-ahead : goal.returns-then-not-is_same-clause-ahead
returns-then-not-is_same-clause-ahead c =
    let h = c.args.histories.now in
    let progress = c.args.progress.now in
    let next = c.in-Some.next in
    due_ahead h progress c.requires.stuck c.args.to c.sending_place.result next
    (next_due h progress c.requires.stuck c.args.to next (sym c.in-Some.ensures.message)) c.sending_place.ensures

pub returns-then-not-is_same-clause-demanded : goal.returns-then-not-is_same-clause-demanded
returns-then-not-is_same-clause-demanded c = λ sending sent.
    let next = c.in-Some.next in
    turn_demanded c.args.histories.now c.args.progress.now c.requires.stuck c.args.to c.sending_place.result sending next c.args.message
    (sym c.in-Some.ensures.message) c.requires.due (λ same. false≢true (sym c.if-not-is_same.true ∙ c.is_same.ensures.1 same))
    c.sending_place.ensures sent

pub index-requires : goal.index-requires
index-requires c =
    let low = due_within c.args.histories.now c.args.progress.now c.requires.stuck c.args.to c.args.message c.requires.due in
    omega (arith, low, c.in-Some.ensures.cursors.size_is)

pub overflow_sub-result : goal.overflow_sub-result
overflow_sub-result c =
    let holds = look_holds c.args.histories.now c.args.progress.now c.requires.stuck c.args.to c.in-Some.next c.args.message
    c.next_message.new.cursors.items c.index.result.now c.requires.due c.in-Some.ensures.cursors.size_is c.index.ensures
    c.in-Some.ensures.after c.in-Some.ensures.message (c.is_same.ensures.0 c.if-not-is_same.false) c.requires.held in
    omega (arith, holds.0)

pub returns-clause-ahead : goal.returns-clause-ahead
returns-clause-ahead c =
    (look_holds c.args.histories.now c.args.progress.now c.requires.stuck c.args.to c.in-Some.next c.args.message
    c.next_message.new.cursors.items c.index.result.now c.requires.due c.in-Some.ensures.cursors.size_is c.index.ensures
    c.in-Some.ensures.after c.in-Some.ensures.message (c.is_same.ensures.0 c.if-not-is_same.false) c.requires.held).1

pub returns-clause-demanded : goal.returns-clause-demanded
returns-clause-demanded c =
    (look_holds c.args.histories.now c.args.progress.now c.requires.stuck c.args.to c.in-Some.next c.args.message
    c.next_message.new.cursors.items c.index.result.now c.requires.due c.in-Some.ensures.cursors.size_is c.index.ensures
    c.in-Some.ensures.after c.in-Some.ensures.message (c.is_same.ensures.0 c.if-not-is_same.false) c.requires.held).2
