-- The cursor of the component is another, and the others are the same.
use Rattle.std.proofs.Common.{◌<◌, ◌∙◌, ℕ, length, slice_index, subst, arith}
use Rattle.std.proofs.lemmas.Grind.{get_or_default_zero}
use Rattle.tp_judge.specs.Cursors.{IsAfterLooks}
use Rattle.tp_judge.proofs.ArrivalCursors.{cursor_read, cursor_set, cursor_there, where_some}
use Rattle.tp_judge.proofs.one_order.next_message.Goals as goal

pub find_arrival-message-requires-clause-cursor : goal.find_arrival-message-requires-clause-cursor
find_arrival-message-requires-clause-cursor g c =
    let kinds = g.H.Histories.kinds c.args.histories.now in
    let n = g.H.Histories.size c.args.histories.now in
    let to = c.args.to in
    let cursors = c.args.cursors.now.items in
    let size = c.requires.cursors.size_is in
    let within : to < length cursors = omega (arith, size, c.requires.to) in
    (cursor_read kinds n c.args.progress.now cursors to c.index.result.now within c.index.ensures c.requires.cursors).0

pub find_arrival-message-requires-clause-most : goal.find_arrival-message-requires-clause-most
find_arrival-message-requires-clause-most g c =
    let kinds = g.H.Histories.kinds c.args.histories.now in
    let n = g.H.Histories.size c.args.histories.now in
    let progress = c.args.progress.now in
    let to = c.args.to in
    let cursors = c.args.cursors.now.items in
    let size = c.requires.cursors.size_is in
    let within : to < length cursors = omega (arith, size, c.requires.to) in
    let there : to < length progress.sent.items = omega (arith, c.requires.size.sent, c.requires.to) in
    let is = c.index-2.ensures ∙ get_or_default_zero progress.sent.items to c.index-2.result.now there in
    let most = (cursor_read kinds n progress cursors to c.index.result.now within c.index.ensures c.requires.cursors).1 in
    omega (arith, is, most)

pub returns-clause-cursors : goal.returns-clause-cursors
returns-clause-cursors g c =
    let kinds = g.H.Histories.kinds c.args.histories.now in
    let n = g.H.Histories.size c.args.histories.now in
    let progress = c.args.progress.now in
    let to = c.args.to in
    let there : to < length progress.sent.items = omega (arith, c.requires.size.sent, c.requires.to) in
    let is = c.index-2.ensures ∙ get_or_default_zero progress.sent.items to c.index-2.result.now there in
    let most = c.find_arrival-message.ensures.most in
    cursor_set kinds n progress c.args.cursors.now.items to c.find_arrival-message.new.cursor c.requires.cursors
    c.find_arrival-message.ensures.cursor (omega (arith, is, most))

pub returns-clause-after : goal.returns-clause-after
returns-clause-after g c =
    let kinds = g.H.Histories.kinds c.args.histories.now in
    let progress = c.args.progress.now in
    let to = c.args.to in
    let there : to < length progress.sent.items = omega (arith, c.requires.size.sent, c.requires.to) in
    let is = c.index-2.ensures ∙ get_or_default_zero progress.sent.items to c.index-2.result.now there in
    let new = c.find_arrival-message.new.cursor in
    where_some c.find_arrival-message.result _ _ (λ after.
    cursor_there (kinds to) (slice_index progress.sent.items to) c.args.cursors.now.items to new
    (subst (λ (n : ℕ). IsAfterLooks (kinds to) n new.after) is after))
    c.find_arrival-message.ensures.after
