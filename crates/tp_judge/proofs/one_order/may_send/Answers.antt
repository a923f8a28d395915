-- A message may be sent where it is the next one that came.
use Rattle.std.proofs.Common.{◌≡◌, ◌<◌, length, slice_index, refl, ◌∙◌, arith}
use Rattle.std.proofs.lemmas.Bool.{leb-true, le-leb}
use Rattle.std.proofs.lemmas.Grind.{get_or_default_zero}
use Rattle.std.proofs.lemmas.Option.{slice_get_read}
use Rattle.tp_judge.proofs.ArrivalCursors.{may_is}
use Rattle.tp_judge.proofs.one_order.may_send.Goals as goal

pub returns-clause-can : goal.returns-clause-can
returns-clause-can g c =
    let kinds = g.H.Histories.kinds c.args.histories.now in
    let progress = c.args.progress.now in
    let new = c.next_message.new.cursors.items in
    let to = c.args.to in
    let size = c.in-Some.ensures.cursors.size_is in
    let low : to < g.H.Histories.size c.args.histories.now = omega arith in
    let within : to < length new = omega (arith, low, size) in
    let there : to < length progress.places.items = omega (arith, low, c.requires.size.places) in
    let cursor = c.index.result.now in
    let at = slice_get_read new (length new) to cursor refl within c.index.ensures in
    let may = may_is kinds progress.places.items progress.sent.items c.args.message to c.in-Some.next cursor.after
    c.in-Some.ensures.message (c.is_same.ensures.0 c.if-not-is_same.false) (c.in-Some.ensures.after cursor at) in
    let place = c.index-2.result.now in
    let here : place ≡ slice_index progress.places.items to = c.index-2.ensures ∙ get_or_default_zero progress.places.items to place there in (
      λ e. may.0 (let e' = leb-true cursor.after place e in omega (arith, e', here)),
      λ h. le-leb cursor.after place (let h' = may.1 h in omega (arith, h', here)),
    )
