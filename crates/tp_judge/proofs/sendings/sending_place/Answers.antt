-- The row of the message's route has its sending at its number.
use Rattle.std.proofs.Common.{ℕ, length, true, sym, subst, arith}
use Rattle.std.proofs.lemmas.List.{get_or_read}
use Rattle.std.proofs.lemmas.Option.{slice_get_within}
use Rattle.std.specs.declared.vec.Vec.{Vec}
use Rattle.std.specs.declared.alloc.Global.{Global}
use Rattle.tp_judge.specs.OneRun.{IsSentAt}
use Rattle.tp_judge.specs.Sendings.{IsSendingsRow}
use Rattle.tp_judge.proofs.SendingOfEachArrival.{row_has}
use Rattle.tp_judge.proofs.sendings.sending_place.Goals as goal

pub index-requires : goal.index-requires
index-requires c =
    let trace = c.args.trace.now in
    let m = c.args.mention in
    let row = c.index-rows-mention.result in
    let below = slice_get_within trace.joined.items m.route true c.requires.come.2.is.1 in
    let is = subst (λ (v : Vec ℕ Global). IsSendingsRow trace (length trace.lines.items) m.route v.items) (sym c.index-rows-mention.is)
    (c.requires.rows.each m.route row below) in
    let has = row_has trace m row.items c.requires.routed c.requires.delivered c.requires.come is in
    let low = has.0 in
    let same = row.ok in
    omega arith

pub returns : goal.returns
returns c =
    let trace = c.args.trace.now in
    let m = c.args.mention in
    let row = c.index-rows-mention.result in
    let below = slice_get_within trace.joined.items m.route true c.requires.come.2.is.1 in
    let is = subst (λ (v : Vec ℕ Global). IsSendingsRow trace (length trace.lines.items) m.route v.items) (sym c.index-rows-mention.is)
    (c.requires.rows.each m.route row below) in
    let has = row_has trace m row.items c.requires.routed c.requires.delivered c.requires.come is in
    subst (λ (n : ℕ). IsSentAt trace n m)
    (sym (get_or_read row.items m.parcel.number c.index.result.now has.0 c.index.ensures 0)) has.1
