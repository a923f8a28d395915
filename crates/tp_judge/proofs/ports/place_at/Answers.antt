-- The line that closes the section is that of its row.
use Rattle.std.proofs.Common.{◌<◌, get_or, subst, sym, arith}
use Rattle.std.proofs.lemmas.Slice.Zip.{AllZip-long}
use Rattle.std.proofs.lemmas.List.Elements.{All-get_or}
use Rattle.tp_judge.specs.LinesByNumber.{lines_at}
use Rattle.tp_judge.specs.Lawful.{IsCloserOf}
use Rattle.tp_judge.proofs.LeftMessagesByLine.{closer_at}
use Rattle.tp_judge.proofs.ports.place_at.Goals as goal

pub index-requires-5 : goal.index-requires-5
index-requires-5 c =
    let trace = c.args.trace.now in
    let rows = c.args.rows.now in
    let owner = All-get_or (λ owner. owner < trace.components) trace.owners.items c.args.port c.index.result.now c.requires.port c.requires.within.owners in
    let is = c.index.ensures in
    let size = c.requires.rows.closing_are.size in
    let long = AllZip-long (λ row closer. IsCloserOf (lines_at row.items) closer) rows.closing.items rows.closers.items c.requires.rows.closers_are in
    omega arith

pub port_place-requires : goal.port_place-requires
port_place-requires c =
    let trace = c.args.trace.now in
    let rows = c.args.rows.now in
    let owner = All-get_or (λ owner. owner < trace.components) trace.owners.items c.args.port c.index.result.now c.requires.port c.requires.within.owners in
    let is = c.index.ensures in
    let size = c.requires.rows.closing_are.size in
    let k = c.index.result.now in
    let closer = get_or rows.closers.items k c.index-5.result.now in
    subst (λ it. IsCloserOf (lines_at c.deref-3.result.now) it) (sym c.index-5.ensures)
    (subst (λ l. IsCloserOf (lines_at l) closer) (sym c.deref-3.ensures.value)
    (subst (λ row. IsCloserOf (lines_at row.items) closer) (sym c.index-4.ensures)
    (closer_at rows.closing.items rows.closers.items k c.index-4.result.now c.index-5.result.now c.requires.rows.closers_are (omega arith))))
