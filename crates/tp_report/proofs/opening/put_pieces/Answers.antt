-- The last piece ends with the array, and each other one where the next begins.
use Rattle.std.proofs.Common.{arith}
use Rattle.tp_report.proofs.TextBuiltBackwards.{all_put}
use Rattle.tp_report.proofs.opening.put_pieces.Goals as goal

pub returns : goal.returns
returns c =
    let p = c.args.pieces in
    all_put c.try_put-4.result c.args.text.now c.try_put.new.text c.try_put-2.new.text c.try_put-3.new.text c.try_put-4.new.text c.in_ok-back.back
    c.in_ok-between.between c.in_ok-front.front p.word.now p.front.now p.between.now p.back.now (omega arith) c.in_ok-back.ensures
    c.in_ok-between.ensures c.in_ok-front.ensures c.try_put-4.ensures
