-- A number has 20 digits at most, so that a space is left on each side.
use Rattle.std.proofs.Common.{rules, subst, arith}
use Rattle.tp_common.specs.Watching.{Writes}
use Rattle.std.specs.Fmt.{decimal}
use Rattle.std.proofs.lemmas.Fmt.{length-decimal-le}
use Rattle.tp_report.proofs.NumberBetweenSpaces.{between}
use Rattle.tp_report.proofs.words.write_spaced.Goals as goal

pub write_digits-start-requires : goal.write_digits-start-requires
write_digits-start-requires g c = search (rules, length-decimal-le 20)

pub overflow_sub-start : goal.overflow_sub-start
overflow_sub-start g c =
    omega (arith, c.write_digits-start.ensures.start, length-decimal-le 20 c.args.number (omega arith) (omega arith) (omega arith))

pub returns : goal.returns
returns g c =
    let w = c.write_digits-start in
    let short = length-decimal-le 20 c.args.number (omega arith) (omega arith) (omega arith) in
    subst (Writes g.W.Write.contents _ _)
    (between w.result w.new.buf (decimal c.args.number) w.auto.buf w.ensures.start (omega (arith, w.ensures.start, short)) w.ensures.before w.ensures.written)
    c.write_bytes.ensures
