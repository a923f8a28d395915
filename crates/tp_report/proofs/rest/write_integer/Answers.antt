-- A number has 20 digits at most, and an integer 20 characters, so that there is room for all.
use Rattle.std.proofs.Common.{◌-◌, arith, drop, length-drop, to_z-of_z}
use Rattle.std.proofs.lemmas.List.{take_all}
use Rattle.std.proofs.lemmas.Fmt.{length-decimal-le, length_signed_le}
use Rattle.tp_report.proofs.rest.write_integer.Goals as goal

pub put_integer-integer_start-requires-clause-room : goal.put_integer-integer_start-requires-clause-room
put_integer-integer_start-requires-clause-room g c =
    let fits = c.ranges.integer.sfits in
    let short = length_signed_le 19 c.args.integer (omega arith) (omega arith) in
    rw (to_z-of_z c.ranges.integer) (omega arith)

pub put_bytes-type_start-requires-clause-room : goal.put_bytes-type_start-requires-clause-room
put_bytes-type_start-requires-clause-room g c =
    let fits = c.ranges.integer.sfits in
    let short = length_signed_le 19 c.args.integer (omega arith) (omega arith) in
    let start = rw (to_z-of_z c.ranges.integer) at c.put_integer-integer_start.ensures.start in
    omega arith

pub write_digits-number_start-requires : goal.write_digits-number_start-requires
write_digits-number_start-requires g c =
    let fits = c.ranges.integer.sfits in
    let short = length_signed_le 19 c.args.integer (omega arith) (omega arith) in
    let digits = length-decimal-le 20 c.args.number (omega arith) (omega arith) (omega arith) in
    let start = rw (to_z-of_z c.ranges.integer) at c.put_integer-integer_start.ensures.start in
    omega arith

pub put_bytes-start-requires-clause-room : goal.put_bytes-start-requires-clause-room
put_bytes-start-requires-clause-room g c =
    let fits = c.ranges.integer.sfits in
    let short = length_signed_le 19 c.args.integer (omega arith) (omega arith) in
    let digits = length-decimal-le 20 c.args.number (omega arith) (omega arith) (omega arith) in
    let start = rw (to_z-of_z c.ranges.integer) at c.put_integer-integer_start.ensures.start in
    omega arith

-- the pieces, each before the next, up to the end of the array
pub returns : goal.returns
returns g c =
    let text = c.put_bytes-start.new.text in
    let start = c.put_bytes-start.result in
    let whole = take_all (51 - start) (drop start text) (omega (arith, length-drop start text, c.put_bytes-start.auto.text)) in
    let integer = rw (to_z-of_z c.ranges.integer) at c.put_integer-integer_start.ensures.written in
    let space = rw c.put_bytes-start.ensures.written at (rw whole at c.write_bytes.ensures) in
    let number = rw c.write_digits-number_start.ensures.written at space in
    let type = rw c.put_bytes-type_start.ensures.written at number in
    rw integer at type
