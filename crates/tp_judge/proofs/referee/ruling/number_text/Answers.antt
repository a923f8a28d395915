-- What is numbered is what was read, which has few lines since the text has few bytes.
use Rattle.std.proofs.Common.{inl, inr, length, arith}
use Rattle.std.proofs.lemmas.Bool.{cases_lt}
use Rattle.tp_judge.proofs.LineCountWithinBytes.{trace_short}
use Rattle.tp_judge.proofs.referee.ruling.number_text.Goals as goal

pub number_trace-requires : goal.number_trace-requires
number_trace-requires c =
    let short = trace_short c.args.text.now c.in_ok-trace.trace c.in_ok-trace.ensures.trace in
    elim (cases_lt 268435456 (length c.args.text.now)) [
      | inl long ↦ let e = c.in_ok-trace.ensures.limit.1 long in cc
      | inr few ↦ omega (arith, short, few)
    ]

pub returns-clause-numbered : goal.returns-clause-numbered
returns-clause-numbered c = record {
  tolds = c.in_ok-trace.trace;
  read = c.in_ok-trace.ensures.trace;
  numbered = c.in_ok-numbered.ensures.numbering;
}
