-- The lines so far were taken, and the rest is left.
use Rattle.std.proofs.Common.{◌≡◌, ◌+◌, ◌≤◌, length, vec_len}
use Rattle.std.specs.Prelude.{All}
use Rattle.tp_common.specs.Cutting.{IsLeftOf}
use Rattle.tp_judge.specs.Spans.{IsSpanOf, span_texts}
use Rattle.tp_judge.proofs.TraceLineGrowth.{Taken}
use Rattle.tp_judge.proofs.referee.reading.read_trace.Given as goal

abbrev pub invariant-loop-rest : goal.invariant-loop-rest
invariant-loop-rest l =
    record {
      fits : vec_len l.spans + length l.rest ≤ length l.text;
      counted : length (span_texts l.text l.spans.items) ≡ vec_len l.spans;
      taken : Taken l.text l.rest (span_texts l.text l.spans.items) l.names l.place;
      within : All (IsSpanOf (length l.text)) l.spans.items;
      left : IsLeftOf l.text l.rest;
    }

abbrev pub decreases-loop-rest : goal.decreases-loop-rest
decreases-loop-rest l = length l.rest
