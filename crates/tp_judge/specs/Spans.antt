-- Where the lines of a text lie in it.
use Rattle.std.specs.Prelude.{◌≤◌, ℕ, List, All, length, map}
use Rattle.std.specs.List.{slice_range}
use Rattle.tp_judge.specs.declared.referee.tree.Span.{Span}
use Rattle.tp_judge.specs.Tree.{HoldsTrace}

-- the part of the text at the span
abbrev pub span_text : List ℕ → Span → List ℕ
span_text text span = slice_range text span.start span.end

abbrev pub span_texts : List ℕ → List Span → List (List ℕ)
span_texts text spans = map (λ span. span_text text span) spans

-- the span lies in a text of this size
pub record IsSpanOf (size : ℕ) (span : Span) : Type 0 where
  pub forth : span.start ≤ span.end
  pub within : span.end ≤ size

-- the spans of the lines and the names of the sections of a trace
pub record HoldsSpans (text : List ℕ) (spans : List Span) (names : List (List ℕ)) : Type 0 where
  pub trace : HoldsTrace (span_texts text spans) names
  pub within : All (IsSpanOf (length text)) spans
