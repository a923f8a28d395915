-- Where a line lies that the rest of a text begins with.
use Rattle.std.proofs.Common.{◌≡◌, ℕ, ◌+◌, ◌-◌, List, length, take, drop, ap, sym, ◌∙◌, arith}
use Rattle.std.proofs.lemmas.List.{drop-drop}
use Rattle.tp_common.specs.Cutting.{IsFrontOf, IsLeftOf}
use Rattle.tp_judge.specs.Spans.{IsSpanOf}

pub left_on : (text rest next : List ℕ) → IsLeftOf text rest → IsLeftOf rest next → IsLeftOf text next
left_on text rest next one other =
    let first = one.shorter in
    let second = other.shorter in
    let both : length text - length rest + (length rest - length next) ≡ length text - length next = omega arith in
    record {
      shorter = omega arith;
      is = other.is ∙ ap (drop (length rest - length next)) one.is
          ∙ drop-drop (length rest - length next) (length text - length rest) text ∙ ap (λ k. drop k text) both;
    }

-- the line lies there
pub piece_is : (text rest line : List ℕ) (start end : ℕ) → IsLeftOf text rest → IsFrontOf rest line → start ≡ length text - length rest
    → end ≡ start + length line → take (end - start) (drop start text) ≡ line
piece_is text rest line start end left front begins ends =
    let size : end - start ≡ length line = omega arith in
    ap (λ k. take k (drop start text)) size ∙ ap (λ k. take (length line) (drop k text)) begins
    ∙ ap (take (length line)) (sym left.is) ∙ sym front.is

pub span_within : (text rest line : List ℕ) (start end : ℕ) → IsLeftOf text rest → IsFrontOf rest line → start ≡ length text - length rest
    → end ≡ start + length line → IsSpanOf (length text) (record { start = start; end = end })
span_within text rest line start end left front begins ends =
    let one = left.shorter in
    let other = front.shorter in
    record { forth = omega arith; within = omega arith }
