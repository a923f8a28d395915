-- A text has no more lines than bytes.
use Rattle.std.proofs.Common.{◌≡◌, ℕ, ◌+◌, ◌≤◌, Bool, true, false, cond, List, [], ◌∷◌, length, refl, arith}
use Rattle.std.specs.Prelude.{◌==◌}
use Rattle.std.specs.List.{onto_first}
use Rattle.tp_common.specs.Cutting.{lines_of}
use Rattle.tp_judge.specs.LineTexts.{Told, Spells}
use Rattle.tp_judge.specs.Tree.{IsTraceOf}
use Rattle.tp_judge.proofs.ZippedPrefixGrowth.{zip_length}

first_longer : (b : ℕ) (lines : List (List ℕ)) → length (onto_first b lines) ≤ length lines + 1
first_longer b [] = omega arith
first_longer b (l ∷ lines) = omega arith

line_more : (end : Bool) (b n : ℕ) (lines : List (List ℕ)) → length lines ≤ n → length (cond end ([] ∷ lines) (onto_first b lines)) ≤ n + 1
line_more true b n lines h = omega arith
line_more false b n lines h = omega (arith, first_longer b lines)

few_lines : (text : List ℕ) → length (lines_of text) ≤ length text
few_lines [] = omega arith
few_lines (b ∷ text) = omega (arith, line_more (b == 10) b (length text) (lines_of text) (few_lines text))

pub empty_is : {X : Type 0} (xs : List X) → length xs ≡ 0 → xs ≡ []
empty_is [] e = refl
empty_is (x ∷ xs) e = absurd (omega arith)

-- so a trace has no more lines than its text has bytes
pub trace_short : (text : List ℕ) (tolds : List Told) → IsTraceOf text tolds → length tolds ≤ length text
trace_short text tolds is = omega (arith, zip_length Spells (lines_of text) tolds is.0, few_lines text)
