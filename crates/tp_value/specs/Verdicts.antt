-- The order of verdicts.
use Rattle.std.specs.Prelude.{ℕ, nat_eq, nat_lt, if◌then◌else◌}
use Rattle.tp_value.specs.declared.verdict.Verdict.{Verdict}
use Rattle.tp_value.specs.declared.verdict.Verdict.TheVariants as verdict

-- the place of a verdict in the order none, pass, inconc, fail, error
abbrev pub rank : Verdict → ℕ
rank verdict.None = 0
rank verdict.Pass = 1
rank verdict.Inconc = 2
rank verdict.Fail = 3
rank verdict.Error = 4

-- the verdict of a rank
abbrev pub verdict_of_rank : ℕ → Verdict
verdict_of_rank n =
    if nat_eq n 0 then verdict.None else
    (if nat_eq n 1 then verdict.Pass else
    (if nat_eq n 2 then verdict.Inconc else
    (if nat_eq n 3 then verdict.Fail else verdict.Error)))

-- the greater of two verdicts
abbrev pub worse : Verdict → Verdict → Verdict
worse a b = if nat_lt (rank a) (rank b) then b else a
