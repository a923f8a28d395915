-- How many loop variables statements need.
use Rattle.std.specs.Prelude.{ℕ, ◌-◌, List, Option, None, Some, map, max}
use Rattle.tp_play.specs.declared.body.{Sent.Sent, ResolvedStatement.ResolvedStatement, ResolvedBranch.ResolvedBranch}
use Rattle.tp_play.specs.declared.body.ResolvedStatement.TheFolds.{fold-ResolvedBranch, fold-ResolvedStatement}
use Rattle.tp_play.specs.declared.body.Sent.TheVariants as sent
use Rattle.tp_play.specs.declared.body.ResolvedStatement.TheOpen as o
use Rattle.tp_play.specs.Fills.{greatest, needed, needed_by_wanted}

-- how many loop variables need values when this is sent
abbrev pub needed_by_sent : Sent → ℕ
needed_by_sent (sent.Written m) = needed m.value
needed_by_sent (sent.Variable k) = 0

-- the same for the block of an `[else]`, if there is one
abbrev pub needed_by_else : Option (List ℕ) → ℕ
needed_by_else None = 0
needed_by_else (Some ns) = greatest ns

-- one layer of a statement; a `for` is one of the loops around its block
abbrev pub needed_statement_step : o.ResolvedStatement-F ℕ ℕ → ℕ
needed_statement_step (o.Send x) = needed_by_sent x.sent
needed_statement_step (o.Receive x) = needed_by_wanted x.wanted
needed_statement_step (o.Control k x) = 0
needed_statement_step (o.AllPorts x) = 0
needed_statement_step (o.SetVerdict x) = 0
needed_statement_step (o.Alt branches otherwise) = max (greatest branches) (needed_by_else otherwise)
needed_statement_step (o.For first bound block) = greatest block - 1

-- one layer of a branch
abbrev pub needed_branch_step : o.ResolvedBranch-F ℕ ℕ → ℕ
needed_branch_step branch = max (needed_by_wanted branch.receiving.wanted) (greatest branch.block)

-- how many loops a statement needs around it
unfoldable pub needed_around : ResolvedStatement → ℕ
needed_around = fold-ResolvedStatement ℕ ℕ needed_statement_step needed_branch_step

-- how many loops a branch needs around it
unfoldable pub needed_around_branch : ResolvedBranch → ℕ
needed_around_branch = fold-ResolvedBranch ℕ ℕ needed_statement_step needed_branch_step

-- how many loops a block needs around it
abbrev pub needed_around_all : List ResolvedStatement → ℕ
needed_around_all statements = greatest (map needed_around statements)
