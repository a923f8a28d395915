-- How many statements a body has, if the block of a `for` counts once for each turn.
use Rattle.std.specs.Prelude.{ℕ, ◌+◌, ◌*◌, ℤ, ◌-ℤ◌, List, Option, Some, None, map, sum, length, nat_lt, int_lt}
use Rattle.std.specs.Prelude.{unsigned_abs, if◌then◌else◌}
use Rattle.tp_play.specs.declared.body.ResolvedStatement.{ResolvedStatement}
use Rattle.tp_play.specs.declared.body.ResolvedStatement.TheOpen as o
use Rattle.tp_play.specs.declared.body.ResolvedStatement.TheFolds.{fold-ResolvedBranch, fold-ResolvedStatement}
use Rattle.tp_play.specs.declared.body.ResolvedBranch.{ResolvedBranch}
use Rattle.tp_play.specs.declared.body.Body.{Body}

-- one more than the greatest size that is allowed
abbrev pub size_limit : ℕ
size_limit = 100001

-- the number itself up to 100,000, and 100,001 for every greater one
abbrev pub capped : ℕ → ℕ
capped n = if nat_lt n size_limit then n else size_limit

-- how many turns there are from the first value to the bound: none if the bound isn't above the first value
abbrev pub turns_between : ℤ → ℤ → ℕ
turns_between first bound = if int_lt first bound then unsigned_abs (bound -ℤ first) else 0

-- the size of a block that may be missing
abbrev pub else_size : Option (List ℕ) → ℕ
else_size None = 0
else_size (Some sizes) = sum sizes

-- a statement counts 1; an `alt` 1 and the statements of its blocks; a `for` 1 and those of its block once for each
-- turn
abbrev pub statement_step : o.ResolvedStatement-F ℕ ℕ → ℕ
statement_step (o.Send x) = 1
statement_step (o.Receive x) = 1
statement_step (o.Control k x) = 1
statement_step (o.AllPorts x) = 1
statement_step (o.SetVerdict x) = 1
statement_step (o.Alt branches otherwise) = 1 + (sum branches + else_size otherwise)
statement_step (o.For first bound block) = 1 + turns_between first bound * sum block

-- a branch counts as many as the statements of its block
abbrev pub branch_step : o.ResolvedBranch-F ℕ ℕ → ℕ
branch_step branch = sum branch.block

-- the size of a statement
unfoldable pub size_of : ResolvedStatement → ℕ
size_of = fold-ResolvedStatement ℕ ℕ statement_step branch_step

-- the size of a branch
unfoldable pub size_in : ResolvedBranch → ℕ
size_in = fold-ResolvedBranch ℕ ℕ statement_step branch_step

-- the size of a block
abbrev pub size_of_all : List ResolvedStatement → ℕ
size_of_all statements = sum (map size_of statements)

-- the size of the branches of an `alt`
abbrev pub size_in_all : List ResolvedBranch → ℕ
size_in_all branches = sum (map size_in branches)

-- the size of a body: each of its variables counts 1
abbrev pub size_of_body : Body → ℕ
size_of_body body = length body.variables + size_of_all body.statements
