-- The templates of a body that last while a behaviour runs.
use Rattle.std.specs.Prelude.{◌≡◌, ℤ, Option, Some, None, List}
use Rattle.std.specs.List.{AllZip}
use Rattle.tp_value.specs.declared.message.MsgTemplate.{MsgTemplate}
use Rattle.tp_play.specs.declared.body.RecvMsg.{RecvMsg}
use Rattle.tp_play.specs.declared.body.ResolvedStatement.{ResolvedStatement}
use Rattle.tp_play.specs.declared.body.ResolvedStatement.TheOpen as o
use Rattle.tp_play.specs.declared.body.ResolvedStatement.TheFolds.{rec-ResolvedStatement, rec-ResolvedBranch}
use Rattle.tp_play.specs.declared.body.ResolvedBranch.{ResolvedBranch}
use Rattle.tp_play.specs.Fills.{filled_wanted}
use Rattle.tp_behaviour.specs.declared.lasting.Lasting.{Lasting, out-Lasting}

-- the template, if there is one, is what is wanted, whatever the loop variables hold
abbrev pub IsWantedAlways : RecvMsg → Option MsgTemplate → Type 0
IsWantedAlways x None = Unit {0}
IsWantedAlways x (Some made) = (turns : List ℤ) → made ≡ filled_wanted turns x

-- `lasts` holds for each statement of a block that may be missing
abbrev pub ElseLasts : {X : Type 0} → (X → Lasting → Type 0) → Option (List X) → List Lasting → Type 0
ElseLasts lasts None kept = Unit {0}
ElseLasts lasts (Some xs) kept = AllZip lasts xs kept

-- one layer of a statement
abbrev pub statement_lasts : (X Y : Type 0) → (X → ResolvedStatement) → (Y → ResolvedBranch) → (X → Lasting → Type 0)
    → (Y → Lasting → Type 0)
    → o.ResolvedStatement-F X Y → Lasting → Type 0
statement_lasts X Y statement branch lasts enters (o.Send x) kept = Unit {0}
statement_lasts X Y statement branch lasts enters (o.Receive x) kept = IsWantedAlways x.wanted (out-Lasting kept).wanted
statement_lasts X Y statement branch lasts enters (o.Control k x) kept = Unit {0}
statement_lasts X Y statement branch lasts enters (o.AllPorts x) kept = Unit {0}
statement_lasts X Y statement branch lasts enters (o.SetVerdict x) kept = Unit {0}
statement_lasts X Y statement branch lasts enters (o.Alt branches otherwise) kept =
    AllZip enters branches (out-Lasting kept).branches × ElseLasts lasts otherwise (out-Lasting kept).block
statement_lasts X Y statement branch lasts enters (o.For first bound block) kept =
    AllZip lasts block (out-Lasting kept).block

-- one layer of a branch
abbrev pub branch_lasts : (X Y : Type 0) → (X → ResolvedStatement) → (Y → ResolvedBranch) → (X → Lasting → Type 0)
    → (Y → Lasting → Type 0)
    → o.ResolvedBranch-F X Y → Lasting → Type 0
branch_lasts X Y statement branch lasts enters x kept = IsWantedAlways x.receiving.wanted (out-Lasting kept).wanted
    × AllZip lasts x.block (out-Lasting kept).block

-- these are the lasting templates of the statement
unfoldable pub IsLasting : ResolvedStatement → Lasting → Type 0
IsLasting x kept = rec-ResolvedStatement (Lasting → Type 0) (Lasting → Type 0) statement_lasts branch_lasts x kept

-- these are the lasting templates of the branch
unfoldable pub IsLastingBranch : ResolvedBranch → Lasting → Type 0
IsLastingBranch x kept = rec-ResolvedBranch (Lasting → Type 0) (Lasting → Type 0) statement_lasts branch_lasts x kept

-- these are the lasting templates of the statements of a block, one element for each statement
abbrev pub AreLasting : List ResolvedStatement → List Lasting → Type 0
AreLasting xs kept = AllZip IsLasting xs kept

-- these are the lasting templates of the branches of an `alt`, one element for each branch
abbrev pub AreLastingBranches : List ResolvedBranch → List Lasting → Type 0
AreLastingBranches xs kept = AllZip IsLastingBranch xs kept

-- these are the lasting templates of a block that may be missing
abbrev pub IsLastingElse : Option (List ResolvedStatement) → List Lasting → Type 0
IsLastingElse xs kept = ElseLasts IsLasting xs kept
