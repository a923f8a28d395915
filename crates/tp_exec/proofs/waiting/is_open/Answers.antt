-- A branch is open by the top of its port.
use Rattle.std.proofs.Common.{sym, ◌∙◌}
use Rattle.std.proofs.lemmas.Bool.{false≢true}
use Rattle.tp_exec.proofs.OpenBranchConditions.{by_top, discards, shut}
use Rattle.tp_exec.proofs.waiting.is_open.Goals as goal

pub returns-in-None : goal.returns-in-None
returns-in-None c =
    (λ e. absurd (false≢true e), λ may. absurd (shut c.args.desk.now.log c.args.guard.now (c.in-None.ensures _ c.queue.ensures) may))

pub returns-then-discards : goal.returns-then-discards
returns-then-discards c = (
  λ e. discards c.args.desk.now.log c.args.guard.now c.in-Some.env.now (c.in-Some.ensures _ c.queue.ensures) (c.discards.ensures.0 c.if-discards.true),
  λ may. c.if-discards.true,
)

pub returns-else-discards : goal.returns-else-discards
returns-else-discards c =
    by_top c.args.desk.now.log c.args.guard.now c.in-Some.env.now c.satisfies.result (c.in-Some.ensures _ c.queue.ensures)
    (λ is. false≢true (sym c.if-discards.false ∙ c.discards.ensures.1 is)) c.satisfies.ensures
