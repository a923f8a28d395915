-- One open branch decides, and the next is not open.
use Rattle.std.proofs.Common.{sym, ◌∙◌}
use Rattle.std.proofs.lemmas.Bool.{false≢true}
use Rattle.tp_behaviour.specs.Choices.{IsOpen}
use Rattle.tp_exec.proofs.OpenBranchConditions.{fails, passes}
use Rattle.tp_exec.proofs.waiting.none_open.Goals as goal

pub returns-then-is_open : goal.returns-then-is_open
returns-then-is_open c = (
  λ e. absurd (false≢true e),
  λ none. absurd
      (fails (λ g. ¬ IsOpen c.args.desk.now.log g) c.args.guards.now c.loop-guard.guard-index c.guard-item.result c.loop-guard-test.true c.guard-item.is
      (λ shut. shut (c.is_open.ensures.0 c.if-is_open.true)) c.loop-guard.invariant none),
)

pub loop-guard-preserved : goal.loop-guard-preserved
loop-guard-preserved c =
    passes (λ g. ¬ IsOpen c.args.desk.now.log g) c.args.guards.now c.loop-guard.guard-index c.guard-item.result c.loop-guard-test.true c.guard-item.is
    (λ may. false≢true (sym c.if-is_open.false ∙ c.is_open.ensures.1 may)) c.loop-guard.invariant
