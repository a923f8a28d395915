-- What was chosen is the one operation, or it waits for it.
use Rattle.std.proofs.Common.{◌≡◌, ◌∙◌, ◌∷◌, ◌++◌, [], false, List, ap, refl, sym, subst}
use Rattle.std.specs.Prelude.{IsSome}
use Rattle.tp_play.specs.declared.body.ResolvedStatement.TheVariants as b
use Rattle.tp_behaviour.specs.declared.choice.Guard.{Guard}
use Rattle.tp_behaviour.specs.declared.choosing.Choice.TheVariants as choice
use Rattle.tp_behaviour.specs.Held.{guard_of}
use Rattle.tp_behaviour.specs.LookOutcomes.{Chose, TraceGrew}
use Rattle.tp_behaviour.specs.Outcomes.{EndsStep}
use Rattle.tp_behaviour.specs.Workers.{role_of, values_of}
use Rattle.tp_behaviour.specs.Views.{viewed}
use Rattle.tp_behaviour.proofs.ReceiveOutcomes.{received, waits_for}
use Rattle.tp_behaviour.proofs.receiving.receive.Goals as goal

pub redirect-requires-clause-chosen : goal.redirect-requires-clause-chosen
redirect-requires-clause-chosen g c =
    let chose = rw c.in-Branch.is at c.in_ok-choose.ensures.chose in
    subst IsSome (sym chose.2.1) refl

pub returns-in-Branch-clause-ended : goal.returns-in-Branch-clause-ended
returns-in-Branch-clause-ended g c =
    let r = role_of c.args.execution.now.task.now in
    let turns = c.args.frame.now.turns.items in
    let vs = c.args.frame.now.variables.items in
    let x = c.args.receiving.now in
    let k = c.args.worker.now.desk.log in
    let n = c.choose.new.worker.desk.log in
    let chose = rw c.in-Branch.is at c.in_ok-choose.ensures.chose in
    subst (λ o. TraceGrew (λ ts. EndsStep r o turns vs (b.Receive x) ts c.redirect.new.frame.variables.items) k n) (sym c.requires.goes_on)
    (received r turns vs c.redirect.new.frame.variables.items x (viewed c.in_ok-view.view ∷ []) c.in-Branch.field-0 k n
    (ap (λ (y : Guard). y ∷ []) c.in_ok-view.ensures) chose c.in_ok-redirect-in-Branch.ensures.set)

pub returns-in-Waits-clause-ended : goal.returns-in-Waits-clause-ended
returns-in-Waits-clause-ended g c =
    let r = role_of c.args.execution.now.task.now in
    let turns = c.args.frame.now.turns.items in
    let vs = c.args.frame.now.variables.items in
    let x = c.args.receiving.now in
    let k = c.args.worker.now.desk.log in
    let n = c.choose.new.worker.desk.log in
    let chose = rw c.in-Waits.is at c.in_ok-choose.ensures.chose in
    let one : c.push_reserved.new.self.items ≡ guard_of r (values_of c.args.frame.now) x ∷ [] =
    c.push_reserved.ensures.items ∙ ap (λ (l : List Guard). l ++ c.in_ok-guard-in-Waits.guard ∷ []) c.in_ok-guards-in-Waits.ensures.items
    ∙ ap (λ (y : Guard). y ∷ []) c.in_ok-guard-in-Waits.ensures in
    waits_for r turns vs x c.push_reserved.new.self.items k n one
    (subst (λ l. TraceGrew (Chose l false n choice.Waits) k n) (ap (λ (y : Guard). y ∷ []) c.in_ok-view.ensures ∙ sym one) chose)
