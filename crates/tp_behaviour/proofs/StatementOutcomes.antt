-- How what a statement comes to is put together.
use Rattle.std.proofs.Common.{◌≡◌, ◌∙◌, List, [], ◌∷◌, ◌++◌, ap, subst, sym}
use Rattle.std.proofs.lemmas.List.{append_assoc}
use Rattle.tp_play.specs.declared.body.SendOperation.{SendOperation}
use Rattle.tp_play.specs.declared.body.ResolvedStatement.{ResolvedStatement}
use Rattle.tp_play.specs.declared.body.ResolvedStatement.TheVariants as b
use Rattle.tp_inbox.specs.declared.entry.Entry.{Entry}
use Rattle.tp_inbox.specs.declared.entry.Entry.TheVariants as entry
use Rattle.tp_inbox.specs.declared.ending.End.TheVariants as ending
use Rattle.tp_inbox.specs.declared.send_fault.SendFault.{SendFault}
use Rattle.tp_behaviour.specs.declared.outcome.Outcome.{Outcome}
use Rattle.tp_behaviour.specs.declared.outcome.Outcome.TheVariants as outcome
use Rattle.tp_behaviour.specs.declared.task.Task.{Task}
use Rattle.tp_behaviour.specs.declared.worker.Worker.{Worker}
use Rattle.tp_behaviour.specs.declared.worker.Frame.{Frame}
use Rattle.tp_behaviour.specs.BehaviourEnds.{StopsWithin}
use Rattle.tp_behaviour.specs.Held.{Actor, Values}
use Rattle.tp_behaviour.specs.Moments.{Moment, moments}
use Rattle.tp_behaviour.specs.LookOutcomes.{Carries, TraceGrew}
use Rattle.tp_behaviour.specs.Outcomes.{Stepped}
use Rattle.tp_behaviour.specs.Sends.{Sends}
use Rattle.tp_behaviour.specs.Workers.{role_of}
use Rattle.std.specs.Prelude.{Some}

-- a send that fails ends the behaviour
pub failed : (r : Actor) (vs : Values) (x : SendOperation) (fault : SendFault) (k n : List Entry) → Sends r vs x (Some fault) k n
    → TraceGrew (λ ts. StopsWithin r (λ _. ⊥) (ending.Error fault) vs.turns vs.variables (b.Send x) ts) k n
failed r vs x fault k n grew =
    let t = grew.2.0 in
    let u : Moment = record { before = t.before; entry = entry.Failed fault } in
    let same : t ≡ u = λ i. record { before = t.before; entry = grew.2.2.1 i } in (
      u ∷ [],
      grew.1 ∙ ap (λ ts. moments k ++ ts) (grew.2.1 ∙ ap (λ v. v ∷ []) same),
      StopsWithin.fails vs.turns vs.variables x t.before fault grew.2.2.0,
    )

-- a statement that leaves the frame as it was
pub carried : (p : Task) (x y : ResolvedStatement) (o : Outcome) (here there : Worker) (s : Frame) → x ≡ y → o ≡ outcome.Done
    → Carries (role_of p) y here.desk there.desk → Stepped p x o here s there s
carried p x y o here there s is goes_on h =
    subst (λ z. Stepped p z o here s there s) (sym is)
    (subst (λ q. Stepped p y q here s there s) (sym goes_on) (h s.turns.items s.variables.items))

-- what grew twice
pub grew_on : (p q w : List Moment → Type 0) (k l n : List Entry) → ((ts us : List Moment) → p ts → q us → w (ts ++ us)) → TraceGrew p k l → TraceGrew q l n → TraceGrew w k n
grew_on p q w k l n go g h = (g.0 ++ h.0, h.1 ∙ ap (λ ts. ts ++ h.0) g.1 ∙ append_assoc (moments k) g.0 h.0, go g.0 h.0 g.2 h.2)
