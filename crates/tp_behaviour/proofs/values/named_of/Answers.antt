-- The component that is named, for each way to name one.
use Rattle.std.proofs.Common.{None, Some, get_or, subst, sym}
use Rattle.tp_config.specs.declared.port_type.CompId.{CompId}
use Rattle.tp_play.specs.declared.body.Receiver.{Receiver}
use Rattle.tp_behaviour.specs.Held.{IsNamed}
use Rattle.tp_behaviour.specs.Workers.{role_of, values_of}
use Rattle.tp_behaviour.proofs.ValuesHeldByVariables.{referred}
use Rattle.tp_behaviour.proofs.values.named_of.Goals as goal

pub returns-in-Nobody : goal.returns-in-Nobody
returns-in-Nobody c =
    subst (λ (t : Receiver). IsNamed (role_of c.args.task.now) (values_of c.args.frame.now) t None) (sym c.in-Nobody.is) IsNamed.nobody

pub returns-in-Reference : goal.returns-in-Reference
returns-in-Reference c =
    let below = rw c.in-Reference.is at c.requires in
    let cs = c.args.task.now.behaviour.references.now in
    let k = c.in-Reference.place in
    let none : CompId = record { 0 = 0 } in
    subst (λ (t : Receiver). IsNamed (role_of c.args.task.now) (values_of c.args.frame.now) t (Some (get_or cs k none))) (sym c.in-Reference.is)
    (IsNamed.reference k (get_or cs k none) (referred cs k none below))

pub returns-in-Some : goal.returns-in-Some
returns-in-Some c =
    subst (λ (t : Receiver). IsNamed (role_of c.args.task.now) (values_of c.args.frame.now) t (Some c.in-Some.comp)) (sym c.in-Variable.is)
    (IsNamed.variable c.in-Variable.place c.in-Some.comp c.in-Some.ensures)
