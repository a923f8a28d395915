-- A message that is written out is sent as it was filled, and a variable as what it holds.
use Rattle.std.proofs.Common.{◌∙◌, ap, subst, sym}
use Rattle.tp_value.specs.declared.message.Message.{Message}
use Rattle.tp_play.specs.declared.body.Sent.{Sent}
use Rattle.tp_play.specs.Fills.{filled}
use Rattle.tp_behaviour.specs.declared.held.Held.TheVariants as held
use Rattle.tp_behaviour.specs.Held.{Holds, IsSentAs}
use Rattle.tp_behaviour.specs.Workers.{values_of}
use Rattle.tp_behaviour.proofs.ValuesHeldByVariables.{sent_written}
use Rattle.tp_behaviour.proofs.values.message_of.Goals as goal

pub returns-in_ok-filled-in-Written : goal.returns-in_ok-filled-in-Written
returns-in_ok-filled-in-Written c =
    let vs = values_of c.args.frame.now in
    let x = c.in_ok-filled-in-Written in
    subst (λ (s : Sent). IsSentAs vs s x.filled) (sym c.in-Written.is)
    (sent_written vs c.in-Written.message x.filled x.ensures.ty
    (x.ensures.value ∙ ap (λ ts. filled ts c.in-Written.message.value) c.as_slice.ensures.value))

pub returns-in_ok-copy-in-Some : goal.returns-in_ok-copy-in-Some
returns-in_ok-copy-in-Some c =
    let vs = values_of c.args.frame.now in
    let k = c.in-Variable.place in
    let copy = c.in_ok-copy-in-Some.copy in
    subst (λ (s : Sent). IsSentAs vs s copy) (sym c.in-Variable.is)
    (IsSentAs.variable k copy (subst (λ (m : Message). Holds vs k (held.Value m)) (sym c.in_ok-copy-in-Some.ensures) c.in-Some.ensures))
