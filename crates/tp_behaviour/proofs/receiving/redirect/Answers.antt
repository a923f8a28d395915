-- The variables that are named are there, and are declared for what is put into them.
use Rattle.std.proofs.Common.{subst, sym}
use Rattle.tp_behaviour.specs.Outcomes.{stage_at}
use Rattle.tp_behaviour.specs.Workers.{AreHeld}
use Rattle.tp_behaviour.proofs.ReceiveOutcomes.{sender_held, sender_within, value_held, value_within}
use Rattle.tp_behaviour.proofs.receiving.redirect.Goals as goal

pub keep_message-requires : goal.keep_message-requires
keep_message-requires c =
    value_within (stage_at c.args.task.now) c.args.frame.now.variables.items c.requires.held c.args.receiving.now.wanted c.args.receiving.now.value_to
    c.requires.can.value_to

pub keep-requires : goal.keep-requires
keep-requires c =
    let s = stage_at c.args.task.now in
    let can = c.requires.can in
    let held = value_held s c.args.frame.now.variables.items c.requires.held c.args.receiving.now.wanted c.args.receiving.now.value_to c.in-Some.env.now.msg
    can.value_to in
    sender_within s c.keep_message.new.variables.items (subst (AreHeld s.variables) (sym c.in_ok-keep_message.ensures) held) c.args.receiving.now.sender_to
    can.sender_to

pub returns-clause-held : goal.returns-clause-held
returns-clause-held c =
    let s = stage_at c.args.task.now in
    let can = c.requires.can in
    let held = value_held s c.args.frame.now.variables.items c.requires.held c.args.receiving.now.wanted c.args.receiving.now.value_to c.in-Some.env.now.msg
    can.value_to in
    let had = subst (AreHeld s.variables) (sym c.in_ok-keep_message.ensures) held in
    let sender = sender_held s c.keep_message.new.variables.items had c.args.receiving.now.sender_to (record { 0 = c.sender.result }) can.sender_to in
    subst (AreHeld s.variables) (sym c.keep.ensures) sender
