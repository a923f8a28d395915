-- A sender's number is its place by first sight; a new name goes behind the others.
use Rattle.std.proofs.Common.{◌∙◌, ap, map, sym}
use Rattle.tp_port.specs.Replay.{sender_number, with_sender}
use Rattle.tp_port.proofs.SeenSenderNumbers.{seen_keys, number_key}
use Rattle.tp_port.proofs.senders.Senders.number.Goals as goal

pub returns-clause-seen : goal.returns-clause-seen
returns-clause-seen c =
    ap (map (λ name. name.now)) c.in_ok-number.ensures.keys
    ∙ seen_keys (λ name. name.now) c.self.inside.names.keys c.args.name
    ∙ ap (λ l. with_sender l c.args.name.now) c.self.view_is

pub returns-clause-number : goal.returns-clause-number
returns-clause-number c =
    c.in_ok-number.number-is ∙ c.in_ok-number.ensures.index
    ∙ number_key (λ name. name.now) c.self.inside.names.keys c.args.name
    ∙ ap (λ l. sender_number (with_sender l c.args.name.now) c.args.name.now) c.self.view_is
    ∙ ap (λ l. sender_number l c.args.name.now) (sym (returns-clause-seen c))
