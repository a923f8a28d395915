-- The queue gives its top exactly where that meets the criteria, and the answer is written so.
use Rattle.std.proofs.Common.{◌∙◌, ap, subst, ◌++◌, map, Option}
use Rattle.std.specs.Prelude.{ℤ, codes, string_bytes}
use Rattle.std.specs.Option.{option_to_list}
use Rattle.tp_common.specs.declared.event.Env.{Env}
use Rattle.tp_common.specs.declared.event.Event.TheVariants as event
use Rattle.tp_queue.specs.Queues.{StandsFor}
use Rattle.tp_port.specs.Replay.{envelope_or_no}
use Rattle.tp_port.proofs.IntegerQueueAnswers.{receives_found, received_is}
use Rattle.tp_port.proofs.engine.answer_receive.Goals as goal

pub returns-clause-history : goal.returns-clause-history
returns-clause-history c h s =
    subst (λ (o : Option (Env ℤ)). StandsFor c.receive-env.new.self (h ++ map event.Took (option_to_list o)))
    (receives_found c.args.value c.args.from h _ _ (c.receive-env.ensures h s))
    (received_is c.args.value c.args.from h _ _ (c.receive-env.ensures h s))

pub returns-clause-text : goal.returns-clause-text
returns-clause-text c h s =
    c.in_ok-write_envelope_or_no.ensures
    ∙ ap (λ o. string_bytes c.args.out.now ++ envelope_or_no c.args.senders.now (codes "took ") o)
    (c.as_ref.ensures.value ∙ receives_found c.args.value c.args.from h _ _ (c.receive-env.ensures h s))
