-- The queue finds its top exactly where that meets the criteria, and the answer is written so.
use Rattle.std.proofs.Common.{◌∙◌, ap, subst, ◌++◌, map, Option}
use Rattle.std.specs.Prelude.{ℤ, codes, string_bytes}
use Rattle.std.specs.Option.{option_to_list}
use Rattle.tp_common.specs.declared.event.Env.{Env}
use Rattle.tp_common.specs.declared.event.Event.TheVariants as event
use Rattle.tp_queue.specs.Queues.{StandsFor}
use Rattle.tp_port.specs.Replay.{envelope_or_no}
use Rattle.tp_port.proofs.IntegerQueueAnswers.{checks_found, checked_is}
use Rattle.tp_port.proofs.engine.answer_check.Goals as goal

pub returns-clause-history : goal.returns-clause-history
returns-clause-history c h s =
    subst (λ (o : Option (Env ℤ)). StandsFor c.args.queue.now (h ++ map event.Found (option_to_list o)))
    (checks_found c.args.value c.args.from h _ (c.check-env.ensures.found h s))
    (checked_is h _ _ (c.check-env.ensures.after h s))

pub returns-clause-text : goal.returns-clause-text
returns-clause-text c h s =
    c.in_ok-write_envelope_or_no.ensures
    ∙ ap (λ o. string_bytes c.args.out.now ++ envelope_or_no c.args.senders.now (codes "found ") o)
    (checks_found c.args.value c.args.from h _ (c.check-env.ensures.found h s))
