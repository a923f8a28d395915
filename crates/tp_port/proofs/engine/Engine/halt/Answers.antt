-- With a `halt` nothing arrives; the answer counts what is ahead of the mark, if one was put.
use Rattle.std.proofs.Common.{◌∙◌, ap, sym, refl, ◌++◌, arith}
use Rattle.std.specs.Prelude.{string_bytes}
use Rattle.tp_common.specs.declared.event.Event.TheVariants as event
use Rattle.tp_port.specs.QueueLine.{halt}
use Rattle.tp_port.specs.Replay.{halted_text}
use Rattle.tp_port.proofs.ReplayedLineOutcomes.{carries_quiet, quiet_one}
use Rattle.tp_port.proofs.engine.Engine.halt.Goals as goal

pub returns-in_ok-write_count-in-Some : goal.returns-in_ok-write_count-in-Some
returns-in_ok-write_count-in-Some c =
    carries_quiet _ _ halt (λ s. quiet_one event.Halted refl) refl (omega arith) refl
    (λ s come. c.halt.ensures.after s.history come.queue)
    (λ s come.
    c.in_ok-write_count-in-Some.ensures
    ∙ ap (λ n. string_bytes c.args.self.now.answers ++ halted_text n) (sym c.in-Some.is ∙ c.halt.ensures.count s.history come.queue))

pub returns-in_ok-push_str-in-None : goal.returns-in_ok-push_str-in-None
returns-in_ok-push_str-in-None c =
    carries_quiet _ _ halt (λ s. quiet_one event.Halted refl) refl (omega arith) refl
    (λ s come. c.halt.ensures.after s.history come.queue)
    (λ s come.
    c.in_ok-push_str-in-None.ensures.bytes
    ∙ ap (λ n. string_bytes c.args.self.now.answers ++ halted_text n) (sym c.in-None.is ∙ c.halt.ensures.count s.history come.queue))
