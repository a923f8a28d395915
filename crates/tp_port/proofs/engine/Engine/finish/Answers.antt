-- What is left is what is queued, by whichever history the queue stands for.
use Rattle.std.proofs.Common.{◌∙◌, ap, ◌++◌}
use Rattle.std.specs.Prelude.{string_bytes}
use Rattle.tp_queue.specs.Queues.{QueueState}
use Rattle.tp_port.specs.Replay.{text_of_left}
use Rattle.tp_port.proofs.engine.Engine.finish.Goals as goal

pub returns : goal.returns
returns c s come =
    c.in_ok-write_left.ensures
    ∙ ap (λ n. string_bytes c.args.self.answers ++ text_of_left n c.args.self.queue.entries) come.senders
    ∙ ap (λ (q : QueueState _). string_bytes c.args.self.answers ++ text_of_left s.senders q.entries) come.queue.state
