-- Where nothing is deliverable there is no top; else it is the first of the entries.
use Rattle.std.proofs.Common.{arith, ◌∙◌, ◌≡◌}
use Rattle.std.specs.Prelude.{slice_get}
use Rattle.std.specs.Option.{option_copied}
use Rattle.std.proofs.lemmas.Grind.{common_steps}
use Rattle.tp_queue.proofs.QueueStateTransitions.{ahead_of, top_absent, top_there}
use Rattle.tp_queue.proofs.queue.Queue.top.Goals as goal

pub returns-then-ahead-eq0 : goal.returns-then-ahead-eq0
returns-then-ahead-eq0 g c = top_absent _ _ (ahead_of _ _ c.ahead.ensures.count) c.if-ahead-eq0.true

pub returns-else-ahead-eq0 : goal.returns-else-ahead-eq0
returns-else-ahead-eq0 g c h s =
    let a : option_copied c.front.result ≡ slice_get c.self.inside.entries.items 0 = grind (arith, common_steps) in
    a ∙ top_there _ _ _ _ _ c.self.view_is (ahead_of _ _ c.ahead.ensures.count) c.if-ahead-eq0.false h s
