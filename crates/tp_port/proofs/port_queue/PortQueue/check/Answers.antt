-- The answer is the top, which meets the criteria, and the history ends with its being found.
use Rattle.std.proofs.Common.{refl, ◌≡◌, List}
use Rattle.std.specs.Option.{option_copied}
use Rattle.tp_common.specs.declared.event.Event.{Event}
use Rattle.tp_queue.specs.History.{Lawful}
use Rattle.tp_queue.specs.Answers.{Checks, checked}
use Rattle.tp_port.proofs.CheckAnswerIsFound.{check_done}
use Rattle.tp_port.proofs.port_queue.PortQueue.check.Goals as goal

pub returns : goal.returns
returns g c =
    let h : List (Event g.row.M.Denot) = c.self.inside.events.items in
    let all : (c.push.new.self.items ≡ checked c.args.self.now (option_copied c.top.result)) × Lawful c.push.new.self.items
    × Checks (g.W.Wanted.admits c.args.wanted.now) c.args.from c.args.self.now (option_copied c.top.result) =
    check_done _ _ h _ _ _ c.in-Some.env.now _ _ c.self.view_is
    (c.in-Some.ensures.found h c.self.invariant) (c.in-Some.ensures.after h c.self.invariant)
    (c.top.ensures h c.self.invariant) c.in_ok-push.ensures.items c.in_ok-twin-in-Some.ensures in
    ((refl, λ _. tt, (all.0, all.1)), record { after = tt; found = all.2 })
