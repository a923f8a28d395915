-- A refused put leaves the desk as it was before the note.
use Rattle.tp_inbox.proofs.sender.Sender.send.Goals as goal

pub withdraw-requires : goal.withdraw-requires
withdraw-requires g c = (c.args.desk.now, (c.route-route.result, c.count-number.result, c.args.message, c.in-Ok.ensures.ok))
