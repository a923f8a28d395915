-- A name is text.
use Rattle.tp_port.proofs.IntegerTextRoundTrip.{name_text}
use Rattle.tp_port.proofs.command.name_of.Goals as goal

pub returns-then-is_name : goal.returns-then-is_name
returns-then-is_name c = name_text c.args.word.now c.utf8_text.result (c.is_name.ensures.0 c.if-is_name.true) c.utf8_text.ensures
