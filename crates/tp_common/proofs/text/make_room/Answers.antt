-- The room is one that there may be, and the text so far stays.
use Rattle.std.proofs.Common.{sym, subst}
use Rattle.tp_common.specs.Reading.{IsRoom}
use Rattle.tp_common.proofs.ReadBytesAndRoom.{either_room}
use Rattle.tp_common.proofs.text.make_room.Goals as goal

pub returns-clause-doubled : goal.returns-clause-doubled
returns-clause-doubled c = subst (IsRoom c.args.limit) (sym c.resize.ensures.len) (either_room _ _ _ _ c.next_room.ensures.doubled c.requires.doubled)
