-- The next room is the first, or the one doubled, up to one byte beyond the limit.
use Rattle.std.proofs.Common.{◌+◌, ◌∙◌, ap, min}
use Rattle.tp_common.proofs.ReadBytesAndRoom.{doubled_room, first_room}
use Rattle.tp_common.proofs.text.next_room.Goals.{else-size-eq0, then-size-eq0}
use Rattle.tp_common.proofs.text.next_room.Goals as goal

pub returns-clause-doubled : goal.returns-clause-doubled
returns-clause-doubled c =
    elim c.if-size-eq0.branch [
      | then-size-eq0 w ↦ first_room c.args.limit c.min.result (c.min.ensures ∙ ap (λ n. min n (c.args.limit + 1)) w.more-is)
      | else-size-eq0 w ↦
          doubled_room c.args.limit c.args.size c.min.result c.requires.size w.if-size-eq0.false c.requires.doubled
          (c.min.ensures ∙ ap (λ n. min n (c.args.limit + 1)) w.more-is)
    ]
