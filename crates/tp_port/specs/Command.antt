-- What a command says, wherever its names are in memory.
use Rattle.std.specs.Prelude.{◌≡◌, ℕ, Option, Some, None, List}
use Rattle.std.specs.Borrow.{Bor}
use Rattle.std.specs.Option.{option_copied}
use Rattle.tp_common.specs.Cutting.{words_after}
use Rattle.tp_port.specs.declared.command.Criteria.{Criteria}
use Rattle.tp_port.specs.declared.command.CommandVerb.{CommandVerb}
use Rattle.tp_port.specs.declared.command.Command.{Command}
use Rattle.tp_port.specs.declared.command.Command.TheVariants as command
use Rattle.tp_port.specs.QueueLine.{QueueLine, Wish, IsQueueLine, arrive, receive, check, trigger, clear, start, stop}
use Rattle.tp_port.specs.QueueLine.{halt, operands, verb_of}

-- the remaining words of a line
abbrev pub words_left : Option (Bor (List ℕ)) → List (List ℕ)
words_left words = words_after (option_copied words)

abbrev pub wish_of : Criteria → Wish
wish_of c = record { value = c.value; from = option_copied c.from }

-- the line that a command stands for
abbrev pub queue_line : Command → QueueLine
queue_line (command.Arrive name n) = arrive name.now n
queue_line (command.Receive c) = receive (wish_of c)
queue_line (command.Check c) = check (wish_of c)
queue_line (command.Trigger c) = trigger (wish_of c)
queue_line command.Clear = clear
queue_line command.Start = start
queue_line command.Stop = stop
queue_line command.Halt = halt

-- the result of reading a line of this verb and these operands: its command, or none if there is no such line
abbrev pub IsRead : CommandVerb → List (List ℕ) → Option Command → Type 0
IsRead verb words None = (line : QueueLine) → verb_of line ≡ verb → IsQueueLine line → words ≡ operands line → ⊥
IsRead verb words (Some c) = (verb_of (queue_line c) ≡ verb) × IsQueueLine (queue_line c) × (words ≡ operands (queue_line c))
