-- Where words follow a verb that has no operands, no line is spelled.
use Rattle.std.proofs.Common.{ap}
use Rattle.std.specs.Option.{option_copied}
use Rattle.tp_common.specs.Cutting.{words_after}
use Rattle.tp_port.proofs.QueueLinesByVerb.{alone_words}
use Rattle.tp_port.proofs.command.alone.Goals as goal

pub returns-in-Some : goal.returns-in-Some
returns-in-Some c =
    λ line same is spelled. alone_words c.in-Some.field-0.now _ line _ same c.requires (ap (λ o. words_after (option_copied o)) c.in-Some.is) spelled
