-- Which messages a message template matches.
use Rattle.std.specs.Prelude.{◌≡◌}
use Rattle.tp_value.specs.declared.message.Message.{Message}
use Rattle.tp_value.specs.declared.message.MsgTemplate.{MsgTemplate}
use Rattle.tp_value.specs.declared.message.MsgTemplate.TheVariants as msg_template
use Rattle.tp_value.specs.Matches.{Matches}

-- every message, or one of this type whose value matches
abbrev pub Admits : MsgTemplate → Message → Type 0
Admits msg_template.Any msg = Unit {0}
Admits (msg_template.Of t template) msg = (msg.ty ≡ t) × Matches template msg.value
