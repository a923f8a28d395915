-- Filled messages and templates have the types for which they were checked.
use Rattle.tp_value.specs.declared.types.Types.{Types}
use Rattle.tp_value.specs.declared.message.Message.{Message}
use Rattle.tp_value.specs.declared.message.MsgTemplate.{MsgTemplate}
use Rattle.tp_value.specs.HasType.{HasType}
use Rattle.tp_play.specs.declared.body.SendMsg.{SendMsg}
use Rattle.tp_play.specs.declared.body.RecvMsg.{RecvMsg}
use Rattle.tp_play.specs.Playable.{IsAlwaysTyped, IsAlwaysFitting, WantedFits}

-- if the message has its type whatever the loop variables hold, the filled message has this type
abbrev pub HasItsType : SendMsg → Message → Type 0
HasItsType message made = (types : Types) → IsAlwaysTyped types message → HasType types made.ty made.value

-- if the wanted part fits its type whatever the loop variables hold, the filled one fits this type
abbrev pub FitsItsType : RecvMsg → MsgTemplate → Type 0
FitsItsType wanted made = (types : Types) → IsAlwaysFitting types wanted → WantedFits types made
