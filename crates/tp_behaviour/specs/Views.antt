-- Guards while they are looked at, and what they stand for.
use Rattle.std.specs.Prelude.{List, map}
use Rattle.tp_value.specs.declared.message.Message.{Message}
use Rattle.tp_value.specs.declared.message.MsgTemplate.{MsgTemplate}
use Rattle.tp_value.specs.Admits.{Admits}
use Rattle.tp_behaviour.specs.declared.choice.Guard.{Guard}
use Rattle.tp_behaviour.specs.declared.choice.GuardView.{GuardView}
use Rattle.tp_behaviour.specs.declared.choice.TemplateView.{TemplateView}
use Rattle.tp_behaviour.specs.declared.choice.TemplateView.TheVariants as template_view

-- the template, wherever it stands
abbrev pub template_in : TemplateView → MsgTemplate
template_in (template_view.Lasting x) = x.now
template_in (template_view.Filled x) = x.value

-- the messages that it wants
abbrev pub Seeks : TemplateView → Message → Type 0
Seeks x = Admits (template_in x)

-- the guard
abbrev pub viewed : GuardView → Guard
viewed g = record { port = g.port; kind = g.kind; wanted = template_in g.wanted; sender = g.sender }

-- the guards
abbrev pub all_viewed : List GuardView → List Guard
all_viewed gs = map viewed gs
