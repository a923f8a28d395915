-- Values and templates that are the same whatever the loop variables hold.
use Rattle.std.specs.Prelude.{◌≡◌, ◌≤◌, ℤ, List}
use Rattle.tp_play.specs.declared.body.SendValue.{SendValue}
use Rattle.tp_play.specs.declared.body.RecvTemplate.{RecvTemplate}
use Rattle.tp_play.specs.Fills.{needed, needed_by_template, filled, filled_template}

-- a value that needs no loop variable, and is the same whatever they hold
abbrev pub IsFixedValue : SendValue → Type 0
IsFixedValue x = (needed x ≤ 0) × ((turns others : List ℤ) → filled turns x ≡ filled others x)

-- a template that needs no loop variable, and is the same whatever they hold
abbrev pub IsFixed : RecvTemplate → Type 0
IsFixed x = (needed_by_template x ≤ 0) × ((turns others : List ℤ) → filled_template turns x ≡ filled_template others x)
