-- The matching criteria of a receiving operation.
use Rattle.std.specs.Prelude.{◌≡◌, ℕ, Option, IfSome}
use Rattle.tp_common.specs.declared.event.Env.{Env}

-- the envelope is admitted, and comes from the named sender, if one is named
abbrev pub Satisfies : {M : Type 0} → (M → Type 0) → Option ℕ → Env M → Type 0
Satisfies admits from e = admits e.msg × IfSome from (λ sender. e.sender ≡ sender)
