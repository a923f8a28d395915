-- How many variables are declared.
use Rattle.std.proofs.Common.{◌≡◌, None, map, take}
use Rattle.tp_behaviour.proofs.behaving.begin.Given as goal

-- so many of the variables are declared, and none is set
abbrev pub invariant-loop-variable : goal.invariant-loop-variable
invariant-loop-variable g l = l.variables.items ≡ map (λ _. None) (take l._variable-index l._variable-items)
