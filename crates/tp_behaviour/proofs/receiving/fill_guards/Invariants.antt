-- How many of the guards are made.
use Rattle.std.proofs.Common.{◌≡◌, take}
use Rattle.tp_behaviour.specs.Paths.{guards_of}
use Rattle.tp_behaviour.specs.Workers.{role_of, values_of}
use Rattle.tp_behaviour.proofs.receiving.fill_guards.Given as goal

-- so far those of the branches up to here
abbrev pub invariant-loop-branch : goal.invariant-loop-branch
invariant-loop-branch l = l.guards.items ≡ guards_of (role_of l.task) (values_of l.frame) (take l.branch-index l.branches)
