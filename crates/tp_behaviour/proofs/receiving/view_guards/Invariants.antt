-- How many of the guards can be looked at.
use Rattle.std.proofs.Common.{◌≡◌, take}
use Rattle.tp_behaviour.specs.Paths.{guards_of}
use Rattle.tp_behaviour.specs.Workers.{role_of, values_of}
use Rattle.tp_behaviour.specs.Views.{all_viewed}
use Rattle.tp_behaviour.proofs.receiving.view_guards.Given as goal

-- so far they stand for those of the branches up to here
abbrev pub invariant-loop-place : goal.invariant-loop-place
invariant-loop-place l = all_viewed l.guards.items ≡ guards_of (role_of l.task) (values_of l.frame) (take l.place l.branches)
