-- How many of the branches are known not to be open.
use Rattle.std.proofs.Common.{◌≡◌, take}
use Rattle.tp_behaviour.specs.Choices.{NoneOpen}
use Rattle.tp_behaviour.specs.Views.{all_viewed}
use Rattle.tp_behaviour.proofs.choice.snapshot.Given as goal

-- the desk is as it was, and no branch so far is open
abbrev pub invariant-loop-branch : goal.invariant-loop-branch
invariant-loop-branch g l = (l.desk ≡ l.initial.desk) × NoneOpen l.initial.desk.log (take l.branch (all_viewed l.guards))
