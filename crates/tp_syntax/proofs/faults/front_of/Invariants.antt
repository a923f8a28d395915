-- The tokens up to this place are within the limits.
use Rattle.std.proofs.Common.{◌≤◌, ◌-◌, length}
use Rattle.tp_syntax.proofs.TokensPassedWithinLimits.{HasGone}
use Rattle.tp_syntax.proofs.faults.front_of.Given as goal

abbrev pub invariant-more : goal.invariant-more
invariant-more l = record {
  gone : HasGone l.tokens.items l.place l.opened l.is_signed;
  few : l.opened ≤ 32;
  within : l.place ≤ length l.tokens.items;
}

abbrev pub decreases-more : goal.decreases-more
decreases-more l = length l.tokens.items - l.place
