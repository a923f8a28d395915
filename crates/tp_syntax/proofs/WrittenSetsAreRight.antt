-- What tests/checking/table_sets.py has written of each rule is right: computed. It writes this file too.
use Rattle.std.proofs.Common.{◌≡◌, true, refl}
use Rattle.tp_syntax.specs.Rule.{Rule}
use Rattle.tp_syntax.specs.Rule as r
use Rattle.tp_syntax.proofs.FirstTokens.{firsts}
use Rattle.tp_syntax.proofs.FollowingTokens.{follows}
use Rattle.tp_syntax.proofs.TokensTellAlternatives.{is_right}
use Rattle.tp_syntax.proofs.TextsOfRules.{is_shallow}

pub rules_are_right : (r : Rule) → is_right r ≡ true
unfolding firsts follows
rules_are_right r.a_module = refl
rules_are_right r = refl

pub rules_are_shallow : (r : Rule) → is_shallow r ≡ true
rules_are_shallow r.a_module = refl
rules_are_shallow r = refl
