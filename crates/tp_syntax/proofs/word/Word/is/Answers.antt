-- The comparison answers yes exactly where both are one word.
use Rattle.std.proofs.Common.{rules, sym, ◌∙◌}
use Rattle.tp_syntax.specs.contracts.word.Word.{the_type}
use denote.Enum.Bare.{same_true, true_same}
use Rattle.tp_syntax.proofs.word.Word.is.Goals as goal

pub returns : goal.returns
returns c = (λ yes. same_true the_type (search rules) _ _ (sym c.eq.ensures ∙ yes), λ same. c.eq.ensures ∙ true_same the_type _ _ same)
