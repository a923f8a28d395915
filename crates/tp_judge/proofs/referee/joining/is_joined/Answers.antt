-- The port's owner is the one that the table has.
use Rattle.std.proofs.Common.{◌≡◌, ◌∙◌, true, sym, subst, Some, slice_get, true≢false}
use Rattle.std.proofs.lemmas.Option.{none-some, same_Some}
use Rattle.tp_judge.proofs.referee.joining.is_joined.Goals as goal

pub returns-in-None : goal.returns-in-None
returns-in-None c = (λ e. absurd (true≢false (sym e)), λ j. absurd (none-some j.owner (c.in-None.ensures ∙ j.owned)))

pub returns-in-Some : goal.returns-in-Some
returns-in-Some c =
    let owned = sym c.in-Some.ensures in (
      λ e. let both = c.are_sections.ensures.0 e in record { owner = c.in-Some.owner; owned = owned; sender = both.0; receiver = both.1 },
      λ j.
          c.are_sections.ensures.1
          (j.sender, subst (λ n. slice_get c.args.sections.now n ≡ Some true) (same_Some j.owner c.in-Some.owner (sym j.owned ∙ owned)) j.receiver),
    )
