-- Two type names whose characters are the same are one.
use Rattle.std.proofs.{Common.List, Common.ℕ, Common.Some, Common.ap, Common.sym, Common.◌∙◌, lemmas.Slice.Eq.bytes_eq-Decides}
use Rattle.std.proofs.lemmas.Option.{same_Some}
use Rattle.tp_checks.proofs.starting.is_of_type.Goals as goal

pub returns-in-Some : goal.returns-in-Some
returns-in-Some c =
    let decides = bytes_eq-Decides c.in-Some.other.now c.args.name.now in (
      λ h. sym c.in-Some.ensures ∙ ap (λ (x : List ℕ). Some x) (decides.0 (sym c.eq.ensures ∙ h)),
      λ e. c.eq.ensures ∙ decides.1 (same_Some c.in-Some.other.now c.args.name.now (c.in-Some.ensures ∙ e)),
    )
