-- A rest is what its room holds.
use Rattle.std.proofs.Common.{◌≡◌, List, ℕ, [], ◌++◌, ap, subst, sym, ◌∙◌}
use Rattle.tp_common.specs.Watching.{Writes}
use Rattle.tp_report.proofs.rest.write_in_one_piece.Goals as goal

all_held : (had held text : List ℕ) → had ≡ [] → held ≡ had ++ text → held ≡ text
all_held had held text empty whole = whole ∙ ap (λ l. l ++ text) empty

pub returns : goal.returns
returns g c =
    let well = sym c.has_failed.ensures ∙ c.if-has_failed.false in
    let held = all_held _ _ _ (c.new-line.ensures.inner ∙ c.new.ensures) (c.write_pieces.ensures.whole well) in
    subst (Writes g.W.Write.contents _ _) (c.text.ensures ∙ c.into_inner.ensures ∙ held) c.write_bytes.ensures
