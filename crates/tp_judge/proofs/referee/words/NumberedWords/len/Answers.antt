-- No two words are the same.
use Rattle.std.proofs.Common.{◌≢◌, subst}
use Rattle.std.specs.Prelude.{AllPairs}
use Rattle.std.specs.Str.{bytes_eq}
use Rattle.std.proofs.lemmas.Slice.Eq.{bytes_eq-Decides}
use Rattle.tp_judge.proofs.SectionNamePlaces.{views_apart}
use Rattle.tp_judge.proofs.referee.words.NumberedWords.len.Goals as goal

pub returns-clause-distinct : goal.returns-clause-distinct
returns-clause-distinct c =
    subst (AllPairs (λ a b. a ≢ b)) c.self.view_is
    (views_apart (λ w. w.now) (λ v w. bytes_eq v.now w.now) (λ v w e. (bytes_eq-Decides v.now w.now).1 e) c.self.inside.words.keys c.len.ensures.unique)
