-- A word that is not there goes after the others.
use Rattle.std.proofs.Common.{◌≡◌, ◌++◌, ◌∷◌, [], Contains, map, subst}
use Rattle.std.specs.Bool.{MatchBool}
use Rattle.tp_judge.proofs.SectionNamePlaces.{name_inserted}
use Rattle.tp_judge.proofs.referee.words.NumberedWords.add.Goals as goal

pub returns-clause-added : goal.returns-clause-added
returns-clause-added c =
    let news = map (λ w. w.now) c.insert_full.new.self.keys in
    let word = c.args.word.now in
    subst (λ l. MatchBool c.in-Ok.added ((Contains l word → ⊥) × (news ≡ l ++ word ∷ [])) (Contains l word)) c.self.view_is
    (name_inserted (λ w. w.now) c.self.inside.words.keys c.insert_full.new.self.keys c.args.word c.in-Ok.added c.in-Ok.ensures.added c.in-Ok.ensures.keys)
