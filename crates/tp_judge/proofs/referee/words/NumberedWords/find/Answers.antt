-- The place of a word is its place in the list, and a word with no place is not there.
use Rattle.std.proofs.Common.{◌∙◌, ap}
use Rattle.std.specs.Str.{bytes_eq}
use Rattle.tp_judge.specs.Tree.{section_named}
use Rattle.tp_judge.proofs.SectionNamePlaces.{position_map, place_known, place_unknown}
use Rattle.tp_judge.proofs.referee.words.NumberedWords.find.Goals as goal

pub returns-in-Some-clause-place : goal.returns-in-Some-clause-place
returns-in-Some-clause-place c =
    c.in-Some.ensures.index ∙ position_map (λ w. w.now) (bytes_eq c.args.word.now) c.self.inside.words.keys
    ∙ ap (λ l. section_named l c.args.word.now) c.self.view_is

pub returns-in-Some-clause-known : goal.returns-in-Some-clause-known
returns-in-Some-clause-known c = (λ _. place_known c.args.self.now c.args.word.now c.in-Some.place (returns-in-Some-clause-place c), λ _. cc)

pub returns-in-None-clause-place : goal.returns-in-None-clause-place
returns-in-None-clause-place c =
    c.in-None.ensures.index ∙ position_map (λ w. w.now) (bytes_eq c.args.word.now) c.self.inside.words.keys
    ∙ ap (λ l. section_named l c.args.word.now) c.self.view_is

pub returns-in-None-clause-known : goal.returns-in-None-clause-known
returns-in-None-clause-known c = (λ h. (cc), λ h. absurd (place_unknown c.args.self.now c.args.word.now (returns-in-None-clause-place c) h))
