-- The word that is found is the one that was looked for, and the others stay at their places.
use Rattle.std.proofs.Common.{◌∙◌, Some, ap, map, subst, sym, length, arith}
use Rattle.std.specs.Str.{bytes_eq}
use Rattle.std.proofs.lemmas.List.{length-map}
use Rattle.std.proofs.lemmas.Result.{IfOk-weaker, on_ok_weaker}
use Rattle.std.proofs.lemmas.Slice.Eq.{bytes_eq-Decides}
use Rattle.tp_judge.specs.Kept.{AddsOnly, Keeps}
use Rattle.tp_judge.proofs.KeySetGrowth.{adds_views, at_view, few_key, kept_key, kept_views}
use Rattle.tp_judge.proofs.referee.words.NumberedWords.number.Goals as goal

pub returns-clause-there : goal.returns-clause-there
returns-clause-there c =
    IfOk-weaker c.number_of.result _ _
    (λ number found.
    at_view (λ w. w.now) c.number_of.new.keys.keys number found.0 found.1
    ∙ ap Some (sym ((bytes_eq-Decides c.args.word.now found.0.now).0 found.2)))
    c.number_of.ensures.there

pub returns-clause-kept : goal.returns-clause-kept
returns-clause-kept c =
    on_ok_weaker c.number_of.result
    (λ keys.
    let kept = subst (Keeps c.self.inside.words.keys) (sym keys)
    (kept_key (λ v w. bytes_eq v.now w.now) c.self.inside.words.keys c.args.word) in
    subst (λ l. Keeps l (map (λ w. w.now) c.number_of.new.keys.keys)) c.self.view_is
    (kept_views (λ w. w.now) c.self.inside.words.keys c.number_of.new.keys.keys kept))
    c.number_of.ensures.keys

pub returns-clause-few : goal.returns-clause-few
returns-clause-few c =
    on_ok_weaker c.number_of.result
    (λ keys. omega (
      arith,
      ap length keys,
      few_key (λ v w. bytes_eq v.now w.now) c.self.inside.words.keys c.args.word,
      length-map c.number_of.new.keys.keys (λ w. w.now),
      length-map c.self.inside.words.keys (λ w. w.now),
      ap length c.self.view_is,
    ))
    c.number_of.ensures.keys

pub returns-clause-others : goal.returns-clause-others
returns-clause-others c =
    on_ok_weaker c.number_of.result
    (λ keys.
    subst (λ l. AddsOnly l c.args.word.now (map (λ w. w.now) c.number_of.new.keys.keys)) c.self.view_is
    (subst (λ l. AddsOnly (map (λ w. w.now) c.self.inside.words.keys) c.args.word.now (map (λ w. w.now) l)) (sym keys)
    (adds_views (λ w. w.now) (λ v w. bytes_eq v.now w.now) c.self.inside.words.keys c.args.word)))
    c.number_of.ensures.keys
