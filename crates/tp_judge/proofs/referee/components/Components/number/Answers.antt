-- The component is that of a section, or stands after them.
use Rattle.std.proofs.Common.{◌≡◌, ◌+◌, ◌++◌, ◌∙◌, Some, length, slice_get, subst, sym, ap, arith}
use Rattle.std.proofs.lemmas.List.{length-append}
use Rattle.std.proofs.lemmas.Option.{slice_get_within}
use Rattle.tp_judge.specs.Tree.{names_of}
use Rattle.tp_judge.proofs.SectionNamePlaces.{place_unknown}
use Rattle.tp_judge.specs.Kept.{Keeps}
use Rattle.tp_judge.proofs.KeySetGrowth.{kept_append}
use Rattle.tp_judge.proofs.SectionComponentsFirst.{kept_behind, section_there, still_others, there_behind}
use Rattle.tp_judge.proofs.referee.components.Components.number.Goals as goal

pub returns-in-Some-clause-there : goal.returns-in-Some-clause-there
returns-in-Some-clause-there c =
    let names = names_of c.self.inside.trace.now in
    subst (λ l. slice_get l c.in-Some.section ≡ Some c.args.name.now) c.self.view_is
    (kept_append names c.self.inside.others c.in-Some.section c.args.name.now
    (section_there names c.args.name.now c.in-Some.section c.in-Some.ensures))

pub invariant_of-self : goal.invariant_of-self
invariant_of-self c = λ k other at has.
    c.self.invariant k other (subst (λ l. slice_get l k ≡ Some other) c.in_err-number.ensures.err at) has

pub overflow_add-result : goal.overflow_add-result
overflow_add-result c =
    let names = names_of c.self.inside.trace.now in
    let size : length (names ++ c.self.inside.others) ≡ length c.args.self.now = ap length c.self.view_is in
    let low = slice_get_within c.number.new.self c.in_ok-number.number c.args.name.now c.in_ok-number.ensures.there in
    omega (arith, size, length-append names c.self.inside.others, low, c.in_ok-number.ensures.few, c.section_count.ensures.count)

pub invariant_of-self-2 : goal.invariant_of-self-2
invariant_of-self-2 c =
    let names = names_of c.self.inside.trace.now in
    still_others names c.self.inside.others c.number.new.self c.args.name.now c.self.invariant c.in_ok-number.ensures.others
    (place_unknown names c.args.name.now (sym c.in_default.is ∙ c.section_of.ensures))

pub returns-clause-there : goal.returns-clause-there
returns-clause-there c =
    let names = names_of c.self.inside.trace.now in
    subst (λ n. slice_get (names ++ c.number.new.self) (n + c.in_ok-number.number) ≡ Some c.args.name.now) (sym c.section_count.ensures.count)
    (there_behind names c.number.new.self c.in_ok-number.number c.args.name.now c.in_ok-number.ensures.there)

pub returns-clause-kept : goal.returns-clause-kept
returns-clause-kept c =
    let names = names_of c.self.inside.trace.now in
    subst (λ l. Keeps l (names ++ c.number.new.self)) c.self.view_is
    (kept_behind names c.self.inside.others c.number.new.self c.in_ok-number.ensures.kept)
