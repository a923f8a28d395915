-- One component more, which has a section where its number is below how many there are.
use Rattle.std.proofs.Common.{◌+◌, ℕ, [], get_or, nat_lt, subst, sym, take, arith}
use Rattle.std.specs.Prelude.{◌↔◌, Contains, IsTrue}
use Rattle.std.proofs.lemmas.List.{take_all}
use Rattle.std.proofs.lemmas.Option.{slice_get-get_or}
use Rattle.tp_judge.specs.Tree.{names_of}
use Rattle.tp_judge.specs.Joining.{AreSections}
use Rattle.tp_judge.proofs.SectionComponentsFirst.{section_below}
use Rattle.tp_judge.proofs.ZippedPrefixGrowth.{zip_next}
use Rattle.tp_judge.proofs.referee.joining.sections_of.Goals as goal

pub loop-number-init : goal.loop-number-init
loop-number-init c = subst (AreSections c.args.trace.now (take 0 c.args.components.now)) (sym c.in_ok-sections.ensures.items) tt

pub loop-number-preserved : goal.loop-number-preserved
loop-number-preserved c =
    let n = c.loop-number.number in
    let components = c.args.components.now in
    let names = names_of c.args.trace.now in
    let name = get_or components n [] in
    let at = slice_get-get_or components n [] (omega arith) in
    subst (AreSections c.args.trace.now (take (n + 1) components)) (sym c.in_ok-push.ensures.items)
    (zip_next (λ m flag. IsTrue flag ↔ Contains names m) components c.loop-number.sections.items n name
    (nat_lt n c.section_count-count.result) at c.loop-number.invariant
    (subst (λ (k : ℕ). IsTrue (nat_lt n k) ↔ Contains names name) (sym c.section_count-count.ensures.count)
    (section_below names components n name c.requires.kept c.len-total.ensures.distinct at)))

pub returns : goal.returns
returns c =
    subst (λ l. AreSections c.args.trace.now l c.loop-number.sections.items)
    (take_all c.loop-number.number c.args.components.now (omega arith)) c.loop-number.invariant
