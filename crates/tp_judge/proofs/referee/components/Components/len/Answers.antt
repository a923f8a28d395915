-- No two components are the same: none of the others has a section.
use Rattle.std.proofs.Common.{◌≡◌, ◌≢◌, ◌++◌, length, subst, ap, arith}
use Rattle.std.specs.Prelude.{AllPairs}
use Rattle.std.proofs.lemmas.List.{length-append}
use Rattle.tp_judge.specs.Tree.{names_of}
use Rattle.tp_judge.proofs.SectionComponentsFirst.{apart_behind}
use Rattle.tp_judge.proofs.referee.components.Components.len.Goals as goal

pub returns-clause-distinct : goal.returns-clause-distinct
returns-clause-distinct c =
    subst (AllPairs (λ a b. a ≢ b)) c.self.view_is
    (apart_behind (names_of c.self.inside.trace.now) c.self.inside.others c.section_count.ensures.distinct c.len.ensures.distinct c.self.invariant)

pub returns-clause-count : goal.returns-clause-count
returns-clause-count c =
    let size : length (names_of c.self.inside.trace.now ++ c.self.inside.others) ≡ length c.args.self.now = ap length c.self.view_is in
    omega (arith, size, length-append (names_of c.self.inside.trace.now) c.self.inside.others, c.section_count.ensures.count, c.len.ensures.count)
