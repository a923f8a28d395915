-- What a component does it can do, by the invariant of a test case.
use Rattle.std.proofs.Common.{List, Option, None, IfSome, ap, ◌∙◌, map, get_or, subst}
use Rattle.tp_play.specs.declared.instance.Instance.{Instance}
use Rattle.tp_play.specs.Instances.{behaviour_of}
use Rattle.tp_play.specs.TestCases.{Made}
use Rattle.tp_play.specs.Ready.{CanDo}
use Rattle.tp_play.specs.BorrowedBehaviours.{as_behaviour}
use Rattle.tp_play.proofs.PlayableBehaviours.{can_at}
use Rattle.tp_play.proofs.test_case.TestCase.body.Goals as goal

-- what the component does is its behaviour, which it can do in every test case
pub returns-clause-can : goal.returns-clause-can
returns-clause-can c =
    let k = c.args.comp.0 in
    let fields = c.self.inside in
    let made : Made = record { config = fields.config; types = fields.types; behaviours = map (behaviour_of fields.bodies) fields.instances.items } in
    let behaviour = c.find_behaviour.ensures ∙ ap (λ (instances : List (Option Instance)). get_or (map (behaviour_of fields.bodies) instances) k None)
    c.deref.ensures.value in
    subst (λ (t : Made). IfSome c.find_behaviour.result (λ x. CanDo t.config t.types k (as_behaviour x))) c.self.view_is
    (can_at made k c.find_behaviour.result c.self.invariant behaviour)
