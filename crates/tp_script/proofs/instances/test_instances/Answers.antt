-- `mtc` has the test case's own body, and the next component does what its start says.
use Rattle.std.proofs.Common.{◌≡◌, ◌+◌, ◌++◌, ◌∷◌, [], ◌∙◌, Some, ap, map, sym, subst, length, slice_get, arith}
use Rattle.std.proofs.{lemmas.List.length_push, lemmas.Option.slice_get-get_or}
use Rattle.std.specs.List.{slice_index_or}
use Rattle.tp_script.specs.{Behaviours.AreReferences, Instances.IsInstance, Instances.main}
use Rattle.tp_script.proofs.ComponentInstanceGrowth.{instances_none, instances_more}
use Rattle.tp_script.proofs.instances.test_instances.Goals as goal

pub loop-place-init : goal.loop-place-init
loop-place-init c =
    let p = c.args.prepared.now in
    let instance = c.in_ok-main.main in
    let first : c.push.new.self.items ≡ [] ++ Some instance ∷ [] =
    c.in_ok-push.ensures.items ∙ ap (λ l. l ++ Some instance ∷ []) c.new-instances.ensures.items in
    record {
      instances = instances_more p [] c.push.new.self.items (Some instance) (instances_none p)
          (main instance c.in_ok-main.ensures.which_body
          (subst (λ n. AreReferences 0 [] n (map (λ x. x.0) instance.references.items)) c.requires c.in_ok-main.ensures.references)) first;
      count = ap length first;
    }

pub started_instance-requires-clause-start : goal.started_instance-requires-clause-start
started_instance-requires-clause-start c =
    let xs = c.deref-start-items.result.now in
    subst (λ l. slice_get l c.loop-place.place ≡ Some (slice_index_or xs c.loop-place.place 0)) c.deref-start-items.ensures.value
    (slice_get-get_or xs c.loop-place.place 0 (omega arith))

pub loop-place-preserved : goal.loop-place-preserved
loop-place-preserved c =
    let p = c.args.prepared.now in
    let instance = c.in_ok-instance.instance in
    let next = c.push-in-loop-place.new.self.items in
    record {
      instances =
          instances_more p c.loop-place.instances.items next (Some instance) c.loop-place.invariant.instances
          (subst (λ n. IsInstance p n (Some instance)) (sym c.loop-place.invariant.count) c.in_ok-instance.ensures.instance) c.in_ok-push-2.ensures.items;
      count = ap length c.in_ok-push-2.ensures.items ∙ length_push c.loop-place.instances.items (Some instance) ∙ ap (λ n. n + 1) c.loop-place.invariant.count;
    }
