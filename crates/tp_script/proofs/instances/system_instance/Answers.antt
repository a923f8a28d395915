-- The test system interface has the body of `sut`, or none where no function has that name.
use Rattle.std.proofs.Common.{◌+◌, ◌∙◌, [], ap, map, sym, subst, length, refl}
use Rattle.tp_script.specs.{Behaviours.AreReferences, Instances.system, Instances.nobody}
use Rattle.tp_script.proofs.instances.system_instance.Goals as goal

pub returns-in_default-clause-instance : goal.returns-in_default-clause-instance
returns-in_default-clause-instance c = nobody (length c.args.prepared.now.starts.places.items + 1) c.requires.system refl (sym c.in_default.ensures.place)

pub returns-clause-instance : goal.returns-clause-instance
returns-clause-instance c =
    let made = map (λ x. x.0) c.in_ok-references.references.items in
    let number = c.in-Some-component_behind.ensures.number ∙ ap (λ n. n + 1) c.started_count.ensures in
    let by_number = subst (λ n. AreReferences n [] c.args.count made) number c.in_ok-references.ensures.references in
    let by_count = subst (λ n. AreReferences (length c.args.prepared.now.starts.places.items + 1) [] n made) c.requires.count by_number in
    system (length c.args.prepared.now.starts.places.items + 1) c.in-Some.place _ c.requires.system refl (sym c.in-Some.ensures.place) refl by_count
