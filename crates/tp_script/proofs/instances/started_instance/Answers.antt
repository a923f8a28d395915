-- The component has the body of the function that its start names, and the arguments of this start.
use Rattle.std.proofs.Common.{◌+◌, map, sym, subst, length, refl}
use Rattle.tp_script.specs.{Behaviours.AreReferences, Instances.started}
use Rattle.tp_script.proofs.instances.started_instance.Goals as goal

pub returns-clause-instance : goal.returns-clause-instance
returns-clause-instance c =
    let s = c.in-Some-start_at.started.now in
    let made = map (λ x. x.0) c.in_ok-references.references.items in
    let by_number = subst (λ n. AreReferences n (map (λ x. x.0) c.deref.result.now) c.args.count made) c.in-Some.ensures.number c.in_ok-references.ensures.references in
    let by_count = subst (λ n. AreReferences (c.args.place + 1) (map (λ x. x.0) c.deref.result.now) n made) c.requires.count by_number in
    let by_arguments =
    subst (λ l. AreReferences (c.args.place + 1) (map (λ x. x.0) l) (length c.args.prepared.now.variables) made) c.deref.ensures.value by_count in
    started c.args.place c.args.start s _ c.requires.start (sym c.in-Some-start_at.ensures) refl by_arguments
