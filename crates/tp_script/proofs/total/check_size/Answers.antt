-- What is counted stays below the limit, so that no more statements are to be carried out.
use Rattle.std.proofs.Common.{◌≡◌, ◌∙◌, inr, ap, map, sum, arith, refl}
use Rattle.tp_play.specs.{Sizes.capped, Sizes.size_of_body, Behaviours.size_of_behaviour, Instances.behaviour_of}
use Rattle.tp_script.proofs.{SumOfComponentSizes.sums, SumOfComponentSizes.few, SumOfComponentSizes.many, ModuleFaultsTold.above}
use Rattle.tp_script.proofs.total.check_size.Goals as goal

pub returns-clause-few : goal.returns-clause-few
returns-clause-few c =
    let bodies = c.args.bodies.now in
    let total = sum (map size_of_behaviour (map (behaviour_of bodies) c.args.instances.now)) in
    let is : c.count_instances.result ≡ capped total =
    c.count_instances.ensures ∙ sums bodies c.count_body-main.result c.deref-2.result.now c.count_body-main.ensures
    (c.deref-2.ensures.value ∙ c.in_ok-functions.ensures.sizes ∙ ap (map (λ b. capped (size_of_body b))) c.deref.ensures.value) c.args.instances.now in
    few total (omega (arith, is, c.if-count_instances-ge-SIZE_CEILING.false))

pub returns-then-count_instances-ge-SIZE_CEILING-clause-refused : goal.returns-then-count_instances-ge-SIZE_CEILING-clause-refused
returns-then-count_instances-ge-SIZE_CEILING-clause-refused c =
    let bodies = c.args.bodies.now in
    let total = sum (map size_of_behaviour (map (behaviour_of bodies) c.args.instances.now)) in
    let is : c.count_instances.result ≡ capped total =
    c.count_instances.ensures ∙ sums bodies c.count_body-main.result c.deref-2.result.now c.count_body-main.ensures
    (c.deref-2.ensures.value ∙ c.in_ok-functions.ensures.sizes ∙ ap (map (λ b. capped (size_of_body b))) c.deref.ensures.value) c.args.instances.now in
    inr (many total (omega (arith, is, c.if-count_instances-ge-SIZE_CEILING.true)))

pub returns-then-count_instances-ge-SIZE_CEILING-clause-told : goal.returns-then-count_instances-ge-SIZE_CEILING-clause-told
returns-then-count_instances-ge-SIZE_CEILING-clause-told c =
    let bodies = c.args.bodies.now in
    let total = sum (map size_of_behaviour (map (behaviour_of bodies) c.args.instances.now)) in
    let is : c.count_instances.result ≡ capped total =
    c.count_instances.ensures ∙ sums bodies c.count_body-main.result c.deref-2.result.now c.count_body-main.ensures
    (c.deref-2.ensures.value ∙ c.in_ok-functions.ensures.sizes ∙ ap (map (λ b. capped (size_of_body b))) c.deref.ensures.value) c.args.instances.now in
    rw c.refused.ensures (refl, (refl, above total (many total (omega (arith, is, c.if-count_instances-ge-SIZE_CEILING.true)))))
