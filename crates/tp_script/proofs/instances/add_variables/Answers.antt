-- The component of the next variable has the next number.
use Rattle.std.proofs.{Common.◌∙◌, Common.ap, Common.map, lemmas.List.map_push}
use Rattle.tp_script.proofs.ComponentInstanceGrowth.{numbers_more}
use Rattle.tp_script.proofs.instances.add_variables.Goals as goal

pub loop-place-preserved : goal.loop-place-preserved
loop-place-preserved c =
    numbers_more c.loop-place.place (map (λ x. x.0) c.args.references.now.items) (map (λ x. x.0) c.loop-place.references.items)
    (map (λ x. x.0) c.push.new.self.items) c.loop-place.invariant
    (ap (map (λ x. x.0)) c.in_ok-push.ensures.items ∙ map_push (λ x. x.0) c.loop-place.references.items _)
