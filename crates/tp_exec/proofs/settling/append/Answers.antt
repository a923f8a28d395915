-- One more of the rest is in the history.
use Rattle.std.proofs.Common.{◌≡◌, ◌∷◌, ◌<◌, [], ℕ, List, All, ap, sym, ◌∙◌, subst}
use Rattle.std.specs.Vec.Iter.{into_iter_items}
use Rattle.std.proofs.lemmas.List.Elements.{All-tail}
use Rattle.tp_common.specs.declared.event.Env.{Env}
use Rattle.tp_value.specs.declared.message.Message.{Message}
use Rattle.tp_inbox.specs.Desks.{Journal, adding_all}
use Rattle.tp_inbox.specs.Routed.{rest_arrivals}
use Rattle.tp_inbox.specs.declared.entry.Entry.TheVariants as entry
use Rattle.tp_inbox.proofs.OwnerDrainedEnvelopes.{adding_twice}
use Rattle.tp_exec.proofs.settling.append.Goals as goal

abbrev Rest : Type 0
Rest = ℕ × Env Message × ℕ

pub loop-port-preserved : goal.loop-port-preserved
loop-port-preserved c =
    let was = c.loop-port.invariant in
    let d = c.loop-port.desk in
    let rest = into_iter_items c.next.new.self in
    let x : Rest = (c.in-Some.port, c.in-Some.env, c.in-Some.stamp) in
    let grown : c.arrive.new.self ≡ adding_all d (entry.Arrive x.0 x.2 x.1 ∷ []) = c.in_default.ensures.ok in
    let steps : into_iter_items c.loop-port.port-iterator ≡ x ∷ rest = c.in-Some.ensures.steps.0 in
    record {
      grown =
          ap (λ (j : Journal). adding_all j (rest_arrivals rest)) grown ∙ adding_twice d (entry.Arrive x.0 x.2 x.1 ∷ []) (rest_arrivals rest)
          ∙ ap (λ (xs : List Rest). adding_all d (rest_arrivals xs)) (sym steps) ∙ was.grown;
      within =
          subst (λ (j : Journal). All (λ (y : Rest). y.0 < j.ports) rest) (sym grown)
          (All-tail (λ (y : Rest). y.0 < d.ports) x rest (subst (All (λ (y : Rest). y.0 < d.ports)) steps was.within));
    }
