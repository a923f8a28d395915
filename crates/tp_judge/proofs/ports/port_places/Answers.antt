-- One port more is lawful, or has its place.
use Rattle.std.proofs.Common.{◌≡◌, ◌+◌, length, sym, subst, List, [], ◌∷◌, ◌++◌, ap, arith}
use Rattle.std.proofs.lemmas.Grind.{common_steps}
use Rattle.tp_judge.specs.declared.place.UnlawfulPlace.{UnlawfulPlace}
use Rattle.tp_judge.specs.Lawful.{IsLawfulAt, IsUnlawfulAt}
use Rattle.tp_judge.specs.ToldOf.{OneForEach, of_none, next_lawful, next_unlawful}
use Rattle.tp_judge.proofs.CollectedUnlawfulPlaces.{each_found, none_exactly}
use Rattle.tp_judge.proofs.UnlawfulPortExclusions.{unlawful_port}
use Rattle.tp_judge.proofs.UniqueUnlawfulPortPlace.{one_at_port}
use Rattle.tp_judge.proofs.ports.port_places.Goals as goal
use Rattle.tp_judge.proofs.ports.port_places.Goals.{in-None, in-Some+in_ok-push-in-Some}

pub loop-port-init : goal.loop-port-init
loop-port-init c = subst (OneForEach (IsLawfulAt c.args.trace.now) (IsUnlawfulAt c.args.trace.now) 0) (sym c.new-places.ensures.items) of_none

pub loop-port-preserved : goal.loop-port-preserved
loop-port-preserved c =
    let trace = c.args.trace.now in
    let places = c.loop-port.places.items in
    let P : List UnlawfulPlace → Type 0 = OneForEach (IsLawfulAt trace) (IsUnlawfulAt trace) (c.loop-port.port + 1) in
    elim c.match-found.branch [
      | in-None w ↦
          subst P (ap (λ v. v.items) (sym w.places-is))
          (next_lawful c.loop-port.port places c.loop-port.invariant (rw w.in-None.is at c.in_ok-found.ensures))
      | in-Some+in_ok-push-in-Some w ↦
          let pushed : c.match-found.places.items ≡ places ++ w.in-Some.place ∷ [] =
          grind (arith, common_steps, w.places-is, w.in_ok-push-in-Some.ensures.items) in
          subst P (sym pushed)
          (let here : IsUnlawfulAt trace c.loop-port.port w.in-Some.place = rw w.in-Some.is at c.in_ok-found.ensures in
          next_unlawful c.loop-port.port places w.in-Some.place c.loop-port.invariant
          (record { is = here; no_other = λ other there. one_at_port _ _ _ other w.in-Some.place there here }))
    ]

pub returns : goal.returns
returns c =
    let trace = c.args.trace.now in
    let P = IsLawfulAt trace in
    let Q = IsUnlawfulAt trace in
    let count = length trace.owners.items in
    let places = c.loop-port.places.items in
    let same : c.loop-port.port ≡ count = omega arith in
    let each = subst (λ n. OneForEach P Q n places) same c.loop-port.invariant in
    record {
      lawful = none_exactly P Q count places (λ k place. unlawful_port _ _ _ place) each;
      told = each_found P Q count count places each (omega arith);
      all = each;
    }
