-- How a whole behaviour begins, and what it means that it has ended.
use Rattle.std.proofs.Common.{◌≡◌, ◌∙◌, ℕ, ◌+◌, ◌<◌, ℤ, Option, None, List, [], ◌∷◌, ◌++◌, get_or, length, map, take, ap, subst, sym}
use Rattle.std.proofs.lemmas.List.{map-append, take_more}
use Rattle.std.specs.List.{AllZip}
use Rattle.tp_play.specs.declared.body.Body.{Body}
use Rattle.tp_play.specs.declared.body.ResolvedStatement.{ResolvedStatement}
use Rattle.tp_play.specs.declared.body.VariableType.{VariableType}
use Rattle.tp_play.specs.declared.body.VariableType.TheVariants as kind
use Rattle.tp_inbox.specs.declared.entry.Entry.{Entry}
use Rattle.tp_behaviour.specs.declared.held.Held.{Held}
use Rattle.tp_behaviour.specs.declared.outcome.Outcome.{Outcome}
use Rattle.tp_behaviour.specs.Held.{Actor, unset}
use Rattle.tp_behaviour.specs.Moments.{moments}
use Rattle.tp_behaviour.specs.Outcomes.{Ends, HasEnded}
use Rattle.tp_behaviour.specs.LookOutcomes.{TraceGrew}
use Rattle.tp_behaviour.specs.Workers.{AreHeld, IsHeldAs}

-- a variable that isn't set may be of any type
none_held : (types : List VariableType) → AllZip IsHeldAs types (map (λ _. None) types)
none_held [] = tt
none_held (t ∷ ts) = (tt, none_held ts)

pub held_unset : (body : Body) (vs : List (Option Held)) → vs ≡ unset body → AreHeld body.variables vs
held_unset body vs is = subst (AreHeld body.variables) (sym is) (none_held body.variables)

abbrev no_value : VariableType → Option Held
no_value _ = None

-- one variable more
pub none_more : (types : List VariableType) (i : ℕ) (before after : List (Option Held)) → i < length types → before ≡ map (λ _. None) (take i types)
    → after ≡ before ++ None ∷ []
    → after ≡ map (λ _. None) (take (i + 1) types)
none_more types i before after below none more =
    let one = ap (map no_value) (take_more types i kind.Component below) ∙ map-append no_value (take i types) (get_or types i kind.Component ∷ []) in
    more ∙ ap (λ (vs : List (Option Held)). vs ++ None ∷ []) none ∙ sym one

-- a body that was carried out from the beginning
pub has_ended : (r : Actor) (body : Body) (o : Outcome) (turns : List ℤ) (vs : List (Option Held)) (block : List ResolvedStatement) (ws : List (Option Held))
    (k n : List Entry)
    → turns ≡ [] → vs ≡ unset body → block ≡ body.statements → moments k ≡ [] → TraceGrew (λ ts. Ends r o turns vs block ts ws) k n → HasEnded r body o n
has_ended r body o turns vs block ws k n no_turn not_set whole begun h =
    let trace : moments n ≡ h.0 = h.1 ∙ ap (λ ts. ts ++ h.0) begun in (
      ws,
      subst (λ ts. Ends r o [] (unset body) body.statements ts ws) (sym trace)
          (subst (λ (l : List ℤ). Ends r o l (unset body) body.statements h.0 ws) no_turn
          (subst (λ (us : List (Option Held)). Ends r o turns us body.statements h.0 ws) not_set
          (subst (λ (xs : List ResolvedStatement). Ends r o turns vs xs h.0 ws) whole h.2))),
    )
