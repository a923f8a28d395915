-- What the rest of an inbox is, after a history.
use Rattle.std.proofs.Common.{◌≡◌, ℕ, ◌<◌, List, [], ◌∷◌, ◌++◌, ap, ◌∙◌, refl, subst}
use Rattle.std.specs.Prelude.{All}
use Rattle.std.specs.List.{filter_map}
use Rattle.std.proofs.lemmas.List.{append-nil}
use Rattle.std.proofs.lemmas.List.Elements.{All-nil, All-cons, All-head, All-tail, All-contains, filter_map-append}
use Rattle.tp_common.specs.declared.event.Env.{Env}
use Rattle.tp_value.specs.declared.message.Message.{Message}
use Rattle.tp_config.specs.declared.port_type.CompId.{CompId}
use Rattle.tp_config.specs.declared.port_type.RouteId.{RouteId}
use Rattle.tp_inbox.specs.declared.entry.Entry.{Entry}
use Rattle.tp_inbox.specs.declared.entry.Entry.TheVariants as entry
use Rattle.tp_inbox.specs.History.{sending_on, sent_on, sending_to, sent_to}
use Rattle.tp_inbox.specs.Routed.{AreRoutes, IsArrivalOn, rest_arrivals}

abbrev pub Rest : Type 0
Rest = ℕ × Env Message × ℕ

-- the rest goes to ports that there are
pub rest_within : (comp : CompId) (ports : ℕ) (routes : List RouteId) (rest : List Rest) → AreRoutes comp ports routes
    → All (IsArrivalOn routes) (rest_arrivals rest) → All (λ (x : Rest). x.0 < ports) rest
rest_within comp ports routes [] are on = All-nil (λ (x : Rest). x.0 < ports)
rest_within comp ports routes (x ∷ rest) are on =
    let first : IsArrivalOn routes (entry.Arrive x.0 x.2 x.1) = All-head (IsArrivalOn routes) (entry.Arrive x.0 x.2 x.1) (rest_arrivals rest) on in
    let low : first.0.to.port < ports = All-contains (λ (r : RouteId). r.to.port < ports) routes first.0 are.within first.1 in
    All-cons (λ (y : Rest). y.0 < ports) x rest (subst (λ p. p < ports) first.2 low)
    (rest_within comp ports routes rest are (All-tail (IsArrivalOn routes) (entry.Arrive x.0 x.2 x.1) (rest_arrivals rest) on))

-- nothing of it was sent
none_sent : (r : RouteId) (rest : List Rest) → filter_map (sending_on r) (rest_arrivals rest) ≡ []
none_sent r [] = refl
none_sent r (x ∷ rest) = none_sent r rest

-- nor to any component
none_sent_to : (comp : CompId) (rest : List Rest) → filter_map (sending_to comp) (rest_arrivals rest) ≡ []
none_sent_to comp [] = refl
none_sent_to comp (x ∷ rest) = none_sent_to comp rest

pub rest_sends_to_none : (comp : CompId) (k : List Entry) (rest : List Rest) → sent_to comp (k ++ rest_arrivals rest) ≡ sent_to comp k
unfolding sent_to
rest_sends_to_none comp k rest =
    filter_map-append (sending_to comp) k (rest_arrivals rest) ∙ ap (λ l. filter_map (sending_to comp) k ++ l) (none_sent_to comp rest)
    ∙ append-nil (filter_map (sending_to comp) k)

-- the component has sent no more than before it
pub rest_sends_nothing : (r : RouteId) (k : List Entry) (rest : List Rest) → sent_on r (k ++ rest_arrivals rest) ≡ sent_on r k
unfolding sent_on
rest_sends_nothing r k rest =
    filter_map-append (sending_on r) k (rest_arrivals rest) ∙ ap (λ l. filter_map (sending_on r) k ++ l) (none_sent r rest)
    ∙ append-nil (filter_map (sending_on r) k)
