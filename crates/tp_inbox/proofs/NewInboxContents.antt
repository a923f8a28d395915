-- What a new inbox is made of.
use Rattle.std.proofs.Common.{◌≡◌, ℕ, zero, suc, ◌<◌, List, [], ◌∷◌, length, map, refl, sym, ap, ◌∙◌, subst, arith}
use Rattle.std.specs.Prelude.{slice_index_or, All}
use Rattle.std.proofs.lemmas.List.Elements.{All-append}
use Rattle.tp_config.specs.declared.port_type.CompId.{CompId}
use Rattle.tp_config.specs.declared.port_type.PortRef.{PortRef}
use Rattle.tp_config.specs.declared.port_type.RouteId.{RouteId}
use Rattle.tp_config.specs.Setup.{Setup, ports_at}
use Rattle.tp_config.specs.Routes.{route_to, beside, routes_below, routes_into, AreDistinctRoutes}
use Rattle.tp_inbox.specs.Routed.{AreRoutes, sources_of}
use Rattle.tp_inbox.specs.Ledgers.{Inbox, SenderLedger, AreSenders, IsSenderInto, new_sender}

all_map : {A B : Type 0} (P : B → Type 0) (f : A → B) (xs : List A) → ((x : A) → P (f x)) → All P (map f xs)
all_map P f [] h k d low = absurd (omega arith)
all_map P f (x ∷ xs) h zero d low = h x
all_map P f (x ∷ xs) h (suc k) d low = all_map P f xs h k d (omega arith)

all_more : {A : Type 0} (P Q : A → Type 0) (xs : List A) → ((x : A) → P x → Q x) → All P xs → All Q xs
all_more P Q xs more h k d low = more (slice_index_or xs k d) (h k d low)

below_here : (s : Setup) (c : CompId) (n : ℕ) → All (λ (r : RouteId). r.to.comp ≡ c) (routes_below s c n)
below_here s c zero = λ k d low. absurd (omega arith)
below_here s c (suc n) =
    let p : PortRef = record { comp = c; port = n } in
    All-append (λ (r : RouteId). r.to.comp ≡ c) (routes_below s c n) (map (λ q. route_to q p) (beside s p)) (below_here s c n)
    (all_map (λ (r : RouteId). r.to.comp ≡ c) (λ q. route_to q p) (beside s p) (λ q. refl))

below_within : (s : Setup) (c : CompId) (n : ℕ) → All (λ (r : RouteId). r.to.port < n) (routes_below s c n)
below_within s c zero = λ k d low. absurd (omega arith)
below_within s c (suc n) =
    let p : PortRef = record { comp = c; port = n } in
    All-append (λ (r : RouteId). r.to.port < suc n) (routes_below s c n) (map (λ q. route_to q p) (beside s p))
    (all_more (λ (r : RouteId). r.to.port < n) (λ (r : RouteId). r.to.port < suc n) (routes_below s c n) (λ r l. omega arith) (below_within s c n))
    (all_map (λ (r : RouteId). r.to.port < suc n) (λ q. route_to q p) (beside s p) (λ q. omega arith))

-- the routes into a component lead to its ports
pub routes_here : (s : Setup) (c : CompId) → All (λ (r : RouteId). r.to.comp ≡ c) (routes_into s c)
unfolding routes_into
routes_here s c = below_here s c (length (ports_at s.types s.components c))

-- the routes into a component of a configuration
pub routes_are : (s : Setup) (c : CompId) (routes : List RouteId) → routes ≡ routes_into s c → AreDistinctRoutes (routes_into s c)
    → AreRoutes c (length (ports_at s.types s.components c)) routes
unfolding routes_into
routes_are s c routes is apart =
    let n = length (ports_at s.types s.components c) in
    subst (AreRoutes c n) (sym is) record { here = below_here s c n; within = below_within s c n; apart = apart }

map_map : {A B C : Type 0} (f : A → B) (g : B → C) (h : A → C) (xs : List A) → ((x : A) → g (f x) ≡ h x) → map g (map f xs) ≡ map h xs
map_map f g h [] e = refl
map_map f g h (x ∷ xs) e = λ i. e x i ∷ map_map f g h xs e i

map_same : {A : Type 0} (xs : List A) → map (λ x. x) xs ≡ xs
map_same [] = refl
map_same (x ∷ xs) = ap (λ l. x ∷ l) (map_same xs)

-- new senders are the senders of their inbox
pub new_are_senders : (inbox : Inbox) (senders : List SenderLedger) → senders ≡ map (new_sender inbox) (sources_of inbox.routes) → AreSenders inbox senders
new_are_senders inbox senders is =
    subst (AreSenders inbox) (sym is) (
      all_map (IsSenderInto inbox) (new_sender inbox) (sources_of inbox.routes) (λ c. (refl, refl)),
      map_map (new_sender inbox) (λ (s : SenderLedger). s.source) (λ c. c) (sources_of inbox.routes) (λ c. refl) ∙ map_same (sources_of inbox.routes),
    )
