-- What a sender has put on each of its routes, and what it keeps when it puts one more.
use Rattle.std.proofs.Common.{◌≡◌, ◌≢◌, ◌⊎◌, inl, inr, ℕ, zero, suc, ◌+◌, ◌<◌, Bool, true, false, cond, eqb, eq-eqb, ne_eqb, Some, None, List, [], ◌∷◌, ◌++◌, length, map, set, get_or, refl, sym, ap, ◌∙◌, subst, ⊎_elim, length-append, arith}
use Rattle.std.specs.Prelude.{◌&&◌, ◌||◌, All, AllPairs}
use Rattle.std.specs.List.{filter_map, cons_option}
use Rattle.std.specs.Arc.{arc_value}
use Rattle.std.proofs.lemmas.Bool.{and_parts, and_from, eqb-true, cases_Bool}
use Rattle.std.proofs.lemmas.Grind.{get_or-set_at}
use Rattle.std.proofs.lemmas.List.{get_or-set_other, length-set, length-map, get_or-map, get_or_push, map-append}
use Rattle.std.proofs.lemmas.List.Elements.{All-push}
use Rattle.std.proofs.lemmas.List.Quantifiers.{all_pairs_push}
use lib.ListN.{get_or-append}
use Rattle.tp_config.specs.declared.port_type.CompId.{CompId}
use Rattle.tp_config.specs.declared.port_type.RouteId.{RouteId}
use Rattle.tp_inbox.specs.declared.envelope.InboxEnvelope.{InboxEnvelope}
use Rattle.tp_inbox.specs.declared.rule.View.{View}
use Rattle.tp_inbox.specs.declared.sender.Sender.TheInside as sender
use Rattle.tp_inbox.specs.History.{same_route, posting_on, posted_on}
use Rattle.tp_inbox.specs.Envelopes.{of, has, AreRouted}
use Rattle.tp_inbox.specs.Rule.{sender_pass, PutsEnvelope}
use Rattle.tp_inbox.specs.Routed.{AreRoutes, posted_of, route_at, absent_route}
use Rattle.tp_inbox.specs.Ledgers.{SenderLedger, put_on_way}
use Rattle.tp_inbox.specs.InboxEndFields.{AreTold, IsSender, inbox_of}
use Rattle.tp_inbox.proofs.EnvelopesOfOneRoute.{append_nil, of-append, of-here, of-else, routed-append, same_or_not}
use Rattle.tp_inbox.proofs.ArrivalsOfEnvelopes.{same_place}

-- what a sender sees itself as
abbrev pub seen : sender.Inside → SenderLedger
seen s = record {
  inbox = inbox_of (arc_value s.channel);
  source = s.source;
  routes = map (route_at (arc_value s.channel).routes.items) s.places.items;
  ledger = map (posted_of (arc_value s.channel).routes.items) s.pass.me.view.client.put;
}

-- routes of which `same_route` says that they are the same
pub route_same : (r q : RouteId) → same_route r q ≡ true → r ≡ q
route_same r q e =
    let h = and_parts (eqb r.source.0 q.source.0 && eqb r.to.comp.0 q.to.comp.0) (eqb r.to.port q.to.port) e in
    let k = and_parts (eqb r.source.0 q.source.0) (eqb r.to.comp.0 q.to.comp.0) h.0 in
    let source = eqb-true r.source.0 q.source.0 k.0 in
    let comp = eqb-true r.to.comp.0 q.to.comp.0 k.1 in
    let port = eqb-true r.to.port q.to.port h.1 in
    λ i. record { source = record { 0 = source i }; to = record { comp = record { 0 = comp i }; port = port i } }

pub route_itself : (r : RouteId) → same_route r r ≡ true
route_itself r =
    and_from (eqb r.source.0 r.source.0 && eqb r.to.comp.0 r.to.comp.0) (eqb r.to.port r.to.port)
    (and_from (eqb r.source.0 r.source.0) (eqb r.to.comp.0 r.to.comp.0) (eq-eqb r.source.0 r.source.0 refl) (eq-eqb r.to.comp.0 r.to.comp.0 refl))
    (eq-eqb r.to.port r.to.port refl)

-- two routes of a list are the same at one place alone
pub same_places : (comp : CompId) (ports : ℕ) (routes : List RouteId) → AreRoutes comp ports routes → (p q : ℕ) → p < length routes → q < length routes
    → same_route (route_at routes p) (route_at routes q) ≡ eqb p q
same_places comp ports routes are p q low few =
    let R = route_at routes in
    ⊎_elim
    (λ (same : p ≡ q). ap (λ k. same_route (R p) (R k)) (sym same) ∙ route_itself (R p) ∙ sym (eq-eqb p q same))
    (λ (other : p ≢ q).
    ⊎_elim
    (λ (yes_ : same_route (R p) (R q) ≡ true).
    absurd (other (same_place comp ports routes are p q low few (route_same (R p) (R q) yes_))))
    (λ (no_ : same_route (R p) (R q) ≡ false). no_ ∙ sym (ne_eqb p q other))
    (cases_Bool (same_route (R p) (R q))))
    (same_or_not p q)

cons_cond : {A : Type 0} (b : Bool) (x : A) (l : List A) → cons_option (cond b (Some x) None) l ≡ cond b (x ∷ l) l
cons_cond true x l = refl
cons_cond false x l = refl

-- what was put on a route of the list is what its envelopes hold
pub posted_at : (comp : CompId) (ports : ℕ) (routes : List RouteId) → AreRoutes comp ports routes → (p : ℕ) → p < length routes → (es : List InboxEnvelope)
    → AreRouted (length routes) es → posted_on (route_at routes p) (map (posted_of routes) es) ≡ of p es
unfolding posted_on
posted_at comp ports routes are p low [] h = refl
posted_at comp ports routes are p low (e ∷ es) h =
    ap (λ b. cons_option (cond b (Some (e.number, e.stamped)) None) (filter_map (posting_on (route_at routes p)) (map (posted_of routes) es)))
    (same_places comp ports routes are p e.place low h.0)
    ∙ ap (λ l. cons_option (cond (eqb p e.place) (Some (e.number, e.stamped)) None) l) (posted_at comp ports routes are p low es h.1)
    ∙ cons_cond (eqb p e.place) (e.number, e.stamped) (of p es)

-- what a sender has put on one of its routes is what its envelopes of that route hold
pub on_way : (s : sender.Inside) (v : SenderLedger) (way : ℕ) → IsSender s → seen s ≡ v → way < length v.routes
    → (way < length s.places.items) × (put_on_way v way ≡ of (get_or s.places.items way 0) s.pass.me.view.client.put)
on_way s v way h is low =
    let channel = arc_value s.channel in
    let routes = channel.routes.items in
    let few : way < length s.places.items =
    omega (arith, ap (λ (x : SenderLedger). length x.routes) is, length-map s.places.items (route_at routes)) in
    let p = get_or s.places.items way 0 in (
      few,
      ap (λ (x : SenderLedger). put_on_way x way) (sym is)
          ∙ ap (λ r. posted_on r (map (posted_of routes) s.pass.me.view.client.put)) (get_or-map (route_at routes) s.places.items way 0 absent_route few)
          ∙ posted_at channel.comp channel.ports routes channel.routed p (h.low way 0 few) s.pass.me.view.client.put h.routed,
    )

aimed_at : (comp : CompId) (ports : ℕ) (routes : List RouteId) → AreRoutes comp ports routes → (places : List ℕ) → All (λ p. p < length routes) places
    → All (λ (r : RouteId). r.to.comp ≡ comp) (map (route_at routes) places)
aimed_at comp ports routes are places low k d few =
    let within : k < length places = omega (arith, few, length-map places (route_at routes)) in
    ap (λ (r : RouteId). r.to.comp) (get_or-map (route_at routes) places k 0 d within) ∙ are.here (get_or places k 0) absent_route (low k 0 within)

-- a sender's routes lead to the component of its inbox
pub ways_aimed : (s : sender.Inside) (v : SenderLedger) → IsSender s → seen s ≡ v → All (λ (r : RouteId). r.to.comp ≡ v.inbox.comp) v.routes
ways_aimed s v h is =
    let channel = arc_value s.channel in
    subst (λ (x : SenderLedger). All (λ (r : RouteId). r.to.comp ≡ x.inbox.comp) x.routes) is
    (aimed_at channel.comp channel.ports channel.routes.items channel.routed s.places.items h.low)

apart_routes : (comp : CompId) (ports : ℕ) (routes : List RouteId) → AreRoutes comp ports routes → (places : List ℕ) → All (λ p. p < length routes) places
    → AllPairs (λ p q. p ≢ q) places → AllPairs (λ (r q : RouteId). r ≢ q) (map (route_at routes) places)
apart_routes comp ports routes are places low apart k j d less few same =
    let later : j < length places = omega (arith, few, length-map places (route_at routes)) in
    let sooner : k < length places = omega (arith, later, less) in
    apart k j 0 less later
    (same_place comp ports routes are (get_or places k 0) (get_or places j 0) (low k 0 sooner) (low j 0 later)
    (sym (get_or-map (route_at routes) places k 0 d sooner) ∙ same ∙ get_or-map (route_at routes) places j 0 d later))

-- and no two of them are equal
pub ways_apart : (s : sender.Inside) (v : SenderLedger) → IsSender s → seen s ≡ v → AllPairs (λ (r q : RouteId). r ≢ q) v.routes
ways_apart s v h is =
    let channel = arc_value s.channel in
    subst (λ (x : SenderLedger). AllPairs (λ (r q : RouteId). r ≢ q) x.routes) is
    (apart_routes channel.comp channel.ports channel.routes.items channel.routed s.places.items h.low h.apart)

-- what is counted for one of its routes
pub told_at : (s : sender.Inside) (v : SenderLedger) (way n : ℕ) → IsSender s → seen s ≡ v → way < length v.routes → n ≡ get_or s.counts.items way 0
    → n ≡ length (put_on_way v way)
told_at s v way n h is low at =
    let k = on_way s v way h is low in
    at ∙ h.counts.1 way k.0 ∙ ap length (sym k.1)

pub or_first : (b c : Bool) → b ≡ true → (b || c) ≡ true
or_first true c h = refl
or_first false c h = absurd (cc)

pub or_second : (b c : Bool) → c ≡ true → (b || c) ≡ true
or_second true c h = refl
or_second false c h = h

-- each of these is one of these
pub has-at : (ps : List ℕ) (k d : ℕ) → k < length ps → has ps (get_or ps k d) ≡ true
has-at [] k d low = absurd (omega arith)
has-at (p ∷ ps) zero d low = or_first (eqb p p) (has ps p) (eq-eqb p p refl)
has-at (p ∷ ps) (suc k) d low = or_second (eqb (get_or ps k d) p) (has ps (get_or ps k d)) (has-at ps k d (omega arith))

either_way : (p q : ℕ) → p ≢ q → (p < q) ⊎ (q < p)
either_way zero zero n = absurd (n refl)
either_way zero (suc q) n = inl (omega arith)
either_way (suc p) zero n = inr (omega arith)
either_way (suc p) (suc q) n =
    ⊎_elim (λ (l : p < q). inl (omega arith)) (λ (l : q < p). inr (omega arith)) (either_way p q (λ e. n (ap suc e)))

apart_at : (ps : List ℕ) → AllPairs (λ p q. p ≢ q) ps → (k j : ℕ) → k < length ps → j < length ps → k ≢ j → get_or ps k 0 ≢ get_or ps j 0
apart_at ps apart k j low few n same =
    ⊎_elim (λ (l : k < j). apart k j 0 l few same) (λ (l : j < k). apart j k 0 l low (sym same)) (either_way k j n)

-- one more was put on this one of the routes
pub told_next : (places counts : List ℕ) (es : List InboxEnvelope) (e : InboxEnvelope) (way n : ℕ) → AreTold places counts es → AllPairs (λ p q. p ≢ q) places
    → way < length places → e.place ≡ get_or places way 0 → n ≡ length (of e.place es) → AreTold places (set counts way (n + 1)) (es ++ e ∷ [])
told_next places counts es e way n h apart low at num = (
  length-set counts way (n + 1) ∙ h.0,
  λ k below.
      let p = get_or places k 0 in
      ⊎_elim
      (λ (same : k ≡ way).
      let here : p ≡ e.place = ap (λ j. get_or places j 0) same ∙ sym at in
      get_or-set_at counts way k (n + 1) 0 same (let q = h.0 in omega arith)
      ∙ (let m : n ≡ length (of p es) = num ∙ ap (λ q. length (of q es)) (sym here) in
      let more : length (of p (es ++ e ∷ [])) ≡ length (of p es) + 1 =
      ap length (of-append p es (e ∷ []) ∙ ap (λ l. of p es ++ l) (of-here p e here)) ∙ length_snoc (of p es) (e.number, e.stamped) in
      omega arith))
      (λ (other : k ≢ way).
      let there : p ≢ e.place = λ same. apart_at places apart k way below low other (same ∙ at) in
      get_or-set_other counts way k (n + 1) 0 other ∙ h.1 k below
      ∙ ap length (sym (append_nil (of p es)) ∙ ap (λ l. of p es ++ l) (sym (of-else p e there)) ∙ sym (of-append p es (e ∷ []))))
      (same_or_not k way),
)
  where
    length_snoc : {A : Type 0} (xs : List A) (x : A) → length (xs ++ x ∷ []) ≡ length xs + 1
    length_snoc [] x = omega arith
    length_snoc (y ∷ ys) x = let l = length_snoc ys x in omega arith

-- a sender's pass after it has put one more
pub pass_after : (v w : View) (places : List ℕ) (e : InboxEnvelope) → v ≡ sender_pass places v.put → PutsEnvelope v e w
    → (w ≡ sender_pass places w.put) × (w.put ≡ v.put ++ e ∷ [])
pass_after v w places e is put =
    let more : w.put ≡ v.put ++ e ∷ [] = ap (λ (x : View). x.put) put in (
      put ∙ (λ i. sender_pass (ap (λ (x : View). x.places) is i) (sym more i)),
      more,
    )

-- the ledger of a sender that has put one more on this one of its routes
pub ledger_after : (s : sender.Inside) (v : SenderLedger) (w : View) (way : ℕ) (e : InboxEnvelope) → IsSender s → seen s ≡ v → way < length v.routes
    → e.place ≡ get_or s.places.items way 0 → e.number ≡ length (put_on_way v way) → PutsEnvelope s.pass.me.view.client e w
    → map (posted_of (arc_value s.channel).routes.items) w.put
    ≡ v.ledger ++ record { route = route_at v.routes way; number = length (put_on_way v way); stamped = e.stamped } ∷ []
ledger_after s v w way e h is low at num put =
    let routes = (arc_value s.channel).routes.items in
    let k = on_way s v way h is low in
    let on : route_at routes e.place ≡ route_at v.routes way =
    ap (route_at routes) at ∙ sym (get_or-map (route_at routes) s.places.items way 0 absent_route k.0)
    ∙ ap (λ (y : SenderLedger). route_at y.routes way) is in
    ap (map (posted_of routes)) (ap (λ (x : View). x.put) put) ∙ map-append (posted_of routes) s.pass.me.view.client.put (e ∷ [])
    ∙ (λ i. ap (λ (y : SenderLedger). y.ledger) is i ++ record { route = on i; number = num i; stamped = e.stamped } ∷ [])

-- what holds of a sender's fields once it has put one more on this one of its routes
pub record Grown (s : sender.Inside) (w : View) (counts : List ℕ) : Type 0 where
  pub view : w ≡ sender_pass s.places.items w.put
  pub routed : AreRouted (length (arc_value s.channel).routes.items) w.put
  pub told : AreTold s.places.items counts w.put

pub grown : (s : sender.Inside) (v : SenderLedger) (w : View) (way : ℕ) (e : InboxEnvelope) (counts : List ℕ) → IsSender s
    → seen s ≡ v → way < length v.routes → e.place ≡ get_or s.places.items way 0 → e.number ≡ length (put_on_way v way)
    → PutsEnvelope s.pass.me.view.client e w → counts ≡ set s.counts.items way (e.number + 1) → Grown s w counts
grown s v w way e counts h is low at num put told =
    let routes = (arc_value s.channel).routes.items in
    let k = on_way s v way h is low in
    let p = pass_after s.pass.me.view.client w s.places.items e h.view put in
    let here : e.number ≡ length (of e.place s.pass.me.view.client.put) = num ∙ ap length k.1
    ∙ ap (λ q. length (of q s.pass.me.view.client.put)) (sym at) in
    let within : e.place < length routes = subst (λ q. q < length routes) (sym at) (h.low way 0 k.0) in
    record {
      view = p.0;
      routed = subst (AreRouted (length routes)) (sym p.1) (routed-append (length routes) s.pass.me.view.client.put (e ∷ []) h.routed (within, tt));
      told = subst (λ (y : List ℕ × List InboxEnvelope). AreTold s.places.items y.0 y.1) (λ i. (sym told i, sym p.1 i))
          (told_next s.places.items s.counts.items s.pass.me.view.client.put e way e.number h.counts h.apart k.0 at here);
    }

map_nil : {A B : Type 0} (f : A → B) (xs : List A) → map f xs ≡ [] → xs ≡ []
map_nil f [] h = refl
map_nil f (x ∷ xs) h = absurd (cc)

-- with one place more, where nothing was put
told_more : (places counts : List ℕ) (place : ℕ) → AreTold places counts [] → AreTold (places ++ place ∷ []) (counts ++ 0 ∷ []) []
told_more places counts place h = (
  (let a = h.0 in omega (arith, length-append places (place ∷ []), length-append counts (0 ∷ []))),
  λ k low.
      ⊎_elim
      (λ (last : k ≡ length places). get_or_push counts 0 0 k (let a = h.0 in omega arith))
      (λ (other : k ≢ length places).
      let less : k < length places = (let a = length-append places (place ∷ []) in omega arith) in
      get_or-append counts (0 ∷ []) 0 k (let a = h.0 in omega arith) ∙ h.1 k less)
      (same_or_not k (length places)),
)

-- what holds of a sender's fields once it has one route more
pub record Widened (s : sender.Inside) (w : View) (places counts : List ℕ) : Type 0 where
  pub view : w ≡ sender_pass places w.put
  pub low : All (λ p. p < length (arc_value s.channel).routes.items) places
  pub apart : AllPairs (λ p q. p ≢ q) places
  pub routed : AreRouted (length (arc_value s.channel).routes.items) w.put
  pub told : AreTold places counts w.put
  pub put : w.put ≡ s.pass.me.view.client.put

pub widened : (s : sender.Inside) (v : SenderLedger) (u w : View) (place : ℕ) (places counts : List ℕ) → IsSender s → seen s ≡ v → v.ledger ≡ []
    → u ≡ sender_pass (place ∷ []) [] → w ≡ sender_pass (s.pass.me.view.client.places ++ u.places) s.pass.me.view.client.put
    → places ≡ s.places.items ++ place ∷ [] → counts ≡ s.counts.items ++ 0 ∷ [] → place < length v.inbox.routes
    → All (λ r. r ≢ route_at v.inbox.routes place) v.routes → Widened s w places counts
widened s v u w place places counts h is fresh other join at told low apart =
    let channel = arc_value s.channel in
    let routes = channel.routes.items in
    let put = s.pass.me.view.client.put in
    let none : put ≡ [] = map_nil (posted_of routes) put (ap (λ (x : SenderLedger). x.ledger) is ∙ fresh) in
    let same : w.put ≡ put = ap (λ (x : View). x.put) join in
    let empty : w.put ≡ [] = same ∙ none in
    let lists : v.inbox.routes ≡ routes = ap (λ (x : SenderLedger). x.inbox.routes) (sym is) in
    let within : place < length routes = subst (λ l. place < length l) lists low in
    let ways : s.pass.me.view.client.places ++ u.places ≡ places =
    (λ i. ap (λ (x : View). x.places) h.view i ++ ap (λ (x : View). x.places) other i) ∙ sym at in
    let unlike : (k d : ℕ) → k < length s.places.items → get_or s.places.items k d ≢ place = λ k d few eq.
    apart k absent_route (omega (arith, few, ap (λ (x : SenderLedger). length x.routes) is, length-map s.places.items (route_at routes)))
    (ap (λ (x : SenderLedger). get_or x.routes k absent_route) (sym is) ∙ get_or-map (route_at routes) s.places.items k d absent_route few
    ∙ ap (route_at routes) eq ∙ ap (λ l. route_at l place) (sym lists)) in
    record {
      view = join ∙ (λ i. sender_pass (ways i) (sym same i));
      low = subst (All (λ p. p < length routes)) (sym at) (All-push (λ p. p < length routes) s.places.items place h.low within);
      apart = subst (AllPairs (λ p q. p ≢ q)) (sym at) (all_pairs_push (λ p q. p ≢ q) s.places.items place h.apart unlike);
      routed = subst (AreRouted (length routes)) (sym empty) tt;
      told = subst (λ (x : List ℕ × List ℕ × List InboxEnvelope). AreTold x.0 x.1 x.2) (λ i. (sym at i, sym told i, sym empty i))
          (told_more s.places.items s.counts.items place (subst (AreTold s.places.items s.counts.items) none h.counts));
      put = same;
    }
