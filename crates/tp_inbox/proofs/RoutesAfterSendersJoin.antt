-- What follows for each route once the senders have joined.
use Rattle.std.proofs.Common.{◌≡◌, ℕ, suc, ◌+◌, ◌-◌, ◌≤◌, Bool, true, false, cond, Option, List, [], ◌∷◌, ◌++◌, length, map, take, refl, sym, ap, ◌∙◌, subst, append_assoc, length-append, arith}
use Rattle.std.specs.Prelude.{slice_index_or, ◌==◌, All}
use Rattle.std.specs.List.{AllZip, list_any}
use Rattle.std.proofs.lemmas.List.Elements.{All-nil, All-cons}
use Rattle.std.proofs.lemmas.Slice.Zip.{all_zipped_more}
use Rattle.std.proofs.lemmas.List.{map-append, length-map}
use Rattle.crossbeam_queue.specs.Fifo.{Held}
use Rattle.tp_inbox.specs.declared.posted.Posted.{Posted}
use Rattle.tp_config.specs.declared.port_type.CompId.{CompId}
use Rattle.tp_config.specs.declared.port_type.RouteId.{RouteId}
use Rattle.tp_inbox.specs.declared.entry.Entry.{Entry}
use Rattle.tp_inbox.specs.declared.envelope.InboxEnvelope.{InboxEnvelope}
use Rattle.tp_inbox.specs.declared.channel.Channel.{Channel}
use Rattle.tp_inbox.specs.declared.rule.View.{View}
use Rattle.tp_inbox.specs.History.{arrivals, arrived_on, arrived_from}
use Rattle.tp_inbox.specs.Envelopes.{AreFronts, AreWhole, AreRouted, Begins, Ledger, on_routes, one_of, envelopes_before, EndsWith}
use Rattle.tp_inbox.specs.Rule.{owner_pass, sender_pass, Knows, Sound}
use Rattle.tp_inbox.specs.Routed.{AreBegun, AreDelivered, AreArrivalsNumbered, IsArrivalOn, arrival_of, arrivals_of, posted_of, sources_behind, with_source}
use Rattle.tp_inbox.specs.Ledgers.{Inbox, SenderLedger, AreSenders}
use Rattle.tp_inbox.specs.InboxEndFields.{AreFrom, inbox_of, sent_by}
use Rattle.tp_inbox.specs.Gathers.{IsPutOf}
use Rattle.tp_inbox.proofs.OwnerStepInvariants.{take_front, sound_joined, routed_rest}
use Rattle.tp_inbox.proofs.ArrivalsOfEnvelopes.{are_on, numbered_on, arrived_in, arrived_on-append, arrived_from-append, came_in, from_places}

abbrev pub Sent : Type 0
Sent = CompId × List Posted

pub all_head : {A : Type 0} (P : A → Type 0) (x : A) (xs : List A) → All P (x ∷ xs) → P x
all_head P x xs h = h 0 x (omega arith)

pub all_tail : {A : Type 0} (P : A → Type 0) (x : A) (xs : List A) → All P (x ∷ xs) → All P xs
all_tail P x xs h k d low = h (suc k) d (omega arith)

all_back : {A : Type 0} (P : A → Type 0) (xs ys : List A) → All P (xs ++ ys) → All P ys
all_back P [] ys h = h
all_back P (x ∷ xs) ys h = all_back P xs ys (all_tail P x (xs ++ ys) h)

-- a list that ends with these: what stands before them, and that this makes the whole
pub front_is : {A : Type 0} (all xs ys : List A) → all ≡ xs ++ ys → take (length all - length ys) all ≡ xs
front_is all xs ys is = ap (λ l. take (length l - length ys) l) is ∙ take_front xs ys (length (xs ++ ys) - length ys) (omega (arith, length-append xs ys))

pub front_and_back : {A : Type 0} (all xs ys : List A) → all ≡ xs ++ ys → all ≡ take (length all - length ys) all ++ ys
front_and_back all xs ys is = is ∙ ap (λ l. l ++ ys) (sym (front_is all xs ys is))

-- what the owner's pass knows, and of whom
pub record Knowing (channel : Channel) (v : View) (sent : List Sent) : Type 0 where
  pub sound : Sound v
  pub split_off : v.split_off ≡ length channel.routes.items
  pub known : AllZip (IsPutOf channel.routes.items) v.known sent

pub routed_at : (channel : Channel) (v : View) (sent : List Sent) → Knowing channel v sent → AreRouted (length channel.routes.items) v.taken
routed_at channel v sent h = subst (λ (n : ℕ). AreRouted n v.taken) h.split_off h.sound.routed

-- what came from a component is what of its sender's envelopes was taken out
came_of : (channel : Channel) (taken : List InboxEnvelope) → AreRouted (length channel.routes.items) taken → (x : Ledger) (s : Sent) → IsPutOf channel.routes.items x s
    → arrived_from channel.comp s.0 (arrivals_of channel.routes.items taken) ≡ map (posted_of channel.routes.items) (on_routes x.0 taken)
came_of channel taken routed x s h = from_places channel.comp channel.ports channel.routes.items channel.routed s.0 x.0 h.0 taken routed

begun_each : (channel : Channel) (taken : List InboxEnvelope) → AreRouted (length channel.routes.items) taken → (known : List Ledger) (sent : List Sent)
    → AllZip (IsPutOf channel.routes.items) known sent → AreFronts taken known → AreBegun channel.comp (arrivals_of channel.routes.items taken) sent
begun_each channel taken routed [] [] h fronts =
    All-nil (λ (s : Sent). Begins (arrived_from channel.comp s.0 (arrivals_of channel.routes.items taken)) s.1)
begun_each channel taken routed [] (s ∷ sent) h fronts = absurd h
begun_each channel taken routed (x ∷ known) [] h fronts = absurd h
begun_each channel taken routed (x ∷ known) (s ∷ sent) h fronts =
    let posted = map (posted_of channel.routes.items) in
    let first : Begins (on_routes x.0 taken) x.1 = all_head (λ (y : Ledger). Begins (on_routes y.0 taken) y.1) x known fronts in
    All-cons (λ (s : Sent). Begins (arrived_from channel.comp s.0 (arrivals_of channel.routes.items taken)) s.1) s sent (
      posted first.0,
      ap (λ l. l ++ posted first.0) (came_of channel taken routed x s h.0) ∙ sym (map-append (posted_of channel.routes.items) (on_routes x.0 taken) first.0)
          ∙ ap posted first.1 ∙ sym h.0.1,
    )
    (begun_each channel taken routed known sent h.1 (all_tail (λ (y : Ledger). Begins (on_routes y.0 taken) y.1) x known fronts))

delivered_each : (channel : Channel) (taken : List InboxEnvelope) → AreRouted (length channel.routes.items) taken → (known : List Ledger) (sent : List Sent)
    → AllZip (IsPutOf channel.routes.items) known sent → AreWhole taken known → AreDelivered channel.comp (arrivals_of channel.routes.items taken) sent
delivered_each channel taken routed [] [] h whole =
    All-nil (λ (s : Sent). arrived_from channel.comp s.0 (arrivals_of channel.routes.items taken) ≡ s.1)
delivered_each channel taken routed [] (s ∷ sent) h whole = absurd h
delivered_each channel taken routed (x ∷ known) [] h whole = absurd h
delivered_each channel taken routed (x ∷ known) (s ∷ sent) h whole =
    All-cons (λ (s : Sent). arrived_from channel.comp s.0 (arrivals_of channel.routes.items taken) ≡ s.1) s sent
    (came_of channel taken routed x s h.0
    ∙ ap (map (posted_of channel.routes.items)) (all_head (λ (y : Ledger). on_routes y.0 taken ≡ y.1) x known whole) ∙ sym h.0.1)
    (delivered_each channel taken routed known sent h.1 (all_tail (λ (y : Ledger). on_routes y.0 taken ≡ y.1) x known whole))

pub begun_at : (channel : Channel) (v : View) (sent : List Sent) (all : List Entry) (comp : CompId) → Knowing channel v sent
    → arrivals_of channel.routes.items v.taken ≡ all → channel.comp ≡ comp → AreBegun comp all sent
begun_at channel v sent all comp h is here =
    subst (λ (x : CompId × List Entry). AreBegun x.0 x.1 sent) (λ i. (here i, is i))
    (begun_each channel v.taken (routed_at channel v sent h) v.known sent h.known h.sound.fronts)

-- what was drained and the rest is what came, after a history whose arrivals were drained
came_all : (comp source : CompId) (all drained rest log : List Entry) → all ≡ drained ++ rest → arrivals log ≡ drained
    → arrived_from comp source (log ++ rest) ≡ arrived_from comp source all
came_all comp source all drained rest log is same =
    arrived_from-append comp source log rest
    ∙ ap (λ l. l ++ arrived_from comp source rest) (came_in comp source log ∙ ap (arrived_from comp source) same)
    ∙ sym (arrived_from-append comp source drained rest) ∙ ap (arrived_from comp source) (sym is)

pub delivered_at : (channel : Channel) (v : View) (sent : List Sent) (drained rest log : List Entry) → Knowing channel v sent → AreWhole v.taken v.known
    → arrivals_of channel.routes.items v.taken ≡ drained ++ rest → arrivals log ≡ drained → AreDelivered channel.comp (log ++ rest) sent
delivered_at channel v sent drained rest log h whole is same k d low =
    came_all channel.comp (slice_index_or sent k d).0 (arrivals_of channel.routes.items v.taken) drained rest log is same
    ∙ delivered_each channel v.taken (routed_at channel v sent h) v.known sent h.known whole k d low

-- and it is numbered on each route
pub numbered_at : (channel : Channel) (v : View) (sent : List Sent) (drained rest log : List Entry) → Knowing channel v sent
    → arrivals_of channel.routes.items v.taken ≡ drained ++ rest → arrivals log ≡ drained → AreArrivalsNumbered channel.routes.items (log ++ rest)
numbered_at channel v sent drained rest log h is same k d low =
    let r = slice_index_or channel.routes.items k d in
    let n = numbered_on channel.comp channel.ports channel.routes.items channel.routed v.taken (routed_at channel v sent h) h.sound.order k d low in (
      n.0,
      arrived_on-append r log rest ∙ ap (λ l. l ++ arrived_on r rest) (arrived_in r log ∙ ap (arrived_on r) same) ∙ sym (arrived_on-append r drained rest)
          ∙ ap (arrived_on r) (sym is) ∙ n.1,
    )

pub rest_at : (channel : Channel) (v : View) (inbox : Inbox) (drained rest : List Entry) → Sound v → v.split_off ≡ length channel.routes.items → inbox_of channel ≡ inbox
    → arrivals_of channel.routes.items v.taken ≡ drained ++ rest → All (IsArrivalOn inbox.routes) rest
rest_at channel v inbox drained rest sound split_off same is =
    let on = are_on channel.routes.items v.taken (subst (λ (n : ℕ). AreRouted n v.taken) split_off sound.routed) in
    let back = all_back (IsArrivalOn channel.routes.items) drained rest (subst (All (IsArrivalOn channel.routes.items)) is on) in
    subst (λ (i : Inbox). All (IsArrivalOn i.routes) rest) same back

-- the owner's pass once the senders have joined, and the queue was looked at
pub joined : (v u w : View) (known : List Ledger) (n : ℕ) → Sound v → u ≡ owner_pass v.split_off v.taken known → w ≡ u → Held n (Knows u)
    → Sound w × (w.split_off ≡ v.split_off) × (w.taken ≡ v.taken) × (w.known ≡ known)
joined v u w known n s e same held = (
  sound_joined v u w known n s e same held,
  ap (λ (x : View). x.split_off) (same ∙ e),
  ap (λ (x : View). x.taken) (same ∙ e),
  ap (λ (x : View). x.known) (same ∙ e),
)

-- all that was taken out is what was drained, and then what is in hand
pub taken_apart : (routes : List RouteId) (taken all : List InboxEnvelope) (hand : Option InboxEnvelope) (rest : List Entry) → taken ≡ all → EndsWith all (one_of hand)
    → rest ≡ arrivals_of routes (one_of hand) → arrivals_of routes taken ≡ arrivals_of routes (envelopes_before all (one_of hand)) ++ rest
taken_apart routes taken all hand rest same ends is =
    ap (arrivals_of routes) (same ∙ ends) ∙ map-append (arrival_of routes) (envelopes_before all (one_of hand)) (one_of hand)
    ∙ ap (λ l. arrivals_of routes (envelopes_before all (one_of hand)) ++ l) (sym is)

pub hand_routed : (n m : ℕ) (all : List InboxEnvelope) (hand : Option InboxEnvelope) → n ≡ m → AreRouted n all → EndsWith all (one_of hand) → AreRouted m (one_of hand)
hand_routed n m all hand same routed ends = routed_rest n m all (envelopes_before all (one_of hand)) (one_of hand) same ends routed

-- one more that has joined
pub move_one : {A : Type 0} (all xs : List A) (x : A) (ys : List A) → all ≡ xs ++ x ∷ [] → all ++ ys ≡ xs ++ x ∷ ys
move_one all xs x ys is = ap (λ l. l ++ ys) is ∙ append_assoc xs (x ∷ []) ys

sent_by-push : (routes : List RouteId) (cs : List CompId) (known : List Ledger) (c : CompId) (x : Ledger) → length cs ≡ length known
    → sent_by routes (cs ++ c ∷ []) (known ++ x ∷ []) ≡ sent_by routes cs known ++ (c, map (posted_of routes) x.1) ∷ []
sent_by-push routes [] [] c x same = refl
sent_by-push routes [] (y ∷ known) c x same = absurd (omega (arith, same))
sent_by-push routes (d ∷ cs) [] c x same = absurd (omega (arith, same))
sent_by-push routes (d ∷ cs) (y ∷ known) c x same =
    ap (λ l. (d, map (posted_of routes) y.1) ∷ l) (sent_by-push routes cs known c x (omega (arith, same)))

-- one more component, with what its sender had put
pub sent-push : (routes : List RouteId) (cs more : List CompId) (known grown : List Ledger) (c : CompId) (x : Ledger) (s : Sent)
    → length cs ≡ length known → more ≡ cs ++ c ∷ [] → grown ≡ known ++ x ∷ [] → c ≡ s.0 → map (posted_of routes) x.1 ≡ s.1
    → sent_by routes more grown ≡ sent_by routes cs known ++ s ∷ []
sent-push routes cs more known grown c x s same is grows source put =
    (λ i. sent_by routes (is i) (grows i)) ∙ sent_by-push routes cs known c x same
    ∙ ap (λ (y : Sent). sent_by routes cs known ++ y ∷ []) (λ i. (source i, put i))

-- one more is known
pub known-push : (routes : List RouteId) (known grown : List Ledger) (sent more : List Sent) (w : View) (places : List ℕ) (put : List InboxEnvelope) (s : Sent)
    → AllZip (IsPutOf routes) known sent → grown ≡ known ++ (w.places, w.put) ∷ [] → more ≡ sent ++ s ∷ [] → w ≡ sender_pass places put
    → AreFrom s.0 routes places → s.1 ≡ map (posted_of routes) put → AllZip (IsPutOf routes) grown more
known-push routes known grown sent more w places put s was is grows view from ledger =
    let x : Ledger = (w.places, w.put) in
    let at : x ≡ (places, put) = λ i. (ap (λ (u : View). u.places) view i, ap (λ (u : View). u.put) view i) in
    subst (λ (y : List Ledger × List Sent). AllZip (IsPutOf routes) y.0 y.1) (λ i. (sym is i, sym grows i))
    (all_zipped_more (IsPutOf routes) known sent x s was (subst (λ (y : Ledger). IsPutOf routes y s) (sym at) (from, ledger)))

few_with : (b : Bool) (sources : List CompId) (c : CompId) → length (cond b sources (sources ++ c ∷ [])) ≤ length sources + 1
few_with true sources c = omega arith
few_with false sources c = omega (arith, length-append sources (c ∷ []))

few_behind : (sources : List CompId) (routes : List RouteId) → length (sources_behind sources routes) ≤ length sources + length routes
few_behind sources [] = omega arith
few_behind sources (r ∷ rs) =
    let more = few_behind (with_source sources r.source) rs in
    let one = few_with (list_any (λ (s : CompId). s.0 == r.source.0) sources) sources r.source in
    omega (arith, more, one)

-- there are no more senders than routes
pub few_senders : (inbox : Inbox) (senders : List SenderLedger) → AreSenders inbox senders → length senders ≤ length inbox.routes
few_senders inbox senders are =
    let few = few_behind [] inbox.routes in
    omega (arith, few, ap length are.1, length-map senders (λ (s : SenderLedger). s.source))

-- nothing is known as yet
pub known_none : (routes : List RouteId) (known : List Ledger) (cs : List CompId) → known ≡ [] → cs ≡ []
    → AllZip (IsPutOf routes) known (sent_by routes cs known)
known_none routes known cs none empty =
    subst (λ (y : List Ledger × List CompId). AllZip (IsPutOf routes) y.0 (sent_by routes y.1 y.0)) (λ i. (sym none i, sym empty i)) (tt {0})
