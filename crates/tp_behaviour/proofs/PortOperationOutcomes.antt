-- What operations on ports come to.
use Rattle.std.proofs.Common.{◌≡◌, ◌∙◌, ℕ, zero, suc, ◌≤◌, ℤ, List, [], ◌∷◌, ◌++◌, Option, Some, None, ap, sym, length, subst, arith}
use Rattle.std.specs.Prelude.{All, slice_get}
use Rattle.std.specs.List.{cons_option, slice_index_or}
use Rattle.std.specs.Option.{option_map_or}
use Rattle.std.proofs.lemmas.List.{append_assoc, append-nil}
use Rattle.std.proofs.lemmas.List.Elements.{All-head, All-tail, filter_map-append}
use Rattle.tp_value.specs.declared.verdict.Verdict.{Verdict}
use Rattle.tp_config.specs.declared.port_type.CompId.{CompId}
use Rattle.tp_config.specs.declared.port_type.RouteId.{RouteId}
use Rattle.tp_config.specs.Setup.{Member, PortDecl, ports_at}
use Rattle.tp_common.specs.declared.operation.PortOperation.{PortOperation}
use Rattle.tp_common.specs.declared.operation.PortOperation.TheVariants as operation
use Rattle.tp_play.specs.declared.body.ResolvedStatement.TheVariants as b
use Rattle.tp_inbox.specs.declared.entry.Entry.{Entry}
use Rattle.tp_inbox.specs.declared.entry.Entry.TheVariants as entry
use Rattle.tp_inbox.specs.History.{arrival_on, arrived_on}
use Rattle.tp_behaviour.specs.declared.held.Held.{Held}
use Rattle.tp_behaviour.specs.Fresh.{HasOwn}
use Rattle.tp_behaviour.specs.Held.{Actor}
use Rattle.tp_behaviour.specs.Moments.{Moment, moments}
use Rattle.tp_behaviour.specs.Paths.{AreOperated, IsStep, operated}
use Rattle.tp_behaviour.specs.LookOutcomes.{TraceGrew}
use Rattle.tp_behaviour.specs.Workers.{IsPlain}
use Rattle.tp_behaviour.proofs.RouteHistoryGrowth.{no_arrival}
use Rattle.tp_behaviour.proofs.WorkerInvariantOnActions.{quiet, sent_on_same}

pub plain_operated : (o : PortOperation) (port : ℕ) → IsPlain (operated o port)
plain_operated operation.Start port = tt
plain_operated operation.Stop port = tt
plain_operated operation.Halt port = tt
plain_operated operation.Clear port = tt

arrived_alone : (q : RouteId) (e : Entry) → arrival_on q e ≡ None → arrived_on q (e ∷ []) ≡ []
unfolding arrived_on
arrived_alone q e none = ap (λ o. cons_option o []) none

arrived_more : (q : RouteId) (k es : List Entry) → arrived_on q (k ++ es) ≡ arrived_on q k ++ arrived_on q es
unfolding arrived_on
arrived_more q k es = filter_map-append (arrival_on q) k es

-- as much is there after an entry that neither arrives nor is sent
pub own_more : (c : CompId) (k : List Entry) (e : Entry) → IsPlain e → HasOwn c k → HasOwn c (k ++ e ∷ [])
own_more c k e plain own q from to =
    let h = quiet e plain in
    let came : arrived_on q (k ++ e ∷ []) ≡ arrived_on q k =
    arrived_more q k (e ∷ []) ∙ ap (λ l. arrived_on q k ++ l) (arrived_alone q e (no_arrival q e h.here)) ∙ append-nil (arrived_on q k) in
    ap length came ∙ own q from to ∙ ap length (sym (sent_on_same q k e (h.unsent q.to.comp)))

pub stepped_verdict : (r : Actor) (v : Verdict) (k n : List Entry) → moments n ≡ moments k ++ record { before = k; entry = entry.Verdict v } ∷ []
    → (turns : List ℤ) (vs : List (Option Held)) → TraceGrew (λ ts. IsStep r turns vs (b.SetVerdict v) ts vs) k n
stepped_verdict r v k n more turns vs = (record { before = k; entry = entry.Verdict v } ∷ [], more, IsStep.set_verdict turns vs v k)

pub stepped_control : (r : Actor) (o : PortOperation) (port : ℕ) (k l n : List Entry) → moments l ≡ moments k → moments n ≡ moments l
    ++ record { before = l; entry = operated o port } ∷ []
    → (turns : List ℤ) (vs : List (Option Held)) → TraceGrew (λ ts. IsStep r turns vs (b.Control port o) ts vs) k n
stepped_control r o port k l n same more turns vs = (
  record { before = l; entry = operated o port } ∷ [],
  more
      ∙ ap (λ ts. ts ++ record { before = l; entry = operated o port } ∷ []) same,
  IsStep.control turns vs port o l,
)

-- the moments of the operations on the first ports, and the history after them
pub data AreSoFar (o : PortOperation) : ℕ → List Entry → List Moment → Type 0 where
  none_yet : (k : List Entry) → AreSoFar o 0 k []
  up_to : (n : ℕ) (k : List Entry) (ts : List Moment) → AreOperated o (suc n) (ts ++ record { before = k; entry = operated o n } ∷ [])
      → AreSoFar o (suc n) (k ++ operated o n ∷ []) (ts ++ record { before = k; entry = operated o n } ∷ [])

one_further : (o : PortOperation) (n : ℕ) (k : List Entry) (ts : List Moment) → AreSoFar o n k ts → AreSoFar o (suc n) (k ++ operated o n ∷ [])
    (ts ++ record { before = k; entry = operated o n } ∷ [])
one_further o _ k _ (AreSoFar.none_yet _) = AreSoFar.up_to 0 k [] (AreOperated.first_port k)
one_further o _ _ _ (AreSoFar.up_to n k ts are) =
    AreSoFar.up_to (suc n) (k ++ operated o n ∷ []) (ts ++ record { before = k; entry = operated o n } ∷ [])
    (subst (AreOperated o (suc (suc n)))
    (sym (append_assoc ts (record { before = k; entry = operated o n } ∷ []) (record { before = k ++ operated o n ∷ []; entry = operated o (suc n) } ∷ [])))
    (AreOperated.one_port_more n k ts are))

all_of : (o : PortOperation) (n : ℕ) (k : List Entry) (ts : List Moment) → AreSoFar o n k ts → AreOperated o n ts
all_of o _ _ _ (AreSoFar.none_yet k) = AreOperated.no_port
all_of o _ _ _ (AreSoFar.up_to n k ts are) = are

-- the next port
pub grew_further : (o : PortOperation) (n : ℕ) (k l m : List Entry) → TraceGrew (AreSoFar o n l) k l → m ≡ l ++ operated o n ∷ [] → moments m ≡ moments l
    ++ record { before = l; entry = operated o n } ∷ []
    → TraceGrew (AreSoFar o (suc n) m) k m
grew_further o n k l m (ts, grown, so) log more =
    let t : Moment = record { before = l; entry = operated o n } in (
      ts ++ t ∷ [],
      more ∙ ap (λ xs. xs ++ t ∷ []) grown ∙ append_assoc (moments k) ts (t ∷ []),
      subst (λ x. AreSoFar o (suc n) x (ts ++ t ∷ [])) (sym log)
          (one_further o n l ts so),
    )

-- all ports
pub stepped_all : (r : Actor) (o : PortOperation) (n : ℕ) (k l m : List Entry) → n ≡ length (ports_at r.config.types r.config.components r.comp)
    → moments l ≡ moments k → TraceGrew (AreSoFar o n m) l m
    → (turns : List ℤ) (vs : List (Option Held)) → TraceGrew (λ ts. IsStep r turns vs (b.AllPorts o) ts vs) k m
stepped_all r o n k l m count same (ts, grown, so) turns vs =
    (ts, grown ∙ ap (λ xs. xs ++ ts) same, IsStep.all_ports turns vs o ts (subst (λ j. AreOperated o j ts) count (all_of o n m ts so)))

few_at : (types : List (List PortDecl)) (kind : ℕ) → All (λ (ports : List PortDecl). length ports ≤ 64) types → length (slice_index_or types kind []) ≤ 64
few_at [] kind few = omega arith
few_at (t ∷ ts) zero few = All-head (λ (ports : List PortDecl). length ports ≤ 64) t ts few
few_at (t ∷ ts) (suc k) few = few_at ts k (All-tail (λ (ports : List PortDecl). length ports ≤ 64) t ts few)

few_of : (types : List (List PortDecl)) (m : Option Member) → All (λ (ports : List PortDecl). length ports ≤ 64) types
    → length (option_map_or (λ (m : Member). slice_index_or types m.kind []) m []) ≤ 64
few_of types None few = omega arith
few_of types (Some m) few = few_at types m.kind few

-- a component has few ports
pub few_ports : (types : List (List PortDecl)) (components : List Member) (c : CompId) → All (λ (ports : List PortDecl). length ports ≤ 64) types
    → length (ports_at types components c) ≤ 64
unfolding ports_at
few_ports types components c few = few_of types (slice_get components c.0) few

-- before the first port
pub grew_start : (o : PortOperation) (k : List Entry) → TraceGrew (AreSoFar o 0 k) k k
grew_start o k = ([], sym (append-nil (moments k)), AreSoFar.none_yet k)
