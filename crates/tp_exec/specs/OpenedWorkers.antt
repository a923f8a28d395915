-- How the workers of a run are made: first each with its inbox alone, then with the senders of the links from it.
use Rattle.std.specs.Prelude.{◌≡◌, ◌≢◌, ◌<◌, ◌==◌, ◌++◌, ℕ, Bool, Some, List, [], ◌∷◌, All, AllPairs, filter, length}
use Rattle.std.specs.Prelude.{map, slice_get, slice_set}
use Rattle.tp_config.specs.Setup.{Setup, ports_at}
use Rattle.tp_config.specs.Routes.{routes_into}
use Rattle.tp_inbox.specs.Desks.{Journal, new_desk}
use Rattle.tp_inbox.specs.Ledgers.{Draining, SenderLedger, end_of}
use Rattle.tp_behaviour.specs.declared.worker.Worker.{Worker}
use Rattle.tp_exec.specs.declared.inboxes.Opened.{Opened}
use Rattle.tp_exec.specs.Rounds.{all_links, comp_at}

-- the worker has no sender
abbrev pub IsBare : Worker → Type 0
IsBare x = x.outbox ≡ []

-- the sender has put nothing
abbrev pub IsUnused : SenderLedger → Type 0
IsUnused y = y.ledger ≡ []

-- the worker has the inbox and the desk of the component of this number, and nothing has happened there
pub record IsOpened (s : Setup) (k : ℕ) (x : Worker) : Type 0 where
  pub comp : x.owner.inbox.comp ≡ comp_at k
  pub ports : x.owner.inbox.ports ≡ length (ports_at s.types s.components (comp_at k))
  pub routes : x.owner.inbox.routes ≡ routes_into s (comp_at k)
  pub drained : x.owner.drained ≡ []
  pub desk : x.desk ≡ new_desk (comp_at k) (length (ports_at s.types s.components (comp_at k)))

-- the workers of the first n components, none of which has a sender yet; the senders of all links into their inboxes,
-- which have put nothing; and n closers
pub record AreOpened (s : Setup) (n : ℕ) (o : Opened) : Type 0 where
  pub count : length o.workers.items ≡ n
  pub each : (k : ℕ) (x : Worker) → slice_get o.workers.items k ≡ Some x → IsOpened s k x
  pub bare : All IsBare o.workers.items
  pub senders : map end_of o.senders.items ≡ all_links o.workers.items
  pub unused : All IsUnused o.senders.items
  pub closers : length o.closers.items ≡ n

-- the sender is that of the component of this number
abbrev pub is_of : ℕ → SenderLedger → Bool
is_of k y = y.source.0 == k

-- the sender is that of one of the components of these workers
abbrev pub IsFromOneOf : List Worker → SenderLedger → Type 0
IsFromOneOf workers y = y.source.0 < length workers

-- if the two senders are of one component, they put into the inboxes of different components
abbrev pub AreTwo : SenderLedger → SenderLedger → Type 0
AreTwo y z = y.source ≡ z.source → y.inbox.comp ≢ z.inbox.comp

-- no component has two senders into one inbox
abbrev pub AreApart : List SenderLedger → Type 0
AreApart senders = AllPairs AreTwo senders

-- the worker of the sender's component has no sender into the same inbox
abbrev pub IsFirstThere : List Worker → SenderLedger → Type 0
IsFirstThere workers y =
    (x : Worker) → slice_get workers y.source.0 ≡ Some x → All (λ (z : SenderLedger). z.inbox.comp ≢ y.inbox.comp) x.outbox

-- the worker with one more sender
abbrev pub giving : Worker → SenderLedger → Worker
giving x y = record x { outbox = x.outbox ++ y ∷ [] }

-- the sender was given to the worker of its component, and nothing else has changed
abbrev pub HasGiven : SenderLedger → List Worker → List Worker → Type 0
HasGiven y before after =
    (x : Worker) × (slice_get before y.source.0 ≡ Some x) × (after ≡ slice_set before y.source.0 (giving x y))

-- the parts of a worker other than its senders
abbrev pub rest_of : Worker → Draining × Journal
rest_of x = (x.owner, x.desk)

-- each worker, which had no sender, has those of its component, in their order, and nothing else has changed
pub record AreHandedOut (before : List Worker) (all : List SenderLedger) (after : List Worker) : Type 0 where
  pub same : map rest_of after ≡ map rest_of before
  pub senders : (k : ℕ) (x : Worker) → slice_get after k ≡ Some x → x.outbox ≡ filter (is_of k) all
