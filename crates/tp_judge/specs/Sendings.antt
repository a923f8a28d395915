-- Where the messages of each route were sent.
use Rattle.std.specs.Prelude.{◌≡◌, ◌<◌, ◌==◌, ℕ, Option, Some, None, List, cond, length, take, slice_get}
use Rattle.std.specs.Prelude.{slice_index_or}
use Rattle.std.specs.List.{filter_map}
use Rattle.std.specs.declared.vec.Vec.{Vec}
use Rattle.std.specs.declared.alloc.Global.{Global}
use Rattle.tp_judge.specs.declared.line.Mention.{Mention}
use Rattle.tp_judge.specs.declared.line.Parcel.{Parcel}
use Rattle.tp_judge.specs.declared.line.Act.{Act}
use Rattle.tp_judge.specs.declared.line.Act.TheVariants as act
use Rattle.tp_judge.specs.declared.line.IndexedLine.{IndexedLine}
use Rattle.tp_judge.specs.declared.trace.IndexedTrace.{IndexedTrace}
use Rattle.tp_judge.specs.OneRun.{ComesAt, LineAt}

-- the parcel that a line sends on this route
abbrev pub sent_parcel : ℕ → Act → Option Parcel
sent_parcel route (act.Sent m) = cond (m.route == route) (Some m.parcel) None
sent_parcel route _ = None

-- the parcel that arrives on this route by a line
abbrev pub came_parcel : ℕ → Act → Option Parcel
came_parcel route (act.Came m) = cond (m.route == route) (Some m.parcel) None
came_parcel route _ = None

-- all parcels that these lines send on the route
abbrev pub sent_parcels : ℕ → List IndexedLine → List Parcel
sent_parcels route lines = filter_map (λ line. sent_parcel route line.act) lines

-- all parcels that arrive on the route by these lines
abbrev pub came_parcels : ℕ → List IndexedLine → List Parcel
came_parcels route lines = filter_map (λ line. came_parcel route line.act) lines

-- the line at this place sends on the route, after this number of other sendings
pub record IsNextSending (trace : IndexedTrace) (route before place : ℕ) : Type 0 where
  pub line : IndexedLine
  pub at : LineAt trace place line
  pub parcel : Parcel
  pub sends : sent_parcel route line.act ≡ Some parcel
  pub is : length (sent_parcels route (take place trace.lines.items)) ≡ before

-- the row has the places of the route's sendings before the end, in their order
pub record IsSendingsRow (trace : IndexedTrace) (end route : ℕ) (row : List ℕ) : Type 0 where
  pub size : length row ≡ length (sent_parcels route (take end trace.lines.items))
  pub each : (before place : ℕ) → slice_get row before ≡ Some place → IsNextSending trace route before place

-- there is such a row for each route
pub record AreSendingRows (trace : IndexedTrace) (end : ℕ) (rows : List (Vec ℕ Global)) : Type 0 where
  pub size : length rows ≡ length trace.joined.items
  pub each : (route : ℕ) (row : Vec ℕ Global) → route < length trace.joined.items
      → IsSendingsRow trace end route (slice_index_or rows route row).items

-- the message arrived, on a route whose ends both have a section
abbrev pub HasCome : IndexedTrace → Mention → Type 0
HasCome trace m = (component : ℕ) × (place : ℕ) × ComesAt trace component place m
