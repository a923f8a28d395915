-- What a component's behaviour did, entry by entry, each with all that had happened at the component before it.
use Rattle.std.specs.Prelude.{List, [], ◌∷◌, ◌++◌, cond}
use Rattle.tp_inbox.specs.declared.entry.Entry.{Entry}
use Rattle.tp_inbox.specs.History.{is_arrival}

-- an entry, and the whole history before it
pub record Moment : Type 0 where
  pub before : List Entry
  pub entry : Entry

-- the moment of an entry, if the behaviour made it itself
abbrev pub own : List Entry → Entry → List Moment
own past e = cond (is_arrival e) [] (record { before = past; entry = e } ∷ [])

-- the moments of the second list, after a past: its entries other than arrivals, each with the past and the entries
-- before it
abbrev pub moments_after : List Entry → List Entry → List Moment
moments_after past [] = []
moments_after past (e ∷ es) = own past e ++ moments_after (past ++ e ∷ []) es

-- the trace of a history, each entry with the whole history before it
unfoldable pub moments : List Entry → List Moment
moments k = moments_after [] k
