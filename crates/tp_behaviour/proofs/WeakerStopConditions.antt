-- A behaviour that stops where this holds of the branches at which it waits stops where anything weaker does.
use Rattle.std.proofs.Common.{ℤ, Option, List}
use Rattle.tp_play.specs.declared.body.ResolvedStatement.{ResolvedStatement}
use Rattle.tp_inbox.specs.declared.ending.End.{End}
use Rattle.tp_behaviour.specs.declared.choice.Guard.{Guard}
use Rattle.tp_behaviour.specs.declared.held.Held.{Held}
use Rattle.tp_behaviour.specs.BehaviourEnds.{Stops, StopsWithin}
use Rattle.tp_behaviour.specs.Held.{Actor}
use Rattle.tp_behaviour.specs.Moments.{Moment}

module _ (r : Actor) (P Q : List Guard → Type 0) (weaker : (gs : List Guard) → P gs → Q gs) where
  mutual
    still_stops_within : {end : End} {turns : List ℤ} {vs : List (Option Held)} {x : ResolvedStatement} {ts : List Moment} → StopsWithin r P end turns vs x ts
        → StopsWithin r Q end turns vs x ts
    still_stops_within (StopsWithin.fails turns vs x k fault h) = StopsWithin.fails turns vs x k fault h
    still_stops_within (StopsWithin.waits turns vs x drops all h) = StopsWithin.waits turns vs x drops all (weaker _ h)
    still_stops_within (StopsWithin.waits_at_alt turns vs branches drops all h) = StopsWithin.waits_at_alt turns vs branches drops all (weaker _ h)
    still_stops_within (StopsWithin.within_branch end turns vs branches otherwise has_else drops t i e x ts all chosen at block) =
        StopsWithin.within_branch end turns vs branches otherwise has_else drops t i e x ts all chosen at (still_stops block)
    still_stops_within (StopsWithin.within_else end turns vs branches block drops t ts all chosen h) =
        StopsWithin.within_else end turns vs branches block drops t ts all chosen (still_stops h)
    still_stops_within (StopsWithin.within_for end turns vs ws first bound block n ts more so less h) =
        StopsWithin.within_for end turns vs ws first bound block n ts more so less (still_stops h)

    pub still_stops : {end : End} {turns : List ℤ} {vs : List (Option Held)} {xs : List ResolvedStatement} {ts : List Moment} → Stops r P end turns vs xs ts
        → Stops r Q end turns vs xs ts
    still_stops (Stops.stops end turns vs ws xs x rest ts more path h) = Stops.stops end turns vs ws xs x rest ts more path (still_stops_within h)
