-- What is gathered by routes names parcels.
use Rattle.std.proofs.Common.{◌≡◌, ℕ, true, Option, Some, None, List, refl, subst}
use Rattle.std.specs.Prelude.{All, IsSome, MatchOption}
use Rattle.std.proofs.lemmas.Bool.{false≢true}
use Rattle.std.proofs.lemmas.List.Elements.{All-weaker, filter_passes}
use Rattle.tp_judge.specs.declared.line.Act.{Act}
use Rattle.tp_judge.specs.declared.line.Act.TheVariants as act
use Rattle.tp_judge.specs.declared.line.IndexedLine.{IndexedLine}
use Rattle.tp_judge.specs.declared.line.By.TheVariants as by
use Rattle.tp_judge.specs.declared.place.UnlawfulPlace.{UnlawfulPlace}
use Rattle.tp_judge.specs.declared.trace.IndexedTrace.{IndexedTrace}
use Rattle.tp_judge.specs.Lines.{came_route, is_number, key_of, lines_with, parcel_of, sent_route}
use Rattle.tp_judge.specs.Delivered.{CameAsSent, IsDeliveredAt, IsJoined, IsUnlawfulOn, IsUnlawfulRoute, NamesParcel}

sent_named : (a : Act) (route : ℕ) → is_number route (sent_route a) ≡ true → IsSome (parcel_of a)
sent_named (act.Sent m) route is = refl
sent_named _ route is = absurd (false≢true is)

came_named : (a : Act) (route : ℕ) → is_number route (came_route a) ≡ true → IsSome (parcel_of a)
came_named (act.Came m) route is = refl
came_named _ route is = absurd (false≢true is)

pub names_sent : (route : ℕ) (lines : List IndexedLine) → All NamesParcel (lines_with by.Sent route lines)
names_sent route lines =
    All-weaker (λ line. is_number route (key_of by.Sent line) ≡ true) NamesParcel (λ line. sent_named line.act route)
    (lines_with by.Sent route lines) (filter_passes (λ line. is_number route (key_of by.Sent line)) lines)

pub names_came : (route : ℕ) (lines : List IndexedLine) → All NamesParcel (lines_with by.Came route lines)
names_came route lines =
    All-weaker (λ line. is_number route (key_of by.Came line) ≡ true) NamesParcel (λ line. came_named line.act route)
    (lines_with by.Came route lines) (filter_passes (λ line. is_number route (key_of by.Came line)) lines)

-- what is found on a route, by its lines
pub route_found : (trace : IndexedTrace) (route : ℕ) (sent came : List IndexedLine) (found : Option UnlawfulPlace)
    → sent ≡ lines_with by.Sent route trace.lines.items → came ≡ lines_with by.Came route trace.lines.items
    → IsJoined trace route → MatchOption found (CameAsSent sent came) (IsUnlawfulRoute sent came)
    → MatchOption found (IsDeliveredAt trace route) (IsUnlawfulOn trace route)
route_found trace route sent came None sent_is came_is joined lawful =
    λ both. subst (λ (l : List IndexedLine). CameAsSent l (lines_with by.Came route trace.lines.items)) sent_is
    (subst (λ (l : List IndexedLine). CameAsSent sent l) came_is lawful)
route_found trace route sent came (Some place) sent_is came_is joined broken = record {
  joined = joined;
  broken = subst (λ (l : List IndexedLine). IsUnlawfulRoute l (lines_with by.Came route trace.lines.items) place) sent_is
      (subst (λ (l : List IndexedLine). IsUnlawfulRoute sent l place) came_is broken);
}
