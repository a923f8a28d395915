-- What came, and where it was sent.
use Rattle.std.proofs.Common.{◌≡◌, ℕ, ◌<◌, ◌==◌, Bool, true, false, cond, Option, Some, None, List, [], ◌∷◌}
use Rattle.std.proofs.Common.{length, refl, ap, sym, ◌∙◌, subst, eq-eqb, arith}
use Rattle.std.specs.Prelude.{All, slice_get, slice_index, unwrap_or}
use Rattle.std.specs.List.{cons_option}
use Rattle.std.proofs.lemmas.Bool.{cond-true, eqb-true, false≢true}
use Rattle.std.proofs.lemmas.List.{take_all}
use Rattle.std.proofs.lemmas.Option.{cond_some, none-some, get_or_from_slice_get, slice_get-get_or, slice_get_within}
use Rattle.tp_judge.specs.declared.line.Parcel.{Parcel}
use Rattle.tp_judge.specs.declared.line.Mention.{Mention}
use Rattle.tp_judge.specs.declared.line.Act.{Act}
use Rattle.tp_judge.specs.declared.line.Act.TheVariants as act
use Rattle.tp_judge.specs.declared.line.IndexedLine.{IndexedLine}
use Rattle.tp_judge.specs.declared.line.By.TheVariants as by
use Rattle.tp_judge.specs.declared.trace.IndexedTrace.{IndexedTrace}
use Rattle.tp_judge.specs.Lines.{came_route, is_number, lines_with, parcel_of, sent_route}
use Rattle.tp_judge.specs.Lawful.{AreLinesRouted, IsRouted, IsRoutedAct}
use Rattle.tp_judge.specs.Delivered.{AreParcelsNumbered, Delivered, IsJoined, parcels}
use Rattle.tp_judge.specs.OneRun.{ComesAt, IsSentAt}
use Rattle.tp_judge.specs.OneRun.{LineAt}
use Rattle.tp_judge.specs.Sendings.{came_parcel, came_parcels, sent_parcel, sent_parcels, HasCome, IsSendingsRow}
use Rattle.tp_judge.proofs.RanksOfGivenElements.{rank_of, ranked, same_rank, unranked}

-- what holds of each holds of what stands at a place
pub all_at : {X : Type 0} (P : X → Type 0) (xs : List X) (k : ℕ) (x : X) → All P xs → slice_get xs k ≡ Some x → P x
all_at P xs k x all at =
    subst P (get_or_from_slice_get xs k x x at) (all k x (slice_get_within xs k x at))

pub true_there : (o : Option Bool) → unwrap_or o false ≡ true → o ≡ Some true
true_there None is = absurd (false≢true is)
true_there (Some b) is = ap Some is

-- the parcels of a route, by its lines and by all lines
filter_parcels : (b : Bool) (line : IndexedLine) (lines : List IndexedLine)
    → parcels (cond b (line ∷ lines) lines) ≡ cond b (cons_option (parcel_of line.act) (parcels lines)) (parcels lines)
filter_parcels true line lines = refl
filter_parcels false line lines = refl

by_test : (b : Bool) (p : Parcel) (rest : List Parcel) → cond b (p ∷ rest) rest ≡ cons_option (cond b (Some p) None) rest
by_test true p rest = refl
by_test false p rest = refl

sent_one : (route : ℕ) (a : Act) (rest : List Parcel)
    → cond (is_number route (sent_route a)) (cons_option (parcel_of a) rest) rest ≡ cons_option (sent_parcel route a) rest
sent_one route (act.Sent m) rest = by_test (m.route == route) m.parcel rest
sent_one route _ rest = refl

came_one : (route : ℕ) (a : Act) (rest : List Parcel)
    → cond (is_number route (came_route a)) (cons_option (parcel_of a) rest) rest ≡ cons_option (came_parcel route a) rest
came_one route (act.Came m) rest = by_test (m.route == route) m.parcel rest
came_one route _ rest = refl

same_sent : (route : ℕ) (lines : List IndexedLine) → parcels (lines_with by.Sent route lines) ≡ sent_parcels route lines
same_sent route [] = refl
same_sent route (line ∷ lines) =
    filter_parcels (is_number route (sent_route line.act)) line (lines_with by.Sent route lines)
    ∙ ap (λ l. cond (is_number route (sent_route line.act)) (cons_option (parcel_of line.act) l) l) (same_sent route lines)
    ∙ sent_one route line.act (sent_parcels route lines)

same_came : (route : ℕ) (lines : List IndexedLine) → parcels (lines_with by.Came route lines) ≡ came_parcels route lines
same_came route [] = refl
same_came route (line ∷ lines) =
    filter_parcels (is_number route (came_route line.act)) line (lines_with by.Came route lines)
    ∙ ap (λ l. cond (is_number route (came_route line.act)) (cons_option (parcel_of line.act) l) l) (same_came route lines)
    ∙ came_one route line.act (came_parcels route lines)

-- a lawful route, by all lines
record IsMatched (trace : IndexedTrace) (route : ℕ) : Type 0 where
  same : sent_parcels route trace.lines.items ≡ came_parcels route trace.lines.items
  numbered : AreParcelsNumbered (sent_parcels route trace.lines.items)

matched : (trace : IndexedTrace) (route : ℕ) → Delivered trace → IsJoined trace route → IsMatched trace route
matched trace route delivered joined =
    let lines = trace.lines.items in
    let lawful = delivered route (slice_get_within trace.joined.items route true joined) joined in
    record {
      same = sym (same_sent route lines) ∙ lawful.same ∙ same_came route lines;
      numbered = subst AreParcelsNumbered (same_sent route lines) lawful.numbered;
    }

came_gives : (m : Mention) (a : Act) → a ≡ act.Came m → came_parcel m.route a ≡ Some m.parcel
came_gives m a is = ap (came_parcel m.route) is ∙ cond-true (m.route == m.route) (Some m.parcel) None (eq-eqb m.route m.route refl)

pub sent_gives : (m : Mention) (a : Act) → a ≡ act.Sent m → sent_parcel m.route a ≡ Some m.parcel
sent_gives m a is = ap (sent_parcel m.route) is ∙ cond-true (m.route == m.route) (Some m.parcel) None (eq-eqb m.route m.route refl)

-- what came stands at its rank among all that was sent
came_there : (trace : IndexedTrace) (component place : ℕ) (m : Mention) → Delivered trace → ComesAt trace component place m
    → slice_get (sent_parcels m.route trace.lines.items) (rank_of (λ line. came_parcel m.route line.act) trace.lines.items place) ≡ Some m.parcel
came_there trace component place m delivered c =
    let both = matched trace m.route delivered c.is.1 in
    let rank = rank_of (λ (line : IndexedLine). came_parcel m.route line.act) trace.lines.items place in
    ap (λ l. slice_get l rank) both.same
    ∙ ranked (λ (line : IndexedLine). came_parcel m.route line.act) trace.lines.items place c.line m.parcel c.at (came_gives m c.line.act c.is.0)

-- its number is its rank
came_number : (trace : IndexedTrace) (component place : ℕ) (m : Mention) → Delivered trace → ComesAt trace component place m
    → m.parcel.number ≡ rank_of (λ line. came_parcel m.route line.act) trace.lines.items place
came_number trace component place m delivered c =
    let both = matched trace m.route delivered c.is.1 in
    both.numbered (rank_of (λ (line : IndexedLine). came_parcel m.route line.act) trace.lines.items place) m.parcel
    (came_there trace component place m delivered c)

pub sent_number : (trace : IndexedTrace) (place : ℕ) (m : Mention) → Delivered trace → IsJoined trace m.route → IsSentAt trace place m
    → m.parcel.number ≡ rank_of (λ line. sent_parcel m.route line.act) trace.lines.items place
sent_number trace place m delivered joined s =
    let both = matched trace m.route delivered joined in
    both.numbered (rank_of (λ (line : IndexedLine). sent_parcel m.route line.act) trace.lines.items place) m.parcel
    (ranked (λ (line : IndexedLine). sent_parcel m.route line.act) trace.lines.items place s.line m.parcel s.at (sent_gives m s.line.act s.is))

-- a message is sent once
pub sent_once : (trace : IndexedTrace) (s t : ℕ) (m : Mention) → Delivered trace → IsJoined trace m.route → IsSentAt trace s m → IsSentAt trace t m
    → s ≡ t
sent_once trace s t m delivered joined first second =
    same_rank (λ (line : IndexedLine). sent_parcel m.route line.act) trace.lines.items s t first.line second.line m.parcel m.parcel
    first.at second.at (sent_gives m first.line.act first.is) (sent_gives m second.line.act second.is)
    (sym (sent_number trace s m delivered joined first) ∙ sent_number trace t m delivered joined second)

-- and comes once
pub comes_once : (trace : IndexedTrace) (c d j k : ℕ) (m : Mention) → Delivered trace → ComesAt trace c j m → ComesAt trace d k m → j ≡ k
comes_once trace c d j k m delivered first second =
    same_rank (λ (line : IndexedLine). came_parcel m.route line.act) trace.lines.items j k first.line second.line m.parcel m.parcel
    first.at second.at (came_gives m first.line.act first.is.0) (came_gives m second.line.act second.is.0)
    (sym (came_number trace c j m delivered first) ∙ came_number trace d k m delivered second)

-- what an act that sends a parcel on a route is
sent_inverse : (route : ℕ) (a : Act) (p : Parcel) → sent_parcel route a ≡ Some p
    → (m : Mention) × (a ≡ act.Sent m) × (m.route ≡ route) × (m.parcel ≡ p)
sent_inverse route (act.Sent m) p is =
    let both = cond_some (m.route == route) m.parcel p is in
    (m, refl, eqb-true m.route route both.0, both.1)
sent_inverse route _ p is = absurd (none-some p is)

came_inverse : (route : ℕ) (a : Act) (p : Parcel) → came_parcel route a ≡ Some p
    → (m : Mention) × (a ≡ act.Came m) × (m.route ≡ route) × (m.parcel ≡ p)
came_inverse route (act.Came m) p is =
    let both = cond_some (m.route == route) m.parcel p is in
    (m, refl, eqb-true m.route route both.0, both.1)
came_inverse route _ p is = absurd (none-some p is)

same_mention : (m n : Mention) → m.port ≡ n.port → m.route ≡ n.route → m.parcel ≡ n.parcel → m ≡ n
same_mention m n port route parcel =
    ap (λ x. record { port = x; route = m.route; parcel = m.parcel }) port
    ∙ ap (λ x. record { port = n.port; route = x; parcel = m.parcel }) route
    ∙ ap (λ x. record { port = n.port; route = n.route; parcel = x }) parcel

-- a line names a route with its port
sent_port : (trace : IndexedTrace) (r : AreLinesRouted trace) (place : ℕ) (line : IndexedLine) (m : Mention) → LineAt trace place line → line.act ≡ act.Sent m
    → m.port ≡ slice_index r.ports m.route
sent_port trace r place line m at is =
    subst (λ (a : Act). IsRoutedAct trace r.ports line.component a) is
    (all_at (IsRouted trace r.ports) trace.lines.items place line r.each at)

came_port : (trace : IndexedTrace) (r : AreLinesRouted trace) (place : ℕ) (line : IndexedLine) (m : Mention) → LineAt trace place line → line.act ≡ act.Came m
    → (m.port ≡ slice_index r.ports m.route) × (line.component ≡ slice_index trace.owners.items m.port)
came_port trace r place line m at is =
    subst (λ (a : Act). IsRoutedAct trace r.ports line.component a) is
    (all_at (IsRouted trace r.ports) trace.lines.items place line r.each at)

-- what came to a component was for it
pub came_for : (trace : IndexedTrace) (component place : ℕ) (m : Mention) → AreLinesRouted trace → ComesAt trace component place m
    → slice_index trace.owners.items m.port ≡ component
came_for trace component place m r c = sym (came_port trace r place c.line m c.at c.is.0).1 ∙ c.within

-- the line that sends what came
sends_it : (trace : IndexedTrace) (component place sending : ℕ) (m : Mention) (line : IndexedLine) → AreLinesRouted trace → ComesAt trace component place m
    → LineAt trace sending line → sent_parcel m.route line.act ≡ Some m.parcel → IsSentAt trace sending m
sends_it trace component place sending m line r c at is =
    let n = sent_inverse m.route line.act m.parcel is in
    let first = sent_port trace r sending line n.0 at n.1 in
    let second = (came_port trace r place c.line m c.at c.is.0).0 in
    let port = first ∙ ap (slice_index r.ports) n.2 ∙ sym second in
    record { line = line; at = at; is = n.1 ∙ ap act.Sent (same_mention n.0 m port n.2 n.3) }

-- what was sent comes, to the component that it's for
pub comes_there : (trace : IndexedTrace) (component place : ℕ) (m : Mention) → AreLinesRouted trace → Delivered trace → IsJoined trace m.route
    → slice_index trace.owners.items m.port ≡ component → IsSentAt trace place m → (k : ℕ) × ComesAt trace component k m
comes_there trace component place m r delivered joined for s =
    let both = matched trace m.route delivered joined in
    let rank = rank_of (λ (line : IndexedLine). sent_parcel m.route line.act) trace.lines.items place in
    let there = ap (λ l. slice_get l rank) (sym both.same)
    ∙ ranked (λ (line : IndexedLine). sent_parcel m.route line.act) trace.lines.items place s.line m.parcel s.at (sent_gives m s.line.act s.is) in
    let found = unranked (λ (line : IndexedLine). came_parcel m.route line.act) trace.lines.items rank m.parcel there in
    let n = came_inverse m.route found.element.act m.parcel found.gives in
    let first = came_port trace r found.place found.element n.0 found.at n.1 in
    let second = sent_port trace r place s.line m s.at s.is in
    let port = first.0 ∙ ap (slice_index r.ports) n.2 ∙ sym second in
    let same = same_mention n.0 m port n.2 n.3 in (
      found.place,
      record {
        line = found.element;
        at = found.at;
        within = first.1 ∙ ap (λ (l : Mention). slice_index trace.owners.items l.port) same ∙ for;
        is = (n.1 ∙ ap act.Came same, joined);
      },
    )

-- the row of its route has where it was sent, at its number
pub row_has : (trace : IndexedTrace) (m : Mention) (row : List ℕ) → AreLinesRouted trace → Delivered trace → HasCome trace m
    → IsSendingsRow trace (length trace.lines.items) m.route row
    → (m.parcel.number < length row) × IsSentAt trace (slice_index row m.parcel.number) m
row_has trace m row r delivered come is =
    let lines = trace.lines.items in
    let c = come.2 in
    let place = come.1 in
    let rank = rank_of (λ (line : IndexedLine). came_parcel m.route line.act) lines place in
    let number : m.parcel.number ≡ rank = came_number trace come.0 place m delivered c in
    let there = came_there trace come.0 place m delivered c in
    let below = slice_get_within (sent_parcels m.route lines) rank m.parcel there in
    let size = is.size ∙ ap (λ l. length (sent_parcels m.route l)) (take_all (length lines) lines (omega arith)) in
    let within : m.parcel.number < length row = omega (arith, number, below, size) in
    let next = is.each m.parcel.number (slice_index row m.parcel.number) (slice_get-get_or row m.parcel.number 0 within) in
    let sent_at = ranked (λ (line : IndexedLine). sent_parcel m.route line.act) lines (slice_index row m.parcel.number) next.line next.parcel next.at next.sends in
    let same : Some next.parcel ≡ Some m.parcel =
    sym sent_at ∙ ap (slice_get (sent_parcels m.route lines)) (next.is ∙ number) ∙ there in
    (within, sends_it trace come.0 place (slice_index row m.parcel.number) m next.line r c next.at (next.sends ∙ same))
