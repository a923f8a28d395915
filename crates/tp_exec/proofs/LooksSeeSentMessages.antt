-- In one order a look at ports sees the very messages that were sent to its component before.
use Rattle.std.proofs.Common.{◌≡◌, ◌⊎◌, inl, inr, ℕ, zero, suc, ◌+◌, ◌-◌, ◌<◌, ◌≤◌, ◌==◌, Bool, true, false, cond}
use Rattle.std.proofs.Common.{eq-eqb, Option, Some, None, List, [], ◌∷◌, ◌++◌, length, get_or, take, drop, refl, sym}
use Rattle.std.proofs.Common.{ap, ◌∙◌, subst, arith}
use Rattle.std.specs.Prelude.{slice_get}
use Rattle.std.specs.List.{cons_option, filter_map}
use Rattle.std.proofs.Math.Seq.{take-append_seam}
use Rattle.std.proofs.lemmas.Bool.{cases_eq, cases_lt, false≢true, ne_eqb}
use Rattle.std.proofs.lemmas.List.{append-nil, take-append-drop, take_all}
use Rattle.std.proofs.lemmas.List.Elements.{filter_map-append}
use Rattle.std.proofs.lemmas.List.Sums.{sum_by-cons}
use Rattle.std.proofs.lemmas.Option.{same_Some, slice_get_cases, slice_get_within, slice_get-get_or}
use Rattle.std.proofs.lemmas.Option.{get_or_from_slice_get}
use Rattle.tp_config.specs.declared.port_type.CompId.{CompId}
use Rattle.tp_inbox.specs.declared.entry.Entry.{Entry}
use Rattle.tp_inbox.specs.declared.entry.Entry.TheVariants as entry
use Rattle.tp_inbox.specs.declared.posted.Posted.{Posted}
use Rattle.tp_inbox.specs.History.{arrival_from, arrived_from, is_arrival, sending_to, sent_to}
use Rattle.tp_report.specs.declared.report.CompReport.{CompReport}
use Rattle.tp_behaviour.specs.Fresh.{LooksAtPorts}
use Rattle.tp_exec.specs.CausalOrder.{Spot}
use Rattle.tp_judge.specs.OneOrder.{IsAt}
use Rattle.tp_exec.specs.OneOrder.{IsOrderOf, IsOwn, entry_at_spot, log_in, logs_of, sender_to, sends_to}
use Rattle.tp_exec.specs.OneOrder.{source_of}
use Rattle.tp_exec.specs.OneOrder.{many}
use Rattle.tp_exec.specs.LookLaws.{LooksSeeSent, sending_in, posted_at, posted_by}
use Rattle.tp_exec.proofs.HistoryEntries.{spot, spot_is}
use Rattle.tp_exec.proofs.HistoryEntries.{log_is}
use Rattle.tp_exec.proofs.HistoryEntries.{many_sent}
use Rattle.tp_judge.proofs.NoOrderWhereStuck.{take_one, unit}

-- what is given of the fronts of a list
pub given_one : {X Y : Type 0} (f : X → Option Y) (k : List X) (n : ℕ) (x : X) → slice_get k n ≡ Some x
    → filter_map f (take (n + 1) k) ≡ filter_map f (take n k) ++ cons_option (f x) []
given_one f k n x at = ap (filter_map f) (take_one k n x at) ∙ filter_map-append f (take n k) (x ∷ [])

given_flat : {X Y : Type 0} (f : X → Option Y) (k : List X) (n r : ℕ) → ((q : ℕ) (x : X) → n ≤ q → q < n + r → slice_get k q ≡ Some x → f x ≡ None)
    → filter_map f (take (n + r) k) ≡ filter_map f (take n k)
given_flat f k n zero none = let e : n + 0 ≡ n = omega arith in ap (λ m. filter_map f (take m k)) e
given_flat f k n (suc r) none =
    let e : n + suc r ≡ (n + r) + 1 = omega arith in
    let rest : filter_map f (take (n + r) k) ≡ filter_map f (take n k) = given_flat f k n r (λ q x from to at. none q x from (omega (arith, to)) at) in
    ap (λ m. filter_map f (take m k)) e ∙ elim (slice_get_cases k (n + r)).1 [
      | inl h ↦
          let z : f h.0 ≡ None = none (n + r) h.0 (omega arith) (omega arith) h.2 in
          given_one f k (n + r) h.0 h.2 ∙ ap (λ o. filter_map f (take (n + r) k) ++ cons_option o []) z ∙ append-nil (filter_map f (take (n + r) k)) ∙ rest
      | inr past ↦
          let low : length k ≤ n + r = past.0 in
          ap (filter_map f) (take_all ((n + r) + 1) k (omega (arith, low)) ∙ sym (take_all (n + r) k low)) ∙ rest
    ]

pub given_front : {X Y : Type 0} (f : X → Option Y) (k : List X) (n : ℕ) → filter_map f (take n k) ≡ take (length (filter_map f (take n k))) (filter_map f k)
given_front f k n =
    sym (take-append_seam (filter_map f (take n k)) (filter_map f (drop n k)))
    ∙ ap (take (length (filter_map f (take n k)))) (sym (filter_map-append f (take n k) (drop n k)) ∙ ap (filter_map f) (take-append-drop n k))

-- and how much
size_cons : {Y : Type 0} (o : Option Y) (ys : List Y) → length (cons_option o ys) ≡ length (cons_option o []) + length ys
size_cons None ys = omega arith
size_cons (Some y) ys = omega arith

many_cons : (c : ℕ) (o : Option ℕ) (ys : List ℕ) → many c (cons_option o ys) ≡ many c (cons_option o []) + many c ys
many_cons c None ys = omega arith
many_cons c (Some y) ys =
    let one = sum_by-cons (λ x. cond (x == c) 1 0) y ys in
    let two = sum_by-cons (λ x. cond (x == c) 1 0) y [] in
    omega (arith, one, two)

pub as_many : {X : Type 0} (f : X → Option Posted) (g : X → Option ℕ) (c : ℕ) → ((x : X) → length (cons_option (f x) []) ≡ many c (cons_option (g x) []))
    → (xs : List X) → length (filter_map f xs) ≡ many c (filter_map g xs)
as_many f g c each [] = refl
as_many f g c each (x ∷ xs) =
    let one = size_cons (f x) (filter_map f xs) in
    let two = many_cons c (g x) (filter_map g xs) in
    let here = each x in
    let rest = as_many f g c each xs in
    omega (arith, one, two, here, rest)

turned : (a b : ℕ) → (a == b) ≡ (b == a)
turned a b = elim (cases_eq a b) [
  | inl same ↦ eq-eqb a b same ∙ sym (eq-eqb b a (sym same))
  | inr other ↦ ne_eqb a b other ∙ sym (ne_eqb b a (λ e. other (sym e)))
]

size_if : {Y : Type 0} (b : Bool) (y : Y) → length (cons_option (cond b (Some y) None) []) ≡ unit b
size_if true y = refl
size_if false y = refl

size_both : {Y : Type 0} (b s : Bool) (y : Y) → length (cons_option (cond b (cond s (Some y) None) None) []) ≡ cond s (unit b) 0
size_both true true y = refl
size_both true false y = refl
size_both false true y = refl
size_both false false y = refl

size_none : (b : Bool) → length (cons_option (cond b (let o : Option Posted = None in o) None) []) ≡ 0
size_none true = refl
size_none false = refl

pub arrival_size : (c d : CompId) (e : Entry) → length (cons_option (arrival_from d c e) []) ≡ many c.0 (cons_option (source_of e) [])
arrival_size c d (entry.Arrive p t v) =
    let one = many_sent v.sender c.0 true in
    size_if (c.0 == v.sender) _ ∙ ap unit (turned c.0 v.sender) ∙ sym one
arrival_size c d _ = refl

pub posted_size : (c d : CompId) (x : ℕ) (o : Option Entry) → length (cons_option (cond (c.0 == x) (sending_in d o) None) [])
    ≡ many c.0 (cons_option (cond (sends_to d.0 o) (Some x) None) [])
posted_size c d x None = size_none (c.0 == x)
posted_size c d x (Some (entry.Sent q n m)) =
    size_both (c.0 == x) (d.0 == q.to.comp.0) _ ∙ ap (λ (b : Bool). cond (d.0 == q.to.comp.0) (unit b) 0) (turned c.0 x)
    ∙ sym (many_sent x c.0 (d.0 == q.to.comp.0))
posted_size c d x (Some _) = size_none (c.0 == x)

module _ (logs : List (List Entry)) (full : List Spot) (is : IsOrderOf logs full) (c d : CompId) where
  -- what c did before a place is what the order has of it so far
  record IsSoFar (i p : ℕ) : Type 0 where
    own : (j : ℕ) (a : Spot) → j < i → IsAt full j a → a.comp ≡ c.0 → a.place < p
    each : (q : ℕ) → IsOwn logs (spot c.0 q) → q < p → (j : ℕ) × (j < i) × IsAt full j (spot c.0 q)
    list : posted_by logs c d (take i full) ≡ filter_map (sending_to d) (take p (log_in logs c.0))

  no_task : (e : Entry) → is_arrival e ≡ true → sending_to d e ≡ None
  no_task (entry.Sent r n m) arrival = absurd (cc)
  no_task _ arrival = refl

  bool_cases : (b : Bool) → (b ≡ true) ⊎ (b ≡ false)
  bool_cases true = inl refl
  bool_cases false = inr refl

  so_far_none : IsSoFar 0 0
  so_far_none = record {
    own = λ j a less there same. absurd (omega (arith, less));
    each = λ q own less. absurd (omega (arith, less));
    list = refl;
  }

  -- one of another component
  so_far_other : (i p : ℕ) (a : Spot) → IsSoFar i p → IsAt full i a → (a.comp ≡ c.0 → ⊥) → IsSoFar (i + 1) p
  so_far_other i p a was there other = record {
    own = λ j b less at_b same. elim (cases_eq j i) [
      | inl level ↦
          let one : a ≡ b = same_Some a b (sym there ∙ ap (λ n. slice_get full n) (sym level) ∙ at_b) in
          absurd (other (ap (λ (s : Spot). s.comp) one ∙ same))
      | inr away ↦ was.own j b (omega (arith, less, away)) at_b same
    ];
    each = λ q own less. let j = was.each q own less in let low : j.0 < i = j.1 in (j.0, omega (arith, low), j.2);
    list = given_one (posted_at logs c d) full i a there
        ∙ ap (λ (b : Bool). posted_by logs c d (take i full) ++ cons_option (cond b (sending_in d (entry_at_spot logs a)) None) []) (ne_eqb c.0 a.comp (λ e. other (sym e)))
        ∙ append-nil (posted_by logs c d (take i full)) ∙ was.list;
  }

  -- or the next of c
  so_far_more : (i p q : ℕ) → IsSoFar i p → IsAt full i (spot c.0 q) → IsSoFar (i + 1) (q + 1)
  so_far_more i p q was there =
      let log = log_in logs c.0 in
      let own = is.own i (spot c.0 q) there in
      let from : p ≤ q = elim (cases_lt q p) [
        | inr h ↦ h
        | inl h ↦
            let j = was.each q own h in
            let same : j.0 ≡ i = is.once j.0 i (spot c.0 q) j.2 there in
            let low : j.0 < i = j.1 in
            absurd (omega (arith, same, low))
      ] in
      let between : (r : ℕ) (e : Entry) → p ≤ r → r < q → slice_get log r ≡ Some e → is_arrival e ≡ true = λ r e up to stands. elim (bool_cases (is_arrival e)) [
        | inl met ↦ met
        | inr unmet ↦
            let k = is.kept (spot c.0 r) (spot c.0 q) (refl, to) (record { act = e; stands = stands; own = unmet }) own in
            let same : k.1 ≡ i = is.once k.1 i (spot c.0 q) k.4 there in
            let less : k.0 < k.1 = k.2 in
            let low : r < p = was.own k.0 (spot c.0 r) (omega (arith, less, same)) k.3 refl in
            absurd (omega (arith, low, up))
      ] in
      let gap : p + (q - p) ≡ q = omega (arith, from) in
      let flat : filter_map (sending_to d) (take q log) ≡ filter_map (sending_to d) (take p log) =
      ap (λ n. filter_map (sending_to d) (take n log)) (sym gap)
      ∙ given_flat (sending_to d) log p (q - p) (λ r e up to stands. no_task e (between r e up (omega (arith, to, from)) stands)) in
      record {
        own = λ j b less at_b same. elim (cases_eq j i) [
          | inl level ↦
              let one : spot c.0 q ≡ b = same_Some (spot c.0 q) b (sym there ∙ ap (λ n. slice_get full n) (sym level) ∙ at_b) in
              let e : q ≡ b.place = ap (λ (s : Spot). s.place) one in
              omega (arith, e)
          | inr away ↦ let low : b.place < p = was.own j b (omega (arith, less, away)) at_b same in omega (arith, low, from)
        ];
        each = λ r one less. elim (cases_lt r p) [
          | inl old ↦ let j = was.each r one old in let low : j.0 < i = j.1 in (j.0, omega (arith, low), j.2)
          | inr up ↦ elim (cases_eq r q) [
            | inl same ↦ (i, omega arith, subst (λ n. IsAt full i (spot c.0 n)) (sym same) there)
            | inr unlike ↦ absurd (false≢true (sym one.own ∙ between r one.act up (omega (arith, less, unlike)) one.stands))
          ]
        ];
        list = given_one (posted_at logs c d) full i (spot c.0 q) there
            ∙ ap (λ (b : Bool). posted_by logs c d (take i full) ++ cons_option (cond b (sending_in d (entry_at_spot logs (spot c.0 q))) None) []) (eq-eqb c.0 c.0 refl)
            ∙ ap (λ (o : Option Entry). posted_by logs c d (take i full) ++ cons_option (sending_in d o) []) own.stands
            ∙ ap (λ l. l ++ cons_option (sending_to d own.act) []) (was.list ∙ sym flat)
            ∙ sym (given_one (sending_to d) log q own.act own.stands);
      }

  so_far : (i : ℕ) → i ≤ length full → (p : ℕ) × IsSoFar i p
  so_far zero most = (0, so_far_none)
  so_far (suc i) most =
      let was = so_far i (omega (arith, most)) in
      let a = get_or full i (spot 0 0) in
      let there : IsAt full i a = slice_get-get_or full i (spot 0 0) (omega (arith, most)) in
      let e : i + 1 ≡ suc i = omega arith in
      elim (cases_eq a.comp c.0) [
        | inl same ↦ (
          a.place + 1,
          subst (λ (n : ℕ). IsSoFar n (a.place + 1)) e
              (so_far_more i was.0 a.place was.1 (subst (IsAt full i) (spot_is a c.0 a.place same refl) there)),
        )
        | inr other ↦ (was.0, subst (λ (n : ℕ). IsSoFar n was.0) e (so_far_other i was.0 a was.1 there other))
      ]

  -- in the whole order it sends what its history says
  pub all_posted : posted_by logs c d full ≡ filter_map (sending_to d) (log_in logs c.0)
  all_posted =
      let log = log_in logs c.0 in
      let past = so_far (length full) (omega arith) in
      let p = past.0 in
      let none : (r : ℕ) (e : Entry) → p ≤ r → r < p + length log → slice_get log r ≡ Some e → sending_to d e ≡ None = λ r e up to stands.
      elim (bool_cases (is_arrival e)) [
        | inl met ↦ no_task e met
        | inr unmet ↦
            let one : IsOwn logs (spot c.0 r) = record { act = e; stands = stands; own = unmet } in
            let j = is.each (spot c.0 r) one in
            let low : r < p = past.1.own j.0 (spot c.0 r) (slice_get_within full j.0 (spot c.0 r) j.1) j.1 refl in
            absurd (omega (arith, low, up))
      ] in
      ap (λ (l : List Spot). posted_by logs c d l) (sym (take_all (length full) full (omega arith))) ∙ past.1.list
      ∙ sym (given_flat (sending_to d) log p (length log) none) ∙ ap (filter_map (sending_to d)) (take_all (p + length log) log (omega arith))

  -- **a look sees what was sent**: where all that c sent to d came there, what has come from c before d looks is what c
  -- sent to d before, in this order
  pub sees_sent : sent_to d (log_in logs c.0) ≡ arrived_from d c (log_in logs d.0) → (i place : ℕ) (e : Entry) → IsAt full i (spot d.0 place)
      → slice_get (log_in logs d.0) place ≡ Some e → LooksAtPorts e
      → arrived_from d c (take place (log_in logs d.0)) ≡ posted_by logs c d (take i full)
  unfolding sent_to arrived_from
  sees_sent between i place e there stands look =
      let log = log_in logs d.0 in
      let xs = filter_map (arrival_from d c) (take place log) in
      let ys = posted_by logs c d (take i full) in
      let seen = ap (many c.0) (is.seen i (spot d.0 place) there (e, stands, look)) in
      let one = as_many (arrival_from d c) source_of c.0 (arrival_size c d) (take place log) in
      let two = as_many (posted_at logs c d) (sender_to logs d.0) c.0 (λ a. posted_size c d a.comp (entry_at_spot logs a)) (take i full) in
      let size : length xs ≡ length ys = omega (arith, seen, one, two) in
      given_front (arrival_from d c) log place
      ∙ ap (λ n. take n (filter_map (arrival_from d c) log)) size
      ∙ ap (take (length ys)) (sym between ∙ sym all_posted)
      ∙ sym (given_front (posted_at logs c d) full i)

-- so it is in a report
log_of_one : (components : List CompReport) (n : ℕ) (x : CompReport) → slice_get components n ≡ Some x → log_in (logs_of components) n ≡ x.desk.log
log_of_one components n x at =
    log_is components n x x.desk.log (slice_get_within components n x at)
    (ap (λ (y : CompReport). y.desk.log) (sym (get_or_from_slice_get components n x x at)))

pub looks_see_sent : LooksSeeSent
looks_see_sent made report order c d x y i place e is_report is source receiver there stands look =
    let components = report.components.items in
    let logs = logs_of components in
    let from : log_in logs c.0 ≡ x.desk.log = log_of_one components c.0 x source in
    let to : log_in logs d.0 ≡ y.desk.log = log_of_one components d.0 y receiver in
    let between = is_report.between c d x y source receiver in
    let all : sent_to d (log_in logs c.0) ≡ arrived_from d c (log_in logs d.0) =
    ap (λ (k : List Entry). sent_to d k) from ∙ between ∙ ap (λ (k : List Entry). arrived_from d c k) (sym to) in
    ap (λ (k : List Entry). arrived_from d c (take place k)) (sym to)
    ∙ sees_sent logs order is c d all i place e there (ap (λ (k : List Entry). slice_get k place) to ∙ stands) look
