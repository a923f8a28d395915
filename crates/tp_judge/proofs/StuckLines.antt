-- What holds back the components where the search for one order of the lines is stuck.
use Rattle.std.proofs.Common.{◌≡◌, ◌⊎◌, inl, inr, ℕ, ◌+◌, ◌-◌, ◌<◌, ◌≤◌, ◌==◌, Bool, true, false, Option, Some, None, List, length, take}
use Rattle.std.proofs.Common.{get_or, refl, sym, ap, ◌∙◌, subst, slice_index, arith, if◌then◌else◌}
use Rattle.std.specs.Prelude.{slice_get, option_and_then, unwrap_or}
use Rattle.std.proofs.lemmas.Bool.{cases_eq, cases_lt, cases_order, eqb-true, false≢true}
use Rattle.std.proofs.lemmas.Option.{cond_some, none-some, same_Some, slice_get_cases, slice_get_read, slice_get_within}
use Rattle.tp_judge.specs.declared.kind.EntryKind.{EntryKind}
use Rattle.tp_judge.specs.declared.kind.EntryKind.TheVariants as kind
use Rattle.tp_judge.specs.declared.line.Act.{Act}
use Rattle.tp_judge.specs.declared.line.Act.TheVariants as act
use Rattle.tp_judge.specs.declared.line.IndexedLine.{IndexedLine}
use Rattle.tp_judge.specs.declared.line.Mention.{Mention}
use Rattle.tp_judge.specs.declared.progress.ArrivalCursor.{ArrivalCursor}
use Rattle.tp_judge.specs.declared.progress.OrderProgress.{OrderProgress}
use Rattle.tp_judge.specs.declared.sections.TraceHistories.{TraceHistories}
use Rattle.tp_judge.specs.declared.trace.IndexedTrace.{IndexedTrace}
use Rattle.tp_judge.specs.Cursors.{HasPassedLooks, IsAfterLooks}
use Rattle.tp_judge.specs.Delivered.{IsJoined}
use Rattle.tp_judge.specs.Greedy.{AreLookedBefore, MaySend}
use Rattle.tp_judge.specs.Kinds.{Kinds, came_in, came_of, kind_at, sent_by, sent_from, sent_of}
use Rattle.tp_judge.specs.OneRun.{ComesAt, IsDemanded, IsLookAt, IsOwnAt, IsSentAt, LineAt, is_joined, is_looking, is_own}
use Rattle.tp_judge.specs.OneRun.{in_turn, seen_before, unseen_before}
use Rattle.tp_judge.specs.Stuck.{HoldsBack, IsDue, IsAhead, IsStuckAt, kinds_in}
use Rattle.tp_judge.specs.TraceKinds.{kind_of}
use Rattle.tp_judge.proofs.NoOrderWhereStuck.{sends_it}
use Rattle.tp_judge.proofs.RanksOfGivenElements.{from_front, in_front, rank_of, rank_rises, ranked, slice_there, unranked}
use Rattle.tp_judge.proofs.SendersOfMentions.{kind_sent}
use Rattle.tp_judge.proofs.SendingOfEachArrival.{came_for, comes_once, comes_there, sent_once, true_there}
use Rattle.tp_judge.proofs.SpotOrderGrowth.{spot}
use Rattle.tp_judge.proofs.TraceRunsByKinds.{line_of_kind, looks_of, there}
use Rattle.tp_judge.proofs.TraceSections.{component_below}

-- what came by the line of a kind
came_joined : (b : Bool) (n m : Mention) → (let k : EntryKind Mention = if b then kind.Came n else kind.Nothing in k) ≡ kind.Came m
    → (b ≡ true) × (n ≡ m)
came_joined true n m is = let same : n ≡ m = cc in (refl, same)
came_joined false n m is = absurd (cc)

sent_uncame : (b : Bool) (d : ℕ) (n m : Mention) → (let k : EntryKind Mention = if b then kind.Sent d n else kind.Quiet in k) ≡ kind.Came m → ⊥
sent_uncame true d n m is = cc
sent_uncame false d n m is = cc

kind_came : (trace : IndexedTrace) (a : Act) (m : Mention) → kind_of trace a ≡ kind.Came m → (a ≡ act.Came m) × IsJoined trace m.route
kind_came trace (act.Came n) m is =
    let both = came_joined (is_joined trace n) n m is in
    (ap act.Came both.1, subst (λ (x : Mention). IsJoined trace x.route) both.1 (true_there (slice_get trace.joined.items n.route) both.0))
kind_came trace (act.Sent n) m is = absurd (sent_uncame (is_joined trace n) (slice_index trace.owners.items n.port) n m is)
kind_came trace (act.Left n) m is = absurd (cc)
kind_came trace act.End m is = absurd (cc)
kind_came trace act.Other m is = absurd (cc)
kind_came trace _ m is = absurd (cc)

looking_own : (a : Act) → is_looking a ≡ true → is_own a ≡ true
looking_own (act.Sent m) is = refl
looking_own (act.Came m) is = absurd (false≢true is)
looking_own (act.Left m) is = absurd (false≢true is)
looking_own _ is = refl

-- a look is something that a component did itself
look_is_own : (trace : IndexedTrace) (component place : ℕ) → IsLookAt trace component place → IsOwnAt trace component place
look_is_own trace component place look =
    record { line = look.line; at = look.at; within = look.within; is = looking_own look.line.act look.is }

came_own : (a : Act) (m : Mention) → a ≡ act.Came m → is_own a ≡ true → ⊥
came_own a m is own = false≢true (sym (ap is_own is) ∙ own)

-- no line is both something that a component did itself and an arrival
own_not_come : (trace : IndexedTrace) (component other place : ℕ) (m : Mention) → IsOwnAt trace component place → ComesAt trace other place m
    → ⊥
own_not_come trace component other place m own c =
    let same = same_Some own.line c.line (sym own.at ∙ c.at) in
    came_own c.line.act m c.is.0 (sym (ap (λ (l : IndexedLine). is_own l.act) same) ∙ own.is)

-- one message comes by a line
comes_same : (trace : IndexedTrace) (component other j k : ℕ) (m n : Mention) → ComesAt trace component j m → ComesAt trace other k n
    → j ≡ k → m ≡ n
comes_same trace component other j k m n first second same =
    let line = same_Some first.line second.line (sym first.at ∙ ap (slice_get trace.lines.items) same ∙ second.at) in
    let both : act.Came m ≡ act.Came n = sym first.is.0 ∙ ap (λ (l : IndexedLine). l.act) line ∙ second.is.0 in
    cc

came_is : (e : EntryKind Mention) (m : Mention) → came_of e ≡ Some m → e ≡ kind.Came m
came_is (kind.Came n) m is = ap kind.Came (same_Some n m is)
came_is _ m is = absurd (none-some m is)

sent_is : (d : ℕ) (e : EntryKind Mention) (m : Mention) → sent_of d e ≡ Some m → e ≡ kind.Sent d m
sent_is d (kind.Sent to n) m is =
    let both = cond_some (d == to) n m is in
    ap (λ x. kind.Sent x n) (sym (eqb-true d to both.0)) ∙ ap (λ x. kind.Sent d x) both.1
sent_is d _ m is = absurd (none-some m is)

given_is : (d : ℕ) (o : Option (EntryKind Mention)) (m : Mention) → option_and_then (sent_of d) o ≡ Some m → o ≡ Some (kind.Sent d m)
given_is d None m is = absurd (none-some m is)
given_is d (Some e) m is = ap Some (sent_is d e m is)

-- the last of the looks that have to be before a message is sent
looked : {M : Type 0} (e : EntryKind M) → (e ≡ kind.Looked) ⊎ (e ≡ kind.Looked → ⊥)
looked kind.Looked = inl refl
looked _ = inr (λ is. cc)

abbrev IsLookFor : {M : Type 0} → List (EntryKind M) → ℕ → ℕ → Type 0
IsLookFor {M} k n q = (slice_get k q ≡ Some kind.Looked) × (length (came_in (take q k)) ≤ n)

is_look_for : {M : Type 0} (k : List (EntryKind M)) (n q : ℕ) → IsLookFor k n q ⊎ (IsLookFor k n q → ⊥)
is_look_for k n q = elim (slice_get_cases k q).1 [
  | inr past ↦ inr (λ is. let low = slice_get_within k q kind.Looked is.0 in omega (arith, low, past.0))
  | inl h ↦ elim (looked h.0) [
    | inr other ↦ inr (λ is. other (same_Some h.0 kind.Looked (sym h.2 ∙ is.0)))
    | inl look ↦ elim (cases_lt n (length (came_in (take q k)))) [
      | inl more ↦ inr (λ is. omega (arith, more, is.1))
      | inr few ↦ inl (h.2 ∙ ap Some look, few)
    ]
  ]
]

pub last_look : {M : Type 0} (k : List (EntryKind M)) (n place after : ℕ) → IsAfterLooks k n after → (AreLookedBefore k n place → ⊥)
    → (place < after) × (slice_get k (after - 1) ≡ Some kind.Looked) × (length (came_in (take (after - 1) k)) ≤ n)
last_look k n place after is early =
    let low : place < after = elim (cases_lt place after) [ inl low ↦ low | inr most ↦ absurd (early ((is place).0 most)) ] in
    elim (is_look_for k n (after - 1)) [
      | inl look ↦ (low, look.0, look.1)
      | inr none ↦
          let sooner : after ≤ after - 1 = (is (after - 1)).1 (λ q look few.
          let before : q < after = (is after).0 (omega arith) q look few in
          elim (cases_eq q (after - 1)) [
            | inl same ↦ absurd (none (subst (λ p. IsLookFor k n p) same (look, few)))
            | inr other ↦ omega (arith, before, other)
          ]) in
          absurd (omega (arith, sooner, low))
    ]

-- one line more that doesn't say what the component did itself
pub own_more : (trace : IndexedTrace) (component from place : ℕ) (line : IndexedLine) → LineAt trace place line
    → ((q : ℕ) → from ≤ q → q < place → IsOwnAt trace component q → ⊥) → (line.component ≡ component → is_own line.act ≡ true → ⊥)
    → (q : ℕ) → from ≤ q → q < place + 1 → IsOwnAt trace component q → ⊥
own_more trace component from place line here none other q low below own = elim (cases_lt q place) [
  | inl before ↦ none q low before own
  | inr past ↦
      let same : q ≡ place = omega (arith, past, below) in
      let is = same_Some line own.line (sym here ∙ ap (λ p. slice_get trace.lines.items p) (sym same) ∙ own.at) in
      other (ap (λ (l : IndexedLine). l.component) is ∙ own.within) (ap (λ (l : IndexedLine). is_own l.act) is ∙ own.is)
]

-- the line is ahead, and of this component
pub record IsAheadIn (h : TraceHistories) (progress : OrderProgress) (c place : ℕ) : Type 0 where
  pub within : c < length h.sections.items
  pub own : IsOwnAt h.trace.now c place
  pub from : slice_index progress.places.items c ≤ place
  pub below : slice_index progress.places.items c < length (kinds_in h c)

module _ (h : TraceHistories) (progress : OrderProgress) (stuck : IsStuckAt h progress) where
  abbrev trace : IndexedTrace
  trace = h.trace.now

  abbrev kinds : Kinds Mention
  kinds = kinds_in h

  abbrev at : ℕ → ℕ
  at c = slice_index progress.places.items c

  abbrev out : ℕ → ℕ
  out c = slice_index progress.sent.items c

  abbrev rank : ℕ → ℕ → ℕ
  rank c p = length (came_in (take p (kinds c)))

  -- lines and their kinds
  kind_comes : (c p : ℕ) (m : Mention) → slice_get (kinds c) p ≡ Some (kind.Came m) → ComesAt trace c p m
  kind_comes c p m stands =
      let l = line_of_kind trace h.sections.items c p (kind.Came m) stands (λ e. cc) in
      record { line = l.0; at = l.1; within = l.2; is = kind_came trace l.0.act m l.3 }

  comes_kind : (c p : ℕ) (m : Mention) → ComesAt trace c p m → slice_get (kinds c) p ≡ Some (kind.Came m)
  comes_kind c p m comes =
      there trace h.sections.items stuck.sections c p comes.line comes.at comes.within
      ∙ ap (λ a. Some (kind_of trace a)) comes.is.0
      ∙ ap (λ (b : Bool). let k : EntryKind Mention = if b then kind.Came m else kind.Nothing in Some k) (ap (λ o. unwrap_or o false) comes.is.1)

  kind_sends : (c p d : ℕ) (m : Mention) → slice_get (kinds c) p ≡ Some (kind.Sent d m)
      → (sent : IsSentAt trace p m) × (sent.line.component ≡ c) × IsJoined trace m.route × (slice_index trace.owners.items m.port ≡ d)
  kind_sends c p d m stands =
      let l = line_of_kind trace h.sections.items c p (kind.Sent d m) stands (λ e. cc) in
      let is = kind_sent trace l.0.act d m l.3 in
      (record { line = l.0; at = l.1; is = is.0 }, l.2, is.1, is.2)

  sends_kind : (s d : ℕ) (m : Mention) (sent : IsSentAt trace s m) → IsJoined trace m.route → slice_index trace.owners.items m.port ≡ d
      → slice_get (kinds sent.line.component) s ≡ Some (kind.Sent d m)
  sends_kind s d m sent joined for =
      there trace h.sections.items stuck.sections sent.line.component s sent.line sent.at refl
      ∙ ap (λ a. Some (kind_of trace a)) sent.is
      ∙ ap (λ (b : Bool). let k : EntryKind Mention = if b then kind.Sent (slice_index trace.owners.items m.port) m else kind.Quiet in Some k)
      (ap (λ o. unwrap_or o false) joined)
      ∙ ap (λ to. Some (kind.Sent to m)) for

  -- what comes, and its number
  comes_ranked : (d p : ℕ) (m : Mention) → ComesAt trace d p m → slice_get (came_in (kinds d)) (rank d p) ≡ Some m
  comes_ranked d p m comes = ranked came_of (kinds d) p (kind.Came m) m (comes_kind d p m comes) refl

  ranked_comes : (d n : ℕ) (m : Mention) → slice_get (came_in (kinds d)) n ≡ Some m → (p : ℕ) × ComesAt trace d p m × (rank d p ≡ n)
  ranked_comes d n m there =
      let found = unranked came_of (kinds d) n m there in
      (found.place, kind_comes d found.place m (found.at ∙ ap Some (came_is found.element m found.gives)), found.is)

  -- what the passed lines sent to a component are the first messages that come there
  passed_sent : (d p s : ℕ) (m : Mention) → ComesAt trace d p m → (sent : IsSentAt trace s m) → s < at sent.line.component → rank d p < out d
  passed_sent d p s m comes sent passed =
      let gone = stuck.state.gone.2.1 in
      let order = stuck.state.gone.2.0 in
      let c = sent.line.component in
      let stands : kind_at kinds (spot c s) ≡ Some (kind.Sent d m) = sends_kind s d m sent comes.is.1 (came_for trace d p m stuck.routed comes) in
      let listed = gone.each (spot c s) (record { act = kind.Sent d m; stands = stands; own = refl }) passed in
      let gives : sent_from kinds d (spot c s) ≡ Some m = ap (option_and_then (sent_of d)) stands ∙ sends_it d m in
      let n = rank_of (sent_from kinds d) order listed.0 in
      let among : slice_get (take (out d) (came_in (kinds d))) n ≡ Some m =
      ap (λ l. slice_get l n) (sym (gone.sent d)) ∙ ranked (sent_from kinds d) order listed.0 (spot c s) m listed.1 gives in
      let front = from_front (came_in (kinds d)) n (out d) m among in
      let other = ranked_comes d n m front.1 in
      let same = ap (rank d) (comes_once trace d d p other.0 m stuck.delivered comes other.1) in
      omega (arith, front.0, other.2, same)

  sent_passed : (d p s : ℕ) (m : Mention) → ComesAt trace d p m → (sent : IsSentAt trace s m) → rank d p < out d → s < at sent.line.component
  sent_passed d p s m comes sent few =
      let gone = stuck.state.gone.2.1 in
      let order = stuck.state.gone.2.0 in
      let n = rank d p in
      let among : slice_get (sent_by kinds d order) n ≡ Some m =
      ap (λ l. slice_get l n) (gone.sent d) ∙ in_front (came_in (kinds d)) n (out d) m few (comes_ranked d p m comes) in
      let found = unranked (sent_from kinds d) order n m among in
      let b = found.element in
      let low : b.place < at b.comp = gone.below found.place b found.at in
      let other = kind_sends b.comp b.place d m (given_is d (kind_at kinds b) m found.gives) in
      let same : b.place ≡ s = sent_once trace b.place s m stuck.delivered comes.is.1 other.0 sent in
      let line = same_Some other.0.line sent.line (sym other.0.at ∙ ap (λ q. slice_get trace.lines.items q) same ∙ sent.at) in
      let here : at b.comp ≡ at sent.line.component = ap at (sym other.1 ∙ ap (λ (l : IndexedLine). l.component) line) in
      omega (arith, low, same, here)

  -- what is due is sent by a line ahead, and what such a line sends is due
  pub due_ahead : (d s : ℕ) (m : Mention) → IsDue h progress d m → IsSentAt trace s m → IsAhead h progress s
  due_ahead d s m due sent = record {
    component = sent.line.component;
    own = record { line = sent.line; at = sent.at; within = refl; is = ap is_own sent.is };
    from = elim (cases_lt s (at sent.line.component)) [
      | inr from ↦ from
      | inl passed ↦
          let few = passed_sent d due.place s m due.comes sent passed in
          let after = due.after in
          absurd (omega (arith, few, after))
    ];
  }

  pub sending_due : (c d : ℕ) (m : Mention) → slice_get (kinds c) (at c) ≡ Some (kind.Sent d m) → IsDue h progress d m
  sending_due c d m stands =
      let k = kind_sends c (at c) d m stands in
      let comes = comes_there trace d (at c) m stuck.routed stuck.delivered k.2 k.3 k.0 in
      record {
        place = comes.0;
        comes = comes.1;
        after = elim (cases_lt (rank d comes.0) (out d)) [
          | inr after ↦ after
          | inl few ↦
              let passed = sent_passed d comes.0 (at c) m comes.1 k.0 few in
              let here = ap at k.1 in
              absurd (omega (arith, passed, here))
        ];
      }

  pub coming_due : (c : ℕ) (m : Mention) → slice_get (kinds c) (at c) ≡ Some (kind.Came m) → IsDue h progress c m
  coming_due c m stands = record {
    place = at c;
    comes = kind_comes c (at c) m stands;
    after =
        let known = stuck.state.gone.2.1.known c in
        elim (cases_lt (slice_index progress.came.items c) (out c)) [
          | inl less ↦ absurd (stuck.state.stuck c (kind.Came m) stands less)
          | inr most ↦ omega (arith, known, most)
        ];
  }

  pub next_due : (d : ℕ) (m : Mention) → slice_get (came_in (kinds d)) (out d) ≡ Some m → IsDue h progress d m
  next_due d m next =
      let comes = ranked_comes d (out d) m next in
      record { place = comes.0; comes = comes.1; after = omega (arith, comes.2) }

  -- where a message is due one is next
  pub due_next : (d : ℕ) (m : Mention) → IsDue h progress d m → (n : Mention) × (slice_get (came_in (kinds d)) (out d) ≡ Some n)
  due_next d m due =
      let low = slice_get_within (came_in (kinds d)) (rank d due.place) m (comes_ranked d due.place m due.comes) in
      let after = due.after in
      slice_there (came_in (kinds d)) (out d) (omega (arith, low, after))

  pub due_within : (d : ℕ) (m : Mention) → IsDue h progress d m → d < length h.sections.items
  due_within d m due =
      let low = component_below trace due.place due.comes.line stuck.within due.comes.at in
      let here = due.comes.within in
      let size = stuck.sections.size in
      omega (arith, low, here, size)

  -- the next message was sent before the others
  pub turn_demanded : (d t s : ℕ) (n m : Mention) → slice_get (came_in (kinds d)) (out d) ≡ Some n → IsDue h progress d m → (n ≡ m → ⊥)
      → IsSentAt trace t n → IsSentAt trace s m → IsDemanded trace t s
  turn_demanded d t s n m next due other first second =
      let comes = ranked_comes d (out d) n next in
      let j = comes.0 in
      let k = due.place in
      let after = due.after in
      let before : j < k = elim (cases_order j k) [
        | inl same ↦ absurd (other (comes_same trace d d j k n m comes.1 due.comes same))
        | inr apart ↦ elim apart [
          | inl low ↦ low
          | inr high ↦
              let less = rank_rises came_of (kinds d) k j (kind.Came m) m high (comes_kind d k m due.comes) refl in
              absurd (omega (arith, less, comes.2, after))
        ]
      ] in
      (k, in_turn d j k t s n m before comes.1 first due.comes second)

  -- and a look before it comes was before that
  look_demanded : (d q s : ℕ) (m : Mention) → slice_get (came_in (kinds d)) (out d) ≡ Some m → IsLookAt trace d q
      → rank d q ≤ out d → IsSentAt trace s m → IsDemanded trace q s
  look_demanded d q s m next look few sent =
      let comes = ranked_comes d (out d) m next in
      let j = comes.0 in
      let stands = comes_kind d j m comes.1 in
      let before : q < j = elim (cases_order q j) [
        | inl same ↦ absurd (own_not_come trace d d j m (subst (λ p. IsOwnAt trace d p) same (look_is_own trace d q look)) comes.1)
        | inr apart ↦ elim apart [
          | inl low ↦ low
          | inr high ↦
              let less = rank_rises came_of (kinds d) j q (kind.Came m) m high stands refl in
              absurd (omega (arith, less, comes.2, few))
        ]
      ] in
      (j, unseen_before d q j s m before look comes.1 sent)

  -- the cursor of the component is after the last of them
  pub look_holds : (d : ℕ) (n m : Mention) (cursors : List ArrivalCursor) (cursor : ArrivalCursor) → IsDue h progress d m
      → length cursors ≡ length h.sections.items → cursor ≡ get_or cursors d cursor → HasPassedLooks (kinds d) (out d) cursors d
      → Some n ≡ slice_get (came_in (kinds d)) (out d) → n ≡ m
      → (MaySend kinds (slice_index progress.places.items) (slice_index progress.sent.items) m d → ⊥)
      → (0 < cursor.after) × IsAhead h progress (cursor.after - 1) × ((s : ℕ) → IsSentAt trace s m → IsDemanded trace (cursor.after - 1) s)
  look_holds d n m cursors cursor due size read passed is same held =
      let within = due_within d m due in
      let next : slice_get (came_in (kinds d)) (out d) ≡ Some m = sym is ∙ ap Some same in
      let looks = passed cursor (slice_get_read cursors (length cursors) d cursor refl (omega (arith, within, size)) read) in
      let q = cursor.after - 1 in
      let last = last_look (kinds d) (out d) (at d) cursor.after looks (λ all. held (next, all)) in
      let l = line_of_kind trace h.sections.items d q kind.Looked last.1 (λ e. cc) in
      let look : IsLookAt trace d q = record { line = l.0; at = l.1; within = l.2; is = looks_of trace l.0.act l.3 } in (
        omega (arith, last.0),
        record { component = d; own = look_is_own trace d q look; from = omega (arith, last.0) },
        λ s sent. look_demanded d q s m next look last.2 sent,
      )

  -- what holds a component back
  pub came_holds : (c s : ℕ) (m : Mention) → slice_get (kinds c) (at c) ≡ Some (kind.Came m) → IsSentAt trace s m → HoldsBack h progress s c
  came_holds c s m stands sent =
      let comes = kind_comes c (at c) m stands in
      record {
        ahead = due_ahead c s m (coming_due c m stands) sent;
        before = λ next is.
            let low = is.low in
            let apart : at c ≡ next → ⊥ = λ same. own_not_come trace c c next m is.own (subst (λ p. ComesAt trace c p m) same comes) in
            (next, seen_before c (at c) next s m (omega (arith, low, apart)) comes sent is.own);
      }

  pub sent_holds : (c d x : ℕ) (m : Mention) → slice_get (kinds c) (at c) ≡ Some (kind.Sent d m) → IsAhead h progress x
      → ((s : ℕ) → IsSentAt trace s m → IsDemanded trace x s) → HoldsBack h progress x c
  sent_holds c d x m stands ahead demanded =
      let k = kind_sends c (at c) d m stands in
      let here : IsOwnAt trace c (at c) = record { line = k.0.line; at = k.0.at; within = k.1; is = ap is_own k.0.is } in
      record {
        ahead = ahead;
        before = λ next is. elim (cases_eq (at c) next) [
          | inl same ↦ subst (λ p. IsDemanded trace x p) same (demanded (at c) k.0)
          | inr other ↦
              let low = is.low in
              absurd (is.none (at c) (omega arith) (omega (arith, low, other)) here)
        ];
      }

  -- a look is no such place
  pub no_look : (c : ℕ) → slice_get (kinds c) (at c) ≡ Some kind.Looked → ⊥
  no_look c stands =
      let known = stuck.state.gone.2.1.known c in
      let most = stuck.state.gone.2.1.most c in
      elim (cases_lt (slice_index progress.came.items c) (out c)) [
        | inl less ↦
            let low : at c < at c = stuck.state.gone.2.2.looked c (at c) stands (omega (arith, known, less)) in
            omega (arith, low)
        | inr full ↦ stuck.state.stuck c kind.Looked stands (omega (arith, most, full))
      ]

  -- what is known of the component of a line ahead
  pub ahead_at : (place : ℕ) (line : IndexedLine) → IsAhead h progress place → LineAt trace place line → IsAheadIn h progress line.component place
  ahead_at place line ahead here =
      let own = ahead.own in
      let component : ahead.component ≡ line.component =
      sym own.within ∙ ap (λ (l : IndexedLine). l.component) (same_Some own.line line (sym own.at ∙ here)) in
      let low = component_below trace place line stuck.within here in
      let from = ahead.from in
      let same = ap at component in
      let end = slice_get_within (kinds line.component) place (kind_of trace line.act)
      (there trace h.sections.items stuck.sections line.component place line here refl) in
      let size = stuck.sections.size in
      record {
        within = omega (arith, low, size);
        own = subst (λ c. IsOwnAt trace c place) component own;
        from = omega (arith, from, same);
        below = omega (arith, from, same, end);
      }
