-- Each message of a lawful route is sent by one component.
use Rattle.std.proofs.Common.{◌≡◌, ℕ, zero, suc, ◌==◌, ◌&&◌, Bool, true, false, Some, List, [], ◌∷◌, refl, sym, ap, ◌∙◌, subst, if◌then◌else◌}
use Rattle.std.proofs.Common.{eq-eqb}
use Rattle.std.specs.Prelude.{slice_get, slice_index}
use Rattle.std.proofs.lemmas.Bool.{and_from, and_parts, eqb-true, false≢true}
use Rattle.std.proofs.lemmas.Option.{none-some, same_Some}
use Rattle.tp_judge.specs.declared.kind.EntryKind.{EntryKind}
use Rattle.tp_judge.specs.declared.kind.EntryKind.TheVariants as kind
use Rattle.tp_judge.specs.declared.line.Act.{Act}
use Rattle.tp_judge.specs.declared.line.Act.TheVariants as act
use Rattle.tp_judge.specs.declared.line.Mention.{Mention}
use Rattle.tp_judge.specs.declared.line.IndexedLine.{IndexedLine}
use Rattle.tp_judge.specs.declared.sections.Section.{Section}
use Rattle.tp_judge.specs.declared.trace.IndexedTrace.{IndexedTrace}
use Rattle.tp_judge.specs.Delivered.{Delivered, IsJoined}
use Rattle.tp_judge.specs.Kinds.{AreOwned}
use Rattle.tp_judge.specs.OneRun.{LineAt, is_joined}
use Rattle.tp_judge.specs.Sendings.{sent_parcel}
use Rattle.tp_judge.specs.TraceKinds.{kind_of, kinds_of}
use Rattle.tp_judge.proofs.RanksOfGivenElements.{rank_of, same_rank}
use Rattle.tp_judge.proofs.SendingOfEachArrival.{sent_gives, sent_number, true_there}
use Rattle.tp_judge.proofs.TraceRunsByKinds.{line_of_kind}

-- whether the line sends on the message's route under its number
sends_such : Mention → Act → Bool
sends_such m (act.Sent n) = (n.route == m.route) && (n.parcel.number == m.parcel.number)
sends_such m _ = false

-- the component of the first such line
owner_in : Mention → List IndexedLine → ℕ
owner_in m [] = 0
owner_in m (line ∷ lines) = if sends_such m line.act then line.component else owner_in m lines

such_sent : (m : Mention) (a : Act) → sends_such m a ≡ true
    → (n : Mention) × (a ≡ act.Sent n) × (n.route ≡ m.route) × (n.parcel.number ≡ m.parcel.number)
unfolding sends_such
such_sent m (act.Sent n) is =
    let both = and_parts (n.route == m.route) (n.parcel.number == m.parcel.number) is in
    (n, refl, eqb-true n.route m.route both.0, eqb-true n.parcel.number m.parcel.number both.1)
such_sent m _ is = absurd (false≢true is)

sent_such : (m : Mention) (a : Act) → a ≡ act.Sent m → sends_such m a ≡ true
unfolding sends_such
sent_such m a is =
    ap (sends_such m) is
    ∙ and_from (m.route == m.route) (m.parcel.number == m.parcel.number) (eq-eqb m.route m.route refl) (eq-eqb m.parcel.number m.parcel.number refl)

by_test : (m : Mention) (line : IndexedLine) (lines : List IndexedLine) (c : ℕ) (b : Bool) → sends_such m line.act ≡ b
    → (b ≡ true → line.component ≡ c) → (b ≡ false → owner_in m lines ≡ c) → owner_in m (line ∷ lines) ≡ c
unfolding owner_in
by_test m line lines c true is one other =
    ap (λ (b : Bool). if b then line.component else owner_in m lines) is ∙ one refl
by_test m line lines c false is one other =
    ap (λ (b : Bool). if b then line.component else owner_in m lines) is ∙ other refl

-- it is the component of each such line, where all of them are of one
owner_is : (m : Mention) (c : ℕ) (lines : List IndexedLine)
    → ((q : ℕ) (l : IndexedLine) → slice_get lines q ≡ Some l → sends_such m l.act ≡ true → l.component ≡ c)
    → (p : ℕ) (line : IndexedLine) → slice_get lines p ≡ Some line → sends_such m line.act ≡ true → owner_in m lines ≡ c
owner_is m c [] all p line at such = absurd (none-some line at)
owner_is m c (l ∷ lines) all zero line at such =
    by_test m l lines c (sends_such m l.act) refl (λ is. all 0 l refl is)
    (λ none. absurd (false≢true (sym none ∙ ap (λ (x : IndexedLine). sends_such m x.act) (same_Some l line at) ∙ such)))
owner_is m c (l ∷ lines) all (suc p) line at such =
    by_test m l lines c (sends_such m l.act) refl (λ is. all 0 l refl is)
    (λ none. owner_is m c lines (λ q x there is. all (suc q) x there is) p line at such)

sent_joined : (b : Bool) (n m : Mention) (d e : ℕ) → (let k : EntryKind Mention = if b then kind.Sent e n else kind.Quiet in k) ≡ kind.Sent d m
    → (b ≡ true) × (n ≡ m) × (e ≡ d)
sent_joined true n m d e is =
    let same : n ≡ m = cc in
    let to : e ≡ d = cc in
    (refl, same, to)
sent_joined false n m d e is = absurd (cc)

came_unsent : (b : Bool) (n m : Mention) (d : ℕ) → (let k : EntryKind Mention = if b then kind.Came n else kind.Nothing in k) ≡ kind.Sent d m → ⊥
came_unsent true n m d is = cc
came_unsent false n m d is = cc

-- what the kind sends, the line sends on a route whose ends both have a section
pub kind_sent : (trace : IndexedTrace) (a : Act) (d : ℕ) (m : Mention) → kind_of trace a ≡ kind.Sent d m
    → (a ≡ act.Sent m) × IsJoined trace m.route × (slice_index trace.owners.items m.port ≡ d)
kind_sent trace (act.Sent n) d m is =
    let all = sent_joined (is_joined trace n) n m d (slice_index trace.owners.items n.port) is in (
      ap act.Sent all.1,
      subst (λ (x : Mention). IsJoined trace x.route) all.1 (true_there (slice_get trace.joined.items n.route) all.0),
      ap (λ (x : Mention). slice_index trace.owners.items x.port) (sym all.1) ∙ all.2,
    )
kind_sent trace (act.Came n) d m is = absurd (came_unsent (is_joined trace n) n m d is)
kind_sent trace (act.Left n) d m is = absurd (cc)
kind_sent trace act.End d m is = absurd (cc)
kind_sent trace act.Other d m is = absurd (cc)
kind_sent trace _ d m is = absurd (cc)

-- no other line sends such a message
one_sends : (trace : IndexedTrace) (p q : ℕ) (line l : IndexedLine) (m : Mention) → Delivered trace → IsJoined trace m.route
    → LineAt trace p line → line.act ≡ act.Sent m → LineAt trace q l → sends_such m l.act ≡ true → l.component ≡ line.component
one_sends trace p q line l m delivered joined at is there such =
    let n = such_sent m l.act such in
    let lines = trace.lines.items in
    let route = n.2 in
    let first = sent_number trace p m delivered joined (record { line = line; at = at; is = is }) in
    let second = sent_number trace q n.0 delivered (subst (IsJoined trace) (sym route) joined) (record { line = l; at = there; is = n.1 }) in
    let gives = subst (λ r. sent_parcel r l.act ≡ Some n.0.parcel) route (sent_gives n.0 l.act n.1) in
    let rank = ap (λ r. rank_of (λ (x : IndexedLine). sent_parcel r x.act) lines q) route in
    let same = same_rank (λ (x : IndexedLine). sent_parcel m.route x.act) lines p q line l m.parcel n.0.parcel at there
    (sent_gives m line.act is) gives (sym first ∙ sym n.3 ∙ second ∙ rank) in
    ap (λ (x : IndexedLine). x.component) (same_Some l line (sym there ∙ ap (slice_get lines) (sym same) ∙ at))

pub mentions_owned : (trace : IndexedTrace) (sections : List Section) → Delivered trace → AreOwned (kinds_of trace sections)
mentions_owned trace sections delivered = (
  λ m. owner_in m trace.lines.items,
  λ c p d m at.
      let h = line_of_kind trace sections c p (kind.Sent d m) at (λ e. cc) in
      let sent = kind_sent trace h.0.act d m h.3 in
      owner_is m c trace.lines.items
      (λ q l there such. one_sends trace p q h.0 l m delivered sent.1 h.1 sent.0 there such ∙ h.2)
      p h.0 h.1 (sent_such m h.0.act sent.0),
)
