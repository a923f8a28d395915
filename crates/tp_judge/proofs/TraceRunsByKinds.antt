-- The lines of a trace have an order exactly where their kinds have one.
use Rattle.std.proofs.Common.{◌≡◌, inl, inr, ℕ, zero, suc, ◌+◌, ◌<◌, ◌≤◌, ◌==◌, ◌&&◌, Bool, true, false, cond, Option, Some, None, List, [], ◌∷◌}
use Rattle.std.proofs.Common.{◌++◌, length, map, take, drop, refl, sym, ap, ◌∙◌, subst, arith, if◌then◌else◌, eq-eqb}
use Rattle.std.specs.Prelude.{slice_get, slice_index, option_and_then, ◌↔◌}
use Rattle.std.specs.List.{cons_option, filter_map}
use Rattle.std.proofs.lemmas.Bool.{cases_eq, cases_lt, eqb-true, false≢true, ne_eqb}
use Rattle.std.proofs.lemmas.List.{append-nil, take-append-drop, take-map, take-take, take_all}
use Rattle.std.proofs.lemmas.List.Elements.{filter_map-append}
use Rattle.std.proofs.lemmas.Option.{none-some, same_Some, slice_get_within}
use Rattle.tp_judge.specs.declared.kind.EntryKind.{EntryKind}
use Rattle.tp_judge.specs.declared.kind.EntryKind.TheVariants as kind
use Rattle.tp_judge.specs.declared.line.Act.{Act}
use Rattle.tp_judge.specs.declared.line.Act.TheVariants as act
use Rattle.tp_judge.specs.declared.line.Mention.{Mention}
use Rattle.tp_judge.specs.declared.line.IndexedLine.{IndexedLine}
use Rattle.tp_judge.specs.declared.sections.Section.{Section}
use Rattle.tp_judge.specs.declared.trace.IndexedTrace.{IndexedTrace}
use Rattle.tp_judge.specs.OneOrder.{HasOneOrder, Histories}
use Rattle.tp_judge.specs.Kinds.{IsOwn, Kinds, Spot, came_in, came_of, is_own as is_own_kind, kind_at, sent_from as sent_at, sent_of}
use Rattle.tp_judge.specs.Kinds.{histories_of as histories_by}
use Rattle.tp_judge.specs.OneRun.{IsLookAt, IsOneRun, IsOwnAt, LineAt, all_came_to, came_mention, came_to, component_at, component_of}
use Rattle.tp_judge.specs.OneRun.{histories_of, is_joined, is_looking, is_own, kept_for, sent_from, sent_mention, sent_to}
use Rattle.tp_judge.specs.TraceKinds.{AreSections, kind_in, kind_of, kinds_of, section_at}
use Rattle.tp_judge.proofs.RanksOfGivenElements.{from_front}
use Rattle.tp_judge.proofs.RenamedHistories.{AreRenamed, map_at, one_order_renamed, same_given}
use Rattle.tp_judge.proofs.SpotOrderGrowth.{spot, spot_is}
use Rattle.tp_judge.proofs.TraceSections.{kind_there}

-- what the kinds of acts say of them
own_test : (b : Bool) (d : ℕ) (m : Mention) → is_own_kind (let k : EntryKind Mention = if b then kind.Sent d m else kind.Quiet in k) ≡ true
own_test true d m = refl
own_test false d m = refl

alien_test : (b : Bool) (m : Mention) → is_own_kind (let k : EntryKind Mention = if b then kind.Came m else kind.Nothing in k) ≡ false
alien_test true m = refl
alien_test false m = refl

own_is : (trace : IndexedTrace) (a : Act) → is_own_kind (kind_of trace a) ≡ is_own a
own_is trace (act.Sent m) = own_test (is_joined trace m) (slice_index trace.owners.items m.port) m
own_is trace (act.Came m) = alien_test (is_joined trace m) m
own_is trace _ = refl

sent_no_look : (b : Bool) (d : ℕ) (m : Mention) → (let k : EntryKind Mention = if b then kind.Sent d m else kind.Quiet in k) ≡ kind.Looked → ⊥
sent_no_look true d m is = cc
sent_no_look false d m is = cc

came_no_look : (b : Bool) (m : Mention) → (let k : EntryKind Mention = if b then kind.Came m else kind.Nothing in k) ≡ kind.Looked → ⊥
came_no_look true m is = cc
came_no_look false m is = cc

pub looks_of : (trace : IndexedTrace) (a : Act) → kind_of trace a ≡ kind.Looked → is_looking a ≡ true
looks_of trace (act.Sent m) is = absurd (sent_no_look (is_joined trace m) (slice_index trace.owners.items m.port) m is)
looks_of trace (act.Came m) is = absurd (came_no_look (is_joined trace m) m is)
looks_of trace (act.Left m) is = absurd (cc)
looks_of trace act.End is = absurd (cc)
looks_of trace act.Other is = absurd (cc)
looks_of trace _ is = refl

look_of : (trace : IndexedTrace) (a : Act) → is_looking a ≡ true → kind_of trace a ≡ kind.Looked
look_of trace (act.Sent m) is = absurd (false≢true is)
look_of trace (act.Came m) is = absurd (false≢true is)
look_of trace (act.Left m) is = absurd (false≢true is)
look_of trace act.End is = absurd (false≢true is)
look_of trace act.Other is = absurd (false≢true is)
look_of trace _ is = refl

-- what a line sends, by its kind
swapped : (x y : ℕ) → (x == y) ≡ (y == x)
swapped x y = elim (cases_eq x y) [
  | inl same ↦ eq-eqb x y same ∙ sym (eq-eqb y x (sym same))
  | inr other ↦ ne_eqb x y other ∙ sym (ne_eqb y x (λ e. other (sym e)))
]

sent_test : (b : Bool) (c d : ℕ) (m : Mention) → cond (b && (d == c)) (Some m) None
    ≡ sent_of c (let k : EntryKind Mention = if b then kind.Sent d m else kind.Quiet in k)
sent_test true c d m = ap (λ (t : Bool). let o : Option Mention = cond t (Some m) None in o) (swapped d c)
sent_test false c d m = refl

sent_is : (trace : IndexedTrace) (c : ℕ) (a : Act)
    → option_and_then (λ m. kept_for trace c (slice_index trace.owners.items m.port) m) (sent_mention a) ≡ sent_of c (kind_of trace a)
sent_is trace c (act.Sent m) = sent_test (is_joined trace m) c (slice_index trace.owners.items m.port) m
sent_is trace c (act.Came m) = elim (is_joined trace m) as (λ b. (let o : Option Mention = None in o) ≡ sent_of c (let k : EntryKind Mention = if b then kind.Came m else kind.Nothing in k)) [ true ↦ refl | false ↦ refl ]
sent_is trace c _ = refl

-- and what came by it
came_test : (b t : Bool) (m : Mention) → cond (b && t) (Some m) None
    ≡ came_of (let k : EntryKind Mention = if t then (if b then kind.Came m else kind.Nothing) else kind.Nothing in k)
came_test true true m = refl
came_test true false m = refl
came_test false true m = refl
came_test false false m = refl

none_test : (t : Bool) (k : EntryKind Mention) → came_of k ≡ None
    → (let o : Option Mention = None in o) ≡ came_of (let e : EntryKind Mention = if t then k else kind.Nothing in e)
none_test true k none = sym none
none_test false k none = refl

came_is : (trace : IndexedTrace) (c component : ℕ) (a : Act)
    → option_and_then (λ m. kept_for trace c component m) (came_mention a)
    ≡ came_of (let k : EntryKind Mention = if component == c then kind_of trace a else kind.Nothing in k)
came_is trace c component (act.Came m) = came_test (is_joined trace m) (component == c) m
came_is trace c component (act.Sent m) =
    none_test (component == c) (kind_of trace (act.Sent m))
    (elim (is_joined trace m) as (λ b. came_of (let k : EntryKind Mention = if b then kind.Sent (slice_index trace.owners.items m.port) m else kind.Quiet in k) ≡ None) [ true ↦ refl | false ↦ refl ])
came_is trace c component (act.Took m) = none_test (component == c) (kind_of trace (act.Took m)) refl
came_is trace c component (act.Found m) = none_test (component == c) (kind_of trace (act.Found m)) refl
came_is trace c component (act.Dropped m) = none_test (component == c) (kind_of trace (act.Dropped m)) refl
came_is trace c component (act.Left m) = none_test (component == c) (kind_of trace (act.Left m)) refl
came_is trace c component (act.Cleared p) = none_test (component == c) (kind_of trace (act.Cleared p)) refl
came_is trace c component (act.Started p) = none_test (component == c) (kind_of trace (act.Started p)) refl
came_is trace c component (act.Stopped p) = none_test (component == c) (kind_of trace (act.Stopped p)) refl
came_is trace c component (act.Halted p) = none_test (component == c) (kind_of trace (act.Halted p)) refl
came_is trace c component act.Else = none_test (component == c) (kind_of trace act.Else) refl
came_is trace c component act.End = none_test (component == c) (kind_of trace act.End) refl
came_is trace c component act.Other = none_test (component == c) (kind_of trace act.Other) refl

none_given : {X Y : Type 0} (f : X → Option Y) (xs : List X) → ((i : ℕ) (x : X) → slice_get xs i ≡ Some x → f x ≡ None) → filter_map f xs ≡ []
none_given f [] none = refl
none_given f (x ∷ xs) none =
    ap (λ o. cons_option o (filter_map f xs)) (none 0 x refl) ∙ none_given f xs (λ i y at. none (suc i) y at)

from_drop : {X : Type 0} (xs : List X) (n i : ℕ) (x : X) → slice_get (drop n xs) i ≡ Some x → slice_get xs (n + i) ≡ Some x
from_drop xs zero i x at = let e : 0 + i ≡ i = omega arith in ap (slice_get xs) e ∙ at
from_drop [] (suc n) i x at = absurd (none-some x at)
from_drop (y ∷ xs) (suc n) i x at = let e : suc n + i ≡ suc (n + i) = omega arith in ap (slice_get (y ∷ xs)) e ∙ from_drop xs n i x at

-- the line of a component is its own kind in its history
in_own : (trace : IndexedTrace) (c : ℕ) (line : IndexedLine) → line.component ≡ c → kind_in trace c line ≡ kind_of trace line.act
in_own trace c line same =
    ap (λ (b : Bool). let k : EntryKind Mention = if b then kind_of trace line.act else kind.Nothing in k) (eq-eqb line.component c same)

in_other : (trace : IndexedTrace) (c : ℕ) (line : IndexedLine) → (line.component ≡ c → ⊥) → kind_in trace c line ≡ kind.Nothing
in_other trace c line other =
    ap (λ (b : Bool). let k : EntryKind Mention = if b then kind_of trace line.act else kind.Nothing in k) (ne_eqb line.component c other)

-- the line of what stands in a history
pub line_of_kind : (trace : IndexedTrace) (sections : List Section) (c q : ℕ) (e : EntryKind Mention) → slice_get (kinds_of trace sections c) q ≡ Some e
    → (e ≡ kind.Nothing → ⊥) → (line : IndexedLine) × LineAt trace q line × (line.component ≡ c) × (kind_of trace line.act ≡ e)
line_of_kind trace sections c q e at some =
    let f = from_front (map (kind_in trace c) trace.lines.items) q (section_at sections c).end e at in
    let m = map_at (kind_in trace c) trace.lines.items q e f.1 in
    elim (cases_eq m.0.component c) [
      | inl same ↦ (m.0, m.1, same, sym (in_own trace c m.0 same) ∙ m.2)
      | inr other ↦ absurd (some (sym m.2 ∙ in_other trace c m.0 other))
    ]

module _ (trace : IndexedTrace) (sections : List Section) (are : AreSections trace (length trace.lines.items) sections) where
  abbrev kinds : Kinds Mention
  kinds = kinds_of trace sections

  abbrev end : ℕ → ℕ
  end c = (section_at sections c).end

  -- a line of a component is before the end of its section
  low_line : (c p : ℕ) (line : IndexedLine) → LineAt trace p line → line.component ≡ c → p < end c
  low_line c p line at same =
      let h = are.lines p line (slice_get_within trace.lines.items p line at) at in
      let P : ℕ → Type 0 = λ x. p < end x in
      subst P same h.1

  pub there : (c p : ℕ) (line : IndexedLine) → LineAt trace p line → line.component ≡ c → slice_get (kinds c) p ≡ Some (kind_of trace line.act)
  there c p line at same =
      kind_there trace sections c p line at (low_line c p line at same) ∙ ap Some (in_own trace c line same)

  abbrev place_of : Spot → ℕ
  place_of a = a.place

  abbrev spot_of : ℕ → Spot
  spot_of p = spot (component_at trace p) p

  own_there : (p : ℕ) → IsOwnAt trace (component_at trace p) p → IsOwn kinds (spot_of p)
  own_there p own = record {
    act = kind_of trace own.line.act;
    stands = there (component_at trace p) p own.line own.at own.within;
    own = own_is trace own.line.act ∙ own.is;
  }

  component_is : (p : ℕ) (line : IndexedLine) → LineAt trace p line → component_at trace p ≡ line.component
  component_is p line at = ap component_of at

  nothing_alien : (e : EntryKind Mention) → is_own_kind e ≡ true → e ≡ kind.Nothing → ⊥
  nothing_alien e own none = false≢true (sym (ap is_own_kind none) ∙ own)

  own_here : (a : Spot) → IsOwn kinds a → (component_at trace a.place ≡ a.comp) × IsOwnAt trace (component_at trace a.place) a.place
  own_here a own =
      let h = line_of_kind trace sections a.comp a.place own.act own.stands (nothing_alien own.act own.own) in
      let component = component_is a.place h.0 h.1 in (
        component ∙ h.2,
        record { line = h.0; at = h.1; within = sym component; is = sym (own_is trace h.0.act) ∙ ap is_own_kind h.3 ∙ own.own },
      )

  look_there : (p : ℕ) → IsLookAt trace (component_at trace p) p → kind_at kinds (spot_of p) ≡ Some kind.Looked
  look_there p look =
      there (component_at trace p) p look.line look.at look.within ∙ ap Some (look_of trace look.line.act look.is)

  look_here : (p : ℕ) → kind_at kinds (spot_of p) ≡ Some kind.Looked → IsLookAt trace (component_at trace p) p
  look_here p look =
      let h = line_of_kind trace sections (component_at trace p) p kind.Looked look (λ e. cc) in
      record { line = h.0; at = h.1; within = h.2; is = looks_of trace h.0.act h.3 }

  sent_same : (c p : ℕ) → IsOwnAt trace (component_at trace p) p → sent_from trace c p ≡ sent_at kinds c (spot_of p)
  sent_same c p own =
      ap (option_and_then (sent_to trace c)) own.at ∙ sent_is trace c own.line.act
      ∙ sym (ap (option_and_then (sent_of c)) (there (component_at trace p) p own.line own.at own.within))

  -- what the lines bring, by their kinds
  came_there : (c : ℕ) (lines : List IndexedLine) → filter_map (came_to trace c) lines ≡ came_in (map (kind_in trace c) lines)
  came_there c lines = same_given (kind_in trace c) (came_to trace c) came_of lines (λ i line at. came_is trace c line.component line.act)

  before_same : (p : ℕ) → IsOwnAt trace (component_at trace p) p → all_came_to trace (component_at trace p) p
      ≡ came_in (take p (kinds (component_at trace p)))
  before_same p own =
      let c = component_at trace p in
      let low : p < end c = low_line c p own.line own.at own.within in
      came_there c (take p trace.lines.items)
      ∙ ap came_in (sym (take-map (kind_in trace c) p trace.lines.items)
      ∙ sym (take-take p (end c) (map (kind_in trace c) trace.lines.items) (omega (arith, low))))

  came_same : (c : ℕ) → all_came_to trace c (length trace.lines.items) ≡ came_in (kinds c)
  came_same c =
      let lines = trace.lines.items in
      let rest = drop (end c) lines in
      let none : filter_map (came_to trace c) rest ≡ [] = came_there c rest ∙ none_given came_of (map (kind_in trace c) rest) (λ i e at.
      let m = map_at (kind_in trace c) rest i e at in
      let line_at : LineAt trace (end c + i) m.0 = from_drop lines (end c) i m.0 m.1 in
      let away : m.0.component ≡ c → ⊥ = λ same. let low = low_line c (end c + i) m.0 line_at same in omega (arith, low) in
      ap came_of (sym m.2 ∙ in_other trace c m.0 away)) in
      ap (filter_map (came_to trace c)) (take_all (length lines) lines (omega arith) ∙ sym (take-append-drop (end c) lines))
      ∙ filter_map-append (came_to trace c) (take (end c) lines) rest
      ∙ ap (λ l. filter_map (came_to trace c) (take (end c) lines) ++ l) none ∙ append-nil (filter_map (came_to trace c) (take (end c) lines))
      ∙ came_there c (take (end c) lines) ∙ ap came_in (sym (take-map (kind_in trace c) (end c) lines))

  lines_renamed : AreRenamed (histories_of trace) (histories_by kinds) spot_of place_of
  lines_renamed = record {
    own = own_there;
    other = λ a own. let h = own_here a own in (h.1, sym (spot_is a (component_at trace a.place) a.place (sym h.0) refl));
    back = λ p own. refl;
    component = λ p own. refl;
    earlier = λ a b earlier one two.
        ((own_here a one).0 ∙ earlier.0 ∙ sym (own_here b two).0, earlier.1);
    look = λ p own look. look_here p look;
    sent_to = sent_same;
    came_before = before_same;
    came = came_same;
  }

  spots_renamed : AreRenamed (histories_by kinds) (histories_of trace) place_of spot_of
  spots_renamed = record {
    own = λ a own. (own_here a own).1;
    other = λ p own. (own_there p own, refl);
    back = λ a own. sym (spot_is a (component_at trace a.place) a.place (sym (own_here a own).0) refl);
    component = λ a own. sym (own_here a own).0;
    earlier = λ p q earlier one two. earlier;
    look = λ a own look.
        let same = sym (spot_is a (component_at trace a.place) a.place (sym (own_here a own).0) refl) in
        subst (λ (b : Spot). kind_at kinds b ≡ Some kind.Looked) same (look_there a.place look);
    sent_to = λ c a own.
        let h = own_here a own in
        let same = spot_is a (component_at trace a.place) a.place (sym h.0) refl in
        ap (sent_at kinds c) same ∙ sym (sent_same c a.place h.1);
    came_before = λ a own.
        let h = own_here a own in
        ap (λ c. came_in (take a.place (kinds c))) (sym h.0) ∙ sym (before_same a.place h.1);
    came = λ c. sym (came_same c);
  }

  pub one_run_by_kinds : HasOneOrder (histories_by kinds) ↔ IsOneRun trace
  one_run_by_kinds = (
    one_order_renamed (histories_by kinds) (histories_of trace) place_of spot_of spots_renamed,
    one_order_renamed (histories_of trace) (histories_by kinds) spot_of place_of lines_renamed,
  )
