-- The ends of each section, line by line.
use Rattle.std.proofs.Common.{◌≡◌, inl, inr, ℕ, ◌+◌, ◌<◌, ◌≤◌, ◌==◌, Bool, true, false, Some, List, length, set, map, take}
use Rattle.std.proofs.Common.{get_or, replicate, sym, ap, ◌∙◌, subst, arith, if◌then◌else◌}
use Rattle.std.specs.Prelude.{slice_get}
use Rattle.std.proofs.lemmas.Bool.{cases_eq, cases_lt, ne_eqb}
use Rattle.std.proofs.lemmas.List.{get_or_default, get_or_past, get_or-replicate, get_or-set_same, get_or-set_other, length-map, length-replicate}
use Rattle.std.proofs.lemmas.List.{length-set, length-take-le}
use Rattle.std.proofs.lemmas.Option.{same_Some, slice_get-get_or}
use Rattle.tp_judge.specs.declared.kind.EntryKind.{EntryKind}
use Rattle.tp_judge.specs.declared.kind.EntryKind.TheVariants as kind
use Rattle.tp_judge.specs.declared.line.Mention.{Mention}
use Rattle.tp_judge.specs.declared.line.IndexedLine.{IndexedLine}
use Rattle.tp_judge.specs.declared.line.By.TheVariants as by
use Rattle.tp_judge.specs.declared.sections.Section.{Section}
use Rattle.tp_judge.specs.declared.trace.IndexedTrace.{IndexedTrace}
use Rattle.tp_judge.specs.Lawful.{AreWithin}
use Rattle.tp_judge.specs.Lines.{HasKeyBelow}
use Rattle.tp_judge.specs.OneRun.{LineAt}
use Rattle.tp_judge.specs.OrderProgress.{BeginSo}
use Rattle.tp_judge.specs.TraceKinds.{AreSections, extended, kind_in, kind_of, kinds_of, no_section, section_at}
use Rattle.tp_judge.proofs.RanksOfGivenElements.{in_front, slice_there}
use Rattle.tp_judge.proofs.RenamedHistories.{at_map}
use Rattle.tp_judge.proofs.SendingOfEachArrival.{all_at}

-- as many lines as were counted
pub count_is : (trace : IndexedTrace) (n : ℕ) → n ≡ trace.lines.len → length trace.lines.items ≡ n
count_is trace n is = let same = trace.lines.ok in omega arith

-- what is read at a place
pub line_read : (trace : IndexedTrace) (place : ℕ) (line : IndexedLine) → place < length trace.lines.items → line ≡ get_or trace.lines.items place line
    → LineAt trace place line
line_read trace place line below is = slice_get-get_or trace.lines.items place line below ∙ ap Some (sym is)

-- each line is of a component
pub component_below : (trace : IndexedTrace) (place : ℕ) (line : IndexedLine) → AreWithin trace → LineAt trace place line
    → line.component < trace.components
component_below trace place line within at =
    all_at (HasKeyBelow by.Component trace.components) trace.lines.items place line within.sections at

-- the section that is read
pub section_read : (sections : List Section) (c : ℕ) (s : Section) → c < length sections → s ≡ get_or sections c s → s ≡ section_at sections c
section_read sections c s low is = is ∙ get_or_default sections c s no_section low

-- at first there is none
none_at : (n c : ℕ) → section_at (replicate n no_section) c ≡ no_section
none_at n c = elim (cases_lt c n) [
  | inl low ↦ get_or-replicate n c no_section no_section low
  | inr past ↦ let e : length (replicate n no_section) ≡ n = length-replicate {A = Section} n no_section in get_or_past (replicate n no_section) c no_section (omega (arith, e, past))
]

pub sections_none : (trace : IndexedTrace) (sections : List Section) → sections ≡ replicate trace.components no_section
    → AreSections trace 0 sections
sections_none trace sections are =
    let n = trace.components in
    subst (AreSections trace 0) (sym are) (record {
      size = length-replicate {A = Section} n no_section;
      begin = λ c. let e = none_at n c in let b = ap (λ (s : Section). s.begin) e in omega (arith, b);
      within = λ c. let e = none_at n c in let b = ap (λ (s : Section). s.end) e in omega (arith, b);
      lines = λ place line low at. absurd (omega (arith, low));
    })

test_low : (b : Bool) (n k : ℕ) → k ≤ n → (if b then n else k) ≤ n
test_low true n k low = omega arith
test_low false n k low = low

extended_low : (s : Section) (n : ℕ) → s.begin ≤ s.end → s.end ≤ n → (extended s n).begin ≤ n
extended_low s n one two = test_low (s.end == 0) n s.begin (omega (arith, one, two))

extended_was : (s : Section) (n p : ℕ) → s.begin ≤ p → p < s.end → (extended s n).begin ≤ p
extended_was s n p low under =
    let some : s.end == 0 ≡ false = ne_eqb s.end 0 (λ e. omega (arith, under, e)) in
    let P : Bool → Type 0 = λ b. (if b then n else s.begin) ≤ p in
    subst P (sym some) low

-- one line more
pub sections_more : (trace : IndexedTrace) (n : ℕ) (sections : List Section) (line : IndexedLine) → LineAt trace n line
    → line.component < length sections → AreSections trace n sections
    → AreSections trace (n + 1) (set sections line.component (extended (section_at sections line.component) n))
sections_more trace n sections line here low was =
    let c = line.component in
    let s = section_at sections c in
    let new = extended s n in
    let more = set sections c new in
    let same : section_at more c ≡ new = get_or-set_same sections c new no_section low in
    let other : (x : ℕ) → (x ≡ c → ⊥) → section_at more x ≡ section_at sections x = λ x away. get_or-set_other sections c x new no_section away in
    let first : new.begin ≤ n = extended_low s n (was.begin c) (was.within c) in
    record {
      size = length-set sections c new ∙ was.size;
      begin = λ x. elim (cases_eq x c) [
        | inl is ↦
            let P : ℕ → Type 0 = λ y. (section_at more y).begin ≤ (section_at more y).end in
            let b = ap (λ (t : Section). t.begin) same in
            let e = ap (λ (t : Section). t.end) same in
            subst P (sym is) (omega (arith, b, e, first))
        | inr away ↦
            let P : Section → Type 0 = λ t. t.begin ≤ t.end in
            subst P (sym (other x away)) (was.begin x)
      ];
      within = λ x. elim (cases_eq x c) [
        | inl is ↦
            let P : ℕ → Type 0 = λ y. (section_at more y).end ≤ n + 1 in
            let e = ap (λ (t : Section). t.end) same in
            subst P (sym is) (omega (arith, e))
        | inr away ↦
            let e = ap (λ (t : Section). t.end) (other x away) in
            let w = was.within x in
            omega (arith, e, w)
      ];
      lines = λ place l under at. elim (cases_lt place n) [
        | inl old ↦
            let h = was.lines place l old at in
            elim (cases_eq l.component c) [
              | inl is ↦
                  let P : ℕ → Type 0 = λ y. ((section_at more y).begin ≤ place) × (place < (section_at more y).end) in
                  let Q : Section → Type 0 = λ t. (t.begin ≤ place) × (place < t.end) in
                  let R : ℕ → Type 0 = λ y. ((section_at sections y).begin ≤ place) × (place < (section_at sections y).end) in
                  let k = subst R is h in
                  let top : place < n + 1 = omega (arith, old) in
                  subst P (sym is) (subst Q (sym same) (extended_was s n place k.0 k.1, top))
              | inr away ↦
                  let Q : Section → Type 0 = λ t. (t.begin ≤ place) × (place < t.end) in
                  subst Q (sym (other l.component away)) h
            ]
        | inr past ↦
            let level : place ≡ n = omega (arith, past, under) in
            let one : l ≡ line = same_Some l line (sym at ∙ ap (slice_get trace.lines.items) level ∙ here) in
            let is : l.component ≡ c = ap (λ (x : IndexedLine). x.component) one in
            let P : ℕ → Type 0 = λ y. ((section_at more y).begin ≤ place) × (place < (section_at more y).end) in
            let Q : Section → Type 0 = λ t. (t.begin ≤ place) × (place < t.end) in
            subst P (sym is) (subst Q (sym same) (omega (arith, first, level), under))
      ];
    }

-- the entry of a component's history
pub kind_there : (trace : IndexedTrace) (sections : List Section) (c q : ℕ) (line : IndexedLine) → LineAt trace q line
    → q < (section_at sections c).end → slice_get (kinds_of trace sections c) q ≡ Some (kind_in trace c line)
kind_there trace sections c q line at low =
    in_front (map (kind_in trace c) trace.lines.items) q (section_at sections c).end (kind_in trace c line) low
    (at_map (kind_in trace c) trace.lines.items q line at)

-- nothing stands before the section
pub begin_so : (trace : IndexedTrace) (sections : List Section) → AreSections trace (length trace.lines.items) sections
    → BeginSo (kinds_of trace sections) (length sections) (λ c. (section_at sections c).begin)
begin_so trace sections are c low =
    let s = section_at sections c in
    let all = map (kind_in trace c) trace.lines.items in
    let b = are.begin c in
    let w = are.within c in
    let size = length-map trace.lines.items (kind_in trace c) in
    let count : length (take s.end all) ≡ s.end = length-take-le s.end all (omega (arith, w, size)) in
    record {
      within = omega (arith, b, count);
      nothing = λ q under.
          let line = slice_there trace.lines.items q (omega (arith, under, b, w)) in
          let away : line.0.component ≡ c → ⊥ = λ same.
          let P : ℕ → Type 0 = λ y. (section_at sections y).begin ≤ q in
          let h : s.begin ≤ q = subst P same (are.lines q line.0 (omega (arith, under, b, w)) line.1).0 in
          omega (arith, h, under) in
          let none : kind_in trace c line.0 ≡ kind.Nothing =
          ap (λ (t : Bool). let k : EntryKind Mention = if t then kind_of trace line.0.act else kind.Nothing in k) (ne_eqb line.0.component c away) in
          kind_there trace sections c q line.0 line.1 (omega (arith, under, b)) ∙ ap Some none;
    }
