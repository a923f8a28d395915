-- Where the order of the text is one in which all happens, no line happens before itself.
use Rattle.std.proofs.Common.{◌≡◌, inl, inr, ℕ, ◌+◌, ◌<◌, ◌≤◌, true, Some, List, length, get_or, ap, sym, ◌∙◌, Bor}
use Rattle.std.proofs.Common.{arith}
use Rattle.std.specs.Prelude.{option_map, slice_get}
use Rattle.std.proofs.lemmas.Bool.{cases_eq}
use Rattle.std.proofs.lemmas.List.{get_or_default, length-map}
use Rattle.std.proofs.lemmas.List.Kept.{AllPairs-filter}
use Rattle.std.proofs.lemmas.Option.{get_or_from_slice_get, same_Some, slice_get-get_or, slice_get-map}
use Rattle.std.proofs.lemmas.Option.{slice_get_within}
use Rattle.tp_judge.specs.declared.line.IndexedLine.{IndexedLine}
use Rattle.tp_judge.specs.declared.line.By.TheVariants as by
use Rattle.tp_judge.specs.declared.trace.IndexedTrace.{IndexedTrace}
use Rattle.tp_judge.specs.Lines.{is_number, key_of}
use Rattle.tp_judge.specs.Before.{LineHappensBefore, NoCircle, between, came_on, earlier, section_of, sent}
use Rattle.tp_judge.specs.Delivered.{Delivered}
use Rattle.tp_judge.specs.LinesByNumber.{lines_at}
use Rattle.tp_judge.specs.TextOrder.{AreAscending, AreSentFirst, StandBefore}

-- the lines below the place ascend, and the number is above theirs
pub record AscendUpTo (lines : List IndexedLine) (end next : ℕ) : Type 0 where
  pub pairs : (j k : ℕ) (d : IndexedLine) → j < k → k < end → (get_or lines j d).number < (get_or lines k d).number
  pub below : (k : ℕ) (d : IndexedLine) → k < end → (get_or lines k d).number < next

-- one line more
pub ascend_more : (lines : List IndexedLine) (i next number : ℕ) (default : IndexedLine) → i < length lines → number ≡ (get_or lines i default).number
    → next ≤ number → AscendUpTo lines i next → AscendUpTo lines (i + 1) (number + 1)
ascend_more lines i next number default here is more was = record {
  pairs = λ j k d order low. elim (cases_eq k i) [
    | inl same ↦
        let less = was.below j d (omega arith) in
        let there = at k d same in
        omega arith
    | inr apart ↦ was.pairs j k d order (omega arith)
  ];
  below = λ k d low. elim (cases_eq k i) [
    | inl same ↦ let there = at k d same in omega arith
    | inr apart ↦ let less = was.below k d (omega arith) in omega arith
  ];
}
  where
    at : (k : ℕ) (d : IndexedLine) → k ≡ i → (get_or lines k d).number ≡ number
    at k d same = ap (λ n. (get_or lines n d).number) same ∙ ap (λ (l : IndexedLine). l.number) (get_or_default lines i d default here) ∙ sym is

seen_at : (lines : List (Bor IndexedLine)) (i : ℕ) (d : Bor IndexedLine) (a : IndexedLine) → i < length lines → slice_get (lines_at lines) i ≡ Some a
    → a.number ≡ (get_or lines i d).now.number
seen_at lines i d a low at =
    let there = slice_get-map (λ (l : Bor IndexedLine). l.now) lines i in
    let same = ap (option_map (λ (l : Bor IndexedLine). l.now)) (slice_get-get_or lines i d low) in
    ap (λ (l : IndexedLine). l.number) (same_Some a (get_or lines i d).now (sym at ∙ there ∙ same))

-- the lines below the place stand so
abbrev pub StandBelow : List IndexedLine → List IndexedLine → ℕ → Type 0
StandBelow before after end =
    (k : ℕ) (a b : IndexedLine) → k < end → slice_get before k ≡ Some a → slice_get after k ≡ Some b → a.number < b.number

-- one pair more
pub stand_more : (xs ys : List (Bor IndexedLine)) (i : ℕ) (d e : Bor IndexedLine) → i < length xs → i < length ys
    → (get_or xs i d).now.number < (get_or ys i e).now.number → StandBelow (lines_at xs) (lines_at ys) i → StandBelow (lines_at xs) (lines_at ys) (i + 1)
stand_more xs ys i d e one other less was = λ k a b low at end. elim (cases_eq k i) [
  | inl same ↦
      let before = seen_at xs i d a one (ap (slice_get (lines_at xs)) (sym same) ∙ at) in
      let after = seen_at ys i e b other (ap (slice_get (lines_at ys)) (sym same) ∙ end) in
      omega arith
  | inr apart ↦ was k a b (omega arith) at end
]

-- all pairs
pub stand_all : (xs ys : List (Bor IndexedLine)) (i : ℕ) → ((k : ℕ) → k < length xs → k < length ys → k < i) → StandBelow (lines_at xs) (lines_at ys) i
    → StandBefore (lines_at xs) (lines_at ys)
stand_all xs ys i all was k a b at end =
    let one = slice_get_within (lines_at xs) k a at in
    let other = slice_get_within (lines_at ys) k b end in
    let first = length-map xs (λ (l : Bor IndexedLine). l.now) in
    let second = length-map ys (λ (l : Bor IndexedLine). l.now) in
    was k a b (all k (omega arith) (omega arith)) at end

-- what happens before another line stands before it
happens_ahead : (trace : IndexedTrace) → Delivered trace → AreAscending trace.lines.items
    → ((route : ℕ) → route < length trace.joined.items → AreSentFirst trace route) → (x y : ℕ) → LineHappensBefore trace x y → x < y
happens_ahead trace delivered ascending first x y (earlier component j k a b below order at end) =
    let row = section_of trace component in
    let pairs = AllPairs-filter (λ (a b : IndexedLine). a.number < b.number) (λ line. is_number component (key_of by.Component line))
    trace.lines.items ascending in
    let less = pairs j k a order (slice_get_within row k b end) in
    let one = ap (λ (l : IndexedLine). l.number) (get_or_from_slice_get row j a a at) in
    let other = ap (λ (l : IndexedLine). l.number) (get_or_from_slice_get row k b a end) in
    omega (arith, less, one, other)
happens_ahead trace delivered ascending first x y (sent route j k a b p q joined at end one other same) =
    let within = slice_get_within trace.joined.items route true joined in
    let lawful = delivered route within joined in
    let number = lawful.numbered j p one in
    let second = lawful.numbered k q (ap (λ l. slice_get l k) lawful.same ∙ other) in
    let place : j ≡ k = omega arith in
    first route within joined j a b at (ap (slice_get (came_on trace route)) place ∙ end)
happens_ahead trace delivered ascending first x y (between _ z _ one other) =
    let before = happens_ahead trace delivered ascending first x z one in
    let behind = happens_ahead trace delivered ascending first z y other in
    omega arith

pub ahead_no_circle : (trace : IndexedTrace) → Delivered trace → AreAscending trace.lines.items
    → ((route : ℕ) → route < length trace.joined.items → AreSentFirst trace route) → NoCircle trace
ahead_no_circle trace delivered ascending first n happens =
    let less = happens_ahead trace delivered ascending first n n happens in
    omega arith
