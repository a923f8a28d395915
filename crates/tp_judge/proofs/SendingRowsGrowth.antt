-- The places of sendings, gathered line by line.
use Rattle.std.proofs.Common.{◌≡◌, ◌⊎◌, inl, inr, ℕ, zero, suc, ◌+◌, ◌<◌, ◌==◌, Option, Some, None, List, [], ◌∷◌, ◌++◌}
use Rattle.std.proofs.Common.{length, get_or, set, take, refl, ap, sym, ◌∙◌, subst, eq-eqb, arith}
use Rattle.std.specs.Prelude.{All, IfSome, slice_get}
use Rattle.std.specs.List.{filter_map, cons_option}
use Rattle.std.specs.Option.{option_to_list}
use Rattle.std.specs.declared.vec.Vec.{Vec}
use Rattle.std.specs.declared.alloc.Global.{Global}
use Rattle.std.proofs.lemmas.Bool.{cases_eq, cond-true, cond-false, ne_eqb}
use Rattle.std.proofs.lemmas.List.{get_or-set_same, get_or-set_other, length-append, length-set, length_push}
use Rattle.std.proofs.lemmas.List.Elements.{filter_map-append}
use Rattle.std.proofs.lemmas.Option.{none-some, same_Some, slice_get-get_or}
use Rattle.tp_judge.specs.declared.line.Parcel.{Parcel}
use Rattle.tp_judge.specs.declared.line.Act.{Act}
use Rattle.tp_judge.specs.declared.line.Act.TheVariants as act
use Rattle.tp_judge.specs.declared.line.IndexedLine.{IndexedLine}
use Rattle.tp_judge.specs.declared.trace.IndexedTrace.{IndexedTrace}
use Rattle.tp_judge.specs.declared.line.By.TheVariants as by
use Rattle.tp_judge.specs.Lawful.{AreWithin}
use Rattle.tp_judge.specs.Lines.{sent_route, HasKeyBelow}
use Rattle.tp_judge.specs.OneRun.{LineAt}
use Rattle.tp_judge.specs.Sendings.{sent_parcel, sent_parcels, AreSendingRows, IsNextSending, IsSendingsRow}
use Rattle.tp_judge.proofs.SendingOfEachArrival.{all_at}
use Rattle.tp_judge.proofs.ReferencedLinesGrowth.{take_got}

-- one line more
more_sent : (trace : IndexedTrace) (route n : ℕ) (line : IndexedLine) → LineAt trace n line
    → length (sent_parcels route (take (n + 1) trace.lines.items))
    ≡ length (sent_parcels route (take n trace.lines.items)) + length (option_to_list (sent_parcel route line.act))
more_sent trace route n line at =
    let f : IndexedLine → Option Parcel = λ line. sent_parcel route line.act in
    ap (λ l. length (filter_map f l)) (take_got trace.lines.items n line at)
    ∙ ap length (filter_map-append f (take n trace.lines.items) (line ∷ []) ∙ ap (λ l. filter_map f (take n trace.lines.items) ++ l) (alone (f line)))
    ∙ length-append (filter_map f (take n trace.lines.items)) (option_to_list (f line))
  where
    alone : (o : Option Parcel) → cons_option o [] ≡ option_to_list o
    alone None = refl
    alone (Some p) = refl

row_same : (trace : IndexedTrace) (n route : ℕ) (line : IndexedLine) (row : List ℕ) → LineAt trace n line → sent_parcel route line.act ≡ None
    → IsSendingsRow trace n route row → IsSendingsRow trace (n + 1) route row
row_same trace n route line row at none was =
    let size = was.size in
    let grown = more_sent trace route n line at in
    let nothing = ap (λ o. length (option_to_list o)) none in
    record { size = omega arith; each = was.each }

push_cases : (xs : List ℕ) (y k x : ℕ) → slice_get (xs ++ y ∷ []) k ≡ Some x → (slice_get xs k ≡ Some x) ⊎ ((k ≡ length xs) × (y ≡ x))
push_cases [] y zero x at = inr (refl, same_Some y x at)
push_cases [] y (suc k) x at = absurd (none-some x at)
push_cases (z ∷ xs) y zero x at = inl at
push_cases (z ∷ xs) y (suc k) x at = elim (push_cases xs y k x at) [
  | inl there ↦ inl there
  | inr last ↦ inr (ap suc last.0, last.1)
]

row_more : (trace : IndexedTrace) (n route : ℕ) (line : IndexedLine) (row : List ℕ) (p : Parcel) → LineAt trace n line
    → sent_parcel route line.act ≡ Some p → IsSendingsRow trace n route row → IsSendingsRow trace (n + 1) route (row ++ n ∷ [])
row_more trace n route line row p at is was =
    let size = was.size in
    let grown = more_sent trace route n line at in
    let one = ap (λ o. length (option_to_list o)) is in
    let longer = length_push row n in
    record {
      size = omega arith;
      each = λ before place there. elim (push_cases row n before place there) [
        | inl old ↦ was.each before place old
        | inr last ↦
            subst (IsNextSending trace route before) last.1
            (record { line = line; at = at; parcel = p; sends = is; is = sym size ∙ sym last.0 })
      ];
    }

-- a route of its own, or another
no_route : (route : ℕ) (a : Act) → sent_route a ≡ None → sent_parcel route a ≡ None
no_route route (act.Sent m) none = absurd (none-some m.route (sym none))
no_route route _ none = refl

this_route : (route : ℕ) (a : Act) → sent_route a ≡ Some route → (p : Parcel) × (sent_parcel route a ≡ Some p)
this_route route (act.Sent m) is =
    (m.parcel, cond-true (m.route == route) (Some m.parcel) None (eq-eqb m.route route (same_Some m.route route is)))
this_route route _ is = absurd (none-some route is)

other_route : (route other : ℕ) (a : Act) → sent_route a ≡ Some other → (route ≡ other → ⊥) → sent_parcel route a ≡ None
other_route route other (act.Sent m) is apart =
    cond-false (m.route == route) (Some m.parcel) None (ne_eqb m.route route (λ e. apart (sym e ∙ same_Some m.route other is)))
other_route route other _ is apart = refl

pub sendings_same : (trace : IndexedTrace) (n : ℕ) (line : IndexedLine) (rows : List (Vec ℕ Global)) → LineAt trace n line → sent_route line.act ≡ None
    → AreSendingRows trace n rows → AreSendingRows trace (n + 1) rows
sendings_same trace n line rows at none was = record {
  size = was.size;
  each = λ route row below.
      row_same trace n route line (get_or rows route row).items at (no_route route line.act none) (was.each route row below);
}

pub sendings_more : (trace : IndexedTrace) (n route : ℕ) (line : IndexedLine) (rows : List (Vec ℕ Global)) (old new : Vec ℕ Global) → LineAt trace n line
    → sent_route line.act ≡ Some route → route < length trace.joined.items → old ≡ get_or rows route old
    → new.items ≡ old.items ++ n ∷ [] → AreSendingRows trace n rows → AreSendingRows trace (n + 1) (set rows route new)
sendings_more trace n route line rows old new at is within read grown was =
    let size = was.size in
    let p = this_route route line.act is in
    record {
      size = length-set rows route new ∙ size;
      each = λ other row below. elim (cases_eq other route) [
        | inl same ↦
            subst (λ (r : ℕ). IsSendingsRow trace (n + 1) r (get_or (set rows route new) r row).items) (sym same)
            (subst (λ (v : Vec ℕ Global). IsSendingsRow trace (n + 1) route v.items) (sym (get_or-set_same rows route new row (omega arith)))
            (subst (IsSendingsRow trace (n + 1) route) (sym grown)
            (row_more trace n route line old.items p.0 at p.1
            (subst (λ (v : Vec ℕ Global). IsSendingsRow trace n route v.items) (sym read) (was.each route old within)))))
        | inr apart ↦
            subst (λ (v : Vec ℕ Global). IsSendingsRow trace (n + 1) other v.items) (sym (get_or-set_other rows route other new row apart))
            (row_same trace n other line (get_or rows other row).items at (other_route other route line.act is apart) (was.each other row below))
      ];
    }

-- a line that is read
pub line_in_trace : (trace : IndexedTrace) (lines : List IndexedLine) (n : ℕ) (d : IndexedLine) → lines ≡ trace.lines.items → n < length lines
    → LineAt trace n (get_or lines n d)
line_in_trace trace lines n d is below = ap (λ l. slice_get l n) (sym is) ∙ slice_get-get_or lines n d below

-- the route of a sending is one of the trace
pub sent_below : (trace : IndexedTrace) (n route : ℕ) (line : IndexedLine) → AreWithin trace → LineAt trace n line → sent_route line.act ≡ Some route
    → route < length trace.joined.items
sent_below trace n route line within at is =
    subst (λ (o : Option ℕ). IfSome o (λ key. key < length trace.joined.items)) is
    (all_at (HasKeyBelow by.Sent (length trace.joined.items)) trace.lines.items n line within.sent at)
