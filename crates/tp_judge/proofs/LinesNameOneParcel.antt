-- Lines that each name one parcel.
use Rattle.std.proofs.Common.{◌≡◌, ℕ, zero, suc, ◌<◌, Option, Some, None, List, [], ◌∷◌, length, get_or, refl, ap, ◌∙◌}
use Rattle.std.proofs.Common.{Bor, arith}
use Rattle.std.specs.Prelude.{All, IsSome, slice_get}
use Rattle.std.specs.List.{cons_option}
use Rattle.std.proofs.lemmas.List.Elements.{All-head, All-tail}
use Rattle.std.proofs.lemmas.Option.{slice_get_within}
use Rattle.tp_judge.specs.declared.line.Parcel.{Parcel}
use Rattle.tp_judge.specs.declared.line.IndexedLine.{IndexedLine}
use Rattle.tp_judge.specs.LinesByNumber.{lines_at}
use Rattle.tp_judge.specs.Lines.{parcel_of}
use Rattle.tp_judge.specs.Delivered.{NamesParcel, ParcelAt, parcels}

some_of : (o : Option Parcel) → IsSome o → (p : Parcel) × (o ≡ Some p)
some_of None h = absurd (cc)
some_of (Some p) h = (p, refl)

-- there are as many parcels as lines
pub length-parcels : (lines : List IndexedLine) → All NamesParcel lines → length (parcels lines) ≡ length lines
length-parcels [] all = refl
length-parcels (line ∷ lines) all =
    let some = some_of (parcel_of line.act) (All-head NamesParcel line lines all) in
    ap (λ o. length (cons_option o (parcels lines))) some.1
    ∙ ap suc (length-parcels lines (All-tail NamesParcel line lines all))

-- a line at a place names the parcel there
pub named_at : (lines : List IndexedLine) → All NamesParcel lines → (k : ℕ) (line : IndexedLine) (p : Parcel)
    → slice_get lines k ≡ Some line → parcel_of line.act ≡ Some p → ParcelAt lines k p
named_at [] all k line p stands is = absurd (cc)
named_at (x ∷ lines) all zero line p stands is =
    let same : x ≡ line = cc in
    ap (λ (l : IndexedLine). slice_get (cons_option (parcel_of l.act) (parcels lines)) 0) same
    ∙ ap (λ o. slice_get (cons_option o (parcels lines)) 0) is
named_at (x ∷ lines) all (suc k) line p stands is =
    let some = some_of (parcel_of x.act) (All-head NamesParcel x lines all) in
    ap (λ o. slice_get (cons_option o (parcels lines)) (suc k)) some.1
    ∙ named_at lines (All-tail NamesParcel x lines all) k line p stands is

pub length-seen : (lines : List (Bor IndexedLine)) → length (lines_at lines) ≡ length lines
length-seen [] = refl
length-seen (x ∷ lines) = ap suc (length-seen lines)

-- there is a parcel at each place
pub named_there : (lines : List IndexedLine) → All NamesParcel lines → (k : ℕ) → k < length lines → (p : Parcel) × ParcelAt lines k p
named_there [] all k within = absurd (omega arith)
named_there (x ∷ lines) all zero within =
    let some = some_of (parcel_of x.act) (All-head NamesParcel x lines all) in
    (some.0, ap (λ o. slice_get (cons_option o (parcels lines)) 0) some.1)
named_there (x ∷ lines) all (suc k) within =
    let some = some_of (parcel_of x.act) (All-head NamesParcel x lines all) in
    let rest = named_there lines (All-tail NamesParcel x lines all) k (omega arith) in
    (rest.0, ap (λ o. slice_get (cons_option o (parcels lines)) (suc k)) some.1 ∙ rest.1)

-- and at no other
pub named_within : (lines : List (Bor IndexedLine)) → All NamesParcel (lines_at lines) → (k : ℕ) (p : Parcel) → ParcelAt (lines_at lines) k p
    → k < length lines
named_within lines all k p at =
    let below = slice_get_within (parcels (lines_at lines)) k p at in
    let count = length-parcels (lines_at lines) all in
    let size = length-seen lines in
    omega arith

-- each line names one
pub names_none : (lines : List (Bor IndexedLine)) → All NamesParcel (lines_at lines) → (k : ℕ) (d : Bor IndexedLine) → k < length lines
    → parcel_of (get_or lines k d).now.act ≡ None → ⊥
names_none [] all k d within none = omega arith
names_none (x ∷ lines) all zero d within none =
    let some = some_of (parcel_of x.now.act) (All-head NamesParcel x.now (lines_at lines) all) in
    let e = some.1 in cc
names_none (x ∷ lines) all (suc k) d within none =
    names_none lines (All-tail NamesParcel x.now (lines_at lines) all) k d (omega arith) none
