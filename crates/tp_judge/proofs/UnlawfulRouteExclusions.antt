-- Parcels that came, beside those that were sent.
use Rattle.std.proofs.Common.{◌≡◌, ◌≢◌, ℕ, suc, ◌<◌, ◌≤◌, inl, inr, zero, Some, List, [], ◌∷◌, length, refl, ap, sym}
use Rattle.std.proofs.Common.{◌∙◌, subst, ⊎_elim, arith}
use Rattle.std.specs.Prelude.{slice_get}
use Rattle.std.proofs.lemmas.Bool.{cases_lt}
use Rattle.std.proofs.lemmas.Option.{same_Some}
use Rattle.tp_judge.specs.declared.line.Parcel.{Parcel}
use Rattle.tp_judge.specs.declared.line.IndexedLine.{IndexedLine}
use Rattle.tp_judge.specs.declared.place.Rule.TheVariants as rule
use Rattle.tp_judge.specs.declared.place.UnlawfulPlace.{UnlawfulPlace}
use Rattle.tp_judge.specs.Delivered.{AgreesBelow, AreParcelsNumbered, CameAsSent, IsFirstArrival, IsOvertaken}
use Rattle.tp_judge.specs.Delivered.{IsPlaceOfLine, IsUnlawfulRoute, different, numbering, IsWrongAt, doubled, lost}
use Rattle.tp_judge.specs.Delivered.{NeverCame, ParcelAt, parcels}
use Rattle.tp_judge.specs.Routed.{HasNumberFrom, NoNumberFrom}

pub same_parcel : (a b : Parcel) → a.number ≡ b.number → a.message ≡ b.message → a ≡ b
same_parcel a b e f =
    ap (λ n. record { number = n; message = a.message }) e ∙ ap (λ m. record { number = b.number; message = m }) f

-- two lists that agree at each place
pub same_lists : (xs ys : List Parcel) → ((k : ℕ) → k < length ys → slice_get xs k ≡ slice_get ys k) → length xs ≤ length ys
    → xs ≡ ys
same_lists [] [] agree short = refl
same_lists [] (y ∷ ys) agree short = absurd (let e = agree 0 (omega arith) in cc)
same_lists (x ∷ xs) [] agree short = absurd (omega arith)
same_lists (x ∷ xs) (y ∷ ys) agree short =
    let first = agree 0 (omega arith) in
    let same : x ≡ y = cc in
    ap (λ z. z ∷ xs) same
    ∙ ap (λ l. y ∷ l) (same_lists xs ys (λ k below. agree (suc k) (omega arith)) (omega arith))

-- a number that is none of the first, and that nothing has after them
never_here : (sent came : List IndexedLine) (n : ℕ) (p : Parcel) → AreParcelsNumbered (parcels sent) → AgreesBelow sent came n → n ≤ p.number
    → NoNumberFrom came n p.number → NeverCame came p
never_here sent came n p numbered agree large later = λ j q at. ⊎_elim
    (λ (low : j < n). λ same. let first = numbered j q (agree j low ∙ at) in omega arith)
    (λ (high : n ≤ j). later j q high at)
    (cases_lt j n)

-- a parcel whose place another took that was sent later, and that never comes after that
pub lost_overtaken : (sent came : List IndexedLine) (k : ℕ) (p : Parcel) (place : UnlawfulPlace) → AreParcelsNumbered (parcels sent) → AgreesBelow sent came k
    → place.rule ≡ rule.Lost → IsPlaceOfLine sent k place → ParcelAt sent k p → NoNumberFrom came k k → IsOvertaken sent came k
    → IsWrongAt sent came k place
lost_overtaken sent came k p place numbered agree is told there later overtaken =
    let number = numbered k p there in
    let none = subst (NoNumberFrom came k) (sym number) later in
    lost p is told there (never_here sent came k p numbered agree (omega arith) none) (inr overtaken)

-- a parcel after all that came
pub lost_behind : (sent came : List IndexedLine) (k : ℕ) (p : Parcel) (place : UnlawfulPlace) → AreParcelsNumbered (parcels sent) → AgreesBelow sent came k
    → place.rule ≡ rule.Lost → IsPlaceOfLine sent k place → ParcelAt sent k p → ((j : ℕ) (q : Parcel) → ParcelAt came j q → j < k)
    → IsUnlawfulRoute sent came place
lost_behind sent came k p place numbered agree is told there all =
    let number = numbered k p there in
    let nothing : (q : Parcel) → ParcelAt came k q → ⊥ = λ q at. let low = all k q at in omega arith in
    different k numbered (record { before = agree; here = λ same. nothing p (sym same ∙ there) })
    (lost p is told there
    (never_here sent came k p numbered agree (omega arith) (λ j q high at. absurd (let low = all j q at in omega arith)))
    (inl nothing))

parcel_there : (xs : List Parcel) (i : ℕ) → i < length xs → (x : Parcel) × (slice_get xs i ≡ Some x)
parcel_there [] i below = absurd (omega arith)
parcel_there (x ∷ xs) zero below = (x, refl)
parcel_there (x ∷ xs) (suc i) below = parcel_there xs i (omega arith)

-- a number that came before, where all before it agrees
pub doubled_here : (sent came : List IndexedLine) (k : ℕ) (p : Parcel) (place : UnlawfulPlace) → AreParcelsNumbered (parcels sent) → AgreesBelow sent came k
    → place.rule ≡ rule.Doubled → IsPlaceOfLine came k place → ParcelAt came k p → k < length (parcels came) → p.number < k
    → IsWrongAt sent came k place
doubled_here sent came k p place numbered agree is told there within before =
    let q = parcel_there (parcels came) p.number (omega arith) in
    doubled p.number p q.0 is told there before q.1 (numbered p.number q.0 (agree p.number before ∙ q.1))

-- where the arrivals agree below k, the first from there on with a number that isn't less is the first of all with it
pub first_arrival : (sent came : List IndexedLine) (n k number : ℕ) (p : Parcel) → AreParcelsNumbered (parcels sent) → AgreesBelow sent came n
    → n ≤ number → ParcelAt came k p → p.number ≡ number
    → ((j : ℕ) (q : Parcel) → n ≤ j → j < k → ParcelAt came j q → q.number ≢ number) → IsFirstArrival came number k p
first_arrival sent came n k number p numbered agree large at is none = record {
  at = at;
  is = is;
  none_before = λ j q below there. ⊎_elim
      (λ (low : j < n). λ same. let first = numbered j q (agree j low ∙ there) in omega arith)
      (λ (high : n ≤ j). none j q high below there)
      (cases_lt j n);
}

-- what was sent where another took its place came after that
pub record IsLater (came : List IndexedLine) (k m : ℕ) (p q : Parcel) : Type 0 where
  pub later : k < m
  pub first : IsFirstArrival came p.number m q

pub later_arrival : (sent came : List IndexedLine) (k m : ℕ) (p q : Parcel) → AreParcelsNumbered (parcels sent) → AgreesBelow sent came k
    → ParcelAt sent k p → IsOvertaken sent came k → HasNumberFrom came k k m → ParcelAt came m q → IsLater came k m p q
later_arrival sent came k m p q numbered agree there over found at =
    let number = numbered k p there in
    let same = same_Some q found.parcel (sym at ∙ found.at) in
    let is : q.number ≡ k = ap (λ (r : Parcel). r.number) same ∙ found.is in
    let other = numbered over.0 over.1 over.3 in
    let later = over.2 in
    let from = found.within in
    let apart : k ≢ m = λ e. let r = ap (λ (r : Parcel). r.number) (same_Some over.1 q (sym over.4 ∙ ap (slice_get (parcels came)) e ∙ at)) in omega arith in
    record {
      later = omega arith;
      first =
          first_arrival sent came k m p.number q numbered agree (omega arith) at (is ∙ sym number)
          (λ j r high low came_at. subst (λ (n : ℕ). r.number ≢ n) (sym number) (found.none_before j r high low came_at));
    }

-- a place on a route excludes that the route is lawful
pub unlawful_route : (sent came : List IndexedLine) (place : UnlawfulPlace) → IsUnlawfulRoute sent came place → CameAsSent sent came → ⊥
unlawful_route sent came place (numbering k is told wrong) lawful = wrong.wrong (lawful.numbered k wrong.parcel wrong.at)
unlawful_route sent came place (different k numbered differs wrong) lawful = differs.here (ap (λ l. slice_get l k) lawful.same)
