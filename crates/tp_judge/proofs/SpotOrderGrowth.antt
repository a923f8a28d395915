-- One order is built up, one spot after the other.
use Rattle.std.proofs.Common.{◌≡◌, ◌⊎◌, inl, inr, ℕ, zero, suc, ◌+◌, ◌-◌, ◌<◌, ◌≤◌, Bool, true, false, Option, Some, None}
use Rattle.std.proofs.Common.{List, [], ◌∷◌, ◌++◌, length, get_or, take, drop, refl, sym, ap, ◌∙◌, subst, arith}
use Rattle.std.specs.Prelude.{slice_get}
use Rattle.std.specs.List.{cons_option}
use Rattle.std.proofs.Math.Seq.{take-suc, take-append_seam, take-append-add, take-length}
use Rattle.std.proofs.lemmas.Bool.{cases_eq, cases_lt, cases_order, false≢true}
use Rattle.std.proofs.lemmas.List.{append-nil, length-append, take-append-le, take-append-drop}
use Rattle.std.proofs.lemmas.List.Elements.{filter_map-append}
use Rattle.std.proofs.lemmas.Option.{same_Some, slice_get_within, get_or_from_slice_get}
use Rattle.tp_judge.specs.declared.kind.EntryKind.{EntryKind}
use Rattle.tp_judge.specs.declared.kind.EntryKind.TheVariants as kind
use Rattle.tp_judge.specs.OneOrder.{IsAt, IsFrontOf, IsOrderOf}
use Rattle.tp_judge.specs.Kinds.{IsOwn, Kinds, Spot, came_in, came_of, histories_of, is_own, kind_at, sent_by, sent_from}
use Rattle.tp_judge.specs.OrderProgress.{IsBegun, IsGone, MayComeNext}

-- where spots stand in an order once one more is put at its end
at_still : (xs : List Spot) (y : Spot) (i : ℕ) (x : Spot) → IsAt xs i x → IsAt (xs ++ y ∷ []) i x
at_still [] y i x at = absurd (cc)
at_still (z ∷ xs) y zero x at = at
at_still (z ∷ xs) y (suc i) x at = at_still xs y i x at

at_last : (xs : List Spot) (y : Spot) → IsAt (xs ++ y ∷ []) (length xs) y
at_last [] y = refl
at_last (z ∷ xs) y = at_last xs y

pub at_cases : {X : Type 0} (xs : List X) (y : X) (i : ℕ) (x : X) → slice_get (xs ++ y ∷ []) i ≡ Some x → (slice_get xs i ≡ Some x) ⊎ ((i ≡ length xs) × (x ≡ y))
at_cases [] y zero x at = inr (refl, sym (same_Some y x at))
at_cases [] y (suc i) x at = absurd (cc)
at_cases (z ∷ xs) y zero x at = inl at
at_cases (z ∷ xs) y (suc i) x at = elim (at_cases xs y i x at) [
  | inl old ↦ inl old
  | inr new ↦ inr (ap (λ n. suc n) new.0, new.1)
]

-- what stands before a place of it
pub into_take : (xs : List Spot) (i j : ℕ) (x : Spot) → j < i → IsAt xs j x → IsAt (take i xs) j x
into_take [] i j x less at = absurd (cc)
into_take (z ∷ xs) zero j x less at = absurd (omega (arith, less))
into_take (z ∷ xs) (suc i) zero x less at = at
into_take (z ∷ xs) (suc i) (suc j) x less at = into_take xs i j x (omega (arith, less)) at

pub from_take : {X : Type 0} (xs : List X) (i j : ℕ) (x : X) → slice_get (take i xs) j ≡ Some x → (j < i) × (slice_get xs j ≡ Some x)
from_take [] zero j x at = absurd (cc)
from_take [] (suc i) j x at = absurd (cc)
from_take (z ∷ xs) zero j x at = absurd (cc)
from_take (z ∷ xs) (suc i) zero x at = (omega arith, at)
from_take (z ∷ xs) (suc i) (suc j) x at = let h = from_take xs i j x at in let low : j < i = h.0 in (omega (arith, low), h.1)

take_still : (xs : List Spot) (y : Spot) (i : ℕ) (x : Spot) → IsAt xs i x → take i (xs ++ y ∷ []) ≡ take i xs
take_still xs y i x at = let low : i < length xs = slice_get_within xs i x at in take-append-le i xs (y ∷ []) (omega (arith, low))

-- what has come once one more entry is gone by
pub came_on : {M : Type 0} (k : List (EntryKind M)) (n : ℕ) (e : EntryKind M) → slice_get k n ≡ Some e → came_in (take (n + 1) k) ≡ came_in (take n k) ++ cons_option (came_of e) []
came_on k n e at =
    let low : n < length k = slice_get_within k n e at in
    let one : n + 1 ≡ suc n = omega arith in
    let here : get_or k n e ≡ e = get_or_from_slice_get k n e e at in
    ap (λ m. came_in (take m k)) one ∙ ap (λ l. came_in l) (take-suc k n e low) ∙ ap (λ x. came_in (take n k ++ x ∷ [])) here
    ∙ filter_map-append came_of (take n k) (e ∷ [])

pub came_all : {M : Type 0} (k : List (EntryKind M)) (n : ℕ) → came_in (take n k) ++ came_in (drop n k) ≡ came_in k
came_all k n = sym (filter_map-append came_of (take n k) (drop n k)) ∙ ap (λ l. came_in l) (take-append-drop n k)

front_of : {X : Type 0} (xs ys : List X) (n : ℕ) → length xs ≤ n → IsFrontOf xs (take n (xs ++ ys))
front_of xs ys n most =
    let e : length xs + (n - length xs) ≡ n = omega arith in
    (take (n - length xs) ys, sym (take-append-add xs ys (n - length xs)) ∙ ap (λ m. take m (xs ++ ys)) e)

whole_of : {X : Type 0} (xs ys : List X) (n : ℕ) → length xs ≡ n → xs ≡ take n (xs ++ ys)
whole_of xs ys n same = sym (take-append_seam xs ys) ∙ ap (λ m. take m (xs ++ ys)) same

-- what a component did itself brings nothing, and what brings something is no such thing
pub own_none : {M : Type 0} (e : EntryKind M) → is_own e ≡ true → came_of e ≡ None
own_none (kind.Came m) own = absurd (cc)
own_none _ own = refl

given_none : {X : Type 0} (o : Option X) → o ≡ None → cons_option o [] ≡ []
given_none {X} o is = ap (λ (x : Option X). cons_option x []) is

pub one_more : {X : Type 0} (o : Option X) (s : X) (xs : List X) → o ≡ Some s → length (xs ++ cons_option o []) ≡ length xs + 1
one_more {X} o s xs is =
    let e : length (xs ++ cons_option o []) ≡ length (xs ++ s ∷ []) = ap (λ (x : Option X). length (xs ++ cons_option x [])) is in
    e ∙ length-append xs (s ∷ [])

-- nothing came where nothing stands
pub nothing_came : {M : Type 0} (k : List (EntryKind M)) (n : ℕ) → ((q : ℕ) → q < n → slice_get k q ≡ Some kind.Nothing)
    → came_in (take n k) ≡ []
nothing_came k zero none = refl
nothing_came [] (suc n) none = refl
nothing_came (e ∷ k) (suc n) none =
    let is : e ≡ kind.Nothing = same_Some e kind.Nothing (none 0 (omega arith)) in
    ap (λ x. cons_option (came_of x) (came_in (take n k))) is ∙ nothing_came k n (λ q low. none (suc q) (omega (arith, low)))

abbrev pub spot : ℕ → ℕ → Spot
spot c p = record { comp = c; place = p }

pub spot_is : (a : Spot) (c p : ℕ) → a.comp ≡ c → a.place ≡ p → a ≡ spot c p
spot_is a c p one two = λ i. record { comp = one i; place = two i }

module _ {M : Type 0} (kinds : Kinds M) where
  -- what a component does itself may follow where all that came to it before was sent, and no more where it looks
  follows : (at came out : ℕ → ℕ) (order : List Spot) (c : ℕ) (e : EntryKind M) → IsGone kinds at came out order
      → kind_at kinds (spot c (at c)) ≡ Some e → is_own e ≡ true → (e ≡ kind.Looked → came c ≡ out c)
      → MayComeNext kinds order (spot c (at c))
  follows at came out order c e was stands own looks =
      let log = kinds c in
      let xs = came_in (take (at c) log) in
      let ys = came_in (drop (at c) log) in
      let same : take (out c) (xs ++ ys) ≡ sent_by kinds c order = ap (take (out c)) (came_all log (at c)) ∙ sym (was.sent c) in
      let size : length xs ≡ came c = was.known c in
      let most : came c ≤ out c = was.most c in
      record {
        own = record { act = e; stands = stands; own = own };
        new = λ i there. let low : at c < at c = was.below i (spot c (at c)) there in omega (arith, low);
        kept = λ j less one. was.each (spot c j) one less;
        sent = subst (IsFrontOf xs) same (front_of xs ys (out c) (omega (arith, size, most)));
        seen = λ look.
            let is : e ≡ kind.Looked = same_Some e kind.Looked (sym stands ∙ look) in
            whole_of xs ys (out c) (size ∙ looks is) ∙ same;
      }

  -- it is put at the end of the order
  pub gone_own : (at came out at' out' : ℕ → ℕ) (order : List Spot) (c : ℕ) (e : EntryKind M) → IsGone kinds at came out order
      → kind_at kinds (spot c (at c)) ≡ Some e → is_own e ≡ true → (e ≡ kind.Looked → came c ≡ out c)
      → at' c ≡ at c + 1 → ((x : ℕ) → (x ≡ c → ⊥) → at' x ≡ at x)
      → ((x : ℕ) → out x ≤ out' x)
      → ((x : ℕ) → take (out' x) (came_in (kinds x)) ≡ take (out x) (came_in (kinds x)) ++ cons_option (sent_from kinds x (spot c (at c))) [])
      → IsGone kinds at' came out' (order ++ spot c (at c) ∷ [])
  gone_own at came out at' out' order c e was stands own looks here others most more =
      let new = spot c (at c) in
      let low : at c < length (kinds c) = slice_get_within (kinds c) (at c) e stands in
      let on : (x : ℕ) → at x ≤ at' x = λ x. elim (cases_eq x c) [
        | inl same ↦ let e : at x ≡ at c = ap at same in let f : at' x ≡ at' c = ap at' same in omega (arith, e, f, here)
        | inr other ↦ let e : at' x ≡ at x = others x other in omega (arith, e)
      ] in
      record {
        follows = λ i a there. elim (at_cases order new i a there) [
          | inl old ↦ subst (λ (l : List Spot). MayComeNext kinds l a) (sym (take_still order new i a old)) (was.follows i a old)
          | inr last ↦
              let before : order ≡ take i (order ++ new ∷ []) = sym (take-append_seam order (new ∷ [])) ∙ ap (λ n. take n (order ++ new ∷ [])) (sym last.0) in
              subst (λ (l : List Spot). MayComeNext kinds l a) before
              (subst (λ (b : Spot). MayComeNext kinds order b) (sym last.1) (follows at came out order c e was stands own looks))
        ];
        each = λ a is less. elim (cases_lt a.place (at a.comp)) [
          | inl old ↦ let h = was.each a is old in (h.0, at_still order new h.0 a h.1)
          | inr past ↦ elim (cases_eq a.comp c) [
            | inl same ↦
                let e : at a.comp ≡ at c = ap at same in
                let f : at' a.comp ≡ at' c = ap at' same in
                let place : a.place ≡ at c = omega (arith, e, f, here, past, less) in
                (length order, subst (IsAt (order ++ new ∷ []) (length order)) (sym (spot_is a c (at c) same place)) (at_last order new))
            | inr other ↦ let e : at' a.comp ≡ at a.comp = others a.comp other in absurd (omega (arith, e, past, less))
          ]
        ];
        below = λ i a there. elim (at_cases order new i a there) [
          | inl old ↦ let b : a.place < at a.comp = was.below i a old in let m : at a.comp ≤ at' a.comp = on a.comp in omega (arith, b, m)
          | inr last ↦ let P : Spot → Type 0 = λ b. b.place < at' b.comp in subst P (sym last.1) (omega (arith, here))
        ];
        known = λ x. elim (cases_eq x c) [
          | inl same ↦
              let P : ℕ → Type 0 = λ y. length (came_in (take (at' y) (kinds y))) ≡ came y in
              let log = kinds c in
              let none : cons_option (came_of e) [] ≡ [] = given_none (came_of e) (own_none e own) in
              let list : came_in (take (at' c) log) ≡ came_in (take (at c) log) =
              ap (λ n. came_in (take n log)) here ∙ came_on log (at c) e stands ∙ ap (λ l. came_in (take (at c) log) ++ l) none ∙ append-nil (came_in (take (at c) log)) in
              subst P (sym same) (ap length list ∙ was.known c)
          | inr other ↦ ap (λ n. length (came_in (take n (kinds x)))) (others x other) ∙ was.known x
        ];
        most = λ x. let m : came x ≤ out x = was.most x in let n : out x ≤ out' x = most x in omega (arith, m, n);
        sent = λ x. filter_map-append (sent_from kinds x) order (new ∷ [])
            ∙ ap (λ l. l ++ cons_option (sent_from kinds x new) []) (was.sent x) ∙ sym (more x);
        within = λ x. elim (cases_eq x c) [
          | inl same ↦
              let P : ℕ → Type 0 = λ y. at' y ≤ length (kinds y) in
              subst P (sym same) (omega (arith, here, low))
          | inr other ↦ let e : at' x ≡ at x = others x other in let w : at x ≤ length (kinds x) = was.within x in omega (arith, e, w)
        ];
      }

  -- what a component didn't do itself is gone by
  pub gone_over : (at came out at' came' : ℕ → ℕ) (order : List Spot) (c : ℕ) (e : EntryKind M) → IsGone kinds at came out order
      → kind_at kinds (spot c (at c)) ≡ Some e → is_own e ≡ false
      → at' c ≡ at c + 1 → ((x : ℕ) → (x ≡ c → ⊥) → at' x ≡ at x)
      → length (came_in (take (at c + 1) (kinds c))) ≡ came' c → came' c ≤ out c → ((x : ℕ) → (x ≡ c → ⊥) → came' x ≡ came x)
      → IsGone kinds at' came' out order
  gone_over at came out at' came' order c e was stands alien here others known' most' other_came =
      let low : at c < length (kinds c) = slice_get_within (kinds c) (at c) e stands in
      record {
        follows = was.follows;
        each = λ a is under. elim (cases_lt a.place (at a.comp)) [
          | inl old ↦ was.each a is old
          | inr past ↦ elim (cases_eq a.comp c) [
            | inl same ↦
                let g : at a.comp ≡ at c = ap at same in
                let f : at' a.comp ≡ at' c = ap at' same in
                let place : a.place ≡ at c = omega (arith, g, f, here, past, under) in
                let there : kind_at kinds a ≡ Some e = ap (kind_at kinds) (spot_is a c (at c) same place) ∙ stands in
                let one : is.act ≡ e = same_Some is.act e (sym is.stands ∙ there) in
                absurd (false≢true (sym alien ∙ ap is_own (sym one) ∙ is.own))
            | inr other ↦ let e : at' a.comp ≡ at a.comp = others a.comp other in absurd (omega (arith, e, past, under))
          ]
        ];
        below = λ i a there.
            let b : a.place < at a.comp = was.below i a there in
            elim (cases_eq a.comp c) [
              | inl same ↦ let e : at a.comp ≡ at c = ap at same in let f : at' a.comp ≡ at' c = ap at' same in omega (arith, e, f, here, b)
              | inr other ↦ let e : at' a.comp ≡ at a.comp = others a.comp other in omega (arith, e, b)
            ];
        known = λ x. elim (cases_eq x c) [
          | inl same ↦
              let P : ℕ → Type 0 = λ y. length (came_in (take (at' y) (kinds y))) ≡ came' y in
              subst P (sym same) (ap (λ n. length (came_in (take n (kinds c)))) here ∙ known')
          | inr other ↦ ap (λ n. length (came_in (take n (kinds x)))) (others x other) ∙ was.known x ∙ sym (other_came x other)
        ];
        most = λ x. elim (cases_eq x c) [
          | inl same ↦ let P : ℕ → Type 0 = λ y. came' y ≤ out y in subst P (sym same) most'
          | inr other ↦ let e : came' x ≡ came x = other_came x other in let m : came x ≤ out x = was.most x in omega (arith, e, m)
        ];
        sent = was.sent;
        within = λ x. elim (cases_eq x c) [
          | inl same ↦
              let P : ℕ → Type 0 = λ y. at' y ≤ length (kinds y) in
              subst P (sym same) (omega (arith, here, low))
          | inr other ↦ let e : at' x ≡ at x = others x other in let w : at x ≤ length (kinds x) = was.within x in omega (arith, e, w)
        ];
      }

  -- at first nothing is gone by
  pub gone_none : (at came out : ℕ → ℕ) → ((x : ℕ) → IsBegun (kinds x) (at x)) → ((x : ℕ) → came x ≡ 0) → ((x : ℕ) → out x ≡ 0)
      → IsGone kinds at came out []
  gone_none at came out begun nil zip = record {
    follows = λ i a there. absurd (cc);
    each = λ a is less.
        let none : is.act ≡ kind.Nothing = same_Some is.act kind.Nothing (sym is.stands ∙ (begun a.comp).nothing a.place less) in
        absurd (false≢true (ap is_own (sym none) ∙ is.own));
    below = λ i a there. absurd (cc);
    known = λ x. ap length (nothing_came (kinds x) (at x) (begun x).nothing) ∙ sym (nil x);
    most = λ x. let e : came x ≡ 0 = nil x in omega (arith, e);
    sent = λ x. ap (λ n. take n (came_in (kinds x))) (sym (zip x));
    within = λ x. (begun x).within;
  }

  -- at last all is, and the order gives the histories
  pub gone_all : (at came out : ℕ → ℕ) (order : List Spot) → IsGone kinds at came out order → ((x : ℕ) → at x ≡ length (kinds x))
      → ((x : ℕ) → out x ≡ length (came_in (kinds x))) → IsOrderOf (histories_of kinds) order
  gone_all at came out order was end all =
      let each : (a : Spot) → IsOwn kinds a → (i : ℕ) × IsAt order i a = λ a is.
      let low : a.place < length (kinds a.comp) = slice_get_within (kinds a.comp) a.place is.act is.stands in
      let e : at a.comp ≡ length (kinds a.comp) = end a.comp in
      was.each a is (omega (arith, low, e)) in
      record {
        own = λ i a there. (was.follows i a there).own;
        each = each;
        once = λ i j a there here. elim (cases_order i j) [
          | inl same ↦ same
          | inr (inl less) ↦ absurd ((was.follows j a here).new i (into_take order j i a less there))
          | inr (inr more) ↦ absurd ((was.follows i a there).new j (into_take order i j a more here))
        ];
        kept = λ a b earlier one other.
            let n = each b other in
            let same : a ≡ spot b.comp a.place = spot_is a b.comp a.place earlier.0 refl in
            let m = (was.follows n.0 b n.1).kept a.place earlier.1 (subst (IsOwn kinds) same one) in
            let f = from_take order n.0 m.0 (spot b.comp a.place) m.1 in
            (m.0, n.0, f.0, subst (IsAt order m.0) (sym same) f.1, n.1);
        sent = λ i a there. (was.follows i a there).sent;
        seen = λ i a there look. (was.follows i a there).seen look;
        ended = λ c. sym (was.sent c ∙ ap (λ n. take n (came_in (kinds c))) (all c) ∙ take-length (came_in (kinds c)));
      }
