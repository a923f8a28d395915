-- Places in a list, and in what a part of its elements gives.
use Rattle.std.proofs.Common.{◌≡◌, inl, inr, ℕ, zero, suc, ◌<◌, Option, Some, None, List, [], ◌∷◌, ◌++◌, length}
use Rattle.std.proofs.Common.{take, refl, ap, ◌∙◌, arith}
use Rattle.std.specs.Prelude.{slice_get}
use Rattle.std.specs.List.{filter_map, cons_option}
use Rattle.std.proofs.lemmas.List.{take-take}
use Rattle.std.proofs.lemmas.Bool.{cases_order}
use Rattle.std.proofs.lemmas.Option.{slice_get_within, none-some}
use Rattle.tp_judge.proofs.ReferencedLinesGrowth.{at_seam}

-- how much the elements before a place give
abbrev pub rank_of : {X Y : Type 0} → (X → Option Y) → List X → ℕ → ℕ
rank_of f xs i = length (filter_map f (take i xs))

cons_option-append : {Y : Type 0} (o : Option Y) (xs ys : List Y) → cons_option o (xs ++ ys) ≡ cons_option o xs ++ ys
cons_option-append None xs ys = refl
cons_option-append (Some y) xs ys = refl

-- what all give is cut at what one of them gives
cut_at : {X Y : Type 0} (f : X → Option Y) (xs : List X) (i : ℕ) (x : X) (y : Y) → slice_get xs i ≡ Some x → f x ≡ Some y
    → (rest : List Y) × (filter_map f xs ≡ filter_map f (take i xs) ++ y ∷ rest)
cut_at f [] i x y at gives = absurd (cc)
cut_at f (z ∷ xs) zero x y at gives =
    let same : z ≡ x = cc in
    (filter_map f xs, ap (λ o. cons_option o (filter_map f xs)) (ap f same ∙ gives))
cut_at f (z ∷ xs) (suc i) x y at gives =
    let rest = cut_at f xs i x y at gives in
    (rest.0, ap (cons_option (f z)) rest.1 ∙ cons_option-append (f z) (filter_map f (take i xs)) (y ∷ rest.0))

-- what an element gives stands at its rank
pub ranked : {X Y : Type 0} (f : X → Option Y) (xs : List X) (i : ℕ) (x : X) (y : Y) → slice_get xs i ≡ Some x → f x ≡ Some y
    → slice_get (filter_map f xs) (rank_of f xs i) ≡ Some y
ranked f xs i x y at gives =
    let rest = cut_at f xs i x y at gives in
    ap (λ l. slice_get l (rank_of f xs i)) rest.1 ∙ at_seam (filter_map f (take i xs)) rest.0 y

-- the element at a place gives what stands at a rank
pub record IsRanked {X Y : Type 0} (f : X → Option Y) (xs : List X) (rank : ℕ) (y : Y) : Type 0 where
  pub place : ℕ
  pub element : X
  pub at : slice_get xs place ≡ Some element
  pub gives : f element ≡ Some y
  pub is : rank_of f xs place ≡ rank

-- one element more
unranked_more : {X Y : Type 0} (f : X → Option Y) (x : X) (xs : List X) (y : Y) (o : Option Y) → f x ≡ o → (rank : ℕ)
    → slice_get (cons_option o (filter_map f xs)) rank ≡ Some y
    → ((k : ℕ) → slice_get (filter_map f xs) k ≡ Some y → IsRanked f xs k y) → IsRanked f (x ∷ xs) rank y
unranked_more f x xs y None is rank at before =
    let rest = before rank at in
    record {
      place = suc rest.place;
      element = rest.element;
      at = rest.at;
      gives = rest.gives;
      is = ap (λ o. length (cons_option o (filter_map f (take rest.place xs)))) is ∙ rest.is;
    }
unranked_more f x xs y (Some z) is zero at before =
    record { place = 0; element = x; at = refl; gives = is ∙ at; is = refl }
unranked_more f x xs y (Some z) is (suc rank) at before =
    let rest = before rank at in
    record {
      place = suc rest.place;
      element = rest.element;
      at = rest.at;
      gives = rest.gives;
      is = ap (λ o. length (cons_option o (filter_map f (take rest.place xs)))) is ∙ ap suc rest.is;
    }

-- each rank has such a place
pub unranked : {X Y : Type 0} (f : X → Option Y) (xs : List X) (rank : ℕ) (y : Y) → slice_get (filter_map f xs) rank ≡ Some y
    → IsRanked f xs rank y
unranked f [] rank y at = absurd (none-some y at)
unranked f (x ∷ xs) rank y at = unranked_more f x xs y (f x) refl rank at (λ k there. unranked f xs k y there)

-- what stands before a place stands so in the front
pub in_front : {X : Type 0} (xs : List X) (i j : ℕ) (x : X) → i < j → slice_get xs i ≡ Some x → slice_get (take j xs) i ≡ Some x
in_front [] i j x below at = absurd (none-some x at)
in_front (y ∷ xs) i zero x below at = absurd (omega arith)
in_front (y ∷ xs) zero (suc j) x below at = at
in_front (y ∷ xs) (suc i) (suc j) x below at = in_front xs i j x (omega arith) at

-- and the other way round
pub from_front : {X : Type 0} (xs : List X) (i j : ℕ) (x : X) → slice_get (take j xs) i ≡ Some x → (i < j) × (slice_get xs i ≡ Some x)
from_front [] i zero x at = absurd (none-some x at)
from_front [] i (suc j) x at = absurd (none-some x at)
from_front (y ∷ xs) i zero x at = absurd (none-some x at)
from_front (y ∷ xs) zero (suc j) x at = (omega arith, at)
from_front (y ∷ xs) (suc i) (suc j) x at =
    let rest = from_front xs i j x at in
    let below = rest.0 in
    (omega arith, rest.1)

-- an element that gives something counts for those after it
pub rank_rises : {X Y : Type 0} (f : X → Option Y) (xs : List X) (i j : ℕ) (x : X) (y : Y) → i < j → slice_get xs i ≡ Some x
    → f x ≡ Some y → rank_of f xs i < rank_of f xs j
rank_rises f xs i j x y below at gives =
    let there = ranked f (take j xs) i x y (in_front xs i j x below at) gives in
    let within = slice_get_within (filter_map f (take j xs)) (rank_of f (take j xs) i) y there in
    let same : rank_of f (take j xs) i ≡ rank_of f xs i = ap (λ l. length (filter_map f l)) (take-take i j xs (omega arith)) in
    omega arith

-- two elements that give something have two ranks
pub same_rank : {X Y : Type 0} (f : X → Option Y) (xs : List X) (i j : ℕ) (x z : X) (y v : Y) → slice_get xs i ≡ Some x
    → slice_get xs j ≡ Some z → f x ≡ Some y → f z ≡ Some v → rank_of f xs i ≡ rank_of f xs j → i ≡ j
same_rank f xs i j x z y v first second gives other is = elim (cases_order i j) [
  | inl same ↦ same
  | inr apart ↦ elim apart [
    | inl below ↦ absurd (let less = rank_rises f xs i j x y below first gives in omega arith)
    | inr above ↦ absurd (let less = rank_rises f xs j i z v above second other in omega arith)
  ]
]

-- something stands at each place
pub slice_there : {X : Type 0} (xs : List X) (i : ℕ) → i < length xs → (x : X) × (slice_get xs i ≡ Some x)
slice_there [] i below = absurd (omega arith)
slice_there (x ∷ xs) zero below = (x, refl)
slice_there (x ∷ xs) (suc i) below = slice_there xs i (omega arith)
