-- On lists whose elements differ in pairs, and on what is among others.
use Rattle.std.proofs.Common.{◌≡◌, inl, inr, zero, suc, Bool, true, false, cond, List, [], ◌∷◌, ◌++◌, Contains, get_or, map, refl, sym, subst, arith}
use Rattle.std.specs.Prelude.{All, AllPairs, filter}
use Rattle.std.specs.List.{flat_map}
use Rattle.std.proofs.lemmas.List.{get_or-map, length-map}
use Rattle.std.proofs.lemmas.List.Elements.{All-nil, All-cons, All-head, All-map, All-tail, All-append, Contains-append_cases, Contains-append_left, Contains-append_right, Contains-get_or}
use Rattle.std.proofs.lemmas.List.Kept.{AllPairs-cons}

all_middle : {X : Type 0} (P : X → Type 0) (xs ys : List X) (x : X) → All P (xs ++ x ∷ ys) → P x
all_middle P [] ys x h = All-head P x ys h
all_middle P (z ∷ xs) ys x h = all_middle P xs ys x (All-tail P z (xs ++ x ∷ ys) h)

pairs_head : {X : Type 0} (R : X → X → Type 0) (x : X) (xs : List X) → AllPairs R (x ∷ xs) → All (R x) xs
pairs_head R x xs h k d low = h 0 (suc k) d (omega arith) (omega arith)

pairs_tail : {X : Type 0} (R : X → X → Type 0) (x : X) (xs : List X) → AllPairs R (x ∷ xs) → AllPairs R xs
pairs_tail R x xs h i j d lt low = h (suc i) (suc j) d (omega arith) (omega arith)

-- what stands before an element is so to it
pub pairs_before : {X : Type 0} (R : X → X → Type 0) (xs ys : List X) (x : X) → AllPairs R (xs ++ x ∷ ys) → All (λ y. R y x) xs
pairs_before R [] ys x h = All-nil (λ y. R y x)
pairs_before R (z ∷ xs) ys x h =
    All-cons (λ y. R y x) z xs (all_middle (R z) xs ys x (pairs_head R z (xs ++ x ∷ ys) h)) (pairs_before R xs ys x (pairs_tail R z (xs ++ x ∷ ys) h))

-- where what f gives differs in pairs
pub mapped_pairs : {X Y : Type 0} (R : Y → Y → Type 0) (f : X → Y) (xs : List X) → AllPairs R (map f xs) → AllPairs (λ x y. R (f x) (f y)) xs
mapped_pairs R f xs h i j d below within =
    let first = get_or-map f xs i d (f d) (omega (arith, below, within)) in
    let second = get_or-map f xs j d (f d) within in
    subst (λ a. R a (f (get_or xs j d))) first
    (subst (λ b. R (get_or (map f xs) i (f d)) b) second (h i j (f d) below (let long = length-map xs f in omega (arith, within, long))))

-- and what f gives of a list that differs so
pub pairs_mapped : {X Y : Type 0} (R : Y → Y → Type 0) (f : X → Y) (xs : List X) → AllPairs (λ x y. R (f x) (f y)) xs → AllPairs R (map f xs)
pairs_mapped R f [] h = λ i j d below within. absurd (omega (arith, within))
pairs_mapped R f (x ∷ xs) h =
    AllPairs-cons R (f x) (map f xs) (All-map (R (f x)) f xs (pairs_head (λ y z. R (f y) (f z)) x xs h))
    (pairs_mapped R f xs (pairs_tail (λ y z. R (f y) (f z)) x xs h))

-- two lists that differ in pairs, and of which each element of the one is so to each of the other
pub append_pairs : {X : Type 0} (R : X → X → Type 0) (xs ys : List X) → AllPairs R xs → AllPairs R ys
    → ((x y : X) → Contains xs x → Contains ys y → R x y) → AllPairs R (xs ++ ys)
append_pairs R [] ys d e apart = e
append_pairs R (x ∷ xs) ys d e apart =
    AllPairs-cons R x (xs ++ ys) (All-append (R x) xs ys (pairs_head R x xs d) others)
    (append_pairs R xs ys (pairs_tail R x xs d) e (λ y z here there. apart y z (let low = here.1 in (suc here.0, omega arith, here.2)) there))
  where
    others : All (R x) ys
    others k z low = apart x (get_or ys k z) (0, omega arith, refl) (Contains-get_or ys k z low)

-- what holds of a list holds of its beginning
pub all_before : {X : Type 0} (P : X → Type 0) (xs ys : List X) → All P (xs ++ ys) → All P xs
all_before P [] ys h = All-nil P
all_before P (x ∷ xs) ys h = All-cons P x xs (All-head P x (xs ++ ys) h) (all_before P xs ys (All-tail P x (xs ++ ys) h))

-- an element that passes the test is among those that do
pub passes : {X : Type 0} (p : X → Bool) (xs : List X) (x : X) → Contains xs x → p x ≡ true → Contains (filter p xs) x
passes p [] x h good = absurd (omega (arith, h.1))
passes p (y ∷ ys) x (zero, low, is) good =
    subst (λ z. Contains (filter p (z ∷ ys)) x) (sym is)
    (subst (λ (b : Bool). Contains (cond b (x ∷ filter p ys) (filter p ys)) x) (sym good) (0, omega arith, refl))
passes p (y ∷ ys) x (suc k, low, is) good = by (p y) (passes p ys x (k, omega arith, is) good) where
  by : (b : Bool) → Contains (filter p ys) x → Contains (cond b (y ∷ filter p ys) (filter p ys)) x
  by true h = let inside = h.1 in (suc h.0, omega arith, h.2)
  by false h = h

-- and those that do are of the list, and pass it
pub passed : {X : Type 0} (p : X → Bool) (xs : List X) (x : X) → Contains (filter p xs) x → Contains xs x × (p x ≡ true)
passed p [] x h = absurd (omega (arith, h.1))
passed p (y ∷ ys) x h = by (p y) refl (λ g. passed p ys x g) h where
  later : Contains ys x × (p x ≡ true) → Contains (y ∷ ys) x × (p x ≡ true)
  later w = let inside = w.0.1 in ((suc w.0.0, omega arith, w.0.2), w.1)

  by : (b : Bool) → p y ≡ b → (Contains (filter p ys) x → Contains ys x × (p x ≡ true)) → Contains (cond b (y ∷ filter p ys) (filter p ys)) x
      → Contains (y ∷ ys) x × (p x ≡ true)
  by true good rest (zero, low, is) = ((0, omega arith, is), subst (λ z. p z ≡ true) is good)
  by true good rest (suc k, low, is) = later (rest (k, omega arith, is))
  by false bad rest g = later (rest g)

-- what is of one of the lists is of all of them together
pub flat_there : {X Y : Type 0} (f : X → List Y) (xs : List X) (x : X) (y : Y) → Contains xs x → Contains (f x) y → Contains (flat_map f xs) y
flat_there f [] x y h here = absurd (omega (arith, h.1))
flat_there f (z ∷ xs) x y (zero, low, is) here =
    Contains-append_left (f z) (flat_map f xs) y (subst (λ u. Contains (f u) y) (sym is) here)
flat_there f (z ∷ xs) x y (suc k, low, is) here =
    Contains-append_right (f z) (flat_map f xs) y (flat_there f xs x y (k, omega arith, is) here)

-- and what is of all of them is of one
pub flat_from : {X Y : Type 0} (f : X → List Y) (xs : List X) (y : Y) → Contains (flat_map f xs) y → (x : X) × Contains xs x × Contains (f x) y
flat_from f [] y h = absurd (omega (arith, h.1))
flat_from f (x ∷ xs) y h =
    elim (Contains-append_cases (f x) (flat_map f xs) y h) [
      | inl here ↦ (x, (0, omega arith, refl), here)
      | inr later ↦ let w = flat_from f xs y later in let low = w.1.1 in (w.0, (suc w.1.0, omega arith, w.1.2), w.2)
    ]
