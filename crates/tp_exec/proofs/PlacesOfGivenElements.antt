-- What is given of the elements of a list: which place it has in all that is given, and of which element it is.
use Rattle.std.proofs.Common.{◌≡◌, inl, inr, ℕ, zero, suc, ◌+◌, ◌<◌, ◌≤◌, Option, Some, None, List, [], ◌∷◌, ◌++◌}
use Rattle.std.proofs.Common.{length, take, drop, refl, sym, ap, ◌∙◌, arith}
use Rattle.std.specs.Prelude.{slice_get}
use Rattle.std.specs.List.{filter_map, cons_option}
use Rattle.std.proofs.lemmas.Bool.{cases_lt}
use Rattle.std.proofs.lemmas.List.{length-append, take-append-drop, take-take}
use Rattle.std.proofs.lemmas.List.Elements.{filter_map-append}
use Rattle.std.proofs.lemmas.Option.{same_Some}
use Rattle.tp_exec.proofs.LooksSeeSentMessages.{given_one}

-- how much is given of the first so many elements
abbrev pub so_much : {X Y : Type 0} → (X → Option Y) → List X → ℕ → ℕ
so_much f k n = length (filter_map f (take n k))

-- that is the place of what is given of the next
given_next : {Y : Type 0} (o : Option Y) (ys zs : List Y) (y : Y) → slice_get ys (length zs) ≡ Some y
    → slice_get (cons_option o ys) (length (cons_option o zs)) ≡ Some y
given_next None ys zs y h = h
given_next (Some z) ys zs y h = h

pub given_at : {X Y : Type 0} (f : X → Option Y) (k : List X) (n : ℕ) (x : X) (y : Y) → slice_get k n ≡ Some x → f x ≡ Some y
    → slice_get (filter_map f k) (so_much f k n) ≡ Some y
given_at f [] n x y is at = absurd (cc)
given_at f (z ∷ k) zero x y is at = ap (λ o. slice_get (cons_option o (filter_map f k)) 0) (ap f (same_Some z x is) ∙ at)
given_at f (z ∷ k) (suc n) x y is at = given_next (f z) (filter_map f k) (filter_map f (take n k)) y (given_at f k n x y is at)

-- with it there is one more
pub one_more_given : {X Y : Type 0} (f : X → Option Y) (k : List X) (n : ℕ) (x : X) (y : Y) → slice_get k n ≡ Some x → f x ≡ Some y
    → so_much f k (n + 1) ≡ so_much f k n + 1
one_more_given f k n x y is at =
    ap length (given_one f k n x is) ∙ ap (λ o. length (filter_map f (take n k) ++ cons_option o [])) at ∙ length-append (filter_map f (take n k)) (y ∷ [])

pub given_grows : {X Y : Type 0} (f : X → Option Y) (k : List X) (n m : ℕ) → n ≤ m → so_much f k n ≤ so_much f k m
given_grows f k n m most =
    let front = filter_map f (take n (take m k)) in
    let rest = filter_map f (drop n (take m k)) in
    let whole = ap length (sym (filter_map-append f (take n (take m k)) (drop n (take m k))) ∙ ap (filter_map f) (take-append-drop n (take m k))) in
    let sizes = length-append front rest in
    let same = ap (λ l. length (filter_map f l)) (take-take n m k most) in
    omega (arith, whole, sizes, same)

-- so a later element's is later
pub given_later : {X Y : Type 0} (f : X → Option Y) (k : List X) (n m : ℕ) (x : X) (y : Y) → n < m → slice_get k n ≡ Some x → f x ≡ Some y
    → so_much f k n < so_much f k m
given_later f k n m x y less is at =
    let one = one_more_given f k n x y is at in
    let grown = given_grows f k (n + 1) m (omega (arith, less)) in
    omega (arith, one, grown)

-- and its place tells which of two elements is the first
pub given_tells : {X Y : Type 0} (f : X → Option Y) (k : List X) (n m : ℕ) → so_much f k n < so_much f k m → n < m
given_tells f k n m less = elim (cases_lt n m) [
  | inl low ↦ low
  | inr most ↦ let grown = given_grows f k m n most in absurd (omega (arith, less, grown))
]

-- what is given is given of one of them
pub record IsGivenAt {X Y : Type 0} (f : X → Option Y) (k : List X) (place : ℕ) (y : Y) : Type 0 where
  pub at : ℕ
  pub element : X
  pub is : slice_get k at ≡ Some element
  pub gives : f element ≡ Some y
  pub so : so_much f k at ≡ place

one_behind : {X Y : Type 0} (f : X → Option Y) (z : X) (k : List X) (place : ℕ) (y : Y) (o : Option Y) → f z ≡ o
    → ((n : ℕ) → slice_get (filter_map f k) n ≡ Some y → IsGivenAt f k n y)
    → slice_get (cons_option o (filter_map f k)) place ≡ Some y → IsGivenAt f (z ∷ k) place y
one_behind f z k place y None is more at =
    let h = more place at in
    record {
      at = suc h.at;
      element = h.element;
      is = h.is;
      gives = h.gives;
      so = ap (λ o. length (cons_option o (filter_map f (take h.at k)))) is ∙ h.so;
    }
one_behind f z k zero y (Some w) is more at = record { at = 0; element = z; is = refl; gives = is ∙ at; so = refl }
one_behind f z k (suc n) y (Some w) is more at =
    let h = more n at in
    record {
      at = suc h.at;
      element = h.element;
      is = h.is;
      gives = h.gives;
      so = ap (λ o. length (cons_option o (filter_map f (take h.at k)))) is ∙ ap suc h.so;
    }

pub given_of : {X Y : Type 0} (f : X → Option Y) (k : List X) (place : ℕ) (y : Y) → slice_get (filter_map f k) place ≡ Some y → IsGivenAt f k place y
given_of f [] place y at = absurd (cc)
given_of f (z ∷ k) place y at = one_behind f z k place y (f z) refl (λ n there. given_of f k n y there) at

-- what is given of what is given
pub given_twice : {X Y Z : Type 0} (f : X → Option Y) (g : Y → Option Z) (h : X → Option Z)
    → ((x : X) (ys : List Y) → filter_map g (cons_option (f x) ys) ≡ cons_option (h x) (filter_map g ys))
    → (k : List X) → filter_map g (filter_map f k) ≡ filter_map h k
given_twice f g h one [] = refl
given_twice f g h one (x ∷ k) = one x (filter_map f k) ∙ ap (cons_option (h x)) (given_twice f g h one k)

-- as much of the one is given as of the other
pub given_alike : {X Y Z : Type 0} (f : X → Option Y) (g : X → Option Z)
    → ((x : X) → length (cons_option (f x) []) ≡ length (cons_option (g x) []))
    → (k : List X) → length (filter_map f k) ≡ length (filter_map g k)
given_alike f g one [] = refl
given_alike f g one (x ∷ k) =
    let more = filter_map-append f (x ∷ []) k in
    let also = filter_map-append g (x ∷ []) k in
    let size = length-append (cons_option (f x) []) (filter_map f k) in
    let other = length-append (cons_option (g x) []) (filter_map g k) in
    let here = one x in
    let rest = given_alike f g one k in
    omega (arith, ap length more, ap length also, size, other, here, rest)
