-- One step of a loop over a list.
use Rattle.std.proofs.Common.{◌≡◌, ℕ, zero, suc, ◌+◌, ◌<◌, ◌≤◌, List, [], ◌∷◌, ◌++◌, Option, None, Some, length, take, get_or, map, sym, ap, ◌∙◌, refl, subst, arith, All, Contains, add-one, slice_get}
use Rattle.std.proofs.lemmas.List.{take_more, map_push, flat_map_more, take_all, append_assoc}
use Rattle.std.proofs.lemmas.List.Elements.{All-push, filter_map-append}
use Rattle.std.proofs.lemmas.Option.{same_Some, slice_get_read}
use Rattle.std.specs.{List.AllZip, List.filter_map, List.flat_map, List.cons_option, List.zip, Option.option_to_list}

-- the items up to the next one
pub pushed : {A : Type 0} (xs : List A) (i : ℕ) (x : A) → i < length xs → x ≡ get_or xs i x → take i xs ++ x ∷ [] ≡ take (i + 1) xs
pushed xs i x lt is = sym (take_more xs i x lt ∙ ap (λ y. take i xs ++ y ∷ []) (sym is))

-- the next one
pub there : {A : Type 0} (xs : List A) (i : ℕ) (x : A) → i < length xs → x ≡ get_or xs i x → slice_get xs i ≡ Some x
there xs i x lt is = slice_get_read xs (length xs) i x refl lt is

pub all_more : {A : Type 0} (P : A → Type 0) (xs : List A) (i : ℕ) (x : A) → i < length xs → x ≡ get_or xs i x → All P (take i xs) → P x
    → All P (take (i + 1) xs)
all_more P xs i x lt is each here = subst (All P) (pushed xs i x lt is) (All-push P (take i xs) x each here)

pub all_whole : {A : Type 0} (P : A → Type 0) (xs : List A) (i : ℕ) → length xs ≤ i → All P (take i xs) → All P xs
all_whole P xs i le each = subst (All P) (take_all i xs le) each

pub zip_push : {A B : Type 0} (R : A → B → Type 0) (xs : List A) (ys : List B) (x : A) (y : B) → AllZip R xs ys → R x y → AllZip R (xs ++ x ∷ []) (ys ++ y ∷ [])
zip_push R [] [] x y each here = (here, tt)
zip_push R (a ∷ xs) (b ∷ ys) x y each here = (each.0, zip_push R xs ys x y each.1 here)
zip_push _ _ _ _ _ each _ = absurd each

pub zip_more : {A B : Type 0} (R : A → B → Type 0) (xs : List A) (ys : List B) (i : ℕ) (x : A) (y : B) → i < length xs → x ≡ get_or xs i x
    → AllZip R (take i xs) ys → R x y → AllZip R (take (i + 1) xs) (ys ++ y ∷ [])
zip_more R xs ys i x y lt is each here = subst (λ l. AllZip R l (ys ++ y ∷ [])) (pushed xs i x lt is) (zip_push R (take i xs) ys x y each here)

kept_one : {A B : Type 0} (h : A → Option B) (x : A) → filter_map h (x ∷ []) ≡ option_to_list (h x)
kept_one {A} {B} h x = by (h x) where
  by : (o : Option B) → cons_option o [] ≡ option_to_list o
  by None = refl
  by (Some y) = refl

-- what h gives of the items up to the next one
pub kept_more : {A B : Type 0} (h : A → Option B) (xs : List A) (i : ℕ) (x : A) → i < length xs → x ≡ get_or xs i x
    → filter_map h (take (i + 1) xs) ≡ filter_map h (take i xs) ++ option_to_list (h x)
kept_more h xs i x lt is =
    ap (filter_map h) (sym (pushed xs i x lt is)) ∙ filter_map-append h (take i xs) (x ∷ []) ∙ ap (λ l. filter_map h (take i xs) ++ l) (kept_one h x)

-- the same, where the items are seen through f
pub zip_map_more : {A B C : Type 0} (R : B → C → Type 0) (f : A → B) (xs : List A) (ys : List C) (i : ℕ) (x : A) (y : C) → i < length xs → x ≡ get_or xs i x
    → AllZip R (map f (take i xs)) ys → R (f x) y → AllZip R (map f (take (i + 1) xs)) (ys ++ y ∷ [])
zip_map_more R f xs ys i x y lt is each here =
    subst (λ l. AllZip R l (ys ++ y ∷ [])) (sym (map_push f (take i xs) x) ∙ ap (map f) (pushed xs i x lt is))
    (zip_push R (map f (take i xs)) ys (f x) y each here)

-- what f gives of the items up to the next one, in a row
pub flat_more : {A B : Type 0} (f : A → List B) (xs : List A) (i : ℕ) (x : A) → i < length xs → x ≡ get_or xs i x
    → flat_map f (take (i + 1) xs) ≡ flat_map f (take i xs) ++ f x
flat_more f xs i x lt is = ap (flat_map f) (sym (pushed xs i x lt is)) ∙ sym (flat_map_more f [] (take i xs) x)

-- another list, and the items up to the next one after it
pub behind_more : {A : Type 0} (before xs : List A) (i : ℕ) (x : A) → i < length xs → x ≡ get_or xs i x
    → (before ++ take i xs) ++ x ∷ [] ≡ before ++ take (i + 1) xs
behind_more before xs i x lt is = append_assoc before (take i xs) (x ∷ []) ∙ ap (λ l. before ++ l) (pushed xs i x lt is)

-- what stands at the place of an item in the other list
pub zip_at : {A B : Type 0} (R : A → B → Type 0) (xs : List A) (ys : List B) (k : ℕ) (y : B) → AllZip R xs ys → slice_get ys k ≡ Some y
    → (x : A) × (slice_get xs k ≡ Some x) × R x y
zip_at R [] [] k y each e = absurd (cc)
zip_at R (a ∷ xs) (b ∷ ys) zero y each e = (a, refl, subst (R a) (same_Some b y e) each.0)
zip_at R (a ∷ xs) (b ∷ ys) (suc k) y each e = zip_at R xs ys k y each.1 e
zip_at _ _ _ _ _ each _ = absurd each

pub contains_at : {A : Type 0} (xs : List A) (k : ℕ) (x : A) → slice_get xs k ≡ Some x → Contains xs x
contains_at [] k x e = absurd (cc)
contains_at (a ∷ xs) zero x e = (0, omega arith, same_Some a x e)
contains_at (a ∷ xs) (suc k) x e = let r = contains_at xs k x e in (r.0 + 1, omega (arith, r.1), rw add-one r.2)

pub zip_append : {A B : Type 0} (R : A → B → Type 0) (xs more : List A) (ys others : List B) → AllZip R xs ys → AllZip R more others
    → AllZip R (xs ++ more) (ys ++ others)
zip_append R [] more [] others each rest = rest
zip_append R (a ∷ xs) more (b ∷ ys) others each rest = (each.0, zip_append R xs more ys others each.1 rest)
zip_append _ _ _ _ _ each _ = absurd each

-- two lists made of one
pub zip_maps : {A B C : Type 0} (R : B → C → Type 0) (f : A → B) (g : A → C) (xs : List A) → ((x : A) → R (f x) (g x)) → AllZip R (map f xs) (map g xs)
zip_maps R f g [] each = tt
zip_maps R f g (x ∷ xs) each = (each x, zip_maps R f g xs each)

-- what stands beside an item of the first list
pub zip_beside : {A B : Type 0} (R : A → B → Type 0) (xs : List A) (ys : List B) (k : ℕ) (x : A) → AllZip R xs ys → slice_get xs k ≡ Some x
    → (y : B) × (slice_get ys k ≡ Some y) × R x y
zip_beside R [] ys k x each e = absurd (cc)
zip_beside R (a ∷ xs) [] k x each e = absurd each
zip_beside R (a ∷ xs) (b ∷ ys) zero x each e = (b, refl, subst (λ c. R c b) (same_Some a x e) each.0)
zip_beside R (a ∷ xs) (b ∷ ys) (suc k) x each e = zip_beside R xs ys k x each.1 e

pub zip_one_more : {A B : Type 0} (xs : List A) (ys : List B) (x : A) (y : B) → length xs ≡ length ys → zip xs ys ++ (x, y) ∷ [] ≡ zip (xs ++ x ∷ []) (ys ++ y ∷ [])
zip_one_more [] [] x y e = refl
zip_one_more [] (b ∷ ys) x y e = absurd (omega (arith, e))
zip_one_more (a ∷ xs) [] x y e = absurd (omega (arith, e))
zip_one_more (a ∷ xs) (b ∷ ys) x y e = ap (λ l. (a, b) ∷ l) (zip_one_more xs ys x y (omega (arith, e)))

pub zip_pair : {A B : Type 0} (xs : List A) (ys : List B) (k : ℕ) (x : A) (y : B) → slice_get xs k ≡ Some x → slice_get ys k ≡ Some y
    → slice_get (zip xs ys) k ≡ Some (x, y)
zip_pair (a ∷ xs) (b ∷ ys) zero x y e f = cc
zip_pair (a ∷ xs) (b ∷ ys) (suc k) x y e f = zip_pair xs ys k x y e f
zip_pair _ _ k x y e f = absurd (cc)
