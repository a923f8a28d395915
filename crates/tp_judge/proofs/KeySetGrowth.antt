-- Lists that only grow at their end, and the sets that are such lists.
use Rattle.std.proofs.Common.{Result, Ok, Err, ◌≡◌, ◌⊎◌, inl, inr, ℕ, zero, suc, ◌≤◌, ◌+◌, Bool, true, false, cond}
use Rattle.std.proofs.Common.{Some, List, [], ◌∷◌, ◌++◌, length, map, slice_get, option_map, ap, ◌∙◌, arith}
use Rattle.std.specs.Prelude.{IfOk}
use Rattle.std.specs.List.{list_any}
use Rattle.std.proofs.lemmas.List.{length_push}
use Rattle.std.proofs.lemmas.Option.{same_Some, slice_get-map}
use Rattle.indexmap.specs.IndexSet.{insert_key}
use Rattle.tp_judge.proofs.SectionNamePlaces.{seen_at}
use Rattle.tp_judge.specs.Kept.{AddsOnly, Keeps}

pub kept_append : {X : Type 0} (xs ys : List X) → Keeps xs (xs ++ ys)
kept_append [] ys k x e = absurd (cc)
kept_append (y ∷ xs) ys zero x e = e
kept_append (y ∷ xs) ys (suc k) x e = kept_append xs ys k x e

kept_either : {X : Type 0} (b : Bool) (xs : List X) (x : X) → Keeps xs (cond b xs (xs ++ x ∷ []))
kept_either true xs x k y e = e
kept_either false xs x k y e = kept_append xs (x ∷ []) k y e

-- a set keeps its keys where one is inserted
pub kept_key : {X : Type 0} (eq : X → X → Bool) (xs : List X) (x : X) → Keeps xs (insert_key eq xs x)
kept_key eq xs x = kept_either (list_any (eq x) xs) xs x

few_either : {X : Type 0} (b : Bool) (xs : List X) (x : X) → length (cond b xs (xs ++ x ∷ [])) ≤ length xs + 1
few_either true xs x = omega arith
few_either false xs x = omega (arith, length_push xs x)

pub few_key : {X : Type 0} (eq : X → X → Bool) (xs : List X) (x : X) → length (insert_key eq xs x) ≤ length xs + 1
few_key eq xs x = few_either (list_any (eq x) xs) xs x

pushed_at : {X : Type 0} (xs : List X) (x : X) (k : ℕ) (y : X) → slice_get (xs ++ x ∷ []) k ≡ Some y → (slice_get xs k ≡ Some y) ⊎ (x ≡ y)
pushed_at [] x zero y e = inr (same_Some x y e)
pushed_at [] x (suc k) y e = absurd (cc)
pushed_at (z ∷ xs) x zero y e = inl e
pushed_at (z ∷ xs) x (suc k) y e = pushed_at xs x k y e

either_at : {X : Type 0} (b : Bool) (xs : List X) (x : X) (k : ℕ) (y : X) → slice_get (cond b xs (xs ++ x ∷ [])) k ≡ Some y
    → (slice_get xs k ≡ Some y) ⊎ (x ≡ y)
either_at true xs x k y e = inl e
either_at false xs x k y e = pushed_at xs x k y e

-- what stands there once a key is inserted stood there before, or is the key
pub key_at : {X : Type 0} (eq : X → X → Bool) (xs : List X) (x : X) (k : ℕ) (y : X) → slice_get (insert_key eq xs x) k ≡ Some y
    → (slice_get xs k ≡ Some y) ⊎ (x ≡ y)
key_at eq xs x k y e = either_at (list_any (eq x) xs) xs x k y e

pub at_view : {X Y : Type 0} (v : X → Y) (xs : List X) (k : ℕ) (x : X) → slice_get xs k ≡ Some x → slice_get (map v xs) k ≡ Some (v x)
at_view v xs k x e = slice_get-map v xs k ∙ ap (option_map v) e

-- views are kept where what is seen is
pub kept_views : {X Y : Type 0} (v : X → Y) (xs ys : List X) → Keeps xs ys → Keeps (map v xs) (map v ys)
kept_views v xs ys kept k y e =
    let s = seen_at v xs k y e in at_view v ys k s.0 (kept k s.0 s.1) ∙ ap Some s.2

-- where a set adds a key at most, its views add that of the key
pub adds_views : {X Y : Type 0} (v : X → Y) (eq : X → X → Bool) (xs : List X) (x : X) → AddsOnly (map v xs) (v x) (map v (insert_key eq xs x))
adds_views v eq xs x k y e =
    let s = seen_at v (insert_key eq xs x) k y e in
    elim (key_at eq xs x k s.0 s.1) [
      | inl old ↦ inl (at_view v xs k s.0 old ∙ ap Some s.2)
      | inr same ↦ inr (ap v same ∙ s.2)
    ]

-- what two facts of a call that succeeded come to
pub from_both : {T E : Type 0} {P Q R : T → Type 0} (r : Result T E) → ((x : T) → P x → Q x → R x) → IfOk r P → IfOk r Q → IfOk r R
from_both (Ok x) f p q = f x p q
from_both (Err e) f p q = tt
