-- Histories that say the same of places under other names have the same orders.
use Rattle.std.proofs.Common.{◌≡◌, ℕ, zero, suc, ◌<◌, ◌++◌, Option, Some, None, List, [], ◌∷◌, map, take, refl, sym, ap}
use Rattle.std.proofs.Common.{◌∙◌, subst, arith}
use Rattle.std.specs.Prelude.{slice_get}
use Rattle.std.specs.List.{cons_option, filter_map}
use Rattle.std.proofs.lemmas.List.{take-map}
use Rattle.std.proofs.lemmas.Option.{same_Some}
use Rattle.tp_judge.specs.OneOrder.{HasOneOrder, Histories, IsAt, IsBefore, IsFrontOf, IsOrderOf, all_sent}
use Rattle.tp_judge.proofs.SpotOrderGrowth.{from_take}

-- what stands in a list of new names
pub at_map : {X Y : Type 0} (f : X → Y) (xs : List X) (i : ℕ) (x : X) → slice_get xs i ≡ Some x → slice_get (map f xs) i ≡ Some (f x)
at_map f [] i x at = absurd (cc)
at_map f (y ∷ xs) zero x at = ap (λ z. Some (f z)) (same_Some y x at)
at_map f (y ∷ xs) (suc i) x at = at_map f xs i x at

pub map_at : {X Y : Type 0} (f : X → Y) (xs : List X) (i : ℕ) (y : Y) → slice_get (map f xs) i ≡ Some y
    → (x : X) × (slice_get xs i ≡ Some x) × (f x ≡ y)
map_at f [] i y at = absurd (cc)
map_at f (x ∷ xs) zero y at = (x, refl, same_Some (f x) y at)
map_at f (x ∷ xs) (suc i) y at = map_at f xs i y at

pub same_given : {X Y Z : Type 0} (f : X → Y) (s : X → Option Z) (t : Y → Option Z) (xs : List X)
    → ((i : ℕ) (x : X) → slice_get xs i ≡ Some x → s x ≡ t (f x)) → filter_map s xs ≡ filter_map t (map f xs)
same_given f s t [] same = refl
same_given f s t (x ∷ xs) same =
    ap (λ o. cons_option o (filter_map s xs)) (same 0 x refl)
    ∙ ap (λ l. cons_option (t (f x)) l) (same_given f s t xs (λ i y at. same (suc i) y at))

-- what the one histories say of a place, the others say of it under its new name
pub record AreRenamed {P Q M : Type 0} (these : Histories P M) (those : Histories Q M) (f : P → Q) (g : Q → P) : Type 0 where
  pub own : (a : P) → these.IsOwn a → those.IsOwn (f a)
  pub other : (b : Q) → those.IsOwn b → these.IsOwn (g b) × (f (g b) ≡ b)
  pub back : (a : P) → these.IsOwn a → g (f a) ≡ a
  pub component : (a : P) → these.IsOwn a → these.component a ≡ those.component (f a)
  pub earlier : (a b : Q) → those.IsEarlier a b → those.IsOwn a → those.IsOwn b → these.IsEarlier (g a) (g b)
  pub look : (a : P) → these.IsOwn a → those.IsLook (f a) → these.IsLook a
  pub sent_to : (c : ℕ) (a : P) → these.IsOwn a → these.sent_to c a ≡ those.sent_to c (f a)
  pub came_before : (a : P) → these.IsOwn a → these.came_before a ≡ those.came_before (f a)
  pub came : (c : ℕ) → these.came c ≡ those.came c

module _ {P Q M : Type 0} (these : Histories P M) (those : Histories Q M) (f : P → Q) (g : Q → P) (same : AreRenamed these those f g)
    (order : List P) (is : IsOrderOf these order) where
  sent_same : (c i : ℕ) → all_sent these c (take i order) ≡ all_sent those c (take i (map f order))
  sent_same c i =
      same_given f (these.sent_to c) (those.sent_to c) (take i order)
      (λ j a at. same.sent_to c a (is.own j a (from_take order i j a at).1))
      ∙ ap (λ l. all_sent those c l) (sym (take-map f i order))

  all_same : (c : ℕ) → all_sent these c order ≡ all_sent those c (map f order)
  all_same c = same_given f (these.sent_to c) (those.sent_to c) order (λ j a at. same.sent_to c a (is.own j a at))

  before_same : (a b : Q) → those.IsOwn a → those.IsOwn b → IsBefore order (g a) (g b) → IsBefore (map f order) a b
  before_same a b one two stands = (
    stands.0,
    stands.1,
    stands.2,
    at_map f order stands.0 (g a) stands.3 ∙ ap Some (same.other a one).1,
    at_map f order stands.1 (g b) stands.4 ∙ ap Some (same.other b two).1,
  )

  pub order_renamed : IsOrderOf those (map f order)
  order_renamed = record {
    own = λ i b at.
        let a = map_at f order i b at in
        subst those.IsOwn a.2 (same.own a.0 (is.own i a.0 a.1));
    each = λ b own.
        let there = same.other b own in
        let at = is.each (g b) there.0 in
        (at.0, at_map f order at.0 (g b) at.1 ∙ ap Some there.1);
    once = λ i j b one two.
        let a = map_at f order i b one in
        let c = map_at f order j b two in
        let e : c.0 ≡ a.0 = sym (same.back c.0 (is.own j c.0 c.1)) ∙ ap g (c.2 ∙ sym a.2) ∙ same.back a.0 (is.own i a.0 a.1) in
        is.once i j a.0 a.1 (c.1 ∙ ap Some e);
    kept = λ a b earlier one two.
        before_same a b one two (is.kept (g a) (g b) (same.earlier a b earlier one two) (same.other a one).0 (same.other b two).0);
    sent = λ i b at.
        let a = map_at f order i b at in
        let own = is.own i a.0 a.1 in
        let front = is.sent i a.0 a.1 in
        let P : Q → Type 0 = λ x. IsFrontOf (those.came_before x) (all_sent those (those.component x) (take i (map f order))) in
        subst P a.2 (
          front.0,
          ap (λ l. l ++ front.0) (sym (same.came_before a.0 own)) ∙ front.1 ∙ sent_same (these.component a.0) i
              ∙ ap (λ c. all_sent those c (take i (map f order))) (same.component a.0 own),
        );
    seen = λ i b at look.
        let a = map_at f order i b at in
        let own = is.own i a.0 a.1 in
        let P : Q → Type 0 = λ x. those.came_before x ≡ all_sent those (those.component x) (take i (map f order)) in
        subst P a.2
        (sym (same.came_before a.0 own) ∙ is.seen i a.0 a.1 (same.look a.0 own (subst those.IsLook (sym a.2) look))
        ∙ sent_same (these.component a.0) i ∙ ap (λ c. all_sent those c (take i (map f order))) (same.component a.0 own));
    ended = λ c. sym (same.came c) ∙ is.ended c ∙ all_same c;
  }

pub one_order_renamed : {P Q M : Type 0} (these : Histories P M) (those : Histories Q M) (f : P → Q) (g : Q → P) → AreRenamed these those f g
    → HasOneOrder these → HasOneOrder those
one_order_renamed these those f g same has = (map f has.0, order_renamed these those f g same has.0 has.1)
