-- The senders that were seen, and their numbers.
use Rattle.std.proofs.Common.{◌≡◌, ℕ, ◌+◌, Bool, true, false, not, cond, ◌||◌, List, [], ◌∷◌, ◌++◌, map, refl, ap, sym, ◌∙◌}
use Rattle.std.specs.Prelude.{nat_eq, if◌then◌else◌}
use Rattle.std.specs.List.{list_any, position_or_len}
use Rattle.std.specs.Cmp.Lexicographic.{pointwise}
use Rattle.std.specs.Cmp.Lexicographic.{nat_list_eq_equiv}
use Rattle.tp_port.specs.Replay.{with_sender, sender_number}

any_map : {X Y : Type 0} (v : X → Y) (p : Y → Bool) (xs : List X) → list_any (λ x. p (v x)) xs ≡ list_any p (map v xs)
any_map v p [] = refl
any_map v p (x ∷ xs) = ap (λ b. p (v x) || b) (any_map v p xs)

place_map : {X Y : Type 0} (v : X → Y) (p : Y → Bool) (xs : List X) → position_or_len (λ x. p (v x)) xs ≡ position_or_len p (map v xs)
place_map v p [] = refl
place_map v p (x ∷ xs) = ap (λ n. cond (not (p (v x))) (1 + n) 0) (place_map v p xs)

map_push : {X Y : Type 0} (v : X → Y) (xs : List X) (x : X) → map v (xs ++ x ∷ []) ≡ map v xs ++ v x ∷ []
map_push v [] x = refl
map_push v (y ∷ xs) x = ap (λ l. v y ∷ l) (map_push v xs x)

map_either : {X Y : Type 0} (v : X → Y) (b : Bool) (xs : List X) (x : X) → map v (cond b xs (xs ++ x ∷ [])) ≡ cond b (map v xs) (map v xs ++ v x ∷ [])
map_either v true xs x = refl
map_either v false xs x = map_push v xs x

-- the names, once a key of this name is inserted
pub seen_keys : {X : Type 0} (v : X → List ℕ) (keys : List X) (key : X)
    → map v (if list_any (λ k. pointwise nat_eq (v key) (v k)) keys then keys else keys ++ key ∷ []) ≡ with_sender (map v keys) (v key)
seen_keys v keys key =
    map_either v (list_any (λ k. pointwise nat_eq (v key) (v k)) keys) keys key
    ∙ ap (λ b. cond b (map v keys) (map v keys ++ v key ∷ [])) (any_map v (pointwise nat_eq (v key)) keys)

-- where the last passes, the place of the first that passes is the same without it
place_push : {X : Type 0} (p : X → Bool) (xs : List X) (x : X) → p x ≡ true → position_or_len p (xs ++ x ∷ []) ≡ position_or_len p xs
place_push p [] x e = ap (λ b. cond (not b) (1 + 0) 0) e
place_push p (y ∷ xs) x e = ap (λ n. cond (not (p y)) (1 + n) 0) (place_push p xs x e)

place_either : (b : Bool) (p : List ℕ → Bool) (names : List (List ℕ)) (name : List ℕ) → p name ≡ true
    → position_or_len p (cond b names (names ++ name ∷ [])) ≡ position_or_len p names
place_either true p names name e = refl
place_either false p names name e = place_push p names name e

-- a sender has its number from its first sight on
pub number_seen : (senders : List (List ℕ)) (name : List ℕ) → sender_number (with_sender senders name) name ≡ sender_number senders name
number_seen senders name =
    place_either (list_any (pointwise nat_eq name) senders) (pointwise nat_eq name) senders name (nat_list_eq_equiv.refl name)

pub number_key : {X : Type 0} (v : X → List ℕ) (keys : List X) (key : X)
    → position_or_len (λ k. pointwise nat_eq (v key) (v k)) keys ≡ sender_number (with_sender (map v keys) (v key)) (v key)
number_key v keys key = place_map v (pointwise nat_eq (v key)) keys ∙ sym (number_seen (map v keys) (v key))
