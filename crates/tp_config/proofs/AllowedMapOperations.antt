-- A configuration with one more mapped pair is allowed exactly where no cause holds.
use Rattle.std.proofs.Common.{◌≡◌, ℕ, ◌+◌, ◌≤◌, Bool, true, false, cond, not, ◌&&◌, ◌||◌, ◌⊎◌, inl, inr, Some, None, List, [], ◌∷◌, ◌++◌, length, refl, ap, sym, ◌∙◌, subst, arith, length-append}
use Rattle.std.specs.Prelude.{Contains, find}
use Rattle.std.specs.Bool.{Decides}
use Rattle.std.specs.List.{cons_option, AllByRecursion}
use Rattle.std.proofs.lemmas.Bool.Decides.{Decides-and, Decides-or, Decides-not}
use Rattle.std.proofs.lemmas.List.Elements.{All-push, All-contains, Contains-push}
use Rattle.tp_config.specs.declared.port_type.PortRef.{PortRef}
use Rattle.tp_config.specs.declared.mapping.MapFault.{MapFault}
use Rattle.tp_config.specs.declared.mapping.MapFault.TheVariants as refusal
use Rattle.tp_config.specs.Pairs.{partner, partners, same_port}
use Rattle.tp_config.specs.Setup.{Setup, is_system, ins, outs, mapping}
use Rattle.tp_config.specs.Allowed.{Allowed, CanMap, MapDirected, MayMap}
use Rattle.tp_config.specs.Causes.{MapCause, MapRefused, IsFirstCause, IsInPair, map_order}
use Rattle.tp_config.specs.Kept.{KeepsPairs}
use Rattle.tp_config.specs.Tests.{map_test, map_directed, are_among, is_connected, is_mapped}
use Rattle.tp_config.proofs.FirstCauseByTests.{first_from_find, none_from_find}
use Rattle.tp_config.proofs.CreateTestsDecideCauses.{port_decides, among_decides, Contains-here}
use Rattle.tp_config.proofs.ConnectTestsDecideCauses.{connected_decides, mapped_decides, same_decides}
use Rattle.tp_config.proofs.AllowedConnectOperations.{partners_push, push_cases, push_first, push_second, stable}

implies_decides : {P : Type 0} (x y : Bool) → Decides y P → Decides (not x || y) (x ≡ true → P)
implies_decides true y d = (λ e _. d.0 e, λ h. d.1 (h refl))
implies_decides false y d = (λ _ e. absurd (cc), λ _. refl)

map_directed_decides : (s : Setup) (p q : PortRef) → Decides (map_directed s.types s.components p q) (MapDirected s.types s.components p q)
map_directed_decides s p q =
    Decides-and (are_among (outs s.types s.components p) (outs s.types s.components q))
    (are_among (ins s.types s.components q) (ins s.types s.components p)) (among_decides (outs s.types s.components p) (outs s.types s.components q))
    (among_decides (ins s.types s.components q) (ins s.types s.components p))

-- the pair has the directions that a mapping needs
Fits : Setup → PortRef → PortRef → Type 0
Fits s p q = (is_system s.components q ≡ true → MapDirected s.types s.components p q) × (is_system s.components p ≡ true → MapDirected s.types s.components q p)

abbrev fits : Setup → PortRef → PortRef → Bool
fits s p q =
    (not (is_system s.components q) || map_directed s.types s.components p q) && (not (is_system s.components p) || map_directed s.types s.components q p)

fits_decides : (s : Setup) (p q : PortRef) → Decides (fits s p q) (Fits s p q)
unfolding Fits
fits_decides s p q =
    Decides-and (not (is_system s.components q) || map_directed s.types s.components p q)
    (not (is_system s.components p) || map_directed s.types s.components q p)
    (implies_decides (is_system s.components q) (map_directed s.types s.components p q) (map_directed_decides s p q))
    (implies_decides (is_system s.components p) (map_directed s.types s.components q p) (map_directed_decides s q p))

pub map_decides : (s : Setup) (links : List (List (List PortRef))) (p q : PortRef) → KeepsPairs s links → (f : MapFault)
    → Decides (map_test s.types s.components links p q f) (MapCause s p q f)
unfolding Fits
map_decides s links p q k refusal.NotSystem = same_decides (is_system s.components p) (is_system s.components q)
map_decides s links p q k refusal.Mixed =
    Decides-or (is_connected s.components links p) (is_connected s.components links q) (connected_decides s links k p) (connected_decides s links k q)
map_decides s links p q k refusal.NotOneToOne =
    Decides-or (is_mapped s.components links p) (is_mapped s.components links q) (mapped_decides s links k p) (mapped_decides s links k q)
map_decides s links p q k refusal.MapDirections = Decides-not (fits s p q) (fits_decides s p q)
map_decides s links p q k refusal.Memory = (λ e. absurd (cc), λ h. absurd h)

no_partners_in : (l : List PortRef) → ((q : PortRef) → Contains l q → ⊥) → l ≡ []
no_partners_in [] h = refl
no_partners_in (x ∷ l) h = absurd (h x (Contains-here x l))

pub no_partners : (pairs : List (PortRef × PortRef)) (p : PortRef) → ¬ IsInPair pairs p → partners pairs p ≡ []
no_partners pairs p h = no_partners_in (partners pairs p) (λ q c. h (q, c))

length_push : (xs : List (PortRef × PortRef)) (pair : PortRef × PortRef) (p : PortRef)
    → length (partners (xs ++ pair ∷ []) p) ≡ length (partners xs p) + length (cons_option (partner p pair) [])
length_push xs pair p = ap length (partners_push xs pair p) ∙ length-append (partners xs p) (cons_option (partner p pair) [])

one_at_most : (a b p : PortRef) (n : ℕ) (s t : Bool) → same_port p a ≡ s → same_port p b ≡ t → (p ≡ a → n ≡ 0) → (p ≡ b → n ≡ 0) → n ≤ 1
    → n + length (cons_option (cond s (Some b) (cond t (Some a) None)) []) ≤ 1
one_at_most a b p n true t e f ha hb h = let z : n ≡ 0 = ha ((port_decides p a).0 e) in omega arith
one_at_most a b p n false true e f ha hb h = let z : n ≡ 0 = hb ((port_decides p b).0 f) in omega arith
one_at_most a b p n false false e f ha hb h = omega arith

no_length : (pairs : List (PortRef × PortRef)) (a p : PortRef) → ¬ IsInPair pairs a → p ≡ a → length (partners pairs p) ≡ 0
no_length pairs a p h e = ap (λ x. length (partners pairs x)) e ∙ ap length (no_partners pairs a h)

map_apart : (connected : List (PortRef × PortRef)) (a b x y r : PortRef) → ¬ IsInPair connected a → ¬ IsInPair connected b
    → ((x ≡ a) × (r ≡ b)) ⊎ ((x ≡ b) × (r ≡ a)) → Contains (partners connected x) y → ⊥
map_apart connected a b x y r na nb (inl u) h = na (y, subst (λ w. Contains (partners connected w) y) u.0 h)
map_apart connected a b x y r na nb (inr u) h = nb (y, subst (λ w. Contains (partners connected w) y) u.0 h)

map_allowed : (s : Setup) (a b : PortRef) → Allowed s → AllByRecursion (λ f. ¬ MapCause s a b f) map_order → Allowed (mapping s a b)
unfolding Fits
map_allowed s a b l none =
    let free_a : ¬ IsInPair s.connected a = λ h. none.1.0 (inl h) in
    let free_b : ¬ IsInPair s.connected b = λ h. none.1.0 (inr h) in
    let unmapped_a : ¬ IsInPair s.mapped a = λ h. none.1.1.0 (inl h) in
    let unmapped_b : ¬ IsInPair s.mapped b = λ h. none.1.1.0 (inr h) in
    let directed : Fits s a b = stable (fits s a b) (fits_decides s a b) none.1.1.1.0 in
    let pair : MayMap s.types s.components (a, b) = record { one_system = none.0; to_second = directed.0; to_first = directed.1 } in
    record {
      may_connect = l.may_connect;
      one_of_each = l.one_of_each;
      may_map = All-push (MayMap s.types s.components) s.mapped (a, b) l.may_map pair;
      one_mapping = λ p.
          let before : length (partners s.mapped p) ≤ 1 = l.one_mapping p in
          let after : length (partners s.mapped p) + length (cons_option (partner p (a, b)) []) ≤ 1 =
          one_at_most a b p (length (partners s.mapped p)) (same_port p a) (same_port p b) refl refl (no_length s.mapped a p unmapped_a)
          (no_length s.mapped b p unmapped_b) before in
          omega (arith, length_push s.mapped (a, b) p);
      apart = λ x y r hy hr. elim (push_cases s.mapped a b x r hr)
          [ inl old ↦ l.apart x y r hy old | inr new ↦ map_apart s.connected a b x y r free_a free_b new hy ];
    }

two_partners : (l : List PortRef) (q : PortRef) → Contains l q → 1 ≤ length l
two_partners l q h = omega (arith, h.1)

pushed_two : (s : Setup) (a b p q : PortRef) → Contains (partners s.mapped p) q → 1 ≤ length (cons_option (partner p (a, b)) [])
    → length (partners (s.mapped ++ (a, b) ∷ []) p) ≤ 1 → ⊥
pushed_two s a b p q h new one = omega (arith, length_push s.mapped (a, b) p, two_partners (partners s.mapped p) q h)

partner_first : (a b : PortRef) → 1 ≤ length (cons_option (partner a (a, b)) [])
partner_first a b =
    let new : partner a (a, b) ≡ Some b = ap (λ t. cond t (Some b) (cond (same_port a b) (Some a) None)) ((port_decides a a).1 refl) in
    subst (λ o. 1 ≤ length (cons_option o [])) (sym new) (omega arith)

partner_second_at : (a b : PortRef) (t : Bool) → 1 ≤ length (cons_option (cond t (Some b) (Some a)) [])
partner_second_at a b true = omega arith
partner_second_at a b false = omega arith

partner_second : (a b : PortRef) → 1 ≤ length (cons_option (partner b (a, b)) [])
partner_second a b =
    let new : partner b (a, b) ≡ cond (same_port b a) (Some b) (Some a) =
    ap (λ t. cond (same_port b a) (Some b) (cond t (Some a) None)) ((port_decides b b).1 refl) in
    subst (λ o. 1 ≤ length (cons_option o [])) (sym new) (partner_second_at a b (same_port b a))

new_pair : (s : Setup) (a b : PortRef) → CanMap s a b → MayMap s.types s.components (a, b)
new_pair s a b can = All-contains (MayMap s.types s.components) (s.mapped ++ (a, b) ∷ []) (a, b) can.1.may_map (Contains-push s.mapped (a, b))

cause_refuses : (s : Setup) (a b : PortRef) (f : MapFault) → MapCause s a b f → ¬ CanMap s a b
cause_refuses s a b refusal.NotSystem h can = (new_pair s a b can).one_system h
cause_refuses s a b refusal.Mixed (inl h) can = can.1.apart a h.0 b h.1 (push_first s.mapped a b)
cause_refuses s a b refusal.Mixed (inr h) can =
    can.1.apart b h.0 a h.1 (push_second s.mapped a b (λ e. (new_pair s a b can).one_system (ap (is_system s.components) e)))
cause_refuses s a b refusal.NotOneToOne (inl h) can = pushed_two s a b a h.0 h.1 (partner_first a b) (can.1.one_mapping a)
cause_refuses s a b refusal.NotOneToOne (inr h) can = pushed_two s a b b h.0 h.1 (partner_second a b) (can.1.one_mapping b)
cause_refuses s a b refusal.MapDirections h can = h ((new_pair s a b can).to_second, (new_pair s a b can).to_first)
cause_refuses s a b refusal.Memory h can = h

first_cause : (Cause : MapFault → Type 0) (xs : List MapFault) (f : MapFault) → IsFirstCause Cause xs f → Cause f
first_cause Cause [] f h = absurd h
first_cause Cause (x ∷ xs) f (inl h) = subst Cause (sym h.0) h.1
first_cause Cause (x ∷ xs) f (inr h) = first_cause Cause xs f h.1

refused_at : (s : Setup) (a b : PortRef) (f : MapFault) → IsFirstCause (MapCause s a b) map_order f → MapRefused s a b f
refused_at s a b refusal.NotSystem h = (h, cause_refuses s a b refusal.NotSystem (first_cause (MapCause s a b) map_order refusal.NotSystem h))
refused_at s a b refusal.Mixed h = (h, cause_refuses s a b refusal.Mixed (first_cause (MapCause s a b) map_order refusal.Mixed h))
refused_at s a b refusal.NotOneToOne h = (h, cause_refuses s a b refusal.NotOneToOne (first_cause (MapCause s a b) map_order refusal.NotOneToOne h))
refused_at s a b refusal.MapDirections h = (h, cause_refuses s a b refusal.MapDirections (first_cause (MapCause s a b) map_order refusal.MapDirections h))
refused_at s a b refusal.Memory h = absurd (first_cause (MapCause s a b) map_order refusal.Memory h)

pub map_refused : (s : Setup) (links : List (List (List PortRef))) (a b : PortRef) (f : MapFault) → KeepsPairs s links
    → Some f ≡ find (map_test s.types s.components links a b) map_order → MapRefused s a b f
map_refused s links a b f k h =
    refused_at s a b f (first_from_find (map_test s.types s.components links a b) (MapCause s a b) (map_decides s links a b k) map_order f (sym h))

-- where no test passes no cause holds
pub no_cause : (s : Setup) (links : List (List (List PortRef))) (a b : PortRef) → KeepsPairs s links
    → None ≡ find (map_test s.types s.components links a b) map_order → AllByRecursion (λ f. ¬ MapCause s a b f) map_order
no_cause s links a b k h = none_from_find (map_test s.types s.components links a b) (MapCause s a b) (map_decides s links a b k) map_order (sym h)

pub can_map : (s : Setup) (links : List (List (List PortRef))) (a b : PortRef) → KeepsPairs s links
    → None ≡ find (map_test s.types s.components links a b) map_order → CanMap s a b
can_map s links a b k h =
    let none : AllByRecursion (λ f. ¬ MapCause s a b f) map_order = no_cause s links a b k h in
    (λ c. none.1.1.0 (inl (b, c)), map_allowed s a b k.setup.allowed none)
