-- What stands beside a port.
use Rattle.std.proofs.Common.{◌≡◌, ℕ, zero, suc, ◌<◌, ◌≤◌, ◌⊎◌, inl, inr, Bool, true, false, cond, Option, Some, None, List, [], ◌∷◌, ◌++◌, length, get_or, refl, ap, sym, ◌∙◌, subst, arith, append-nil}
use Rattle.std.specs.Prelude.{AllPairs, Contains, ◌≢◌}
use Rattle.std.specs.List.{cons_option}
use Rattle.std.proofs.lemmas.Option.{same_Some}
use Rattle.std.proofs.lemmas.List.Elements.{filter_map-append, Contains-append_cases}
use Rattle.tp_config.specs.declared.port_type.PortRef.{PortRef}
use Rattle.tp_config.specs.Pairs.{partner, partners, same_port}
use Rattle.tp_config.specs.Setup.{Setup}
use Rattle.tp_config.specs.Allowed.{Allowed, IsSetup}
use Rattle.tp_config.specs.Routes.{beside}
use Rattle.tp_config.proofs.CreateTestsDecideCauses.{port_decides, Contains-here, Contains-later, Contains-split}

-- an element of a list with one more at its front, or without
pub cons_cases : {X : Type 0} (o : Option X) (xs : List X) (q : X) → Contains (cons_option o xs) q → (o ≡ Some q) ⊎ Contains xs q
cons_cases None xs q h = inr h
cons_cases (Some x) xs q h = elim (Contains-split q x xs h.0 h.1 h.2) [ inl e ↦ inl (ap (λ y. Some y) e) | inr rest ↦ inr rest ]

pub cons_here : {X : Type 0} (o : Option X) (xs : List X) (q : X) → o ≡ Some q → Contains (cons_option o xs) q
cons_here o xs q e = subst (λ r. Contains (cons_option r xs) q) (sym e) (Contains-here q xs)

pub cons_keeps : {X : Type 0} (o : Option X) (xs : List X) (q : X) → Contains xs q → Contains (cons_option o xs) q
cons_keeps None xs q h = h
cons_keeps (Some x) xs q h = Contains-later q x xs h

by_tests : (a b p q : PortRef) (s t : Bool) → same_port p a ≡ s → same_port p b ≡ t → cond s (Some b) (cond t (Some a) None) ≡ Some q
    → ((p ≡ a) × (q ≡ b)) ⊎ ((p ≡ b) × (q ≡ a))
by_tests a b p q true t e f h = inl ((port_decides p a).0 e, sym (same_Some b q h))
by_tests a b p q false true e f h = inr ((port_decides p b).0 f, sym (same_Some a q h))
by_tests a b p q false false e f h = absurd (cc)

-- the two ports of a pair
pub pair_cases : (pair : PortRef × PortRef) (p q : PortRef) → partner p pair ≡ Some q → ((p ≡ pair.0) × (q ≡ pair.1)) ⊎ ((p ≡ pair.1) × (q ≡ pair.0))
pair_cases pair p q h = by_tests pair.0 pair.1 p q (same_port p pair.0) (same_port p pair.1) refl refl h

pub partner_first : (a b : PortRef) → partner a (a, b) ≡ Some b
partner_first a b = ap (λ t. cond t (Some b) (cond (same_port a b) (Some a) None)) ((port_decides a a).1 refl)

second_at : (a b : PortRef) (s : Bool) → same_port b a ≡ s → cond s (Some b) (cond (same_port b b) (Some a) None) ≡ Some a
second_at a b true e = ap (λ x. Some x) ((port_decides b a).0 e)
second_at a b false e = ap (λ t. cond t (Some a) None) ((port_decides b b).1 refl)

pub partner_second : (a b : PortRef) → partner b (a, b) ≡ Some a
partner_second a b = second_at a b (same_port b a) refl

pub partner_back : (pair : PortRef × PortRef) (p q : PortRef) → partner p pair ≡ Some q → partner q pair ≡ Some p
partner_back pair p q h =
    elim (pair_cases pair p q h) [
      | inl w ↦ subst (λ x. partner x pair ≡ Some p) (sym w.1) (partner_second pair.0 pair.1 ∙ ap (λ x. Some x) (sym w.0))
      | inr w ↦ subst (λ x. partner x pair ≡ Some p) (sym w.1) (partner_first pair.0 pair.1 ∙ ap (λ x. Some x) (sym w.0))
    ]

-- a pair has no order
pub partners_back : (pairs : List (PortRef × PortRef)) (p q : PortRef) → Contains (partners pairs p) q → Contains (partners pairs q) p
partners_back [] p q h = absurd (omega (arith, h.1))
partners_back (pair ∷ pairs) p q h =
    elim (cons_cases (partner p pair) (partners pairs p) q h) [
      | inl e ↦ cons_here (partner q pair) (partners pairs q) p (partner_back pair p q e)
      | inr rest ↦ cons_keeps (partner q pair) (partners pairs q) p (partners_back pairs p q rest)
    ]

pub beside_back : (s : Setup) (p q : PortRef) → Contains (beside s p) q → Contains (beside s q) p
unfolding beside
beside_back s p q h = partners_back (s.connected ++ s.mapped) p q h

pub beside_parts : (s : Setup) (p : PortRef) → beside s p ≡ partners s.connected p ++ partners s.mapped p
unfolding beside
beside_parts s p = filter_map-append (partner p) s.connected s.mapped

pub beside_cases : (s : Setup) (p q : PortRef) → Contains (beside s p) q → Contains (partners s.connected p) q ⊎ Contains (partners s.mapped p) q
beside_cases s p q h =
    Contains-append_cases (partners s.connected p) (partners s.mapped p) q (subst (λ l. Contains l q) (beside_parts s p) h)

-- two elements of a list of one
one_element : {X : Type 0} (xs : List X) (q r : X) → length xs ≤ 1 → Contains xs q → Contains xs r → q ≡ r
one_element {X = X} [] q r n hq hr = absurd (omega (arith, hq.1))
one_element {X = X} (x ∷ []) q r n hq hr = sym (at_one x q hq.0 hq.1 hq.2) ∙ at_one x r hr.0 hr.1 hr.2
  where
    at_one : (x y : X) (k : ℕ) → k < length (x ∷ []) → get_or (x ∷ []) k y ≡ y → x ≡ y
    at_one x y zero n e = e
    at_one x y (suc k) n e = absurd (omega (arith, n))
one_element {X = X} (x ∷ y ∷ xs) q r n hq hr = absurd (omega (arith, n))

-- of one component, at most one port stands beside p
pub beside_of_one : (s : Setup) → Allowed s → (p q r : PortRef) → Contains (beside s p) q → Contains (beside s p) r → q.comp ≡ r.comp → q ≡ r
beside_of_one s l p q r hq hr e =
    elim (beside_cases s p q hq) [
      | inl cq ↦ elim (beside_cases s p r hr) [ inl cr ↦ l.one_of_each p q r cq cr e | inr mr ↦ absurd (l.apart p q r cq mr) ]
      | inr mq ↦ elim (beside_cases s p r hr) [ inl cr ↦ absurd (l.apart p r q cr mq) | inr mr ↦ one_element (partners s.mapped p) q r (l.one_mapping p) mq mr ]
    ]

few_pairs : {X : Type 0} (R : X → X → Type 0) (xs : List X) → length xs ≤ 1 → AllPairs R xs
few_pairs R xs n = λ i j d below within. absurd (omega (arith, n))

distinct_parts : (xs ys : List PortRef) → AllPairs (λ q r. q ≢ r) xs → length ys ≤ 1 → ((q r : PortRef) → Contains xs q → Contains ys r → ⊥)
    → AllPairs (λ q r. q ≢ r) (xs ++ ys)
distinct_parts xs [] d n apart = subst (λ l. AllPairs (λ q r. q ≢ r) l) (sym (append-nil xs)) d
distinct_parts [] (y ∷ ys) d n apart = few_pairs (λ q r. q ≢ r) (y ∷ ys) n
distinct_parts (x ∷ xs) (y ∷ ys) d n apart = absurd (apart x y (Contains-here x xs) (Contains-here y ys))

-- no port stands beside p twice
pub beside_distinct : (s : Setup) → IsSetup s → (p : PortRef) → AllPairs (λ q r. q ≢ r) (beside s p)
beside_distinct s l p =
    subst (λ xs. AllPairs (λ q r. q ≢ r) xs) (sym (beside_parts s p))
    (distinct_parts (partners s.connected p) (partners s.mapped p) (l.once p) (l.allowed.one_mapping p) (λ q r. l.allowed.apart p q r))
