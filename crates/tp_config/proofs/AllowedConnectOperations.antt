-- A configuration with one more connected pair is allowed exactly where no cause holds.
use Rattle.std.proofs.Common.{◌≡◌, ℕ, zero, suc, ◌<◌, get_or, Bool, true, false, cond, ◌&&◌, ◌⊎◌, inl, inr, Some, None, List, [], ◌∷◌, ◌++◌, length, refl, ap, sym, ◌∙◌, subst, arith}
use Rattle.std.specs.Prelude.{Contains, ◌≢◌, find}
use Rattle.std.specs.Bool.{Decides}
use Rattle.std.specs.List.{cons_option, AllByRecursion}
use Rattle.std.proofs.lemmas.List.Elements.{filter_map-append, Contains-append_cases, Contains-append_left, All-push, All-contains, Contains-push}
use Rattle.tp_config.specs.declared.port_type.PortRef.{PortRef}
use Rattle.tp_config.specs.declared.connecting.ConnectFault.{ConnectFault}
use Rattle.tp_config.specs.declared.connecting.ConnectFault.TheVariants as fault
use Rattle.tp_config.specs.Pairs.{partner, partners, same_port}
use Rattle.tp_config.specs.Setup.{Setup, is_system, ins, outs, connecting}
use Rattle.tp_config.specs.Allowed.{Allowed, CanConnect, Directed, MayConnect}
use Rattle.tp_config.specs.Causes.{ConnectCause, ConnectRefused, IsFirstCause, IsInPair, HasOther, connect_order}
use Rattle.tp_config.specs.Kept.{KeepsPairs}
use Rattle.tp_config.specs.Tests.{connect_test, are_among}
use Rattle.tp_config.proofs.FirstCauseByTests.{first_guarded, none_guarded}
use Rattle.tp_config.proofs.CreateTestsDecideCauses.{port_decides, directed_decides}
use Rattle.tp_config.proofs.ConnectTestsDecideCauses.{cause_decides, system_decides}

pub by_decides : {P : Type 0} (b : Bool) → Decides b P → P ⊎ (¬ P)
by_decides true d = inl (d.0 refl)
by_decides false d = inr (λ h. absurd (let e : false ≡ true = d.1 h in cc))

pub same_or_not : (p q : PortRef) → (p ≡ q) ⊎ (p ≢ q)
same_or_not p q = by_decides (same_port p q) (port_decides p q)

pub false_from_not : (b : Bool) → ¬ (b ≡ true) → b ≡ false
false_from_not true h = absurd (h refl)
false_from_not false h = refl

pub partners_push : (xs : List (PortRef × PortRef)) (pair : PortRef × PortRef) (p : PortRef)
    → partners (xs ++ pair ∷ []) p ≡ partners xs p ++ cons_option (partner p pair) []
partners_push xs pair p = filter_map-append (partner p) xs (pair ∷ [])

only_at : (x y : PortRef) (k : ℕ) → k < length (x ∷ []) → get_or (x ∷ []) k y ≡ y → x ≡ y
only_at x y zero n e = e
only_at x y (suc k) n e = absurd (omega (arith, n))

pub only_in : (x y : PortRef) → Contains (x ∷ []) y → x ≡ y
only_in x y h = only_at x y h.0 h.1 h.2

none_in : (y : PortRef) → Contains [] y → ⊥
none_in y h = omega (arith, h.1)

-- a partner by one pair
by_pair : (a b p q : PortRef) (s t : Bool) → same_port p a ≡ s → same_port p b ≡ t
    → Contains (cons_option (cond s (Some b) (cond t (Some a) None)) []) q → ((p ≡ a) × (q ≡ b)) ⊎ ((p ≡ b) × (q ≡ a))
by_pair a b p q true t e f h = inl ((port_decides p a).0 e, sym (only_in b q h))
by_pair a b p q false true e f h = inr ((port_decides p b).0 f, sym (only_in a q h))
by_pair a b p q false false e f h = absurd (none_in q h)

pub push_cases : (xs : List (PortRef × PortRef)) (a b p q : PortRef) → Contains (partners (xs ++ (a, b) ∷ []) p) q
    → Contains (partners xs p) q ⊎ (((p ≡ a) × (q ≡ b)) ⊎ ((p ≡ b) × (q ≡ a)))
push_cases xs a b p q h =
    elim (Contains-append_cases (partners xs p) (cons_option (partner p (a, b)) []) q (subst (λ l. Contains l q) (partners_push xs (a, b) p) h)) [
      | inl old ↦ inl old
      | inr new ↦ inr (by_pair a b p q (same_port p a) (same_port p b) refl refl new)
    ]

pub push_keeps : (xs : List (PortRef × PortRef)) (a b p q : PortRef) → Contains (partners xs p) q → Contains (partners (xs ++ (a, b) ∷ []) p) q
push_keeps xs a b p q h =
    subst (λ l. Contains l q) (sym (partners_push xs (a, b) p)) (Contains-append_left (partners xs p) (cons_option (partner p (a, b)) []) q h)

pub push_first : (xs : List (PortRef × PortRef)) (a b : PortRef) → Contains (partners (xs ++ (a, b) ∷ []) a) b
push_first xs a b =
    let new : partner a (a, b) ≡ Some b = ap (λ t. cond t (Some b) (cond (same_port a b) (Some a) None)) ((port_decides a a).1 refl) in
    subst (λ l. Contains l b) (sym (partners_push xs (a, b) a ∙ ap (λ o. partners xs a ++ cons_option o []) new)) (Contains-push (partners xs a) b)

pub push_second : (xs : List (PortRef × PortRef)) (a b : PortRef) → a ≢ b → Contains (partners (xs ++ (a, b) ∷ []) b) a
push_second xs a b differ =
    let t : same_port b a ≡ false = false_from_not (same_port b a) (λ u. differ (sym ((port_decides b a).0 u))) in
    let new : partner b (a, b) ≡ Some a =
    ap (λ u. cond u (Some b) (cond (same_port b b) (Some a) None)) t ∙ ap (λ u. cond u (Some a) None) ((port_decides b b).1 refl) in
    subst (λ l. Contains l a) (sym (partners_push xs (a, b) b ∙ ap (λ o. partners xs b ++ cons_option o []) new)) (Contains-push (partners xs b) a)

-- the port of the pair beside x, where the pair is the new one
NewBeside : PortRef → PortRef → PortRef → PortRef → Type 0
NewBeside a b x y = ((x ≡ a) × (y ≡ b)) ⊎ ((x ≡ b) × (y ≡ a))

two_new : (a b x y z : PortRef) → a ≢ b → NewBeside a b x y → NewBeside a b x z → y ≡ z
unfolding NewBeside
two_new a b x y z differ (inl u) (inl v) = u.1 ∙ sym v.1
two_new a b x y z differ (inl u) (inr v) = absurd (differ (sym u.0 ∙ v.0))
two_new a b x y z differ (inr u) (inl v) = absurd (differ (sym v.0 ∙ u.0))
two_new a b x y z differ (inr u) (inr v) = u.1 ∙ sym v.1

one_new : (pairs : List (PortRef × PortRef)) (a b x y z : PortRef) → ¬ HasOther pairs a b → ¬ HasOther pairs b a → Contains (partners pairs x) y
    → NewBeside a b x z → y.comp ≡ z.comp → y ≡ z
unfolding NewBeside
one_new pairs a b x y z none back hy (inl u) e =
    elim (same_or_not y z) [
      | inl same ↦ same
      | inr not ↦ absurd (none (y, subst (λ w. Contains (partners pairs w) y) u.0 hy, e ∙ ap (λ (w : PortRef). w.comp) u.1, λ q. not (q ∙ sym u.1)))
    ]
one_new pairs a b x y z none back hy (inr u) e =
    elim (same_or_not y z) [
      | inl same ↦ same
      | inr not ↦ absurd (back (y, subst (λ w. Contains (partners pairs w) y) u.0 hy, e ∙ ap (λ (w : PortRef). w.comp) u.1, λ q. not (q ∙ sym u.1)))
    ]

new_apart : (mapped : List (PortRef × PortRef)) (a b x y r : PortRef) → ¬ IsInPair mapped a → ¬ IsInPair mapped b → NewBeside a b x y
    → Contains (partners mapped x) r → ⊥
unfolding NewBeside
new_apart mapped a b x y r na nb (inl u) h = na (r, subst (λ w. Contains (partners mapped w) r) u.0 h)
new_apart mapped a b x y r na nb (inr u) h = nb (r, subst (λ w. Contains (partners mapped w) r) u.0 h)

pub connect_allowed : (s : Setup) (a b : PortRef) → Allowed s → AllByRecursion (λ f. ¬ ConnectCause s a b f) connect_order
    → ((¬ Directed s.types s.components a b → ⊥) → Directed s.types s.components a b) → Allowed (connecting s a b)
unfolding NewBeside
connect_allowed s a b l none steady =
    let differ : a ≢ b = none.1.0 in
    let unmapped_a : ¬ IsInPair s.mapped a = λ h. none.1.1.1.0 (inl h) in
    let unmapped_b : ¬ IsInPair s.mapped b = λ h. none.1.1.1.0 (inr h) in
    let alone_a : ¬ HasOther s.connected a b = λ h. none.1.1.1.1.0 (inl h) in
    let alone_b : ¬ HasOther s.connected b a = λ h. none.1.1.1.1.0 (inr h) in
    let directed : Directed s.types s.components a b = steady none.1.1.1.1.1.0 in
    let pair : MayConnect s.types s.components (a, b) =
    record {
      first_own = false_from_not (is_system s.components a) (λ h. none.0 (inl h));
      second_own = false_from_not (is_system s.components b) (λ h. none.0 (inr h));
      differ = differ;
      directed = directed;
    } in
    record {
      may_connect = All-push (MayConnect s.types s.components) s.connected (a, b) l.may_connect pair;
      one_of_each = λ x y z hy hz e.
          elim (push_cases s.connected a b x y hy) [
            | inl oy ↦ elim (push_cases s.connected a b x z hz) [
              | inl oz ↦ l.one_of_each x y z oy oz e
              | inr nz ↦ one_new s.connected a b x y z alone_a alone_b oy nz e
            ]
            | inr ny ↦ elim (push_cases s.connected a b x z hz) [
              | inl oz ↦ sym (one_new s.connected a b x z y alone_a alone_b oz ny (sym e))
              | inr nz ↦ two_new a b x y z differ ny nz
            ]
          ];
      may_map = l.may_map;
      one_mapping = l.one_mapping;
      apart = λ x y r hy hr. elim (push_cases s.connected a b x y hy)
          [ inl oy ↦ l.apart x y r oy hr | inr ny ↦ new_apart s.mapped a b x y r unmapped_a unmapped_b ny hr ];
    }

true_not_false : (b : Bool) → b ≡ true → b ≡ false → ⊥
true_not_false b t f = cc

-- where a cause holds the pair cannot be connected
pub cause_refuses : (s : Setup) (a b : PortRef) (f : ConnectFault) → ConnectCause s a b f → ¬ CanConnect s a b
cause_refuses s a b fault.SystemPort (inl t) can =
    true_not_false (is_system s.components a) t (All-contains (MayConnect s.types s.components) (s.connected ++ (a, b) ∷ []) (a, b) can.1.may_connect
    (Contains-push s.connected (a, b))).first_own
cause_refuses s a b fault.SystemPort (inr t) can =
    true_not_false (is_system s.components b) t (All-contains (MayConnect s.types s.components) (s.connected ++ (a, b) ∷ []) (a, b) can.1.may_connect
    (Contains-push s.connected (a, b))).second_own
cause_refuses s a b fault.SamePort e can =
    (All-contains (MayConnect s.types s.components) (s.connected ++ (a, b) ∷ []) (a, b) can.1.may_connect (Contains-push s.connected (a, b))).differ e
cause_refuses s a b fault.Already h can = can.0 h
cause_refuses s a b fault.Mixed (inl h) can = can.1.apart a b h.0 (push_first s.connected a b) h.1
cause_refuses s a b fault.Mixed (inr h) can =
    let differ : a ≢ b =
    (All-contains (MayConnect s.types s.components) (s.connected ++ (a, b) ∷ []) (a, b) can.1.may_connect (Contains-push s.connected (a, b))).differ in
    can.1.apart b a h.0 (push_second s.connected a b differ) h.1
cause_refuses s a b fault.TwoPortsOfOne (inl h) can =
    h.3 (can.1.one_of_each a h.0 b (push_keeps s.connected a b a h.0 h.1) (push_first s.connected a b) h.2)
cause_refuses s a b fault.TwoPortsOfOne (inr h) can =
    let differ : a ≢ b =
    (All-contains (MayConnect s.types s.components) (s.connected ++ (a, b) ∷ []) (a, b) can.1.may_connect (Contains-push s.connected (a, b))).differ in
    h.3 (can.1.one_of_each b h.0 a (push_keeps s.connected a b b h.0 h.1) (push_second s.connected a b differ) h.2)
cause_refuses s a b fault.Directions h can =
    h (All-contains (MayConnect s.types s.components) (s.connected ++ (a, b) ∷ []) (a, b) can.1.may_connect (Contains-push s.connected (a, b))).directed
cause_refuses s a b fault.Memory h can = h

-- the causes after the first
abbrev own_order : List ConnectFault
own_order = fault.SamePort ∷ fault.Already ∷ fault.Mixed ∷ fault.TwoPortsOfOne ∷ fault.Directions ∷ []

first_cause : (Cause : ConnectFault → Type 0) (xs : List ConnectFault) (f : ConnectFault) → IsFirstCause Cause xs f → Cause f
first_cause Cause [] f h = absurd h
first_cause Cause (x ∷ xs) f (inl h) = subst Cause (sym h.0) h.1
first_cause Cause (x ∷ xs) f (inr h) = first_cause Cause xs f h.1

refused_at : (s : Setup) (a b : PortRef) (f : ConnectFault) → IsFirstCause (ConnectCause s a b) connect_order f → ConnectRefused s a b f
refused_at s a b fault.SystemPort h = (h, cause_refuses s a b fault.SystemPort (first_cause (ConnectCause s a b) connect_order fault.SystemPort h))
refused_at s a b fault.SamePort h = (h, cause_refuses s a b fault.SamePort (first_cause (ConnectCause s a b) connect_order fault.SamePort h))
refused_at s a b fault.Already h = (h, cause_refuses s a b fault.Already (first_cause (ConnectCause s a b) connect_order fault.Already h))
refused_at s a b fault.Mixed h = (h, cause_refuses s a b fault.Mixed (first_cause (ConnectCause s a b) connect_order fault.Mixed h))
refused_at s a b fault.TwoPortsOfOne h = (h, cause_refuses s a b fault.TwoPortsOfOne (first_cause (ConnectCause s a b) connect_order fault.TwoPortsOfOne h))
refused_at s a b fault.Directions h = (h, cause_refuses s a b fault.Directions (first_cause (ConnectCause s a b) connect_order fault.Directions h))
refused_at s a b fault.Memory h = absurd (first_cause (ConnectCause s a b) connect_order fault.Memory h)

-- what a test decides holds where it is not refuted
pub stable : {P : Type 0} (b : Bool) → Decides b P → ¬ (¬ P) → P
stable b d h = elim (by_decides b d) [ inl p ↦ p | inr n ↦ absurd (h n) ]

pub connect_refused : (s : Setup) (links : List (List (List PortRef))) (a b : PortRef) (f : ConnectFault) → KeepsPairs s links
    → Some f ≡ find (connect_test s.types s.components links a b) connect_order → ConnectRefused s a b f
connect_refused s links a b f k h =
    refused_at s a b f (first_guarded (connect_test s.types s.components links a b) (ConnectCause s a b) fault.SystemPort own_order f
    (system_decides s links k a b) (cause_decides s links k a b) (sym h))

-- where no test passes no cause holds
pub no_cause : (s : Setup) (links : List (List (List PortRef))) (a b : PortRef) → KeepsPairs s links
    → None ≡ find (connect_test s.types s.components links a b) connect_order → AllByRecursion (λ f. ¬ ConnectCause s a b f) connect_order
no_cause s links a b k h =
    none_guarded (connect_test s.types s.components links a b) (ConnectCause s a b) fault.SystemPort own_order (system_decides s links k a b)
    (cause_decides s links k a b) (sym h)

pub can_connect : (s : Setup) (links : List (List (List PortRef))) (a b : PortRef) → KeepsPairs s links
    → None ≡ find (connect_test s.types s.components links a b) connect_order → CanConnect s a b
can_connect s links a b k h =
    let none : AllByRecursion (λ f. ¬ ConnectCause s a b f) connect_order = no_cause s links a b k h in (
      none.1.1.0,
      connect_allowed s a b k.setup.allowed none (stable
          (are_among (outs s.types s.components a) (ins s.types s.components b) && are_among (outs s.types s.components b) (ins s.types s.components a))
          (directed_decides s a b)),
    )
