-- A configuration with one more pair keeps what holds of every configuration.
use Rattle.std.proofs.Common.{◌≡◌, ◌≢◌, ◌<◌, inl, inr, Bool, true, false, cond, Option, Some, None, List, [], ◌∷◌, ◌++◌, length, refl, ap, sym, ◌∙◌, subst, arith, append-nil, append_assoc}
use Rattle.std.specs.Prelude.{AllPairs, Contains, find, slice_get, IsSome}
use Rattle.std.specs.List.{cons_option, AllByRecursion}
use Rattle.std.proofs.lemmas.Option.{slice_get_within}
use Rattle.std.proofs.lemmas.List.Elements.{All-push, Contains-get_or}
use Rattle.std.proofs.lemmas.List.Quantifiers.{all_pairs_push}
use Rattle.tp_config.specs.declared.port_type.PortRef.{PortRef}
use Rattle.tp_config.specs.declared.connecting.ConnectFault.{ConnectFault}
use Rattle.tp_config.specs.declared.mapping.MapFault.{MapFault}
use Rattle.tp_config.specs.Pairs.{partner, partners, same_port}
use Rattle.tp_config.specs.declared.port_type.CompId.{CompId}
use Rattle.tp_config.specs.Setup.{Setup, PortDecl, Member, IsPort, is_system, decl_at, ports_at, connecting, mapping}
use Rattle.tp_config.specs.Allowed.{ArePorts, CanConnect, CanMap}
use Rattle.tp_config.specs.Causes.{ConnectCause, MapCause, IsInPair, connect_order, map_order}
use Rattle.tp_config.specs.Tests.{connect_test, map_test}
use Rattle.tp_config.specs.Routes.{beside}
use Rattle.tp_config.specs.Links.{row, links_at, with_links, links_joined}
use Rattle.tp_config.specs.Kept.{KeepsPairs}
use Rattle.tp_config.proofs.CreateTestsDecideCauses.{port_decides}
use Rattle.tp_config.proofs.AllowedConnectOperations as connect
use Rattle.tp_config.proofs.AllowedConnectOperations.{can_connect, partners_push, same_or_not}
use Rattle.tp_config.proofs.AllowedMapOperations as map
use Rattle.tp_config.proofs.AllowedMapOperations.{can_map, no_partners}
use Rattle.tp_config.proofs.PortPartnerLaws.{beside_parts, pair_cases, partner_first, partner_second, partners_back}
use Rattle.tp_config.proofs.StoredPortLinks.{links_other, links_same, rows_kept}

some_is : {X : Type 0} (o : Option X) → IsSome o → (x : X) × (o ≡ Some x)
some_is None h = absurd (cc)
some_is (Some x) h = (x, refl)

-- a port's number is below the number of its component's ports
pub port_within : (t : List (List PortDecl)) (m : List Member) (p : PortRef) → IsSome (decl_at t m p) → p.port < length (ports_at t m p.comp)
unfolding decl_at
port_within t m p h =
    let w : (d : PortDecl) × (slice_get (ports_at t m p.comp) p.port ≡ Some d) = some_is (slice_get (ports_at t m p.comp) p.port) h in
    slice_get_within (ports_at t m p.comp) p.port w.0 w.1

-- a port has a list
pub port_in_row : (s : Setup) (links : List (List (List PortRef))) (p : PortRef) → KeepsPairs s links → IsPort s p → p.port < length (row links p.comp)
port_in_row s links p k h = omega (arith, port_within s.types s.components p h, k.shape p.comp)

no_partner_at : (a b r : PortRef) (s t : Bool) → same_port r a ≡ s → same_port r b ≡ t → r ≢ a → r ≢ b → cond s (Some b) (cond t (Some a) None) ≡ None
no_partner_at a b r true t e f na nb = absurd (na ((port_decides r a).0 e))
no_partner_at a b r false true e f na nb = absurd (nb ((port_decides r b).0 f))
no_partner_at a b r false false e f na nb = refl

no_partner : (a b r : PortRef) → r ≢ a → r ≢ b → partner r (a, b) ≡ None
no_partner a b r na nb = no_partner_at a b r (same_port r a) (same_port r b) refl refl na nb

-- each list has grown by the port's partner in the new pair
pub joined_at : (links : List (List (List PortRef))) (p q r : PortRef) → p ≢ q → p.port < length (row links p.comp)
    → q.port < length (row links q.comp) → links_at (links_joined links p q) r ≡ links_at links r ++ cons_option (partner r (p, q)) []
joined_at links p q r differ np nq =
    let first : List (List (List PortRef)) = with_links links p (links_at links p ++ q ∷ []) in
    let mq : q.port < length (row first q.comp) = omega (arith, nq, rows_kept links p (links_at links p ++ q ∷ []) np q.comp) in
    elim (same_or_not r q) [
      | inl at_q ↦ ap (links_at (links_joined links p q)) at_q ∙ links_same first q (links_at links q ++ p ∷ []) mq
          ∙ ap (λ x. links_at links q ++ cons_option x []) (sym (partner_second p q))
          ∙ ap (λ x. links_at links x ++ cons_option (partner x (p, q)) []) (sym at_q)
      | inr not_q ↦ elim (same_or_not r p) [
        | inl at_p ↦ links_other first q (links_at links q ++ p ∷ []) mq r not_q ∙ ap (links_at first) at_p
            ∙ links_same links p (links_at links p ++ q ∷ []) np ∙ ap (λ x. links_at links p ++ cons_option x []) (sym (partner_first p q))
            ∙ ap (λ x. links_at links x ++ cons_option (partner x (p, q)) []) (sym at_p)
        | inr not_p ↦ links_other first q (links_at links q ++ p ∷ []) mq r not_q ∙ links_other links p (links_at links p ++ q ∷ []) np r not_p
            ∙ sym (append-nil (links_at links r)) ∙ ap (λ x. links_at links r ++ cons_option x []) (sym (no_partner p q r not_p not_q))
      ]
    ]

pub joined_rows : (links : List (List (List PortRef))) (p q : PortRef) → p.port < length (row links p.comp) → q.port < length (row links q.comp)
    → (c : CompId) → length (row (links_joined links p q) c) ≡ length (row links c)
joined_rows links p q np nq c =
    let first : List (List (List PortRef)) = with_links links p (links_at links p ++ q ∷ []) in
    let mq : q.port < length (row first q.comp) = omega (arith, nq, rows_kept links p (links_at links p ++ q ∷ []) np q.comp) in
    rows_kept first q (links_at links q ++ p ∷ []) mq c ∙ rows_kept links p (links_at links p ++ q ∷ []) np c

-- a list of differing ports with one more that isn't there
distinct_more : (xs : List PortRef) (o : Option PortRef) → AllPairs (λ q r. q ≢ r) xs → ((y : PortRef) → o ≡ Some y → Contains xs y → ⊥)
    → AllPairs (λ q r. q ≢ r) (xs ++ cons_option o [])
distinct_more xs None d new = subst (λ l. AllPairs (λ q r. q ≢ r) l) (sym (append-nil xs)) d
distinct_more xs (Some y) d new =
    all_pairs_push (λ q r. q ≢ r) xs y d (λ k e n same. new y refl (subst (Contains xs) same (Contains-get_or xs k e n)))

-- the new port isn't there
new_partner : (pairs : List (PortRef × PortRef)) (p q x y : PortRef) → ¬ Contains (partners pairs p) q → partner x (p, q) ≡ Some y
    → Contains (partners pairs x) y → ⊥
new_partner pairs p q x y new e h =
    elim (pair_cases (p, q) x y e) [
      | inl w ↦ new (subst (λ z. Contains (partners pairs p) z) w.1 (subst (λ z. Contains (partners pairs z) y) w.0 h))
      | inr w ↦ new (partners_back pairs q p (subst (λ z. Contains (partners pairs q) z) w.1 (subst (λ z. Contains (partners pairs z) y) w.0 h)))
    ]

pub once_more : (pairs : List (PortRef × PortRef)) (p q : PortRef) → ¬ Contains (partners pairs p) q
    → ((x : PortRef) → AllPairs (λ r t. r ≢ t) (partners pairs x)) → (x : PortRef) → AllPairs (λ r t. r ≢ t) (partners (pairs ++ (p, q) ∷ []) x)
once_more pairs p q new d x =
    subst (λ l. AllPairs (λ r t. r ≢ t) l) (sym (partners_push pairs (p, q) x))
    (distinct_more (partners pairs x) (partner x (p, q)) (d x) (λ y e h. new_partner pairs p q x y new e h))

swap_none : (xs ys : List PortRef) (o : Option PortRef) → ((y : PortRef) → o ≡ Some y → ys ≡ [])
    → (xs ++ ys) ++ cons_option o [] ≡ (xs ++ cons_option o []) ++ ys
swap_none xs ys None empty = append-nil (xs ++ ys) ∙ ap (λ l. l ++ ys) (sym (append-nil xs))
swap_none xs ys (Some y) empty = rw (empty y refl, append-nil, append-nil) refl

-- what stands beside a port after a connect
beside_connecting : (s : Setup) (p q r : PortRef) → ¬ IsInPair s.mapped p → ¬ IsInPair s.mapped q
    → beside (connecting s p q) r ≡ beside s r ++ cons_option (partner r (p, q)) []
beside_connecting s p q r np nq =
    let empty : (y : PortRef) → partner r (p, q) ≡ Some y → partners s.mapped r ≡ [] = λ y e. elim (pair_cases (p, q) r y e) [
      | inl w ↦ ap (partners s.mapped) w.0 ∙ no_partners s.mapped p np
      | inr w ↦ ap (partners s.mapped) w.0 ∙ no_partners s.mapped q nq
    ] in
    beside_parts (connecting s p q) r ∙ ap (λ l. l ++ partners s.mapped r) (partners_push s.connected (p, q) r)
    ∙ sym (swap_none (partners s.connected r) (partners s.mapped r) (partner r (p, q)) empty)
    ∙ ap (λ l. l ++ cons_option (partner r (p, q)) []) (sym (beside_parts s r))

beside_mapping : (s : Setup) (p q r : PortRef) → beside (mapping s p q) r ≡ beside s r ++ cons_option (partner r (p, q)) []
beside_mapping s p q r =
    beside_parts (mapping s p q) r ∙ ap (λ l. partners s.connected r ++ l) (partners_push s.mapped (p, q) r)
    ∙ sym (append_assoc (partners s.connected r) (partners s.mapped r) (cons_option (partner r (p, q)) []))
    ∙ ap (λ l. l ++ cons_option (partner r (p, q)) []) (sym (beside_parts s r))

keeps_connecting : (s : Setup) (links : List (List (List PortRef))) (p q : PortRef) → KeepsPairs s links → IsPort s p → IsPort s q
    → None ≡ find (connect_test s.types s.components links p q) connect_order → KeepsPairs (connecting s p q) (links_joined links p q)
keeps_connecting s links p q k hp hq h =
    let none : AllByRecursion (λ f. ¬ ConnectCause s p q f) connect_order = connect.no_cause s links p q k h in
    let can : CanConnect s p q = can_connect s links p q k h in
    let np : p.port < length (row links p.comp) = port_in_row s links p k hp in
    let nq : q.port < length (row links q.comp) = port_in_row s links q k hq in
    record {
      setup = record {
        allowed = can.1;
        connected_ports = All-push (ArePorts s) s.connected (p, q) k.setup.connected_ports (hp, hq);
        mapped_ports = k.setup.mapped_ports;
        once = once_more s.connected p q can.0 k.setup.once;
        few_ports = k.setup.few_ports;
        few_components = k.setup.few_components;
        kinds = k.setup.kinds;
        names_differ = k.setup.names_differ;
        one_system = k.setup.one_system;
      };
      shape = λ c. joined_rows links p q np nq c ∙ k.shape c;
      kept = λ r. joined_at links p q r none.1.0 np nq ∙ ap (λ l. l ++ cons_option (partner r (p, q)) []) (k.kept r)
          ∙ sym (beside_connecting s p q r (λ w. none.1.1.1.0 (inl w)) (λ w. none.1.1.1.0 (inr w)));
    }

keeps_mapping : (s : Setup) (links : List (List (List PortRef))) (p q : PortRef) → KeepsPairs s links → IsPort s p → IsPort s q
    → None ≡ find (map_test s.types s.components links p q) map_order → KeepsPairs (mapping s p q) (links_joined links p q)
keeps_mapping s links p q k hp hq h =
    let none : AllByRecursion (λ f. ¬ MapCause s p q f) map_order = map.no_cause s links p q k h in
    let can : CanMap s p q = can_map s links p q k h in
    let np : p.port < length (row links p.comp) = port_in_row s links p k hp in
    let nq : q.port < length (row links q.comp) = port_in_row s links q k hq in
    let differ : p ≢ q = λ e. none.0 (ap (is_system s.components) e) in
    record {
      setup = record {
        allowed = can.1;
        connected_ports = k.setup.connected_ports;
        mapped_ports = All-push (ArePorts s) s.mapped (p, q) k.setup.mapped_ports (hp, hq);
        once = k.setup.once;
        few_ports = k.setup.few_ports;
        few_components = k.setup.few_components;
        kinds = k.setup.kinds;
        names_differ = k.setup.names_differ;
        one_system = k.setup.one_system;
      };
      shape = λ c. joined_rows links p q np nq c ∙ k.shape c;
      kept = λ r. joined_at links p q r differ np nq ∙ ap (λ l. l ++ cons_option (partner r (p, q)) []) (k.kept r) ∙ sym (beside_mapping s p q r);
    }

-- the configuration after a connect, by its parts
pub after_connect : (s now : Setup) (links more : List (List (List PortRef))) (members : List Member) (pairs : List (PortRef × PortRef))
    (p q : PortRef) (r : Option ConnectFault) → s ≡ now → KeepsPairs s links → IsPort now p → IsPort now q → r ≡ None
    → r ≡ find (connect_test s.types s.components links p q) connect_order → members ≡ s.components → pairs ≡ s.connected ++ (p, q) ∷ []
    → more ≡ links_joined links p q → KeepsPairs (record s { components = members; connected = pairs }) more
    × (CanConnect now p q × (record s { components = members; connected = pairs } ≡ connecting now p q))
after_connect s now links more members pairs p q r same k hp hq e is m c l =
    let h : None ≡ find (connect_test s.types s.components links p q) connect_order = sym e ∙ is in
    let kept : KeepsPairs (connecting s p q) (links_joined links p q) =
    keeps_connecting s links p q k (subst (λ t. IsPort t p) (sym same) hp) (subst (λ t. IsPort t q) (sym same) hq) h in
    let whole : record s { components = members; connected = pairs } ≡ connecting s p q =
    ap (λ x. record s { components = x; connected = pairs }) m ∙ ap (λ x. record s { connected = x }) c in (
      subst (λ t. KeepsPairs t more) (sym whole) (subst (KeepsPairs (connecting s p q)) (sym l) kept),
      (subst (λ t. CanConnect t p q) same (can_connect s links p q k h), whole ∙ ap (λ t. connecting t p q) same),
    )

-- the configuration after a map, by its parts
pub after_map : (s now : Setup) (links more : List (List (List PortRef))) (members : List Member) (pairs : List (PortRef × PortRef)) (p q : PortRef)
    (r : Option MapFault) → s ≡ now → KeepsPairs s links → IsPort now p → IsPort now q → r ≡ None
    → r ≡ find (map_test s.types s.components links p q) map_order → members ≡ s.components → pairs ≡ s.mapped ++ (p, q) ∷ []
    → more ≡ links_joined links p q → KeepsPairs (record s { components = members; mapped = pairs }) more
    × (CanMap now p q × (record s { components = members; mapped = pairs } ≡ mapping now p q))
after_map s now links more members pairs p q r same k hp hq e is m c l =
    let h : None ≡ find (map_test s.types s.components links p q) map_order = sym e ∙ is in
    let kept : KeepsPairs (mapping s p q) (links_joined links p q) =
    keeps_mapping s links p q k (subst (λ t. IsPort t p) (sym same) hp) (subst (λ t. IsPort t q) (sym same) hq) h in
    let whole : record s { components = members; mapped = pairs } ≡ mapping s p q =
    ap (λ x. record s { components = x; mapped = pairs }) m ∙ ap (λ x. record s { mapped = x }) c in (
      subst (λ t. KeepsPairs t more) (sym whole) (subst (KeepsPairs (mapping s p q)) (sym l) kept),
      (subst (λ t. CanMap t p q) same (can_map s links p q k h), whole ∙ ap (λ t. mapping t p q) same),
    )
