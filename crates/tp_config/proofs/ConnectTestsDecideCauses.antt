-- What stands beside two ports decides why they are not connected or mapped.
use Rattle.std.proofs.Common.{◌≡◌, ◌≢◌, Bool, true, false, not, ◌&&◌, ◌||◌, ◌==◌, inl, inr, Some, List, [], ◌∷◌, refl, ap, sym, ◌∙◌, subst, arith}
use Rattle.std.specs.Prelude.{Contains, slice_get}
use Rattle.std.specs.Bool.{Decides}
use Rattle.std.specs.List.{list_any}
use Rattle.std.specs.Option.{option_map_or}
use Rattle.std.proofs.lemmas.Bool.Decides.{Decides-and, Decides-or, Decides-not, Decides-like}
use Rattle.std.proofs.lemmas.List.Elements.{All-contains, Contains-append_left, Contains-append_right}
use Rattle.tp_config.specs.declared.port_type.CompId.{CompId}
use Rattle.tp_config.specs.declared.port_type.PortRef.{PortRef}
use Rattle.tp_config.specs.declared.connecting.ConnectFault.{ConnectFault}
use Rattle.tp_config.specs.declared.connecting.ConnectFault.TheVariants as fault
use Rattle.tp_config.specs.Pairs.{partner, partners, same_port}
use Rattle.tp_config.specs.Setup.{Setup, Member, is_system, is_system_member, ins, outs}
use Rattle.tp_config.specs.Allowed.{Allowed, MayConnect, MayMap}
use Rattle.tp_config.specs.Causes.{ConnectCause, IsInPair, HasOther}
use Rattle.tp_config.specs.Routes.{beside}
use Rattle.tp_config.specs.Links.{links_at}
use Rattle.tp_config.specs.Kept.{KeepsPairs}
use Rattle.tp_config.specs.Tests.{connect_test, are_among, has_other, is_beside, is_connected, is_mapped, same_bool}
use Rattle.tp_config.proofs.CreateTestsDecideCauses.{Contains-here, Contains-later, any_decides, comp_decides, contains_by, directed_decides, itself, port_decides}
use Rattle.tp_config.proofs.PortPartnerLaws.{beside_cases, beside_parts, cons_cases, pair_cases}

-- the pair of the list in which p stands with q
pair_of : (pairs : List (PortRef × PortRef)) (p q : PortRef) → Contains (partners pairs p) q
    → (pair : PortRef × PortRef) × Contains pairs pair × (partner p pair ≡ Some q)
pair_of [] p q h = absurd (omega (arith, h.1))
pair_of (pair ∷ pairs) p q h =
    elim (cons_cases (partner p pair) (partners pairs p) q h) [
      | inl e ↦ (pair, Contains-here pair pairs, e)
      | inr rest ↦ let w = pair_of pairs p q rest in (w.0, Contains-later w.0 pair pairs w.1, w.2)
    ]

module _ (s : Setup) (l : Allowed s) where
  -- none of two connected ports is of the system
  connected_own : (p q : PortRef) → Contains (partners s.connected p) q → (is_system s.components p ≡ false) × (is_system s.components q ≡ false)
  connected_own p q h =
      let w = pair_of s.connected p q h in
      let may : MayConnect s.types s.components w.0 = All-contains (MayConnect s.types s.components) s.connected w.0 l.may_connect w.1 in
      elim (pair_cases w.0 p q w.2) [
        | inl e ↦ (ap (is_system s.components) e.0 ∙ may.first_own, ap (is_system s.components) e.1 ∙ may.second_own)
        | inr e ↦ (ap (is_system s.components) e.0 ∙ may.second_own, ap (is_system s.components) e.1 ∙ may.first_own)
      ]

  connected_alike : (p q : PortRef) → Contains (partners s.connected p) q → is_system s.components p ≡ is_system s.components q
  connected_alike p q h = let own = connected_own p q h in own.0 ∙ sym own.1

  -- exactly one of two mapped ports is of the system
  mapped_unlike : (p q : PortRef) → Contains (partners s.mapped p) q → is_system s.components p ≢ is_system s.components q
  mapped_unlike p q h =
      let w = pair_of s.mapped p q h in
      let may : MayMap s.types s.components w.0 = All-contains (MayMap s.types s.components) s.mapped w.0 l.may_map w.1 in
      elim (pair_cases w.0 p q w.2) [
        | inl e ↦ λ same. may.one_system (sym (ap (is_system s.components) e.0) ∙ same ∙ ap (is_system s.components) e.1)
        | inr e ↦ λ same. may.one_system (sym (ap (is_system s.components) e.1) ∙ sym same ∙ ap (is_system s.components) e.0)
      ]

  -- so the ports beside p that are of the system as p is are those that it is connected with
  connected_here : (p q : PortRef) → Contains (beside s p) q → is_system s.components p ≡ is_system s.components q → Contains (partners s.connected p) q
  connected_here p q h alike = elim (beside_cases s p q h) [ inl c ↦ c | inr m ↦ absurd (mapped_unlike p q m alike) ]

  -- and the others those that it is mapped with
  mapped_here : (p q : PortRef) → Contains (beside s p) q → is_system s.components p ≢ is_system s.components q → Contains (partners s.mapped p) q
  mapped_here p q h unlike = elim (beside_cases s p q h) [ inl c ↦ absurd (unlike (connected_alike p q c)) | inr m ↦ m ]

  connected_beside : (p q : PortRef) → Contains (partners s.connected p) q → Contains (beside s p) q
  connected_beside p q h = subst (λ xs. Contains xs q) (sym (beside_parts s p)) (Contains-append_left (partners s.connected p) (partners s.mapped p) q h)

  mapped_beside : (p q : PortRef) → Contains (partners s.mapped p) q → Contains (beside s p) q
  mapped_beside p q h = subst (λ xs. Contains xs q) (sym (beside_parts s p)) (Contains-append_right (partners s.connected p) (partners s.mapped p) q h)

pub same_decides : (a b : Bool) → Decides (same_bool a b) (a ≡ b)
same_decides true true = (λ _. refl, λ _. refl)
same_decides true false = (λ e. absurd (cc), λ e. absurd (cc))
same_decides false true = (λ e. absurd (cc), λ e. absurd (cc))
same_decides false false = (λ _. refl, λ _. refl)

-- all ports of a component are of the system, or none
system_of : (m : List Member) (p q : PortRef) → p.comp ≡ q.comp → is_system m p ≡ is_system m q
unfolding is_system
system_of m p q e = ap (λ (c : CompId). option_map_or is_system_member (slice_get m c.0) false) e

both_false : (a b : Bool) → (a || b) ≡ false → a ≡ b
both_false true b e = absurd (cc)
both_false false true e = absurd (cc)
both_false false false e = refl

module _ (s : Setup) (links : List (List (List PortRef))) (k : KeepsPairs s links) where
  -- a test of the ports in the list beside p decides whether one beside it has P
  kept_decides : (test : PortRef → Bool) (P : PortRef → Type 0) → ((r : PortRef) → Decides (test r) (P r)) → (p : PortRef)
      → Decides (list_any test (links_at links p)) ((r : PortRef) × Contains (beside s p) r × P r)
  kept_decides test P each p =
      subst (λ xs. Decides (list_any test (links_at links p)) ((r : PortRef) × Contains xs r × P r)) (k.kept p) (any_decides test P each (links_at links p))

  pub connected_decides : (p : PortRef) → Decides (is_connected s.components links p) (IsInPair s.connected p)
  unfolding is_connected
  connected_decides p =
      Decides-like (is_connected s.components links p)
      (λ (w : (r : PortRef) × Contains (beside s p) r × (is_system s.components p ≡ is_system s.components r)).
      (w.0, connected_here s k.setup.allowed p w.0 w.1 w.2)) (λ h.
      (h.0, connected_beside s k.setup.allowed p h.0 h.1, connected_alike s k.setup.allowed p h.0 h.1))
      (kept_decides (λ r. same_bool (is_system s.components p) (is_system s.components r)) (λ r. is_system s.components p ≡ is_system s.components r)
      (λ r. same_decides (is_system s.components p) (is_system s.components r)) p)

  pub mapped_decides : (p : PortRef) → Decides (is_mapped s.components links p) (IsInPair s.mapped p)
  unfolding is_mapped
  mapped_decides p =
      Decides-like (is_mapped s.components links p)
      (λ (w : (r : PortRef) × Contains (beside s p) r × (is_system s.components p ≢ is_system s.components r)).
      (w.0, mapped_here s k.setup.allowed p w.0 w.1 w.2)) (λ h. (
        h.0,
        mapped_beside s k.setup.allowed p h.0 h.1,
        mapped_unlike s k.setup.allowed p h.0 h.1,
      )) (kept_decides (λ r. not (same_bool (is_system s.components p) (is_system s.components r)))
      (λ r. is_system s.components p ≢ is_system s.components r) (λ r. Decides-not (same_bool (is_system s.components p) (is_system s.components r))
      (same_decides (is_system s.components p) (is_system s.components r))) p)

  pub beside_decides : (p q : PortRef) → is_system s.components p ≡ is_system s.components q
      → Decides (is_beside links p q) (Contains (partners s.connected p) q)
  unfolding is_beside
  beside_decides p q alike =
      Decides-like (is_beside links p q) (λ h. connected_here s k.setup.allowed p q (subst (λ xs. Contains xs q) (k.kept p) h) alike)
      (λ h. subst (λ xs. Contains xs q) (sym (k.kept p)) (connected_beside s k.setup.allowed p q h)) (contains_by same_port port_decides (links_at links p) q)

  pub other_decides : (p q : PortRef) → is_system s.components p ≡ is_system s.components q → Decides (has_other links p q) (HasOther s.connected p q)
  unfolding has_other
  other_decides p q alike =
      Decides-like (has_other links p q) (λ (w : (r : PortRef) × Contains (beside s p) r × ((r.comp ≡ q.comp) × (r ≢ q))).
      (w.0, connected_here s k.setup.allowed p w.0 w.1 (alike ∙ system_of s.components q w.0 (sym w.2.0)), w.2.0, w.2.1))
      (λ h. (h.0, connected_beside s k.setup.allowed p h.0 h.1, (h.2, h.3)))
      (kept_decides (λ r. (r.comp.0 == q.comp.0) && not (same_port r q)) (λ r. (r.comp ≡ q.comp) × (r ≢ q))
      (λ r. Decides-and (r.comp.0 == q.comp.0) (not (same_port r q)) (comp_decides r q) (Decides-not (same_port r q) (port_decides r q))) p)

  -- whether one of the two is a system port
  pub system_decides : (p q : PortRef) → Decides (connect_test s.types s.components links p q fault.SystemPort) (ConnectCause s p q fault.SystemPort)
  system_decides p q = Decides-or (is_system s.components p) (is_system s.components q) (itself (is_system s.components p)) (itself (is_system s.components q))

  own_decides : (p q : PortRef) → is_system s.components p ≡ is_system s.components q → (f : ConnectFault)
      → Decides (connect_test s.types s.components links p q f) (ConnectCause s p q f)
  own_decides p q alike fault.SystemPort = system_decides p q
  own_decides p q alike fault.SamePort = port_decides p q
  own_decides p q alike fault.Already = beside_decides p q alike
  own_decides p q alike fault.Mixed = Decides-or (is_mapped s.components links p) (is_mapped s.components links q) (mapped_decides p) (mapped_decides q)
  own_decides p q alike fault.TwoPortsOfOne = Decides-or (has_other links p q) (has_other links q p) (other_decides p q alike) (other_decides q p (sym alike))
  own_decides p q alike fault.Directions =
      Decides-not (are_among (outs s.types s.components p) (ins s.types s.components q)
      && are_among (outs s.types s.components q) (ins s.types s.components p)) (directed_decides s p q)
  own_decides p q alike fault.Memory = (λ e. absurd (cc), λ h. absurd h)

  -- where none of the two is one, each test decides its cause
  pub cause_decides : (p q : PortRef) → connect_test s.types s.components links p q fault.SystemPort ≡ false → (f : ConnectFault)
      → Decides (connect_test s.types s.components links p q f) (ConnectCause s p q f)
  cause_decides p q none f = own_decides p q (both_false (is_system s.components p) (is_system s.components q) none) f
