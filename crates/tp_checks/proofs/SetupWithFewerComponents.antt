-- Fewer components: what can be connected in a configuration can be where components that have no pair are left out.
use Rattle.std.proofs.Common.{◌≡◌, ◌≤◌, ℕ, Bool, true, false, cond, List, [], ◌∷◌, ◌++◌, Option, None, Some, All, Contains, length, get_or, map, option_map, slice_get, refl, sym, ap, ◌∙◌, subst, arith}
use Rattle.std.proofs.lemmas.List.{get_or-map, length-append, length-map, map_push}
use Rattle.std.proofs.lemmas.List.Elements.{filter_map-append}
use Rattle.std.specs.{Prelude.IsSome, Bool.Decides, List.cons_option, Option.option_map_or}
use Rattle.tp_tree.specs.declared.tree.{EndComponent.EndComponent, PairEnd.PairEnd, SetupAction.SetupAction, SetupStatement.SetupStatement}
use Rattle.tp_tree.specs.declared.tree.SetupAction.TheVariants as setup_action
use Rattle.tp_value.specs.declared.types.Ty.{Ty}
use Rattle.tp_config.specs.declared.port_type.{CompId.CompId, PortRef.PortRef}
use Rattle.tp_config.specs.Setup.{Setup, PortDecl, Member, connecting, decl_at, ins, is_system, is_system_member, mapping, outs, ports_at}
use Rattle.tp_config.specs.Allowed.{Allowed, CanConnect, CanMap, MapDirected, MayConnect, MayMap}
use Rattle.tp_config.specs.Pairs.{partner, partners, same_port}
use Rattle.tp_config.proofs.{CreateTestsDecideCauses.port_decides, RouteLaws.map_contains}
use Rattle.tp_checks.specs.Components.{creation_of, creations, variable_name, variables}
use Rattle.tp_checks.specs.Configuring.{IsPortOfEnd, IsStep, Makes, end_component_number, nothing, one_more}
use Rattle.tp_checks.proofs.RulesOfAddedComponents.{same_setup}

abbrev port_at : ℕ → ℕ → PortRef
port_at i j = record { comp = record { 0 = i }; port = j }

-- two tests of facts that follow from each other
same_test : (b c : Bool) (P Q : Type 0) → Decides b P → Decides c Q → (P → Q) → (Q → P) → b ≡ c
same_test true true P Q first second there back = refl
same_test true false P Q first second there back = sym (second.1 (there (first.0 refl)))
same_test false true P Q first second there back = first.1 (back (second.0 refl))
same_test false false P Q first second there back = refl

module _ (more : List Member) (number : ℕ → ℕ) (apart : (i j : ℕ) → number i ≡ number j → i ≡ j) where
  abbrev at : PortRef → PortRef
  at p = port_at (number p.comp.0) p.port

  abbrev both : PortRef × PortRef → PortRef × PortRef
  both pair = (at pair.0, at pair.1)

  -- the configuration with more components, whose numbers are others
  abbrev pub seen : Setup → Setup
  seen s = record { types = s.types; components = more; connected = map both s.connected; mapped = map both s.mapped }

  -- its components are among them
  abbrev pub Looks : List Member → Type 0
  Looks members = (i : ℕ) → slice_get members i ≡ slice_get more (number i)

  at_apart : (p q : PortRef) → at p ≡ at q → p ≡ q
  at_apart p q e =
      ap (λ i. port_at i p.port) (apart p.comp.0 q.comp.0 (ap (λ (x : PortRef). x.comp.0) e))
      ∙ ap (port_at q.comp.0) (ap (λ (x : PortRef). x.port) e)

  same_at : (p q : PortRef) → same_port (at p) (at q) ≡ same_port p q
  same_at p q =
      same_test (same_port (at p) (at q)) (same_port p q) (at p ≡ at q) (p ≡ q) (port_decides (at p) (at q)) (port_decides p q) (at_apart p q) (λ e. ap at e)

  partner_at : (p : PortRef) (pair : PortRef × PortRef) → partner (at p) (both pair) ≡ option_map at (partner p pair)
  partner_at p pair =
      ap (λ b. cond b (Some (at pair.1)) (cond (same_port (at p) (at pair.1)) (Some (at pair.0)) None)) (same_at p pair.0)
      ∙ ap (λ b. cond (same_port p pair.0) (Some (at pair.1)) (cond b (Some (at pair.0)) None)) (same_at p pair.1)
      ∙ by (same_port p pair.0) (same_port p pair.1)
    where
      by : (b c : Bool) → cond b (Some (at pair.1)) (cond c (Some (at pair.0)) None) ≡ option_map at (cond b (Some pair.1) (cond c (Some pair.0) None))
      by true c = refl
      by false true = refl
      by false false = refl

  cons_at : (o : Option PortRef) (ps : List PortRef) → cons_option (option_map at o) (map at ps) ≡ map at (cons_option o ps)
  cons_at None ps = refl
  cons_at (Some p) ps = refl

  partners_at : (pairs : List (PortRef × PortRef)) (p : PortRef) → partners (map both pairs) (at p) ≡ map at (partners pairs p)
  partners_at [] p = refl
  partners_at (pair ∷ pairs) p =
      ap (λ o. cons_option o (partners (map both pairs) (at p))) (partner_at p pair)
      ∙ ap (cons_option (option_map at (partner p pair))) (partners_at pairs p) ∙ cons_at (partner p pair) (partners pairs p)

  beside_at : (pairs : List (PortRef × PortRef)) (p q : PortRef) → Contains (partners pairs p) q → Contains (partners (map both pairs) (at p)) (at q)
  beside_at pairs p q h = subst (λ l. Contains l (at q)) (sym (partners_at pairs p)) (map_contains at (partners pairs p) q h)

  each_at : (P Q : PortRef × PortRef → Type 0) → ((pair : PortRef × PortRef) → P (both pair) → Q pair) → (pairs : List (PortRef × PortRef))
      → All P (map both pairs) → All Q pairs
  each_at P Q back pairs each k d below =
      back (get_or pairs k d)
      (subst P (get_or-map both pairs k d (both d) below) (each k (both d) (omega (arith, length-map pairs both, below))))

  module _ (types : List (List PortDecl)) (members : List Member) (look : Looks members) where
    system_at : (p : PortRef) → is_system members p ≡ is_system more (at p)
    unfolding is_system
    system_at p = ap (λ o. option_map_or is_system_member o false) (look p.comp.0)

    pub ports_there : (c : CompId) → ports_at types members c ≡ ports_at types more (record { 0 = number c.0 })
    unfolding ports_at
    ports_there c = ap (λ o. option_map_or (λ (m : Member). get_or types m.kind []) o []) (look c.0)

    decl_there : (p : PortRef) → decl_at types members p ≡ decl_at types more (at p)
    unfolding decl_at
    decl_there p = ap (λ (l : List PortDecl). slice_get l p.port) (ports_there p.comp)

    ins_there : (p : PortRef) → ins types more (at p) ≡ ins types members p
    unfolding ins
    ins_there p = ap (λ o. option_map_or (λ (d : PortDecl). d.ins) o []) (sym (decl_there p))

    outs_there : (p : PortRef) → outs types more (at p) ≡ outs types members p
    unfolding outs
    outs_there p = ap (λ o. option_map_or (λ (d : PortDecl). d.outs) o []) (sym (decl_there p))

    -- one list of types in another, under the other numbers
    within : (xs ys us vs : List Ty) → xs ≡ us → ys ≡ vs → All (Contains xs) ys → All (Contains us) vs
    within xs ys us vs e f h = subst (λ l. All (Contains l) vs) e (subst (λ l. All (Contains xs) l) f h)

    connect_there : (pair : PortRef × PortRef) → MayConnect types more (both pair) → MayConnect types members pair
    connect_there pair h = record {
      first_own = system_at pair.0 ∙ h.first_own;
      second_own = system_at pair.1 ∙ h.second_own;
      differ = λ e. h.differ (ap at e);
      directed = (within _ _ _ _ (ins_there pair.1) (outs_there pair.0) h.directed.0, within _ _ _ _ (ins_there pair.0) (outs_there pair.1) h.directed.1);
    }

    map_directed : (p q : PortRef) → MapDirected types more (at p) (at q) → MapDirected types members p q
    map_directed p q h = (within _ _ _ _ (outs_there q) (outs_there p) h.0, within _ _ _ _ (ins_there p) (ins_there q) h.1)

    map_there : (pair : PortRef × PortRef) → MayMap types more (both pair) → MayMap types members pair
    map_there pair h = record {
      one_system = λ e. h.one_system (sym (system_at pair.0) ∙ e ∙ system_at pair.1);
      to_second = λ e. map_directed pair.0 pair.1 (h.to_second (sym (system_at pair.1) ∙ e));
      to_first = λ e. map_directed pair.1 pair.0 (h.to_first (sym (system_at pair.0) ∙ e));
    }

  allowed_there : (s : Setup) → Looks s.components → Allowed (seen s) → Allowed s
  allowed_there s look h = record {
    may_connect = each_at (MayConnect s.types more) (MayConnect s.types s.components) (connect_there s.types s.components look) s.connected h.may_connect;
    one_of_each = λ p q r first second e.
        at_apart q r (h.one_of_each (at p) (at q) (at r) (beside_at s.connected p q first) (beside_at s.connected p r second)
        (ap (λ (c : CompId). (port_at (number c.0) 0).comp) e));
    may_map = each_at (MayMap s.types more) (MayMap s.types s.components) (map_there s.types s.components look) s.mapped h.may_map;
    one_mapping = λ p. omega (arith, h.one_mapping (at p), ap length (partners_at s.mapped p), length-map (partners s.mapped p) at);
    apart = λ p q r first second. h.apart (at p) (at q) (at r) (beside_at s.connected p q first) (beside_at s.mapped p r second);
  }

  abbrev with_pairs : Setup → List (PortRef × PortRef) → List (PortRef × PortRef) → Setup
  with_pairs s connected mapped = record { types = s.types; components = more; connected = connected; mapped = mapped }

  -- where no pair is there yet
  pub seen_is : (start s : Setup) → start.types ≡ s.types → start.components ≡ more → start.connected ≡ [] → s.connected ≡ [] → start.mapped ≡ []
      → s.mapped ≡ [] → start ≡ seen s
  seen_is start s types components none bare unmapped left =
      same_setup start (seen s) types components (none ∙ ap (map both) (sym bare)) (unmapped ∙ ap (map both) (sym left))

  connecting_there : (s : Setup) (p q : PortRef) → seen (connecting s p q) ≡ connecting (seen s) (at p) (at q)
  connecting_there s p q = ap (λ l. with_pairs s l (map both s.mapped)) (map_push both s.connected (p, q))

  mapping_there : (s : Setup) (p q : PortRef) → seen (mapping s p q) ≡ mapping (seen s) (at p) (at q)
  mapping_there s p q = ap (λ l. with_pairs s (map both s.connected) l) (map_push both s.mapped (p, q))

  can_connect : (s : Setup) → Looks s.components → (p q : PortRef) → CanConnect (seen s) (at p) (at q) → CanConnect s p q
  can_connect s look p q h = (
    λ there. h.0 (beside_at s.connected p q there),
    allowed_there (connecting s p q) look (subst Allowed (sym (connecting_there s p q)) h.1),
  )

  can_map : (s : Setup) → Looks s.components → (p q : PortRef) → CanMap (seen s) (at p) (at q) → CanMap s p q
  can_map s look p q h = (
    λ there. h.0 (beside_at s.mapped p q there),
    allowed_there (mapping s p q) look (subst Allowed (sym (mapping_there s p q)) h.1),
  )

  -- how the two configurations number what a setup statement names, where there are at most this many variables before it
  module _ (most : ℕ) (system face : Option ℕ)
      (found : (names : List (List ℕ)) (c : EndComponent) (n : ℕ) → length names ≤ most → end_component_number names face c ≡ Some n
      → (i : ℕ) × (end_component_number names system c ≡ Some i) × (n ≡ number i)) where
    end_there : (s : Setup) → Looks s.components → (names : List (List ℕ)) → length names ≤ most → (x : PairEnd) (p : PortRef)
        → IsPortOfEnd (seen s) names face x p → (q : PortRef) × (p ≡ at q) × IsPortOfEnd s names system x q
    end_there s look names few x p h =
        let r = found names x.component p.comp.0 few h.component_known in
        let q : PortRef = port_at r.0 p.port in
        let same : p ≡ at q = ap (λ i. port_at i p.port) r.2 in
        let there : IsPortOfEnd (seen s) names face x (at q) = subst (IsPortOfEnd (seen s) names face x) same h in (
          q,
          same,
          record {
            component_known = r.1;
            port_known = ap (λ (l : List PortDecl). slice_get (map (λ (d : PortDecl). d.name) l) p.port) (ports_there s.types s.components look q.comp)
                ∙ there.port_known;
            is_port = subst IsSome (sym (decl_there s.types s.components look q)) there.is_port;
          },
        )

    step_there : (s : Setup) → Looks s.components → (names : List (List ℕ)) → length names ≤ most → (a : SetupAction) (t : Setup)
        → IsStep (seen s) names face a t → (u : Setup) × (t ≡ seen u) × Looks u.components × IsStep s names system a u
    step_there s look names few (setup_action.Create c) t step = (s, step, look, refl)
    step_there s look names few (setup_action.Connect x y) t h =
        let p = end_there s look names few x h.p h.first in
        let q = end_there s look names few y h.q h.second in
        let can : CanConnect (seen s) (at p.0) (at q.0) =
        subst (λ z. CanConnect (seen s) z (at q.0)) p.1 (subst (λ z. CanConnect (seen s) h.p z) q.1 h.can) in (
          connecting s p.0 q.0,
          h.connected ∙ ap (λ z. connecting (seen s) z h.q) p.1 ∙ ap (connecting (seen s) (at p.0)) q.1 ∙ sym (connecting_there s p.0 q.0),
          look,
          record { p = p.0; q = q.0; first = p.2; second = q.2; can = can_connect s look p.0 q.0 can; connected = refl },
        )
    step_there s look names few (setup_action.Map x y) t h =
        let p = end_there s look names few x h.p h.first in
        let q = end_there s look names few y h.q h.second in
        let can : CanMap (seen s) (at p.0) (at q.0) =
        subst (λ z. CanMap (seen s) z (at q.0)) p.1 (subst (λ z. CanMap (seen s) h.p z) q.1 h.can) in (
          mapping s p.0 q.0,
          h.mapped ∙ ap (λ z. mapping (seen s) z h.q) p.1 ∙ ap (mapping (seen s) (at p.0)) q.1 ∙ sym (mapping_there s p.0 q.0),
          look,
          record { p = p.0; q = q.0; first = p.2; second = q.2; can = can_map s look p.0 q.0 can; mapped = refl },
        )

    fewer : (xs : List SetupStatement) (x : SetupStatement) → length (variables (xs ++ x ∷ [])) ≤ most → length (variables xs) ≤ most
    fewer xs x few =
        omega (
          arith,
          few,
          length-map (creations (xs ++ x ∷ [])) variable_name,
          length-map (creations xs) variable_name,
          ap length (filter_map-append creation_of xs (x ∷ [])),
          length-append (creations xs) (creations (x ∷ [])),
        )

    -- the setup statements can be done in the smaller one
    pub makes_there : (start full : Setup) → full ≡ seen start → Looks start.components → (xs : List SetupStatement) (t : Setup)
        → length (variables xs) ≤ most → Makes face full xs t
        → (u : Setup) × (t ≡ seen u) × Looks u.components × Makes system start xs u
    makes_there start full e look xs t few nothing = (start, e, look, nothing)
    makes_there start full e look xs t few (one_more ys s x w before step) =
        let r = makes_there start full e look ys s (fewer ys x few) before in
        let next = step_there r.0 r.2 (variables ys) (fewer ys x few) x.action t
        (subst (λ z. IsStep z (variables ys) face x.action t) r.1 step) in
        (next.0, next.1, next.2, one_more ys r.0 x next.0 r.3 next.3)
