-- A configuration with one more component is allowed.
use Rattle.std.proofs.Common.{◌≡◌, ℕ, zero, suc, ◌<◌, ◌≤◌, inl, inr, false, true, List, [], ◌∷◌, ◌++◌, length, get_or, refl, ap, sym, ◌∙◌, subst, arith}
use Rattle.std.specs.Prelude.{All, slice_get, IsSome, is_some}
use Rattle.std.specs.Option.{option_map_or}
use Rattle.std.proofs.lemmas.Bool.{cases_lt}
use Rattle.std.proofs.lemmas.Option.{slice_get_past}
use Rattle.tp_config.specs.declared.port_type.CompId.{CompId}
use Rattle.tp_config.specs.declared.port_type.PortRef.{PortRef}
use Rattle.tp_config.specs.Setup.{Setup, PortDecl, Member, IsPort, creating, is_system, is_system_member, ports_at, decl_at, ins, outs}
use Rattle.tp_config.specs.Allowed.{Allowed, ArePorts, MayConnect, MayMap, Directed, MapDirected}

-- both ports are of the first n components
abbrev pub AreWithin : ℕ → PortRef × PortRef → Type 0
AreWithin n pair = (pair.0.comp.0 < n) × (pair.1.comp.0 < n)

get_before : {X : Type 0} (xs : List X) (x : X) (k : ℕ) → k < length xs → slice_get (xs ++ x ∷ []) k ≡ slice_get xs k
get_before [] x k n = absurd (omega (arith, n))
get_before (y ∷ xs) x zero n = refl
get_before (y ∷ xs) x (suc k) n = get_before xs x k (omega (arith, n))

pub ports_before : (t : List (List PortDecl)) (ms : List Member) (m : Member) (c : CompId) → c.0 < length ms → ports_at t (ms ++ m ∷ []) c ≡ ports_at t ms c
unfolding ports_at
ports_before t ms m c n = ap (λ o. option_map_or (λ (x : Member). get_or t x.kind []) o []) (get_before ms m c.0 n)

-- a component that is not there has no ports
pub ports_past : (t : List (List PortDecl)) (ms : List Member) (c : CompId) → length ms ≤ c.0 → ports_at t ms c ≡ []
unfolding ports_at
ports_past t ms c n = ap (λ o. option_map_or (λ (x : Member). get_or t x.kind []) o []) (slice_get_past ms c.0 n)

no_decl : (t : List (List PortDecl)) (ms : List Member) (p : PortRef) → ports_at t ms p.comp ≡ [] → IsSome (decl_at t ms p) → ⊥
unfolding decl_at
no_decl t ms p e h =
    absurd (let f : is_some (slice_get (ports_at t ms p.comp) p.port) ≡ false = ap (λ (l : List PortDecl). is_some (slice_get l p.port)) e in cc)

-- the component of a port is there
pub comp_there : (t : List (List PortDecl)) (ms : List Member) (p : PortRef) → IsSome (decl_at t ms p) → p.comp.0 < length ms
comp_there t ms p h = elim (cases_lt p.comp.0 (length ms)) [ inl below ↦ below | inr past ↦ absurd (no_decl t ms p (ports_past t ms p.comp past) h) ]

system_before : (ms : List Member) (m : Member) (p : PortRef) → p.comp.0 < length ms → is_system (ms ++ m ∷ []) p ≡ is_system ms p
unfolding is_system
system_before ms m p n = ap (λ o. option_map_or is_system_member o false) (get_before ms m p.comp.0 n)

decl_before : (t : List (List PortDecl)) (ms : List Member) (m : Member) (p : PortRef) → p.comp.0 < length ms → decl_at t (ms ++ m ∷ []) p ≡ decl_at t ms p
unfolding decl_at
decl_before t ms m p n = ap (λ (l : List PortDecl). slice_get l p.port) (ports_before t ms m p.comp n)

ins_before : (t : List (List PortDecl)) (ms : List Member) (m : Member) (p : PortRef) → p.comp.0 < length ms → ins t (ms ++ m ∷ []) p ≡ ins t ms p
unfolding ins
ins_before t ms m p n = ap (λ o. option_map_or (λ (d : PortDecl). d.ins) o []) (decl_before t ms m p n)

outs_before : (t : List (List PortDecl)) (ms : List Member) (m : Member) (p : PortRef) → p.comp.0 < length ms → outs t (ms ++ m ∷ []) p ≡ outs t ms p
unfolding outs
outs_before t ms m p n = ap (λ o. option_map_or (λ (d : PortDecl). d.outs) o []) (decl_before t ms m p n)

may_connect_before : (t : List (List PortDecl)) (ms : List Member) (m : Member) (pair : PortRef × PortRef) → AreWithin (length ms) pair
    → MayConnect t ms pair → MayConnect t (ms ++ m ∷ []) pair
may_connect_before t ms m pair n c =
    let directed : Directed t (ms ++ m ∷ []) pair.0 pair.1 =
    rw (ins_before t ms m pair.0 n.0, ins_before t ms m pair.1 n.1, outs_before t ms m pair.0 n.0, outs_before t ms m pair.1 n.1) c.directed in
    record {
      first_own = system_before ms m pair.0 n.0 ∙ c.first_own;
      second_own = system_before ms m pair.1 n.1 ∙ c.second_own;
      differ = c.differ;
      directed = directed;
    }

may_map_before : (t : List (List PortDecl)) (ms : List Member) (m : Member) (pair : PortRef × PortRef) → AreWithin (length ms) pair → MayMap t ms pair
    → MayMap t (ms ++ m ∷ []) pair
may_map_before t ms m pair n c =
    let sys0 : is_system (ms ++ m ∷ []) pair.0 ≡ is_system ms pair.0 = system_before ms m pair.0 n.0 in
    let sys1 : is_system (ms ++ m ∷ []) pair.1 ≡ is_system ms pair.1 = system_before ms m pair.1 n.1 in
    let second : is_system ms pair.1 ≡ true → MapDirected t (ms ++ m ∷ []) pair.0 pair.1 =
    rw (ins_before t ms m pair.0 n.0, ins_before t ms m pair.1 n.1, outs_before t ms m pair.0 n.0, outs_before t ms m pair.1 n.1) c.to_second in
    let first : is_system ms pair.0 ≡ true → MapDirected t (ms ++ m ∷ []) pair.1 pair.0 =
    rw (ins_before t ms m pair.0 n.0, ins_before t ms m pair.1 n.1, outs_before t ms m pair.0 n.0, outs_before t ms m pair.1 n.1) c.to_first in
    record { one_system = λ e. c.one_system (sym sys0 ∙ e ∙ sys1); to_second = λ e. second (sym sys1 ∙ e); to_first = λ e. first (sym sys0 ∙ e) }

pair_within : (s : Setup) (pair : PortRef × PortRef) → ArePorts s pair → AreWithin (length s.components) pair
pair_within s pair h = (comp_there s.types s.components pair.0 h.0, comp_there s.types s.components pair.1 h.1)

-- a port stays a port
pub port_kept : (s : Setup) (m : Member) (p : PortRef) → IsPort s p → IsPort (creating s m) p
port_kept s m p h = subst (λ o. IsSome o) (sym (decl_before s.types s.components m p (comp_there s.types s.components p h))) h

pub ports_kept : (s : Setup) (m : Member) (pairs : List (PortRef × PortRef)) → All (ArePorts s) pairs → All (ArePorts (creating s m)) pairs
ports_kept s m pairs h = λ k d n. (port_kept s m (get_or pairs k d).0 (h k d n).0, port_kept s m (get_or pairs k d).1 (h k d n).1)

pub create_allowed : (s : Setup) (m : Member) → All (ArePorts s) s.connected → All (ArePorts s) s.mapped → Allowed s → Allowed (creating s m)
create_allowed s m c d l =
    record {
      may_connect = λ k x n. may_connect_before s.types s.components m (get_or s.connected k x) (pair_within s (get_or s.connected k x) (c k x n))
          (l.may_connect k x n);
      one_of_each = l.one_of_each;
      may_map = λ k x n. may_map_before s.types s.components m (get_or s.mapped k x) (pair_within s (get_or s.mapped k x) (d k x n)) (l.may_map k x n);
      one_mapping = l.one_mapping;
      apart = l.apart;
    }
