-- What a configuration says of a port, by its fields.
use Rattle.std.proofs.Common.{◌≡◌, ℕ, zero, suc, length, get_or, [], ◌∷◌, false, Option, Some, None, List, map, refl, ap, sym, ◌∙◌}
use Rattle.std.specs.Prelude.{slice_get, option_map, String}
use Rattle.std.specs.Option.{option_map_or}
use Rattle.std.proofs.lemmas.Option.{slice_get-map}
use Rattle.std.proofs.lemmas.List.{length-map}
use Rattle.tp_value.specs.declared.types.Ty.{Ty}
use Rattle.tp_config.specs.declared.port_type.CompId.{CompId}
use Rattle.tp_config.specs.declared.port_type.PortRef.{PortRef}
use Rattle.tp_config.specs.declared.port_type.PortType.{PortType}
use Rattle.tp_config.specs.declared.port_type.CompType.{CompType}
use Rattle.tp_config.specs.declared.component.Component.{Component}
use Rattle.tp_config.specs.Setup.{PortDecl, Member, is_system, is_system_member, is_system_role, ports_at, decl_at, ins, outs}
use Rattle.tp_config.specs.Shape.{ports_of, member_of, decl_of, types_of_port_type, types_of_decl}

pub system_some : (cs : List Component) (p : PortRef) (c : Component) → slice_get cs p.comp.0 ≡ Some c → is_system_role c.role ≡ is_system (map member_of cs) p
unfolding is_system member_of
system_some cs p c e = sym (ap (λ o. option_map_or is_system_member o false) (slice_get-map member_of cs p.comp.0 ∙ ap (option_map member_of) e))

pub system_none : (cs : List Component) (p : PortRef) → slice_get cs p.comp.0 ≡ None → false ≡ is_system (map member_of cs) p
unfolding is_system
system_none cs p e = sym (ap (λ o. option_map_or is_system_member o false) (slice_get-map member_of cs p.comp.0 ∙ ap (option_map member_of) e))

-- an element of a mapped list, or the default
pub get_or_mapped : {X Y : Type 0} (f : X → Y) (xs : List X) (k : ℕ) (d : Y) → get_or (map f xs) k d ≡ option_map_or f (slice_get xs k) d
get_or_mapped f [] k d = refl
get_or_mapped f (x ∷ xs) zero d = refl
get_or_mapped f (x ∷ xs) (suc k) d = get_or_mapped f xs k d

pub ports_none : (ts : List CompType) (cs : List Component) (c : CompId) → slice_get cs c.0 ≡ None → [] ≡ ports_at (map ports_of ts) (map member_of cs) c
unfolding ports_at
ports_none ts cs c e =
    sym (ap (λ o. option_map_or (λ (m : Member). get_or (map ports_of ts) m.kind []) o []) (slice_get-map member_of cs c.0 ∙ ap (option_map member_of) e))

pub ports_some : (ts : List CompType) (cs : List Component) (c : CompId) (x : Component) (o : Option CompType) → slice_get cs c.0 ≡ Some x
    → o ≡ slice_get ts x.kind → option_map_or ports_of o [] ≡ ports_at (map ports_of ts) (map member_of cs) c
unfolding ports_at member_of
ports_some ts cs c x o e f =
    sym (ap (λ o. option_map_or (λ (m : Member). get_or (map ports_of ts) m.kind []) o [])
    (slice_get-map member_of cs c.0 ∙ ap (option_map member_of) e) ∙ get_or_mapped ports_of ts x.kind [] ∙ ap (λ o. option_map_or ports_of o []) (sym f))

pub length_ports : (t : CompType) → length (ports_of t) ≡ length t.ports.entries
unfolding ports_of
length_ports t = length-map t.ports.entries decl_of

pub types_none : (ts : List (List PortDecl)) (ms : List Member) (p : PortRef) → [] ≡ ports_at ts ms p.comp → None ≡ option_map types_of_decl (decl_at ts ms p)
unfolding decl_at
types_none ts ms p e = ap (λ (l : List PortDecl). option_map types_of_decl (slice_get l p.port)) e

types_in : {A : Type 0} (o : Option (String A × PortType))
    → option_map types_of_port_type (option_map (λ e. e.1) o) ≡ option_map types_of_decl (option_map decl_of o)
types_in None = refl
types_in (Some e) = refl

pub types_entry : (ts : List (List PortDecl)) (ms : List Member) (p : PortRef) (t : CompType) (o : Option PortType)
    → ports_of t ≡ ports_at ts ms p.comp → o ≡ option_map (λ e. e.1) (slice_get t.ports.entries p.port)
    → option_map types_of_port_type o ≡ option_map types_of_decl (decl_at ts ms p)
unfolding decl_at ports_of
types_entry ts ms p t o e is =
    ap (option_map types_of_port_type) is ∙ types_in (slice_get t.ports.entries p.port)
    ∙ ap (option_map types_of_decl) (sym (slice_get-map decl_of t.ports.entries p.port) ∙ ap (λ (l : List PortDecl). slice_get l p.port) e)

ins_in : (o : Option PortType) (d : Option PortDecl) → option_map types_of_port_type o ≡ option_map types_of_decl d
    → option_map_or (λ (t : PortType). t.ins) o [] ≡ option_map_or (λ (e : PortDecl). e.ins) d []
ins_in None None h = refl
ins_in None (Some d) h = absurd (cc)
ins_in (Some t) None h = absurd (cc)
ins_in (Some t) (Some d) h = let x : types_of_port_type t ≡ types_of_decl d = cc in ap (λ (y : List Ty × List Ty). y.0) x

outs_in : (o : Option PortType) (d : Option PortDecl) → option_map types_of_port_type o ≡ option_map types_of_decl d
    → option_map_or (λ (t : PortType). t.outs) o [] ≡ option_map_or (λ (e : PortDecl). e.outs) d []
outs_in None None h = refl
outs_in None (Some d) h = absurd (cc)
outs_in (Some t) None h = absurd (cc)
outs_in (Some t) (Some d) h = let x : types_of_port_type t ≡ types_of_decl d = cc in ap (λ (y : List Ty × List Ty). y.1) x

pub ins_by : (ts : List (List PortDecl)) (cs : List Member) (p : PortRef) (o : Option PortType)
    → option_map types_of_port_type o ≡ option_map types_of_decl (decl_at ts cs p) → option_map_or (λ (t : PortType). t.ins) o [] ≡ ins ts cs p
unfolding ins
ins_by ts cs p o h = ins_in o (decl_at ts cs p) h

pub outs_by : (ts : List (List PortDecl)) (cs : List Member) (p : PortRef) (o : Option PortType)
    → option_map types_of_port_type o ≡ option_map types_of_decl (decl_at ts cs p) → option_map_or (λ (t : PortType). t.outs) o [] ≡ outs ts cs p
unfolding outs
outs_by ts cs p o h = outs_in o (decl_at ts cs p) h
