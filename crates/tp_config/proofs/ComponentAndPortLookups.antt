-- Components and ports by their names and numbers.
use Rattle.std.proofs.Common.{◌≡◌, ℕ, ◌+◌, ◌<◌, ◌≤◌, Bool, true, false, cond, not, List, [], ◌∷◌, Option, Some, None, map, length, get_or, nat_lt, refl, ap, sym, ◌∙◌, subst, arith, true≢false}
use Rattle.std.specs.Prelude.{All, Contains, String, IsSome, option_map, position, slice_get}
use Rattle.std.specs.List.{position_or_len}
use Rattle.std.specs.Option.{option_map_or}
use Rattle.std.specs.String.{string_bytes}
use Rattle.std.specs.Bool.{Decides}
use Rattle.std.specs.Str.{bytes_eq}
use Rattle.std.proofs.lemmas.List.{length-map}
use Rattle.std.proofs.lemmas.List.Quantifiers.{position-Some}
use Rattle.std.proofs.lemmas.List.Sums.{fails_before_first}
use Rattle.std.proofs.lemmas.Option.{slice_get-get_or, slice_get-map, slice_get_read, get_or_from_slice_get, slice_get_within}
use Rattle.std.proofs.lemmas.Slice.Eq.{bytes_eq-Decides}
use Rattle.tp_config.specs.declared.port_type.CompId.{CompId}
use Rattle.tp_config.specs.declared.port_type.PortRef.{PortRef}
use Rattle.tp_config.specs.declared.port_type.PortType.{PortType}
use Rattle.tp_config.specs.declared.port_type.CompType.{CompType}
use Rattle.tp_config.specs.declared.component.Component.{Component}
use Rattle.tp_config.specs.Setup.{Setup, PortDecl, Member, IsPort, decl_at, names_of_components, port_names, ports_at}
use Rattle.tp_config.specs.Shape.{decl_of, member_of, ports_of, setup_of}
use Rattle.tp_config.proofs.StoredPortLinks.{mapped_at}

place_map : {X Y : Type 0} (v : X → Y) (p : Y → Bool) (xs : List X) → position_or_len (λ x. p (v x)) xs ≡ position_or_len p (map v xs)
place_map v p [] = refl
place_map v p (x ∷ xs) = ap (λ n. cond (not (p (v x))) (1 + n) 0) (place_map v p xs)

pub position_map : {X Y : Type 0} (v : X → Y) (p : Y → Bool) (xs : List X) → position (λ x. p (v x)) xs ≡ position p (map v xs)
position_map v p xs =
    ap (λ n. cond (nat_lt n (length xs)) (Some n) None) (place_map v p xs)
    ∙ ap (λ m. cond (nat_lt (position_or_len p (map v xs)) m) (Some (position_or_len p (map v xs))) None) (sym (length-map xs v))

-- a search by a test that tells the name
module _ (p : List ℕ → Bool) (name : List ℕ) (tells : (n : List ℕ) → Decides (p n) (n ≡ name)) where
  pub name_there : (ns : List (List ℕ)) (k : ℕ) → Some k ≡ position p ns → slice_get ns k ≡ Some name
  name_there ns k e =
      let w = position-Some p ns k name (sym e) in
      slice_get-get_or ns k name w.0 ∙ ap (λ (x : List ℕ). Some x) ((tells (get_or ns k name)).0 w.1)

  pub name_known : (ns : List (List ℕ)) (k : ℕ) → Some k ≡ position p ns → Contains ns name
  name_known ns k e =
      let w = position-Some p ns k name (sym e) in
      (k, w.0, (tells (get_or ns k name)).0 w.1)

  pub name_unknown : (ns : List (List ℕ)) → None ≡ position p ns → Contains ns name → ⊥
  name_unknown ns e (k, below, is) =
      let here : p (get_or ns k name) ≡ true = (tells (get_or ns k name)).1 is in
      by (nat_lt (position_or_len p ns) (length ns)) refl e here
    where
      by : (b : Bool) → nat_lt (position_or_len p ns) (length ns) ≡ b → None ≡ cond b (Some (position_or_len p ns)) None → p (get_or ns k name) ≡ true → ⊥
      by true f none here = cc
      by false f none here =
          let past : length ns ≤ position_or_len p ns = grind (arith, f) in
          let other : p (get_or ns k name) ≡ false = fails_before_first p ns k name (omega arith) in
          true≢false (sym here ∙ other)

pub tells_name : (name n : List ℕ) → Decides (bytes_eq n name) (n ≡ name)
tells_name name n = bytes_eq-Decides n name

pub tells_back : (name n : List ℕ) → Decides (bytes_eq name n) (n ≡ name)
tells_back name n = (λ e. sym ((bytes_eq-Decides name n).0 e), λ e. (bytes_eq-Decides name n).1 (sym e))

-- the names of the components
comp_names : (cs : List Component) → map (λ c. string_bytes c.name) cs ≡ map (λ (m : Member). m.name) (map member_of cs)
unfolding member_of
comp_names [] = refl
comp_names (c ∷ cs) = ap (λ l. string_bytes c.name ∷ l) (comp_names cs)

pub comp_place : (cs ds : List Component) (s now : Setup) (name : List ℕ) → cs ≡ ds → s ≡ now → s.components ≡ map member_of ds
    → position (λ c. bytes_eq (string_bytes c.name) name) cs ≡ position (λ n. bytes_eq n name) (names_of_components now)
comp_place cs ds s now name e same shape =
    position_map (λ c. string_bytes c.name) (λ n. bytes_eq n name) cs
    ∙ ap (position (λ n. bytes_eq n name)) (comp_names cs ∙ ap (λ l. map (λ (m : Member). m.name) (map member_of l)) e
    ∙ ap (map (λ (m : Member). m.name)) (sym shape) ∙ ap names_of_components same)

-- the names of the ports of a type
type_names : {A : Type 0} (es : List (String A × PortType)) → map string_bytes (map (λ e. e.0) es) ≡ map (λ (d : PortDecl). d.name) (map decl_of es)
type_names [] = refl
type_names (e ∷ es) = ap (λ l. string_bytes e.0 ∷ l) (type_names es)

pub port_place : (t : CompType) (now : Setup) (c : CompId) (name : List ℕ) → ports_of t ≡ ports_at now.types now.components c
    → position (λ k. bytes_eq name (string_bytes k)) (map (λ e. e.0) t.ports.entries) ≡ position (bytes_eq name) (port_names now c)
unfolding ports_of
port_place t now c name e =
    position_map string_bytes (bytes_eq name) (map (λ e. e.0) t.ports.entries)
    ∙ ap (position (bytes_eq name)) (type_names t.ports.entries ∙ ap (map (λ (d : PortDecl). d.name)) e)

some_by : {X Y : Type 0} (f : X → Y) (o : Option X) (y : Y) → option_map f o ≡ Some y → IsSome o
some_by f None y e = absurd (cc)
some_by f (Some x) y e = refl

pub named_port : (now : Setup) (p : PortRef) (name : List ℕ) → slice_get (port_names now p.comp) p.port ≡ Some name → IsPort now p
unfolding decl_at
named_port now p name e =
    some_by (λ (d : PortDecl). d.name) (slice_get (ports_at now.types now.components p.comp) p.port) name
    (sym (slice_get-map (λ (d : PortDecl). d.name) (ports_at now.types now.components p.comp) p.port) ∙ e)

-- a component by its number
pub member_at : (s now : Setup) (cs : List Component) (k : ℕ) (x : Component) → s ≡ now → s.components ≡ map member_of cs → k < length now.components
    → x ≡ get_or cs k x → slice_get now.components k ≡ Some (member_of x)
member_at s now cs k x same shape below e =
    let inside : k < length cs = omega (arith, below, ap (λ (t : Setup). length t.components) same, ap length shape, length-map cs member_of) in
    ap (λ (t : Setup). slice_get t.components k) (sym same) ∙ ap (λ (l : List Member). slice_get l k) shape ∙ slice_get-map member_of cs k
    ∙ ap (option_map member_of) (slice_get_read cs (length cs) k x refl inside e)

pub name_at : (now : Setup) (k : ℕ) (x : Component) → slice_get now.components k ≡ Some (member_of x) → slice_get (names_of_components now) k ≡ Some (string_bytes x.name)
unfolding member_of
name_at now k x e = slice_get-map (λ (m : Member). m.name) now.components k ∙ ap (option_map (λ (m : Member). m.name)) e

pub role_at : (now : Setup) (k : ℕ) (x : Component) → slice_get now.components k ≡ Some (member_of x)
    → option_map (λ (m : Member). m.role) (slice_get now.components k) ≡ Some x.role
unfolding member_of
role_at now k x e = ap (option_map (λ (m : Member). m.role)) e

pub kind_is : (now : Setup) (k : ℕ) (x : Component) → slice_get now.components k ≡ Some (member_of x)
    → option_map (λ (m : Member). m.kind) (slice_get now.components k) ≡ Some x.kind
unfolding member_of
kind_is now k x e = ap (option_map (λ (m : Member). m.kind)) e

-- the place of a component's type
pub kind_at : (now : Setup) (k : ℕ) (x : Component) → All (λ (m : Member). m.kind < length now.types) now.components
    → slice_get now.components k ≡ Some (member_of x) → x.kind < length now.types
unfolding member_of
kind_at now k x kinds e =
    subst (λ (m : Member). m.kind < length now.types) (get_or_from_slice_get now.components k (member_of x) (member_of x) e)
    (kinds k (member_of x) (slice_get_within now.components k (member_of x) e))

pub ports_by : (now : Setup) (ts : List CompType) (c : CompId) (x : Component) (t : CompType) → now.types ≡ map ports_of ts → x.kind < length ts
    → slice_get now.components c.0 ≡ Some (member_of x) → t ≡ get_or ts x.kind t → ports_of t ≡ ports_at now.types now.components c
unfolding ports_at member_of
ports_by now ts c x t shape below e f =
    sym (ap (λ o. option_map_or (λ (m : Member). get_or now.types m.kind []) o []) e ∙ ap (λ (l : List (List PortDecl)). get_or l x.kind []) shape
    ∙ mapped_at ports_of ts x.kind t [] below f)

pub seen_ports : (t u : List CompType) (c d : List Component) (n m : List (PortRef × PortRef)) (now : Setup) (comp : CompId) → t ≡ u → c ≡ d
    → setup_of u d n m ≡ now → ports_at (map ports_of t) (map member_of c) comp ≡ ports_at now.types now.components comp
seen_ports t u c d n m now comp a b same =
    ap (λ x. ports_at (map ports_of x) (map member_of c) comp) a ∙ ap (λ x. ports_at (map ports_of u) (map member_of x) comp) b
    ∙ ap (λ (s : Setup). ports_at s.types s.components comp) same
