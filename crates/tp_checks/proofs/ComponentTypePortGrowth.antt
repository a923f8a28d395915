-- A port that is added to a component type.
use Rattle.std.proofs.Common.{◌≡◌, ℕ, ◌+◌, Bool, true, false, cond, List, [], ◌∷◌, ◌++◌, None, Some, map, position, Contains, refl, ap, sym, ◌∙◌, subst, arith, add-one, Global, string_bytes}
use Rattle.std.proofs.lemmas.Slice.Eq.{bytes_eq-Decides}
use Rattle.std.specs.declared.string.String.{String}
use Rattle.std.specs.Str.{bytes_eq}
use Rattle.indexmap.specs.IndexMap.{insert_entry}
use Rattle.tp_value.specs.declared.types.Ty.{Ty}
use Rattle.tp_config.specs.declared.port_type.PortType.{PortType}
use Rattle.tp_config.specs.{Setup.PortDecl, Shape.decl_of}
use Rattle.tp_checks.proofs.NameSetLookups.{place_known, place_unknown}
use Rattle.tp_config.proofs.ComponentAndPortLookups.{position_map}

abbrev pub Entries : Type 0
Entries = List (String Global × PortType)

abbrev pub names_in : Entries → List (List ℕ)
names_in es = map (λ e. string_bytes e.0) es

keys_in : (es : Entries) → map string_bytes (map (λ e. e.0) es) ≡ names_in es
keys_in [] = refl
keys_in (e ∷ es) = ap (λ l. string_bytes e.0 ∷ l) (keys_in es)

-- a look-up that finds nothing
pub not_there : (es : Entries) (name : List ℕ) → None ≡ position (λ k. bytes_eq name (string_bytes k)) (map (λ e. e.0) es) → Contains (names_in es) name → ⊥
not_there es name e h =
    place_unknown (map string_bytes (map (λ e. e.0) es)) name (e ∙ position_map string_bytes (bytes_eq name) (map (λ e. e.0) es))
    (subst (λ l. Contains l name) (sym (keys_in es)) h)

-- a new port goes last
pub port_added : (es : Entries) (k : String Global) (p : PortType) → (Contains (names_in es) (string_bytes k) → ⊥)
    → map decl_of (insert_entry (λ x y. bytes_eq (string_bytes x) (string_bytes y)) es k p) ≡ map decl_of es ++ decl_of (k, p) ∷ []
port_added [] k p new = refl
port_added (e ∷ es) k p new =
    by (bytes_eq (string_bytes k) (string_bytes e.0)) refl (port_added es k p (λ (n, below, is). new (n + 1, omega arith, rw add-one is)))
  where
    by : (b : Bool) → bytes_eq (string_bytes k) (string_bytes e.0) ≡ b
        → map decl_of (insert_entry (λ x y. bytes_eq (string_bytes x) (string_bytes y)) es k p) ≡ map decl_of es ++ decl_of (k, p) ∷ []
        → map decl_of (cond b ((e.0, p) ∷ es) (e ∷ insert_entry (λ x y. bytes_eq (string_bytes x) (string_bytes y)) es k p))
        ≡ map decl_of (e ∷ es) ++ decl_of (k, p) ∷ []
    by true f later = absurd (new (0, omega arith, sym ((bytes_eq-Decides (string_bytes k) (string_bytes e.0)).0 f)))
    by false f later = ap (λ r. decl_of e ∷ r) later

abbrev pub declaration : List ℕ → List Ty → List Ty → PortDecl
declaration name ins outs = record { name = name; ins = ins; outs = outs }

pub same_declaration : (a b : List ℕ) (i j o p : List Ty) → a ≡ b → i ≡ j → o ≡ p → declaration a i o ≡ declaration b j p
same_declaration a b i j o p e f g = rw (e, f, g)

-- a look-up that finds a name
pub is_there : (es : Entries) (name : List ℕ) (n : ℕ) → Some n ≡ position (λ k. bytes_eq name (string_bytes k)) (map (λ e. e.0) es) → Contains (names_in es) name
is_there es name n e =
    subst (λ l. Contains l name) (keys_in es)
    (place_known (map string_bytes (map (λ e. e.0) es)) name n (e ∙ position_map string_bytes (bytes_eq name) (map (λ e. e.0) es)))

pub names_declared : (es : Entries) → map (λ (p : PortDecl). p.name) (map decl_of es) ≡ names_in es
names_declared [] = refl
names_declared (e ∷ es) = ap (λ l. string_bytes e.0 ∷ l) (names_declared es)
