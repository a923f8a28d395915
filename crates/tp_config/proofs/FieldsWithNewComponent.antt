-- The fields of a configuration with one more component.
use Rattle.std.proofs.Common.{◌≡◌, ℕ, ◌<◌, List, [], ◌∷◌, ◌++◌, length, get_or, map, replicate, refl, ap, sym, ◌∙◌, arith, ◌||◌}
use Rattle.std.specs.Prelude.{find}
use Rattle.std.specs.List.{list_any}
use Rattle.std.specs.Str.{bytes_eq}
use Rattle.std.specs.String.{string_bytes}
use Rattle.std.proofs.lemmas.List.{length-map, map-append}
use Rattle.tp_config.specs.declared.port_type.PortRef.{PortRef}
use Rattle.tp_config.specs.declared.port_type.Role.{Role}
use Rattle.tp_config.specs.declared.port_type.CompType.{CompType}
use Rattle.tp_config.specs.declared.component.Component.{Component}
use Rattle.tp_config.specs.Setup.{Setup, is_system_role}
use Rattle.tp_config.specs.Shape.{links_of, member, member_of, ports_of, setup_of}
use Rattle.tp_config.specs.Causes.{create_order}
use Rattle.tp_config.specs.Tests.{create_test, has_name, has_system}
use Rattle.tp_config.proofs.PortLookupByFields.{length_ports}
use Rattle.tp_config.proofs.StoredPortLinks.{mapped_at}

pub tested : (cs ds : List Component) (n o : List ℕ) (role : Role) → cs ≡ ds → n ≡ o
    → find (create_test (map member_of cs) n role) create_order ≡ find (create_test (map member_of ds) o role) create_order
tested cs ds n o role e f =
    ap (λ l. find (create_test (map member_of l) n role) create_order) e ∙ ap (λ x. find (create_test (map member_of ds) x role) create_order) f

pub tested_now : (t : List CompType) (cs ds : List Component) (n o : List ℕ) (now : Setup) (role : Role) (c m : List (PortRef × PortRef)) → cs ≡ ds
    → n ≡ o → setup_of t ds c m ≡ now → find (create_test (map member_of cs) n role) create_order ≡ find (create_test now.components o role) create_order
tested_now t cs ds n o now role c m e f same = tested cs ds n o role e f ∙ ap (λ (s : Setup). find (create_test s.components o role) create_order) same

pub same_lengths : (cs : List Component) → length (map links_of cs) ≡ length (map member_of cs)
same_lengths cs = length-map cs links_of ∙ sym (length-map cs member_of)

pub count_is : (ts : List CompType) (k : ℕ) (t : CompType) (n : ℕ) → k < length ts → t ≡ get_or ts k t → n ≡ length t.ports.entries
    → n ≡ length (get_or (map ports_of ts) k [])
count_is ts k t n below e len = len ∙ sym (length_ports t) ∙ ap length (sym (mapped_at ports_of ts k t [] below e))

pub members_made : (cs more : List Component) (x : Component) → more ≡ cs ++ x ∷ []
    → map member_of more ≡ map member_of cs ++ member (string_bytes x.name) x.kind x.role ∷ []
unfolding member_of
members_made cs more x e = ap (map member_of) e ∙ map-append member_of cs (x ∷ [])

pub links_made : (cs more : List Component) (x : Component) (n : ℕ) → more ≡ cs ++ x ∷ [] → x.links ≡ replicate n []
    → map links_of more ≡ map links_of cs ++ replicate n [] ∷ []
links_made cs more x n e made = ap (map links_of) e ∙ map-append links_of cs (x ∷ []) ∙ ap (λ l. map links_of cs ++ l ∷ []) made

-- the place of a type
pub kind_below : (s now : Setup) (ts : List CompType) (k : ℕ) → k < length now.types → s ≡ now → s.types ≡ map ports_of ts → k < length ts
kind_below s now ts k below same e = omega (arith, below, ap (λ (t : Setup). length t.types) same, ap length e, length-map ts ports_of)

pub names_made : (cs : List Component) (name : List ℕ) → list_any (λ c. bytes_eq (string_bytes c.name) name) cs ≡ has_name (map member_of cs) name
unfolding member_of
names_made [] name = refl
names_made (c ∷ cs) name = ap (λ b. bytes_eq (string_bytes c.name) name || b) (names_made cs name)

pub roles_made : (cs : List Component) → list_any (λ c. is_system_role c.role) cs ≡ has_system (map member_of cs)
unfolding member_of
roles_made [] = refl
roles_made (c ∷ cs) = ap (λ b. is_system_role c.role || b) (roles_made cs)
