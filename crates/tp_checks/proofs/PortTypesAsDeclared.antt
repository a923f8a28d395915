-- Port types that were made.
use Rattle.std.proofs.Common.{◌≡◌, ℕ, List, Option, None, Some, refl, map, slice_get, option_map, sym, ap, ◌∙◌, [], ◌∷◌, ◌++◌}
use Rattle.std.proofs.{lemmas.Option.slice_get-map, lemmas.Option.same_Some, lemmas.List.map-append}
use Rattle.std.specs.List.{AllZip}
use Rattle.tp_tree.specs.declared.tree.{PortType.PortType, DeclaredName.DeclaredName, PortDeclaration.PortDeclaration}
use Rattle.tp_config.specs.declared.port_type.PortType.{PortType as PortLists}
use Rattle.tp_config.specs.Setup.{PortDecl}
use Rattle.tp_checks.specs.{Definitions.declared, Definitions.declared_ports, Tables.place_of_name}
use Rattle.tp_checks.specs.Resolved.{IsPortDecl, port_list, IsMade, IsMadeOf}
use Rattle.tp_checks.proofs.{NameSetLookups.place_there, ListPrefixGrowth.contains_at, ListPrefixGrowth.zip_at, ListPrefixGrowth.zip_beside}

pub made_of : (types names : List (List ℕ)) (ports : List PortType) (made : List PortLists) (name : List ℕ) (k : ℕ) (found : PortLists)
    → names ≡ map (λ (p : PortType). p.name) ports → AllZip (IsMade types) ports made → Some k ≡ place_of_name names name
    → slice_get made k ≡ Some found → IsMadeOf types ports name found
made_of types names ports made name k found named each placed there =
    let at = zip_at (IsMade types) ports made k found each there in
    let text : Some at.0.name ≡ Some name =
    sym (ap (option_map (λ (p : PortType). p.name)) at.1) ∙ sym (slice_get-map (λ (p : PortType). p.name) ports k)
    ∙ ap (λ l. slice_get l k) (sym named) ∙ place_there names name k placed in
    record { port_type = at.0; there = contains_at ports k at.0 at.1; named = same_Some at.0.name name text; lists = at.2 }

-- a port type whose name is known was made
pub made_there : (types names : List (List ℕ)) (ports : List PortType) (made : List PortLists) (name : List ℕ) (k : ℕ)
    → names ≡ map (λ (p : PortType). p.name) ports → AllZip (IsMade types) ports made → Some k ≡ place_of_name names name → None ≡ slice_get made k → ⊥
made_there types names ports made name k named each placed none = by (slice_get ports k) refl where
  by : (o : Option PortType) → slice_get ports k ≡ o → ⊥
  by (Some x) e = let p = zip_beside (IsMade types) ports made k x each e in absurd (cc)
  by None e =
      let text : None ≡ Some name =
      sym (ap (option_map (λ (p : PortType). p.name)) e) ∙ sym (slice_get-map (λ (p : PortType). p.name) ports k)
      ∙ ap (λ l. slice_get l k) (sym named) ∙ place_there names name k placed in
      absurd (cc)

first_of_names : (name : List ℕ) (xs : List DeclaredName) → map (λ (x : List ℕ × List ℕ). x.0) (map (λ n. (declared n, name)) xs) ≡ map declared xs
first_of_names name [] = refl
first_of_names name (n ∷ xs) = ap (λ l. declared n ∷ l) (first_of_names name xs)

first_of_list : (xs : List PortDeclaration) → map (λ (x : List ℕ × List ℕ). x.0) (port_list xs) ≡ declared_ports xs
first_of_list [] = refl
first_of_list (p ∷ xs) =
    map-append (λ (x : List ℕ × List ℕ). x.0) (map (λ n. (declared n, p.type_name)) p.names) (port_list xs)
    ∙ ap (λ l. l ++ map (λ (x : List ℕ × List ℕ). x.0) (port_list xs)) (first_of_names p.type_name p.names)
    ∙ ap (λ l. map declared p.names ++ l) (first_of_list xs)

names_zipped : (types : List (List ℕ)) (ports : List PortType) (xs : List (List ℕ × List ℕ)) (made : List PortDecl) → AllZip (IsPortDecl types ports) xs made
    → map (λ (p : PortDecl). p.name) made ≡ map (λ (x : List ℕ × List ℕ). x.0) xs
names_zipped types ports [] [] each = refl
names_zipped types ports (x ∷ xs) (t ∷ made) each = rw (each.0.name, names_zipped types ports xs made each.1)
names_zipped _ _ _ _ each = absurd each

-- the ports that were made have the names that are declared
pub ports_named : (types : List (List ℕ)) (ports : List PortType) (xs : List PortDeclaration) (made : List PortDecl)
    → AllZip (IsPortDecl types ports) (port_list xs) made → map (λ (p : PortDecl). p.name) made ≡ declared_ports xs
ports_named types ports xs made each = names_zipped types ports (port_list xs) made each ∙ first_of_list xs
