-- What the checks of bodies rely on holds of what was made of a module whose names are its own.
use Rattle.std.proofs.Common.{◌≡◌, ◌≤◌, ℕ, List, [], ◌∷◌, Option, None, Some, All, length, map, slice_get, option_map, get_or, refl, sym, ap, ◌∙◌, subst}
use Rattle.std.proofs.{lemmas.List.Elements.All-map, lemmas.Option.same_Some}
use Rattle.std.specs.List.{AllZip}
use Rattle.tp_tree.specs.declared.tree.{Module.Module, Definition.Definition, Defined.Defined, FieldType.FieldType}
use Rattle.tp_tree.specs.declared.tree.Defined.TheVariants as definition
use Rattle.tp_value.specs.declared.types.{Ty.Ty, Field.Field, TypeDef.TypeDef, Types.Types}
use Rattle.tp_value.specs.declared.types.Ty.TheVariants as ty
use Rattle.tp_value.specs.declared.types.TypeDef.TheVariants as type_def
use Rattle.tp_value.specs.Types.{named}
use Rattle.tp_config.specs.{Setup.PortDecl, Shape.ports_of}
use Rattle.tp_checks.specs.{Tables.AreDistinct, Tables.IsNumbered, Prepared.IsPreparedOf, Placing.field_names, Scoping.OwnNames}
use Rattle.tp_checks.specs.Definitions.{declared, inner_names, type_definitions, type_names, type_of}
use Rattle.tp_checks.specs.Resolved.{AreTypes, IsField, IsNamedType, IsTypeDef}
use Rattle.tp_checks.specs.declared.prepared.Prepared.{Prepared}
use Rattle.tp_checks.proofs.{ListPrefixGrowth.zip_at, DistinctNamesInParts.all_among, StartLookups.all_got}
use Rattle.tp_checks.proofs.SoundSortedDefinitions.{type_itself}
use Rattle.tp_script.specs.{Instances.known_in, Scopes.HaveOwnNames, Scopes.IsSoundKnown}
use Rattle.tp_script.proofs.TestCaseFromPasses.{kinds_are}
use Rattle.tp_config.proofs.PortLookupByFields.{length_ports}

names_of_fields : (types : List (List ℕ)) (xs : List FieldType) (fields : List Field) → AllZip (IsField types) xs fields
    → map (λ (f : FieldType). declared f.name) xs ≡ field_names fields
names_of_fields types [] [] h = refl
names_of_fields types (x ∷ xs) (f ∷ fs) h =
    ap (λ n. n ∷ map (λ (f : FieldType). declared f.name) xs) (sym h.0.0) ∙ ap (λ l. f.name ∷ l) (names_of_fields types xs fs h.1)
names_of_fields _ _ _ h = absurd h

-- a record type has the names of its definition
own_fields : (types : List (List ℕ)) (x : Defined) (fields : List Field) → IsTypeDef types x (type_def.Record fields) → AreDistinct (inner_names x)
    → AreDistinct (field_names fields)
own_fields types (definition.Record r) fields h apart = subst AreDistinct (names_of_fields types r.fields fields h) apart
own_fields _ _ _ h _ = absurd h

-- the type that a type names stands among the types
type_at : (types : Types) (u : Ty) (d : TypeDef) → named types u ≡ Some d
    → (k : ℕ) × (t : List ℕ × TypeDef) × (slice_get types k ≡ Some t) × (t.1 ≡ d)
type_at types (ty.Named k) d e = by (slice_get types k) refl e where
  by : (o : Option (List ℕ × TypeDef)) → slice_get types k ≡ o → option_map (λ (t : List ℕ × TypeDef). t.1) o ≡ Some d
      → (k : ℕ) × (t : List ℕ × TypeDef) × (slice_get types k ≡ Some t) × (t.1 ≡ d)
  by None is made = absurd (cc)
  by (Some t) is made = (k, t, is, same_Some t.1 d made)
type_at types _ d e = absurd (cc)

-- no two fields of a record type of the module have one name
pub own_names : (m : Module) (types : Types) → AreTypes m types → HaveOwnNames m.definitions → OwnNames types
own_names m types are own u fields e =
    let t = type_at types u (type_def.Record fields) e in
    let x = zip_at (IsNamedType (type_names m)) (type_definitions m) types t.0 t.1 are t.2 in
    let HasOwnNames : Defined → Type 0 = λ x. IsNumbered (inner_names x) in
    let each =
    all_among type_of HasOwnNames (λ (d : Definition). HasOwnNames d.defined) (λ d y is h. subst HasOwnNames (type_itself d.defined y is) h) m.definitions own in
    let numbered = all_got HasOwnNames (type_definitions m) t.0 x.0 each x.1 in
    own_fields (type_names m) x.0 fields (subst (IsTypeDef (type_names m) x.0) t.3 x.2.1) numbered.distinct

module _ (m : Module) (p : Prepared) (of : IsPreparedOf m p) (own : HaveOwnNames m.definitions) where
  few_ports : All (λ (ports : List PortDecl). length ports ≤ 64) p.config.types
  few_ports =
      subst (All (λ (ports : List PortDecl). length ports ≤ 64)) (sym (kinds_are m p of))
      (All-map (λ (ports : List PortDecl). length ports ≤ 64) ports_of of.config.types
      (λ k d below. subst (λ n. n ≤ 64) (sym (length_ports (get_or of.config.types k d))) (of.config.few_ports k d below)))

  pub sound_known : IsSoundKnown (known_in p)
  sound_known = record { few_ports = few_ports; own_names = own_names m p.types of.types own }
