-- A value that breaks a rule stands for nothing.
use Rattle.std.proofs.Common.{◌≡◌, ℕ, List, Option, None, Some, length, refl}
use Rattle.std.specs.List.{zip}
use Rattle.tp_value.specs.declared.types.{Ty.Ty, Field.Field, TypeDef.TypeDef, Types.Types}
use Rattle.tp_value.specs.declared.types.Ty.TheVariants as ty
use Rattle.tp_value.specs.declared.types.TypeDef.TheVariants as def
use Rattle.tp_value.specs.{Types.named, HasType.ArePrintable}
use Rattle.tp_tree.specs.declared.message.{Value.Value, ValueField.ValueField}
use Rattle.tp_tree.specs.declared.message.Value.TheVariants as v
use Rattle.tp_play.specs.declared.body.SendValue.{SendValue}
use Rattle.tp_checks.specs.declared.fault.ModuleRule.{ModuleRule}
use Rattle.tp_checks.specs.{Named.IsPlace, Tables.AreDistinct, Placing.field_names, Scoping.OwnNames}
use Rattle.tp_checks.specs.Messages.{IsValue, AreElements, AreFields, AreNamed}
use Rattle.tp_checks.specs.BrokenValues.{TextBreaks, ValueNameBreaks, ValueBreaks, ElementsBreak, FieldsBreak, EntriesBreak}
use Rattle.tp_checks.specs.declared.scope.Variables.{Variables}
use Rattle.tp_checks.specs.BrokenValues as b
use Rattle.tp_checks.proofs.{NameLookupsAreUnique.absent_place, EachFieldHasEntry.entry_stands}
use Rattle.tp_checks.proofs.ListPrefixGrowth.{zip_beside, zip_pair}
use Rattle.tp_checks.proofs.ValueInversions.{IsEntries, IsFieldValue, opened, elements_zip, fields_count, fields_zip, names_part, names_zip}

pub text_excludes : {u : Ty} {cs : List ℕ} {r : ModuleRule} → TextBreaks u cs r → u ≡ ty.Charstring → ArePrintable cs → ⊥
text_excludes (b.no_charstring other) is printable = other is
text_excludes (b.unprintable is bad) same printable = bad printable

pub name_excludes : {variables : Variables} {turns : List (List ℕ)} {u : Ty} {n : List ℕ} {r : ModuleRule} → ValueNameBreaks variables turns u n r
    → (k : ℕ) → u ≡ ty.Integer → IsPlace turns n k → ⊥
name_excludes (b.no_integer j p other) k is place = other is
name_excludes {turns} {n} (b.variable absent there) k is place = absent_place turns n k absent place
name_excludes {turns} {n} (b.unknown absent none) k is place = absent_place turns n k absent place

module _ (types : Types) (variables : Variables) (turns : List (List ℕ)) (own : OwnNames types) where
  no_entries : (d : Option TypeDef) (es : List ValueField) (y : SendValue) → ((fs : List Field) → d ≡ Some (def.Record fs) → ⊥) → IsEntries types turns es y d → ⊥
  no_entries None es y none h = h
  no_entries (Some (def.ListOf element)) es y none h = h
  no_entries (Some (def.Record fs)) es y none h = none fs refl

  mutual
    pub value_excludes : {u : Ty} {x : Value} {r : ModuleRule} → ValueBreaks types variables turns u x r → (y : SendValue) → IsValue types turns u x y → ⊥
    value_excludes (b.no_integer u z other) y h = let p = rw v.outs-Int at (opened types turns h) in other p.0
    value_excludes (b.no_boolean u t other) y h = let p = rw v.outs-Bool at (opened types turns h) in other p.0
    value_excludes (b.text u cs r broken) y h = let p = rw v.outs-Text at (opened types turns h) in text_excludes broken p.0 p.1
    value_excludes (b.name u n r broken) y h = let p = rw v.outs-Name at (opened types turns h) in name_excludes broken p.0 p.1 p.2
    value_excludes (b.no_braces u vs none) y h = rw (v.outs-List, none) at (opened types turns h)
    value_excludes (b.elements u element vs r is broken) y h =
        let p = rw (v.outs-List, is) at (opened types turns h) in elements_exclude broken p.0 p.1
    value_excludes (b.places u fs vs r is broken) y h =
        let p = rw (v.outs-List, is) at (opened types turns h) in fields_exclude broken p.0 p.1
    value_excludes (b.no_record u es none) y h = no_entries (named types u) es y none (rw v.outs-Record at (opened types turns h))
    value_excludes (b.fields u fs es r is broken) y h =
        let p = rw (v.outs-Record, is) at (opened types turns h) in entries_exclude broken (own u fs is) p.0 p.1 p.2

    elements_exclude : {u : Ty} {vs : List Value} {r : ModuleRule} → ElementsBreak types variables turns u vs r
        → (ws : List SendValue) → AreElements types turns u vs ws → ⊥
    elements_exclude (b.element u vs us i x r before there broken) ws h =
        let p = zip_beside (IsValue types turns u) vs ws i x (elements_zip types turns h) there in
        value_excludes broken p.0 p.2

    fields_exclude : {fs : List Field} {vs : List Value} {r : ModuleRule} → FieldsBreak types variables turns fs vs r
        → (ws : List SendValue) → AreFields types turns fs vs ws → ⊥
    fields_exclude (b.count fs vs differ) ws h = differ (fields_count types turns h)
    fields_exclude (b.place fs vs us i f x r same before is_field there broken) ws h =
        let p = zip_beside (IsFieldValue types turns) (zip fs vs) ws i (f, x) (fields_zip types turns h) (zip_pair fs vs i f x is_field there) in
        value_excludes broken p.0 p.2

    entries_exclude : {fs : List Field} {es : List ValueField} {r : ModuleRule} → EntriesBreak types variables turns fs es r → AreDistinct (field_names fs)
        → (ws : List SendValue) → length es ≡ length fs → AreNamed types turns es fs ws → ⊥
    entries_exclude (b.names fs es bad) apart ws n h = bad (names_part types turns n h)
    entries_exclude (b.entry fs es i k f x r have before there is_field same broken) apart ws n h =
        let p : (y : SendValue) × IsValue types turns f.ty x.value y =
        entry_stands (λ x. x.name) (λ f x y. IsValue types turns f.ty x.value y) es fs ws n (names_zip types turns h) apart i k x f there
        is_field same in
        value_excludes broken p.0 p.1
