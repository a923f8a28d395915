-- A template that breaks a rule stands for nothing.
use Rattle.std.proofs.Common.{◌≡◌, ℕ, List, Option, None, Some, length, refl}
use Rattle.std.specs.List.{zip}
use Rattle.tp_value.specs.declared.types.{Ty.Ty, Field.Field, TypeDef.TypeDef, Types.Types}
use Rattle.tp_value.specs.declared.types.TypeDef.TheVariants as def
use Rattle.tp_value.specs.Types.{named}
use Rattle.tp_tree.specs.declared.message.{Template.Template, TemplateField.TemplateField}
use Rattle.tp_tree.specs.declared.message.Template.TheVariants as t
use Rattle.tp_play.specs.declared.body.RecvTemplate.{RecvTemplate}
use Rattle.tp_checks.specs.declared.fault.ModuleRule.{ModuleRule}
use Rattle.tp_checks.specs.{Tables.AreDistinct, Placing.field_names, Scoping.OwnNames}
use Rattle.tp_checks.specs.Messages.{IsTemplate, IsElementTemplate, AreMembers, AreElementTemplates, AreFieldTemplates, AreNamedTemplates}
use Rattle.tp_checks.specs.BrokenTemplates.{TemplateBreaks, MembersBreak, ListBreaks, RecordBreaks, ElementTemplatesBreak, FieldTemplatesBreak, EntryTemplatesBreak}
use Rattle.tp_checks.specs.declared.scope.Variables.{Variables}
use Rattle.tp_checks.specs.BrokenTemplates as b
use Rattle.tp_checks.proofs.{EachFieldHasEntry.entry_stands, ValueExclusions.text_excludes, ValueExclusions.name_excludes}
use Rattle.tp_checks.proofs.ListPrefixGrowth.{zip_beside, zip_pair}
use Rattle.tp_checks.proofs.TemplateInversions.{IsBraced, IsEntries, IsFieldTemplate, opened, members_zip, element_templates_zip, element_is_template, field_templates_count, field_templates_zip, named_templates_zip, names_part}

module _ (types : Types) (variables : Variables) (turns : List (List ℕ)) (own : OwnNames types) where
  no_entries : (d : Option TypeDef) (es : List TemplateField) (y : RecvTemplate) → ((fs : List Field) → d ≡ Some (def.Record fs) → ⊥)
      → IsEntries types turns es y d → ⊥
  no_entries None es y none h = h
  no_entries (Some (def.ListOf element)) es y none h = h
  no_entries (Some (def.Record fs)) es y none h = none fs refl

  mutual
    pub template_excludes : {u : Ty} {x : Template} {r : ModuleRule} → TemplateBreaks types variables turns u x r → (y : RecvTemplate)
        → IsTemplate types turns u x y → ⊥
    template_excludes (b.no_integer u z other) y h = let p = rw t.outs-Int at (opened types turns h) in other p.0
    template_excludes (b.no_boolean u truth other) y h = let p = rw t.outs-Bool at (opened types turns h) in other p.0
    template_excludes (b.text u cs r broken) y h = let p = rw t.outs-Text at (opened types turns h) in text_excludes broken p.0 p.1
    template_excludes (b.name u n r broken) y h = let p = rw t.outs-Name at (opened types turns h) in name_excludes broken p.0 p.1 p.2
    template_excludes (b.any_or_none u) y h = rw t.outs-AnyOrNone at (opened types turns h)
    template_excludes (b.one_of u ts r broken) y h = let p = rw t.outs-OneOf at (opened types turns h) in members_exclude broken p.0 p.1
    template_excludes (b.none_of u ts r broken) y h = let p = rw t.outs-Complement at (opened types turns h) in members_exclude broken p.0 p.1
    template_excludes (b.range u low high r (b.no_range other)) y h = let p = rw t.outs-Range at (opened types turns h) in other p.0
    template_excludes (b.range u low high r (b.disordered is bad)) y h = let p = rw t.outs-Range at (opened types turns h) in bad p.1
    template_excludes (b.no_pattern u cs other) y h = let p = rw t.outs-Pattern at (opened types turns h) in other p.0
    template_excludes (b.list u ts r broken) y h = list_excludes broken y (rw t.outs-List at (opened types turns h))
    template_excludes (b.record_of_names u es r broken) y h = record_excludes broken y (rw t.outs-Record at (opened types turns h))

    members_exclude : {u : Ty} {ts : List Template} {r : ModuleRule} → MembersBreak types variables turns u ts r
        → (rs : List RecvTemplate) → AreMembers types turns u ts rs → ⊥
    members_exclude (b.member u ts us i x r before there broken) rs h =
        let p = zip_beside (IsTemplate types turns u) ts rs i x (members_zip types turns h) there in
        template_excludes broken p.0 p.2

    list_excludes : {u : Ty} {ts : List Template} {r : ModuleRule} → ListBreaks types variables turns u ts r → (y : RecvTemplate)
        → IsBraced types turns ts y (named types u) → ⊥
    list_excludes (b.no_braces u ts none) y h = rw none at h
    list_excludes (b.elements u element ts r is broken) y h = let p = rw is at h in elements_exclude broken p.0 p.1
    list_excludes (b.places u fs ts r is broken) y h = let p = rw is at h in fields_exclude broken p.0 p.1

    record_excludes : {u : Ty} {es : List TemplateField} {r : ModuleRule} → RecordBreaks types variables turns u es r → (y : RecvTemplate)
        → IsEntries types turns es y (named types u) → ⊥
    record_excludes (b.no_record u es none) y h = no_entries (named types u) es y none h
    record_excludes (b.fields u fs es r is broken) y h = let p = rw is at h in entries_exclude broken (own u fs is) p.0 p.1 p.2

    elements_exclude : {u : Ty} {ts : List Template} {r : ModuleRule} → ElementTemplatesBreak types variables turns u ts r
        → (rs : List RecvTemplate) → AreElementTemplates types turns u ts rs → ⊥
    elements_exclude (b.element u ts us i x r before there one broken) rs h =
        let p = zip_beside (IsElementTemplate types turns u) ts rs i x (element_templates_zip types turns h) there in
        template_excludes broken p.0 (element_is_template types turns p.2 one)

    fields_exclude : {fs : List Field} {ts : List Template} {r : ModuleRule} → FieldTemplatesBreak types variables turns fs ts r
        → (rs : List RecvTemplate) → AreFieldTemplates types turns fs ts rs → ⊥
    fields_exclude (b.count fs ts differ) rs h = differ (field_templates_count types turns h)
    fields_exclude (b.place fs ts us i f x r same before is_field there broken) rs h =
        let p =
        zip_beside (IsFieldTemplate types turns) (zip fs ts) rs i (f, x) (field_templates_zip types turns h) (zip_pair fs ts i f x is_field there) in
        template_excludes broken p.0 p.2

    entries_exclude : {fs : List Field} {es : List TemplateField} {r : ModuleRule} → EntryTemplatesBreak types variables turns fs es r
        → AreDistinct (field_names fs) → (rs : List RecvTemplate) → length es ≡ length fs → AreNamedTemplates types turns es fs rs → ⊥
    entries_exclude (b.names fs es bad) apart rs n h = bad (names_part types turns n h)
    entries_exclude (b.entry fs es i k f x r have before there is_field same broken) apart rs n h =
        let p : (y : RecvTemplate) × IsTemplate types turns f.ty x.template y =
        entry_stands (λ x. x.name) (λ f x y. IsTemplate types turns f.ty x.template y) es fs rs n (named_templates_zip types turns h) apart
        i k x f there is_field same in
        template_excludes broken p.0 p.1
