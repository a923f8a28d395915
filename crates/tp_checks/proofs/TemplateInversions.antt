-- What a template is that stands for something: the lines of the definition of templates, read backwards.
use Rattle.std.proofs.Common.{◌≡◌, ℕ, List, [], ◌∷◌, ◌++◌, Option, None, Some, map, length, refl, subst, arith}
use Rattle.std.proofs.lemmas.List.{length_push}
use Rattle.std.specs.List.{AllZip, zip}
use Rattle.tp_value.specs.declared.types.{Ty.Ty, Field.Field, TypeDef.TypeDef, Types.Types}
use Rattle.tp_value.specs.declared.types.Ty.TheVariants as ty
use Rattle.tp_value.specs.declared.types.TypeDef.TheVariants as def
use Rattle.tp_value.specs.{Types.named, HasType.ArePrintable, Fits.AreOrdered}
use Rattle.tp_tree.specs.declared.message.{Template.Template, Template.TheViews.out-Template, TemplateField.TemplateField}
use Rattle.tp_tree.specs.declared.message.Template.TheVariants as t
use Rattle.tp_tree.specs.declared.message.Template.TheOpen as o
use Rattle.tp_play.specs.declared.body.SendValue.TheVariants as w
use Rattle.tp_play.specs.declared.body.RecvTemplate.{RecvTemplate}
use Rattle.tp_play.specs.declared.body.RecvTemplate.TheVariants as r
use Rattle.tp_checks.specs.{Named.IsPlace, Placing.HaveEntries}
use Rattle.tp_checks.specs.Messages.{IsTemplate, part_of, int_template, bool_template, text_template, turn_template, any, one_of, none_of, range, pattern, element_templates, place_templates, field_templates, AreMembers, no_member, one_member_more, AreElementTemplates, no_element_template, one_element_template_more, IsElementTemplate, many, single, AreFieldTemplates, no_field_template, one_field_template_more, AreNamedTemplates, no_name_template, one_name_template_more}
use Rattle.tp_checks.proofs.ListPrefixGrowth.{zip_one_more, zip_push}
use Rattle.tp_checks.proofs.EachFieldHasEntry.{Entry, have_entries}

module _ (types : Types) (turns : List (List ℕ)) where
  -- templates of elements in braces, or of fields by their places
  abbrev pub IsBraced : List Template → RecvTemplate → Option TypeDef → Type 0
  IsBraced ts y (Some (def.ListOf element)) = (rs : List RecvTemplate) × AreElementTemplates types turns element ts rs × (y ≡ r.List rs)
  IsBraced ts y (Some (def.Record fs)) = (rs : List RecvTemplate) × AreFieldTemplates types turns fs ts rs × (y ≡ r.Record rs)
  IsBraced ts y None = ⊥

  -- templates of fields in braces by their names
  abbrev pub IsEntries : List TemplateField → RecvTemplate → Option TypeDef → Type 0
  IsEntries es y (Some (def.ListOf element)) = ⊥
  IsEntries es y (Some (def.Record fs)) = (rs : List RecvTemplate) × (length es ≡ length fs) × AreNamedTemplates types turns es fs rs × (y ≡ r.Record rs)
  IsEntries es y None = ⊥

  -- a layer of such a template, and what it stands for
  abbrev pub IsOpened : Ty → RecvTemplate → o.Template-F Template TemplateField → Type 0
  IsOpened u y (o.Int z) = (u ≡ ty.Integer) × (y ≡ r.Exact (w.Int z))
  IsOpened u y (o.Bool b) = (u ≡ ty.Boolean) × (y ≡ r.Exact (w.Bool b))
  IsOpened u y (o.Text cs) = (u ≡ ty.Charstring) × ArePrintable cs × (y ≡ r.Exact (w.Text cs))
  IsOpened u y (o.Name n) = (k : ℕ) × (u ≡ ty.Integer) × IsPlace turns n k × (y ≡ r.Exact (w.Turn k))
  IsOpened u y o.Any = y ≡ r.Any
  IsOpened u y o.AnyOrNone = ⊥
  IsOpened u y (o.OneOf ts) = (rs : List RecvTemplate) × AreMembers types turns u ts rs × (y ≡ r.OneOf rs)
  IsOpened u y (o.Complement ts) = (rs : List RecvTemplate) × AreMembers types turns u ts rs × (y ≡ r.NoneOf rs)
  IsOpened u y (o.Range low high) = (u ≡ ty.Integer) × AreOrdered low high × (y ≡ r.Range low high)
  IsOpened u y (o.Pattern cs) = (u ≡ ty.Charstring) × (y ≡ r.Pattern (map part_of cs))
  IsOpened u y (o.List ts) = IsBraced ts y (named types u)
  IsOpened u y (o.Record es) = IsEntries es y (named types u)

  pub opened : {u : Ty} {x : Template} {y : RecvTemplate} → IsTemplate types turns u x y → IsOpened u y (out-Template x)
  opened (int_template z h) = rw t.outs-Int (refl, refl)
  opened (bool_template b) = rw t.outs-Bool (refl, refl)
  opened (text_template cs h) = rw t.outs-Text (refl, h, refl)
  opened (turn_template n k p) = rw t.outs-Name (k, refl, p, refl)
  opened (any u) = rw t.outs-Any refl
  opened (one_of u ts rs h) = rw t.outs-OneOf (rs, h, refl)
  opened (none_of u ts rs h) = rw t.outs-Complement (rs, h, refl)
  opened (range low high h) = rw t.outs-Range (refl, h, refl)
  opened (pattern cs) = rw t.outs-Pattern (refl, refl)
  opened (element_templates u element ts rs e h) = rw (t.outs-List, e) (rs, h, refl)
  opened (place_templates u fs ts rs e h) = rw (t.outs-List, e) (rs, h, refl)
  opened (field_templates u fs es rs e n h) = rw (t.outs-Record, e) (rs, n, h, refl)

  -- each of the members stands for something
  pub members_zip : {u : Ty} {ts : List Template} {rs : List RecvTemplate} → AreMembers types turns u ts rs → AllZip (IsTemplate types turns u) ts rs
  members_zip (no_member u) = tt
  members_zip (one_member_more u xs ys x y h one) = zip_push (IsTemplate types turns u) xs ys x y (members_zip h) one

  pub element_templates_zip : {u : Ty} {ts : List Template} {rs : List RecvTemplate} → AreElementTemplates types turns u ts rs
      → AllZip (IsElementTemplate types turns u) ts rs
  element_templates_zip (no_element_template u) = tt
  element_templates_zip (one_element_template_more u xs ys x y h one) =
      zip_push (IsElementTemplate types turns u) xs ys x y (element_templates_zip h) one

  -- one that isn't `*` is a template of the type
  pub element_is_template : {u : Ty} {x : Template} {y : RecvTemplate} → IsElementTemplate types turns u x y → (x ≡ t.AnyOrNone → ⊥) → IsTemplate types turns u x y
  element_is_template (many u) one = absurd (one refl)
  element_is_template (single u x y h) one = h

  -- there is one template for each field
  pub field_templates_count : {fs : List Field} {ts : List Template} {rs : List RecvTemplate} → AreFieldTemplates types turns fs ts rs
      → length fs ≡ length ts
  field_templates_count no_field_template = refl
  field_templates_count (one_field_template_more gs xs ys f x y h one) =
      omega (arith, field_templates_count h, length_push gs f, length_push xs x)

  -- what a field's template stands for
  abbrev pub IsFieldTemplate : Field × Template → RecvTemplate → Type 0
  IsFieldTemplate p y = IsTemplate types turns p.0.ty p.1 y

  pub field_templates_zip : {fs : List Field} {ts : List Template} {rs : List RecvTemplate} → AreFieldTemplates types turns fs ts rs
      → AllZip IsFieldTemplate (zip fs ts) rs
  field_templates_zip no_field_template = tt
  field_templates_zip (one_field_template_more gs xs ys f x y h one) =
      subst (λ l. AllZip IsFieldTemplate l (ys ++ y ∷ [])) (zip_one_more gs xs f x (field_templates_count h))
      (zip_push IsFieldTemplate (zip gs xs) ys (f, x) y (field_templates_zip h) one)

  -- each field has an entry
  abbrev pub HasEntry : List TemplateField → Field → RecvTemplate → Type 0
  HasEntry es = Entry (λ x. x.name) (λ f x y. IsTemplate types turns f.ty x.template y) es

  pub named_templates_zip : {es : List TemplateField} {fs : List Field} {rs : List RecvTemplate} → AreNamedTemplates types turns es fs rs
      → AllZip (HasEntry es) fs rs
  named_templates_zip (no_name_template zs) = tt
  named_templates_zip (one_name_template_more zs gs ys f j x y h e n one) =
      zip_push (HasEntry zs) gs ys f y (named_templates_zip h) (record { at = j; entry = x; is_entry = e; same = n; stands = one })

  -- so each name of a field has one
  pub names_part : {es : List TemplateField} {fs : List Field} {rs : List RecvTemplate} → length es ≡ length fs → AreNamedTemplates types turns es fs rs
      → HaveEntries fs (map (λ x. x.name) es)
  names_part {es} {fs} {rs} n h = have_entries (λ x. x.name) (λ f x y. IsTemplate types turns f.ty x.template y) es fs rs n (named_templates_zip h)
