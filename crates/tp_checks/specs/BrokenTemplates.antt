-- Which rule is broken by a template that stands for nothing: that of its first fault in the order of the text.
use Rattle.std.specs.Prelude.{◌≡◌, ◌≢◌, ℕ, ℤ, Bool, List, length, map, take, All, Option, Some, None, slice_get}
use Rattle.tp_value.specs.declared.types.{Ty.Ty, Field.Field, Types.Types}
use Rattle.tp_value.specs.declared.types.Ty.TheVariants as ty
use Rattle.tp_value.specs.declared.types.TypeDef.TheVariants as type_def
use Rattle.tp_value.specs.{Types.named, Fits.AreOrdered}
use Rattle.tp_tree.specs.declared.message.{Template.Template, TemplateField.TemplateField}
use Rattle.tp_tree.specs.declared.message.Template.TheVariants as template
use Rattle.tp_play.specs.declared.body.RecvTemplate.{RecvTemplate}
use Rattle.tp_checks.specs.declared.fault.ModuleRule.{ModuleRule}
use Rattle.tp_checks.specs.declared.fault.ModuleRule.TheVariants as rule
use Rattle.tp_checks.specs.declared.scope.Variables.{Variables}
use Rattle.tp_checks.specs.{Placing.IsEntry, Placing.HaveEntries, BrokenValues.TextBreaks, BrokenValues.ValueNameBreaks}
use Rattle.tp_checks.specs.Messages.{IsTemplate, AreMembers, AreElementTemplates, AreFieldTemplates}

-- a range: the wanted type isn't `integer`, or the lower bound is above the upper one (13)
pub data RangeBreaks (u : Ty) (low high : Option ℤ) : ModuleRule → Type 0 where
  no_range : u ≢ ty.Integer → RangeBreaks u low high rule.WrongType
  disordered : u ≡ ty.Integer → (AreOrdered low high → ⊥) → RangeBreaks u low high rule.WrongType

-- what the entry of a field stands for
abbrev pub IsTemplateOf : Types → List (List ℕ) → Field → TemplateField → RecvTemplate → Type 0
IsTemplateOf types turns f x y = IsTemplate types turns f.ty x.template y

abbrev pub IsTemplateEntry : Types → List (List ℕ) → List Field → TemplateField → Type 0
IsTemplateEntry types turns = IsEntry (λ (x : TemplateField). x.name) (IsTemplateOf types turns)

-- a template that should have this type: it is of another type (13), or a part of it breaks a rule
mutual
  pub data TemplateBreaks (types : Types) (variables : Variables) (turns : List (List ℕ))
      : Ty → Template → ModuleRule → Type 0 where
    no_integer : (u : Ty) (z : ℤ) → u ≢ ty.Integer
        → TemplateBreaks types variables turns u (template.Int z) rule.WrongType
    no_boolean : (u : Ty) (b : Bool) → u ≢ ty.Boolean
        → TemplateBreaks types variables turns u (template.Bool b) rule.WrongType
    text : (u : Ty) (cs : List ℕ) (r : ModuleRule) → TextBreaks u cs r
        → TemplateBreaks types variables turns u (template.Text cs) r
    name : (u : Ty) (n : List ℕ) (r : ModuleRule) → ValueNameBreaks variables turns u n r
        → TemplateBreaks types variables turns u (template.Name n) r
    -- a `*` is allowed only among the elements of a `record of`
    any_or_none : (u : Ty) → TemplateBreaks types variables turns u template.AnyOrNone rule.WrongType
    one_of : (u : Ty) (ts : List Template) (r : ModuleRule) → MembersBreak types variables turns u ts r
        → TemplateBreaks types variables turns u (template.OneOf ts) r
    none_of : (u : Ty) (ts : List Template) (r : ModuleRule) → MembersBreak types variables turns u ts r
        → TemplateBreaks types variables turns u (template.Complement ts) r
    range : (u : Ty) (low high : Option ℤ) (r : ModuleRule) → RangeBreaks u low high r
        → TemplateBreaks types variables turns u (template.Range low high) r
    no_pattern : (u : Ty) (cs : List ℕ) → u ≢ ty.Charstring
        → TemplateBreaks types variables turns u (template.Pattern cs) rule.WrongType
    list : (u : Ty) (ts : List Template) (r : ModuleRule) → ListBreaks types variables turns u ts r
        → TemplateBreaks types variables turns u (template.List ts) r
    record_of_names : (u : Ty) (ts : List TemplateField) (r : ModuleRule)
        → RecordBreaks types variables turns u ts r → TemplateBreaks types variables turns u (template.Record ts) r

  -- one of the templates in parentheses breaks a rule, and those before it stand for something
  pub data MembersBreak (types : Types) (variables : Variables) (turns : List (List ℕ))
      : Ty → List Template → ModuleRule → Type 0 where
    member : (u : Ty) (ts : List Template) (rs : List RecvTemplate) (i : ℕ) (x : Template) (r : ModuleRule)
        → AreMembers types turns u (take i ts) rs → slice_get ts i ≡ Some x
        → TemplateBreaks types variables turns u x r → MembersBreak types variables turns u ts r

  -- templates in braces: the wanted type is neither a record nor a `record of` (13), or they break a rule as its fields
  -- or elements
  pub data ListBreaks (types : Types) (variables : Variables) (turns : List (List ℕ))
      : Ty → List Template → ModuleRule → Type 0 where
    no_braces : (u : Ty) (ts : List Template) → named types u ≡ None
        → ListBreaks types variables turns u ts rule.WrongType
    elements : (u : Ty) (element : Ty) (ts : List Template) (r : ModuleRule)
        → named types u ≡ Some (type_def.ListOf element) → ElementTemplatesBreak types variables turns element ts r
        → ListBreaks types variables turns u ts r
    places : (u : Ty) (fields : List Field) (ts : List Template) (r : ModuleRule)
        → named types u ≡ Some (type_def.Record fields) → FieldTemplatesBreak types variables turns fields ts r
        → ListBreaks types variables turns u ts r

  -- templates in braces, with the names of fields: the wanted type isn't a record (13), or they break a rule as its
  -- fields
  pub data RecordBreaks (types : Types) (variables : Variables) (turns : List (List ℕ))
      : Ty → List TemplateField → ModuleRule → Type 0 where
    no_record : (u : Ty) (ts : List TemplateField)
        → ((fields : List Field) → named types u ≢ Some (type_def.Record fields))
        → RecordBreaks types variables turns u ts rule.WrongType
    fields : (u : Ty) (fields : List Field) (ts : List TemplateField) (r : ModuleRule)
        → named types u ≡ Some (type_def.Record fields) → EntryTemplatesBreak types variables turns fields ts r
        → RecordBreaks types variables turns u ts r

  -- the template of an element of a `record of`, which isn't `*`, breaks a rule, and those before it stand for
  -- something
  pub data ElementTemplatesBreak (types : Types) (variables : Variables) (turns : List (List ℕ))
      : Ty → List Template → ModuleRule → Type 0 where
    element : (u : Ty) (ts : List Template) (rs : List RecvTemplate) (i : ℕ) (x : Template) (r : ModuleRule)
        → AreElementTemplates types turns u (take i ts) rs → slice_get ts i ≡ Some x → x ≢ template.AnyOrNone
        → TemplateBreaks types variables turns u x r → ElementTemplatesBreak types variables turns u ts r

  -- templates of the fields of a record, by place: there are more or fewer of them than fields (13), or one breaks a
  -- rule and those before it stand for something
  pub data FieldTemplatesBreak (types : Types) (variables : Variables) (turns : List (List ℕ))
      : List Field → List Template → ModuleRule → Type 0 where
    count : (fields : List Field) (ts : List Template) → length fields ≢ length ts
        → FieldTemplatesBreak types variables turns fields ts rule.WrongType
    place : (fields : List Field) (ts : List Template) (rs : List RecvTemplate) (i : ℕ) (f : Field) (x : Template)
        (r : ModuleRule) → length fields ≡ length ts
        → AreFieldTemplates types turns (take i fields) (take i ts) rs
        → slice_get fields i ≡ Some f → slice_get ts i ≡ Some x → TemplateBreaks types variables turns f.ty x r
        → FieldTemplatesBreak types variables turns fields ts r

  -- templates of the fields of a record, by name: there isn't one entry for each field (13), or one entry breaks a rule
  -- and those before it fit
  pub data EntryTemplatesBreak (types : Types) (variables : Variables) (turns : List (List ℕ))
      : List Field → List TemplateField → ModuleRule → Type 0 where
    names : (fields : List Field) (ts : List TemplateField)
        → (HaveEntries fields (map (λ t. t.name) ts) → ⊥)
        → EntryTemplatesBreak types variables turns fields ts rule.WrongType
    entry : (fields : List Field) (ts : List TemplateField) (i k : ℕ) (f : Field) (x : TemplateField) (r : ModuleRule)
        → HaveEntries fields (map (λ t. t.name) ts) → All (IsTemplateEntry types turns fields) (take i ts)
        → slice_get ts i ≡ Some x → slice_get fields k ≡ Some f → x.name ≡ f.name
        → TemplateBreaks types variables turns f.ty x.template r → EntryTemplatesBreak types variables turns fields ts r
