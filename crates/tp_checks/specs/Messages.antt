-- What the values and templates of the text stand for. A value or a template with a fault stands for nothing.
use Rattle.std.specs.Prelude.{◌≡◌, ℕ, ℤ, Bool, List, [], ◌∷◌, ◌++◌, map, Option, Some, slice_get, FitsSigned, length}
use Rattle.std.specs.{Prelude.nat_eq, Prelude.if◌then◌else◌, Int.w64}
use Rattle.tp_value.specs.declared.types.{Ty.Ty, Field.Field, Types.Types}
use Rattle.tp_value.specs.declared.types.Ty.TheVariants as ty
use Rattle.tp_value.specs.declared.types.TypeDef.TheVariants as type_def
use Rattle.tp_value.specs.declared.template.PatternPart.{PatternPart}
use Rattle.tp_value.specs.declared.template.PatternPart.TheVariants as pattern_part
use Rattle.tp_value.specs.{Types.named, HasType.ArePrintable, Fits.AreOrdered}
use Rattle.tp_tree.specs.declared.message.{Value.Value, ValueField.ValueField, Template.Template, Message.Message}
use Rattle.tp_tree.specs.declared.message.TemplateField.{TemplateField}
use Rattle.tp_tree.specs.declared.message.Value.TheVariants as value
use Rattle.tp_tree.specs.declared.message.Template.TheVariants as template
use Rattle.tp_play.specs.declared.body.{SendValue.SendValue, SendMsg.SendMsg, RecvTemplate.RecvTemplate}
use Rattle.tp_play.specs.declared.body.SendValue.TheVariants as send_value
use Rattle.tp_play.specs.declared.body.RecvTemplate.TheVariants as recv_template
use Rattle.tp_checks.specs.{Named.IsPlace, Scoping.IsType}

-- a value fits a type and stands for this, given the names of the loop variables, outermost first
mutual
  pub data IsValue (types : Types) (turns : List (List ℕ)) : Ty → Value → SendValue → Type 0 where
    int : (z : ℤ) → FitsSigned w64 z → IsValue types turns ty.Integer (value.Int z) (send_value.Int z)
    bool : (b : Bool) → IsValue types turns ty.Boolean (value.Bool b) (send_value.Bool b)
    text : (cs : List ℕ) → ArePrintable cs → IsValue types turns ty.Charstring (value.Text cs)
        (send_value.Text cs)
    -- a loop variable stands for an integer
    turn : (n : List ℕ) (k : ℕ) → IsPlace turns n k
        → IsValue types turns ty.Integer (value.Name n) (send_value.Turn k)
    -- elements in braces, of a record of
    elements : (u : Ty) (element : Ty) (vs : List Value) (ws : List SendValue)
        → named types u ≡ Some (type_def.ListOf element) → AreElements types turns element vs ws
        → IsValue types turns u (value.List vs) (send_value.List ws)
    -- fields in braces by their places, one for each declared field
    places : (u : Ty) (fields : List Field) (vs : List Value) (ws : List SendValue)
        → named types u ≡ Some (type_def.Record fields) → AreFields types turns fields vs ws
        → IsValue types turns u (value.List vs) (send_value.Record ws)
    -- fields in braces by their names: as many as are declared, and one for each declared field
    fields : (u : Ty) (fields : List Field) (vs : List ValueField) (ws : List SendValue)
        → named types u ≡ Some (type_def.Record fields) → length vs ≡ length fields
        → AreNamed types turns vs fields ws
        → IsValue types turns u (value.Record vs) (send_value.Record ws)

  pub data AreElements (types : Types) (turns : List (List ℕ)) : Ty → List Value → List SendValue → Type 0 where
    no_element : (u : Ty) → AreElements types turns u [] []
    one_element_more : (u : Ty) (vs : List Value) (ws : List SendValue) (x : Value) (y : SendValue)
        → AreElements types turns u vs ws → IsValue types turns u x y
        → AreElements types turns u (vs ++ x ∷ []) (ws ++ y ∷ [])

  pub data AreFields (types : Types) (turns : List (List ℕ)) : List Field → List Value → List SendValue → Type 0 where
    no_field : AreFields types turns [] [] []
    one_field_more : (fs : List Field) (vs : List Value) (ws : List SendValue) (f : Field) (x : Value) (y : SendValue)
        → AreFields types turns fs vs ws → IsValue types turns f.ty x y
        → AreFields types turns (fs ++ f ∷ []) (vs ++ x ∷ []) (ws ++ y ∷ [])

  -- for each declared field there is an entry of its name
  pub data AreNamed (types : Types) (turns : List (List ℕ))
      : List ValueField → List Field → List SendValue → Type 0 where
    no_name : (entries : List ValueField) → AreNamed types turns entries [] []
    one_name_more : (entries : List ValueField) (fs : List Field) (ws : List SendValue) (f : Field) (j : ℕ)
        (x : ValueField) (y : SendValue) → AreNamed types turns entries fs ws → slice_get entries j ≡ Some x
        → x.name ≡ f.name → IsValue types turns f.ty x.value y
        → AreNamed types turns entries (fs ++ f ∷ []) (ws ++ y ∷ [])

-- a character of a pattern: `?` is 63 and `*` is 42
abbrev pub part_of : ℕ → PatternPart
part_of c = if nat_eq c 63 then pattern_part.One else
    (if nat_eq c 42 then pattern_part.AnyOrNone else pattern_part.Literal c)

-- a template fits a type and stands for this
mutual
  pub data IsTemplate (types : Types) (turns : List (List ℕ)) : Ty → Template → RecvTemplate → Type 0 where
    int_template : (z : ℤ) → FitsSigned w64 z → IsTemplate types turns ty.Integer (template.Int z)
        (recv_template.Exact (send_value.Int z))
    bool_template : (b : Bool) → IsTemplate types turns ty.Boolean (template.Bool b)
        (recv_template.Exact (send_value.Bool b))
    text_template : (cs : List ℕ) → ArePrintable cs
        → IsTemplate types turns ty.Charstring (template.Text cs) (recv_template.Exact (send_value.Text cs))
    turn_template : (n : List ℕ) (k : ℕ) → IsPlace turns n k
        → IsTemplate types turns ty.Integer (template.Name n) (recv_template.Exact (send_value.Turn k))
    any : (u : Ty) → IsTemplate types turns u template.Any recv_template.Any
    one_of : (u : Ty) (ts : List Template) (rs : List RecvTemplate) → AreMembers types turns u ts rs
        → IsTemplate types turns u (template.OneOf ts) (recv_template.OneOf rs)
    none_of : (u : Ty) (ts : List Template) (rs : List RecvTemplate) → AreMembers types turns u ts rs
        → IsTemplate types turns u (template.Complement ts) (recv_template.NoneOf rs)
    range : (low high : Option ℤ) → AreOrdered low high
        → IsTemplate types turns ty.Integer (template.Range low high) (recv_template.Range low high)
    pattern : (cs : List ℕ)
        → IsTemplate types turns ty.Charstring (template.Pattern cs) (recv_template.Pattern (map part_of cs))
    element_templates : (u : Ty) (element : Ty) (ts : List Template) (rs : List RecvTemplate)
        → named types u ≡ Some (type_def.ListOf element) → AreElementTemplates types turns element ts rs
        → IsTemplate types turns u (template.List ts) (recv_template.List rs)
    place_templates : (u : Ty) (fields : List Field) (ts : List Template) (rs : List RecvTemplate)
        → named types u ≡ Some (type_def.Record fields) → AreFieldTemplates types turns fields ts rs
        → IsTemplate types turns u (template.List ts) (recv_template.Record rs)
    field_templates : (u : Ty) (fields : List Field) (ts : List TemplateField) (rs : List RecvTemplate)
        → named types u ≡ Some (type_def.Record fields) → length ts ≡ length fields
        → AreNamedTemplates types turns ts fields rs
        → IsTemplate types turns u (template.Record ts) (recv_template.Record rs)

  -- templates in parentheses
  pub data AreMembers (types : Types) (turns : List (List ℕ)) : Ty → List Template → List RecvTemplate → Type 0 where
    no_member : (u : Ty) → AreMembers types turns u [] []
    one_member_more : (u : Ty) (ts : List Template) (rs : List RecvTemplate) (x : Template) (y : RecvTemplate)
        → AreMembers types turns u ts rs → IsTemplate types turns u x y
        → AreMembers types turns u (ts ++ x ∷ []) (rs ++ y ∷ [])

  -- templates of the elements of a `record of`: a `*` is allowed only here
  pub data AreElementTemplates (types : Types) (turns : List (List ℕ))
      : Ty → List Template → List RecvTemplate → Type 0 where
    no_element_template : (u : Ty) → AreElementTemplates types turns u [] []
    one_element_template_more : (u : Ty) (ts : List Template) (rs : List RecvTemplate) (x : Template) (y : RecvTemplate)
        → AreElementTemplates types turns u ts rs → IsElementTemplate types turns u x y
        → AreElementTemplates types turns u (ts ++ x ∷ []) (rs ++ y ∷ [])

  pub data IsElementTemplate (types : Types) (turns : List (List ℕ)) : Ty → Template → RecvTemplate → Type 0 where
    many : (u : Ty) → IsElementTemplate types turns u template.AnyOrNone recv_template.AnyOrNone
    single : (u : Ty) (x : Template) (y : RecvTemplate) → IsTemplate types turns u x y
        → IsElementTemplate types turns u x y

  pub data AreFieldTemplates (types : Types) (turns : List (List ℕ))
      : List Field → List Template → List RecvTemplate → Type 0 where
    no_field_template : AreFieldTemplates types turns [] [] []
    one_field_template_more :
        (fs : List Field) (ts : List Template) (rs : List RecvTemplate) (f : Field) (x : Template) (y : RecvTemplate)
        → AreFieldTemplates types turns fs ts rs → IsTemplate types turns f.ty x y
        → AreFieldTemplates types turns (fs ++ f ∷ []) (ts ++ x ∷ []) (rs ++ y ∷ [])

  pub data AreNamedTemplates (types : Types) (turns : List (List ℕ))
      : List TemplateField → List Field → List RecvTemplate → Type 0 where
    no_name_template : (entries : List TemplateField) → AreNamedTemplates types turns entries [] []
    one_name_template_more : (entries : List TemplateField) (fs : List Field) (rs : List RecvTemplate) (f : Field)
        (j : ℕ) (x : TemplateField) (y : RecvTemplate) → AreNamedTemplates types turns entries fs rs
        → slice_get entries j ≡ Some x → x.name ≡ f.name → IsTemplate types turns f.ty x.template y
        → AreNamedTemplates types turns entries (fs ++ f ∷ []) (rs ++ y ∷ [])

-- a message: its type is known, and the value fits it
pub record IsMessage (types : Types) (turns : List (List ℕ)) (x : Message) (m : SendMsg) : Type 0 where
  pub type_known : IsType types x.type_name m.ty
  pub fits : IsValue types turns m.ty x.value m.value
