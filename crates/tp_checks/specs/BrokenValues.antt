-- Which rule is broken by a value that stands for nothing: that of its first fault in the order of the text.
use Rattle.std.specs.Prelude.{◌≡◌, ◌≢◌, ℕ, ℤ, Bool, List, length, map, take, All, Contains, Some, None, slice_get}
use Rattle.tp_value.specs.declared.types.{Ty.Ty, Field.Field, Types.Types}
use Rattle.tp_value.specs.declared.types.Ty.TheVariants as ty
use Rattle.tp_value.specs.declared.types.TypeDef.TheVariants as type_def
use Rattle.tp_value.specs.{Types.named, HasType.ArePrintable}
use Rattle.tp_tree.specs.declared.message.{Value.Value, ValueField.ValueField}
use Rattle.tp_tree.specs.declared.message.Value.TheVariants as value
use Rattle.tp_play.specs.declared.body.SendValue.{SendValue}
use Rattle.tp_checks.specs.declared.fault.ModuleRule.{ModuleRule}
use Rattle.tp_checks.specs.declared.fault.ModuleRule.TheVariants as rule
use Rattle.tp_checks.specs.{Named.IsPlace, Named.IsAbsent, Placing.IsEntry, Placing.HaveEntries}
use Rattle.tp_checks.specs.Messages.{IsValue, AreElements, AreFields}
use Rattle.tp_checks.specs.declared.scope.Variables.{Variables}

-- a text: the wanted type isn't `charstring`, or the text contains a character that can't be printed (13)
pub data TextBreaks (u : Ty) (text : List ℕ) : ModuleRule → Type 0 where
  no_charstring : u ≢ ty.Charstring → TextBreaks u text rule.WrongType
  unprintable : u ≡ ty.Charstring → (ArePrintable text → ⊥) → TextBreaks u text rule.WrongType

-- a name: it is that of a loop variable, and the wanted type isn't `integer` (13); or of a variable, which no value may
-- contain (13); or of neither (11)
pub data ValueNameBreaks (variables : Variables) (turns : List (List ℕ)) (u : Ty) (name : List ℕ) : ModuleRule → Type 0 where
  no_integer : (k : ℕ) → IsPlace turns name k → u ≢ ty.Integer → ValueNameBreaks variables turns u name rule.WrongType
  variable : IsAbsent turns name → Contains variables.names name → ValueNameBreaks variables turns u name rule.WrongType
  unknown : IsAbsent turns name → (Contains variables.names name → ⊥) → ValueNameBreaks variables turns u name rule.Unknown

-- what the entry of a field stands for
abbrev pub IsValueOf : Types → List (List ℕ) → Field → ValueField → SendValue → Type 0
IsValueOf types turns f x y = IsValue types turns f.ty x.value y

abbrev pub IsValueEntry : Types → List (List ℕ) → List Field → ValueField → Type 0
IsValueEntry types turns = IsEntry (λ (x : ValueField). x.name) (IsValueOf types turns)

-- a value that should have this type: it is of another type (13), or a part of it breaks a rule
mutual
  pub data ValueBreaks (types : Types) (variables : Variables) (turns : List (List ℕ))
      : Ty → Value → ModuleRule → Type 0 where
    no_integer : (u : Ty) (z : ℤ) → u ≢ ty.Integer → ValueBreaks types variables turns u (value.Int z) rule.WrongType
    no_boolean : (u : Ty) (b : Bool) → u ≢ ty.Boolean → ValueBreaks types variables turns u (value.Bool b) rule.WrongType
    text : (u : Ty) (cs : List ℕ) (r : ModuleRule) → TextBreaks u cs r
        → ValueBreaks types variables turns u (value.Text cs) r
    name : (u : Ty) (n : List ℕ) (r : ModuleRule) → ValueNameBreaks variables turns u n r
        → ValueBreaks types variables turns u (value.Name n) r
    no_braces : (u : Ty) (vs : List Value) → named types u ≡ None
        → ValueBreaks types variables turns u (value.List vs) rule.WrongType
    elements : (u : Ty) (element : Ty) (vs : List Value) (r : ModuleRule)
        → named types u ≡ Some (type_def.ListOf element) → ElementsBreak types variables turns element vs r
        → ValueBreaks types variables turns u (value.List vs) r
    places : (u : Ty) (fields : List Field) (vs : List Value) (r : ModuleRule)
        → named types u ≡ Some (type_def.Record fields) → FieldsBreak types variables turns fields vs r
        → ValueBreaks types variables turns u (value.List vs) r
    no_record : (u : Ty) (vs : List ValueField)
        → ((fields : List Field) → named types u ≢ Some (type_def.Record fields))
        → ValueBreaks types variables turns u (value.Record vs) rule.WrongType
    fields : (u : Ty) (fields : List Field) (vs : List ValueField) (r : ModuleRule)
        → named types u ≡ Some (type_def.Record fields) → EntriesBreak types variables turns fields vs r
        → ValueBreaks types variables turns u (value.Record vs) r

  -- an element of a `record of` breaks a rule, and those before it stand for something
  pub data ElementsBreak (types : Types) (variables : Variables) (turns : List (List ℕ))
      : Ty → List Value → ModuleRule → Type 0 where
    element : (u : Ty) (vs : List Value) (ws : List SendValue) (i : ℕ) (x : Value) (r : ModuleRule)
        → AreElements types turns u (take i vs) ws → slice_get vs i ≡ Some x → ValueBreaks types variables turns u x r
        → ElementsBreak types variables turns u vs r

  -- the fields of a record, by place: there are more or fewer values than fields (13), or one value breaks a rule and
  -- those before it stand for something
  pub data FieldsBreak (types : Types) (variables : Variables) (turns : List (List ℕ))
      : List Field → List Value → ModuleRule → Type 0 where
    count : (fields : List Field) (vs : List Value) → length fields ≢ length vs
        → FieldsBreak types variables turns fields vs rule.WrongType
    place : (fields : List Field) (vs : List Value) (ws : List SendValue) (i : ℕ) (f : Field) (x : Value)
        (r : ModuleRule) → length fields ≡ length vs → AreFields types turns (take i fields) (take i vs) ws
        → slice_get fields i ≡ Some f → slice_get vs i ≡ Some x → ValueBreaks types variables turns f.ty x r
        → FieldsBreak types variables turns fields vs r

  -- the fields of a record, by name: there isn't one entry for each field (13), or one entry breaks a rule and those
  -- before it fit
  pub data EntriesBreak (types : Types) (variables : Variables) (turns : List (List ℕ))
      : List Field → List ValueField → ModuleRule → Type 0 where
    names : (fields : List Field) (vs : List ValueField)
        → (HaveEntries fields (map (λ v. v.name) vs) → ⊥)
        → EntriesBreak types variables turns fields vs rule.WrongType
    entry : (fields : List Field) (vs : List ValueField) (i k : ℕ) (f : Field) (x : ValueField) (r : ModuleRule)
        → HaveEntries fields (map (λ v. v.name) vs) → All (IsValueEntry types turns fields) (take i vs)
        → slice_get vs i ≡ Some x → slice_get fields k ≡ Some f → x.name ≡ f.name
        → ValueBreaks types variables turns f.ty x.value r → EntriesBreak types variables turns fields vs r
