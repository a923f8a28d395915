-- What a value is that stands for something: the lines of the definition of values, read backwards.
use Rattle.std.proofs.Common.{◌≡◌, ℕ, List, [], ◌∷◌, ◌++◌, Option, None, Some, map, length, refl, subst, arith}
use Rattle.std.proofs.lemmas.List.{length_push}
use Rattle.std.specs.List.{AllZip, zip}
use Rattle.tp_value.specs.declared.types.{Ty.Ty, Field.Field, TypeDef.TypeDef, Types.Types}
use Rattle.tp_value.specs.declared.types.Ty.TheVariants as ty
use Rattle.tp_value.specs.declared.types.TypeDef.TheVariants as def
use Rattle.tp_value.specs.{Types.named, HasType.ArePrintable}
use Rattle.tp_tree.specs.declared.message.{Value.Value, Value.TheViews.out-Value, ValueField.ValueField}
use Rattle.tp_tree.specs.declared.message.Value.TheVariants as v
use Rattle.tp_tree.specs.declared.message.Value.TheOpen as o
use Rattle.tp_play.specs.declared.body.SendValue.{SendValue}
use Rattle.tp_play.specs.declared.body.SendValue.TheVariants as w
use Rattle.tp_checks.specs.{Named.IsPlace, Placing.HaveEntries}
use Rattle.tp_checks.specs.Messages.{IsValue, int, bool, text, turn, elements, places, fields, AreElements, no_element, one_element_more, AreFields, no_field, one_field_more, AreNamed, no_name, one_name_more}
use Rattle.tp_checks.proofs.ListPrefixGrowth.{zip_one_more, zip_push}
use Rattle.tp_checks.proofs.EachFieldHasEntry.{Entry, have_entries}

module _ (types : Types) (turns : List (List ℕ)) where
  -- elements in braces, or fields by their places
  abbrev pub IsBraced : List Value → SendValue → Option TypeDef → Type 0
  IsBraced vs y (Some (def.ListOf element)) = (ws : List SendValue) × AreElements types turns element vs ws × (y ≡ w.List ws)
  IsBraced vs y (Some (def.Record fs)) = (ws : List SendValue) × AreFields types turns fs vs ws × (y ≡ w.Record ws)
  IsBraced vs y None = ⊥

  -- fields in braces by their names
  abbrev pub IsEntries : List ValueField → SendValue → Option TypeDef → Type 0
  IsEntries es y (Some (def.ListOf element)) = ⊥
  IsEntries es y (Some (def.Record fs)) = (ws : List SendValue) × (length es ≡ length fs) × AreNamed types turns es fs ws × (y ≡ w.Record ws)
  IsEntries es y None = ⊥

  -- a layer of such a value, and what it stands for
  abbrev pub IsOpened : Ty → SendValue → o.Value-F Value ValueField → Type 0
  IsOpened u y (o.Int z) = (u ≡ ty.Integer) × (y ≡ w.Int z)
  IsOpened u y (o.Bool b) = (u ≡ ty.Boolean) × (y ≡ w.Bool b)
  IsOpened u y (o.Text cs) = (u ≡ ty.Charstring) × ArePrintable cs × (y ≡ w.Text cs)
  IsOpened u y (o.Name n) = (k : ℕ) × (u ≡ ty.Integer) × IsPlace turns n k × (y ≡ w.Turn k)
  IsOpened u y (o.List vs) = IsBraced vs y (named types u)
  IsOpened u y (o.Record es) = IsEntries es y (named types u)

  pub opened : {u : Ty} {x : Value} {y : SendValue} → IsValue types turns u x y → IsOpened u y (out-Value x)
  opened (int z h) = rw v.outs-Int (refl, refl)
  opened (bool b) = rw v.outs-Bool (refl, refl)
  opened (text cs h) = rw v.outs-Text (refl, h, refl)
  opened (turn n k p) = rw v.outs-Name (k, refl, p, refl)
  opened (elements u element vs ws e h) = rw (v.outs-List, e) (ws, h, refl)
  opened (places u fs vs ws e h) = rw (v.outs-List, e) (ws, h, refl)
  opened (fields u fs es ws e n h) = rw (v.outs-Record, e) (ws, n, h, refl)

  -- each of the elements stands for something
  pub elements_zip : {u : Ty} {vs : List Value} {ws : List SendValue} → AreElements types turns u vs ws → AllZip (IsValue types turns u) vs ws
  elements_zip (no_element u) = tt
  elements_zip (one_element_more u xs ys x y h one) = zip_push (IsValue types turns u) xs ys x y (elements_zip h) one

  -- there is one value for each field
  pub fields_count : {fs : List Field} {vs : List Value} {ws : List SendValue} → AreFields types turns fs vs ws → length fs ≡ length vs
  fields_count no_field = refl
  fields_count (one_field_more gs xs ys f x y h one) = omega (arith, fields_count h, length_push gs f, length_push xs x)

  -- what a field's value stands for
  abbrev pub IsFieldValue : Field × Value → SendValue → Type 0
  IsFieldValue p y = IsValue types turns p.0.ty p.1 y

  pub fields_zip : {fs : List Field} {vs : List Value} {ws : List SendValue} → AreFields types turns fs vs ws → AllZip IsFieldValue (zip fs vs) ws
  fields_zip no_field = tt
  fields_zip (one_field_more gs xs ys f x y h one) =
      subst (λ l. AllZip IsFieldValue l (ys ++ y ∷ [])) (zip_one_more gs xs f x (fields_count h))
      (zip_push IsFieldValue (zip gs xs) ys (f, x) y (fields_zip h) one)

  -- each field has an entry
  abbrev pub HasEntry : List ValueField → Field → SendValue → Type 0
  HasEntry es = Entry (λ x. x.name) (λ f x y. IsValue types turns f.ty x.value y) es

  pub names_zip : {es : List ValueField} {fs : List Field} {ws : List SendValue} → AreNamed types turns es fs ws → AllZip (HasEntry es) fs ws
  names_zip (no_name zs) = tt
  names_zip (one_name_more zs gs ys f j x y h e n one) =
      zip_push (HasEntry zs) gs ys f y (names_zip h) (record { at = j; entry = x; is_entry = e; same = n; stands = one })

  -- so each name of a field has one
  pub names_part : {es : List ValueField} {fs : List Field} {ws : List SendValue} → length es ≡ length fs → AreNamed types turns es fs ws
      → HaveEntries fs (map (λ x. x.name) es)
  names_part {es} {fs} {ws} n h = have_entries (λ x. x.name) (λ f x y. IsValue types turns f.ty x.value y) es fs ws n (names_zip h)
