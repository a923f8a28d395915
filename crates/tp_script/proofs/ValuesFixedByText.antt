-- A value of the text stands for one value to be sent.
use Rattle.std.proofs.Common.{◌≡◌, ℕ, List, [], ◌∷◌, ◌++◌, map, ap, sym, subst, ◌∙◌}
use Rattle.std.specs.List.{AllZip, zip}
use Rattle.tp_tree.specs.declared.message.{Value.Value, ValueField.ValueField}
use Rattle.tp_tree.specs.declared.message.Value.TheVariants as v
use Rattle.tp_value.specs.declared.types.{Ty.Ty, Field.Field, Types.Types}
use Rattle.tp_play.specs.declared.body.SendValue.{SendValue}
use Rattle.tp_play.specs.declared.body.SendValue.TheVariants as send_value
use Rattle.tp_checks.specs.{Tables.AreDistinct, Scoping.OwnNames}
use Rattle.tp_checks.specs.Messages.{IsValue, AreElements, AreFields, AreNamed}
use Rattle.tp_checks.specs.Messages as m
use Rattle.tp_checks.proofs.ListPrefixGrowth.{contains_at, zip_one_more, zip_push}
use Rattle.tp_checks.proofs.UniqueZipsAndPlaces.{Fixes, same_named, zip_fixed}
use Rattle.tp_checks.proofs.{EachFieldHasEntry.distinct_entries, NameLookupsAreUnique.place_fixed}
use Rattle.tp_checks.proofs.ValueInversions.{HasEntry, IsFieldValue, elements_zip, fields_count, fields_zip, names_zip, opened}

module _ (types : Types) (turns : List (List ℕ)) (own : OwnNames types) where
  mutual
    pub value_fixed : {u : Ty} {x : Value} {w : SendValue} → IsValue types turns u x w → (y : SendValue) → IsValue types turns u x y → w ≡ y
    value_fixed (m.int z fits) y k = let r = rw v.outs-Int at (opened types turns k) in sym r.1
    value_fixed (m.bool b) y k = let r = rw v.outs-Bool at (opened types turns k) in sym r.1
    value_fixed (m.text cs printable) y k = let r = rw v.outs-Text at (opened types turns k) in sym r.2
    value_fixed (m.turn n i place) y k =
        let r = rw v.outs-Name at (opened types turns k) in
        ap send_value.Turn (place_fixed turns n i r.0 place r.2) ∙ sym r.3
    value_fixed (m.elements u element vs ws is all) y k =
        let r = rw (v.outs-List, is) at (opened types turns k) in
        ap send_value.List (zip_fixed (IsValue types turns element) vs ws r.0 (elements_fixed all) (elements_zip types turns r.1)) ∙ sym r.2
    value_fixed (m.places u fields vs ws is all) y k =
        let r = rw (v.outs-List, is) at (opened types turns k) in
        ap send_value.Record (zip_fixed (IsFieldValue types turns) (zip fields vs) ws r.0 (fields_fixed all) (fields_zip types turns r.1)) ∙ sym r.2
    value_fixed (m.fields u fields vs ws is long all) y k =
        let r = rw (v.outs-Record, is) at (opened types turns k) in
        let apart =
        distinct_entries (λ e. e.name) (λ f e y. IsValue types turns f.ty e.value y) vs fields ws long (names_zip types turns all) (own u fields is) in
        ap send_value.Record (zip_fixed (HasEntry types turns vs) fields ws r.0 (names_fixed apart all) (names_zip types turns r.2)) ∙ sym r.3

    elements_fixed : {u : Ty} {vs : List Value} {ws : List SendValue} → AreElements types turns u vs ws → AllZip (Fixes (IsValue types turns u)) vs ws
    elements_fixed (m.no_element u) = tt
    elements_fixed (m.one_element_more u vs ws x w all one) =
        zip_push (Fixes (IsValue types turns u)) vs ws x w (elements_fixed all) (value_fixed one)

    fields_fixed : {fs : List Field} {vs : List Value} {ws : List SendValue} → AreFields types turns fs vs ws
        → AllZip (Fixes (IsFieldValue types turns)) (zip fs vs) ws
    fields_fixed m.no_field = tt
    fields_fixed (m.one_field_more fs vs ws f x w all one) =
        subst (λ l. AllZip (Fixes (IsFieldValue types turns)) l (ws ++ w ∷ [])) (zip_one_more fs vs f x (fields_count types turns all))
        (zip_push (Fixes (IsFieldValue types turns)) (zip fs vs) ws (f, x) w (fields_fixed all) (value_fixed one))

    names_fixed : {es : List ValueField} {fs : List Field} {ws : List SendValue} → AreDistinct (map (λ e. e.name) es) → AreNamed types turns es fs ws
        → AllZip (Fixes (HasEntry types turns es)) fs ws
    names_fixed apart (m.no_name es) = tt
    names_fixed apart (m.one_name_more es fs ws f j x w all there is one) =
        zip_push (Fixes (HasEntry types turns es)) fs ws f w (names_fixed apart all)
        (λ y h. value_fixed one y (subst (λ (e : ValueField). IsValue types turns f.ty e.value y)
        (same_named (λ e. e.name) es h.entry x apart (contains_at es h.at h.entry h.is_entry) (contains_at es j x there) (h.same ∙ sym is)) h.stands))
