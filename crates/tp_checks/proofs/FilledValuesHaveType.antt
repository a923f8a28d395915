-- What is filled has its type.
use Rattle.std.proofs.Common.{ℕ, ℤ, pos, inl, inr, List, [], ◌∷◌, ◌++◌, map, get_or, refl, FitsSigned, w64, All, length, rules}
use Rattle.std.proofs.{lemmas.Bool.cases_lt, lemmas.List.map-append, lemmas.List.get_or_past}
use Rattle.tp_value.specs.declared.types.{Ty.Ty, Field.Field, Types.Types}
use Rattle.tp_value.specs.HasType.{AllHave, FieldsHave, HasType}
use Rattle.tp_value.proofs.HasTypeEquations.{has_int, has_bool, has_text, has_record, has_list}
use Rattle.tp_tree.specs.declared.message.{Value.Value as ValueText, ValueField.ValueField}
use Rattle.tp_play.specs.declared.body.SendValue.{SendValue}
use Rattle.tp_checks.specs.Messages.{IsValue, int, bool, text, turn, elements, places, fields, AreElements, no_element, one_element_more, AreFields, no_field, one_field_more, AreNamed, no_name, one_name_more}
use Rattle.tp_play.specs.Fills.{filled}
use Rattle.tp_play.proofs.FilledValueEquations.{filled_int, filled_bool, filled_text, filled_turn, filled_record, filled_list}

module _ {X : Type 0} (k : X → Ty → Type 0) where
  pub AllHave-push : (u : Ty) (xs : List X) (y : X) → AllHave k u xs → k y u → AllHave k u (xs ++ y ∷ [])
  AllHave-push u [] y h one = (one, tt)
  AllHave-push u (x ∷ xs) y h one = (h.0, AllHave-push u xs y h.1 one)

  pub FieldsHave-push : (fs : List Field) (xs : List X) (f : Field) (y : X) → FieldsHave k fs xs → k y f.ty → FieldsHave k (fs ++ f ∷ []) (xs ++ y ∷ [])
  FieldsHave-push [] [] f y h one = (one, tt)
  FieldsHave-push (g ∷ fs) (x ∷ xs) f y h one = (h.0, FieldsHave-push fs xs f y h.1 one)
  FieldsHave-push _ _ _ _ h _ = absurd h

module _ (types : Types) (turns : List (List ℕ)) (zs : List ℤ) (fit : (k : ℕ) → FitsSigned w64 (get_or zs k (pos 0))) where
  mutual
    pub typed : (u : Ty) (x : ValueText) (w : SendValue) → IsValue types turns u x w → HasType types u (filled zs w)
    typed u x w (int z h) = rw (filled_int, has_int) (refl, h)
    typed u x w (bool b) = rw (filled_bool, has_bool) refl
    typed u x w (text cs h) = rw (filled_text, has_text) (refl, h)
    typed u x w (turn n k p) = rw (filled_turn, has_int) (refl, fit k)
    typed u x w (elements v element vs ws e h) = rw (filled_list, has_list, e) (all_typed element vs ws h)
    typed u x w (places v fs vs ws e h) = rw (filled_record, has_record, e) (fields_typed fs vs ws h)
    typed u x w (fields v fs vs ws e n h) = rw (filled_record, has_record, e) (named_typed vs fs ws h)

    all_typed : (u : Ty) (vs : List ValueText) (ws : List SendValue) → AreElements types turns u vs ws
        → AllHave (λ v t. HasType types t v) u (map (filled zs) ws)
    all_typed u vs ws (no_element v) = tt
    all_typed u vs ws (one_element_more v xs ys x y h one) =
        rw map-append (AllHave-push (λ v t. HasType types t v) v (map (filled zs) ys) (filled zs y) (all_typed v xs ys h) (typed v x y one))

    fields_typed : (fs : List Field) (vs : List ValueText) (ws : List SendValue) → AreFields types turns fs vs ws
        → FieldsHave (λ v t. HasType types t v) fs (map (filled zs) ws)
    fields_typed fs vs ws no_field = tt
    fields_typed fs vs ws (one_field_more gs xs ys f x y h one) =
        rw map-append (FieldsHave-push (λ v t. HasType types t v) gs (map (filled zs) ys) f (filled zs y) (fields_typed gs xs ys h) (typed f.ty x y one))

    named_typed : (entries : List ValueField) (fs : List Field) (ws : List SendValue) → AreNamed types turns entries fs ws
        → FieldsHave (λ v t. HasType types t v) fs (map (filled zs) ws)
    named_typed entries fs ws (no_name es) = tt
    named_typed entries fs ws (one_name_more es gs ys f j x y h e n one) =
        rw map-append (FieldsHave-push (λ v t. HasType types t v) gs (map (filled zs) ys) f (filled zs y) (named_typed es gs ys h) (typed f.ty x.value y one))

-- the integer of each place: 0 beyond the last
pub fits_64_bits : (zs : List ℤ) → All (FitsSigned w64) zs → (k : ℕ) → FitsSigned w64 (get_or zs k (pos 0))
fits_64_bits zs h k = elim (cases_lt k (length zs)) [ inl below ↦ h k (pos 0) below | inr past ↦ rw (get_or_past zs k (pos 0) past) (search rules) ]
