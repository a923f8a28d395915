-- What is filled fits its type.
use Rattle.std.proofs.Common.{◌≡◌, ℕ, ℤ, pos, true, ◌⊎◌, inl, inr, List, [], ◌∷◌, ◌++◌, map, get_or, refl, ap, ◌∙◌, FitsSigned, w64, rules, arith}
use Rattle.std.proofs.lemmas.List.{map-append}
use Rattle.tp_value.specs.declared.types.{Ty.Ty, Field.Field, Types.Types}
use Rattle.tp_value.specs.declared.template.{Template.Template, Template.TheViews.the_lemmas}
use Rattle.tp_value.specs.declared.template.Template.TheVariants as made
use Rattle.tp_value.specs.{HasType.AllHave, HasType.FieldsHave, Matches.is_many, Fits.ElementsFit, Fits.Fits}
use Rattle.tp_value.proofs.HasTypeEquations.{has_int, has_bool, has_text}
use Rattle.tp_value.proofs.FitsEquations.{fits_exact, fits_any, fits_one_of, fits_none_of, fits_range, fits_pattern, fits_record, fits_list}
use Rattle.tp_tree.specs.declared.message.{Template.Template as TemplateText, TemplateField.TemplateField}
use Rattle.tp_play.specs.declared.body.RecvTemplate.{RecvTemplate}
use Rattle.tp_checks.specs.Messages.{IsTemplate, int_template, bool_template, text_template, turn_template, any, one_of, none_of, range, pattern, element_templates, place_templates, field_templates, AreMembers, no_member, one_member_more, AreElementTemplates, no_element_template, one_element_template_more, IsElementTemplate, many, single, AreFieldTemplates, no_field_template, one_field_template_more, AreNamedTemplates, no_name_template, one_name_template_more}
use Rattle.tp_play.specs.Fills.{filled_template}
use Rattle.tp_play.proofs.FilledValueEquations.{filled_int, filled_bool, filled_text, filled_turn, template_exact, template_any, template_many, template_one_of, template_none_of, template_range, template_pattern, template_record, template_list}
use Rattle.tp_checks.proofs.FilledValuesHaveType.{AllHave-push, FieldsHave-push}

ElementsFit-push : (k : Template → Ty → Type 0) (u : Ty) (xs : List Template) (y : Template) → ElementsFit is_many k u xs → (is_many y ≡ true) ⊎ k y u
    → ElementsFit is_many k u (xs ++ y ∷ [])
ElementsFit-push k u [] y h one = (one, tt)
ElementsFit-push k u (x ∷ xs) y h one = (h.0, ElementsFit-push k u xs y h.1 one)

many_is_many : is_many made.AnyOrNone ≡ true
many_is_many = first_of (search (the_lemmas, made.rolls-AnyOrNone), search (rules, the_lemmas), grind (arith, the_lemmas, made.rolls-AnyOrNone))

module _ (types : Types) (turns : List (List ℕ)) (zs : List ℤ) (fit : (k : ℕ) → FitsSigned w64 (get_or zs k (pos 0))) where
  mutual
    pub fitting : (u : Ty) (x : TemplateText) (r : RecvTemplate) → IsTemplate types turns u x r → Fits types u (filled_template zs r)
    fitting u x r (int_template z h) = rw (template_exact, fits_exact, filled_int, has_int) (refl, h)
    fitting u x r (bool_template b) = rw (template_exact, fits_exact, filled_bool, has_bool) refl
    fitting u x r (text_template cs h) = rw (template_exact, fits_exact, filled_text, has_text) (refl, h)
    fitting u x r (turn_template n k p) = rw (template_exact, fits_exact, filled_turn, has_int) (refl, fit k)
    fitting u x r (any v) = rw (template_any, fits_any) tt
    fitting u x r (one_of v ts rs h) = rw (template_one_of, fits_one_of) (members_fit v ts rs h)
    fitting u x r (none_of v ts rs h) = rw (template_none_of, fits_none_of) (members_fit v ts rs h)
    fitting u x r (range low high h) = rw (template_range, fits_range) (refl, h)
    fitting u x r (pattern cs) = rw (template_pattern, fits_pattern) refl
    fitting u x r (element_templates v element ts rs e h) = rw (template_list, fits_list, e) (elements_fit element ts rs h)
    fitting u x r (place_templates v fs ts rs e h) = rw (template_record, fits_record, e) (fields_fit fs ts rs h)
    fitting u x r (field_templates v fs ts rs e n h) = rw (template_record, fits_record, e) (named_fit ts fs rs h)

    members_fit : (u : Ty) (ts : List TemplateText) (rs : List RecvTemplate) → AreMembers types turns u ts rs
        → AllHave (λ v t. Fits types t v) u (map (filled_template zs) rs)
    members_fit u ts rs (no_member v) = tt
    members_fit u ts rs (one_member_more v xs ys x y h one) =
        rw map-append (AllHave-push (λ v t. Fits types t v) v (map (filled_template zs) ys) (filled_template zs y) (members_fit v xs ys h) (fitting v x y one))

    elements_fit : (u : Ty) (ts : List TemplateText) (rs : List RecvTemplate) → AreElementTemplates types turns u ts rs
        → ElementsFit is_many (λ v t. Fits types t v) u (map (filled_template zs) rs)
    elements_fit u ts rs (no_element_template v) = tt
    elements_fit u ts rs (one_element_template_more v xs ys x y h one) =
        rw map-append
        (ElementsFit-push (λ v t. Fits types t v) v (map (filled_template zs) ys) (filled_template zs y) (elements_fit v xs ys h) (element_fits v x y one))

    element_fits : (u : Ty) (x : TemplateText) (r : RecvTemplate) → IsElementTemplate types turns u x r
        → (is_many (filled_template zs r) ≡ true) ⊎ Fits types u (filled_template zs r)
    element_fits u x r (many v) = inl (ap is_many (template_many zs) ∙ many_is_many)
    element_fits u x r (single v y s h) = inr (fitting v y s h)

    fields_fit : (fs : List Field) (ts : List TemplateText) (rs : List RecvTemplate) → AreFieldTemplates types turns fs ts rs
        → FieldsHave (λ v t. Fits types t v) fs (map (filled_template zs) rs)
    fields_fit fs ts rs no_field_template = tt
    fields_fit fs ts rs (one_field_template_more gs xs ys f x y h one) =
        rw map-append
        (FieldsHave-push (λ v t. Fits types t v) gs (map (filled_template zs) ys) f (filled_template zs y) (fields_fit gs xs ys h) (fitting f.ty x y one))

    named_fit : (entries : List TemplateField) (fs : List Field) (rs : List RecvTemplate) → AreNamedTemplates types turns entries fs rs
        → FieldsHave (λ v t. Fits types t v) fs (map (filled_template zs) rs)
    named_fit entries fs rs (no_name_template es) = tt
    named_fit entries fs rs (one_name_template_more es gs ys f j x y h e n one) =
        rw map-append (FieldsHave-push (λ v t. Fits types t v) gs (map (filled_template zs) ys) f (filled_template zs y) (named_fit es gs ys h)
        (fitting f.ty x.template y one))
