-- A template of the text stands for one template.
use Rattle.std.proofs.Common.{◌≡◌, ℕ, List, [], ◌∷◌, ◌++◌, map, refl, ap, sym, subst, ◌∙◌}
use Rattle.std.specs.List.{AllZip, zip}
use Rattle.tp_tree.specs.declared.message.{Template.Template, TemplateField.TemplateField}
use Rattle.tp_tree.specs.declared.message.Template.TheVariants as t
use Rattle.tp_value.specs.declared.types.{Ty.Ty, Field.Field, Types.Types}
use Rattle.tp_play.specs.declared.body.SendValue.TheVariants as send_value
use Rattle.tp_play.specs.declared.body.RecvTemplate.{RecvTemplate}
use Rattle.tp_play.specs.declared.body.RecvTemplate.TheVariants as recv_template
use Rattle.tp_checks.specs.{Tables.AreDistinct, Scoping.OwnNames}
use Rattle.tp_checks.specs.Messages.{IsTemplate, AreMembers, IsElementTemplate, AreElementTemplates, AreFieldTemplates, AreNamedTemplates}
use Rattle.tp_checks.specs.Messages as m
use Rattle.tp_checks.proofs.ListPrefixGrowth.{contains_at, zip_one_more, zip_push}
use Rattle.tp_checks.proofs.UniqueZipsAndPlaces.{Fixes, same_named, zip_fixed}
use Rattle.tp_checks.proofs.{EachFieldHasEntry.distinct_entries, NameLookupsAreUnique.place_fixed}
use Rattle.tp_checks.proofs.TemplateInversions.{HasEntry, IsFieldTemplate, element_is_template, element_templates_zip, field_templates_count, field_templates_zip, members_zip, named_templates_zip, opened}

module _ (types : Types) (turns : List (List ℕ)) (own : OwnNames types) where
  -- `*` stands for nothing else
  many_fixed : {u : Ty} {x : Template} {y : RecvTemplate} → IsElementTemplate types turns u x y → x ≡ t.AnyOrNone → recv_template.AnyOrNone ≡ y
  many_fixed (m.many u) is = refl
  many_fixed (m.single u x y one) is = absurd (rw (is, t.outs-AnyOrNone) at (opened types turns one))

  mutual
    pub template_fixed : {u : Ty} {x : Template} {r : RecvTemplate} → IsTemplate types turns u x r → (y : RecvTemplate) → IsTemplate types turns u x y → r ≡ y
    template_fixed (m.int_template z fits) y k = let r = rw t.outs-Int at (opened types turns k) in sym r.1
    template_fixed (m.bool_template b) y k = let r = rw t.outs-Bool at (opened types turns k) in sym r.1
    template_fixed (m.text_template cs printable) y k = let r = rw t.outs-Text at (opened types turns k) in sym r.2
    template_fixed (m.turn_template n i place) y k =
        let r = rw t.outs-Name at (opened types turns k) in
        ap (λ j. recv_template.Exact (send_value.Turn j)) (place_fixed turns n i r.0 place r.2) ∙ sym r.3
    template_fixed (m.any u) y k = sym (rw t.outs-Any at (opened types turns k))
    template_fixed (m.one_of u ts rs all) y k =
        let r = rw t.outs-OneOf at (opened types turns k) in
        ap recv_template.OneOf (zip_fixed (IsTemplate types turns u) ts rs r.0 (members_fixed all) (members_zip types turns r.1)) ∙ sym r.2
    template_fixed (m.none_of u ts rs all) y k =
        let r = rw t.outs-Complement at (opened types turns k) in
        ap recv_template.NoneOf (zip_fixed (IsTemplate types turns u) ts rs r.0 (members_fixed all) (members_zip types turns r.1)) ∙ sym r.2
    template_fixed (m.range low high ordered) y k = let r = rw t.outs-Range at (opened types turns k) in sym r.2
    template_fixed (m.pattern cs) y k = let r = rw t.outs-Pattern at (opened types turns k) in sym r.1
    template_fixed (m.element_templates u element ts rs is all) y k =
        let r = rw (t.outs-List, is) at (opened types turns k) in
        ap recv_template.List (zip_fixed (IsElementTemplate types turns element) ts rs r.0 (elements_fixed all) (element_templates_zip types turns r.1)) ∙ sym r.2
    template_fixed (m.place_templates u fields ts rs is all) y k =
        let r = rw (t.outs-List, is) at (opened types turns k) in
        ap recv_template.Record (zip_fixed (IsFieldTemplate types turns) (zip fields ts) rs r.0 (fields_fixed all) (field_templates_zip types turns r.1)) ∙ sym r.2
    template_fixed (m.field_templates u fields ts rs is long all) y k =
        let r = rw (t.outs-Record, is) at (opened types turns k) in
        let apart =
        distinct_entries (λ e. e.name) (λ f e y. IsTemplate types turns f.ty e.template y) ts fields rs long (named_templates_zip types turns all)
        (own u fields is) in
        ap recv_template.Record (zip_fixed (HasEntry types turns ts) fields rs r.0 (names_fixed apart all) (named_templates_zip types turns r.2)) ∙ sym r.3

    members_fixed : {u : Ty} {ts : List Template} {rs : List RecvTemplate} → AreMembers types turns u ts rs → AllZip (Fixes (IsTemplate types turns u)) ts rs
    members_fixed (m.no_member u) = tt
    members_fixed (m.one_member_more u ts rs x r all one) =
        zip_push (Fixes (IsTemplate types turns u)) ts rs x r (members_fixed all) (template_fixed one)

    element_fixed : {u : Ty} {x : Template} {r : RecvTemplate} → IsElementTemplate types turns u x r → Fixes (IsElementTemplate types turns u) x r
    element_fixed (m.many u) y k = many_fixed k refl
    element_fixed (m.single u x r one) y k =
        template_fixed one y
        (element_is_template types turns k (λ is. rw t.outs-AnyOrNone at (opened types turns (subst (λ z. IsTemplate types turns u z r) is one))))

    elements_fixed : {u : Ty} {ts : List Template} {rs : List RecvTemplate} → AreElementTemplates types turns u ts rs
        → AllZip (Fixes (IsElementTemplate types turns u)) ts rs
    elements_fixed (m.no_element_template u) = tt
    elements_fixed (m.one_element_template_more u ts rs x r all one) =
        zip_push (Fixes (IsElementTemplate types turns u)) ts rs x r (elements_fixed all) (element_fixed one)

    fields_fixed : {fs : List Field} {ts : List Template} {rs : List RecvTemplate} → AreFieldTemplates types turns fs ts rs
        → AllZip (Fixes (IsFieldTemplate types turns)) (zip fs ts) rs
    fields_fixed m.no_field_template = tt
    fields_fixed (m.one_field_template_more fs ts rs f x r all one) =
        subst (λ l. AllZip (Fixes (IsFieldTemplate types turns)) l (rs ++ r ∷ [])) (zip_one_more fs ts f x (field_templates_count types turns all))
        (zip_push (Fixes (IsFieldTemplate types turns)) (zip fs ts) rs (f, x) r (fields_fixed all) (template_fixed one))

    names_fixed : {es : List TemplateField} {fs : List Field} {rs : List RecvTemplate} → AreDistinct (map (λ e. e.name) es)
        → AreNamedTemplates types turns es fs rs → AllZip (Fixes (HasEntry types turns es)) fs rs
    names_fixed apart (m.no_name_template es) = tt
    names_fixed apart (m.one_name_template_more es fs rs f j x r all there is one) =
        zip_push (Fixes (HasEntry types turns es)) fs rs f r (names_fixed apart all)
        (λ y h. template_fixed one y (subst (λ (e : TemplateField). IsTemplate types turns f.ty e.template y)
        (same_named (λ e. e.name) es h.entry x apart (contains_at es h.at h.entry h.is_entry) (contains_at es j x there) (h.same ∙ sym is)) h.stands))
