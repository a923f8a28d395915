-- A field has this name where its name and this one have the same bytes.
use Rattle.std.proofs.Common.{◌≡◌, length, slice_get, Some, option_map, refl, ap, sym, ◌∙◌}
use Rattle.std.proofs.{lemmas.Option.slice_get_read, lemmas.Option.slice_get-map, lemmas.Option.same_Some, lemmas.Slice.Eq.bytes_eq-Decides}
use Rattle.tp_checks.specs.Placing.{field_names}
use Rattle.tp_checks.proofs.placing.is_field.Goals as goal

pub returns-in-Some : goal.returns-in-Some
returns-in-Some c =
    let there : slice_get c.args.fields.now c.args.place ≡ Some c.in-Some.field.now =
    slice_get_read c.args.fields.now (length c.args.fields.now) c.args.place c.in-Some.field.now refl c.in-Some.ensures.lookup.3.0
    c.in-Some.ensures.lookup.1 in
    let named : slice_get (field_names c.args.fields.now) c.args.place ≡ Some c.as_slice.result.now =
    slice_get-map (λ f. f.name) c.args.fields.now c.args.place ∙ ap (option_map (λ f. f.name)) there ∙ ap Some (sym c.as_slice.ensures) in
    let same = bytes_eq-Decides c.as_slice.result.now c.as_bytes.result.now in (
      λ t. named ∙ ap Some (same.0 (sym c.eq.ensures ∙ t) ∙ c.as_bytes.ensures.value),
      λ e. c.eq.ensures ∙ same.1 (same_Some c.as_slice.result.now c.as_bytes.result.now (sym named ∙ e ∙ ap Some (sym c.as_bytes.ensures.value))),
    )
