-- The table holds the names of all fields where they are looked for, so a name that isn't in it is that of no field.
use Rattle.std.proofs.Common.{◌⊎◌, inl, inr, ◌≡◌, ℕ, List, [], map, length, Some, slice_get, ap, sym, ◌∙◌, subst, true≢false}
use Rattle.std.proofs.lemmas.List.{length-map}
use Rattle.tp_checks.specs.{Named.IsAbsent, Placing.field_names}
use Rattle.tp_checks.proofs.FieldNameTables.{found_place, found_none}
use Rattle.tp_checks.proofs.placing.find_field.Goals.{then-is_empty+in_ok-list_names, else-is_empty}
use Rattle.tp_checks.proofs.placing.find_field.Goals as goal

-- a table that isn't empty holds all
all_listed : {K : Type 0} (v : K → List ℕ) (keys : List K) (names : List (List ℕ)) → (length keys ≡ 0 → ⊥) → (map v keys ≡ []) ⊎ (map v keys ≡ names)
    → map v keys ≡ names
all_listed v keys names some (inl none) = absurd (some (sym (length-map keys v) ∙ ap length none))
all_listed v keys names some (inr all) = all

pub returns-in_default-clause-absent : goal.returns-in_default-clause-absent
returns-in_default-clause-absent c = λ apart.
    let listed : map (λ n. n.now) c.if-is_empty.table.names.keys ≡ field_names c.args.fields.now =
    elim c.if-is_empty.branch [
      | then-is_empty+in_ok-list_names w ↦ ap (λ t. map (λ n. n.now) t.names.keys) w.table-is ∙ w.in_ok-list_names.ensures.ok apart
      | else-is_empty w ↦
          ap (λ t. map (λ n. n.now) t.names.keys) w.table-is
          ∙ all_listed (λ n. n.now) c.args.table.now.names.keys (field_names c.args.fields.now)
          (λ none. true≢false (sym (c.is_empty.ensures.1 none) ∙ w.if-is_empty.false)) (c.requires apart)
    ] in
    subst (IsAbsent (field_names c.args.fields.now)) c.as_bytes.ensures.value
    (found_none (λ n. n.now) c.args.fields.now c.if-is_empty.table.names.keys c.as_bytes.result.now listed c.in_default.ensures.index)

pub returns-then-not-is_field-clause-absent : goal.returns-then-not-is_field-clause-absent
returns-then-not-is_field-clause-absent c = λ apart.
    let listed : map (λ n. n.now) c.if-is_empty.table.names.keys ≡ field_names c.args.fields.now =
    elim c.if-is_empty.branch [
      | then-is_empty+in_ok-list_names w ↦ ap (λ t. map (λ n. n.now) t.names.keys) w.table-is ∙ w.in_ok-list_names.ensures.ok apart
      | else-is_empty w ↦
          ap (λ t. map (λ n. n.now) t.names.keys) w.table-is
          ∙ all_listed (λ n. n.now) c.args.table.now.names.keys (field_names c.args.fields.now)
          (λ none. true≢false (sym (c.is_empty.ensures.1 none) ∙ w.if-is_empty.false)) (c.requires apart)
    ] in
    let there : slice_get (field_names c.args.fields.now) c.in-Some.place ≡ Some c.args.name.now =
    found_place (λ n. n.now) c.args.fields.now c.if-is_empty.table.names.keys c.as_bytes.result.now c.in-Some.place listed c.in-Some.ensures.index
    ∙ ap Some c.as_bytes.ensures.value in
    absurd (true≢false (sym (c.is_field-2.ensures.1 there) ∙ c.if-not-is_field.true))
