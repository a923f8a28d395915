-- A name that isn't there yet comes behind the others, with its definition.
use Rattle.std.proofs.Common.{◌++◌, ◌∷◌, [], ◌∙◌, Contains, ap, string_bytes, subst, sym, true≢false}
use Rattle.tp_value.specs.Types.{names_of_types}
use Rattle.tp_value.proofs.TypeNameLookups.{shown, entry_added}
use Rattle.tp_value.proofs.types.Types.add.Goals as goal

pub returns-clause-ok : goal.returns-clause-ok
returns-clause-ok c =
    let new : Contains (names_of_types (shown string_bytes c.self.inside.definitions.entries)) (string_bytes c.args.name) → ⊥ = λ h.
    let here = subst (λ n. Contains (names_of_types c.args.self.now) n) (sym c.as_str.ensures.value)
    (subst (λ t. Contains (names_of_types t) (string_bytes c.args.name)) c.self.view_is h) in
    true≢false (sym (c.find.ensures.known.1 here) ∙ sym c.is_some.ensures ∙ c.if-is_some.false) in
    ap (shown string_bytes) c.in_ok-insert.ensures.entries
    ∙ entry_added string_bytes c.self.inside.definitions.entries c.args.name c.args.definition new
    ∙ ap (λ t. t ++ (string_bytes c.args.name, c.args.definition) ∷ []) c.self.view_is
