-- The name at this place among the entries is the one of the type of this number.
use Rattle.std.proofs.Common.{List, ℕ, Some, string_bytes, ap, sym, ◌∙◌}
use Rattle.std.specs.Option.{option_map}
use Rattle.tp_value.proofs.TypeNameLookups.{name_at}
use Rattle.tp_value.proofs.types.Types.name.Goals as goal

pub returns-in-Some : goal.returns-in-Some
returns-in-Some c =
    ap (λ (b : List ℕ). Some b) c.as_str.ensures.value ∙ ap (option_map (λ e. string_bytes e.0)) c.in-Some.ensures.entry
    ∙ sym (name_at string_bytes c.self.inside.definitions.entries c.args.self.now c.args.number c.self.view_is)

pub returns-in-None : goal.returns-in-None
returns-in-None c =
    ap (option_map (λ e. string_bytes e.0)) c.in-None.ensures.entry
    ∙ sym (name_at string_bytes c.self.inside.definitions.entries c.args.self.now c.args.number c.self.view_is)
