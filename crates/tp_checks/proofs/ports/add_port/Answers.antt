-- A port whose name is new goes after the others, and receives and sends what its type does.
use Rattle.std.proofs.Common.{◌++◌, ◌∷◌, [], ◌∙◌, Contains, ap, inr, map, string_bytes, subst, sym}
use Rattle.tp_config.specs.{Setup.PortDecl, Shape.decl_of, Shape.ports_of}
use Rattle.tp_checks.specs.Definitions.{declared}
use Rattle.tp_checks.proofs.DistinctNamesInParts.{repeated}
use Rattle.tp_checks.proofs.ComponentTypePortGrowth.{is_there, names_declared, names_in, not_there, port_added, same_declaration}
use Rattle.tp_checks.proofs.ports.add_port.Goals as goal

pub returns-clause-added : goal.returns-clause-added
unfolding ports_of
returns-clause-added c =
    let es = c.args.component.now.ports.entries in
    let named = c.in_ok-text.ensures.ok ∙ c.as_str-2.ensures in
    let new : Contains (names_in es) (string_bytes c.in_ok-text.text) → ⊥ = λ h.
    not_there es c.as_str.result.now c.in-None.ensures.index (subst (λ n. Contains (names_in es) n) (named ∙ sym c.as_str.ensures) h) in
    ap (map decl_of) c.in_ok-insert.ensures.entries
    ∙ port_added es c.in_ok-text.text c.in_ok-shared.shared new
    ∙ ap (λ d. map decl_of es ++ d ∷ [])
    (same_declaration (string_bytes c.in_ok-text.text) (declared c.args.name.now) c.in_ok-shared.shared.ins c.args.port_type.now.ins c.in_ok-shared.shared.outs
    c.args.port_type.now.outs named c.in_ok-shared.ensures.shared.0 c.in_ok-shared.ensures.shared.1)

pub returns-in_default-clause-refused : goal.returns-in_default-clause-refused
unfolding ports_of
returns-in_default-clause-refused c =
    let es = c.args.component.now.ports.entries in
    let there : Contains (names_in es) (declared c.args.name.now) =
    subst (Contains (names_in es)) c.as_str.ensures (is_there es c.as_str.result.now c.in_default.field-0 c.in_default.ensures.index) in
    inr (λ h. repeated (map (λ (p : PortDecl). p.name) (map decl_of es)) (declared c.args.name.now)
    (subst (λ l. Contains l (declared c.args.name.now)) (sym (names_declared es)) there) h)
