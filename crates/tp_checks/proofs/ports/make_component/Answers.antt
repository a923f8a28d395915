-- At first there are no ports, and each declaration adds its own, of the type that it names.
use Rattle.std.proofs.Common.{◌≡◌, ◌∙◌, ◌+◌, ◌++◌, [], Contains, ap, arith, drop, inr, length, map, refl, subst, sym, take, true≢false}
use Rattle.std.proofs.lemmas.List.{length-map, take_all}
use Rattle.std.specs.List.{AllZip}
use Rattle.tp_config.specs.{Setup.PortDecl, Shape.decl_of, Shape.ports_of}
use Rattle.tp_checks.specs.{Tables.AreDistinct, Definitions.declared, Definitions.declared_ports, Resolved.IsPortDecl, Resolved.port_decl}
use Rattle.tp_checks.specs.{Sorted.port_types_in, Rules.IsSoundComponent}
use Rattle.tp_tree.specs.declared.tree.PortDeclaration.{PortDeclaration}
use Rattle.tp_checks.proofs.{PortTypesAsDeclared.ports_named, DistinctNamesInParts.distinct_first}
use Rattle.tp_checks.proofs.ModuleRefusalPropagation.{all_at, flat_behind, handed_on}
use Rattle.tp_checks.proofs.ListPrefixGrowth.{flat_more, zip_append, zip_maps}
use Rattle.tp_checks.proofs.ports.make_component.Goals as goal

pub loop-declaration-init : goal.loop-declaration-init
unfolding ports_of
loop-declaration-init c = rw c.new.ensures.empty tt

pub loop-declaration-preserved : goal.loop-declaration-preserved
loop-declaration-preserved c =
    let R = IsPortDecl c.args.sorted.now.type_names (port_types_in c.args.sorted.now) in
    let x = c.declaration-item.result in
    let made = c.in-Some.port_type.now in
    let one : AllZip R (map (λ n. (declared n, x.type_name)) x.names) (map (port_decl made) x.names) =
    zip_maps R (λ n. (declared n, x.type_name)) (port_decl made) x.names
    (λ n. record { name = refl; lists = rw c.as_str.ensures at c.in-Some.ensures.found }) in
    rw (c.in_ok-add_ports.ensures.added, c.as_slice.ensures)
    (subst (λ l. AllZip R l (ports_of c.loop-declaration.ports ++ map (port_decl made) x.names))
    (sym (flat_more (λ (p : PortDeclaration). map (λ n. (declared n, p.type_name)) p.names) c.as_slice-declaration-items.result.now
    c.loop-declaration.declaration-index x (omega arith) c.declaration-item.is))
    (zip_append R _ _ _ _ c.loop-declaration.invariant one))

pub returns-in_default-clause-refused : goal.returns-in_default-clause-refused
returns-in_default-clause-refused c =
    inr (λ h. c.in_default.ensures.unknown (rw c.as_str.ensures
    (all_at (λ (p : PortDeclaration). Contains c.args.sorted.now.port_names p.type_name) c.as_slice-declaration-items.result.now
    c.loop-declaration.declaration-index c.declaration-item.result (omega arith) c.declaration-item.is
    (rw c.as_slice-declaration-items.ensures h.known))))

pub returns-in_err-add_ports-clause-refused : goal.returns-in_err-add_ports-clause-refused
returns-in_err-add_ports-clause-refused c =
    let items = c.as_slice-declaration-items.result.now in
    let i = c.loop-declaration.declaration-index in
    let made = ports_of c.loop-declaration.ports in
    let x = c.declaration-item.result in
    handed_on c.from_residual.result _ c.from_residual.ensures.1 c.in_err-add_ports.ensures.refused
    (λ (h : IsSoundComponent c.args.sorted.now.port_names c.args.component.now). rw c.as_slice.ensures
    (distinct_first (map (λ (p : PortDecl). p.name) made ++ map declared x.names) (declared_ports (drop (i + 1) items))
    (subst AreDistinct
    (flat_behind (λ (p : PortDeclaration). map declared p.names) [] (map (λ (p : PortDecl). p.name) made) items i x (omega arith) c.declaration-item.is
    (ports_named c.args.sorted.now.type_names (port_types_in c.args.sorted.now) (take i items) made c.loop-declaration.invariant))
    (rw c.as_slice-declaration-items.ensures h.distinct))))

pub returns-then-not-has_room-clause-refused : goal.returns-then-not-has_room-clause-refused
unfolding ports_of
returns-then-not-has_room-clause-refused c =
    let items = c.as_slice-declaration-items.result.now in
    let i = c.loop-declaration.declaration-index in
    let entries = c.loop-declaration.ports.ports.entries in
    let whole : take i items ≡ items = take_all i items (omega arith) in
    let named : map (λ (p : PortDecl). p.name) (ports_of c.loop-declaration.ports) ≡ declared_ports c.args.component.now.ports =
    ports_named c.args.sorted.now.type_names (port_types_in c.args.sorted.now) (take i items) (ports_of c.loop-declaration.ports) c.loop-declaration.invariant
    ∙ ap declared_ports (whole ∙ c.as_slice-declaration-items.ensures) in
    let count : length entries ≡ length (declared_ports c.args.component.now.ports) =
    sym (length-map (map decl_of entries) (λ (p : PortDecl). p.name) ∙ length-map entries decl_of) ∙ ap length named in
    inr (λ h. true≢false (sym (c.has_room.ensures.1 (omega (arith, count, c.len.ensures.len, h.few))) ∙ c.if-not-has_room.true))
