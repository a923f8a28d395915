-- The number of a component's type is below the number of types, and the ports are that type's.
use Rattle.std.proofs.Common.{◌<◌, ◌∙◌, ap, arith, length, refl, subst, sym}
use Rattle.std.proofs.lemmas.List.{length-map}
use Rattle.tp_config.specs.Setup.{Setup, ports_at}
use Rattle.tp_config.specs.Shape.{ports_of, setup_of}
use Rattle.tp_config.proofs.ComponentAndPortLookups.{kind_at, member_at, ports_by}
use Rattle.tp_config.proofs.config.Config.comp_type.Goals as goal

pub index-requires-2 : goal.index-requires-2
index-requires-2 c =
    let i = c.self.inside in
    let s = setup_of i.types.items i.components.items i.connected.items i.mapped.items in
    let here = member_at s s i.components.items _ _ refl refl (subst (λ (t : Setup). c.args.comp.0 < length t.components)
    (sym c.self.view_is) c.requires) c.index.ensures in
    let below = kind_at s c.args.comp.0 c.index.result.now c.self.invariant.setup.kinds here in
    omega (arith, below, length-map i.types.items ports_of)

pub returns : goal.returns
returns c =
    let i = c.self.inside in
    let s = setup_of i.types.items i.components.items i.connected.items i.mapped.items in
    let here = member_at s s i.components.items _ _ refl refl (subst (λ (t : Setup). c.args.comp.0 < length t.components)
    (sym c.self.view_is) c.requires) c.index.ensures in
    let below = kind_at s c.args.comp.0 c.index.result.now c.self.invariant.setup.kinds here in
    ports_by s i.types.items c.args.comp c.index.result.now c.index-2.result.now refl
    (omega (arith, below, length-map i.types.items ports_of)) here c.index-2.ensures
    ∙ ap (λ (t : Setup). ports_at t.types t.components c.args.comp) c.self.view_is
