-- The component at the place that was found has the name, and where none was found none has it.
use Rattle.std.proofs.Common.{◌∙◌, refl, sym}
use Rattle.std.specs.Str.{bytes_eq}
use Rattle.tp_config.specs.Setup.{names_of_components}
use Rattle.tp_config.specs.Shape.{setup_of}
use Rattle.tp_config.proofs.ComponentAndPortLookups.{comp_place, name_known, name_there, name_unknown, tells_name}
use Rattle.tp_config.proofs.config.Config.comp_of.Goals as goal

pub returns-in-Some-clause-there : goal.returns-in-Some-clause-there
returns-in-Some-clause-there c =
    let i = c.self.inside in
    let s = setup_of i.types.items i.components.items i.connected.items i.mapped.items in
    name_there (λ n. bytes_eq n c.args.name.now) c.args.name.now (tells_name c.args.name.now) (names_of_components c.args.self.now) c.in-Some.place
    (sym c.in-Some.is ∙ c.component_place.ensures ∙ comp_place _ _ s _ _ c.as_slice.ensures.value c.self.view_is refl)

pub returns-in-Some-clause-known : goal.returns-in-Some-clause-known
returns-in-Some-clause-known c =
    let i = c.self.inside in
    let s = setup_of i.types.items i.components.items i.connected.items i.mapped.items in (
      λ _. name_known (λ n. bytes_eq n c.args.name.now) c.args.name.now (tells_name c.args.name.now) (names_of_components c.args.self.now) c.in-Some.place
          (sym c.in-Some.is ∙ c.component_place.ensures ∙ comp_place _ _ s _ _ c.as_slice.ensures.value c.self.view_is refl),
      λ _. refl,
    )

pub returns-in-None-clause-known : goal.returns-in-None-clause-known
returns-in-None-clause-known c =
    let i = c.self.inside in
    let s = setup_of i.types.items i.components.items i.connected.items i.mapped.items in (
      λ h. absurd (cc),
      λ h. absurd (name_unknown (λ n. bytes_eq n c.args.name.now) c.args.name.now (tells_name c.args.name.now)
          (names_of_components c.args.self.now) (sym c.in-None.is ∙ c.component_place.ensures ∙ comp_place _ _ s _ _ c.as_slice.ensures.value c.self.view_is refl) h),
    )
