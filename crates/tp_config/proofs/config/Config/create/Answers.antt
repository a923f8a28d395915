-- The first cause that holds refuses the component; where none does, all is still allowed.
use Rattle.std.proofs.Common.{◌∙◌, ap, map, refl, string_bytes, sym}
use Rattle.tp_config.specs.Shape.{links_of, member, setup_of}
use Rattle.tp_config.proofs.InvariantsAfterNewComponent.{after_create, can_create, create_refused}
use Rattle.tp_config.proofs.FieldsWithNewComponent.{count_is, kind_below, links_made, members_made, same_lengths, tested, tested_now}
use Rattle.tp_config.proofs.config.Config.create.Goals as goal

pub returns-in-Some-clause-err : goal.returns-in-Some-clause-err
returns-in-Some-clause-err c = (
  refl,
  create_refused c.args.self.now (member (string_bytes c.args.name) c.args.kind c.args.role) _
      (sym c.in-Some.is ∙ c.create_fault.ensures
      ∙ tested_now c.self.inside.types.items _ _ _ _ _ c.args.role c.self.inside.connected.items c.self.inside.mapped.items c.as_slice.ensures.value
      c.as_str.ensures.value c.self.view_is),
)

pub returns-in_default-new-clause-err : goal.returns-in_default-new-clause-err
returns-in_default-new-clause-err c = (
  refl,
  can_create c.args.self.now (member (string_bytes c.args.name) c.args.kind c.args.role)
      (sym c.in_default.is ∙ c.create_fault.ensures
      ∙ tested_now c.self.inside.types.items _ _ _ _ _ c.args.role c.self.inside.connected.items c.self.inside.mapped.items c.as_slice.ensures.value
      c.as_str.ensures.value c.self.view_is),
)

pub returns-in_default-push-clause-err : goal.returns-in_default-push-clause-err
returns-in_default-push-clause-err c =
    let i = c.self.inside in (
      ap (λ l. setup_of i.types.items l i.connected.items i.mapped.items) c.in_default-push.ensures.items ∙ c.self.view_is,
      can_create c.args.self.now (member (string_bytes c.args.name) c.args.kind c.args.role)
          (sym c.in_default.is ∙ c.create_fault.ensures
          ∙ tested_now c.self.inside.types.items _ _ _ _ _ c.args.role c.self.inside.connected.items c.self.inside.mapped.items c.as_slice.ensures.value
          c.as_str.ensures.value c.self.view_is),
    )

pub invariant_of-self-2 : goal.invariant_of-self-2
invariant_of-self-2 c =
    let i = c.self.inside in
    (after_create (setup_of i.types.items i.components.items i.connected.items i.mapped.items) _ (map links_of i.components.items) _ _
    (member (string_bytes c.args.name) c.args.kind c.args.role) c.len-count.result c.self.view_is c.self.invariant
    (same_lengths i.components.items) c.requires (count_is i.types.items c.args.kind c.index.result.now c.len-count.result
    (kind_below (setup_of i.types.items i.components.items i.connected.items i.mapped.items) _ i.types.items _ c.requires c.self.view_is refl)
    c.index.ensures c.len-count.ensures.len) (sym c.in_default.is ∙ c.create_fault.ensures
    ∙ tested _ _ _ _ c.args.role c.as_slice.ensures.value c.as_str.ensures.value) (members_made _ _ _ c.in-Ok-push.ensures.items)
    (links_made _ _ _ c.len-count.result c.in-Ok-push.ensures.items c.in-Ok.ensures)).0

pub returns-clause-ok : goal.returns-clause-ok
returns-clause-ok c =
    let i = c.self.inside in
    (after_create (setup_of i.types.items i.components.items i.connected.items i.mapped.items) _ (map links_of i.components.items) _ _
    (member (string_bytes c.args.name) c.args.kind c.args.role) c.len-count.result c.self.view_is c.self.invariant
    (same_lengths i.components.items) c.requires (count_is i.types.items c.args.kind c.index.result.now c.len-count.result
    (kind_below (setup_of i.types.items i.components.items i.connected.items i.mapped.items) _ i.types.items _ c.requires c.self.view_is refl)
    c.index.ensures c.len-count.ensures.len) (sym c.in_default.is ∙ c.create_fault.ensures
    ∙ tested _ _ _ _ c.args.role c.as_slice.ensures.value c.as_str.ensures.value) (members_made _ _ _ c.in-Ok-push.ensures.items)
    (links_made _ _ _ c.len-count.result c.in-Ok-push.ensures.items c.in-Ok.ensures)).1

pub returns-clause-lawful : goal.returns-clause-lawful
returns-clause-lawful c = (invariant_of-self-2 c).setup
