-- The first cause that holds refuses the mapping; where none does, all is still allowed.
use Rattle.std.proofs.Common.{refl, ap, sym, ◌∙◌, subst, find, map}
use Rattle.tp_config.specs.Setup.{IsPort}
use Rattle.tp_config.specs.Shape.{setup_of, links_of}
use Rattle.tp_config.specs.Allowed.{CanMap}
use Rattle.tp_config.specs.Causes.{MapRefused, map_order}
use Rattle.tp_config.specs.Tests.{map_test}
use Rattle.tp_config.proofs.AllowedMapOperations.{map_refused, can_map}
use Rattle.tp_config.proofs.InvariantsAfterNewPair.{after_map, port_in_row}
use Rattle.tp_config.proofs.ConfigurationsAsRead.{seen}
use Rattle.tp_config.proofs.config.Config.map.Goals as goal

pub returns-in-Some-clause-err : goal.returns-in-Some-clause-err
returns-in-Some-clause-err c =
    let i = c.self.inside in
    let s = setup_of i.types.items i.components.items i.connected.items i.mapped.items in (
      refl,
      subst (λ t. MapRefused t c.args.p c.args.q c.in-Some.fault) c.self.view_is
          (map_refused s (map links_of i.components.items) c.args.p c.args.q c.in-Some.fault c.self.invariant
          (sym c.in-Some.is ∙ c.map_fault.ensures ∙ seen (λ t m links. find (map_test t m links c.args.p c.args.q) map_order) _ _ _ _
          c.as_slice-types.ensures.value c.as_slice-components.ensures.value)),
    )

pub join_ports-requires-clause-p_in : goal.join_ports-requires-clause-p_in
join_ports-requires-clause-p_in c =
    let i = c.self.inside in
    let s = setup_of i.types.items i.components.items i.connected.items i.mapped.items in
    port_in_row s (map links_of i.components.items) c.args.p c.self.invariant (subst (λ t. IsPort t c.args.p) (sym c.self.view_is) c.requires.p_in)

pub join_ports-requires-clause-q_in : goal.join_ports-requires-clause-q_in
join_ports-requires-clause-q_in c =
    let i = c.self.inside in
    let s = setup_of i.types.items i.components.items i.connected.items i.mapped.items in
    port_in_row s (map links_of i.components.items) c.args.q c.self.invariant (subst (λ t. IsPort t c.args.q) (sym c.self.view_is) c.requires.q_in)

pub returns-in_default-join_ports-clause-err : goal.returns-in_default-join_ports-clause-err
returns-in_default-join_ports-clause-err c =
    let i = c.self.inside in
    let s = setup_of i.types.items i.components.items i.connected.items i.mapped.items in (
      ap (λ l. setup_of i.types.items l i.connected.items c.join_ports.new.pairs.items) c.in_default-join_ports.ensures.no_link
          ∙ ap (λ l. setup_of i.types.items i.components.items i.connected.items l) c.in_default-join_ports.ensures.no_pair ∙ c.self.view_is,
      subst (λ t. CanMap t c.args.p c.args.q) c.self.view_is (can_map s (map links_of i.components.items) c.args.p c.args.q c.self.invariant
          (sym c.in_default.is ∙ c.map_fault.ensures
          ∙ seen (λ t m links. find (map_test t m links c.args.p c.args.q) map_order) _ _ _ _ c.as_slice-types.ensures.value
          c.as_slice-components.ensures.value)),
    )

pub invariant_of-self-2 : goal.invariant_of-self-2
invariant_of-self-2 c =
    let i = c.self.inside in
    (after_map (setup_of i.types.items i.components.items i.connected.items i.mapped.items) _
    (map links_of i.components.items) _ _ _ c.args.p c.args.q c.map_fault.result c.self.view_is c.self.invariant c.requires.p_in c.requires.q_in
    c.in_default.is (c.map_fault.ensures ∙ seen (λ t m links. find (map_test t m links c.args.p c.args.q) map_order) _ _ _ _
    c.as_slice-types.ensures.value c.as_slice-components.ensures.value) c.in-Ok.ensures.members c.in-Ok.ensures.pairs c.in-Ok.ensures.links).0

pub returns-clause-ok : goal.returns-clause-ok
returns-clause-ok c =
    let i = c.self.inside in
    (after_map (setup_of i.types.items i.components.items i.connected.items i.mapped.items) _
    (map links_of i.components.items) _ _ _ c.args.p c.args.q c.map_fault.result c.self.view_is c.self.invariant c.requires.p_in c.requires.q_in
    c.in_default.is (c.map_fault.ensures ∙ seen (λ t m links. find (map_test t m links c.args.p c.args.q) map_order) _ _ _ _
    c.as_slice-types.ensures.value c.as_slice-components.ensures.value) c.in-Ok.ensures.members c.in-Ok.ensures.pairs c.in-Ok.ensures.links).1

pub returns-clause-lawful : goal.returns-clause-lawful
returns-clause-lawful c = (invariant_of-self-2 c).setup
