-- The next component type has its ports, of which there are at most 64.
use Rattle.std.proofs.{Common.◌≤◌, Common.All, Common.arith, Common.length, lemmas.List.Elements.All-push}
use Rattle.tp_checks.specs.{Resolved.IsComponentType, Sorted.port_types_in, Sorted.component_types_in, Rules.IsSoundComponent}
use Rattle.tp_checks.proofs.{ModuleRefusalPropagation.all_at_map, ModuleRefusalPropagation.handed_on, ListPrefixGrowth.zip_map_more}
use Rattle.tp_checks.proofs.ports.make_components.Goals as goal

pub loop-component-preserved : goal.loop-component-preserved
loop-component-preserved c =
    rw c.in_ok-push.ensures.items
    (record {
      components = zip_map_more (IsComponentType c.args.sorted.now.type_names (port_types_in c.args.sorted.now)) (λ x. x.now) c.deref-component-items.result.now
          c.loop-component.components.items c.loop-component.component-index
          c.component-item.result c.in_ok-one.one (omega arith) c.component-item.is c.loop-component.invariant.components c.in_ok-one.ensures.ports;
      few = All-push (λ t. length t.ports.entries ≤ 64) c.loop-component.components.items c.in_ok-one.one c.loop-component.invariant.few
          c.in_ok-one.ensures.few;
    })

pub returns-in_err-one-clause-refused : goal.returns-in_err-one-clause-refused
returns-in_err-one-clause-refused c =
    handed_on c.from_residual.result _ c.from_residual.ensures.1 c.in_err-one.ensures.refused
    (λ (h : All (IsSoundComponent c.args.sorted.now.port_names) (component_types_in c.args.sorted.now)).
    all_at_map (IsSoundComponent c.args.sorted.now.port_names) (λ x. x.now) c.deref-component-items.result.now c.loop-component.component-index
    c.component-item.result (omega arith) c.component-item.is
    (rw c.deref-component-items.ensures.value h))
