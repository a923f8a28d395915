-- A statement that makes no component leaves all as it is, and the next `var` adds a sound one.
use Rattle.std.proofs.Common.{◌+◌, ◌++◌, ◌∷◌, [], ◌∙◌, ap, arith, drop, map, subst, sym, take}
use Rattle.std.proofs.lemmas.List.{map_push, take-append-drop}
use Rattle.tp_checks.proofs.{AddableComponents.create_part, StartLookups.creation_among, ModuleRefusalPropagation.breaks_part}
use Rattle.tp_checks.proofs.CreatedComponentGrowth.{adds_more, no_creation, one_creation, sound_more}
use Rattle.tp_checks.proofs.CreationFaultsTold.{room_more, stops_told}
use Rattle.tp_checks.specs.Components.{AddsAll, created, creations, variable_name}
use Rattle.tp_checks.proofs.components.create_components.Goals as goal

pub loop-i-preserved-in_default : goal.loop-i-preserved-in_default
loop-i-preserved-in_default c =
    rw (no_creation c.args.setups.now c.loop-i.i c.index-setups-i.result (omega arith) c.index-setups-i.is c.in_default.ensures) c.loop-i.invariant

pub loop-i-preserved : goal.loop-i-preserved
loop-i-preserved c =
    let before = creations (take c.loop-i.i c.args.setups.now) in
    let one = c.in-Some.creation.now in
    rw (one_creation c.args.setups.now c.loop-i.i c.index-setups-i.result (omega arith) c.index-setups-i.is one c.in-Some.ensures)
    (record {
      names = c.in_default-create.ensures.added ∙ ap (λ l. l ++ variable_name one ∷ []) c.loop-i.invariant.names ∙ sym (map_push variable_name before one);
      numbered = c.in_default-create.ensures.numbered;
      sound = sound_more c.args.rules.now.type_names.now c.args.rules.now.port_names.now c.loop-i.variables c.create.new.variables c.args.rules.now.most before one
          c.loop-i.invariant.sound c.loop-i.invariant.names c.in_default-create.ensures.added
          c.in_default-create.ensures.numbered.distinct c.in_default-create.ensures.no_port c.in_default-create.ensures.known c.in_default-create.ensures.same
          c.in_default-create.ensures.few;
      added = subst (λ l. AddsAll c.args.rules.now.type_names.now l c.args.config.now c.create.new.config) (sym (map_push created before one))
          (adds_more c.args.rules.now.type_names.now (map created before) (created one) c.args.config.now c.loop-i.config c.create.new.config
          c.loop-i.invariant.added c.in_default-create.ensures.component);
    })

pub returns-in-Err-clause-stopped : goal.returns-in-Err-clause-stopped
returns-in-Err-clause-stopped c = record {
  rest = drop c.loop-i.i c.args.setups.now;
  all = sym (take-append-drop c.loop-i.i c.args.setups.now);
  added = subst (λ s. AddsAll c.args.rules.now.type_names.now (map created (creations (take c.loop-i.i c.args.setups.now))) c.args.config.now s)
      (sym c.in-Err.ensures.err) c.loop-i.invariant.added;
}

pub returns-in-Err-clause-refused : goal.returns-in-Err-clause-refused
returns-in-Err-clause-refused c =
    let xs = c.args.setups.now in
    let i = c.loop-i.i in
    breaks_part _ _ c.in-Err.fault
    (create_part c.args.rules.now.type_names.now c.args.rules.now.port_names.now c.loop-i.variables c.args.rules.now.most (creations (take i xs))
    (creations (drop (i + 1) xs)) (creations xs) c.in-Some.creation.now c.args.config.now c.loop-i.config
    (creation_among xs i c.index-setups-i.result (omega arith) c.index-setups-i.is c.in-Some.creation.now c.in-Some.ensures) c.loop-i.invariant.names
    c.loop-i.invariant.added) c.in-Err.ensures.refused

pub returns-in-Err-clause-told : goal.returns-in-Err-clause-told
returns-in-Err-clause-told c = λ others room.
    let rules = c.args.rules.now in
    let xs = c.args.setups.now in
    let before = c.loop-i.invariant in
    stops_told rules.type_names.now rules.port_names.now others c.loop-i.variables rules.most xs c.loop-i.i c.index-setups-i.result c.in-Some.creation.now
    c.in-Err.fault (omega arith) c.index-setups-i.is c.in-Some.ensures before.names before.sound
    (c.in-Err.ensures.told others
    (room_more rules.type_names.now rules.port_names.now others c.loop-i.variables rules.most (creations (take c.loop-i.i xs)) c.args.config.now c.loop-i.config
    before.names before.sound before.added room))
