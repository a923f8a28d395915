-- Bodies that are refused, or a size, are those of a module that doesn't obey the rules.
use Rattle.std.proofs.Common.{List, Option, inl, map, subst, sum, ◌≤◌, ◌≡◌, ◌<◌}
use Rattle.tp_checks.specs.Refused.{IsRefusedBy, Tells, TellsAt}
use Rattle.tp_play.specs.{Behaviours.size_of_behaviour, Instances.behaviour_of}
use Rattle.tp_play.specs.declared.instance.Instance.{Instance}
use Rattle.tp_checks.proofs.{ModuleRefusalPropagation.handed_on, ModuleFaultPropagation.handed, ModuleFaultPropagation.tells_memory}
use Rattle.tp_checks.proofs.RuleFaultPropagation.{broken_from}
use Rattle.tp_script.proofs.{SoundBodyScopes.sound_known, BrokenBodyExclusions.bodies_excluded}
use Rattle.tp_script.proofs.PreparedModulesKeepRules.{are_few, has_bodies, is_small}
use Rattle.tp_script.proofs.ModuleFaultsTold.{all_run, bodies_told, main_runs, size_told}
use Rattle.tp_checks.specs.declared.fault.ModuleRule.TheVariants as module_rule
use Rattle.tp_script.specs.{BrokenModules.BodiesBreak, BrokenModules.ModuleBreaks, Instances.known_in, TestCases.WellFormed}
use Rattle.tp_script.proofs.checking.resolve_behaviours.Goals as goal

pub returns-in_err-bodies-clause-refused : goal.returns-in_err-bodies-clause-refused
returns-in_err-bodies-clause-refused c = λ of rules.
    let m = c.args.parsed.now in
    let p = c.args.prepared.now in
    let own = rules.names.inner in
    let sound = sound_known m p of own in
    handed _ c.from_residual.result c.in_err-bodies.field-0.0 c.from_residual.ensures.1
    (broken_from (BodiesBreak (known_in p) p.case.case.now p.case.line m.definitions) (WellFormed m) c.in_err-bodies.field-0.0
    (λ rule line b whole. bodies_excluded (known_in p) sound p.case.case.now p.case.line m.definitions rule line b (has_bodies m p of rules whole))
    (c.in_err-bodies.ensures.told sound own (main_runs m p of rules) (all_run m p of rules)))

pub returns-in_err-instances-clause-refused : goal.returns-in_err-instances-clause-refused
returns-in_err-instances-clause-refused c = λ of rules.
    handed _ c.from_residual-in_err-instances.result c.in_err-instances.field-0.0 c.from_residual-in_err-instances.ensures.1
    (inl (c.in_err-instances.ensures.refused (are_few c.args.parsed.now c.args.prepared.now of rules)))

pub returns-in_err-check_size-clause-refused : goal.returns-in_err-check_size-clause-refused
returns-in_err-check_size-clause-refused c = λ of rules.
    let bodies = c.in_ok-bodies.bodies in
    let instances = c.in_ok-instances.instances.items in
    handed_on c.from_residual-in_err-check_size.result c.in_err-check_size.field-0.0 c.from_residual-in_err-check_size.ensures.1
    (subst (λ (l : List (Option Instance)). IsRefusedBy (sum (map size_of_behaviour (map (behaviour_of bodies) l)) ≤ 100000) c.in_err-check_size.field-0.0)
    c.deref.ensures.value c.in_err-check_size.ensures.refused)
    (is_small c.args.parsed.now c.args.prepared.now of rules bodies c.in_ok-bodies.ensures.main c.in_ok-bodies.ensures.functions instances
    c.in_ok-instances.ensures.instances c.in_ok-instances.ensures.count)

pub returns-in_err-bodies-clause-told : goal.returns-in_err-bodies-clause-told
returns-in_err-bodies-clause-told c = λ of rules.
    let m = c.args.parsed.now in
    let p = c.args.prepared.now in
    let own = rules.names.inner in
    handed (Tells (ModuleBreaks m)) c.from_residual.result c.in_err-bodies.field-0.0 c.from_residual.ensures.1
    (bodies_told m p of rules c.in_err-bodies.field-0.0
    (c.in_err-bodies.ensures.told (sound_known m p of own) own (main_runs m p of rules) (all_run m p of rules)))

pub returns-in_err-instances-clause-told : goal.returns-in_err-instances-clause-told
returns-in_err-instances-clause-told c = λ of rules.
    let m = c.args.parsed.now in
    handed (Tells (ModuleBreaks m)) c.from_residual-in_err-instances.result c.in_err-instances.field-0.0 c.from_residual-in_err-instances.ensures.1
    (tells_memory (ModuleBreaks m) c.in_err-instances.field-0.0
    (c.in_err-instances.ensures.refused (are_few m c.args.prepared.now of rules)))

pub returns-in_err-check_size-clause-told : goal.returns-in_err-check_size-clause-told
returns-in_err-check_size-clause-told c = λ of rules.
    let m = c.args.parsed.now in
    let p = c.args.prepared.now in
    let bodies = c.in_ok-bodies.bodies in
    let fault = c.in_err-check_size.field-0.0 in
    handed (Tells (ModuleBreaks m)) c.from_residual-in_err-check_size.result fault c.from_residual-in_err-check_size.ensures.1
    (size_told m p of rules bodies c.in_ok-bodies.ensures.main c.in_ok-bodies.ensures.functions c.in_ok-instances.instances.items
    c.in_ok-instances.ensures.instances c.in_ok-instances.ensures.count fault
    (subst (λ (l : List (Option Instance)). TellsAt p.case.line (λ rule. (rule ≡ module_rule.Limit)
    × (100000 < sum (map size_of_behaviour (map (behaviour_of bodies) l)))) fault) c.deref.ensures.value c.in_err-check_size.ensures.told))
