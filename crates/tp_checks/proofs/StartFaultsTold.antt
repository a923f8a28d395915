-- A start that breaks a rule, and what is left after the last one.
use Rattle.std.proofs.Common.{All, Contains, List, Some, [], ap, arith, drop, get_or, length, map, refl, slice_get, subst, sym, take, ℕ, ◌+◌, ◌<◌, ◌∷◌, ◌≡◌, ◌≢◌}
use Rattle.std.proofs.{lemmas.List.length-map, lemmas.List.Elements.All-cons, lemmas.List.Elements.All-nil, lemmas.Option.slice_get_read}
use Rattle.std.proofs.lemmas.Slice.Zip.{AllZip-long}
use Rattle.std.specs.List.{AllZip}
use Rattle.tp_tree.specs.declared.tree.{ComponentName.ComponentName, ComponentStart.ComponentStart, Creation.Creation, Function.Function}
use Rattle.tp_tree.specs.declared.tree.{Parameter.Parameter, SetupStatement.SetupStatement}
use Rattle.tp_config.specs.declared.port_type.CompId.{CompId}
use Rattle.tp_checks.specs.declared.fault.ModuleFault.{ModuleFault}
use Rattle.tp_checks.specs.{Refused.Tells, Refused.TellsAt, Tables.IsNumbered, Tables.place_of_name}
use Rattle.tp_checks.specs.BrokenStarts.{ArgumentBreaks, ArgumentsBreak, IsNeverStarted, IsStartFunction, StartBreaks, StartBreaksAmong, one_argument}
use Rattle.tp_checks.specs.Components.{creation_of, creations, variable_name, variables}
use Rattle.tp_checks.specs.Starting.{HasParameterType, IsArgument, IsStartOf, IsStartPlace, started_names}
use Rattle.tp_checks.proofs.{NameSetLookups.named_at, NameSetLookups.place_known, NameSetLookups.place_unknown, NameFaultsTold.split_here}
use Rattle.tp_checks.proofs.{ListPrefixGrowth.contains_at, RuleFaultPropagation.told_at, RuleFaultPropagation.told_from}
use Rattle.tp_checks.specs.declared.starts.StartedComponent.{StartedComponent}
use Rattle.tp_checks.specs.BrokenStarts as b

-- one of the arguments breaks a rule after those before it
pub argument_among : (names types : List (List ℕ)) (ps : List Parameter) (xs : List ComponentName) (i : ℕ) (p : Parameter) (x : ComponentName)
    (made : List CompId) (at : ℕ) (f : ModuleFault) → length xs ≡ length ps → i < length xs → p ≡ get_or ps i p → x ≡ get_or xs i x
    → AllZip (IsArgument names) (take i xs) made → AllZip (HasParameterType types) (take i ps) made → TellsAt at (ArgumentBreaks names types p x) f
    → TellsAt at (ArgumentsBreak names types ps xs) f
argument_among names types ps xs i p x made at f same lt isp isx known fits told =
    told_at at (ArgumentBreaks names types p x) (ArgumentsBreak names types ps xs) f
    (λ rule b. one_argument i p x made rule same (slice_get_read ps (length ps) i p refl (omega (arith, lt, same)) isp) (slice_get_read xs (length xs) i x refl lt isx) known fits b) told

-- the function that was found is that of the start
pub start_function : (functions : List Function) (names : List (List ℕ)) (x : ComponentStart) (place : ℕ) (f : Function)
    → names ≡ map (λ (f : Function). f.name) functions → Some place ≡ place_of_name names x.function
    → slice_get functions place ≡ Some f → IsStartFunction functions x f
start_function functions names x place f named placed there = record {
  there = contains_at functions place f there;
  named = named_at names (λ (f : Function). f.name) functions x.function place f named placed there;
}

-- a start breaks a rule after those before it
pub start_among : (functions : List Function) (names types : List (List ℕ)) (xs : List ComponentStart) (i : ℕ) (x : ComponentStart)
    (started : List (List ℕ)) (made : List StartedComponent) (f : ModuleFault) → i < length xs → x ≡ get_or xs i x
    → AllZip (IsStartOf functions names types) (take i xs) made → started ≡ started_names (take i xs) → IsNumbered started
    → TellsAt x.line (StartBreaks functions names types started x) f → Tells (StartBreaksAmong functions names types xs) f
start_among functions names types xs i x started made f lt is each named once told =
    told_from x.line (StartBreaks functions names types started x) (StartBreaksAmong functions names types xs) f (λ rule b. record {
      before = take i xs;
      start = x;
      after = drop (i + 1) xs;
      split = split_here xs i x lt is;
      obey = record { made = made; each = each; once = subst IsNumbered named once };
      breaks = subst (λ l. StartBreaks functions names types l x rule) named b;
      line_is = refl;
    }) told

-- where each has a place, each is there
pub all_started : (started names : List (List ℕ)) (places : List ℕ) → AllZip (IsStartPlace started) names places → All (Contains started) names
all_started started [] places each = All-nil (Contains started)
all_started started (n ∷ names) [] each = absurd each
all_started started (n ∷ names) (k ∷ places) each =
    All-cons (Contains started) n names (place_known started n k (sym each.0)) (all_started started names places each.1)

-- a component that is never started
pub never_among : (started : List (List ℕ)) (xs : List SetupStatement) (i : ℕ) (x : SetupStatement) (c : Creation) (places : List ℕ) → i < length xs
    → x ≡ get_or xs i x → Some c ≡ creation_of x → AllZip (IsStartPlace started) (variables (take i xs)) places → (Contains started (variable_name c) → ⊥)
    → IsNeverStarted started xs x.line
never_among started xs i x c places lt is makes each never = record {
  before = take i xs;
  statement = x;
  after = drop (i + 1) xs;
  creation = c;
  split = split_here xs i x lt is;
  makes = sym makes;
  others = all_started started (variables (take i xs)) places each;
  never = never;
  line_is = refl;
}

-- where there is a place, there is a component
pub some_creations : (started : List (List ℕ)) (xs : List SetupStatement) (places : List ℕ) → AllZip (IsStartPlace started) (variables xs) places
    → 0 < length places → creations xs ≢ []
some_creations started xs places each some none =
    absurd (omega (
      arith,
      some,
      AllZip-long (IsStartPlace started) (variables xs) places each,
      length-map (creations xs) variable_name,
      ap length none,
    ))

pub ruleset starts = (b.unknown_argument, b.other_argument, b.count, argument_among, b.unknown_variable, b.started_twice, b.many_starts, never_among, b.never_started, place_unknown)
