-- A component that can't be made.
use Rattle.std.proofs.Common.{◌≡◌, ◌⊎◌, inl, inr, ℕ, ◌+◌, ◌<◌, Option, Some, IfSome, is_some, List, [], ◌++◌, Contains, length, take, drop, get_or, map, codes, refl, sym, ap, ◌∙◌, subst, arith, append-nil}
use Rattle.std.proofs.lemmas.List.{length-append, length-map, length_push}
use Rattle.std.proofs.lemmas.List.Elements.{Contains-append_cases}
use Rattle.tp_tree.specs.declared.tree.{Creation.Creation, SetupStatement.SetupStatement, TestCase.TestCase}
use Rattle.tp_config.specs.declared.creating.CreateFault.{CreateFault}
use Rattle.tp_config.specs.declared.creating.CreateFault.TheVariants as create_fault
use Rattle.tp_config.specs.declared.port_type.Role.TheVariants as role
use Rattle.tp_config.specs.{Setup.Setup, Setup.Member, Setup.names_of_components, Shape.member, Causes.CreateRefused}
use Rattle.tp_checks.specs.declared.fault.{ModuleRule.ModuleRule, ModuleFault.ModuleFault}
use Rattle.tp_checks.specs.declared.fault.ModuleRule.TheVariants as module_rule
use Rattle.tp_checks.specs.declared.fault.ModuleFault.TheVariants as module_fault
use Rattle.tp_checks.specs.{Refused.TellsAt, BrokenNames.NameBreaks, BrokenNames.already_given, BrokenNames.crowded}
use Rattle.tp_checks.specs.Additions.{AdditionBreaks, AwaitsInterface, HasRoomForVariables, InterfaceBreaks, StopsCreating, addition_many, addition_taken, addition_unknown, interface_named}
use Rattle.tp_checks.specs.BrokenSetup.{CreationBreaks, component, taken}
use Rattle.tp_checks.specs.Components.{AddsAll, Declared, HasSoundVariables, IsSoundVariable, created, creation_of, creations, variable_name, variables}
use Rattle.tp_checks.proofs.{AddableComponents.names_created, DistinctNamesInParts.repeated, NameFaultsTold.split_here}
use Rattle.tp_checks.proofs.NameSetLookups.{place_unknown}
use Rattle.tp_checks.specs.BrokenSetup as b

-- a create that is refused
pub addition_told : (types : List (List ℕ)) (x : Declared) (s : Setup) (name : List ℕ) (kind : ℕ) (f : CreateFault) (fault : ModuleFault) (line : ℕ)
    → name ≡ x.name → CreateRefused s (member name kind x.role) f
    → (f ≡ create_fault.Duplicate → fault ≡ module_fault.Refused module_rule.Duplicate line)
    → (f ≡ create_fault.Limit → fault ≡ module_fault.Refused module_rule.Limit line)
    → (f ≡ create_fault.Memory → fault ≡ module_fault.Memory (record {})) → TellsAt line (AdditionBreaks types x s) fault
addition_told types x s name kind create_fault.Memory fault line named h duplicate limit memory = rw (memory refl) tt
addition_told types x s name kind create_fault.Duplicate fault line named (inl (e, inl there), _) duplicate limit memory =
    rw (duplicate refl) (refl, addition_taken (inl (subst (Contains (names_of_components s)) named there)))
addition_told types x s name kind create_fault.Duplicate fault line named (inl (e, inr there), _) duplicate limit memory =
    rw (duplicate refl) (refl, addition_taken (inr there))
addition_told types x s name kind create_fault.Duplicate fault line named (inr (n, inl (e, h)), _) duplicate limit memory = absurd (cc)
addition_told types x s name kind create_fault.Duplicate fault line named (inr (n, inr (m, h)), _) duplicate limit memory = absurd h
addition_told types x s name kind create_fault.Limit fault line named (inl (e, h), _) duplicate limit memory = absurd (cc)
addition_told types x s name kind create_fault.Limit fault line named (inr (n, inl (e, many)), _) duplicate limit memory =
    rw (limit refl) (refl, addition_many many)
addition_told types x s name kind create_fault.Limit fault line named (inr (n, inr (m, h)), _) duplicate limit memory = absurd h

module _ (types ports others names : List (List ℕ)) (most : ℕ) (c : Creation) where
  -- a variable that can't be added
  pub taken_told : length names < 4294967295 → (rule : ModuleRule) → NameBreaks names (variable_name c) rule → CreationBreaks types ports others names most c rule
  taken_told small rule (already_given h) = taken h
  taken_told small rule (crowded new many) = absurd (omega (arith, small, many))

  -- a component that can't be added, though its variable is sound
  pub component_told : (s : Setup) → HasRoomForVariables types others names most s → IsSoundVariable types ports names most c → (rule : ModuleRule)
      → AdditionBreaks types (created c) s rule → CreationBreaks types ports others names most c rule
  component_told s room sound rule (addition_unknown absent) = absurd (absent sound.known)
  component_told s room sound rule (addition_taken (inl there)) =
      by (Contains-append_cases others names (variable_name c) (subst (λ l. Contains l (variable_name c)) room.named there))
    where
      by : Contains others (variable_name c) ⊎ Contains names (variable_name c) → CreationBreaks types ports others names most c module_rule.Duplicate
      by (inl h) = component sound h
      by (inr h) = absurd (repeated names (variable_name c) h sound.numbered.distinct)
  component_told s room sound rule (addition_taken (inr (e, there))) = absurd (cc)
  component_told s room sound rule (addition_many many) =
      absurd (omega (
        arith,
        many,
        room.room,
        sound.few,
        length_push names (variable_name c),
        ap length room.named,
        length-append others names,
        length-map s.components (λ (m : Member). m.name),
      ))

-- the room that is left after the components of some statements
pub room_more : (types ports others names : List (List ℕ)) (most : ℕ) (before : List Creation) (start now : Setup) → names ≡ map variable_name before
    → HasSoundVariables types ports most before → AddsAll types (map created before) start now → HasRoomForVariables types others [] most start
    → HasRoomForVariables types others names most now
room_more types ports others names most before start now named sound added room = record {
  typed = room.typed ∙ ap length (sym added.types_stay);
  named = added.names_more ∙ ap (λ l. l ++ map (λ (x : Declared). x.name) (map created before)) (room.named ∙ append-nil others)
      ∙ ap (λ l. others ++ l) (names_created before ∙ sym named);
  few = omega (arith, sound.few, ap length named, length-map before variable_name);
  room = room.room;
}

-- the statement at which making the components stopped
pub stops_told : (types ports others names : List (List ℕ)) (most : ℕ) (xs : List SetupStatement) (i : ℕ) (x : SetupStatement) (c : Creation) (f : ModuleFault)
    → i < length xs → x ≡ get_or xs i x → Some c ≡ creation_of x → names ≡ variables (take i xs)
    → HasSoundVariables types ports most (creations (take i xs)) → TellsAt x.line (CreationBreaks types ports others names most c) f
    → StopsCreating types ports others most xs (take i xs) f
stops_told types ports others names most xs i x c f lt is makes named sound told = record {
  statement = x;
  creation = c;
  after = drop (i + 1) xs;
  split = split_here xs i x lt is;
  makes = sym makes;
  sound = sound;
  told = subst (λ l. TellsAt x.line (CreationBreaks types ports others l most c) f) named told;
}

-- a test system interface that can't be added
pub interface_told : (types : List (List ℕ)) (case : TestCase) (s : Setup) (name : List ℕ) → case.system ≡ Some name → AwaitsInterface types case s
    → (rule : ModuleRule) → AdditionBreaks types (record { name = codes "system"; type_name = name; role = role.System }) s rule
    → InterfaceBreaks case s rule
interface_told types case s name e w rule (addition_unknown absent) =
    absurd (absent (subst (λ (o : Option (List ℕ)). IfSome o (λ n. Contains types n)) e w.known))
interface_told types case s name e w rule (addition_taken (inl there)) = interface_named (ap is_some e) there
interface_told types case s name e w rule (addition_taken (inr (f, there))) = absurd (w.tests there)
interface_told types case s name e w rule (addition_many many) =
    let room = w.room (ap is_some e) in absurd (omega (arith, room, many))

pub ruleset creations_told = (b.taken, b.port, b.unknown_type, addition_told, addition_unknown, taken_told, component_told, interface_told, place_unknown)
