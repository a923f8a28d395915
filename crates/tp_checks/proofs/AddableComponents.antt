-- What can be added to a configuration, and what the rules on component variables say of each.
use Rattle.std.proofs.Common.{◌≡◌, ◌≤◌, ℕ, ◌+◌, inl, inr, Option, Some, option_map, codes, List, [], ◌∷◌, ◌++◌, All, Contains, length, map, refl, sym, ap, ◌∙◌, subst, arith, append_assoc}
use Rattle.std.proofs.lemmas.List.{get_or_at, length-append, length-map, map-append}
use Rattle.std.specs.Option.{option_to_list}
use Rattle.tp_tree.specs.declared.tree.{TestCase.TestCase, Creation.Creation}
use Rattle.tp_config.specs.declared.port_type.Role.TheVariants as role
use Rattle.tp_checks.specs.declared.fault.ModuleFault.{ModuleFault}
use Rattle.tp_config.specs.declared.creating.CreateFault.{CreateFault}
use Rattle.tp_config.specs.declared.creating.CreateFault.TheVariants as create_fault
use Rattle.tp_config.specs.{Setup.Setup, Setup.Member, Setup.names_of_components, Shape.member, Faults.create_refusal}
use Rattle.tp_config.specs.Causes.{CanCreate, CreateRefused, IsTaken}
use Rattle.tp_checks.specs.{Refused.IsRefusedBy, Tables.AreDistinct, Told.fault_refusal}
use Rattle.tp_checks.specs.Components.{AddsAll, CanAdd, CanAddAll, Declared, HasSoundVariables, IsSoundVariable, created, interface, variable_name}
use Rattle.tp_checks.proofs.{MemoryRefusals.told_memory, DistinctNamesInParts.distinct_first, UniqueZipsAndPlaces.not_before}

-- a component that can be added can be created
can_create : (types : List (List ℕ)) (x : Declared) (s : Setup) (kind : ℕ) → CanAdd types x s → CanCreate s (member x.name kind x.role)
can_create types x s kind can = (free, can.room) where
  free : IsTaken s (member x.name kind x.role) → ⊥
  free (inl there) = can.new_name there
  free (inr (system, there)) = can.one_interface system there

fault_broken : (s : Setup) (m : Member) (f : CreateFault) (fault : ModuleFault) → CreateRefused s m f → fault_refusal fault ≡ create_refusal f
    → IsRefusedBy (CanCreate s m) fault
fault_broken s m create_fault.Duplicate fault h e = inr h.1
fault_broken s m create_fault.Limit fault h e = inr h.1
fault_broken s m create_fault.Memory fault h e = inl (told_memory fault e)

-- a create that is refused
pub create_broken : (types : List (List ℕ)) (x : Declared) (s : Setup) (name : List ℕ) (kind : ℕ) (f : CreateFault) (fault : ModuleFault)
    → name ≡ x.name → CreateRefused s (member name kind x.role) f → fault_refusal fault ≡ create_refusal f → IsRefusedBy (CanAdd types x s) fault
create_broken types x s name kind f fault named h e =
    by (fault_broken s (member name kind x.role) f fault h e)
  where
    by : IsRefusedBy (CanCreate s (member name kind x.role)) fault → IsRefusedBy (CanAdd types x s) fault
    by (inl want) = inl want
    by (inr broken) = inr (λ can. broken (subst (λ n. CanCreate s (member n kind x.role)) (sym named) (can_create types x s kind can)))

-- the test system interface, where there is a `system` clause
pub interface_is : (case : TestCase) (s : List ℕ) → case.system ≡ Some s
    → interface case ≡ record { name = codes "system"; type_name = s; role = role.System } ∷ []
interface_is case s e = ap (λ (o : Option (List ℕ)). option_to_list (option_map
    (λ s. record { name = codes "system"; type_name = s; role = role.System }) o)) e

pub only_one : {A : Type 0} (P : A → Type 0) (xs : List A) (x : A) → xs ≡ x ∷ [] → All P xs → P x
only_one P xs x e each = (subst (All P) e each) 0 x (omega arith)

pub all_middle : {A : Type 0} (P : A → Type 0) (xs ys : List A) (x : A) → All P (xs ++ x ∷ ys) → P x
all_middle P xs ys x each = subst P (get_or_at xs x ys x (length xs) refl) (each (length xs) x (omega (arith, length-append xs (x ∷ ys))))

module _ (types ports : List (List ℕ)) (most : ℕ) (before more : List Creation) (c : Creation) where
  variables_split : (names : List (List ℕ)) → names ≡ map variable_name before
      → map variable_name (before ++ c ∷ more) ≡ (names ++ variable_name c ∷ []) ++ map variable_name more
  variables_split names named =
      map-append variable_name before (c ∷ more) ∙ ap (λ l. l ++ variable_name c ∷ map variable_name more) (sym named)
      ∙ sym (append_assoc names (variable_name c ∷ []) (map variable_name more))

  -- each variable is sound after those before it
  pub sound_one : (names : List (List ℕ)) → names ≡ map variable_name before → length (before ++ c ∷ more) ≤ 64
      → HasSoundVariables types ports most (before ++ c ∷ more) → IsSoundVariable types ports names most c
  sound_one names named small sound =
      let split = variables_split names named in
      let count : length (before ++ c ∷ more) ≡ length (names ++ variable_name c ∷ []) + length more =
      omega (
        arith,
        length-map (before ++ c ∷ more) variable_name,
        ap length split,
        length-append (names ++ variable_name c ∷ []) (map variable_name more),
        length-map more variable_name,
      ) in
      record {
        numbered = record {
          few = omega (arith, count, small);
          distinct = distinct_first (names ++ variable_name c ∷ []) (map variable_name more) (subst AreDistinct split sound.distinct);
        };
        no_port = all_middle (λ (c : Creation). Contains ports (variable_name c) → ⊥) before more c sound.no_port;
        known = all_middle (λ (c : Creation). Contains types c.type_name) before more c sound.known;
        same = all_middle (λ (c : Creation). c.type_name ≡ c.created) before more c sound.same;
        few = omega (arith, count, sound.few);
      }

pub names_created : (xs : List Creation) → map (λ (x : Declared). x.name) (map created xs) ≡ map variable_name xs
names_created [] = refl
names_created (c ∷ xs) = ap (λ l. variable_name c ∷ l) (names_created xs)

-- where all can be added, each can after those before it
pub can_one : (types : List (List ℕ)) (before more : List Creation) (c : Creation) (old now : Setup) → Contains types c.type_name
    → CanAddAll types (map variable_name (before ++ c ∷ more)) old → AddsAll types (map created before) old now → CanAdd types (created c) now
can_one types before more c old now known can added =
    let here : names_of_components now ≡ names_of_components old ++ map variable_name before = added.names_more ∙ ap (λ l. names_of_components old ++ l) (names_created before) in
    let split : names_of_components old ++ map variable_name (before ++ c ∷ more) ≡ names_of_components now ++ variable_name c ∷ map variable_name more =
    ap (λ l. names_of_components old ++ l) (map-append variable_name before (c ∷ more))
    ∙ sym (append_assoc (names_of_components old) (map variable_name before) (variable_name c ∷ map variable_name more))
    ∙ ap (λ l. l ++ variable_name c ∷ map variable_name more) (sym here) in
    record {
      typed = can.typed ∙ ap length (sym added.types_stay);
      known = known;
      new_name = not_before (names_of_components now) (map variable_name more) (variable_name c) (subst AreDistinct split can.distinct);
      one_interface = λ e. absurd (cc);
      room = omega (
        arith,
        can.room,
        ap length here,
        length-append (names_of_components old) (map variable_name before),
        length-map before variable_name,
        length-map now.components (λ (m : Member). m.name),
        length-map old.components (λ (m : Member). m.name),
        length-map (before ++ c ∷ more) variable_name,
        length-append before (c ∷ more),
      );
    }

-- where all obey the rules and can be added, so it is with each
pub create_part : (types ports names : List (List ℕ)) (most : ℕ) (before more all : List Creation) (c : Creation) (old now : Setup)
    → all ≡ before ++ c ∷ more → names ≡ map variable_name before → AddsAll types (map created before) old now
    → HasSoundVariables types ports most all × CanAddAll types (map variable_name all) old
    → IsSoundVariable types ports names most c × CanAdd types (created c) now
create_part types ports names most before more all c old now split named added r =
    let sound : HasSoundVariables types ports most (before ++ c ∷ more) = subst (HasSoundVariables types ports most) split r.0 in
    let can : CanAddAll types (map variable_name (before ++ c ∷ more)) old = subst (λ l. CanAddAll types (map variable_name l) old) split r.1 in (
      sound_one types ports most before more c names named (omega (arith, can.room, length-map (before ++ c ∷ more) variable_name)) sound,
      can_one types before more c old now (all_middle (λ (c : Creation). Contains types c.type_name) before more c sound.known) can added,
    )
