-- Names that are different and few: parts of a list of them.
use Rattle.std.proofs.Common.{◌≡◌, ◌≢◌, ℕ, suc, ◌+◌, ◌<◌, ◌≤◌, List, [], ◌∷◌, ◌++◌, Option, None, Some, All, Contains, arith, length, take, drop, get_or, map, sym, ap, ◌∙◌, subst, refl, is_some, false, ◌||◌}
use Rattle.std.proofs.lemmas.List.{get_or_append_left, get_or-map, length-append, length-map, take-append-drop}
use Rattle.std.proofs.{lemmas.List.map-append, lemmas.List.Kept.AllPairs-cons, lemmas.Option.same_Some}
use Rattle.std.proofs.lemmas.List.{get_or_push, length_push}
use Rattle.std.proofs.lemmas.List.Elements.{All-cons, All-head, All-map, All-nil, All-tail, filter_map-append}
use Rattle.std.specs.{List.cons_option, List.list_any, List.AllZip, Option.option_to_list}
use Rattle.tp_tree.specs.declared.tree.{Definition.Definition, Defined.Defined, PortType.PortType, ComponentType.ComponentType}
use Rattle.tp_tree.specs.declared.tree.{Function.Function, TestCase.TestCase}
use Rattle.tp_tree.specs.declared.tree.Defined.TheVariants as defined
use Rattle.tp_checks.specs.{Tables.AreDistinct, Tables.IsNumbered, Resolved.IsNamedType}
use Rattle.tp_checks.specs.Definitions.{of_kind, case_of, component_type_of, function_of, name_of, port_type_of, type_of}
use Rattle.tp_value.specs.declared.types.TypeDef.{TypeDef}
use Rattle.tp_checks.proofs.{ModuleRefusalPropagation.mapped_behind, ListPrefixGrowth.kept_more}

pub distinct_first : (xs ys : List (List ℕ)) → AreDistinct (xs ++ ys) → AreDistinct xs
distinct_first xs ys each i j d less below same =
    each i j d less (omega (arith, length-append xs ys, below))
    (get_or_append_left xs ys d i (omega (arith, less, below)) ∙ same ∙ sym (get_or_append_left xs ys d j below))

pub numbered_first : (xs ys : List (List ℕ)) → IsNumbered (xs ++ ys) → IsNumbered xs
numbered_first xs ys h = record { few = omega (arith, length-append xs ys, h.few); distinct = distinct_first xs ys h.distinct }

distinct_tail : (x : List ℕ) (xs : List (List ℕ)) → AreDistinct (x ∷ xs) → AreDistinct xs
distinct_tail x xs each i j d less below = each (suc i) (suc j) d (omega (arith, less)) (omega (arith, below))

distinct_head : (x : List ℕ) (xs : List (List ℕ)) → AreDistinct (x ∷ xs) → All (λ y. x ≢ y) xs
distinct_head x xs each k d below = each 0 (suc k) d (omega arith) (omega (arith, below))

module _ {T : Type 0} (kind : Defined → Option T) where
  -- what holds of each definition holds of those of one kind
  pub all_among : (P : T → Type 0) (Q : Definition → Type 0) → ((x : Definition) (y : T) → kind x.defined ≡ Some y → Q x → P y) → (xs : List Definition)
      → All Q xs → All P (of_kind kind xs)
  all_among P Q pass [] each = All-nil P
  all_among P Q pass (x ∷ xs) each = by (kind x.defined) refl (all_among P Q pass xs (All-tail Q x xs each)) where
    by : (o : Option T) → kind x.defined ≡ o → All P (of_kind kind xs) → All P (cons_option o (of_kind kind xs))
    by None e rest = rest
    by (Some y) e rest = All-cons P y (of_kind kind xs) (pass x y e (All-head Q x xs each)) rest

  pub length_among : (xs : List Definition) → length (of_kind kind xs) ≤ length xs
  length_among [] = omega arith
  length_among (x ∷ xs) = by (kind x.defined) (length_among xs) where
    by : (o : Option T) → length (of_kind kind xs) ≤ length xs → length (cons_option o (of_kind kind xs)) ≤ length (x ∷ xs)
    by None rest = omega (arith, rest)
    by (Some y) rest = omega (arith, rest)

  pub length_among_take : (xs : List Definition) (i : ℕ) → length (of_kind kind (take i xs)) ≤ length (of_kind kind xs)
  length_among_take xs i =
      let all : of_kind kind xs ≡ of_kind kind (take i xs) ++ of_kind kind (drop i xs) =
      ap (of_kind kind) (sym (take-append-drop i xs)) ∙ filter_map-append (λ (x : Definition). kind x.defined) (take i xs) (drop i xs) in
      omega (arith, ap length all, length-append (of_kind kind (take i xs)) (of_kind kind (drop i xs)))

  module _ (name : T → List ℕ) (own : (x : Defined) (y : T) → kind x ≡ Some y → name y ≡ name_of x) where
    abbrev names : List Definition → List (List ℕ)
    names xs = map (λ (x : Definition). name_of x.defined) xs

    all_seen : (P : List ℕ → Type 0) (xs : List Definition) → All P (names xs) → All (λ (x : Definition). P (name_of x.defined)) xs
    all_seen P xs each k d below =
        subst P (get_or-map (λ (x : Definition). name_of x.defined) xs k d (name_of d.defined) below)
        (each k (name_of d.defined) (omega (arith, length-map xs (λ (x : Definition). name_of x.defined), below)))

    pub distinct_among : (xs : List Definition) → AreDistinct (names xs) → AreDistinct (map name (of_kind kind xs))
    distinct_among [] each = each
    distinct_among (x ∷ xs) each = by (kind x.defined) refl (distinct_among xs (distinct_tail (name_of x.defined) (names xs) each)) where
      by : (o : Option T) → kind x.defined ≡ o → AreDistinct (map name (of_kind kind xs)) → AreDistinct (map name (cons_option o (of_kind kind xs)))
      by None e rest = rest
      by (Some y) e rest =
          AllPairs-cons (λ a b. a ≢ b) (name y) (map name (of_kind kind xs))
          (All-map (λ b. name y ≢ b) name (of_kind kind xs)
          (all_among (λ z. name y ≢ name z) (λ (d : Definition). name_of x.defined ≢ name_of d.defined)
          (λ d z f apart same. apart (sym (own x.defined y e) ∙ same ∙ own d.defined z f)) xs
          (all_seen (λ b. name_of x.defined ≢ b) xs (distinct_head (name_of x.defined) (names xs) each))))
          rest

    -- the names of one kind are numbered where those of all definitions are
    pub numbered_among : (xs : List Definition) → IsNumbered (map (λ (x : Definition). name_of x.defined) xs) → IsNumbered (map name (of_kind kind xs))
    numbered_among xs h = record {
      few = omega (arith, h.few, length_among xs, length-map (of_kind kind xs) name, length-map xs (λ (x : Definition). name_of x.defined));
      distinct = distinct_among xs h.distinct;
    }

-- two test cases up to a definition are two in all
pub many_cases : (xs : List Definition) (i : ℕ) (x : Definition) (found : List TestCase) → i < length xs → x ≡ get_or xs i x
    → of_kind case_of (take i xs) ≡ found → 1 < length (found ++ option_to_list (case_of x.defined)) → length (of_kind case_of xs) ≤ 1 → ⊥
many_cases xs i x found lt is before many few =
    let next : of_kind case_of (take (i + 1) xs) ≡ found ++ option_to_list (case_of x.defined) =
    kept_more (λ (d : Definition). case_of d.defined) xs i x lt is ∙ ap (λ l. l ++ option_to_list (case_of x.defined)) before in
    omega (arith, ap length next, length_among_take case_of xs (i + 1), many, few)

-- where no definition is a test case, there is none
pub no_case : (xs : List Definition) → list_any (λ (x : Definition). is_some (case_of x.defined)) xs ≡ false → of_kind case_of xs ≡ []
no_case [] e = refl
no_case (x ∷ xs) e = by (case_of x.defined) refl (no_case xs) e where
  by : (o : Option TestCase) → o ≡ case_of x.defined → (list_any (λ (x : Definition). is_some (case_of x.defined)) xs ≡ false → of_kind case_of xs ≡ [])
      → (is_some o || list_any (λ (x : Definition). is_some (case_of x.defined)) xs) ≡ false → cons_option o (of_kind case_of xs) ≡ []
  by None f rest e = rest e
  by (Some c) f rest e = absurd (cc)

pub numbered_kind_first : {T : Type 0} (kind : Defined → Option T) (name : T → List ℕ) (xs : List Definition) (i : ℕ)
    → IsNumbered (map name (of_kind kind xs)) → IsNumbered (map name (of_kind kind (take i xs)))
numbered_kind_first kind name xs i h =
    let all : of_kind kind xs ≡ of_kind kind (take i xs) ++ of_kind kind (drop i xs) =
    ap (of_kind kind) (sym (take-append-drop i xs)) ∙ filter_map-append (λ (x : Definition). kind x.defined) (take i xs) (drop i xs) in
    numbered_first (map name (of_kind kind (take i xs))) (map name (of_kind kind (drop i xs)))
    (subst IsNumbered (ap (map name) all ∙ map-append name (of_kind kind (take i xs)) (of_kind kind (drop i xs))) h)

-- a definition of a kind has its own name
pub type_named : (x : Defined) (y : Defined) → type_of x ≡ Some y → name_of y ≡ name_of x
type_named (defined.Record r) y e = ap name_of (sym (same_Some (defined.Record r) y e))
type_named (defined.List l) y e = ap name_of (sym (same_Some (defined.List l) y e))
type_named _ y e = absurd (cc)

pub port_named : (x : Defined) (y : PortType) → port_type_of x ≡ Some y → y.name ≡ name_of x
port_named (defined.Port p) y e = ap (λ (z : PortType). z.name) (sym (same_Some p y e))
port_named _ y e = absurd (cc)

pub component_named : (x : Defined) (y : ComponentType) → component_type_of x ≡ Some y → y.name ≡ name_of x
component_named (defined.Component c) y e = ap (λ (z : ComponentType). z.name) (sym (same_Some c y e))
component_named _ y e = absurd (cc)

pub function_named : (x : Defined) (y : Function) → function_of x ≡ Some y → y.name ≡ name_of x
function_named (defined.Function f) y e = ap (λ (z : Function). z.name) (sym (same_Some f y e))
function_named _ y e = absurd (cc)

-- a name that is there can't be added
pub repeated : (xs : List (List ℕ)) (name : List ℕ) → Contains xs name → AreDistinct (xs ++ name ∷ []) → ⊥
repeated xs name (k, below, is) each =
    each k (length xs) name below (omega (arith, length_push xs name))
    (get_or_append_left xs (name ∷ []) name k below ∙ is ∙ sym (get_or_push xs name name (length xs) refl))

pub map_twice : {A B C : Type 0} (g : B → C) (f : A → B) (xs : List A) → map g (map f xs) ≡ map (λ x. g (f x)) xs
map_twice g f [] = refl
map_twice g f (x ∷ xs) = ap (λ l. g (f x) ∷ l) (map_twice g f xs)

-- the types that were made have the names of their definitions
type_names_of : (types : List (List ℕ)) (xs : List Defined) (made : List (List ℕ × TypeDef)) → AllZip (IsNamedType types) xs made
    → map (λ (t : List ℕ × TypeDef). t.0) made ≡ map name_of xs
type_names_of types [] [] each = refl
type_names_of types (x ∷ xs) (t ∷ made) each = rw (each.0.0, type_names_of types xs made each.1)
type_names_of _ _ _ each = absurd each

-- one more type has a new name, where all names are numbered
pub type_numbered : {A : Type 0} (types : List (List ℕ)) (f : A → Defined) (xs : List A) (made : List (List ℕ × TypeDef)) (i : ℕ) (x : A) → i < length xs
    → x ≡ get_or xs i x → AllZip (IsNamedType types) (map f (take i xs)) made → IsNumbered (map name_of (map f xs))
    → IsNumbered (map (λ (t : List ℕ × TypeDef). t.0) made ++ name_of (f x) ∷ [])
type_numbered types f xs made i x lt is each h =
    numbered_first (map (λ (t : List ℕ × TypeDef). t.0) made ++ name_of (f x) ∷ []) (map (λ y. name_of (f y)) (drop (i + 1) xs))
    (subst IsNumbered
    (map_twice name_of f xs
    ∙ mapped_behind (λ y. name_of (f y)) [] (map (λ (t : List ℕ × TypeDef). t.0) made) xs i x lt is
    (type_names_of types (map f (take i xs)) made each ∙ map_twice name_of f (take i xs))) h)
