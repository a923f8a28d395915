-- A configuration with one more component keeps what holds of every configuration.
use Rattle.std.proofs.Common.{◌≡◌, ◌≢◌, ℕ, zero, suc, ◌<◌, ◌≤◌, inl, inr, true, Some, None, List, [], ◌∷◌, ◌++◌, length, get_or, map, replicate, refl, ap, sym, ◌∙◌, subst, arith, length-append}
use Rattle.std.specs.Prelude.{All, Contains, find, slice_get}
use Rattle.std.specs.List.{AllByRecursion}
use Rattle.std.specs.Option.{option_map_or}
use Rattle.std.proofs.lemmas.Bool.{cases_eq, cases_lt}
use Rattle.std.proofs.lemmas.List.{get_or_past, get_or-map, length-map, length-replicate}
use Rattle.std.proofs.lemmas.List.Elements.{All-map, All-push, Contains-get_or}
use Rattle.std.proofs.lemmas.List.Quantifiers.{all_pairs_push}
use Rattle.tp_config.specs.declared.port_type.CompId.{CompId}
use Rattle.tp_config.specs.declared.port_type.PortRef.{PortRef}
use Rattle.tp_config.specs.declared.port_type.CompType.{CompType}
use Rattle.tp_config.specs.declared.creating.CreateFault.{CreateFault}
use Rattle.tp_config.specs.declared.creating.CreateFault.TheVariants as trouble
use Rattle.tp_config.specs.Setup.{Setup, PortDecl, Member, creating, empty_setup, is_system_member, names_of_components, ports_at}
use Rattle.tp_config.specs.Shape.{ports_of}
use Rattle.tp_config.specs.Causes.{CanCreate, CreateCause, CreateRefused, IsFirstCause, IsTaken, create_order}
use Rattle.tp_config.specs.Tests.{create_test}
use Rattle.tp_config.specs.Routes.{beside}
use Rattle.tp_config.specs.Links.{row, links_at}
use Rattle.tp_config.specs.Kept.{KeepsPairs}
use Rattle.tp_config.proofs.PortLookupByFields.{length_ports}
use Rattle.tp_config.proofs.FirstCauseByTests.{first_from_find, none_from_find}
use Rattle.tp_config.proofs.CreateTestsDecideCauses.{create_decides}
use Rattle.tp_config.proofs.AllowedWithNewComponent.{create_allowed, ports_before, ports_kept, ports_past}

pub keeps_empty : (types : List CompType) → All (λ t. length t.ports.entries ≤ 64) types → KeepsPairs (empty_setup (map ports_of types)) []
unfolding ports_at beside
keeps_empty types few =
    record {
      setup = record {
        allowed = record {
          may_connect = λ k d n. absurd (omega arith);
          one_of_each = λ p q r h. absurd (omega (arith, h.1));
          may_map = λ k d n. absurd (omega arith);
          one_mapping = λ p. omega arith;
          apart = λ p q r h. absurd (omega (arith, h.1));
        };
        connected_ports = λ k d n. absurd (omega arith);
        mapped_ports = λ k d n. absurd (omega arith);
        once = λ p i j d below n. absurd (omega arith);
        few_ports = All-map (λ ports. length ports ≤ 64) ports_of types (λ k d n. omega (arith, few k d n, length_ports (get_or types k d)));
        few_components = omega arith;
        kinds = λ k d n. absurd (omega arith);
        names_differ = λ i j d n m. absurd (omega arith);
        one_system = λ i j d n m. absurd (omega arith);
      };
      shape = λ c. refl;
      kept = λ p. refl;
    }

refused_at : (s : Setup) (m : Member) (f : CreateFault) → IsFirstCause (CreateCause s m) create_order f → CreateRefused s m f
refused_at s m trouble.Duplicate h = (h, λ can. can.0 (taken h))
  where
    taken : IsFirstCause (CreateCause s m) create_order trouble.Duplicate → IsTaken s m
    taken (inl w) = w.1
    taken (inr w) = elim w.1 [ inl v ↦ absurd (let e : trouble.Duplicate ≡ trouble.Limit = v.0 in cc) | inr v ↦ absurd v.1 ]
refused_at s m trouble.Limit h = (h, λ can. full h can)
  where
    full : IsFirstCause (CreateCause s m) create_order trouble.Limit → CanCreate s m → ⊥
    full (inl w) can = absurd (let e : trouble.Limit ≡ trouble.Duplicate = w.0 in cc)
    full (inr w) can = elim w.1 [ inl v ↦ omega (arith, v.1, can.1) | inr v ↦ absurd v.1 ]
refused_at s m trouble.Memory h =
    absurd (elim h [
      | inl w ↦ let e : trouble.Memory ≡ trouble.Duplicate = w.0 in absurd (cc)
      | inr w ↦ elim w.1 [ inl v ↦ let e : trouble.Memory ≡ trouble.Limit = v.0 in absurd (cc) | inr v ↦ absurd v.1 ]
    ])

pub create_refused : (s : Setup) (m : Member) (f : CreateFault) → Some f ≡ find (create_test s.components m.name m.role) create_order → CreateRefused s m f
create_refused s m f h =
    refused_at s m f (first_from_find (create_test s.components m.name m.role) (CreateCause s m) (create_decides s m) create_order f (sym h))

pub can_create : (s : Setup) (m : Member) → None ≡ find (create_test s.components m.name m.role) create_order → CanCreate s m
can_create s m h =
    let none : AllByRecursion (λ f. ¬ CreateCause s m f) create_order =
    none_from_find (create_test s.components m.name m.role) (CreateCause s m) (create_decides s m) create_order (sym h) in
    (none.0, elim (cases_lt (length s.components) 64) [ inl below ↦ below | inr full ↦ absurd (none.1.0 full) ])

-- an element of a list with one more
get_or_before : {X : Type 0} (xs ys : List X) (k : ℕ) (d : X) → k < length xs → get_or (xs ++ ys) k d ≡ get_or xs k d
get_or_before [] ys k d n = absurd (omega (arith, n))
get_or_before (x ∷ xs) ys zero d n = refl
get_or_before (x ∷ xs) ys (suc k) d n = get_or_before xs ys k d (omega (arith, n))

get_or_last : {X : Type 0} (xs : List X) (x d : X) → get_or (xs ++ x ∷ []) (length xs) d ≡ x
get_or_last [] x d = refl
get_or_last (y ∷ xs) x d = get_or_last xs x d

slice_get_last : {X : Type 0} (xs : List X) (x : X) → slice_get (xs ++ x ∷ []) (length xs) ≡ Some x
slice_get_last [] x = refl
slice_get_last (y ∷ xs) x = slice_get_last xs x

all_same : {X : Type 0} (n k : ℕ) (d : X) → get_or (replicate n d) k d ≡ d
all_same zero k d = refl
all_same (suc n) zero d = refl
all_same (suc n) (suc k) d = all_same n k d

ports_last : (t : List (List PortDecl)) (ms : List Member) (m : Member) (c : CompId) → c.0 ≡ length ms → ports_at t (ms ++ m ∷ []) c ≡ get_or t m.kind []
unfolding ports_at
ports_last t ms m c e =
    ap (λ k. option_map_or (λ (x : Member). get_or t x.kind []) (slice_get (ms ++ m ∷ []) k) []) e
    ∙ ap (λ o. option_map_or (λ (x : Member). get_or t x.kind []) o []) (slice_get_last ms m)

module _ (s : Setup) (links : List (List (List PortRef))) (m : Member) (n : ℕ) (k : KeepsPairs s links) (same : length links ≡ length s.components) where
  row_past : (c : CompId) → length links ≤ c.0 → row links c ≡ []
  row_past c past = get_or_past links c.0 [] past

  row_before : (c : CompId) → c.0 < length links → row (links ++ replicate n [] ∷ []) c ≡ row links c
  row_before c below = get_or_before links (replicate n [] ∷ []) c.0 [] below

  row_last : (c : CompId) → c.0 ≡ length links → row (links ++ replicate n [] ∷ []) c ≡ replicate n []
  row_last c e = ap (λ i. get_or (links ++ replicate n [] ∷ []) i []) e ∙ get_or_last links (replicate n []) []

  row_behind : (c : CompId) → length links < c.0 → row (links ++ replicate n [] ∷ []) c ≡ []
  row_behind c past = get_or_past (links ++ replicate n [] ∷ []) c.0 [] (omega (arith, length-append links (replicate n [] ∷ [])))

  grown_shape : n ≡ length (get_or s.types m.kind []) → (c : CompId)
      → length (row (links ++ replicate n [] ∷ []) c) ≡ length (ports_at s.types (s.components ++ m ∷ []) c)
  grown_shape count c =
      elim (cases_lt c.0 (length links)) [
        | inl below ↦ ap length (row_before c below) ∙ k.shape c ∙ ap length (sym (ports_before s.types s.components m c (omega (arith, same))))
        | inr past ↦ elim (cases_eq c.0 (length links)) [
          | inl here ↦ ap length (row_last c here) ∙ length-replicate n [] ∙ count ∙ ap length (sym (ports_last s.types s.components m c (here ∙ same)))
          | inr not ↦ ap length (row_behind c (omega (arith, not, past)))
              ∙ ap length (sym (ports_past s.types (s.components ++ m ∷ []) c (omega (arith, not, past, same, length-append s.components (m ∷ [])))))
        ]
      ]

  alone : (p : PortRef) → length links ≤ p.comp.0 → [] ≡ beside s p
  alone p past = sym (ap (λ (l : List (List PortRef)). get_or l p.port []) (row_past p.comp past)) ∙ k.kept p

  same_beside : (p : PortRef) → beside s p ≡ beside (creating s m) p
  unfolding beside
  same_beside p = refl

  grown_kept : (p : PortRef) → links_at (links ++ replicate n [] ∷ []) p ≡ beside (creating s m) p
  grown_kept p =
      elim (cases_lt p.comp.0 (length links)) [
        | inl below ↦ ap (λ (l : List (List PortRef)). get_or l p.port []) (row_before p.comp below) ∙ k.kept p ∙ same_beside p
        | inr past ↦ elim (cases_eq p.comp.0 (length links)) [
          | inl here ↦ ap (λ (l : List (List PortRef)). get_or l p.port []) (row_last p.comp here) ∙ all_same n p.port [] ∙ alone p past ∙ same_beside p
          | inr not ↦ ap (λ (l : List (List PortRef)). get_or l p.port []) (row_behind p.comp (omega (arith, not, past))) ∙ alone p past ∙ same_beside p
        ]
      ]

-- a member's name is among the names
name_among : (s : Setup) (m : Member) (i : ℕ) (d : Member) → i < length s.components → (get_or s.components i d).name ≡ m.name → Contains (names_of_components s) m.name
name_among s m i d n e =
    subst (Contains (names_of_components s)) (get_or-map (λ (x : Member). x.name) s.components i d m.name n ∙ e)
    (Contains-get_or (names_of_components s) i m.name (omega (arith, n, length-map s.components (λ (x : Member). x.name))))

keeps_creating : (s : Setup) (links : List (List (List PortRef))) (m : Member) (n : ℕ) → KeepsPairs s links → length links ≡ length s.components
    → m.kind < length s.types → n ≡ length (get_or s.types m.kind []) → CanCreate s m → KeepsPairs (creating s m) (links ++ replicate n [] ∷ [])
keeps_creating s links m n k same kind count can =
    record {
      setup = record {
        allowed = create_allowed s m k.setup.connected_ports k.setup.mapped_ports k.setup.allowed;
        connected_ports = ports_kept s m s.connected k.setup.connected_ports;
        mapped_ports = ports_kept s m s.mapped k.setup.mapped_ports;
        once = k.setup.once;
        few_ports = k.setup.few_ports;
        few_components = omega (arith, can.1, length-append s.components (m ∷ []));
        kinds = All-push (λ (x : Member). x.kind < length s.types) s.components m k.setup.kinds kind;
        names_differ = all_pairs_push (λ (x y : Member). x.name ≢ y.name) s.components m k.setup.names_differ
            (λ i d below e. can.0 (inl (name_among s m i d below e)));
        one_system = all_pairs_push (λ (x y : Member). ¬ ((is_system_member x ≡ true) × (is_system_member y ≡ true))) s.components m
            k.setup.one_system (λ i d below w. can.0 (inr (w.1, (get_or s.components i d, Contains-get_or s.components i d below, w.0))));
      };
      shape = grown_shape s links m n k same count;
      kept = grown_kept s links m n k same;
    }

-- the configuration after a create, by its parts
pub after_create : (s now : Setup) (links more : List (List (List PortRef))) (members : List Member) (m : Member) (n : ℕ) → s ≡ now → KeepsPairs s links
    → length links ≡ length s.components → m.kind < length now.types → n ≡ length (get_or s.types m.kind [])
    → None ≡ find (create_test s.components m.name m.role) create_order → members ≡ s.components ++ m ∷ [] → more ≡ links ++ replicate n [] ∷ []
    → KeepsPairs (record s { components = members }) more × (CanCreate now m × (record s { components = members } ≡ creating now m))
after_create s now links more members m n whole k same kind count h e l =
    let can : CanCreate s m = can_create s m h in
    let kept : KeepsPairs (creating s m) (links ++ replicate n [] ∷ []) =
    keeps_creating s links m n k same (subst (λ t. m.kind < length t.types) (sym whole) kind) count can in
    let made : record s { components = members } ≡ creating s m = ap (λ x. record s { components = x }) e in (
      subst (λ t. KeepsPairs t more) (sym made) (subst (KeepsPairs (creating s m)) (sym l) kept),
      (subst (λ t. CanCreate t m) whole can, made ∙ ap (λ t. creating t m) whole),
    )
