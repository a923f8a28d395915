-- What a refused part says of the whole.
use Rattle.std.proofs.Common.{◌≡◌, ℕ, ◌+◌, ◌<◌, ◌⊎◌, inl, inr, List, ◌∷◌, ◌++◌, [], All, arith, length, take, drop, get_or, map, sym, ap, ◌∙◌, subst, append_assoc, Result, IfErr}
use Rattle.std.proofs.lemmas.List.{get_or-map, length-map, take-append-drop, map-append, map_push}
use Rattle.std.proofs.lemmas.List.Concat.{flat_map-append}
use Rattle.std.specs.{List.flat_map, Result.IsErrAnd}
use Rattle.tp_checks.specs.declared.fault.ModuleFault.{ModuleFault}
use Rattle.tp_checks.specs.declared.fault.ModuleFault.TheVariants as module_fault
use Rattle.tp_checks.specs.declared.name_set.NameFault.{NameFault}
use Rattle.tp_checks.specs.declared.name_set.NameFault.TheVariants as name_fault
use Rattle.tp_checks.specs.Refused.{IsRefusedBy}
use Rattle.tp_checks.proofs.{ListPrefixGrowth.flat_more, ListPrefixGrowth.pushed, ModuleFaultPropagation.handed}

-- what breaks a part of a rule breaks the rule
pub breaks_part : (R P : Type 0) (f : ModuleFault) → (R → P) → IsRefusedBy P f → IsRefusedBy R f
breaks_part R P f part (inl e) = inl e
breaks_part R P f part (inr h) = inr (λ r. h (part r))

-- a `?` hands on a fault that breaks a part of the rule, and one out of memory
pub handed_on : {T R P : Type 0} (r : Result T ModuleFault) (f : ModuleFault) → IsErrAnd r (λ y. y ≡ f) → IsRefusedBy P f → (R → P) → IfErr r (IsRefusedBy R)
handed_on {R} {P} r f is broken part = handed (IsRefusedBy R) r f is (breaks_part R P f part broken)

-- a name that isn't added is refused at its line
pub name_refused : (R P : Type 0) (fault : NameFault) (made : ModuleFault) → (fault ≡ name_fault.Memory → made ≡ module_fault.Memory (record {}))
    → (fault ≡ name_fault.Memory) ⊎ (P → ⊥) → (R → P) → IsRefusedBy R made
name_refused R P fault made memory (inl e) part = inl (memory e)
name_refused R P fault made memory (inr h) part = inr (λ r. h (part r))

-- an item that doesn't obey, in a list of which each does
pub all_at : {A : Type 0} (P : A → Type 0) (xs : List A) (i : ℕ) (x : A) → i < length xs → x ≡ get_or xs i x → All P xs → P x
all_at P xs i x lt is each = subst P (sym is) (each i x lt)

module _ {A B : Type 0} (g : List A → List B) (join : (xs ys : List A) → g (xs ++ ys) ≡ g xs ++ g ys) where
  -- what the items up to the next one give stands at the head of what all give
  joined : (one : List B) (old names : List B) (xs : List A) (i : ℕ) → g (take (i + 1) xs) ≡ g (take i xs) ++ one → names ≡ old ++ g (take i xs)
      → old ++ g xs ≡ (names ++ one) ++ g (drop (i + 1) xs)
  joined one old names xs i next named =
      let whole : g xs ≡ (g (take i xs) ++ one) ++ g (drop (i + 1) xs) =
      ap g (sym (take-append-drop (i + 1) xs)) ∙ join (take (i + 1) xs) (drop (i + 1) xs) ∙ ap (λ l. l ++ g (drop (i + 1) xs)) next in
      ap (λ l. old ++ l) whole
      ∙ sym (append_assoc old (g (take i xs) ++ one) (g (drop (i + 1) xs)))
      ∙ ap (λ l. l ++ g (drop (i + 1) xs)) (sym (append_assoc old (g (take i xs)) one) ∙ ap (λ l. l ++ one) (sym named))

pub mapped_behind : {A B : Type 0} (f : A → B) (old names : List B) (xs : List A) (i : ℕ) (x : A) → i < length xs → x ≡ get_or xs i x
    → names ≡ old ++ map f (take i xs) → old ++ map f xs ≡ (names ++ f x ∷ []) ++ map f (drop (i + 1) xs)
mapped_behind f old names xs i x lt is named =
    joined (map f) (map-append f) (f x ∷ []) old names xs i (ap (map f) (sym (pushed xs i x lt is)) ∙ map_push f (take i xs) x) named

pub flat_behind : {A B : Type 0} (f : A → List B) (old names : List B) (xs : List A) (i : ℕ) (x : A) → i < length xs → x ≡ get_or xs i x
    → names ≡ old ++ flat_map f (take i xs) → old ++ flat_map f xs ≡ (names ++ f x) ++ flat_map f (drop (i + 1) xs)
flat_behind f old names xs i x lt is named =
    joined (flat_map f) (flat_map-append f) (f x) old names xs i (flat_more f xs i x lt is) named

pub all_at_map : {A B : Type 0} (P : B → Type 0) (f : A → B) (xs : List A) (i : ℕ) (x : A) → i < length xs → x ≡ get_or xs i x → All P (map f xs) → P (f x)
all_at_map P f xs i x lt is each =
    subst P (get_or-map f xs i x (f x) lt ∙ ap f (sym is)) (each i (f x) (omega (arith, length-map xs f, lt)))
