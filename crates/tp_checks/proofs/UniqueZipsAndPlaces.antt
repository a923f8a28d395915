-- Two lists that agree item by item, and names that stand once.
use Rattle.std.proofs.Common.{◌≡◌, ℕ, zero, suc, ◌<◌, inl, inr, List, [], ◌∷◌, ◌++◌, Some, Contains, length, get_or, map, option_map, slice_get, refl, sym, ap, ◌∙◌, subst, arith}
use Rattle.std.proofs.{lemmas.Bool.cases_lt, lemmas.List.get_or_at, lemmas.List.get_or_append_left, lemmas.List.length-append}
use Rattle.std.proofs.lemmas.Option.{slice_get-get_or, slice_get-map, slice_get_within, get_or_from_slice_get, same_Some}
use Rattle.std.specs.List.{AllZip}
use Rattle.tp_checks.specs.Tables.{AreDistinct}

module _ {A B : Type 0} (R : A → B → Type 0) where
  -- what stands in the other list beside an item
  pub zip_here : (xs : List A) (ys : List B) (i : ℕ) (x : A) → AllZip R xs ys → i < length xs → x ≡ get_or xs i x → (y : B) × R x y
  zip_here [] ys i x each lt is = absurd (omega (arith, lt))
  zip_here (a ∷ xs) [] i x each lt is = absurd each
  zip_here (a ∷ xs) (b ∷ ys) zero x each lt is = (b, subst (λ z. R z b) (sym is) each.0)
  zip_here (a ∷ xs) (b ∷ ys) (suc i) x each lt is = zip_here xs ys i x each.1 (omega (arith, lt)) is

  -- what agrees with two lists, one after the other
  pub zip_split : (xs more : List A) (zs : List B) → AllZip R (xs ++ more) zs
      → (us : List B) × (vs : List B) × (zs ≡ us ++ vs) × AllZip R xs us × AllZip R more vs
  zip_split [] more zs each = ([], zs, refl, tt, each)
  zip_split (x ∷ xs) more [] each = absurd each
  zip_split (x ∷ xs) more (z ∷ zs) each =
      let r = zip_split xs more zs each.1 in
      (z ∷ r.0, r.1, ap (λ l. z ∷ l) r.2, (each.0, r.3), r.4)

  -- what stands in the other list beside an item in the middle
  pub zip_middle : (xs : List A) (x : A) (more : List A) (zs : List B) → AllZip R (xs ++ x ∷ more) zs → (z : B) × R x z
  zip_middle [] x more (z ∷ zs) each = (z, each.0)
  zip_middle (a ∷ xs) x more (z ∷ zs) each = zip_middle xs x more zs each.1
  zip_middle _ _ _ _ each = absurd each

  -- where an item determines what stands beside it, a list does
  pub zip_same : {Q : A → B → Type 0} → ((x : A) (y z : B) → Q x y → R x z → y ≡ z) → (xs : List A) (ys zs : List B) → AllZip Q xs ys → AllZip R xs zs
      → ys ≡ zs
  zip_same one [] [] [] first second = refl
  zip_same one [] (y ∷ ys) zs first second = absurd first
  zip_same one (x ∷ xs) [] zs first second = absurd first
  zip_same one (x ∷ xs) (y ∷ ys) (z ∷ zs) first second =
      let here : y ≡ z = one x y z first.0 second.0 in
      let rest : ys ≡ zs = zip_same one xs ys zs first.1 second.1 in
      rw (here, rest)
  zip_same _ _ _ _ _ second = absurd second

  -- nothing else can stand beside an item
  abbrev pub Fixes : A → B → Type 0
  Fixes x y = (z : B) → R x z → y ≡ z

  pub zip_fixed : (xs : List A) (ys zs : List B) → AllZip Fixes xs ys → AllZip R xs zs → ys ≡ zs
  zip_fixed xs ys zs first second = zip_same {Q = Fixes} (λ x y z only. only z) xs ys zs first second

-- where an item determines what is seen of what stands beside it, a list does
pub zip_seen : {A B C : Type 0} (R : A → B → Type 0) (f : B → C) → ((x : A) (y z : B) → R x y → R x z → f y ≡ f z) → (xs : List A) (ys zs : List B)
    → AllZip R xs ys → AllZip R xs zs → map f ys ≡ map f zs
zip_seen R f one [] [] [] first second = refl
zip_seen R f one [] (y ∷ ys) zs first second = absurd first
zip_seen R f one (x ∷ xs) [] zs first second = absurd first
zip_seen R f one (x ∷ xs) (y ∷ ys) (z ∷ zs) first second =
    ap (λ a. a ∷ map f ys) (one x y z first.0 second.0) ∙ ap (λ l. f z ∷ l) (zip_seen R f one xs ys zs first.1 second.1)
zip_seen _ _ _ _ _ _ _ second = absurd second

-- what stands in a third list beside the items of two
pub zip_both : {A B C : Type 0} (R : A → C → Type 0) (S : B → C → Type 0) (xs : List A) (ys : List B) (zs : List C) (i : ℕ) (x : A) (y : B)
    → AllZip R xs zs → AllZip S ys zs → i < length xs → x ≡ get_or xs i x → y ≡ get_or ys i y → (z : C) × R x z × S y z
zip_both R S [] ys zs i x y first second lt is at = absurd (omega (arith, lt))
zip_both R S (a ∷ xs) ys [] i x y first second lt is at = absurd first
zip_both R S (a ∷ xs) [] (c ∷ zs) i x y first second lt is at = absurd second
zip_both R S (a ∷ xs) (b ∷ ys) (c ∷ zs) zero x y first second lt is at = (c, subst (λ w. R w c) (sym is) first.0, subst (λ w. S w c) (sym at) second.0)
zip_both R S (a ∷ xs) (b ∷ ys) (c ∷ zs) (suc i) x y first second lt is at = zip_both R S xs ys zs i x y first.1 second.1 (omega (arith, lt)) is at

-- a name that stands once has one place
pub once : (names : List (List ℕ)) (name : List ℕ) (j k : ℕ) → AreDistinct names → slice_get names j ≡ Some name → slice_get names k ≡ Some name → j ≡ k
once names name j k apart e f =
    elim (cases_lt j k) [
      | inl low ↦
          absurd (apart j k name low (slice_get_within names k name f)
          (get_or_from_slice_get names j name name e ∙ sym (get_or_from_slice_get names k name name f)))
      | inr high ↦ elim (cases_lt k j) [
        | inl low ↦
            absurd (apart k j name low (slice_get_within names j name e)
            (get_or_from_slice_get names k name name f ∙ sym (get_or_from_slice_get names j name name e)))
        | inr low ↦ omega (arith, high, low)
      ]
    ]

pub place_in : {A : Type 0} (xs : List A) (x : A) → Contains xs x → (k : ℕ) × (slice_get xs k ≡ Some x)
place_in xs x (k, below, is) = (k, slice_get-get_or xs k x below ∙ ap Some is)

-- of one name there is one item
pub same_named : {A : Type 0} (f : A → List ℕ) (xs : List A) (x y : A) → AreDistinct (map f xs) → Contains xs x → Contains xs y → f x ≡ f y → x ≡ y
same_named f xs x y apart here there e =
    let i = place_in xs x here in
    let j = place_in xs y there in
    let same = once (map f xs) (f x) i.0 j.0 apart (slice_get-map f xs i.0 ∙ ap (option_map f) i.1) (slice_get-map f xs j.0 ∙ ap (option_map f) j.1 ∙ ap Some (sym e)) in
    same_Some x y (sym i.1 ∙ ap (slice_get xs) same ∙ j.1)

-- a name that stands once after others is none of them
pub not_before : (names more : List (List ℕ)) (name : List ℕ) → AreDistinct (names ++ name ∷ more) → Contains names name → ⊥
not_before names more name apart (k, below, is) =
    apart k (length names) name below (omega (arith, length-append names (name ∷ more)))
    (get_or_append_left names (name ∷ more) name k below ∙ is ∙ sym (get_or_at names name more name (length names) refl))
