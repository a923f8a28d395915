-- Entries in the order of the text, and what they stand for in declared order.
use Rattle.std.proofs.Common.{option_map, ◌⊎◌, inl, inr, ◌≡◌, ◌≢◌, ℕ, zero, suc, ◌+◌, ◌<◌, ◌≤◌, List, [], ◌∷◌, ◌++◌, length, map, take, Some, slice_get, slice_set, get_or, All, Contains, refl, sym, ap, ◌∙◌, arith, subst, add-one}
use Rattle.std.proofs.{Math.Seq.take-length, lemmas.Bool.cases_lt, lemmas.List.Elements.All-map, lemmas.List.Elements.All-push}
use Rattle.std.proofs.lemmas.List.{get_or-set_other, get_or-set_same, length-set, length-map, take_more}
use Rattle.std.proofs.lemmas.Option.{slice_get-get_or, slice_get_within, slice_get_read, get_or_from_slice_get, same_Some, slice_get-map}
use Rattle.tp_value.specs.declared.types.Field.{Field}
use Rattle.tp_checks.specs.Placing.{HaveEntries, IsEntry, IsPlacing, field_names}

-- each place is one of a field
pub place_below : (fields : List Field) (names : List (List ℕ)) (places : List ℕ) → IsPlacing fields names places → (i p : ℕ) → i < length names
    → p ≡ get_or places i p → p < length fields
place_below fields names places h i p below at =
    let here : slice_get places i ≡ Some p = slice_get_read places (length places) i p refl (omega (arith, h.as_many, below)) at in
    let name : slice_get names i ≡ Some (get_or names i []) = slice_get-get_or names i [] below in
    omega (arith, slice_get_within (field_names fields) p (get_or names i []) (h.same_name i p here ∙ name), length-map fields (λ f. f.name))

-- so each field has an entry of its name
pub placed_entries : (fields : List Field) (names : List (List ℕ)) (places : List ℕ) → IsPlacing fields names places → HaveEntries fields names
placed_entries fields names places p = record {
  count = p.count;
  each =
      All-map (Contains names) (λ g. g.name) fields
      (λ k d below.
      let at = p.each k below in
      let same : slice_get (field_names fields) k ≡ slice_get names at.0 = p.same_name at.0 k (slice_get-get_or places at.0 k at.1 ∙ ap Some at.2) in
      let there : slice_get names at.0 ≡ Some (get_or fields k d).name =
      sym same ∙ slice_get-map (λ g. g.name) fields k ∙ ap (option_map (λ g. g.name)) (slice_get-get_or fields k d below) in
      (at.0, slice_get_within names at.0 (get_or fields k d).name there, get_or_from_slice_get names at.0 (get_or fields k d).name (get_or fields k d).name there));
}

next : {A : Type 0} (xs : List A) (i : ℕ) (x : A) → slice_get xs i ≡ Some x → take i xs ++ x ∷ [] ≡ take (i + 1) xs
next xs i x is = sym (take_more xs i x (slice_get_within xs i x is) ∙ ap (λ y. take i xs ++ y ∷ []) (get_or_from_slice_get xs i x x is))

module _ {E W : Type 0} (name : E → List ℕ) (R : Field → E → W → Type 0) (entries : List E) (fields : List Field) where
  -- at place k stands what an entry of the field's name stands for
  pub record HasEntry (k : ℕ) (ws : List W) : Type 0 where
    pub field : Field
    pub at : ℕ
    pub entry : E
    pub made : W
    pub is_field : slice_get fields k ≡ Some field
    pub is_entry : slice_get entries at ≡ Some entry
    pub is_made : slice_get ws k ≡ Some made
    pub same : name entry ≡ field.name
    pub stands : R field entry made

  -- those of the first entries do
  abbrev pub Filled : List ℕ → ℕ → List W → Type 0
  Filled places n ws = (i k : ℕ) → i < n → slice_get places i ≡ Some k → HasEntry k ws

  -- an entry, and the field at its place
  pub record Placed (places : List ℕ) (n p : ℕ) (f : Field) (x : E) : Type 0 where
    pub is_place : slice_get places n ≡ Some p
    pub is_field : slice_get fields p ≡ Some f
    pub is_entry : slice_get entries n ≡ Some x
    pub same : name x ≡ f.name

  pub placed : {places : List ℕ} → IsPlacing fields (map name entries) places → (n p : ℕ) (f : Field) (x : E) → n < length entries → p ≡ get_or places n p
      → p < length fields → f ≡ get_or fields p f → x ≡ get_or entries n x → Placed places n p f x
  placed {places} placing n p f x below at within there here = record { is_place = is_place; is_field = is_field; is_entry = is_entry; same = same_name } where
    is_place : slice_get places n ≡ Some p
    is_place = slice_get_read places (length places) n p refl (omega (arith, placing.as_many, length-map entries name, below)) at

    is_field : slice_get fields p ≡ Some f
    is_field = slice_get_read fields (length fields) p f refl within there

    is_entry : slice_get entries n ≡ Some x
    is_entry = slice_get_read entries (length entries) n x refl below here

    of_field : slice_get (field_names fields) p ≡ Some f.name
    of_field = slice_get-map (λ g. g.name) fields p ∙ ap (option_map (λ g. g.name)) is_field

    of_entry : slice_get (map name entries) n ≡ Some (name x)
    of_entry = slice_get-map name entries n ∙ ap (option_map name) is_entry

    same_name : name x ≡ f.name
    same_name = let c : slice_get (field_names fields) p ≡ slice_get (map name entries) n = placing.same_name n p is_place in same_Some (name x) f.name (sym of_entry ∙ sym c ∙ of_field)

  -- one more entry is put at its place
  pub filled_more : (places : List ℕ) (n : ℕ) (ws : List W) (p : ℕ) (y : W) (f : Field) (x : E) → Placed places n p f x → length ws ≡ length fields → R f x y
      → Filled places n ws → Filled places (n + 1) (slice_set ws p y)
  filled_more places n ws p y f x at many stands before i k below there = by (cases_lt k p) (cases_lt p k) where
    inside : p < length fields
    inside = slice_get_within fields p f at.is_field

    here : slice_get (slice_set ws p y) p ≡ Some y
    here =
        slice_get-get_or (slice_set ws p y) p y (omega (arith, inside, many, length-set ws p y))
        ∙ ap Some (get_or-set_same ws p y y (omega (arith, inside, many)))

    new : HasEntry p (slice_set ws p y)
    new = record { field = f; at = n; entry = x; made = y; is_field = at.is_field; is_entry = at.is_entry; is_made = here; same = at.same; stands = stands }

    other : k ≢ p → HasEntry k (slice_set ws p y)
    other differ = by_place (cases_lt i n) where
      by_place : (i < n) ⊎ (n ≤ i) → HasEntry k (slice_set ws p y)
      by_place (inl earlier) =
          let e = before i k earlier there in
          let within : k < length ws = slice_get_within ws k e.made e.is_made in
          let read : get_or (slice_set ws p y) k e.made ≡ e.made =
          get_or-set_other ws p k y e.made differ ∙ get_or_from_slice_get ws k e.made e.made e.is_made in
          record {
            field = e.field;
            at = e.at;
            entry = e.entry;
            made = e.made;
            is_field = e.is_field;
            is_entry = e.is_entry;
            same = e.same;
            stands = e.stands;
            is_made = slice_get-get_or (slice_set ws p y) k e.made (omega (arith, within, length-set ws p y)) ∙ ap Some read;
          }
      by_place (inr later) =
          let same : i ≡ n = omega arith in
          let one : ◌≡◌ (Some k) (Some p) = sym there ∙ ap (slice_get places) same ∙ at.is_place in
          absurd (differ (cc))

    by : (k < p) ⊎ (p ≤ k) → (p < k) ⊎ (k ≤ p) → HasEntry k (slice_set ws p y)
    by (inl lt) after = other (omega arith)
    by (inr le) (inl gt) = other (omega arith)
    by (inr le) (inr ge) = let same : p ≡ k = omega arith in subst (λ m. HasEntry m (slice_set ws p y)) same new

  -- the first entries are put at the places of their fields, which they fit
  pub record Entered (places : List ℕ) (n : ℕ) (ws : List W) : Type 0 where
    pub as_many : length ws ≡ length fields
    pub filled : Filled places n ws
    pub fit : All (IsEntry name R fields) (take n entries)

  pub entered_none : (places : List ℕ) (ws : List W) → length ws ≡ length fields → Entered places 0 ws
  entered_none places ws many = record {
    as_many = many;
    filled = λ i k below there. absurd (omega (arith, below));
    fit = λ k d below. absurd (omega (arith, below));
  }

  pub entered_more : {places : List ℕ} (n : ℕ) (ws : List W) (p : ℕ) (y : W) (f : Field) (x : E) → Placed places n p f x → R f x y → Entered places n ws
      → Entered places (n + 1) (slice_set ws p y)
  entered_more {places} n ws p y f x at stands before =
      let fits : IsEntry name R fields x =
      record { place = p; field = f; made = y; declared = at.is_field; same_name = at.same; fits = stands } in
      record {
        as_many = length-set ws p y ∙ before.as_many;
        filled = filled_more places n ws p y f x at before.as_many stands before.filled;
        fit = subst (All (IsEntry name R fields)) (next entries n x at.is_entry) (All-push (IsEntry name R fields) (take n entries) x before.fit fits);
      }

  -- once all entries are put at their places, what goes field by field holds
  pub in_order : (P : List Field → List W → Type 0) → P [] []
      → ((fs : List Field) (ws : List W) (f : Field) (j : ℕ) (x : E) (y : W)
      → P fs ws → slice_get entries j ≡ Some x → name x ≡ f.name → R f x y → P (fs ++ f ∷ []) (ws ++ y ∷ []))
      → {places : List ℕ} (n : ℕ) (ws : List W) → IsPlacing fields (map name entries) places → length entries ≤ n → Entered places n ws → P fields ws
  in_order P none more {places} n ws placing le entered =
      subst (λ l. P l ws) (take-length fields)
      (subst (λ l. P (take (length fields) fields) l) (ap (λ m. take m ws) (sym entered.as_many) ∙ take-length ws) (go (length fields) (omega arith)))
    where
      all : (k : ℕ) → k < length fields → HasEntry k ws
      all k below =
          let c = placing.each k below in
          entered.filled c.0 k (omega (arith, c.1, le, placing.as_many, length-map entries name)) (slice_get-get_or places c.0 k c.1 ∙ ap Some c.2)

      go : (n : ℕ) → n ≤ length fields → P (take n fields) (take n ws)
      go zero le = none
      go (suc n) le =
          let below : n < length fields = omega arith in
          let e = all n below in
          let one = more (take n fields) (take n ws) e.field e.at e.entry e.made (go n (omega arith)) e.is_entry e.same e.stands in
          let grown : P (take (n + 1) fields) (take (n + 1) ws) =
          subst (λ l. P l (take (n + 1) ws)) (next fields n e.field e.is_field)
          (subst (λ l. P (take n fields ++ e.field ∷ []) l) (next ws n e.made e.is_made) one) in
          rw add-one at grown
