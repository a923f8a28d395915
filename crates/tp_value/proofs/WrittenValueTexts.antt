-- The text of a value, and how it is written piece by piece.
use Rattle.std.proofs.Common.{min, length-drop, ◌≡◌, ℕ, zero, suc, ◌+◌, ◌<◌, ℤ, Bool, true, false, cond, List, [], ◌∷◌, ◌++◌, Option, Some, None, map, drop, take, length, get_or, position, codes, nat_eq, nat_lt, ◌≤◌, refl, ap, sym, subst, ◌∙◌, arith, add-one}
use Rattle.std.proofs.lemmas.Bool.{eqb-true}
use Rattle.std.proofs.lemmas.List.{drop_all, drop_more}
use Rattle.std.proofs.lemmas.List.Quantifiers.{position-Some}
use Rattle.std.proofs.lemmas.List.Sums.{fails_before_first}
use Rattle.std.specs.List.{position_or_len}
use Rattle.std.specs.Fmt.{signed_decimal}
use Rattle.tp_common.specs.declared.watched.Watched.{Watched}
use Rattle.tp_common.specs.Watching.{Writes}
use Rattle.tp_common.proofs.WatchedWriterGrowth.{writes_both, writes_nothing}
use Rattle.tp_value.specs.declared.types.Ty.{Ty}
use Rattle.tp_value.specs.declared.types.Field.{Field}
use Rattle.tp_value.specs.declared.types.TypeDef.{TypeDef}
use Rattle.tp_value.specs.declared.types.TypeDef.TheVariants as def
use Rattle.tp_value.specs.declared.types.Types.{Types}
use Rattle.tp_value.specs.declared.value.Value.{Value}
use Rattle.tp_value.specs.declared.value.Value.TheVariants as o
use Rattle.tp_value.specs.declared.value.Value.TheOpen as v
use Rattle.tp_value.specs.declared.value.Value.TheViews.{roll-Value}
use Rattle.tp_value.specs.declared.value.Value.TheFolds.{map-Value, fold-roll-Value}
use Rattle.tp_value.specs.Types.{named}
use Rattle.tp_value.specs.ValueText.{bool_text, escaped, quoted, braced_text, field_texts, element_texts, record_text, list_text, text_of, value_text}
use Rattle.tp_value.specs.Separators.{separator, listed_from}

module _ {X Y : Type 0} (g : X → Y) (text : Y → Ty → List ℕ) where
  field_texts-map : (fs : List Field) (xs : List X) → field_texts text fs (map g xs) ≡ field_texts (λ x. text (g x)) fs xs
  field_texts-map [] [] = refl
  field_texts-map [] (x ∷ xs) = refl
  field_texts-map (f ∷ fs) [] = refl
  field_texts-map (f ∷ fs) (x ∷ xs) = ap (λ r. (f.name ++ (codes " := " ++ text (g x) f.ty)) ∷ r) (field_texts-map fs xs)

  element_texts-map : (t : Ty) (xs : List X) → element_texts text t (map g xs) ≡ element_texts (λ x. text (g x)) t xs
  element_texts-map t [] = refl
  element_texts-map t (x ∷ xs) = ap (λ r. text (g x) t ∷ r) (element_texts-map t xs)

  record_text-map : (xs : List X) (d : Option TypeDef) → record_text text (map g xs) d ≡ record_text (λ x. text (g x)) xs d
  record_text-map xs None = refl
  record_text-map xs (Some (def.Record fs)) = ap braced_text (field_texts-map fs xs)
  record_text-map xs (Some (def.ListOf t)) = refl

  list_text-map : (xs : List X) (d : Option TypeDef) → list_text text (map g xs) d ≡ list_text (λ x. text (g x)) xs d
  list_text-map xs None = refl
  list_text-map xs (Some (def.Record fs)) = refl
  list_text-map xs (Some (def.ListOf t)) = ap braced_text (element_texts-map t xs)

module _ (types : Types) (t : Ty) where
  layer : (x : v.Value-F Value) → value_text types t (roll-Value x) ≡ text_of types (map-Value Value (Ty → List ℕ) (λ w u. value_text types u w) x) t
  unfolding value_text
  layer x = ap (λ f. f t) (fold-roll-Value (Ty → List ℕ) (text_of types) x)

  pub text_int : (z : ℤ) → value_text types t (o.Int z) ≡ signed_decimal z
  text_int z = ap (value_text types t) (sym (o.rolls-Int z)) ∙ layer (v.Int z)

  pub text_bool : (b : Bool) → value_text types t (o.Bool b) ≡ bool_text b
  text_bool b = ap (value_text types t) (sym (o.rolls-Bool b)) ∙ layer (v.Bool b)

  pub text_text : (cs : List ℕ) → value_text types t (o.Text cs) ≡ quoted cs
  text_text cs = ap (value_text types t) (sym (o.rolls-Text cs)) ∙ layer (v.Text cs)

  pub text_record : (xs : List Value) → value_text types t (o.Record xs) ≡ record_text (λ w u. value_text types u w) xs (named types t)
  text_record xs =
      ap (value_text types t) (sym (o.rolls-Record xs)) ∙ layer (v.Record xs)
      ∙ record_text-map (λ w u. value_text types u w) (λ text. text) xs (named types t)

  pub text_list : (xs : List Value) → value_text types t (o.List xs) ≡ list_text (λ w u. value_text types u w) xs (named types t)
  text_list xs =
      ap (value_text types t) (sym (o.rolls-List xs)) ∙ layer (v.List xs) ∙ list_text-map (λ w u. value_text types u w) (λ text. text) xs (named types t)

-- one item behind those before it
pub listed_step : (n : ℕ) (x : List ℕ) (xs : List (List ℕ)) → listed_from n (x ∷ xs) ≡ separator n ++ (x ++ listed_from (n + 1) xs)
listed_step zero x xs = refl
listed_step (suc n) x xs = ap (λ m. codes ", " ++ (x ++ listed_from m xs)) (sym (add-one (suc n)))

pub listed_none : (n : ℕ) → listed_from n [] ≡ []
listed_none zero = refl
listed_none (suc n) = refl

-- up to the first quote nothing is doubled
to_quote : (at : ℕ) (cs : List ℕ) → at < length cs → nat_eq (get_or cs at 0) 34 ≡ true → ((k : ℕ) → k < at → nat_eq (get_or cs k 0) 34 ≡ false)
    → escaped cs ≡ take (suc at) cs ++ (codes "\"" ++ escaped (drop (suc at) cs))
to_quote zero [] h is before = absurd (omega arith)
to_quote zero (c ∷ cs) h is before =
    ap (λ b. cond b (codes "\"\"") (c ∷ []) ++ escaped cs) is ∙ ap (λ x. x ∷ (codes "\"" ++ escaped cs)) (sym (eqb-true c 34 is))
to_quote (suc at) [] h is before = absurd (omega arith)
to_quote (suc at) (c ∷ cs) h is before =
    ap (λ b. cond b (codes "\"\"") (c ∷ []) ++ escaped cs) (before 0 (omega arith))
    ∙ ap (λ r. c ∷ r) (to_quote at cs (omega arith) is (λ k l. before (suc k) (omega arith)))

pub escaped_to_quote : (at : ℕ) (cs : List ℕ) → Some at ≡ position (λ c. nat_eq c 34) cs
    → escaped cs ≡ take (at + 1) cs ++ (codes "\"" ++ escaped (drop (at + 1) cs))
escaped_to_quote at cs e =
    let p = position-Some (λ c. nat_eq c 34) cs at 0 (sym e) in
    rw (add-one at) (to_quote at cs p.0 p.1 p.2)

no_quote : (cs : List ℕ) → ((k : ℕ) → k < length cs → nat_eq (get_or cs k 0) 34 ≡ false) → escaped cs ≡ cs
no_quote [] none = refl
no_quote (c ∷ cs) none =
    ap (λ b. cond b (codes "\"\"") (c ∷ []) ++ escaped cs) (none 0 (omega arith))
    ∙ ap (λ r. c ∷ r) (no_quote cs (λ k l. none (suc k) (omega arith)))

-- without a quote nothing is
pub escaped_no_quote : (cs : List ℕ) → None ≡ position (λ c. nat_eq c 34) cs → escaped cs ≡ cs
escaped_no_quote cs e = by (nat_lt (position_or_len (λ c. nat_eq c 34) cs) (length cs)) refl e
  where
    by : (b : Bool) → nat_lt (position_or_len (λ c. nat_eq c 34) cs) (length cs) ≡ b
        → None ≡ cond b (Some (position_or_len (λ c. nat_eq c 34) cs)) None → escaped cs ≡ cs
    by true f none = cc
    by false f none =
        let past : length cs ≤ position_or_len (λ c. nat_eq c 34) cs = grind (arith, f) in
        no_quote cs (λ k l. fails_before_first (λ c. nat_eq c 34) cs k 0 (omega arith))

-- the first of those left is the one at this place
first_left : {X : Type 0} (xs : List X) (i : ℕ) (x : X) → i < length xs → x ≡ get_or xs i x → drop i xs ≡ x ∷ drop (i + 1) xs
first_left xs i x h is = drop_more xs i x h ∙ ap (λ y. y ∷ drop (i + 1) xs) (sym is)

module _ {W X : Type 0} (contents : W → Option (List ℕ)) (text : X → Ty → List ℕ) where
  pub elements_grow : (t : Ty) (xs : List X) (i : ℕ) (x : X) → i < length xs → x ≡ get_or xs i x
      → (start here apart now : Watched W) (whole : List ℕ)
      → ((done : Watched W) → Writes contents here done (listed_from i (element_texts text t (drop i xs))) → Writes contents start done whole)
      → Writes contents here apart (separator i) → Writes contents apart now (text x t)
      → (done : Watched W) → Writes contents now done (listed_from (i + 1) (element_texts text t (drop (i + 1) xs))) → Writes contents start done whole
  elements_grow t xs i x h is start here apart now whole grows p q done r =
      let rest : List ℕ = listed_from (i + 1) (element_texts text t (drop (i + 1) xs)) in
      let all : Writes contents here done (separator i ++ (text x t ++ rest)) =
      writes_both contents here apart done (separator i) (text x t ++ rest) p (writes_both contents apart now done (text x t) rest q r) in
      grows done (subst (Writes contents here done) (sym (ap (λ ys. listed_from i (element_texts text t ys)) (first_left xs i x h is)
      ∙ listed_step i (text x t) (element_texts text t (drop (i + 1) xs)))) all)

  pub fields_grow : (fs : List Field) (xs : List X) (i : ℕ) (f : Field) (x : X) → i < length fs → f ≡ get_or fs i f → i < length xs → x ≡ get_or xs i x
      → (start here apart named given now : Watched W) (whole : List ℕ)
      → ((done : Watched W) → Writes contents here done (listed_from i (field_texts text (drop i fs) (drop i xs))) → Writes contents start done whole)
      → Writes contents here apart (separator i) → Writes contents apart named f.name → Writes contents named given (codes " := ") → Writes contents given now (text x f.ty)
      → (done : Watched W) → Writes contents now done (listed_from (i + 1) (field_texts text (drop (i + 1) fs) (drop (i + 1) xs))) → Writes contents start done whole
  fields_grow fs xs i f x k at h is start here apart named given now whole grows p n a q done r =
      let rest : List ℕ = listed_from (i + 1) (field_texts text (drop (i + 1) fs) (drop (i + 1) xs)) in
      let one : List ℕ = f.name ++ (codes " := " ++ text x f.ty) in
      let field : Writes contents apart now one =
      writes_both contents apart named now f.name (codes " := " ++ text x f.ty) n (writes_both contents named given now (codes " := ") (text x f.ty) a q) in
      let all : Writes contents here done (separator i ++ (one ++ rest)) =
      writes_both contents here apart done (separator i) (one ++ rest) p (writes_both contents apart now done one rest field r) in
      grows done (subst (Writes contents here done) (sym (ap (λ gs. listed_from i (field_texts text gs (drop i xs))) (first_left fs i f k at)
      ∙ ap (λ ys. listed_from i (field_texts text (f ∷ drop (i + 1) fs) ys)) (first_left xs i x h is)
      ∙ listed_step i one (field_texts text (drop (i + 1) fs) (drop (i + 1) xs)))) all)

module _ {X : Type 0} (text : X → Ty → List ℕ) where
  -- past the last nothing is left
  pub elements_end : (t : Ty) (xs : List X) (i : ℕ) → length xs ≤ i → listed_from i (element_texts text t (drop i xs)) ≡ []
  elements_end t xs i h = ap (λ ys. listed_from i (element_texts text t ys)) (drop_all i xs h) ∙ listed_none i

  no_fields : (fs : List Field) (xs : List X) → min (length fs) (length xs) ≡ 0 → field_texts text fs xs ≡ []
  no_fields [] xs h = refl
  no_fields (f ∷ fs) [] h = refl
  no_fields (f ∷ fs) (x ∷ xs) h = absurd (omega arith)

  pub fields_end : (fs : List Field) (xs : List X) (i : ℕ) → min (length fs) (length xs) ≤ i → listed_from i (field_texts text (drop i fs) (drop i xs)) ≡ []
  fields_end fs xs i h =
      ap (listed_from i) (no_fields (drop i fs) (drop i xs) (omega (arith, length-drop i fs, length-drop i xs))) ∙ listed_none i

-- what stands in braces
pub in_braces : {W : Type 0} (contents : W → Option (List ℕ)) (start opened inside done : Watched W) (text rest : List ℕ)
    → Writes contents start opened (codes "{") → ((end : Watched W) → Writes contents inside end rest → Writes contents opened end text)
    → rest ≡ [] → Writes contents inside done (codes "}") → Writes contents start done (codes "{" ++ (text ++ codes "}"))
in_braces contents start opened inside done text rest p grows none q =
    let within : Writes contents opened inside text = grows inside (writes_nothing contents inside rest none) in
    writes_both contents start opened done (codes "{") (text ++ codes "}") p (writes_both contents opened inside done text (codes "}") within q)
