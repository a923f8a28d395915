-- Lines after lines.
use Rattle.std.proofs.Common.{◌≡◌, ℕ, zero, suc, ◌+◌, ◌-◌, ◌<◌, ◌≤◌, ◌⊎◌, inl, inr, Some, List, [], ◌∷◌, ◌++◌, length}
use Rattle.std.proofs.Common.{take, map, refl, ap, sym, ◌∙◌, subst, arith, append_assoc, append-nil}
use Rattle.std.specs.Prelude.{slice_get, All}
use Rattle.std.specs.List.{AllZip}
use Rattle.std.proofs.lemmas.List.{take-append-le}
use Rattle.std.proofs.lemmas.List.Sums.{fold_push}
use Rattle.std.proofs.lemmas.Option.{same_Some}
use Rattle.std.proofs.Math.Seq.{take-append_seam}
use Rattle.tp_judge.specs.declared.referee.form.TracePosition.{TracePosition}
use Rattle.tp_judge.specs.declared.referee.form.TracePosition.TheVariants as stand
use Rattle.tp_common.specs.Cutting.{lines_of}
use Rattle.tp_judge.specs.LineTexts.{Told, begins, passed, operated, otherwise, remarked, ended, resulted, Spells, Says}
use Rattle.tp_judge.specs.Tree.{HoldsTrace, IsFirstBad, IsTrace, IsTraceOf, MayStand, MayStandAt, TellsSomething}
use Rattle.tp_judge.specs.Tree.{names_of, place_behind, place_after, told_in}
use Rattle.tp_judge.specs.Faults.{TakesPlace}
use Rattle.tp_judge.proofs.UniqueLineMeanings.{told_read}

get_push : {X : Type 0} (h : List X) (x : X) (k : ℕ) (e : X) → slice_get (h ++ x ∷ []) k ≡ Some e
    → ((k < length h) × (slice_get h k ≡ Some e)) ⊎ ((k ≡ length h) × (x ≡ e))
get_push [] x zero e g = inr (refl, same_Some x e g)
get_push [] x (suc k) e g = absurd (cc)
get_push (y ∷ h) x zero e g = inl (omega arith, g)
get_push (y ∷ h) x (suc k) e g =
    elim (get_push h x k e g) [ inl p ↦ inl (omega (arith, p.0), p.1) | inr p ↦ inr (omega (arith, p.0), p.1) ]

IsTrace-push : (h : List Told) (x : Told) → IsTrace h → MayStand h x → IsTrace (h ++ x ∷ [])
IsTrace-push h x l m k e g =
    elim (get_push h x k e g) [
      | inl p ↦
          let n : k ≤ length h = omega (arith, p.0) in
          let P : List Told → Type 0 = λ t. MayStand t e in subst P (sym (take-append-le k h (x ∷ []) n)) (l k e p.1)
      | inr p ↦
          let P : Told → Type 0 = λ y. MayStand (take k (h ++ x ∷ [])) y in
          let Q : List Told → Type 0 = λ t. MayStand t x in
          subst P p.1 (subst Q (sym (ap (λ n. take n (h ++ x ∷ [])) p.0 ∙ take-append_seam h (x ∷ []))) m)
    ]

names_of-append : (a b : List Told) → names_of (a ++ b) ≡ names_of a ++ names_of b
names_of-append [] b = refl
names_of-append (begins name ∷ a) b = ap (λ l. name ∷ l) (names_of-append a b)
names_of-append (passed f letter ∷ a) b = names_of-append a b
names_of-append (operated o port ∷ a) b = names_of-append a b
names_of-append (otherwise ∷ a) b = names_of-append a b
names_of-append (remarked n word ∷ a) b = names_of-append a b
names_of-append (ended words ∷ a) b = names_of-append a b
names_of-append (resulted word ∷ a) b = names_of-append a b

zip_push : (lines : List (List ℕ)) (tolds : List Told) (line : List ℕ) (told : Told) → AllZip Spells lines tolds → Spells line told
    → AllZip Spells (lines ++ line ∷ []) (tolds ++ told ∷ [])
zip_push [] [] line told z s = (s, tt)
zip_push [] (t ∷ ts) line told z s = absurd z
zip_push (l ∷ ls) [] line told z s = absurd z
zip_push (l ∷ ls) (t ∷ ts) line told z s = (z.0, zip_push ls ts line told z.1 s)

-- the lines that were taken so far, and the rest of the text
pub record Taken (text rest : List ℕ) (lines names : List (List ℕ)) (place : TracePosition) : Type 0 where
  pub cut : lines_of text ≡ lines ++ lines_of rest
  pub tolds : List Told
  pub says : AllZip Spells lines tolds
  pub trace : IsTrace tolds
  pub named : names ≡ names_of tolds
  pub placed : place ≡ place_behind tolds

stands_here : (before : List Told) (told : Told) (place : TracePosition) (names : List (List ℕ)) → place ≡ place_behind before → names ≡ names_of before
    → MayStandAt place names told → MayStand before told
stands_here before told place names e f s =
    let P : TracePosition → Type 0 = λ p. MayStandAt p (names_of before) told in
    let Q : List (List ℕ) → Type 0 = λ n. MayStandAt place n told in
    subst P e (subst Q f s)

pub Taken-more : (text rest next line : List ℕ) (lines more names old : List (List ℕ)) (place after : TracePosition)
    → lines_of rest ≡ line ∷ lines_of next → more ≡ lines ++ line ∷ [] → TakesPlace line place old names after
    → Taken text rest lines old place → Taken text next more names after
Taken-more text rest next line lines more names old place after cut is takes taken =
    let may = stands_here taken.tolds takes.told place old taken.placed taken.named takes.stands in
    let P : List (List ℕ) → Type 0 = λ l. AllZip Spells l (taken.tolds ++ takes.told ∷ []) in
    record {
      cut = taken.cut ∙ ap (λ l. lines ++ l) cut ∙ sym (append_assoc lines (line ∷ []) (lines_of next)) ∙ ap (λ l. l ++ lines_of next) (sym is);
      tolds = taken.tolds ++ takes.told ∷ [];
      says = subst P (sym is) (zip_push lines taken.tolds line takes.told taken.says takes.spelled);
      trace = IsTrace-push taken.tolds takes.told taken.trace may;
      named = takes.noted ∙ ap (λ n. n ++ names_of (takes.told ∷ [])) taken.named ∙ sym (names_of-append taken.tolds (takes.told ∷ []));
      placed = takes.behind ∙ sym (fold_push (λ _ told. place_after told) stand.Front taken.tolds takes.told);
    }

zip_length : (lines : List (List ℕ)) (tolds : List Told) → AllZip Spells lines tolds → length tolds ≡ length lines
zip_length [] [] z = refl
zip_length [] (t ∷ ts) z = absurd z
zip_length (l ∷ ls) [] z = absurd z
zip_length (l ∷ ls) (t ∷ ts) z = omega (arith, zip_length ls ts z.1)

get_after : {X : Type 0} (xs ys : List X) (y : X) → slice_get (xs ++ y ∷ ys) (length xs) ≡ Some y
get_after [] ys y = refl
get_after (x ∷ xs) ys y = get_after xs ys y

-- a line that may not stand after those that were taken is the first bad one
pub first_bad_here : (text rest next line : List ℕ) (lines names : List (List ℕ)) (place : TracePosition) (n : ℕ)
    → Taken text rest lines names place → lines_of rest ≡ line ∷ lines_of next → n ≡ length lines + 1
    → ((told : Told) → Spells line told → MayStandAt place names told → ⊥) → IsFirstBad (lines_of text) n
first_bad_here text rest next line lines names place n taken cut number bad =
    let is : lines_of text ≡ lines ++ line ∷ lines_of next = taken.cut ∙ ap (λ l. lines ++ l) cut in
    let at : n - 1 ≡ length lines = omega (arith, number) in
    let front : lines ≡ take (n - 1) (lines_of text) =
    sym (ap (λ k. take k (lines_of text)) at ∙ ap (take (length lines)) is ∙ take-append_seam lines (line ∷ lines_of next)) in
    let P : List (List ℕ) → Type 0 = λ l. AllZip Spells l taken.tolds in
    let S : (told : Told) → MayStand taken.tolds told → MayStandAt place names told = λ told may.
    let F : TracePosition → Type 0 = λ p. MayStandAt p names told in
    let G : List (List ℕ) → Type 0 = λ m. MayStandAt (place_behind taken.tolds) m told in
    subst F (sym taken.placed) (subst G (sym taken.named) may) in
    record {
      some = omega (arith, number);
      before = taken.tolds;
      told = subst P front taken.says;
      trace = taken.trace;
      line = line;
      there = ap (slice_get (lines_of text)) at ∙ ap (λ l. slice_get l (length lines)) is ∙ get_after lines (lines_of next) line;
      bad = λ told spelled may. bad told spelled (S told may);
    }

-- what each of the lines tells
reads_all : (lines : List (List ℕ)) (tolds : List Told) → AllZip Spells lines tolds → map told_in lines ≡ tolds
reads_all [] [] z = refl
reads_all [] (t ∷ ts) z = absurd z
reads_all (l ∷ ls) [] z = absurd z
reads_all (l ∷ ls) (t ∷ ts) z = ap (λ x. x ∷ map told_in ls) (told_read l t z.0) ∙ ap (λ r. t ∷ r) (reads_all ls ts z.1)

tells_all : (lines : List (List ℕ)) (tolds : List Told) → AllZip Spells lines tolds → All TellsSomething lines
tells_all [] tolds z k d h = absurd (omega arith)
tells_all (l ∷ ls) [] z k d h = absurd z
tells_all (l ∷ ls) (t ∷ ts) z zero d h = (t, z.0)
tells_all (l ∷ ls) (t ∷ ts) z (suc k) d h = tells_all ls ts z.1 k d (omega arith)

empty_is : (l : List ℕ) → length l ≡ 0 → l ≡ []
empty_is [] e = refl
empty_is (x ∷ l) e = absurd (omega arith)

pub holds_taken : (text rest : List ℕ) (lines names : List (List ℕ)) (place : TracePosition) → Taken text rest lines names place → HoldsTrace lines names
holds_taken text rest lines names place taken =
    let P : List Told → Type 0 = λ t. IsTrace t in
    let e = reads_all lines taken.tolds taken.says in
    record {
      told = tells_all lines taken.tolds taken.says;
      trace = subst P (sym e) taken.trace;
      named = taken.named ∙ ap names_of (sym e);
    }

pub trace_taken : (text rest : List ℕ) (lines names : List (List ℕ)) (place : TracePosition) → Taken text rest lines names place → length rest ≡ 0
    → IsTraceOf text (map told_in lines)
trace_taken text rest lines names place taken none =
    let e = reads_all lines taken.tolds taken.says in
    let whole : lines_of text ≡ lines = taken.cut ∙ ap (λ r. lines ++ lines_of r) (empty_is rest none) ∙ append-nil lines in
    let P : List Told → Type 0 = λ t. IsTrace t in
    let Q : List Told → Type 0 = λ t. AllZip Spells (lines_of text) t in
    let R : List (List ℕ) → Type 0 = λ l. AllZip Spells l taken.tolds in
    (subst Q (sym e) (subst R (sym whole) taken.says), subst P (sym e) taken.trace)

pub says_one : (text : List ℕ) (these those : List Told) → Says text these → Says text those → these ≡ those
says_one text these those p q = sym (reads_all (lines_of text) these p) ∙ reads_all (lines_of text) those q

take_less : {X : Type 0} (m : ℕ) (xs : List X) → take m (take (suc m) xs) ≡ take m xs
take_less zero xs = refl
take_less (suc m) [] = refl
take_less (suc m) (x ∷ xs) = ap (λ l. x ∷ l) (take_less m xs)

get_in_front : {X : Type 0} (k : ℕ) (xs : List X) → slice_get (take (suc k) xs) k ≡ slice_get xs k
get_in_front zero [] = refl
get_in_front zero (x ∷ xs) = refl
get_in_front (suc k) [] = refl
get_in_front (suc k) (x ∷ xs) = get_in_front k xs

zip_take : (k : ℕ) (lines : List (List ℕ)) (tolds : List Told) → AllZip Spells lines tolds → AllZip Spells (take k lines) (take k tolds)
zip_take zero lines tolds z = tt
zip_take (suc k) [] [] z = tt
zip_take (suc k) [] (t ∷ ts) z = absurd z
zip_take (suc k) (l ∷ ls) [] z = absurd z
zip_take (suc k) (l ∷ ls) (t ∷ ts) z = (z.0, zip_take k ls ts z.1)

zip_get : (k : ℕ) (lines : List (List ℕ)) (tolds : List Told) (line : List ℕ) → AllZip Spells lines tolds → slice_get lines k ≡ Some line
    → (told : Told) × (slice_get tolds k ≡ Some told) × Spells line told
zip_get k [] tolds line z e = absurd (cc)
zip_get k (l ∷ ls) [] line z e = absurd z
zip_get zero (l ∷ ls) (t ∷ ts) line z e =
    let P : List ℕ → Type 0 = λ x. Spells x t in (t, refl, subst P (same_Some l line e) z.0)
zip_get (suc k) (l ∷ ls) (t ∷ ts) line z e = zip_get k ls ts line z.1 e

stays_bad : (lines others : List (List ℕ)) (m : ℕ) (tolds : List Told) → IsFirstBad lines (suc m) → take (suc m) others ≡ take (suc m) lines
    → AllZip Spells others tolds → IsTrace tolds → ⊥
stays_bad lines others m tolds first same says trace =
    let place : suc m - 1 ≡ m = omega arith in
    let P : ℕ → Type 0 = λ k. AllZip Spells (take k lines) first.before in
    let front : take m others ≡ take m lines = sym (take_less m others) ∙ ap (take m) same ∙ take_less m lines in
    let Q : List (List ℕ) → Type 0 = λ l. AllZip Spells l (take m tolds) in
    let known : take m tolds ≡ first.before =
    sym (reads_all (take m lines) (take m tolds) (subst Q front (zip_take m others tolds says)))
    ∙ reads_all (take m lines) first.before (subst P place first.told) in
    let there : slice_get others m ≡ Some first.line =
    sym (get_in_front m others) ∙ ap (λ l. slice_get l m) same ∙ get_in_front m lines
    ∙ ap (slice_get lines) (sym place) ∙ first.there in
    let here = zip_get m others tolds first.line says there in
    let R : List Told → Type 0 = λ b. MayStand b here.0 in
    first.bad here.0 here.2 (subst R known (trace m here.0 here.1))

pub bad_stays_bad : (text other : List ℕ) (n : ℕ) (tolds : List Told) → IsFirstBad (lines_of text) n
    → take n (lines_of other) ≡ take n (lines_of text) → IsTraceOf other tolds → ⊥
bad_stays_bad text other zero tolds first same trace = absurd (omega (arith, first.some))
bad_stays_bad text other (suc m) tolds first same trace = stays_bad (lines_of text) (lines_of other) m tolds first same trace.0 trace.1
