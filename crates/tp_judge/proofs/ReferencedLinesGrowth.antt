-- One line more of those that references point to.
use Rattle.std.proofs.Common.{◌≡◌, ℕ, zero, suc, ◌+◌, ◌<◌, Option, Some, None, List, [], ◌∷◌, ◌++◌, length, get_or}
use Rattle.std.proofs.Common.{take, refl, ap, ◌∙◌, Bor, arith}
use Rattle.std.specs.Prelude.{slice_get}
use Rattle.std.specs.List.{filter_map, cons_option, take-map}
use Rattle.std.specs.Option.{option_to_list}
use Rattle.std.proofs.lemmas.List.{take_more}
use Rattle.std.proofs.lemmas.Option.{get_or_from_slice_get, slice_get_within}
use Rattle.std.proofs.lemmas.List.Elements.{filter_map-append}
use Rattle.tp_judge.specs.declared.line.IndexedLine.{IndexedLine}
use Rattle.tp_judge.specs.LinesByNumber.{lines_at}

alone : {Y : Type 0} (o : Option Y) → cons_option o [] ≡ option_to_list o
alone None = refl
alone (Some y) = refl

seen-append : (xs ys : List (Bor IndexedLine)) → lines_at (xs ++ ys) ≡ lines_at xs ++ lines_at ys
seen-append [] ys = refl
seen-append (x ∷ xs) ys = ap (λ l. x.now ∷ l) (seen-append xs ys)

-- what one line more gives stands after what those before it give
pub filter_map-more : {Y : Type 0} (f : IndexedLine → Option Y) (xs : List (Bor IndexedLine)) (i : ℕ) (d : Bor IndexedLine) → i < length xs
    → filter_map f (lines_at (take (i + 1) xs)) ≡ filter_map f (lines_at (take i xs)) ++ option_to_list (f (get_or xs i d).now)
filter_map-more f xs i d within =
    ap (λ l. filter_map f (lines_at l)) (take_more xs i d within)
    ∙ ap (filter_map f) (seen-append (take i xs) (get_or xs i d ∷ []))
    ∙ filter_map-append f (lines_at (take i xs)) ((get_or xs i d).now ∷ [])
    ∙ ap (λ l. filter_map f (lines_at (take i xs)) ++ l) (alone (f (get_or xs i d).now))

-- what stands at a place
pub seen_at : (xs : List (Bor IndexedLine)) (i : ℕ) (d : Bor IndexedLine) → i < length xs → slice_get (lines_at xs) i ≡ Some (get_or xs i d).now
seen_at [] i d within = absurd (omega arith)
seen_at (x ∷ xs) zero d within = refl
seen_at (x ∷ xs) (suc i) d within = seen_at xs i d (omega arith)

-- the first of them
pub seen-take : (i : ℕ) (xs : List (Bor IndexedLine)) → take i (lines_at xs) ≡ lines_at (take i xs)
seen-take i xs = take-map (λ (line : Bor IndexedLine). line.now) i xs

-- one more of the list
pub take_got : {X : Type 0} (xs : List X) (n : ℕ) (x : X) → slice_get xs n ≡ Some x → take (n + 1) xs ≡ take n xs ++ x ∷ []
take_got xs n x is =
    take_more xs n x (slice_get_within xs n x is) ∙ ap (λ y. take n xs ++ y ∷ []) (get_or_from_slice_get xs n x x is)

cons_option-append : {Y : Type 0} (o : Option Y) (xs ys : List Y) → cons_option o (xs ++ ys) ≡ cons_option o xs ++ ys
cons_option-append None xs ys = refl
cons_option-append (Some y) xs ys = refl

-- what the lines give is cut at what one of them gives
pub split_line : {Y : Type 0} (f : IndexedLine → Option Y) (lines : List IndexedLine) (k : ℕ) (line : IndexedLine) (y : Y)
    → slice_get lines k ≡ Some line → f line ≡ Some y → (rest : List Y) × (filter_map f lines ≡ filter_map f (take k lines) ++ y ∷ rest)
split_line f [] k line y stands is = absurd (cc)
split_line f (x ∷ xs) zero line y stands is =
    let same : x ≡ line = cc in
    (filter_map f xs, ap (λ (l : IndexedLine). cons_option (f l) (filter_map f xs)) same ∙ ap (λ o. cons_option o (filter_map f xs)) is)
split_line f (x ∷ xs) (suc k) line y stands is =
    let rest = split_line f xs k line y stands is in
    (rest.0, ap (cons_option (f x)) rest.1 ∙ cons_option-append (f x) (filter_map f (take k xs)) (y ∷ rest.0))

pub at_seam : {X : Type 0} (xs rest : List X) (x : X) → slice_get (xs ++ x ∷ rest) (length xs) ≡ Some x
at_seam [] rest x = refl
at_seam (y ∷ xs) rest x = at_seam xs rest x
