-- The demands that two rows of lines make, and those of a trace.
use Rattle.std.proofs.Common.{◌≡◌, ◌⊎◌, inl, inr, ℕ, zero, suc, ◌+◌, ◌<◌, ◌≤◌, min, Some, List, [], ◌∷◌, ◌++◌, length}
use Rattle.std.proofs.Common.{get_or, take, refl, ap, sym, ◌∙◌, subst, ⊎_elim, append_assoc, add-one, Bor, arith}
use Rattle.std.specs.Prelude.{All, Contains, slice_get}
use Rattle.std.proofs.lemmas.Bool.{cases_lt}
use Rattle.std.proofs.lemmas.List.Elements.{All-append, All-cons, All-nil, All-head, All-tail, Contains-append_cases}
use Rattle.std.proofs.lemmas.List.Elements.{Contains-append_left, Contains-append_right}
use Rattle.tp_judge.specs.declared.demand.Demand.{Demand}
use Rattle.tp_judge.specs.Order.{IsBelow}
use Rattle.tp_judge.specs.declared.line.IndexedLine.{IndexedLine}
use Rattle.tp_judge.specs.LinesByNumber.{lines_at}
use Rattle.tp_judge.specs.Demands.{from_each, pairs}

-- a demand
demand : IndexedLine → IndexedLine → Demand
demand a b = record { before = a.number; after = b.number }

-- one pair more
more : (xs ys : List (Bor IndexedLine)) (i : ℕ) (d e : Bor IndexedLine) → i < length xs → i < length ys
    → pairs (lines_at (take (suc i) xs)) (lines_at (take (suc i) ys))
    ≡ pairs (lines_at (take i xs)) (lines_at (take i ys)) ++ record { before = (get_or xs i d).now.number; after = (get_or ys i e).now.number } ∷ []
more [] ys i d e low high = absurd (omega arith)
more (x ∷ xs) [] i d e low high = absurd (omega arith)
more (x ∷ xs) (y ∷ ys) zero d e low high = refl
more (x ∷ xs) (y ∷ ys) (suc i) d e low high =
    ap (λ l. record { before = x.now.number; after = y.now.number } ∷ l) (more xs ys i d e (omega arith) (omega arith))

pub pairs_more : (xs ys : List (Bor IndexedLine)) (i : ℕ) (d e : Bor IndexedLine) (old now new : List Demand) → i < length xs → i < length ys
    → now ≡ old ++ pairs (lines_at (take i xs)) (lines_at (take i ys))
    → new ≡ now ++ record { before = (get_or xs i d).now.number; after = (get_or ys i e).now.number } ∷ []
    → new ≡ old ++ pairs (lines_at (take (i + 1) xs)) (lines_at (take (i + 1) ys))
pairs_more xs ys i d e old now new low high was grown =
    grown ∙ ap (λ l. l ++ record { before = (get_or xs i d).now.number; after = (get_or ys i e).now.number } ∷ []) was
    ∙ append_assoc old (pairs (lines_at (take i xs)) (lines_at (take i ys))) _
    ∙ ap (λ l. old ++ l) (sym (more xs ys i d e low high))
    ∙ ap (λ n. old ++ pairs (lines_at (take n xs)) (lines_at (take n ys))) (sym (add-one i))

-- all pairs
pub pairs_all : (xs ys : List (Bor IndexedLine)) (n : ℕ) → n ≡ min (length xs) (length ys)
    → pairs (lines_at (take n xs)) (lines_at (take n ys)) ≡ pairs (lines_at xs) (lines_at ys)
pairs_all [] ys zero is = refl
pairs_all [] ys (suc n) is = refl
pairs_all (x ∷ xs) [] zero is = refl
pairs_all (x ∷ xs) [] (suc n) is = absurd (omega arith)
pairs_all (x ∷ xs) (y ∷ ys) zero is = absurd (omega arith)
pairs_all (x ∷ xs) (y ∷ ys) (suc n) is =
    ap (λ l. record { before = x.now.number; after = y.now.number } ∷ l) (pairs_all xs ys n (omega arith))

-- what two rows demand
pub in_pairs : (as' bs : List IndexedLine) (d : Demand) → Contains (pairs as' bs) d
    → (k : ℕ) × (a : IndexedLine) × (b : IndexedLine) × (slice_get as' k ≡ Some a) × (slice_get bs k ≡ Some b) × (d ≡ record { before = a.number; after = b.number })
in_pairs [] bs d has = absurd (let low = has.1 in omega arith)
in_pairs (a ∷ as') [] d has = absurd (let low = has.1 in omega arith)
in_pairs (a ∷ as') (b ∷ bs) d has = ⊎_elim
    (λ (here : record { before = a.number; after = b.number } ≡ d). (0, a, b, refl, refl, sym here))
    (λ (there : Contains (pairs as' bs) d).
    let rest = in_pairs as' bs d there in
    (suc rest.0, rest.1, rest.2, rest.3, rest.4, rest.5))
    (head_or_rest (record { before = a.number; after = b.number }) (pairs as' bs) d has)
  where
    head_or_rest : (x : Demand) (xs : List Demand) (d : Demand) → Contains (x ∷ xs) d → (x ≡ d) ⊎ Contains xs d
    head_or_rest x xs d (zero, low, is) = inl is
    head_or_rest x xs d (suc k, low, is) = inr (k, omega arith, is)

pub pairs_have : (as' bs : List IndexedLine) (k : ℕ) (a b : IndexedLine) → slice_get as' k ≡ Some a → slice_get bs k ≡ Some b
    → Contains (pairs as' bs) (record { before = a.number; after = b.number })
pairs_have [] bs k a b low high = absurd (cc)
pairs_have (x ∷ as') [] k a b low high = absurd (cc)
pairs_have (x ∷ as') (y ∷ bs) zero a b low high =
    let first : x ≡ a = cc in
    let second : y ≡ b = cc in
    (0, omega arith, ap (λ (l : IndexedLine). record { before = l.number; after = y.number }) first ∙ ap (λ (l : IndexedLine). record { before = a.number; after = l.number }) second)
pairs_have (x ∷ as') (y ∷ bs) (suc k) a b low high =
    let rest = pairs_have as' bs k a b low high in
    let below = rest.1 in
    (suc rest.0, omega arith, rest.2)

-- what the numbers below n give
pub in_each : (f : ℕ → List Demand) (n : ℕ) (d : Demand) → Contains (from_each f n) d → (k : ℕ) × (k < n) × Contains (f k) d
in_each f zero d has = absurd (let low = has.1 in omega arith)
in_each f (suc n) d has = ⊎_elim
    (λ (before : Contains (from_each f n) d). let rest = in_each f n d before in (let below = rest.1 in (rest.0, omega arith, rest.2)))
    (λ (here : Contains (f n) d). (n, omega arith, here))
    (Contains-append_cases (from_each f n) (f n) d has)

pub each_has : (f : ℕ → List Demand) (n k : ℕ) (d : Demand) → k < n → Contains (f k) d → Contains (from_each f n) d
each_has f zero k d below has = absurd (omega arith)
each_has f (suc n) k d below has = ⊎_elim
    (λ (low : k < n). Contains-append_left (from_each f n) (f n) d (each_has f n k d low has))
    (λ (high : n ≤ k). let same : k ≡ n = omega arith in
    Contains-append_right (from_each f n) (f n) d (subst (λ (m : ℕ). Contains (f m) d) same has))
    (cases_lt k n)

-- lines with small numbers make demands on small numbers
pub pairs_below : (count : ℕ) (as' bs : List IndexedLine) → All (λ line. line.number < count) as' → All (λ line. line.number < count) bs
    → All (IsBelow count) (pairs as' bs)
pairs_below count [] bs low high = All-nil (IsBelow count)
pairs_below count (a ∷ as') [] low high = All-nil (IsBelow count)
pairs_below count (a ∷ as') (b ∷ bs) low high =
    let P : IndexedLine → Type 0 = λ line. line.number < count in
    All-cons (IsBelow count) (record { before = a.number; after = b.number }) (pairs as' bs)
    (All-head P a as' low, All-head P b bs high)
    (pairs_below count as' bs (All-tail P a as' low) (All-tail P b bs high))

pub each_below : (count : ℕ) (f : ℕ → List Demand) (n : ℕ) → ((k : ℕ) → All (IsBelow count) (f k)) → All (IsBelow count) (from_each f n)
each_below count f zero each = All-nil (IsBelow count)
each_below count f (suc n) each = All-append (IsBelow count) (from_each f n) (f n) (each_below count f n each) (each n)
