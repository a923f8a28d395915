-- Where no component can go on there is an order only if all is done.
use Rattle.std.proofs.Common.{◌≡◌, ◌⊎◌, inl, inr, ℕ, zero, suc, ◌+◌, ◌-◌, ◌<◌, ◌≤◌, ◌==◌, Bool, true, false, cond}
use Rattle.std.proofs.Common.{eq-eqb, Option, Some, None, List, [], ◌∷◌, ◌++◌, length, get_or, take, drop, refl, sym}
use Rattle.std.proofs.Common.{ap, ◌∙◌, subst, zero-add, arith}
use Rattle.std.specs.Prelude.{slice_get, option_and_then}
use Rattle.std.specs.List.{cons_option, sum_by}
use Rattle.std.proofs.Math.Seq.{take-suc, take-append_seam}
use Rattle.std.proofs.lemmas.Bool.{cases_eq, cases_lt, cases_order, false≢true, ne_eqb}
use Rattle.std.proofs.lemmas.List.{length-append, take-append-drop, take-take, take_all}
use Rattle.std.proofs.lemmas.List.Elements.{filter_map-append}
use Rattle.std.proofs.lemmas.List.Sums.{sum_by-append, sum_by_push, sum_by-take-le}
use Rattle.std.proofs.lemmas.Option.{same_Some, slice_get_cases, slice_get_within, slice_get-get_or}
use Rattle.std.proofs.lemmas.Option.{get_or_from_slice_get}
use Rattle.tp_judge.specs.declared.kind.EntryKind.{EntryKind}
use Rattle.tp_judge.specs.declared.kind.EntryKind.TheVariants as kind
use Rattle.tp_judge.specs.OneOrder.{IsAt, IsOrderOf}
use Rattle.tp_judge.specs.Kinds.{AreOwnedBy, IsOwn, Kinds, Spot, came_before, came_in, came_of, histories_of, is_own}
use Rattle.tp_judge.specs.Kinds.{kind_at, sends, sent_by, sent_from, sent_of}
use Rattle.tp_judge.specs.OrderProgress.{IsGone}
use Rattle.tp_judge.specs.Greedy.{AreLookedBefore, CanHappen, IsGreedy, IsStuck, count_sent_to, many}
use Rattle.tp_judge.proofs.RanksOfGivenElements.{slice_there}
use Rattle.tp_judge.proofs.SpotOrderGrowth.{came_all, came_on, one_more, spot, spot_is}

-- sums over the fronts of a list
pub take_one : {X : Type 0} (k : List X) (n : ℕ) (x : X) → slice_get k n ≡ Some x → take (n + 1) k ≡ take n k ++ x ∷ []
take_one k n x at =
    let low : n < length k = slice_get_within k n x at in
    let one : n + 1 ≡ suc n = omega arith in
    ap (λ m. take m k) one ∙ take-suc k n x low ∙ ap (λ y. take n k ++ y ∷ []) (get_or_from_slice_get k n x x at)

pub sum_one : {X : Type 0} (f : X → ℕ) (k : List X) (n : ℕ) (x : X) → slice_get k n ≡ Some x → sum_by f (take (n + 1) k) ≡ sum_by f (take n k) + f x
sum_one f k n x at = ap (sum_by f) (take_one k n x at) ∙ sum_by_push f (take n k) x

sum_grows : {X : Type 0} (f : X → ℕ) (k : List X) (n m : ℕ) → n ≤ m → sum_by f (take n k) ≤ sum_by f (take m k)
sum_grows f k n m most =
    let same = ap (sum_by f) (take-take n m k most) in
    let less = sum_by-take-le f (take m k) n in
    omega (arith, same, less)

sum_flat : {X : Type 0} (f : X → ℕ) (k : List X) (n r : ℕ) → ((q : ℕ) (x : X) → n ≤ q → q < n + r → slice_get k q ≡ Some x → f x ≡ 0)
    → sum_by f (take (n + r) k) ≡ sum_by f (take n k)
sum_flat f k n zero none = let e : n + 0 ≡ n = omega arith in ap (λ m. sum_by f (take m k)) e
sum_flat f k n (suc r) none =
    let e : n + suc r ≡ (n + r) + 1 = omega arith in
    let rest : sum_by f (take (n + r) k) ≡ sum_by f (take n k) = sum_flat f k n r (λ q x from to at. none q x from (omega (arith, to)) at) in
    ap (λ m. sum_by f (take m k)) e ∙ elim (slice_get_cases k (n + r)).1 [
      | inl h ↦
          let z : f h.0 ≡ 0 = none (n + r) h.0 (omega arith) (omega arith) h.2 in
          let s = sum_one f k (n + r) h.0 h.2 in
          omega (arith, z, s, rest)
      | inr past ↦
          let low : length k ≤ n + r = past.0 in
          ap (sum_by f) (take_all ((n + r) + 1) k (omega (arith, low)) ∙ sym (take_all (n + r) k low)) ∙ rest
    ]

-- how much comes
pub came_grows : {M : Type 0} (k : List (EntryKind M)) (n m : ℕ) → n ≤ m → length (came_in (take n k)) ≤ length (came_in (take m k))
came_grows k n m most =
    let whole = came_all (take m k) n in
    let sizes = length-append (came_in (take n (take m k))) (came_in (drop n (take m k))) in
    let same = ap (λ l. length (came_in l)) (take-take n m k most) in
    omega (arith, ap length whole, sizes, same)

at_seam : {X : Type 0} (xs ys : List X) (c : X) → slice_get ((xs ++ c ∷ []) ++ ys) (length xs) ≡ Some c
at_seam [] ys c = refl
at_seam (x ∷ xs) ys c = at_seam xs ys c

-- how many messages of an owner stand in a list that another one ends
many_one : {M : Type 0} (owner : M → ℕ) (c : ℕ) (m : M) (xs : List M) (n : ℕ) → slice_get xs n ≡ Some m → owner m ≡ c
    → many owner c (take (n + 1) xs) ≡ many owner c (take n xs) + 1
many_one owner c m xs n at is =
    sum_one (λ x. cond (owner x == c) 1 0) xs n m at
    ∙ ap (λ (b : Bool). many owner c (take n xs) + cond b 1 0) (eq-eqb (owner m) c is)

pub no_send : {M : Type 0} (d : ℕ) (e : EntryKind M) → is_own e ≡ false → sends d e ≡ false
no_send d (kind.Sent to m) is = absurd (cc)
no_send d _ is = refl

bool_cases : (b : Bool) → (b ≡ true) ⊎ (b ≡ false)
bool_cases true = inl refl
bool_cases false = inr refl

abbrev pub unit : Bool → ℕ
unit b = cond b 1 0

many_test : {M : Type 0} (owner : M → ℕ) (c x : ℕ) (m : M) (b : Bool) → owner m ≡ c
    → many owner x (cons_option (cond b (Some m) None) []) ≡ cond b (unit (c == x)) 0
many_test owner c x m true is = zero-add (unit (owner m == x)) ∙ ap (λ y. unit (y == x)) is
many_test owner c x m false is = refl

-- what an entry sends is of its component
pub many_sent : {M : Type 0} (kinds : Kinds M) (owner : M → ℕ) → AreOwnedBy kinds owner → (a : Spot) (e : EntryKind M) (d x : ℕ)
    → kind_at kinds a ≡ Some e → many owner x (cons_option (sent_of d e) []) ≡ cond (sends d e) (unit (a.comp == x)) 0
many_sent kinds owner owned a (kind.Sent to m) d x stands = many_test owner a.comp x m (d == to) (owned a.comp a.place to m stands)
many_sent kinds owner owned a _ d x stands = refl

pub many_here : (c : ℕ) (b : Bool) → cond b (unit (c == c)) 0 ≡ unit b
many_here c true = ap unit (eq-eqb c c refl)
many_here c false = refl

pub many_there : (c x : ℕ) (b : Bool) → (c ≡ x → ⊥) → cond b (unit (c == x)) 0 ≡ 0
many_there c x true other = ap unit (ne_eqb c x other)
many_there c x false other = refl

pub sends_it : {M : Type 0} (d : ℕ) (m : M) → sent_of d (kind.Sent d m) ≡ Some m
sends_it {M} d m = ap (λ (b : Bool). let o : Option M = cond b (Some m) None in o) (eq-eqb d d refl)

module _ {M : Type 0} (kinds : Kinds M) (owner : M → ℕ) (owned : AreOwnedBy kinds owner) (at came out : ℕ → ℕ) (order : List Spot)
    (was : IsGone kinds at came out order) (greedy : IsGreedy kinds owner at out order) (stuck : IsStuck kinds at came out)
    (full : List Spot) (is : IsOrderOf (histories_of kinds) full) where
  -- so far the one order is gone by in the other
  record IsPast (i : ℕ) (gone : ℕ → ℕ) : Type 0 where
    low : (x : ℕ) → gone x ≤ at x
    done : (j : ℕ) (a : Spot) → j < i → IsAt full j a → a.place < gone a.comp
    each : (a : Spot) → IsOwn kinds a → a.place < gone a.comp → (j : ℕ) × (j < i) × IsAt full j a
    counted : (c d : ℕ) → many owner c (sent_by kinds d (take i full)) ≡ count_sent_to d (take (gone c) (kinds c))

  split : (d i : ℕ) → sent_by kinds d (take i full) ++ sent_by kinds d (drop i full) ≡ came_in (kinds d)
  split d i =
      sym (filter_map-append (sent_from kinds d) (take i full) (drop i full)) ∙ ap (λ (l : List Spot). sent_by kinds d l) (take-append-drop i full)
      ∙ sym (is.ended d)

  front : (d i : ℕ) → sent_by kinds d (take i full) ≡ take (length (sent_by kinds d (take i full))) (came_in (kinds d))
  front d i =
      sym (take-append_seam (sent_by kinds d (take i full)) (sent_by kinds d (drop i full)))
      ∙ ap (take (length (sent_by kinds d (take i full)))) (split d i)

  longest : (d i : ℕ) → length (sent_by kinds d (take i full)) ≤ length (came_in (kinds d))
  longest d i =
      let whole = ap length (split d i) in
      let sizes = length-append (sent_by kinds d (take i full)) (sent_by kinds d (drop i full)) in
      omega (arith, whole, sizes)

  grows : (d i j : ℕ) → i ≤ j → length (sent_by kinds d (take i full)) ≤ length (sent_by kinds d (take j full))
  grows d i j most =
      let same = ap (λ (l : List Spot). length (sent_by kinds d l)) (take-take i j full most) in
      let whole : sent_by kinds d (take i (take j full)) ++ sent_by kinds d (drop i (take j full)) ≡ sent_by kinds d (take j full) =
      sym (filter_map-append (sent_from kinds d) (take i (take j full)) (drop i (take j full)))
      ∙ ap (λ (l : List Spot). sent_by kinds d l) (take-append-drop i (take j full)) in
      let sizes = length-append (sent_by kinds d (take i (take j full))) (sent_by kinds d (drop i (take j full))) in
      let all = ap length whole in
      omega (arith, same, all, sizes)

  -- so no more was sent by then
  no_more : (i : ℕ) (gone : ℕ → ℕ) → IsPast i gone → (d : ℕ) → length (sent_by kinds d (take i full)) ≤ out d
  no_more i gone past d =
      let xs = came_in (kinds d) in
      let m = length (sent_by kinds d (take i full)) in
      elim (cases_lt (out d) m) [
        | inr most ↦ most
        | inl less ↦
            let long : m ≤ length xs = longest d i in
            let low : out d < length xs = omega (arith, long, less) in
            let next = slice_there xs (out d) low in
            let c = owner next.0 in
            let one : many owner c (take (out d + 1) xs) ≡ many owner c (take (out d) xs) + 1 = many_one owner c next.0 xs (out d) next.1 refl in
            let more : many owner c (take (out d + 1) xs) ≤ many owner c (take m xs) = sum_grows (λ x. cond (owner x == c) 1 0) xs (out d + 1) m (omega (arith, less)) in
            let here : many owner c (take (out d) xs) ≡ count_sent_to d (take (at c) (kinds c)) = ap (many owner c) (sym (was.sent d)) ∙ greedy.counted c d in
            let there : many owner c (take m xs) ≡ count_sent_to d (take (gone c) (kinds c)) = ap (many owner c) (sym (front d i)) ∙ past.counted c d in
            let grown : count_sent_to d (take (gone c) (kinds c)) ≤ count_sent_to d (take (at c) (kinds c)) =
            sum_grows (λ e. cond (sends d e) 1 0) (kinds c) (gone c) (at c) (past.low c) in
            absurd (omega (arith, one, more, here, there, grown))
      ]

  -- what stands between its component didn't do itself
  between : (i : ℕ) (gone : ℕ → ℕ) → IsPast i gone → (a : Spot) → IsAt full i a → (q : ℕ) (e : EntryKind M) → gone a.comp ≤ q → q < a.place
      → slice_get (kinds a.comp) q ≡ Some e → is_own e ≡ false
  between i gone past a there q e from to stands = elim (bool_cases (is_own e)) [
    | inr met ↦ met
    | inl unmet ↦
        let k = is.kept (spot a.comp q) a (refl, to) (record { act = e; stands = stands; own = unmet }) (is.own i a there) in
        let same : k.1 ≡ i = is.once k.1 i a k.4 there in
        let less : k.0 < k.1 = k.2 in
        let low : q < gone a.comp = past.done k.0 (spot a.comp q) (omega (arith, less, same)) k.3 in
        absurd (omega (arith, low, from))
  ]

  flat : (i : ℕ) (gone : ℕ → ℕ) → IsPast i gone → (a : Spot) → IsAt full i a → gone a.comp ≤ a.place → (d : ℕ)
      → count_sent_to d (take a.place (kinds a.comp)) ≡ count_sent_to d (take (gone a.comp) (kinds a.comp))
  flat i gone past a there most d =
      let k = kinds a.comp in
      let f : EntryKind M → ℕ = λ e. unit (sends d e) in
      let e : gone a.comp + (a.place - gone a.comp) ≡ a.place = omega arith in
      ap (λ n. sum_by f (take n k)) (sym e)
      ∙ sum_flat f k (gone a.comp) (a.place - gone a.comp)
      (λ q x from to stands. ap unit (no_send d x (between i gone past a there q x from (omega (arith, to, most)) stands)))

  -- a sending at the next place of the order is the next one
  one_sent : (i : ℕ) (a : Spot) (e : EntryKind M) (d : ℕ) → IsAt full i a → kind_at kinds a ≡ Some e
      → sent_by kinds d (take (i + 1) full) ≡ sent_by kinds d (take i full) ++ cons_option (sent_of d e) []
  one_sent i a e d there stands =
      ap (λ (l : List Spot). sent_by kinds d l) (take_one full i a there) ∙ filter_map-append (sent_from kinds d) (take i full) (a ∷ [])
      ∙ ap (λ (o : Option (EntryKind M)). sent_by kinds d (take i full) ++ cons_option (option_and_then (sent_of d) o) []) stands

  some_sent : (i : ℕ) (a : Spot) (d : ℕ) (m : M) → IsAt full i a → kind_at kinds a ≡ Some (kind.Sent d m)
      → sent_by kinds d (take (i + 1) full) ≡ sent_by kinds d (take i full) ++ m ∷ []
  some_sent i a d m there stands =
      one_sent i a (kind.Sent d m) d there stands
      ∙ ap (λ (o : Option M). sent_by kinds d (take i full) ++ cons_option o []) (sends_it d m)

  next_is : (i : ℕ) (a : Spot) (d : ℕ) (m : M) → IsAt full i a → kind_at kinds a ≡ Some (kind.Sent d m)
      → slice_get (came_in (kinds d)) (length (sent_by kinds d (take i full))) ≡ Some m
  next_is i a d m there stands =
      let xs = sent_by kinds d (take i full) in
      let rest = sent_by kinds d (drop (i + 1) full) in
      ap (λ (l : List M). slice_get l (length xs)) (sym (split d (i + 1)) ∙ ap (λ (l : List M). l ++ rest) (some_sent i a d m there stands))
      ∙ at_seam xs rest m

  no_less : (i : ℕ) (gone : ℕ → ℕ) → IsPast i gone → (a : Spot) → IsAt full i a → at a.comp ≡ a.place → (d : ℕ) (w : M)
      → kind_at kinds a ≡ Some (kind.Sent d w) → out d ≡ length (sent_by kinds d (take i full))
  no_less i gone past a there place d w stands =
      let c = a.comp in
      let xs = came_in (kinds d) in
      let m = length (sent_by kinds d (take i full)) in
      let most : m ≤ out d = no_more i gone past d in
      elim (cases_lt m (out d)) [
        | inr same ↦ omega (arith, most, same)
        | inl less ↦
            let one : many owner c (take (m + 1) xs) ≡ many owner c (take m xs) + 1 =
            many_one owner c w xs m (next_is i a d w there stands) (owned c a.place d w stands) in
            let more : many owner c (take (m + 1) xs) ≤ many owner c (take (out d) xs) = sum_grows (λ x. cond (owner x == c) 1 0) xs (m + 1) (out d) (omega (arith, less)) in
            let here : many owner c (take (out d) xs) ≡ count_sent_to d (take (at c) (kinds c)) = ap (many owner c) (sym (was.sent d)) ∙ greedy.counted c d in
            let up : many owner c (take m xs) ≡ count_sent_to d (take (gone c) (kinds c)) = ap (many owner c) (sym (front d i)) ∙ past.counted c d in
            let low : gone c ≤ at c = past.low c in
            let level : count_sent_to d (take a.place (kinds c)) ≡ count_sent_to d (take (gone c) (kinds c)) = flat i gone past a there (omega (arith, low, place)) d in
            let same : count_sent_to d (take (at c) (kinds c)) ≡ count_sent_to d (take a.place (kinds c)) = ap (λ n. count_sent_to d (take n (kinds c))) place in
            absurd (omega (arith, one, more, here, up, level, same))
      ]

  looked_first : (i : ℕ) (gone : ℕ → ℕ) → IsPast i gone → (a : Spot) → IsAt full i a → at a.comp ≡ a.place → (d : ℕ) (w : M)
      → kind_at kinds a ≡ Some (kind.Sent d w) → AreLookedBefore (kinds d) (out d) (at d)
  looked_first i gone past a there place d w stands q look few =
      let m = no_less i gone past a there place d w stands in
      let j = is.each (spot d q) (record { act = kind.Looked; stands = look; own = refl }) in
      elim (cases_order j.0 i) [
        | inl same ↦
            let one : spot d q ≡ a = same_Some (spot d q) a (sym j.1 ∙ ap (λ n. slice_get full n) same ∙ there) in
            let act : kind.Looked ≡ kind.Sent d w = same_Some kind.Looked (kind.Sent d w) (sym look ∙ ap (kind_at kinds) one ∙ stands) in
            absurd (cc)
        | inr (inl less) ↦
            let b : q < gone d = past.done j.0 (spot d q) less j.1 in
            let low : gone d ≤ at d = past.low d in
            omega (arith, b, low)
        | inr (inr more) ↦
            let all = ap length (is.seen j.0 (spot d q) j.1 look) in
            let on = grows d (i + 1) j.0 (omega (arith, more)) in
            let one = ap length (some_sent i a d w there stands) in
            let size = length-append (sent_by kinds d (take i full)) (w ∷ []) in
            let unit_size : length (w ∷ []) ≡ 1 = refl in
            absurd (omega (arith, all, on, one, size, unit_size, few, m))
      ]

  -- so the next one of the order could be done
  could : (i : ℕ) (gone : ℕ → ℕ) → IsPast i gone → (a : Spot) → IsAt full i a → at a.comp ≡ a.place → (e : EntryKind M)
      → kind_at kinds a ≡ Some e → is_own e ≡ true → CanHappen kinds at came out a.comp e
  could i gone past a there place (kind.Came m) stands own = absurd (cc)
  could i gone past a there place kind.Looked stands own =
      let c = a.comp in
      let most : came c ≤ out c = was.most c in
      elim (cases_lt (came c) (out c)) [
        | inr same ↦ omega (arith, most, same)
        | inl less ↦
            let known : length (came_in (take (at c) (kinds c))) ≡ came c = was.known c in
            let low : at c < at c = greedy.looked c (at c) (ap (λ n. slice_get (kinds c) n) place ∙ stands) (omega (arith, known, less)) in
            absurd (omega (arith, low))
      ]
  could i gone past a there place kind.Quiet stands own = tt
  could i gone past a there place kind.Nothing stands own = tt
  could i gone past a there place (kind.Sent d m) stands own =
      let size = no_less i gone past a there place d m stands in (
        ap (λ n. slice_get (came_in (kinds d)) n) size ∙ next_is i a d m there stands,
        looked_first i gone past a there place d m stands,
      )

  -- what came could be gone by
  comes : (c : ℕ) (e : EntryKind M) → slice_get (kinds c) (at c) ≡ Some e → is_own e ≡ false
      → length (came_in (take (at c + 1) (kinds c))) ≤ out c → ⊥
  comes c (kind.Came m) stands alien most =
      let log = kinds c in
      let known : length (came_in (take (at c) log)) ≡ came c = was.known c in
      let on = ap length (came_on log (at c) (kind.Came m) stands) in
      let one = one_more (Some m) m (came_in (take (at c) log)) refl in
      let may : came c < out c = omega (arith, known, on, one, most) in
      stuck c (kind.Came m) stands may
  comes c kind.Nothing stands alien most = stuck c kind.Nothing stands tt
  comes c _ stands alien most = absurd (cc)

  goes : (i : ℕ) (gone : ℕ → ℕ) → IsPast i gone → (a : Spot) → IsAt full i a → a.place < at a.comp
  goes i gone past a there =
      let c = a.comp in
      let log = kinds c in
      let own = is.own i a there in
      let within : a.place < length log = slice_get_within log a.place own.act own.stands in
      elim (cases_lt a.place (at c)) [
        | inl less ↦ less
        | inr behind ↦ elim (cases_lt (at c) a.place) [
          | inl less ↦
              let e = get_or log (at c) own.act in
              let stands : slice_get log (at c) ≡ Some e = slice_get-get_or log (at c) own.act (omega (arith, less, within)) in
              let arrival = between i gone past a there (at c) e (past.low c) less stands in
              let on = came_grows log (at c + 1) a.place (omega (arith, less)) in
              let f = is.sent i a there in
              let size = length-append (came_before kinds a) f.0 in
              let whole = ap length f.1 in
              let most = no_more i gone past c in
              absurd (comes c e stands arrival (omega (arith, on, size, whole, most)))
          | inr other ↦
              let place : at c ≡ a.place = omega (arith, behind, other) in
              absurd (stuck c own.act (ap (λ n. slice_get log n) place ∙ own.stands) (could i gone past a there place own.act own.stands own.own))
        ]
      ]

  past_none : IsPast 0 (λ x. 0)
  past_none = record {
    low = λ x. omega arith;
    done = λ j a less there. absurd (omega (arith, less));
    each = λ a own less. absurd (omega (arith, less));
    counted = λ c d. refl;
  }

  -- one more is gone by
  past_more : (i : ℕ) (gone : ℕ → ℕ) → IsPast i gone → (a : Spot) → IsAt full i a → IsPast (i + 1) (λ x. cond (x == a.comp) (a.place + 1) (gone x))
  past_more i gone past a there =
      let c = a.comp in
      let log = kinds c in
      let own = is.own i a there in
      let then : ℕ → ℕ = λ x. cond (x == c) (a.place + 1) (gone x) in
      let here : (x : ℕ) → x ≡ c → then x ≡ a.place + 1 = λ x same. ap (λ (b : Bool). cond b (a.place + 1) (gone x)) (eq-eqb x c same) in
      let others : (x : ℕ) → (x ≡ c → ⊥) → then x ≡ gone x = λ x other. ap (λ (b : Bool). cond b (a.place + 1) (gone x)) (ne_eqb x c other) in
      let less : a.place < at c = goes i gone past a there in
      let most : gone c ≤ a.place = elim (cases_lt a.place (gone c)) [
        | inr h ↦ h
        | inl h ↦
            let j = past.each a own h in
            let same : j.0 ≡ i = is.once j.0 i a j.2 there in
            let before : j.0 < i = j.1 in
            absurd (omega (arith, same, before))
      ] in
      record {
        low = λ x. elim (cases_eq x c) [
          | inl same ↦ let e : then x ≡ a.place + 1 = here x same in let f : at x ≡ at c = ap at same in omega (arith, e, f, less)
          | inr other ↦ let e : then x ≡ gone x = others x other in let f : gone x ≤ at x = past.low x in omega (arith, e, f)
        ];
        done = λ j b to at_j. elim (cases_eq j i) [
          | inl same ↦
              let one : a ≡ b = same_Some a b (sym there ∙ ap (λ n. slice_get full n) (sym same) ∙ at_j) in
              let P : Spot → Type 0 = λ s. s.place < then s.comp in
              let e : then c ≡ a.place + 1 = here c refl in
              subst P one (omega (arith, e))
          | inr other ↦
              let h : b.place < gone b.comp = past.done j b (omega (arith, to, other)) at_j in
              elim (cases_eq b.comp c) [
                | inl same ↦ let e : then b.comp ≡ a.place + 1 = here b.comp same in let f : gone b.comp ≡ gone c = ap gone same in omega (arith, e, f, h, most)
                | inr away ↦ let e : then b.comp ≡ gone b.comp = others b.comp away in omega (arith, e, h)
              ]
        ];
        each = λ b one under. elim (cases_lt b.place (gone b.comp)) [
          | inl old ↦ let h = past.each b one old in let low : h.0 < i = h.1 in (h.0, omega (arith, low), h.2)
          | inr from ↦ elim (cases_eq b.comp c) [
            | inr away ↦ let e : then b.comp ≡ gone b.comp = others b.comp away in absurd (omega (arith, e, from, under))
            | inl same ↦
                let e : then b.comp ≡ a.place + 1 = here b.comp same in
                let f : gone b.comp ≡ gone c = ap gone same in
                elim (cases_eq b.place a.place) [
                  | inl level ↦ (i, omega arith, subst (IsAt full i) (sym (spot_is b c a.place same level)) there)
                  | inr unlike ↦
                      let stands : slice_get log b.place ≡ Some one.act = ap (λ n. slice_get (kinds n) b.place) (sym same) ∙ one.stands in
                      let arrival = between i gone past a there b.place one.act (omega (arith, f, from)) (omega (arith, e, under, unlike)) stands in
                      absurd (false≢true (sym arrival ∙ one.own))
                ]
          ]
        ];
        counted = λ x d.
            let met = sends d own.act in
            let list = ap (many owner x) (one_sent i a own.act d there own.stands) in
            let parts = sum_by-append (λ y. cond (owner y == x) 1 0) (sent_by kinds d (take i full)) (cons_option (sent_of d own.act) []) in
            let was_so : many owner x (sent_by kinds d (take i full)) ≡ count_sent_to d (take (gone x) (kinds x)) = past.counted x d in
            let more = many_sent kinds owner owned a own.act d x own.stands in
            elim (cases_eq x c) [
              | inl same ↦
                  let P : ℕ → Type 0 = λ y. many owner c (sent_by kinds d (take (i + 1) full)) ≡ count_sent_to d (take y log) in
                  let Q : ℕ → Type 0 = λ y. many owner y (sent_by kinds d (take (i + 1) full)) ≡ count_sent_to d (take (then y) (kinds y)) in
                  let list = ap (many owner c) (one_sent i a own.act d there own.stands) in
                  let parts = sum_by-append (λ y. cond (owner y == c) 1 0) (sent_by kinds d (take i full)) (cons_option (sent_of d own.act) []) in
                  let before : many owner c (sent_by kinds d (take i full)) ≡ count_sent_to d (take (gone c) log) = past.counted c d in
                  let one = many_sent kinds owner owned a own.act d c own.stands ∙ many_here c met in
                  let on = sum_one (λ e. unit (sends d e)) log a.place own.act own.stands in
                  let level = flat i gone past a there most d in
                  let sum : many owner c (sent_by kinds d (take (i + 1) full)) ≡ count_sent_to d (take (a.place + 1) log) = omega (arith, list, parts, before, one, on, level) in
                  subst Q (sym same) (subst P (sym (here c refl)) sum)
              | inr other ↦
                  let none = more ∙ many_there c x met (λ e. other (sym e)) in
                  let e = ap (λ n. count_sent_to d (take n (kinds x))) (others x other) in
                  omega (arith, list, parts, was_so, none, e)
            ];
      }

  all_past : (i : ℕ) → i ≤ length full → (gone : ℕ → ℕ) × IsPast i gone
  all_past zero most = (λ x. 0, past_none)
  all_past (suc i) most =
      let was = all_past i (omega (arith, most)) in
      let a = get_or full i (spot 0 0) in
      let there : IsAt full i a = slice_get-get_or full i (spot 0 0) (omega (arith, most)) in
      let e : i + 1 ≡ suc i = omega arith in
      let then : ℕ → ℕ = λ x. cond (x == a.comp) (a.place + 1) (was.0 x) in
      (then, subst (λ (n : ℕ). IsPast n then) e (past_more i was.0 was.1 a there))

  -- so all is done
  all_out : (x : ℕ) → out x ≡ length (came_in (kinds x))
  all_out x =
      let past = all_past (length full) (omega arith) in
      let most = no_more (length full) past.0 past.1 x in
      let whole = ap (λ (l : List Spot). length (sent_by kinds x l)) (take_all (length full) full (omega arith)) in
      let end = ap length (is.ended x) in
      let fits : out x ≤ length (came_in (kinds x)) = greedy.fits x in
      omega (arith, most, whole, end, fits)

  pub all_gone : (x : ℕ) → at x ≡ length (kinds x)
  all_gone x =
      let log = kinds x in
      let within : at x ≤ length log = was.within x in
      elim (slice_get_cases log (at x)).1 [
        | inr end ↦ let most : length log ≤ at x = end.0 in omega (arith, within, most)
        | inl h ↦ absurd (elim (bool_cases (is_own h.0)) [
          | inr arrival ↦
              let out_x : out x ≡ length (came_in log) = all_out x in
              let low : at x < length log = h.1 in
              let on = came_grows log (at x + 1) (length log) (omega (arith, low)) in
              let whole = ap (λ l. length (came_in l)) (take_all (length log) log (omega arith)) in
              comes x h.0 h.2 arrival (omega (arith, out_x, on, whole))
          | inl unmet ↦
              let past = all_past (length full) (omega arith) in
              let j = is.each (spot x (at x)) (record { act = h.0; stands = h.2; own = unmet }) in
              let under : j.0 < length full = slice_get_within full j.0 (spot x (at x)) j.1 in
              let low : at x < past.0 x = past.1.done j.0 (spot x (at x)) under j.1 in
              let most : past.0 x ≤ at x = past.1.low x in
              omega (arith, low, most)
        ])
      ]
