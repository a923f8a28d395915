-- A component does its next thing, of one kind or another.
use Rattle.std.proofs.Common.{◌≡◌, inl, inr, ℕ, zero, suc, ◌+◌, ◌-◌, ◌*◌, ◌<◌, ◌≤◌, ◌==◌, Bool, true, false, cond}
use Rattle.std.proofs.Common.{eq-eqb, Option, Some, None, List, [], ◌∷◌, ◌++◌, length, get_or, set, sum, take}
use Rattle.std.proofs.Common.{replicate, slice_index, refl, sym, ap, ◌∙◌, subst, arith}
use Rattle.std.specs.Prelude.{slice_get, option_and_then}
use Rattle.std.specs.List.{cons_option, filter_map}
use Rattle.std.proofs.Math.Seq.{take-suc}
use Rattle.std.proofs.lemmas.Bool.{cases_eq, cases_lt, ne_eqb}
use Rattle.std.proofs.lemmas.List.{append-nil, get_or_past, get_or-replicate, length-replicate}
use Rattle.std.proofs.lemmas.List.{get_or_append_left, get_or_push, get_or-set_same, get_or-set_other, length_push, take_all}
use Rattle.std.proofs.lemmas.List.Elements.{filter_map-append}
use Rattle.std.proofs.lemmas.List.Sums.{sum_by-append, sum_by-cons}
use Rattle.std.proofs.lemmas.Option.{same_Some, slice_get_within, get_or_from_slice_get}
use Rattle.tp_judge.specs.declared.kind.EntryKind.{EntryKind}
use Rattle.tp_judge.specs.declared.kind.EntryKind.TheVariants as kind
use Rattle.tp_judge.specs.OneOrder.{HasOneOrder}
use Rattle.tp_judge.specs.Kinds.{AreOwnedBy, Kinds, Spot, came_in, came_of, histories_of, is_own, kind_at, sends}
use Rattle.tp_judge.specs.Kinds.{sent_by, sent_from, sent_of}
use Rattle.tp_judge.specs.declared.progress.OrderProgress.{OrderProgress}
use Rattle.tp_judge.specs.OrderProgress.{AreBegun, HasSize, IsBegun, came_then, sent_then}
use Rattle.tp_judge.specs.Greedy.{CanHappen, IsGreedy, IsProgress, IsProgressBy, count_sent_to, entries_of, many, sum_below}
use Rattle.tp_judge.proofs.NoOrderWhereStuck.{many_here, many_sent, many_there, no_send, sends_it, sum_one, unit}
use Rattle.tp_judge.proofs.SpotOrderGrowth.{came_on, gone_all, gone_none, gone_over, gone_own, nothing_came, one_more, spot}

-- of a list in which one number is one more
here : (xs : List ℕ) (c : ℕ) → c < length xs → slice_index (set xs c (slice_index xs c + 1)) c ≡ slice_index xs c + 1
here xs c low = get_or-set_same xs c (slice_index xs c + 1) 0 low

others : (xs : List ℕ) (c x : ℕ) → (x ≡ c → ⊥) → slice_index (set xs c (slice_index xs c + 1)) x ≡ slice_index xs x
others xs c x other = get_or-set_other xs c x (slice_index xs c + 1) 0 other

grown : (xs : List ℕ) (c x : ℕ) → c < length xs → slice_index xs x ≤ slice_index (set xs c (slice_index xs c + 1)) x
grown xs c x low = elim (cases_eq x c) [
  | inl same ↦ let P : ℕ → Type 0 = λ y. slice_index xs y ≤ slice_index (set xs c (slice_index xs c + 1)) y in
      let e = here xs c low in subst P (sym same) (omega (arith, e))
  | inr other ↦ let e = others xs c x other in omega (arith, e)
]

abbrev AreLookedBelow : {M : Type 0} → List (EntryKind M) → ℕ → ℕ → Type 0
AreLookedBelow {M} k n place =
    (q : ℕ) → slice_get k q ≡ Some kind.Looked → length (came_in (take q k)) < n → q < place

none_some : {X : Type 0} (x : X) → (let o : Option X = None in o ≡ Some x) → ⊥
none_some x e = cc

module _ {M : Type 0} (kinds : Kinds M) (owner : M → ℕ) (owned : AreOwnedBy kinds owner) where
  -- what an entry sends, by its spot
  sent_there : (c p : ℕ) (e : EntryKind M) (x : ℕ) → kind_at kinds (spot c p) ≡ Some e → sent_from kinds x (spot c p) ≡ sent_of x e
  sent_there c p e x stands = ap (option_and_then (sent_of x)) stands

  -- nothing is sent
  none_more : (c p : ℕ) (e : EntryKind M) (x n : ℕ) → kind_at kinds (spot c p) ≡ Some e → sent_of x e ≡ None
      → take n (came_in (kinds x)) ≡ take n (came_in (kinds x)) ++ cons_option (sent_from kinds x (spot c p)) []
  none_more c p e x n stands none =
      sym (ap (λ (y : Option M). take n (came_in (kinds x)) ++ cons_option y []) (sent_there c p e x stands ∙ none)
      ∙ append-nil (take n (came_in (kinds x))))

  some_more : (c p : ℕ) (x n : ℕ) (m : M) → kind_at kinds (spot c p) ≡ Some (kind.Sent x m)
      → slice_get (came_in (kinds x)) n ≡ Some m
      → take (n + 1) (came_in (kinds x)) ≡ take n (came_in (kinds x)) ++ cons_option (sent_from kinds x (spot c p)) []
  some_more c p x n m stands at =
      let xs = came_in (kinds x) in
      let low : n < length xs = slice_get_within xs n m at in
      let one : n + 1 ≡ suc n = omega arith in
      ap (λ k. take k xs) one ∙ take-suc xs n m low ∙ ap (λ y. take n xs ++ y ∷ []) (get_or_from_slice_get xs n m m at)
      ∙ sym (ap (λ (y : Option M). take n xs ++ cons_option y []) (sent_there c p (kind.Sent x m) x stands ∙ sends_it x m))

  -- what is known of what was sent stays so
  greedy_own : (at out at' out' : ℕ → ℕ) (order : List Spot) (c : ℕ) (e : EntryKind M) → IsGreedy kinds owner at out order
      → kind_at kinds (spot c (at c)) ≡ Some e → at' c ≡ at c + 1 → ((x : ℕ) → (x ≡ c → ⊥) → at' x ≡ at x)
      → ((x : ℕ) → out' x ≤ length (came_in (kinds x)))
      → ((x : ℕ) → AreLookedBelow (kinds x) (out' x) (at' x))
      → IsGreedy kinds owner at' out' (order ++ spot c (at c) ∷ [])
  greedy_own at out at' out' order c e was stands then away fits looked = record {
    fits = fits;
    looked = λ x q look less. looked x q look less;
    counted = λ x d.
        let met = sends d e in
        let new = spot c (at c) in
        let list : (y : ℕ) → many owner y (sent_by kinds d (order ++ new ∷ [])) ≡ many owner y (sent_by kinds d order) + cond met (unit (c == y)) 0 = λ y.
        ap (many owner y) (filter_map-append (sent_from kinds d) order (new ∷ [])
        ∙ ap (λ (o : Option M). sent_by kinds d order ++ cons_option o []) (sent_there c (at c) e d stands))
        ∙ sum_by-append (λ z. cond (owner z == y) 1 0) (sent_by kinds d order) (cons_option (sent_of d e) [])
        ∙ ap (λ n. many owner y (sent_by kinds d order) + n) (many_sent kinds owner owned new e d y stands) in
        elim (cases_eq x c) [
          | inl same ↦
              let P : ℕ → Type 0 = λ y. many owner y (sent_by kinds d (order ++ new ∷ [])) ≡ count_sent_to d (take (at' y) (kinds y)) in
              let here = list c in
              let one = many_here c met in
              let on = sum_one (λ z. unit (sends d z)) (kinds c) (at c) e stands in
              let up = ap (λ n. count_sent_to d (take n (kinds c))) then in
              let before = was.counted c d in
              subst P (sym same) (omega (arith, here, one, on, up, before))
          | inr other ↦
              let here = list x in
              let none = many_there c x met (λ f. other (sym f)) in
              let up = ap (λ n. count_sent_to d (take n (kinds x))) (away x other) in
              let before = was.counted x d in
              omega (arith, here, none, up, before)
        ];
  }

  greedy_came : (at out at' : ℕ → ℕ) (order : List Spot) (c : ℕ) (e : EntryKind M) → IsGreedy kinds owner at out order
      → kind_at kinds (spot c (at c)) ≡ Some e → is_own e ≡ false → at' c ≡ at c + 1 → ((x : ℕ) → (x ≡ c → ⊥) → at' x ≡ at x)
      → IsGreedy kinds owner at' out order
  greedy_came at out at' order c e was stands arrival then away = record {
    fits = was.fits;
    looked = λ x q look less.
        let low : q < at x = was.looked x q look less in
        elim (cases_eq x c) [
          | inl same ↦ let g : at x ≡ at c = ap at same in let h : at' x ≡ at' c = ap at' same in omega (arith, low, g, h, then)
          | inr other ↦ let g : at' x ≡ at x = away x other in omega (arith, low, g)
        ];
    counted = λ x d. was.counted x d ∙ elim (cases_eq x c) [
      | inl same ↦
          let P : ℕ → Type 0 = λ y. count_sent_to d (take (at y) (kinds y)) ≡ count_sent_to d (take (at' y) (kinds y)) in
          let on = sum_one (λ z. unit (sends d z)) (kinds c) (at c) e stands in
          let none = ap unit (no_send d e arrival) in
          let up = ap (λ n. count_sent_to d (take n (kinds c))) then in
          subst P (sym same) (omega (arith, on, none, up))
      | inr other ↦ sym (ap (λ n. count_sent_to d (take n (kinds x))) (away x other))
    ];
  }

  -- the next thing is done, which its component didn't do itself
  over : (places known known' sent : List ℕ) (c : ℕ) (e : EntryKind M) → kind_at kinds (spot c (slice_index places c)) ≡ Some e
      → c < length places → is_own e ≡ false
      → length (came_in (take (slice_index places c + 1) (kinds c))) ≡ slice_index known' c → slice_index known' c ≤ slice_index sent c
      → ((x : ℕ) → (x ≡ c → ⊥) → slice_index known' x ≡ slice_index known x)
      → IsProgressBy kinds owner places known sent → IsProgressBy kinds owner (set places c (slice_index places c + 1)) known' sent
  over places known known' sent c e stands low alien came most same was =
      let at = slice_index places in
      let then = slice_index (set places c (slice_index places c + 1)) in (
        was.0,
        gone_over kinds at (slice_index known) (slice_index sent) then (slice_index known') was.0 c e was.1 stands alien (here places c low) (others places c)
            came most same,
        greedy_came at (slice_index sent) then was.0 c e was.2 stands alien (here places c low) (others places c),
      )

  -- or did itself without sending anything
  alone : (places known sent : List ℕ) (c : ℕ) (e : EntryKind M) → kind_at kinds (spot c (slice_index places c)) ≡ Some e
      → c < length places → is_own e ≡ true → ((x : ℕ) → sent_of x e ≡ None)
      → (e ≡ kind.Looked → slice_index known c ≡ slice_index sent c)
      → IsProgressBy kinds owner places known sent → IsProgressBy kinds owner (set places c (slice_index places c + 1)) known sent
  alone places known sent c e stands low own none looks was =
      let at = slice_index places in
      let out = slice_index sent in
      let then = slice_index (set places c (slice_index places c + 1)) in (
        was.0 ++ spot c (slice_index places c) ∷ [],
        gone_own kinds at (slice_index known) out then
            out was.0 c e was.1 stands own looks (here places c low) (others places c) (λ x. omega arith)
            (λ x. none_more c (slice_index places c) e x (slice_index sent x) stands (none x)),
        greedy_own at out then out was.0 c e was.2 stands (here places c low) (others places c) was.2.fits
            (λ x q look less. let g = grown places c x low in let l = was.2.looked x q look less in omega (arith, g, l)),
      )

  pub done : (places known sent : List ℕ) (c : ℕ) (e : EntryKind M)
      → kind_at kinds (spot c (slice_index places c)) ≡ Some e → c < length places → c < length known
      → ((d : ℕ) → length sent ≤ d → kinds d ≡ [])
      → CanHappen kinds (slice_index places) (slice_index known) (slice_index sent) c e
      → IsProgressBy kinds owner places known sent
      → IsProgressBy kinds owner (set places c (slice_index places c + 1)) (came_then c e known) (sent_then e sent)
  done places known sent c (kind.Came m) stands low low_known past can was =
      let n = slice_index places c in
      let known_is : length (came_in (take n (kinds c))) ≡ slice_index known c = was.1.known c in
      let on = ap length (came_on (kinds c) n (kind.Came m) stands) in
      let one = one_more (Some m) m (came_in (take n (kinds c))) refl in
      let up = here known c low_known in
      over places known (set known c (slice_index known c + 1)) sent c (kind.Came m) stands low refl
      (omega (arith, known_is, on, one, up)) (omega (arith, up, can)) (others known c) was
  done places known sent c kind.Nothing stands low low_known past can was =
      let n = slice_index places c in
      let none = came_on (kinds c) n kind.Nothing stands ∙ append-nil (came_in (take n (kinds c))) in
      over places known known sent c kind.Nothing stands low refl (ap length none ∙ was.1.known c) (was.1.most c) (λ x other. refl) was
  done places known sent c kind.Looked stands low low_known past can was =
      alone places known sent c kind.Looked stands low refl (λ x. refl) (λ look. can) was
  done places known sent c kind.Quiet stands low low_known past can was =
      alone places known sent c kind.Quiet stands low refl (λ x. refl) (λ look. absurd (cc)) was
  done places known sent c (kind.Sent d m) stands low low_known past can was =
      let awaited : slice_get (came_in (kinds d)) (slice_index sent d) ≡ Some m = can.0 in
      let within : d < length sent = elim (cases_lt d (length sent)) [
        | inl less ↦ less
        | inr above ↦
            let e : slice_get (came_in (kinds d)) (slice_index sent d) ≡ None = ap (λ (k : List (EntryKind M)). slice_get (came_in k) (slice_index sent d)) (past d above) in
            absurd (none_some m (sym e ∙ awaited))
      ] in
      let at = slice_index places in
      let out = slice_index sent in
      let then = slice_index (set places c (slice_index places c + 1)) in
      let more = slice_index (set sent d (slice_index sent d + 1)) in
      let fit : slice_index sent d < length (came_in (kinds d)) = slice_get_within (came_in (kinds d)) (slice_index sent d) m awaited in (
        was.0 ++ spot c (slice_index places c) ∷ [],
        gone_own kinds at (slice_index known) out then
            more was.0 c (kind.Sent d m) was.1 stands refl (λ look. absurd (cc)) (here places c low) (others places c)
            (λ x. grown sent d x within)
            (λ x. elim (cases_eq x d) [
              | inl same ↦
                  let P : ℕ → Type 0 = λ y. take (slice_index (set sent d (slice_index sent d + 1)) y) (came_in (kinds y))
                  ≡ take (slice_index sent y) (came_in (kinds y)) ++ cons_option (sent_from kinds y (spot c (slice_index places c))) [] in
                  subst P (sym same)
                  (ap (λ n. take n (came_in (kinds d))) (here sent d within)
                  ∙ some_more c (slice_index places c) d (slice_index sent d) m stands awaited)
              | inr other ↦
                  ap (λ n. take n (came_in (kinds x))) (others sent d x other)
                  ∙ none_more c (slice_index places c) (kind.Sent d m) x (slice_index sent x) stands
                  (ap (λ (b : Bool). let o : Option M = cond b (Some m) None in o) (ne_eqb x d other))
            ]),
        greedy_own at out then more was.0 c (kind.Sent d m) was.2 stands (here places c low) (others places c)
            (λ x. elim (cases_eq x d) [
              | inl same ↦
                  let P : ℕ → Type 0 = λ y. more y ≤ length (came_in (kinds y)) in
                  let g = here sent d within in subst P (sym same) (omega (arith, g, fit))
              | inr other ↦ let g = others sent d x other in let l = was.2.fits x in omega (arith, g, l)
            ])
            (λ x. elim (cases_eq x d) [
              | inl same ↦
                  let P : ℕ → Type 0 = λ y. AreLookedBelow (kinds y) (more y) (then y) in
                  subst P (sym same) (λ q look less.
                  let g = here sent d within in
                  let up = grown places c d low in
                  let l = can.1 q look (omega (arith, g, less)) in omega (arith, up, l))
              | inr other ↦ λ q look less.
                  let g = others sent d x other in
                  let up = grown places c x low in
                  let l = was.2.looked x q look (omega (arith, g, less)) in omega (arith, up, l)
            ]),
      )

pub still_came : {M : Type 0} (k : List (EntryKind M)) (n : ℕ) (e : EntryKind M) → slice_get k n ≡ Some e → came_of e ≡ None
    → came_in (take (n + 1) k) ≡ came_in (take n k)
still_came {M} k n e at none =
    came_on k n e at ∙ ap (λ (o : Option M). came_in (take n k) ++ cons_option o []) none ∙ append-nil (came_in (take n k))

-- what is sent grows
pub sent_grows : {M : Type 0} (k : EntryKind M) (sent : List ℕ) (c : ℕ) → slice_index sent c ≤ slice_index (sent_then k sent) c
sent_grows (kind.Sent d m) sent c = elim (cases_lt d (length sent)) [
  | inl low ↦ grown sent d c low
  | inr past ↦ elim (cases_eq c d) [
    | inl same ↦
        let none : slice_index sent c ≡ 0 = get_or_past sent c 0 (omega (arith, past, same)) in
        omega (arith, none)
    | inr other ↦ let e = others sent d c other in omega (arith, e)
  ]
]
sent_grows _ sent c = omega arith

-- the places together are no more than all entries
sum_within : (f : ℕ → ℕ) (places : List ℕ) → ((c : ℕ) → slice_index places c ≤ f c) → sum places ≤ sum_below f (length places)
sum_within f [] within = omega arith
sum_within f (p ∷ ps) within =
    let first : p ≤ f 0 = within 0 in
    let rest = sum_within (λ c. f (suc c)) ps (λ c. within (suc c)) in
    let one = sum_by-cons (λ (n : ℕ). n) p ps in
    omega (arith, first, rest, one)

places_within : {M : Type 0} (kinds : Kinds M) (owner : M → ℕ) (places known sent : List ℕ) (n : ℕ) → length places ≡ n
    → IsProgressBy kinds owner places known sent → sum places ≤ entries_of kinds n
places_within kinds owner places known sent n size was =
    let P : ℕ → Type 0 = λ k. sum places ≤ entries_of kinds k in
    subst P size (sum_within (λ c. length (kinds c)) places was.1.within)

-- nothing is sent where nothing stands
nothing_sent : {M : Type 0} (d : ℕ) (k : List (EntryKind M)) (n : ℕ) → ((q : ℕ) → q < n → slice_get k q ≡ Some kind.Nothing)
    → count_sent_to d (take n k) ≡ 0
nothing_sent d k zero none = refl
nothing_sent d [] (suc n) none = refl
nothing_sent d (e ∷ k) (suc n) none =
    let is : e ≡ kind.Nothing = same_Some e kind.Nothing (none 0 (omega arith)) in
    let here = ap (λ x. unit (sends d x)) is in
    let rest = nothing_sent d k n (λ q low. none (suc q) (omega (arith, low))) in
    let one = sum_by-cons (λ z. unit (sends d z)) e (take n k) in
    omega (arith, here, rest, one)

pub all_within : {M : Type 0} (kinds : Kinds M) (n : ℕ) (progress : OrderProgress) → HasSize progress n → IsProgress kinds progress
    → sum progress.places.items ≤ entries_of kinds n
all_within kinds n progress size was =
    places_within kinds was.0 progress.places.items progress.came.items progress.sent.items n size.places was.2

-- at first nothing is gone by
pub zeros : (n x : ℕ) → slice_index (replicate n 0) x ≡ 0
zeros n x = elim (cases_lt x n) [
  | inl low ↦ get_or-replicate n x 0 0 low
  | inr past ↦ let e : length (replicate n 0) ≡ n = length-replicate {A = ℕ} n 0 in get_or_past (replicate n 0) x 0 (omega (arith, e, past))
]

begun_at : {M : Type 0} (kinds : Kinds M) (n : ℕ) (places : List ℕ) → AreBegun kinds n places → (x : ℕ) → IsBegun (kinds x) (slice_index places x)
begun_at kinds n places are x = elim (cases_lt x (length places)) [
  | inl low ↦ are.each x low
  | inr past ↦
      let none : slice_index places x ≡ 0 = get_or_past places x 0 past in
      record { within = omega (arith, none); nothing = λ q low. absurd (omega (arith, low, none)) }
]

pub begun_no : {M : Type 0} (kinds : Kinds M) (places : List ℕ) → places ≡ [] → AreBegun kinds 0 places
begun_no kinds places none = record {
  size_is = ap length none;
  each = λ c low. let size = ap length none in absurd (omega (arith, low, size));
}

pub begun_more : {M : Type 0} (kinds : Kinds M) (n p : ℕ) (places more : List ℕ) → more ≡ places ++ p ∷ [] → IsBegun (kinds n) p
    → AreBegun kinds n places → AreBegun kinds (n + 1) more
begun_more kinds n p places more pushed begun are =
    let size = length_push places p in
    let now = ap length pushed in
    let was = are.size_is in
    record {
      size_is = omega (arith, size, now, was);
      each = λ c low. elim (cases_lt c n) [
        | inl under ↦
            let e : slice_index more c ≡ slice_index places c =
            ap (λ l. slice_index l c) pushed ∙ get_or_append_left places (p ∷ []) 0 c (omega (arith, under, was)) in
            subst (IsBegun (kinds c)) (sym e) (are.each c (omega (arith, under, was)))
        | inr past ↦
            let same : c ≡ n = omega (arith, past, low, size, now, was) in
            let e : slice_index more c ≡ p = ap (λ l. slice_index l c) pushed ∙ get_or_push places p 0 c (was ∙ sym same) in
            let P : ℕ → Type 0 = λ x. IsBegun (kinds x) (slice_index more c) in
            subst P (sym same) (subst (IsBegun (kinds n)) (sym e) begun)
      ];
    }

pub begun : {M : Type 0} (kinds : Kinds M) (owner : M → ℕ) (n m k : ℕ) (places : List ℕ) → AreBegun kinds n places
    → IsProgressBy kinds owner places (replicate m 0) (replicate k 0)
begun kinds owner n m k places are = (
  [],
  gone_none kinds (slice_index places) (slice_index (replicate m 0)) (slice_index (replicate k 0)) (begun_at kinds n places are) (zeros m) (zeros k),
  record {
    fits = λ x. let e = zeros k x in omega (arith, e);
    looked = λ x q look less. let e = zeros k x in absurd (omega (arith, e, less));
    counted = λ x d. sym (nothing_sent d (kinds x) (slice_index places x) (begun_at kinds n places are x).nothing);
  },
)

-- at last all is, and then all that came was sent
pub ended : {M : Type 0} (kinds : Kinds M) (owner : M → ℕ) (n : ℕ) (places came sent : List ℕ) → IsProgressBy kinds owner places came sent
    → length places ≡ n → ((c : ℕ) → n ≤ c → kinds c ≡ [])
    → ((c : ℕ) → c < n → slice_index places c ≡ length (kinds c)) → HasOneOrder (histories_of kinds)
ended kinds owner n places came sent was size no_more end =
    let done : (c : ℕ) → slice_index places c ≡ length (kinds c) = λ c. elim (cases_lt c n) [
      | inl low ↦ end c low
      | inr past ↦ get_or_past places c 0 (omega (arith, size, past)) ∙ sym (ap length (no_more c past))
    ] in (
      was.0,
      gone_all kinds (slice_index places) (slice_index came) (slice_index sent) was.0 was.1 done (λ c.
          let log = kinds c in
          let gone : length (came_in (take (slice_index places c) log)) ≡ slice_index came c = was.1.known c in
          let whole = ap (λ n. length (came_in (take n log))) (done c) ∙ ap (λ l. length (came_in l)) (take_all (length log) log (omega arith)) in
          let most = was.1.most c in
          let fits = was.2.fits c in
          omega (arith, gone, whole, most, fits)),
    )
