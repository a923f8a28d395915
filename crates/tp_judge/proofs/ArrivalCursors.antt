-- The cursor of a component goes on in its history, or is at the next message to be sent to it.
use Rattle.std.proofs.Common.{◌≡◌, ◌⊎◌, inl, inr, ℕ, zero, suc, ◌+◌, ◌<◌, ◌≤◌, Option, Some, None, List, [], ◌∷◌}
use Rattle.std.proofs.Common.{length, map, get_or, set, take, slice_index, refl, sym, ap, ◌∙◌, subst, arith}
use Rattle.std.specs.Prelude.{IfSome, slice_get, ◌↔◌}
use Rattle.std.proofs.lemmas.Bool.{cases_eq, cases_lt}
use Rattle.std.proofs.lemmas.List.{get_or-map, length-map, length-set, take_all}
use Rattle.std.proofs.lemmas.Option.{same_Some, slice_get_past, slice_get_read, slice_get_within, get_or_from_slice_get}
use Rattle.tp_judge.specs.declared.kind.EntryKind.{EntryKind}
use Rattle.tp_judge.specs.declared.kind.EntryKind.TheVariants as kind
use Rattle.tp_judge.specs.declared.progress.ArrivalCursor.{ArrivalCursor}
use Rattle.tp_judge.specs.declared.progress.OrderProgress.{OrderProgress}
use Rattle.tp_judge.specs.Kinds.{Kinds, came_in, came_of}
use Rattle.tp_judge.specs.OrderProgress.{AreBegun, IsBegun}
use Rattle.tp_judge.specs.Greedy.{MaySend}
use Rattle.tp_judge.specs.Cursors.{AreCursorsOf, HasPassedLooks, IsAfter, IsAfterLooks, IsCursorOf, cursor_at}
use Rattle.tp_judge.proofs.RanksOfGivenElements.{ranked}
use Rattle.tp_judge.proofs.SpotOrderGrowth.{came_on, nothing_came, one_more}
use Rattle.tp_judge.proofs.NoOrderWhereStuck.{came_grows}
use Rattle.tp_judge.proofs.OrderProgressGrowth.{still_came}

after_nothing : {M : Type 0} (k : List (EntryKind M)) (place : ℕ) → IsBegun k place → IsAfter k place 0
after_nothing k place begun p = (
  λ h q low look.
      let clash : kind.Nothing ≡ kind.Looked = same_Some kind.Nothing kind.Looked (sym (begun.nothing q low) ∙ look) in
      absurd (cc),
  λ h. omega arith,
)

pub after_looked : {M : Type 0} (k : List (EntryKind M)) (place : ℕ) → slice_get k place ≡ Some kind.Looked → IsAfter k (place + 1) (place + 1)
after_looked k place look p = (
  λ h q low look_q. omega (arith, h, low),
  λ h. let b : place < p = h place (omega arith) look in omega (arith, b),
)

pub after_other : {M : Type 0} (k : List (EntryKind M)) (place after : ℕ) (e : EntryKind M) → slice_get k place ≡ Some e → (e ≡ kind.Looked → ⊥)
    → IsAfter k place after → IsAfter k (place + 1) after
after_other k place after e at none was p = (
  λ h q low look. elim (cases_eq q place) [
    | inl same ↦ absurd (none (same_Some e kind.Looked (sym at ∙ ap (λ n. slice_get k n) (sym same) ∙ look)))
    | inr other ↦ (was p).0 h q (omega (arith, low, other)) look
  ],
  λ h. (was p).1 (λ q low look. h q (omega (arith, low)) look),
)

-- where the arrival that n others precede stands, the looks so far are those before its message was sent
pub at_arrival : {M : Type 0} (k : List (EntryKind M)) (place n after : ℕ) (m : M) → slice_get k place ≡ Some (kind.Came m)
    → length (came_in (take place k)) ≡ n → IsAfter k place after → IsAfterLooks k n after
at_arrival k place n after m at size was p =
    let on = ap length (came_on k place (kind.Came m) at) in
    let one = one_more (Some m) m (came_in (take place k)) refl in (
      λ most q look few. elim (cases_lt q place) [
        | inl low ↦ (was p).0 most q low look
        | inr from ↦ elim (cases_eq q place) [
          | inl level ↦
              let clash : kind.Came m ≡ kind.Looked = same_Some (kind.Came m) kind.Looked (sym at ∙ ap (λ n. slice_get k n) (sym level) ∙ look) in
              absurd (cc)
          | inr unlike ↦
              let more = came_grows k (place + 1) q (omega (arith, from, unlike)) in
              absurd (omega (arith, more, few, size, on, one))
        ]
      ],
      λ all. (was p).1 (λ q low look.
          let less = came_grows k q place (omega (arith, low)) in
          all q look (omega (arith, less, size))),
    )

-- its message
pub arrival_is : {M : Type 0} (k : List (EntryKind M)) (place n : ℕ) (m : M) → slice_get k place ≡ Some (kind.Came m)
    → length (came_in (take place k)) ≡ n → Some m ≡ slice_get (came_in k) n
arrival_is k place n m at size =
    sym (ap (λ i. slice_get (came_in k) i) (sym size) ∙ ranked came_of k place (kind.Came m) m at refl)

-- or there is none
pub no_arrival : {M : Type 0} (k : List (EntryKind M)) (place n : ℕ) → length k ≤ place → length (came_in (take place k)) ≤ n
    → (let o : Option M = None in o ≡ slice_get (came_in k) n)
no_arrival k place n past few =
    let whole = ap (λ l. length (came_in l)) (take_all place k past) in
    sym (slice_get_past (came_in k) n (omega (arith, whole, few)))

-- the cursor goes on by one entry
pub on_came : {M : Type 0} (k : List (EntryKind M)) (cursor : ArrivalCursor) (m : M) → slice_get k cursor.place ≡ Some (kind.Came m)
    → IsCursorOf k cursor → IsCursorOf k (record { place = cursor.place + 1; came = cursor.came + 1; after = cursor.after })
on_came k cursor m at was = record {
  came =
      let on = ap length (came_on k cursor.place (kind.Came m) at) in
      let one = one_more (Some m) m (came_in (take cursor.place k)) refl in
      let size = was.came in
      omega (arith, on, one, size);
  most = let most = was.most in omega (arith, most);
  after = after_other k cursor.place cursor.after (kind.Came m) at (λ look. absurd (cc)) was.after;
}

pub on_looked : {M : Type 0} (k : List (EntryKind M)) (cursor : ArrivalCursor) → slice_get k cursor.place ≡ Some kind.Looked
    → IsCursorOf k cursor → IsCursorOf k (record { place = cursor.place + 1; came = cursor.came; after = cursor.place + 1 })
on_looked k cursor at was = record {
  came = ap length (still_came k cursor.place kind.Looked at refl) ∙ was.came;
  most = let most = was.most in omega (arith, most);
  after = after_looked k cursor.place at;
}

pub on_other : {M : Type 0} (k : List (EntryKind M)) (cursor : ArrivalCursor) (e : EntryKind M) → slice_get k cursor.place ≡ Some e
    → came_of e ≡ None → (e ≡ kind.Looked → ⊥) → IsCursorOf k cursor
    → IsCursorOf k (record { place = cursor.place + 1; came = cursor.came; after = cursor.after })
on_other k cursor e at none blind was = record {
  came = ap length (still_came k cursor.place e at none) ∙ was.came;
  most = let most = was.most in omega (arith, most);
  after = after_other k cursor.place cursor.after e at blind was.after;
}

-- one cursor of the list is another
set_cases : {X : Type 0} (xs : List X) (i j : ℕ) (a x : X) → slice_get (set xs i a) j ≡ Some x
    → ((j ≡ i) × (x ≡ a)) ⊎ (slice_get xs j ≡ Some x)
set_cases [] i j a x at = inr at
set_cases (y ∷ ys) zero zero a x at = inl (refl, sym (same_Some a x at))
set_cases (y ∷ ys) zero (suc j) a x at = inr at
set_cases (y ∷ ys) (suc i) zero a x at = inr at
set_cases (y ∷ ys) (suc i) (suc j) a x at = elim (set_cases ys i j a x at) [
  | inl here ↦ inl (ap suc here.0, here.1)
  | inr old ↦ inr old
]

set_here : {X : Type 0} (xs : List X) (i : ℕ) (a x : X) → slice_get (set xs i a) i ≡ Some x → x ≡ a
set_here [] i a x at = absurd (cc)
set_here (y ∷ ys) zero a x at = sym (same_Some a x at)
set_here (y ∷ ys) (suc i) a x at = set_here ys i a x at

pub cursor_read : {M : Type 0} (kinds : Kinds M) (n : ℕ) (progress : OrderProgress) (cursors : List ArrivalCursor) (c : ℕ) (x : ArrivalCursor) → c < length cursors
    → x ≡ get_or cursors c x → AreCursorsOf kinds n progress cursors
    → IsCursorOf (kinds c) x × (x.came ≤ slice_index progress.sent.items c)
cursor_read kinds n progress cursors c x low is were = were.each c x (slice_get_read cursors (length cursors) c x refl low is)

pub cursor_set : {M : Type 0} (kinds : Kinds M) (n : ℕ) (progress : OrderProgress) (cursors : List ArrivalCursor) (c : ℕ) (x : ArrivalCursor)
    → AreCursorsOf kinds n progress cursors → IsCursorOf (kinds c) x → x.came ≤ slice_index progress.sent.items c
    → AreCursorsOf kinds n progress (set cursors c x)
cursor_set kinds n progress cursors c x were is most = record {
  size_is = length-set cursors c x ∙ were.size_is;
  each = λ d y at. elim (set_cases cursors c d x y at) [
    | inl here ↦
        let P : ℕ → ArrivalCursor → Type 0 = λ i z. IsCursorOf (kinds i) z × (z.came ≤ slice_index progress.sent.items i) in
        subst (λ i. P i y) (sym here.0) (subst (P c) (sym here.1) (is, most))
    | inr old ↦ were.each d y old
  ];
}

pub cursor_there : {M : Type 0} (k : List (EntryKind M)) (n : ℕ) (cursors : List ArrivalCursor) (c : ℕ) (x : ArrivalCursor) → IsAfterLooks k n x.after
    → HasPassedLooks k n (set cursors c x) c
cursor_there k n cursors c x after y at = subst (λ (z : ArrivalCursor). IsAfterLooks k n z.after) (sym (set_here cursors c x y at)) after

pub where_some : {X : Type 0} (o : Option X) (P Q : Type 0) → (P → Q) → IfSome o (λ _. P) → IfSome o (λ _. Q)
where_some None P Q then h = h
where_some (Some x) P Q then h = then h

-- what is sent may be more
pub cursors_still : {M : Type 0} (kinds : Kinds M) (n : ℕ) (old new : OrderProgress) (cursors : List ArrivalCursor)
    → ((c : ℕ) → slice_index old.sent.items c ≤ slice_index new.sent.items c)
    → AreCursorsOf kinds n old cursors → AreCursorsOf kinds n new cursors
cursors_still kinds n old new cursors grown were = record {
  size_is = were.size_is;
  each = λ c x at.
      let h = were.each c x at in
      let low = h.1 in
      let up = grown c in (h.0, omega (arith, low, up));
}

-- at first each is where nothing stands before
pub cursors_begun : {M : Type 0} (kinds : Kinds M) (n : ℕ) (progress : OrderProgress) (places : List ℕ) → AreBegun kinds n places
    → AreCursorsOf kinds n progress (map cursor_at places)
cursors_begun kinds n progress places are = record {
  size_is = length-map places cursor_at ∙ are.size_is;
  each = λ c x at.
      let size = length-map places cursor_at in
      let within = slice_get_within (map cursor_at places) c x at in
      let low : c < length places = omega (arith, size, within) in
      let begun = are.each c low in
      let is : cursor_at (slice_index places c) ≡ x =
      sym (get_or-map cursor_at places c 0 (cursor_at 0) low) ∙ get_or_from_slice_get (map cursor_at places) c x (cursor_at 0) at in
      let P : ArrivalCursor → Type 0 = λ y. IsCursorOf (kinds c) y × (y.came ≤ slice_index progress.sent.items c) in
      subst P is (
        record {
          came = ap length (nothing_came (kinds c) (slice_index places c) begun.nothing);
          most = omega arith;
          after = after_nothing (kinds c) (slice_index places c) begun;
        },
        omega arith,
      );
}

-- whether a message may be sent to a component
module _ {M : Type 0} (kinds : Kinds M) (places sent : List ℕ) (m : M) (to : ℕ) where
  abbrev May : Type 0
  May = MaySend kinds (slice_index places) (slice_index sent) m to

  pub may_is : (next : M) (after : ℕ) → Some next ≡ slice_get (came_in (kinds to)) (slice_index sent to) → next ≡ m
      → IsAfterLooks (kinds to) (slice_index sent to) after → (after ≤ slice_index places to) ↔ May
  may_is next after is its looks = (
    λ most. (sym is ∙ ap (λ n. Some n) its, (looks (slice_index places to)).0 most),
    λ may. (looks (slice_index places to)).1 may.1,
  )
