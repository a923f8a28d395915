-- A scan for a cut that goes back to the last star.
use Rattle.std.proofs.Common.{◌≡◌, ℕ, zero, suc, ◌+◌, ◌-◌, ◌*◌, ◌≤◌, ◌<◌, Bool, true, false, Option, Some, None, List, [], ◌∷◌, length, drop, refl, ap, sym, ◌∙◌, subst, arith, add-one, ◌⊎◌, inl, inr}
use Rattle.std.proofs.Math.ListN.{length-drop}
use Rattle.std.proofs.Math.Nat.{mul-le-mul_right}
use Rattle.std.proofs.lemmas.List.{drop-drop}
use Rattle.tp_value.specs.declared.scan.ScanMove.TheVariants as step
use Rattle.tp_value.specs.Steps.{StepIs}
use Rattle.tp_value.proofs.CutsByFirstPart.{Cut, cut_one, cut_one_back, cut_one_none, cut_none, cut_no_parts, cut_many, cut_many_back, Singles, Singles-more, segment}

tail : {A : Type 0} (n : ℕ) (xs : List A) (x : A) (rest : List A) → drop n xs ≡ x ∷ rest → (n < length xs) × (drop (suc n) xs ≡ rest)
tail zero [] x rest e = cc
tail zero (y ∷ ys) x rest e = let t : ys ≡ rest = cc in (omega arith, t)
tail (suc n) [] x rest e = cc
tail (suc n) (y ∷ ys) x rest e = let r = tail n ys x rest e in (omega (arith, r.0), r.1)

pub next : {A : Type 0} (n : ℕ) (xs : List A) (x : A) (rest : List A) → drop n xs ≡ x ∷ rest → (n < length xs) × (drop (n + 1) xs ≡ rest)
next n xs x rest e = let r = tail n xs x rest e in (r.0, ap (λ m. drop m xs) (add-one n) ∙ r.1)

equal_or_less : (m n : ℕ) → m ≤ n → (m ≡ n) ⊎ (m < n)
equal_or_less zero zero h = inl refl
equal_or_less zero (suc n) h = inr (omega arith)
equal_or_less (suc m) zero h = absurd (omega arith)
equal_or_less (suc m) (suc n) h = elim (equal_or_less m n (omega arith)) [ inl e ↦ inl (ap suc e) | inr l ↦ inr (omega arith) ]

gone : {A : Type 0} (n : ℕ) (xs : List A) → length xs ≤ n → drop n xs ≡ []
gone zero [] h = refl
gone zero (x ∷ xs) h = absurd (omega arith)
gone (suc n) [] h = refl
gone (suc n) (x ∷ xs) h = gone n xs (omega arith)

first_left : {A : Type 0} (n : ℕ) (xs : List A) → n < length xs → (x : A) × ((rest : List A) × (drop n xs ≡ x ∷ rest))
first_left zero [] h = absurd (omega arith)
first_left zero (x ∷ xs) h = (x, (xs, refl))
first_left (suc n) [] h = absurd (omega arith)
first_left (suc n) (x ∷ xs) h = first_left n xs (omega arith)

module _ {P E : Type 0} (many : P → Bool) (admits : P → E → Type 0) (parts : List P) (items : List E) where
  -- there is a cut of what is left at these places
  abbrev pub Left : ℕ → ℕ → Type 0
  Left part at = Cut many admits (drop part parts) (drop at items)

  abbrev pub All : Type 0
  All = Cut many admits parts items

  -- what is known behind a star: parts from `after`, tried at `from`
  pub record Backed (part at after from' : ℕ) : Type 0 where
    pub span : ℕ
    pub parts_are : after + span ≡ part
    pub items_are : from' + span ≡ at
    pub singles : Singles many admits span (drop after parts)
    pub sound : (j : ℕ) → from' ≤ j → j ≤ length items → Left after j → All
    pub complete : All → (j : ℕ) × (from' ≤ j) × (j ≤ length items) × Left after j

  abbrev pub Rest : ℕ → ℕ → Option (ℕ × ℕ) → Type 0
  Rest part at None = All → Left part at
  Rest part at (Some b) = Backed part at b.0 b.1

  -- what a scan knows at these places
  pub record Scanning (part at : ℕ) (back : Option (ℕ × ℕ)) : Type 0 where
    pub part_in : part ≤ length parts
    pub at_in : at ≤ length items
    pub here : Left part at → All
    pub rest : Rest part at back

  pub start : Scanning 0 0 None
  start = record { part_in = omega arith; at_in = omega arith; here = λ c. c; rest = λ c. c }

  moved : (part j after span : ℕ) → after + span ≡ part → Singles many admits span (drop after parts) → j ≤ length items → Left after j
      → (j + span ≤ length items) × Left part (j + span)
  moved part j after span e s within c =
      let r = segment many admits span (drop after parts) (drop j items) s c in (
        omega (arith, r.0, length-drop j items),
        subst (λ m. Cut many admits (drop m parts) (drop (j + span) items)) e
            (subst (λ ps. Cut many admits ps (drop (j + span) items)) (drop-drop span after parts)
            (subst (λ es. Cut many admits (drop span (drop after parts)) es) (drop-drop span j items) r.1)),
      )

  -- a cut of all goes on at this part, here or later
  pub reach : (part at : ℕ) (back : Option (ℕ × ℕ)) → Scanning part at back → All → (j : ℕ) × (at ≤ j) × (j ≤ length items) × Left part j
  reach part at None s c = (at, omega arith, s.at_in, s.rest c)
  reach part at (Some b) s c =
      let r = s.rest.complete c in
      let m = moved part r.0 b.0 s.rest.span s.rest.parts_are s.rest.singles r.2 r.3 in
      (r.0 + s.rest.span, omega (arith, s.rest.items_are, r.1), m.0, m.1)

  pub pass_many : (part at : ℕ) (back : Option (ℕ × ℕ)) → Scanning part at back → StepIs many admits (drop part parts) (drop at items) step.AnyOrNone
      → Scanning (part + 1) at (Some (part + 1, at))
  pass_many part at back s (p, (rest, (e, on))) =
      let n = next part parts p rest e in
      let later : (j : ℕ) → at ≤ j → j ≤ length items → Left (part + 1) j → Left part at = λ j h w c.
      let same : at + (j - at) ≡ j = omega arith in
      let here : drop (j - at) (drop at items) ≡ drop j items = drop-drop (j - at) at items ∙ ap (λ m. drop m items) same in
      let cut : Cut many admits rest (drop (j - at) (drop at items)) =
      subst (λ es. Cut many admits rest es) (sym here) (subst (λ ps. Cut many admits ps (drop j items)) n.1 c) in
      subst (λ ps. Cut many admits ps (drop at items)) (sym e) (cut_many many admits p rest (drop at items) (j - at) on cut) in
      record {
        part_in = omega (arith, n.0);
        at_in = s.at_in;
        here = λ c. s.here (later at (omega arith) s.at_in c);
        rest = record {
          span = 0;
          parts_are = omega arith;
          items_are = omega arith;
          singles = tt;
          sound = λ j h w c. s.here (later j h w c);
          complete = λ c.
              let r = reach part at back s c in
              let k = cut_many_back many admits p rest (drop r.0 items) on (subst (λ ps. Cut many admits ps (drop r.0 items)) e r.3) in
              let here : drop k.0 (drop r.0 items) ≡ drop (r.0 + k.0) items = drop-drop k.0 r.0 items in (
                r.0 + k.0,
                omega (arith, r.1),
                omega (arith, r.2, k.1, length-drop r.0 items),
                subst (λ ps. Cut many admits ps (drop (r.0 + k.0) items)) (sym n.1) (subst (λ es. Cut many admits rest es) here k.2),
              );
        };
      }

  -- a last star takes all that is left
  pub last_many : (part at : ℕ) (back : Option (ℕ × ℕ)) → Scanning part at back → StepIs many admits (drop part parts) (drop at items) step.AnyOrNone
      → length parts ≤ part + 1 → All
  last_many part at back s (p, (rest, (e, on))) last =
      let none : rest ≡ [] = sym (next part parts p rest e).1 ∙ gone (part + 1) parts last in
      let all = length (drop at items) in
      let cut : Cut many admits rest (drop all (drop at items)) =
      subst (λ es. Cut many admits rest es) (sym (gone all (drop at items) (omega arith)))
      (subst (λ ps. Cut many admits ps []) (sym none) (cut_none many admits)) in
      s.here (subst (λ ps. Cut many admits ps (drop at items)) (sym e) (cut_many many admits p rest (drop at items) all on cut))

  pub pass_one : (part at : ℕ) (back : Option (ℕ × ℕ)) → Scanning part at back → StepIs many admits (drop part parts) (drop at items) step.One
      → Scanning (part + 1) (at + 1) back
  pass_one part at back s (p, (rest, (x, (others, (e, f, off, q))))) =
      let n = next part parts p rest e in
      let m = next at items x others f in
      let up : Left (part + 1) (at + 1) → Left part at = λ c.
      subst (λ ps. Cut many admits ps (drop at items)) (sym e)
      (subst (λ es. Cut many admits (p ∷ rest) es) (sym f)
      (cut_one many admits p rest x others off q
      (subst (λ ps. Cut many admits ps others) n.1 (subst (λ es. Cut many admits (drop (part + 1) parts) es) m.1 c)))) in
      let down : Left part at → Left (part + 1) (at + 1) = λ c.
      subst (λ ps. Cut many admits ps (drop (at + 1) items)) (sym n.1)
      (subst (λ es. Cut many admits rest es) (sym m.1)
      (cut_one_back many admits p rest x others off
      (subst (λ es. Cut many admits (p ∷ rest) es) f (subst (λ ps. Cut many admits ps (drop at items)) e c))).1) in
      record {
        part_in = omega (arith, n.0);
        at_in = omega (arith, m.0);
        here = λ c. s.here (up c);
        rest = passed part at back p rest e off down s.rest;
      }
    where
      passed : (part at : ℕ) (back : Option (ℕ × ℕ)) (p : P) (rest : List P) → drop part parts ≡ p ∷ rest → many p ≡ false
          → (Left part at → Left (part + 1) (at + 1)) → Rest part at back → Rest (part + 1) (at + 1) back
      passed part at None p rest e off down r = λ c. down (r c)
      passed part at (Some b) p rest e off down r =
          let same : drop r.span (drop b.0 parts) ≡ p ∷ rest = drop-drop r.span b.0 parts ∙ ap (λ m. drop m parts) r.parts_are ∙ e in
          record {
            span = suc r.span;
            parts_are = omega (arith, r.parts_are);
            items_are = omega (arith, r.items_are);
            singles = Singles-more many admits r.span (drop b.0 parts) p rest r.singles same off;
            sound = r.sound;
            complete = r.complete;
          }

  pub go_back : (part at after from' : ℕ) → Scanning part at (Some (after, from')) → at < length items → (Left part at → ⊥)
      → Scanning after (from' + 1) (Some (after, from' + 1))
  go_back part at after from' s within stuck =
      let b = s.rest in
      record {
        part_in = omega (arith, s.part_in, b.parts_are);
        at_in = omega (arith, b.items_are);
        here = λ c. b.sound (from' + 1) (omega arith) (omega (arith, b.items_are)) c;
        rest = record {
          span = 0;
          parts_are = omega arith;
          items_are = omega arith;
          singles = tt;
          sound = λ j h w c. b.sound j (omega arith) w c;
          complete = λ c.
              let r = b.complete c in
              elim (equal_or_less from' r.0 r.1) [
                | inl e ↦ absurd (stuck (let m = moved part r.0 after b.span b.parts_are b.singles r.2 r.3 in
                    let same : r.0 + b.span ≡ at = omega (arith, b.items_are) in
                    subst (Left part) same m.1))
                | inr l ↦ (r.0, omega arith, r.2, r.3)
              ];
        };
      }

  pub no_way_back : (part at : ℕ) → Scanning part at None → (Left part at → ⊥) → All → ⊥
  no_way_back part at s stuck c = stuck (s.rest c)

  pub at_the_end : (part at : ℕ) (back : Option (ℕ × ℕ)) → Scanning part at back → at ≡ length items → All → Left part at
  at_the_end part at back s e c =
      let r = reach part at back s c in
      let same : r.0 ≡ at = omega (arith, r.1, r.2) in
      subst (Left part) same r.3

  -- how much is left to try
  abbrev pub base : Option (ℕ × ℕ) → ℕ
  base None = 0
  base (Some b) = b.1 + 1

  abbrev pub work : ℕ → Option (ℕ × ℕ) → ℕ
  work part back = (length items + 1 - base back) * (length parts + 2) + (length parts - part)

  base_le : (part at : ℕ) (back : Option (ℕ × ℕ)) → Scanning part at back → base back ≤ at + 1
  base_le part at None s = omega arith
  base_le part at (Some b) s = omega (arith, s.rest.items_are)

  pub work_many : (part at : ℕ) (back : Option (ℕ × ℕ)) → Scanning part at back → part < length parts → work (part + 1) (Some (part + 1, at)) < work part back
  work_many part at back s h =
      let le : length items + 1 - (at + 1) ≤ length items + 1 - base back = omega (arith, base_le part at back s) in
      omega (arith, mul-le-mul_right (length parts + 2) le)

  pub work_one : (part : ℕ) (back : Option (ℕ × ℕ)) → part < length parts → work (part + 1) back < work part back
  work_one part back h = omega arith

  pub work_back : (part after from' : ℕ) → from' < length items → work after (Some (after, from' + 1)) < work part (Some (after, from'))
  work_back part after from' h =
      let le : suc (length items + 1 - (from' + 1 + 1)) ≤ length items + 1 - (from' + 1) = omega arith in
      omega (arith, mul-le-mul_right (length parts + 2) le)

  pub no_parts : (part at : ℕ) → length parts ≤ part → at < length items → Left part at → ⊥
  no_parts part at h within c =
      let f = first_left at items within in
      cut_no_parts many admits f.0 f.1.0
      (subst (λ es. Cut many admits [] es) f.1.1 (subst (λ ps. Cut many admits ps (drop at items)) (gone part parts h) c))

drop_none : {A : Type 0} (n : ℕ) → ◌≡◌ {A = List A} (drop n []) []
drop_none zero = refl
drop_none (suc n) = refl

module _ {P E : Type 0} (many : P → Bool) (admits : P → E → Type 0) (parts : List P) where
  pub only_passes : (part : ℕ) (p : P) → drop part parts ≡ p ∷ drop (part + 1) parts → many p ≡ true
      → (Cut many admits (drop part parts) [] → Cut many admits (drop (part + 1) parts) [])
      × (Cut many admits (drop (part + 1) parts) [] → Cut many admits (drop part parts) [])
  only_passes part p e on = (
    λ c. let k = cut_many_back many admits p (drop (part + 1) parts) [] on (subst (λ ps. Cut many admits ps []) e c) in
        subst (λ es. Cut many admits (drop (part + 1) parts) es) (drop_none k.0) k.2,
    λ c. subst (λ ps. Cut many admits ps []) (sym e) (cut_many many admits p (drop (part + 1) parts) [] 0 on c),
  )

  pub only_stops : (part : ℕ) (p : P) → drop part parts ≡ p ∷ drop (part + 1) parts → many p ≡ false → Cut many admits (drop part parts) [] → ⊥
  only_stops part p e off c = cut_one_none many admits p (drop (part + 1) parts) off (subst (λ ps. Cut many admits ps []) e c)

  pub only_ends : (part : ℕ) → length parts ≤ part → Cut many admits (drop part parts) []
  only_ends part h = subst (λ ps. Cut many admits ps []) (sym (gone part parts h)) (cut_none many admits)

module _ {P E : Type 0} (many : P → Bool) (admits : P → E → Type 0) (parts : List P) (items : List E) where
  pub finish : (part at : ℕ) (back : Option (ℕ × ℕ)) → Scanning many admits parts items part at back → length items ≤ at
      → (Cut many admits (drop part parts) [] → Cut many admits parts items) × (Cut many admits parts items → Cut many admits (drop part parts) [])
  finish part at back s h = (
    λ c. s.here (subst (λ es. Cut many admits (drop part parts) es) (sym (gone at items h)) c),
    λ c. let same : at ≡ length items = omega (arith, s.at_in) in
        subst (λ es. Cut many admits (drop part parts) es) (gone at items h) (at_the_end many admits parts items part at back s same c),
  )
