-- On the envelopes of one route.
use Rattle.std.proofs.Common.{◌≡◌, ◌≢◌, ◌⊎◌, inl, inr, ℕ, suc, ◌+◌, ◌<◌, Bool, true, false, cond, eqb, eq-eqb, ne_eqb, List, [], ◌∷◌, ◌++◌, length, refl, sym, ap, ◌∙◌, ⊎_elim, length-append, set, arith}
use native.Mathlib.Decide.{ℕ_discrete}
use Rattle.std.proofs.lemmas.Grind.{get_or-set_at}
use Rattle.std.proofs.lemmas.List.{get_or-set_other, length-set}
use Rattle.std.specs.Prelude.{◌||◌}
use Rattle.std.proofs.lemmas.List.Elements.{filter-append}
use Rattle.tp_inbox.specs.declared.envelope.InboxEnvelope.{InboxEnvelope}
use Rattle.tp_inbox.specs.declared.stamped.Stamped.{Stamped}
use Rattle.tp_inbox.specs.History.{numbered}
use Rattle.tp_inbox.specs.Envelopes.{of, InOrder, AreRouted, AreCounts, has, on_routes}

either : {A : Type 0} → Dec A → A ⊎ (¬ A)
either (yes e) = inl e
either (no n) = inr n

pub same_or_not : (p q : ℕ) → (p ≡ q) ⊎ (p ≢ q)
same_or_not p q = either (ℕ_discrete p q)

cond_append : (b : Bool) (x : ℕ × Stamped) (xs ys : List (ℕ × Stamped)) → cond b (x ∷ (xs ++ ys)) (xs ++ ys) ≡ cond b (x ∷ xs) xs ++ ys
cond_append true x xs ys = refl
cond_append false x xs ys = refl

pub of-append : (p : ℕ) (xs ys : List InboxEnvelope) → of p (xs ++ ys) ≡ of p xs ++ of p ys
of-append p [] ys = refl
of-append p (x ∷ xs) ys = ap (λ l. cond (eqb p x.place) ((x.number, x.stamped) ∷ l) l) (of-append p xs ys) ∙ cond_append (eqb p x.place) (x.number, x.stamped)
    (of p xs) (of p ys)

pub of-here : (p : ℕ) (e : InboxEnvelope) → p ≡ e.place → of p (e ∷ []) ≡ (e.number, e.stamped) ∷ []
of-here p e h = ap (λ b. cond b ((e.number, e.stamped) ∷ []) []) (eq-eqb p e.place h)

pub of-else : (p : ℕ) (e : InboxEnvelope) → p ≢ e.place → of p (e ∷ []) ≡ []
of-else p e h = ap (λ b. cond b ((e.number, e.stamped) ∷ []) []) (ne_eqb p e.place h)

pub numbered-snoc : (n : ℕ) (ms : List Stamped) (m : Stamped) → numbered n (ms ++ m ∷ []) ≡ numbered n ms ++ (n + length ms, m) ∷ []
numbered-snoc n [] m = λ i. (let e : n ≡ n + 0 = omega arith in e i, m) ∷ []
numbered-snoc n (x ∷ xs) m =
    ap (λ l. (n, x) ∷ l)
    (numbered-snoc (n + 1) xs m ∙ ap (λ k. numbered (n + 1) xs ++ (k, m) ∷ []) (let e : n + 1 + length xs ≡ n + length (x ∷ xs) = omega arith in e))

head_is : (x y : ℕ × Stamped) (xs ys : List (ℕ × Stamped)) → x ∷ xs ≡ y ∷ ys → (x ≡ y) × (xs ≡ ys)
head_is x y xs ys e = (cc, cc)

-- what begins a numbered list is numbered
pub numbered-front : (n : ℕ) (ms : List Stamped) (xs ys : List (ℕ × Stamped)) → xs ++ ys ≡ numbered n ms → (ks : List Stamped) × (xs ≡ numbered n ks)
numbered-front n ms [] ys e = ([], refl)
numbered-front n [] (x ∷ xs) ys e = absurd (cc)
numbered-front n (m ∷ ms) (x ∷ xs) ys e = let h = head_is x (n, m) (xs ++ ys) (numbered (n + 1) ms) e in let r = numbered-front (n + 1) ms xs ys h.1 in
    (m ∷ r.0, λ i. h.0 i ∷ r.1 i)

pub in_order-front : (xs ys : List InboxEnvelope) → InOrder (xs ++ ys) → InOrder xs
in_order-front xs ys h p = let k = h p in numbered-front 0 k.0 (of p xs) (of p ys) (sym (of-append p xs ys) ∙ k.1)

pub routed-append : (n : ℕ) (xs ys : List InboxEnvelope) → AreRouted n xs → AreRouted n ys → AreRouted n (xs ++ ys)
routed-append n [] ys a b = b
routed-append n (x ∷ xs) ys a b = (a.0, routed-append n xs ys a.1 b)

pub routed-front : (n : ℕ) (xs ys : List InboxEnvelope) → AreRouted n (xs ++ ys) → AreRouted n xs
routed-front n [] ys a = tt
routed-front n (x ∷ xs) ys a = (a.0, routed-front n xs ys a.1)

pub routed-back : (n : ℕ) (xs ys : List InboxEnvelope) → AreRouted n (xs ++ ys) → AreRouted n ys
routed-back n [] ys a = a
routed-back n (x ∷ xs) ys a = routed-back n xs ys a.1

pub routed-more : (n : ℕ) (xs : List InboxEnvelope) → AreRouted n xs → AreRouted (n + 1) xs
routed-more n [] a = tt
routed-more n (x ∷ xs) a = (let b = a.0 in omega arith, routed-more n xs a.1)

pub append_nil : {A : Type 0} (xs : List A) → xs ++ [] ≡ xs
append_nil [] = refl
append_nil (x ∷ xs) = ap (λ l. x ∷ l) (append_nil xs)

-- the last of a numbered list
pub number_at_end : (n : ℕ) (xs : List (ℕ × Stamped)) (x : ℕ × Stamped) (ms : List Stamped) → xs ++ x ∷ [] ≡ numbered n ms → x.0 ≡ n + length xs
number_at_end n [] x [] e = absurd (cc)
number_at_end n [] x (m ∷ ms) e = let h = head_is x (n, m) [] (numbered (n + 1) ms) e in let q : x.0 ≡ n = ap (λ (y : ℕ × Stamped). y.0) h.0 in omega arith
number_at_end n (y ∷ ys) x [] e = absurd (cc)
number_at_end n (y ∷ ys) x (m ∷ ms) e =
    let h = head_is y (n, m) (ys ++ x ∷ []) (numbered (n + 1) ms) e in let q = number_at_end (n + 1) ys x ms h.1 in omega arith

pub next_number : (xs : List InboxEnvelope) (e : InboxEnvelope) → InOrder (xs ++ e ∷ []) → e.number ≡ length (of e.place xs)
next_number xs e h =
    let k = h e.place in
    let q = number_at_end 0 (of e.place xs) (e.number, e.stamped) k.0
    (ap (λ l. of e.place xs ++ l) (sym (of-here e.place e refl)) ∙ sym (of-append e.place xs (e ∷ [])) ∙ k.1) in
    omega arith

pub counts_next : (n : ℕ) (counts : List ℕ) (xs : List InboxEnvelope) (e : InboxEnvelope) → AreCounts n counts xs → e.place < n → e.number ≡ length (of e.place xs)
    → AreCounts n (set counts e.place (e.number + 1)) (xs ++ e ∷ [])
counts_next n counts xs e h low num = (
  length-set counts e.place (e.number + 1) ∙ h.0,
  λ p below.
      ⊎_elim
      (λ (same : p ≡ e.place).
      get_or-set_at counts e.place p (e.number + 1) 0 same (let q = h.0 in omega arith)
      ∙ (let q : e.number + 1 ≡ length (of e.place xs) + 1 = omega arith in q)
      ∙ sym (length-append (of e.place xs) ((e.number, e.stamped) ∷ []))
      ∙ ap length (ap (λ l. of e.place xs ++ l) (sym (of-here e.place e refl)) ∙ sym (of-append e.place xs (e ∷ []))
      ∙ ap (λ q. of q (xs ++ e ∷ [])) (sym same)))
      (λ (diff : p ≢ e.place).
      get_or-set_other counts e.place p (e.number + 1) 0 diff ∙ h.1 p below
      ∙ ap length (sym (append_nil (of p xs)) ∙ ap (λ l. of p xs ++ l) (sym (of-else p e diff)) ∙ sym (of-append p xs (e ∷ []))))
      (same_or_not p e.place),
)

pub length-numbered : (n : ℕ) (ms : List Stamped) → length (numbered n ms) ≡ length ms
length-numbered n [] = refl
length-numbered n (m ∷ ms) = ap suc (length-numbered (n + 1) ms)

-- one more envelope, which is the next of its route
pub in_order-push : (es : List InboxEnvelope) (e : InboxEnvelope) → InOrder es → e.number ≡ length (of e.place es) → InOrder (es ++ e ∷ [])
in_order-push es e h num p =
    let k = h p in
    ⊎_elim
    (λ (same : p ≡ e.place).
    let count : e.number ≡ 0 + length k.0 =
    (let q : length (of e.place es) ≡ length k.0 = ap (λ r. length (of r es)) (sym same) ∙ ap length k.1 ∙ length-numbered 0 k.0 in omega arith) in (
      k.0 ++ e.stamped ∷ [],
      of-append p es (e ∷ []) ∙ ap (λ l. l ++ of p (e ∷ [])) k.1 ∙ ap (λ l. numbered 0 k.0 ++ l) (of-here p e same)
          ∙ ap (λ j. numbered 0 k.0 ++ (j, e.stamped) ∷ []) count ∙ sym (numbered-snoc 0 k.0 e.stamped),
    ))
    (λ (other : p ≢ e.place).
    (k.0, of-append p es (e ∷ []) ∙ ap (λ l. of p es ++ l) (of-else p e other) ∙ append_nil (of p es) ∙ k.1))
    (same_or_not p e.place)

pub false_or : (b : Bool) → (b ≡ true → ⊥) → b ≡ false
false_or true n = absurd (n refl)
false_or false n = refl

or_either : (b c : Bool) → (b || c) ≡ true → (b ≡ true) ⊎ (c ≡ true)
or_either true c h = inl refl
or_either false c h = inr h

or_false : (b c : Bool) → c ≡ false → (b || c) ≡ b
or_false true c h = refl
or_false false c h = h

or_again : (a b c : Bool) → (a || (b || c)) ≡ ((a || b) || c)
or_again true b c = refl
or_again false b c = refl

same_of : (p q : ℕ) → eqb p q ≡ true → p ≡ q
same_of p q h = ⊎_elim (λ (same : p ≡ q). same) (λ (other : p ≢ q). absurd (true_not_false (sym h ∙ ne_eqb p q other))) (same_or_not p q)
  where
    true_not_false : true ≡ false → ⊥
    true_not_false e = cc

pub has-one : (n p : ℕ) → has (n ∷ []) p ≡ true → p ≡ n
has-one n p h = ⊎_elim (λ (same : eqb p n ≡ true). same_of p n same) (λ (none : false ≡ true). absurd (cc)) (or_either (eqb p n) false h)

pub has-append : (ps qs : List ℕ) (p : ℕ) → has (ps ++ qs) p ≡ (has ps p || has qs p)
has-append [] qs p = refl
has-append (r ∷ ps) qs p = ap (λ b. eqb p r || b) (has-append ps qs p) ∙ or_again (eqb p r) (has ps p) (has qs p)

pub has-either : (ps qs : List ℕ) (p : ℕ) → has (ps ++ qs) p ≡ true → (has ps p ≡ true) ⊎ (has qs p ≡ true)
has-either ps qs p h = or_either (has ps p) (has qs p) (sym (has-append ps qs p) ∙ h)

of_kept : (b : Bool) (p : ℕ) (e : InboxEnvelope) (es : List InboxEnvelope) → eqb p e.place ≡ false → of p (cond b (e ∷ es) es) ≡ of p es
of_kept true p e es h = ap (λ c. cond c ((e.number, e.stamped) ∷ of p es) (of p es)) h
of_kept false p e es h = refl

-- the envelopes of a route are among those of the routes that it is one of
pub of-among : (ps : List ℕ) (p : ℕ) (es : List InboxEnvelope) → has ps p ≡ true → of p (on_routes ps es) ≡ of p es
of-among ps p [] h = refl
of-among ps p (e ∷ es) h =
    let rest = of-among ps p es h in
    ⊎_elim
    (λ (same : p ≡ e.place).
    ap (λ b. of p (cond b (e ∷ on_routes ps es) (on_routes ps es))) (ap (has ps) (sym same) ∙ h)
    ∙ ap (λ l. cond (eqb p e.place) ((e.number, e.stamped) ∷ l) l) rest)
    (λ (other : p ≢ e.place).
    let no_ = ne_eqb p e.place other in
    of_kept (has ps e.place) p e (on_routes ps es) no_ ∙ rest ∙ sym (ap (λ c. cond c ((e.number, e.stamped) ∷ of p es) (of p es)) no_))
    (same_or_not p e.place)

pub among-append : (ps : List ℕ) (xs ys : List InboxEnvelope) → on_routes ps (xs ++ ys) ≡ on_routes ps xs ++ on_routes ps ys
among-append ps xs ys = filter-append (λ (e : InboxEnvelope). has ps e.place) xs ys

pub among-here : (ps : List ℕ) (es : List InboxEnvelope) (e : InboxEnvelope) → has ps e.place ≡ true → on_routes ps (es ++ e ∷ []) ≡ on_routes ps es ++ e ∷ []
among-here ps es e h = among-append ps es (e ∷ []) ∙ ap (λ b. on_routes ps es ++ cond b (e ∷ []) []) h

pub among-else : (ps : List ℕ) (es : List InboxEnvelope) (e : InboxEnvelope) → has ps e.place ≡ false → on_routes ps (es ++ e ∷ []) ≡ on_routes ps es
among-else ps es e h = among-append ps es (e ∷ []) ∙ ap (λ b. on_routes ps es ++ cond b (e ∷ []) []) h ∙ append_nil (on_routes ps es)

-- on a route that there isn't yet nothing was put
pub among-new : (n : ℕ) (es : List InboxEnvelope) → AreRouted n es → on_routes (n ∷ []) es ≡ []
among-new n [] h = refl
among-new n (e ∷ es) h =
    let low = h.0 in
    ap (λ b. cond b (e ∷ on_routes (n ∷ []) es) (on_routes (n ∷ []) es)) (false_or (has (n ∷ []) e.place) (λ yes_. let same = has-one n e.place yes_ in omega arith))
    ∙ among-new n es h.1

none_there : (b : Bool) (e : InboxEnvelope) (l : List InboxEnvelope) → cond b (e ∷ l) l ≡ [] → (b ≡ false) × (l ≡ [])
none_there true e l h = absurd (cc)
none_there false e l h = (refl, h)

-- with routes on which nothing was put
pub among-more : (ps qs : List ℕ) (es : List InboxEnvelope) → on_routes qs es ≡ [] → on_routes (ps ++ qs) es ≡ on_routes ps es
among-more ps qs [] h = refl
among-more ps qs (e ∷ es) h =
    let k = none_there (has qs e.place) e (on_routes qs es) h in
    ap (λ l. cond (has (ps ++ qs) e.place) (e ∷ l) l) (among-more ps qs es k.1)
    ∙ ap (λ b. cond b (e ∷ on_routes ps es) (on_routes ps es)) (has-append ps qs e.place ∙ or_false (has ps e.place) (has qs e.place) k.0)
