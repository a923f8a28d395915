-- Of two components each sends to the other and then looks: where both looks have missed what the other sent, each history
-- may be lawful, and so each route, but no one order gives them.
use Rattle.std.proofs.Common.{◌≡◌, inl, inr, ℕ, zero, suc, ◌+◌, ◌<◌, ◌≤◌, ◌==◌, true, false, cond, Option, Some, None}
use Rattle.std.proofs.Common.{List, [], ◌∷◌, length, take, refl, sym, ap, ◌∙◌, subst, arith}
use Rattle.std.specs.List.{cons_option}
use Rattle.std.proofs.lemmas.Bool.{cases_Bool, cases_eq, cases_lt}
use Rattle.std.proofs.lemmas.List.{take-take, take_all}
use Rattle.std.proofs.lemmas.List.Sums.{sum_by-append, sum_by-take-le}
use Rattle.std.proofs.lemmas.Option.{slice_get_cases}
use Rattle.tp_inbox.specs.declared.entry.Entry.{Entry}
use Rattle.tp_inbox.specs.declared.entry.Entry.TheVariants as entry
use Rattle.tp_inbox.specs.History.{is_arrival}
use Rattle.tp_behaviour.specs.Fresh.{LooksAtPorts}
use Rattle.tp_exec.specs.CausalOrder.{Spot}
use Rattle.tp_judge.specs.OneOrder.{IsAt}
use Rattle.tp_exec.specs.OneOrder.{HasOneOrder, IsOrderOf, IsOwn, came_before, entry_at_spot, log_in, sender_to}
use Rattle.tp_exec.specs.OneOrder.{senders_to, sends_to}
use Rattle.tp_exec.specs.OneOrder.{many, count_sent_to}
use Rattle.tp_exec.specs.LookLaws.{CrossedLooks, Misses}
use Rattle.tp_exec.proofs.HistoryEntries.{own_none, spot}
use Rattle.tp_exec.proofs.LooksSeeSentMessages.{given_front, given_one}
use Rattle.tp_exec.proofs.HistoryEntries.{look_own, many_sent}
use Rattle.tp_judge.proofs.NoOrderWhereStuck.{many_here, sum_one, unit}

-- a sending is what its component did itself
send_own : (d : ℕ) (e : Entry) → sends_to d (Some e) ≡ true → is_arrival e ≡ false
send_own d (entry.Arrive p t v) met = absurd (cc)
send_own d _ met = refl

sending : (d : ℕ) (o : Option Entry) → sends_to d o ≡ true → (e : Entry) × (o ≡ Some e) × (is_arrival e ≡ false)
sending d None met = absurd (cc)
sending d (Some e) met = (e, refl, send_own d e met)

module _ (logs : List (List Entry)) (order : List Spot) (is : IsOrderOf logs order) where
  sending_own : (c d p : ℕ) → sends_to d (entry_at_spot logs (spot c p)) ≡ true → IsOwn logs (spot c p)
  sending_own c d p met =
      let h = sending d (entry_at_spot logs (spot c p)) met in
      record { act = h.0; stands = h.1; own = h.2 }

  -- what c sends to d before its place m stands before the place n of the order
  abbrev AreSentBefore : (c d m n : ℕ) → Type 0
  AreSentBefore c d m n = (q : ℕ) → q < m → sends_to d (entry_at_spot logs (spot c q)) ≡ true → (i : ℕ) × (i < n) × IsAt order i (spot c q)

  -- it does where one that c did itself at that place stands there
  all_before : (c d m n : ℕ) → IsOwn logs (spot c m) → IsAt order n (spot c m) → AreSentBefore c d m n
  all_before c d m n own there q less met =
      let k = is.kept (spot c q) (spot c m) (refl, less) (sending_own c d q met) own in
      let same : k.1 ≡ n = is.once k.1 n (spot c m) k.4 there in
      let before : k.0 < k.1 = k.2 in
      (k.0, omega (arith, before, same), k.3)

  many_grows : (c d i j : ℕ) → i ≤ j → many c (senders_to logs d (take i order)) ≤ many c (senders_to logs d (take j order))
  many_grows c d i j most =
      let f : ℕ → ℕ = λ x. unit (x == c) in
      let front = ap (many c) (given_front (sender_to logs d) (take j order) i) in
      let same = ap (λ (l : List Spot). many c (senders_to logs d l)) (take-take i j order most) in
      let less = sum_by-take-le f (senders_to logs d (take j order)) (length (senders_to logs d (take i (take j order)))) in
      omega (arith, front, same, less)

  -- a sending counts
  many_more : (c d i q : ℕ) → IsAt order i (spot c q) → sends_to d (entry_at_spot logs (spot c q)) ≡ true
      → many c (senders_to logs d (take (i + 1) order)) ≡ many c (senders_to logs d (take i order)) + 1
  many_more c d i q there met =
      let b = sends_to d (entry_at_spot logs (spot c q)) in
      let xs = senders_to logs d (take i order) in
      let list = ap (many c) (given_one (sender_to logs d) order i (spot c q) there) in
      let parts = sum_by-append (λ x. cond (x == c) 1 0) xs (cons_option (cond b (Some c) None) []) in
      let one = many_sent c c b ∙ many_here c b ∙ ap unit met in
      omega (arith, list, parts, one)

  -- so in the order so much, or more, is sent by then
  sent_by : (c d m n : ℕ) → AreSentBefore c d m n → count_sent_to d (take m (log_in logs c)) ≤ many c (senders_to logs d (take n order))
  sent_by c d zero n before = omega arith
  sent_by c d (suc m) n before =
      let log = log_in logs c in
      let f : Entry → ℕ = λ e. unit (sends_to d (Some e)) in
      let e : m + 1 ≡ suc m = omega arith in
      let on = ap (λ k. count_sent_to d (take k log)) e in
      let rest : AreSentBefore c d m n = λ q less met. before q (omega (arith, less)) met in
      elim (slice_get_cases log m).1 [
        | inr past ↦
            let low : length log ≤ m = past.0 in
            let whole = ap (count_sent_to d) (take_all (m + 1) log (omega (arith, low)) ∙ sym (take_all m log low)) in
            let was = sent_by c d m n rest in
            omega (arith, on, whole, was)
        | inl h ↦
            let one = sum_one f log m h.0 h.2 in
            elim (cases_Bool (sends_to d (Some h.0))) [
              | inl met ↦
                  let here : sends_to d (entry_at_spot logs (spot c m)) ≡ true = ap (sends_to d) h.2 ∙ met in
                  let j = before m (omega arith) here in
                  let was = sent_by c d m j.0 (all_before c d m j.0 (sending_own c d m here) j.2) in
                  let more = many_more c d j.0 m j.2 here in
                  let low : j.0 < n = j.1 in
                  let grown = many_grows c d (j.0 + 1) n (omega (arith, low)) in
                  let value = ap unit met in
                  omega (arith, on, one, was, more, grown, value)
              | inr unmet ↦
                  let was = sent_by c d m n rest in
                  let value = ap unit unmet in
                  omega (arith, on, one, was, value)
            ]
      ]

  -- who looks and has missed what was sent to it looked before that was sent
  missed_before : (c p q d r i j : ℕ) → Misses logs c p q d r → sends_to c (entry_at_spot logs (spot d r)) ≡ true → IsAt order i (spot c q)
      → IsAt order j (spot d r) → i ≤ j
  missed_before c p q d r i j misses met look there = elim (cases_lt j i) [
    | inr most ↦ most
    | inl less ↦
        let seen = ap (many d) (is.seen i (spot c q) look (misses.look, misses.stands, misses.looks)) in
        let before : AreSentBefore d c (r + 1) i = λ n under here. elim (cases_eq n r) [
          | inl same ↦ (j, less, subst (λ m. IsAt order j (spot d m)) (sym same) there)
          | inr other ↦
              let k = all_before d c r j (sending_own d c r met) there n (omega (arith, under, other)) here in
              let low : k.0 < j = k.1 in
              (k.0, omega (arith, low, less), k.2)
        ] in
        let all = sent_by d c (r + 1) i before in
        let fewer = misses.fewer in
        absurd (omega (arith, seen, all, fewer))
  ]

pub crossed_looks : CrossedLooks
crossed_looks logs c d p q r s one other (order, is) =
    let own_look : IsOwn logs (spot c q) = record { act = one.look; stands = one.stands; own = look_own one.look one.looks } in
    let own_watch : IsOwn logs (spot d s) = record { act = other.look; stands = other.stands; own = look_own other.look other.looks } in
    let first = is.kept (spot c p) (spot c q) (refl, one.looks_later) (sending_own logs order is c d p one.sent) own_look in
    let second = is.kept (spot d r) (spot d s) (refl, other.looks_later) (sending_own logs order is d c r other.sent) own_watch in
    let up : first.0 < first.1 = first.2 in
    let on : second.0 < second.1 = second.2 in
    let over = missed_before logs order is c p q d r first.1 second.0 one other.sent first.4 second.3 in
    let under = missed_before logs order is d r s c p second.1 first.0 other one.sent second.4 first.3 in
    omega (arith, up, on, over, under)

-- a look before which nothing had come has missed each sending
fewer_none : (logs : List (List Entry)) (c q d r : ℕ) → came_before logs (spot c q) ≡ [] → sends_to c (entry_at_spot logs (spot d r)) ≡ true
    → many d (came_before logs (spot c q)) < count_sent_to c (take (r + 1) (log_in logs d))
fewer_none logs c q d r none met =
    let h = sending c (entry_at_spot logs (spot d r)) met in
    let unseen : many d (came_before logs (spot c q)) ≡ 0 = ap (many d) none in
    let one = sum_one (λ e. unit (sends_to c (Some e))) (log_in logs d) r h.0 h.1 in
    let value : unit (sends_to c (Some h.0)) ≡ 1 = ap unit (ap (sends_to c) (sym h.1) ∙ met) in
    omega (arith, unseen, one, value)

-- the example by which the property is meant: each sends to the other, looks and has got nothing, and then something comes
module _ (s look came t watch went : Entry) (out : sends_to 1 (Some s) ≡ true) (back : sends_to 0 (Some t) ≡ true) (looks : LooksAtPorts look)
    (watches : LooksAtPorts watch) where
  abbrev logs : List (List Entry)
  logs = (s ∷ look ∷ came ∷ []) ∷ (t ∷ watch ∷ went ∷ []) ∷ []

  pub crossed : HasOneOrder logs → ⊥
  crossed =
      let none : came_before logs (spot 0 1) ≡ [] = ap (λ o. cons_option o []) (own_none s (send_own 1 s out)) in
      let nil : came_before logs (spot 1 1) ≡ [] = ap (λ o. cons_option o []) (own_none t (send_own 0 t back)) in
      crossed_looks logs 0 1 0 1 0 1
      (record { sent = out; looks_later = omega arith; look = look; stands = refl; looks = looks; fewer = fewer_none logs 0 1 1 0 none back })
      (record { sent = back; looks_later = omega arith; look = watch; stands = refl; looks = watches; fewer = fewer_none logs 1 1 0 0 nil out })
