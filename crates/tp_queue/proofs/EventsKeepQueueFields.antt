-- The fields keep to the history through each event.
use Rattle.std.proofs.Common.{◌≡◌, ℕ, zero, suc, ◌+◌, ◌-◌, ◌<◌, ◌≤◌, Bool, true, false, ◌⊎◌, inl, inr, Some, None, List, [], ◌∷◌, ◌++◌, length, take, drop, refl, ap, sym, ◌∙◌, subst, arith}
use Rattle.std.specs.Prelude.{slice_get}
use Rattle.std.proofs.lemmas.Bool.{lt-ltb}
use Rattle.std.proofs.lemmas.Bool.Decides.{nat_tests}
use Rattle.std.proofs.lemmas.List.{take-append-le, drop-append-le, length-drop}
use Rattle.std.proofs.lemmas.Option.{same_Some}
use Rattle.std.proofs.Math.Seq.{take-append_seam}
use Rattle.tp_common.specs.declared.event.Env.{Env}
use Rattle.tp_common.specs.declared.event.Event.{Event}
use Rattle.tp_common.specs.declared.event.Event.TheVariants as event
use Rattle.tp_common.specs.declared.event.Status.{Status}
use Rattle.tp_common.specs.declared.event.Status.TheVariants as status
use Rattle.tp_queue.specs.History.{arrival, is_removal, is_emptying, is_clear, is_start, is_stop, is_halt, accepted, gone, queued, status_of, limit, limit_at, top, MayFollow, Lawful, since_start}
use Rattle.tp_queue.specs.Answers.{removal, halted_count}
use Rattle.tp_queue.specs.Queues.{deliverable}
use Rattle.tp_queue.proofs.QueueFieldsMatchHistory.{KeepsQueue}
use Rattle.tp_queue.proofs.ListPartGrowth.{length-push}
use Rattle.tp_queue.proofs.QueueHistoryGrowth.{accepted_more, accepted_same, gone_all, gone_more, gone_same, status_of_start, status_of_stop, status_of_same, halted, status_of_halt, mark_put, mark_cleared, mark_same}

get_push : {X : Type 0} (h : List X) (x : X) (k : ℕ) (e : X) → slice_get (h ++ x ∷ []) k ≡ Some e
    → ((k < length h) × (slice_get h k ≡ Some e)) ⊎ ((k ≡ length h) × (x ≡ e))
get_push [] x zero e g = inr (refl, same_Some x e g)
get_push [] x (suc k) e g = absurd (cc)
get_push (y ∷ h) x zero e g = inl (omega arith, g)
get_push (y ∷ h) x (suc k) e g =
    elim (get_push h x k e g) [ inl p ↦ inl (omega (arith, p.0), p.1) | inr p ↦ inr (omega (arith, p.0), p.1) ]

pub Lawful-push : {M : Type 0} (h : List (Event M)) (x : Event M) → Lawful h → MayFollow h x → Lawful (h ++ x ∷ [])
unfolding Lawful
Lawful-push {M} h x l m k e g =
    elim (get_push h x k e g) [
      | inl p ↦
          let n : k ≤ length h = omega (arith, p.0) in
          let P : List (Event M) → Type 0 = λ t. MayFollow t e in subst P (sym (take-append-le k h (x ∷ []) n)) (l k e p.1)
      | inr p ↦
          let P : Event M → Type 0 = λ y. MayFollow (take k (h ++ x ∷ [])) y in
          let Q : List (Event M) → Type 0 = λ t. MayFollow t x in
          subst P p.1 (subst Q (sym (ap (λ n. take n (h ++ x ∷ [])) p.0 ∙ take-append_seam h (x ∷ []))) m)
    ]

queued_is : {M : Type 0} (h : List (Event M)) → queued h ≡ drop (gone h) (accepted h)
unfolding queued
queued_is h = refl

length-queued : {M : Type 0} (h : List (Event M)) → length (queued h) ≡ length (accepted h) - gone h
unfolding queued
length-queued h = length-drop (gone h) (accepted h)

drop-more : {X : Type 0} (n : ℕ) (l : List X) → drop (n + 1) l ≡ drop 1 (drop n l)
drop-more zero l = refl
drop-more {X} (suc n) [] = let e : suc n + 1 ≡ suc (n + 1) = omega arith in ap (λ k. drop {A = X} k []) e
drop-more (suc n) (x ∷ l) = let e : suc n + 1 ≡ suc (n + 1) = omega arith in ap (λ k. drop k (x ∷ l)) e ∙ drop-more n l

drop-all : {X : Type 0} (l : List X) → drop (length l) l ≡ []
drop-all [] = refl
drop-all (x ∷ l) = drop-all l

pub empty_keeps : {M : Type 0} → KeepsQueue {M = M} [] [] status.Started 0
unfolding Lawful queued gone accepted status_of since_start
empty_keeps = record {
  lawful = λ k e g. absurd (cc);
  entries_are = refl;
  status_is = refl;
  in_range = omega arith;
  mark_is = λ h. absurd (cc);
  mark_in_range = λ h. omega arith;
}

pub arrive_keeps : {M : Type 0} (h : List (Event M)) (entries : List (Env M)) (now : Status) (ahead : ℕ) (e : Env M)
    → KeepsQueue h entries now ahead → KeepsQueue (h ++ event.Arrive e ∷ []) (entries ++ e ∷ []) now ahead
arrive_keeps h entries now ahead e k =
    let a : accepted (h ++ event.Arrive e ∷ []) ≡ accepted h ++ e ∷ [] = accepted_more h (event.Arrive e) e refl in
    let g : gone (h ++ event.Arrive e ∷ []) ≡ gone h = gone_same h (event.Arrive e) refl refl in
    let range : gone h ≤ length (accepted h) = k.in_range in
    record {
      lawful = Lawful-push h (event.Arrive e) k.lawful tt;
      entries_are =
          ap (λ l. l ++ e ∷ []) (k.entries_are ∙ queued_is h)
          ∙ sym (drop-append-le (gone h) (accepted h) (e ∷ []) range)
          ∙ sym (queued_is (h ++ event.Arrive e ∷ []) ∙ ap (λ n. drop n (accepted (h ++ event.Arrive e ∷ []))) g ∙ ap (drop (gone h)) a);
      status_is = k.status_is ∙ sym (status_of_same h (event.Arrive e) refl refl refl);
      in_range = omega (arith, g, ap length a, length-push (accepted h) e);
      mark_is = λ s. omega (arith, g, k.mark_is s, mark_same h (event.Arrive e) (sym k.status_is ∙ s) refl refl);
      mark_in_range = λ s. omega (arith, k.mark_in_range s, length-push entries e);
    }

-- an event that takes the top out
pub removal_keeps : {M : Type 0} (h : List (Event M)) (x : Event M) (e : Env M) (entries : List (Env M))
    (now : Status) (ahead less : ℕ)
    → arrival x ≡ None → is_emptying x ≡ false → is_removal x ≡ true → is_clear x ≡ false → is_start x ≡ false
    → is_stop x ≡ false → is_halt x ≡ false → MayFollow h x → (now ≡ status.Halted → ahead ≡ less + 1)
    → KeepsQueue h (e ∷ entries) now ahead → KeepsQueue (h ++ x ∷ []) entries now less
removal_keeps h x e entries now ahead less an em re cl st sp ha may fewer k =
    let a : accepted (h ++ x ∷ []) ≡ accepted h = accepted_same h x an in
    let g : gone (h ++ x ∷ []) ≡ gone h + 1 = gone_more h x em re in
    let there : length (e ∷ entries) ≡ length (accepted h) - gone h = ap length k.entries_are ∙ length-queued h in
    record {
      lawful = Lawful-push h x k.lawful may;
      entries_are =
          ap (drop 1) (k.entries_are ∙ queued_is h) ∙ sym (drop-more (gone h) (accepted h))
          ∙ sym (queued_is (h ++ x ∷ []) ∙ ap (λ n. drop n (accepted (h ++ x ∷ []))) g ∙ ap (drop (gone h + 1)) a);
      status_is = k.status_is ∙ sym (status_of_same h x st sp ha);
      in_range = omega (arith, g, ap length a, there);
      mark_is = λ s. omega (arith, g, k.mark_is s, fewer s, mark_same h x (sym k.status_is ∙ s) st cl);
      mark_in_range = λ s. omega (arith, k.mark_in_range s, fewer s);
    }

pub found_keeps : {M : Type 0} (h : List (Event M)) (e : Env M) (entries : List (Env M)) (now : Status) (ahead : ℕ)
    → top h ≡ Some e → KeepsQueue h entries now ahead → KeepsQueue (h ++ event.Found e ∷ []) entries now ahead
found_keeps h e entries now ahead may k =
    let a : accepted (h ++ event.Found e ∷ []) ≡ accepted h = accepted_same h (event.Found e) refl in
    let g : gone (h ++ event.Found e ∷ []) ≡ gone h = gone_same h (event.Found e) refl refl in
    let range : gone h ≤ length (accepted h) = k.in_range in
    record {
      lawful = Lawful-push h (event.Found e) k.lawful may;
      entries_are =
          k.entries_are ∙ queued_is h
          ∙ sym (queued_is (h ++ event.Found e ∷ []) ∙ ap (λ n. drop n (accepted (h ++ event.Found e ∷ []))) g ∙ ap (drop (gone h)) a);
      status_is = k.status_is ∙ sym (status_of_same h (event.Found e) refl refl refl);
      in_range = omega (arith, g, ap length a);
      mark_is = λ s. omega (arith, g, k.mark_is s, mark_same h (event.Found e) (sym k.status_is ∙ s) refl refl);
      mark_in_range = k.mark_in_range;
    }

queued_emptied : {M : Type 0} (h : List (Event M)) (x : Event M) → arrival x ≡ None → is_emptying x ≡ true → queued (h ++ x ∷ []) ≡ []
queued_emptied h x an em =
    queued_is (h ++ x ∷ []) ∙ ap (λ n. drop n (accepted (h ++ x ∷ []))) (gone_all h x em)
    ∙ ap (drop (length (accepted h))) (accepted_same h x an) ∙ drop-all (accepted h)

pub clear_keeps : {M : Type 0} (h : List (Event M)) (entries : List (Env M)) (now : Status) (ahead : ℕ)
    → KeepsQueue h entries now ahead → KeepsQueue (h ++ event.Cleared ∷ []) [] now 0
clear_keeps h entries now ahead k =
    let a : accepted (h ++ event.Cleared ∷ []) ≡ accepted h = accepted_same h event.Cleared refl in
    let g : gone (h ++ event.Cleared ∷ []) ≡ length (accepted h) = gone_all h event.Cleared refl in
    record {
      lawful = Lawful-push h event.Cleared k.lawful tt;
      entries_are = sym (queued_emptied h event.Cleared refl refl);
      status_is = k.status_is ∙ sym (status_of_same h event.Cleared refl refl refl);
      in_range = omega (arith, g, ap length a);
      mark_is = λ s. omega (arith, g, mark_cleared h (sym k.status_is ∙ s));
      mark_in_range = λ s. omega arith;
    }

pub start_keeps : {M : Type 0} (h : List (Event M)) (entries : List (Env M)) (now : Status) (ahead any : ℕ)
    → KeepsQueue h entries now ahead → KeepsQueue (h ++ event.Started ∷ []) [] status.Started any
start_keeps h entries now ahead any k =
    let a : accepted (h ++ event.Started ∷ []) ≡ accepted h = accepted_same h event.Started refl in
    let g : gone (h ++ event.Started ∷ []) ≡ length (accepted h) = gone_all h event.Started refl in
    record {
      lawful = Lawful-push h event.Started k.lawful tt;
      entries_are = sym (queued_emptied h event.Started refl refl);
      status_is = sym (status_of_start h);
      in_range = omega (arith, g, ap length a);
      mark_is = λ s. absurd (cc);
      mark_in_range = λ s. absurd (cc);
    }

queued_same : {M : Type 0} (h : List (Event M)) (x : Event M) → arrival x ≡ None → is_emptying x ≡ false
    → is_removal x ≡ false → queued h ≡ queued (h ++ x ∷ [])
queued_same h x an em re =
    queued_is h ∙ sym (queued_is (h ++ x ∷ []) ∙ ap (λ n. drop n (accepted (h ++ x ∷ []))) (gone_same h x em re) ∙ ap (drop (gone h)) (accepted_same h x an))

pub stop_keeps : {M : Type 0} (h : List (Event M)) (entries : List (Env M)) (now : Status) (ahead any : ℕ)
    → KeepsQueue h entries now ahead → KeepsQueue (h ++ event.Stopped ∷ []) entries status.Stopped any
stop_keeps h entries now ahead any k =
    let a : accepted (h ++ event.Stopped ∷ []) ≡ accepted h = accepted_same h event.Stopped refl in
    let g : gone (h ++ event.Stopped ∷ []) ≡ gone h = gone_same h event.Stopped refl refl in
    let range : gone h ≤ length (accepted h) = k.in_range in
    record {
      lawful = Lawful-push h event.Stopped k.lawful tt;
      entries_are = k.entries_are ∙ queued_same h event.Stopped refl refl refl;
      status_is = sym (status_of_stop h);
      in_range = omega (arith, g, ap length a);
      mark_is = λ s. absurd (cc);
      mark_in_range = λ s. absurd (cc);
    }

-- a halt of a started port puts the mark behind all that is queued
pub halt_keeps : {M : Type 0} (h : List (Event M)) (entries : List (Env M)) (ahead : ℕ)
    → KeepsQueue h entries status.Started ahead → KeepsQueue (h ++ event.Halted ∷ []) entries status.Halted (length entries)
halt_keeps h entries ahead k =
    let a : accepted (h ++ event.Halted ∷ []) ≡ accepted h = accepted_same h event.Halted refl in
    let g : gone (h ++ event.Halted ∷ []) ≡ gone h = gone_same h event.Halted refl refl in
    let range : gone h ≤ length (accepted h) = k.in_range in
    let there : length entries ≡ length (accepted h) - gone h = ap length k.entries_are ∙ length-queued h in
    record {
      lawful = Lawful-push h event.Halted k.lawful tt;
      entries_are = k.entries_are ∙ queued_same h event.Halted refl refl refl;
      status_is = sym (status_of_halt h ∙ ap halted (sym k.status_is));
      in_range = omega (arith, g, ap length a);
      mark_is = λ s. omega (arith, g, there, mark_put h (sym k.status_is));
      mark_in_range = λ s. omega arith;
    }

-- a halt of any other port changes nothing
pub halt_again_keeps : {M : Type 0} (h : List (Event M)) (entries : List (Env M)) (now : Status) (ahead : ℕ)
    → halted now ≡ now → KeepsQueue h entries now ahead → KeepsQueue (h ++ event.Halted ∷ []) entries now ahead
halt_again_keeps h entries now ahead same k =
    let a : accepted (h ++ event.Halted ∷ []) ≡ accepted h = accepted_same h event.Halted refl in
    let g : gone (h ++ event.Halted ∷ []) ≡ gone h = gone_same h event.Halted refl refl in
    let range : gone h ≤ length (accepted h) = k.in_range in
    record {
      lawful = Lawful-push h event.Halted k.lawful tt;
      entries_are = k.entries_are ∙ queued_same h event.Halted refl refl refl;
      status_is = sym (status_of_halt h ∙ ap halted (sym k.status_is) ∙ same);
      in_range = omega (arith, g, ap length a);
      mark_is = λ s. omega (arith, g, k.mark_is s, mark_same h event.Halted (sym k.status_is ∙ s) refl refl);
      mark_in_range = k.mark_in_range;
    }

limit_at_is : {M : Type 0} (h : List (Event M)) (entries : List (Env M)) (now : Status) (ahead : ℕ)
    → KeepsQueue h entries now ahead → limit_at now h ≡ gone h + deliverable now (length entries) ahead
limit_at_is h entries status.Started ahead k = omega (arith, k.in_range, ap length k.entries_are ∙ length-queued h)
limit_at_is h entries status.Halted ahead k = sym (k.mark_is refl)
limit_at_is h entries status.Stopped ahead k = omega arith

pub limit_is : {M : Type 0} (h : List (Event M)) (entries : List (Env M)) (now : Status) (ahead : ℕ)
    → KeepsQueue h entries now ahead → limit h ≡ gone h + deliverable now (length entries) ahead
unfolding limit
limit_is h entries now ahead k = rw (← k.status_is) (limit_at_is h entries now ahead k)

pub queued_range : {M : Type 0} (h : List (Event M)) (entries : List (Env M)) (now : Status) (ahead : ℕ)
    → KeepsQueue h entries now ahead → deliverable now (length entries) ahead ≤ length entries
queued_range h entries status.Started ahead k = omega arith
queued_range h entries status.Halted ahead k = k.mark_in_range refl
queued_range h entries status.Stopped ahead k = omega arith

slice_get-drop : {X : Type 0} (n : ℕ) (l : List X) → slice_get l n ≡ slice_get (drop n l) 0
slice_get-drop zero l = refl
slice_get-drop (suc n) [] = refl
slice_get-drop (suc n) (x ∷ l) = slice_get-drop n l

pub top_there : {M : Type 0} (h : List (Event M)) (entries : List (Env M)) (now : Status) (ahead : ℕ)
    → KeepsQueue h entries now ahead → 0 < deliverable now (length entries) ahead → top h ≡ slice_get entries 0
unfolding top
top_there h entries now ahead k some =
    let n : gone h < limit h = omega (arith, limit_is h entries now ahead k) in
    rw (lt-ltb (gone h) (limit h) n) (slice_get-drop (gone h) (accepted h) ∙ ap (λ l. slice_get l 0) (sym (k.entries_are ∙ queued_is h)))

pub top_absent : {M : Type 0} (h : List (Event M)) (entries : List (Env M)) (now : Status) (ahead : ℕ)
    → KeepsQueue h entries now ahead → deliverable now (length entries) ahead ≡ 0 → top h ≡ None
unfolding top
top_absent h entries now ahead k none =
    let n : limit h ≤ gone h = omega (arith, limit_is h entries now ahead k) in
    grind (arith, nat_tests)

pub ahead_is : {M : Type 0} (h v : List (Event M)) (entries : List (Env M)) (now at : Status) (ahead : ℕ)
    → KeepsQueue h entries now ahead → h ≡ v → now ≡ at → deliverable at (length entries) ahead ≡ limit v - gone v
ahead_is h v entries now at ahead k e s =
    let l : limit v ≡ gone v + deliverable at (length entries) ahead =
    subst (λ (w : List (Event _)). limit w ≡ gone w + deliverable at (length entries) ahead) e
    (subst (λ (z : Status). limit h ≡ gone h + deliverable z (length entries) ahead) s (limit_is h entries now ahead k)) in
    omega (arith, l)

-- what is gone was within the limit
pub gone_within : {M : Type 0} (h v : List (Event M)) (entries : List (Env M)) (now : Status) (ahead : ℕ)
    → KeepsQueue h entries now ahead → h ≡ v → gone v ≤ limit v
gone_within h v entries now ahead k e =
    let l : limit v ≡ gone v + deliverable now (length entries) ahead =
    subst (λ (w : List (Event _)). limit w ≡ gone w + deliverable now (length entries) ahead) e
    (limit_is h entries now ahead k) in
    omega (arith, l)

pub no_top : {M : Type 0} (v : List (Event M)) → limit v - gone v ≡ 0 → None ≡ top v
unfolding top
no_top v e = let n : limit v ≤ gone v = omega (arith, e) in grind (arith, nat_tests)

pub top_is_front : {M : Type 0} (h v : List (Event M)) (entries : List (Env M)) (now : Status) (ahead n : ℕ)
    → KeepsQueue h entries now ahead → h ≡ v → n ≡ limit v - gone v → (n ≡ 0 → ⊥) → slice_get entries 0 ≡ top v
top_is_front h v entries now ahead n k e m some =
    let d : deliverable now (length entries) ahead ≡ limit v - gone v = ahead_is h v entries now now ahead k e refl in
    let p : 0 < deliverable now (length entries) ahead = omega (arith, d, m, some) in
    sym (ap top (sym e) ∙ top_there h entries now ahead k p)

-- The same, at lists that are known by equations.
pub Keeps-at : {M : Type 0} (h after : List (Event M)) (entries left : List (Env M)) (now : Status) (ahead : ℕ)
    → after ≡ h → left ≡ entries → KeepsQueue h entries now ahead → KeepsQueue after left now ahead
Keeps-at h after entries left now ahead e f k = rw (e, f) k

front_is : {X : Type 0} (l : List X) (e : X) → slice_get l 0 ≡ Some e → l ≡ e ∷ drop 1 l
front_is [] e g = absurd (cc)
front_is (x ∷ l) e g = ap (λ y. y ∷ l) (same_Some x e g)

zero_or_more : (n : ℕ) → (n ≡ 0) ⊎ (0 < n)
zero_or_more zero = inl refl
zero_or_more (suc n) = inr (omega arith)

-- the top is the first of the entries, and it can be received
pub top_is_first : {M : Type 0} (h v : List (Event M)) (entries : List (Env M)) (now : Status) (ahead : ℕ) (e : Env M)
    → KeepsQueue h entries now ahead → h ≡ v → top v ≡ Some e
    → (0 < deliverable now (length entries) ahead) × (entries ≡ e ∷ drop 1 entries)
top_is_first h v entries now ahead e k same there =
    elim (zero_or_more (deliverable now (length entries) ahead)) [
      | inl none ↦ let absent : top h ≡ None = top_absent h entries now ahead k none in let found : top h ≡ Some e = ap top same ∙ there in absurd (cc)
      | inr some ↦ (some, front_is entries e (sym (top_there h entries now ahead k some) ∙ ap top same ∙ there))
    ]

take_out_any : {M : Type 0} (received : Bool) (h : List (Event M)) (e : Env M) (left : List (Env M))
    (now : Status) (ahead less : ℕ)
    → top h ≡ Some e → (now ≡ status.Halted → ahead ≡ less + 1) → KeepsQueue h (e ∷ left) now ahead
    → KeepsQueue (h ++ removal received e ∷ []) left now less
take_out_any true h e left now ahead less may fewer k = removal_keeps h (event.Took e) e left now ahead less refl refl refl refl refl refl refl may fewer k
take_out_any false h e left now ahead less may fewer k = removal_keeps h (event.Dropped e) e left now ahead less refl refl refl refl refl refl refl may fewer k

pub out_keeps : {M : Type 0} (received : Bool) (h v after : List (Event M)) (e : Env M) (entries left : List (Env M))
    (now : Status) (ahead less : ℕ)
    → top v ≡ Some e → h ≡ v → after ≡ h ++ removal received e ∷ [] → left ≡ drop 1 entries → less ≡ ahead - 1
    → KeepsQueue h entries now ahead → KeepsQueue after left now less
out_keeps received h v after e entries left now ahead less there same history queue one k =
    let first : (0 < deliverable now (length entries) ahead) × (entries ≡ e ∷ drop 1 entries) = top_is_first h v entries now ahead e k same there in
    let fewer : now ≡ status.Halted → ahead ≡ less + 1 =
    λ s. let some : 0 < ahead = subst (λ (z : Status). 0 < deliverable z (length entries) ahead) s first.0 in omega arith in
    let shown : KeepsQueue h (e ∷ drop 1 entries) now ahead = Keeps-at h h entries (e ∷ drop 1 entries) now ahead refl (sym first.1) k in
    Keeps-at _ _ _ _ _ _ history queue (take_out_any received h e (drop 1 entries) now ahead less (ap top same ∙ there) fewer shown)

pub halt_at_start_keeps : {M : Type 0} (h after : List (Event M)) (entries : List (Env M)) (now : Status) (ahead n : ℕ)
    → now ≡ status.Started → n ≡ length entries → after ≡ h ++ event.Halted ∷ [] → KeepsQueue h entries now ahead
    → KeepsQueue after entries status.Halted n
halt_at_start_keeps h after entries now ahead n s len history k =
    rw (history, len) (halt_keeps h entries ahead (subst (λ (z : Status). KeepsQueue h entries z ahead) s k))

later : (now : Status) → (now ≡ status.Halted) ⊎ (now ≡ status.Stopped) → halted now ≡ now
later status.Started (inl e) = absurd (cc)
later status.Started (inr e) = absurd (cc)
later status.Halted n = refl
later status.Stopped n = refl

pub halt_later_keeps : {M : Type 0} (h after : List (Event M)) (entries : List (Env M)) (now : Status) (ahead : ℕ)
    → (now ≡ status.Halted) ⊎ (now ≡ status.Stopped) → after ≡ h ++ event.Halted ∷ [] → KeepsQueue h entries now ahead
    → KeepsQueue after entries now ahead
halt_later_keeps h after entries now ahead s history k = rw (history) (halt_again_keeps h entries now ahead (later now s) k)

pub count_later : {M : Type 0} (h v : List (Event M)) (entries : List (Env M)) (now : Status) (ahead : ℕ)
    → (now ≡ status.Halted) ⊎ (now ≡ status.Stopped) → h ≡ v → KeepsQueue h entries now ahead
    → None ≡ halted_count (status_of v) v
count_later h v entries now ahead (inl e) same k = ap (λ s. halted_count s v) (sym e ∙ k.status_is ∙ ap status_of same)
count_later h v entries now ahead (inr e) same k = ap (λ s. halted_count s v) (sym e ∙ k.status_is ∙ ap status_of same)
