-- What each word on a history becomes where one event is added.
use Rattle.std.proofs.Common.{◌≡◌, ◌+◌, ◌-◌, ◌≤◌, Bool, true, false, cond, ◌||◌, Some, None, List, [], ◌∷◌, ◌++◌, length, refl, ap, ◌∙◌, arith, append-nil}
use Rattle.std.specs.Prelude.{count_by}
use Rattle.std.specs.List.{filter_map, list_any, after_first, after_last}
use Rattle.std.proofs.lemmas.List.{take-append-le}
use Rattle.std.proofs.lemmas.List.Elements.{filter_map-append}
use Rattle.std.proofs.lemmas.List.Folds.{list_any-append}
use Rattle.std.proofs.lemmas.List.Sums.{sum_by-append}
use Rattle.std.proofs.Math.Seq.{take-length}
use Rattle.tp_common.specs.declared.event.Env.{Env}
use Rattle.tp_common.specs.declared.event.Event.{Event}
use Rattle.tp_common.specs.declared.event.Event.TheVariants as event
use Rattle.tp_common.specs.declared.event.Status.{Status}
use Rattle.tp_common.specs.declared.event.Status.TheVariants as status
use Rattle.tp_queue.specs.History.{arrival, is_removal, is_emptying, is_clear, is_start, is_stop, is_halt, accepted, gone, since_start, status_of, since_mark, mark}
use Rattle.tp_queue.proofs.ListPartGrowth.{length-push, after_last_keeps, after_last_cuts, before_last_keeps, before_last_cuts, after_first_keeps, after_first_cuts}

pub accepted_more : {M : Type 0} (h : List (Event M)) (x : Event M) (e : Env M) → arrival x ≡ Some e → accepted (h ++ x ∷ []) ≡ accepted h ++ e ∷ []
unfolding accepted
accepted_more h x e a = rw (filter_map-append arrival h (x ∷ []), a) refl

pub accepted_same : {M : Type 0} (h : List (Event M)) (x : Event M) → arrival x ≡ None → accepted (h ++ x ∷ []) ≡ accepted h
unfolding accepted
accepted_same h x a = rw (filter_map-append arrival h (x ∷ []), a) (append-nil (filter_map arrival h))

count_push : {M : Type 0} (p : Event M → Bool) (h : List (Event M)) (x : Event M) → count_by p (h ++ x ∷ []) ≡ count_by p h + cond (p x) 1 0
count_push p h x = sum_by-append (λ y. cond (p y) 1 0) h (x ∷ []) ∙ omega arith

pub gone_all : {M : Type 0} (h : List (Event M)) (x : Event M) → is_emptying x ≡ true → gone (h ++ x ∷ []) ≡ length (accepted h)
unfolding gone
gone_all h x e =
    rw (before_last_cuts is_emptying h x e, after_last_cuts is_emptying h x e) (omega arith)

pub gone_more : {M : Type 0} (h : List (Event M)) (x : Event M) → is_emptying x ≡ false → is_removal x ≡ true → gone (h ++ x ∷ []) ≡ gone h + 1
unfolding gone
gone_more h x e r =
    rw (before_last_keeps is_emptying h x e, after_last_keeps is_emptying h x e, count_push is_removal (after_last is_emptying h) x, r) (omega arith)

pub gone_same : {M : Type 0} (h : List (Event M)) (x : Event M) → is_emptying x ≡ false → is_removal x ≡ false → gone (h ++ x ∷ []) ≡ gone h
unfolding gone
gone_same h x e r =
    rw (before_last_keeps is_emptying h x e, after_last_keeps is_emptying h x e, count_push is_removal (after_last is_emptying h) x, r) (omega arith)

since_start_none : {M : Type 0} (h : List (Event M)) (x : Event M) → is_start x ≡ true → since_start (h ++ x ∷ []) ≡ []
unfolding since_start
since_start_none h x s = after_last_cuts is_start h x s

since_start_more : {M : Type 0} (h : List (Event M)) (x : Event M) → is_start x ≡ false → since_start (h ++ x ∷ []) ≡ since_start h ++ x ∷ []
unfolding since_start
since_start_more h x s = after_last_keeps is_start h x s

or_false : (b : Bool) → (b || false) ≡ b
or_false true = refl
or_false false = refl

or_true : (b : Bool) → (b || true) ≡ true
or_true true = refl
or_true false = refl

any_more : {M : Type 0} (p : Event M → Bool) (h : List (Event M)) (x : Event M) → is_start x ≡ false
    → list_any p (since_start (h ++ x ∷ [])) ≡ (list_any p (since_start h) || p x)
any_more p h x s =
    ap (list_any p) (since_start_more h x s) ∙ list_any-append p (since_start h) (x ∷ [])
    ∙ ap (λ b. list_any p (since_start h) || b) (or_false (p x))

pub status_of_start : {M : Type 0} (h : List (Event M)) → status_of (h ++ event.Started ∷ []) ≡ status.Started
unfolding status_of
status_of_start h = rw (since_start_none h event.Started refl) refl

pub status_of_stop : {M : Type 0} (h : List (Event M)) → status_of (h ++ event.Stopped ∷ []) ≡ status.Stopped
unfolding status_of
status_of_stop h = rw (any_more is_stop h event.Stopped refl, or_true (list_any is_stop (since_start h))) refl

pub status_of_same : {M : Type 0} (h : List (Event M)) (x : Event M) → is_start x ≡ false → is_stop x ≡ false
    → is_halt x ≡ false → status_of (h ++ x ∷ []) ≡ status_of h
unfolding status_of
status_of_same h x s p t =
    rw (any_more is_stop h x s, any_more is_halt h x s, p, t, or_false (list_any is_stop (since_start h)), or_false (list_any is_halt (since_start h))) refl

-- the status after a halt
abbrev pub halted : Status → Status
halted status.Started = status.Halted
halted status.Halted = status.Halted
halted status.Stopped = status.Stopped

status_of_halt_cases : (stopped halt : Bool)
    → cond (stopped || false) status.Stopped (cond (halt || true) status.Halted status.Started)
    ≡ halted (cond stopped status.Stopped (cond halt status.Halted status.Started))
status_of_halt_cases true halt = refl
status_of_halt_cases false true = refl
status_of_halt_cases false false = refl

pub status_of_halt : {M : Type 0} (h : List (Event M)) → status_of (h ++ event.Halted ∷ []) ≡ halted (status_of h)
unfolding status_of
status_of_halt h =
    rw (any_more is_stop h event.Halted refl, any_more is_halt h event.Halted refl)
    (status_of_halt_cases (list_any is_stop (since_start h)) (list_any is_halt (since_start h)))

halt_there : (stopped halt : Bool) → cond stopped status.Stopped (cond halt status.Halted status.Started) ≡ status.Halted → halt ≡ true
halt_there true halt h = absurd (cc)
halt_there false true h = refl
halt_there false false h = absurd (cc)

halt_absent : (stopped halt : Bool) → cond stopped status.Stopped (cond halt status.Halted status.Started) ≡ status.Started → halt ≡ false
halt_absent true halt h = absurd (cc)
halt_absent false true h = absurd (cc)
halt_absent false false h = refl

since_halt_more : {M : Type 0} (h : List (Event M)) (x : Event M) → status_of h ≡ status.Halted → is_start x ≡ false
    → after_first is_halt (since_start (h ++ x ∷ [])) ≡ after_first is_halt (since_start h) ++ x ∷ []
unfolding status_of
since_halt_more h x s n =
    ap (after_first is_halt) (since_start_more h x n)
    ∙ after_first_keeps is_halt (since_start h) x
    (halt_there (list_any is_stop (since_start h)) (list_any is_halt (since_start h)) s)

since_halt_none : {M : Type 0} (h : List (Event M)) → status_of h ≡ status.Started → after_first is_halt (since_start (h ++ event.Halted ∷ [])) ≡ []
unfolding status_of
since_halt_none h s =
    ap (after_first is_halt) (since_start_more h event.Halted refl)
    ∙ after_first_cuts is_halt (since_start h) event.Halted
    (halt_absent (list_any is_stop (since_start h)) (list_any is_halt (since_start h)) s)

-- a mark that was just put has all that arrived before it
mark_of_none : {M : Type 0} (h : List (Event M)) → since_mark h ≡ [] → mark h ≡ length (accepted h)
unfolding mark
mark_of_none h e =
    let n : length h - length (since_mark h) ≡ length h = omega (arith, ap length e) in rw n (ap (λ l. length (accepted l)) (take-length h))

mark_of_more : {M : Type 0} (h : List (Event M)) (x : Event M) → since_mark (h ++ x ∷ []) ≡ since_mark h ++ x ∷ [] → mark (h ++ x ∷ []) ≡ mark h
unfolding mark
mark_of_more h x e =
    let n : length (h ++ x ∷ []) - length (since_mark (h ++ x ∷ [])) ≡ length h - length (since_mark h) =
    omega (arith, length-push h x, ap length e, length-push (since_mark h) x) in
    let m : length h - length (since_mark h) ≤ length h = omega arith in
    rw n (ap (λ l. length (accepted l)) (take-append-le (length h - length (since_mark h)) h (x ∷ []) m))

pub mark_put : {M : Type 0} (h : List (Event M)) → status_of h ≡ status.Started → mark (h ++ event.Halted ∷ []) ≡ length (accepted h)
unfolding since_mark
mark_put h s =
    mark_of_none (h ++ event.Halted ∷ []) (ap (after_last is_clear) (since_halt_none h s)) ∙ ap length (accepted_same h event.Halted refl)

pub mark_cleared : {M : Type 0} (h : List (Event M)) → status_of h ≡ status.Halted → mark (h ++ event.Cleared ∷ []) ≡ length (accepted h)
unfolding since_mark
mark_cleared h s =
    mark_of_none (h ++ event.Cleared ∷ [])
    (ap (after_last is_clear) (since_halt_more h event.Cleared s refl)
    ∙ after_last_cuts is_clear (after_first is_halt (since_start h)) event.Cleared refl)
    ∙ ap length (accepted_same h event.Cleared refl)

pub mark_same : {M : Type 0} (h : List (Event M)) (x : Event M) → status_of h ≡ status.Halted → is_start x ≡ false
    → is_clear x ≡ false → mark (h ++ x ∷ []) ≡ mark h
unfolding since_mark
mark_same h x s n c =
    mark_of_more h x (ap (after_last is_clear) (since_halt_more h x s n) ∙ after_last_keeps is_clear (after_first is_halt (since_start h)) x c)
