-- What the calls that receive answer, from what they learn of the top.
use Rattle.std.proofs.Common.{◌≡◌, ℕ, Bool, true, false, cond, Option, Some, None, List, refl, sym, subst}
use Rattle.std.specs.Prelude.{IsTrue, ◌↔◌, MatchOption}
use Rattle.tp_common.specs.declared.event.Env.{Env}
use Rattle.tp_common.specs.declared.event.Event.{Event}
use Rattle.tp_common.specs.declared.event.TriggerAnswer.TheVariants as trigger_answer
use Rattle.tp_queue.specs.History.{top}
use Rattle.tp_common.specs.Criteria.{Satisfies}
use Rattle.tp_queue.specs.Answers.{FindsNone, Checks, checked}
use Rattle.tp_queue.specs.Queues.{QueueState, StandsFor, AtHistory}
use Rattle.tp_queue.specs.Calls.{Offers, ReceivesFor, TakesOut, TriggersFor}
use Rattle.tp_queue.proofs.QueueStateTransitions.{found_stands}

-- the test, where the top is known
abbrev pub OffersAt : {M : Type 0} → (M → Type 0) → Option ℕ → Option (Env M) → Bool → Type 0
OffersAt admits from o fits = MatchOption o (fits ≡ false) (λ e. IsTrue fits ↔ Satisfies admits from e)

satisfied : {M : Type 0} (admits : M → Type 0) (from : Option ℕ) (o : Option (Env M)) (e : Env M) (fits : Bool)
    → OffersAt admits from o fits → o ≡ Some e → IsTrue fits ↔ Satisfies admits from e
satisfied admits from o e fits f there = rw there at f

no_top_fits : {M : Type 0} (admits : M → Type 0) (from : Option ℕ) (h : List (Event M)) (fits : Bool)
    → Offers admits from h fits → top h ≡ None → fits ≡ true → ⊥
no_top_fits admits from h fits f there n =
    let no : fits ≡ false = rw there at f in absurd (cc)

receives_at : {M : Type 0} (admits : M → Type 0) (from : Option ℕ) (h : List (Event M)) (after : QueueState M) (fits : Bool) (r : Option (Env M))
    → Offers admits from h fits → fits ≡ true → TakesOut h r after → ReceivesFor admits from h r after
receives_at admits from h after fits None f n out = absurd (no_top_fits admits from h fits f out.0 n)
receives_at admits from h after fits (Some e) f n out =
    let both : IsTrue fits ↔ Satisfies admits from e = satisfied admits from (top h) e fits f out.0 in
    ((out.0, both.0 n), out.1 true)

pub receives_taken : {M : Type 0} (admits : M → Type 0) (from : Option ℕ) (before after : QueueState M) (fits : Bool) (r : Option (Env M))
    → AtHistory before (λ h. Offers admits from h fits) → fits ≡ true → AtHistory before (λ h. TakesOut h r after)
    → AtHistory before (λ h. ReceivesFor admits from h r after)
receives_taken admits from before after fits r f n out h s = receives_at admits from h after fits r (f h s) n (out h s)

checks_at : {M : Type 0} (admits : M → Type 0) (from : Option ℕ) (h : List (Event M)) (fits : Bool) (r : Option (Env M))
    → Offers admits from h fits → fits ≡ true → r ≡ top h → Checks admits from h r
checks_at admits from h fits None f n is = absurd (no_top_fits admits from h fits f (sym is) n)
checks_at admits from h fits (Some e) f n is =
    let both : IsTrue fits ↔ Satisfies admits from e = satisfied admits from (top h) e fits f (sym is) in
    (sym is, both.0 n)

pub checks_found : {M : Type 0} (admits : M → Type 0) (from : Option ℕ) (before : QueueState M) (fits : Bool) (r : Option (Env M))
    → AtHistory before (λ h. Offers admits from h fits) → fits ≡ true → AtHistory before (λ h. r ≡ top h)
    → AtHistory before (λ h. Checks admits from h r)
checks_found admits from before fits r f n is h s = checks_at admits from h fits r (f h s) n (is h s)

checked_at : {M : Type 0} (q : QueueState M) (r : Option (Env M)) (h : List (Event M))
    → r ≡ top h → StandsFor q h → StandsFor q (checked h r)
checked_at q None h is s = s
checked_at q (Some e) h is s = found_stands q h e s (sym is)

pub checked_stands : {M : Type 0} (q : QueueState M) (r : Option (Env M))
    → AtHistory q (λ h. r ≡ top h) → AtHistory q (λ h. StandsFor q (checked h r))
checked_stands q r is h s = checked_at q r h (is h s) s

triggers_at : {M : Type 0} (admits : M → Type 0) (from : Option ℕ) (h : List (Event M)) (after : QueueState M) (fits : Bool) (e : Env M)
    → Offers admits from h fits → TakesOut h (Some e) after
    → TriggersFor admits from h (cond fits (trigger_answer.Took e) (trigger_answer.Dropped e)) after
triggers_at admits from h after true e f out =
    let both : IsTrue true ↔ Satisfies admits from e = satisfied admits from (top h) e true f out.0 in
    ((out.0, both.0 refl), out.1 true)
triggers_at admits from h after false e f out =
    let both : IsTrue false ↔ Satisfies admits from e = satisfied admits from (top h) e false f out.0 in
    (out.0, λ good. (let no : false ≡ true = both.1 good in absurd (cc)), out.1 false)

pub triggers : {M : Type 0} (admits : M → Type 0) (from : Option ℕ) (before after : QueueState M) (fits is_it : Bool) (r : Option (Env M)) (e : Env M)
    → AtHistory before (λ h. Offers admits from h fits) → AtHistory before (λ h. TakesOut h r after) → r ≡ Some e → fits ≡ is_it
    → AtHistory before (λ h. TriggersFor admits from h (cond is_it (trigger_answer.Took e) (trigger_answer.Dropped e)) after)
triggers admits from before after fits is_it r e f out is same h s =
    triggers_at admits from h after is_it e
    (subst (λ (b : Bool). Offers admits from h b) same (f h s))
    (subst (λ (o : Option (Env _)). TakesOut h o after) is (out h s))
