-- What the calls of a queue of integers answer, by the tests of a queue file.
use Rattle.std.proofs.Common.{◌≡◌, ℕ, Bool, true, false, cond, Option, Some, None, List, [], ◌∷◌, ◌++◌, map, refl, ap, sym, ◌∙◌, subst, append-nil, eq-eqb}
use Rattle.std.specs.Prelude.{ℤ, ◌&&◌, IfSome, option_and_then, if◌then◌else◌}
use Rattle.std.specs.Option.{option_to_list}
use Rattle.std.specs.Cmp.{signed_Decides}
use Rattle.std.proofs.lemmas.Bool.{eqb-true}
use Rattle.tp_common.specs.declared.event.Env.{Env}
use Rattle.tp_common.specs.declared.event.Event.{Event}
use Rattle.tp_common.specs.declared.event.Event.TheVariants as event
use Rattle.tp_common.specs.declared.event.TriggerAnswer.TheVariants as answer
use Rattle.tp_port.specs.declared.pattern.IntegerPattern.{IntegerPattern}
use Rattle.tp_port.specs.declared.pattern.IntegerPattern.TheVariants as pattern
use Rattle.tp_queue.specs.History.{top}
use Rattle.tp_port.specs.Admits.{Admits}
use Rattle.tp_common.specs.Criteria.{Satisfies}
use Rattle.tp_queue.specs.Answers.{Finds, Checks, checked}
use Rattle.tp_queue.specs.Calls.{ReceivesFor, TriggersFor}
use Rattle.tp_queue.specs.Queues.{QueueState, StandsFor}
use Rattle.tp_port.specs.Replay.{is_admitted, is_from, meets, found}

both : (a b : Bool) → a ≡ true → b ≡ true → (a && b) ≡ true
both a b e f = ap (λ x. x && b) e ∙ f

each : (a b : Bool) → (a && b) ≡ true → (a ≡ true) × (b ≡ true)
each true b e = (refl, e)
each false b e = absurd (cc)

wanted_true : (value : IntegerPattern) (n : ℤ) → Admits value n → is_admitted value n ≡ true
wanted_true pattern.Any n a = refl
wanted_true (pattern.Number w) n a = (signed_Decides n w).1 a

wanted_only : (value : IntegerPattern) (n : ℤ) → is_admitted value n ≡ true → Admits value n
wanted_only pattern.Any n e = tt
wanted_only (pattern.Number w) n e = (signed_Decides n w).0 e

from_true : (from : Option ℕ) (sender : ℕ) → IfSome from (λ s. sender ≡ s) → is_from from sender ≡ true
from_true None sender a = refl
from_true (Some s) sender a = eq-eqb sender s a

from_only : (from : Option ℕ) (sender : ℕ) → is_from from sender ≡ true → IfSome from (λ s. sender ≡ s)
from_only None sender e = tt
from_only (Some s) sender e = eqb-true sender s e

meets_true : (value : IntegerPattern) (from : Option ℕ) (e : Env ℤ) → Satisfies (Admits value) from e → meets value from e ≡ true
meets_true value from e s = both (is_admitted value e.msg) (is_from from e.sender) (wanted_true value e.msg s.0) (from_true from e.sender s.1)

meets_only : (value : IntegerPattern) (from : Option ℕ) (e : Env ℤ) → meets value from e ≡ true → Satisfies (Admits value) from e
meets_only value from e h =
    let p = each (is_admitted value e.msg) (is_from from e.sender) h in (wanted_only value e.msg p.0, from_only from e.sender p.1)

not_true : (b : Bool) → (b ≡ true → ⊥) → b ≡ false
not_true true n = absurd (n refl)
not_true false n = refl

found_some : (value : IntegerPattern) (from : Option ℕ) (h : List (Event ℤ)) (e : Env ℤ) → Finds (Admits value) from h e → Some e ≡ found value from h
found_some value from h e f =
    sym (ap (option_and_then (λ d. if meets value from d then Some d else None)) f.0 ∙ ap (λ b. cond b (Some e) None) (meets_true value from e f.1))

found_none_at : (value : IntegerPattern) (from : Option ℕ) (t : Option (Env ℤ))
    → ((e : Env ℤ) → t ≡ Some e → Satisfies (Admits value) from e → ⊥)
    → None ≡ option_and_then (λ d. if meets value from d then Some d else None) t
found_none_at value from None n = refl
found_none_at value from (Some e) n =
    sym (ap (λ b. cond b (Some e) None) (not_true (meets value from e) (λ m. n e refl (meets_only value from e m))))

-- what a `check` answers is what the tests find
pub checks_found : (value : IntegerPattern) (from : Option ℕ) (h : List (Event ℤ)) (r : Option (Env ℤ)) → Checks (Admits value) from h r → r ≡ found value from h
checks_found value from h None c = found_none_at value from (top h) c
checks_found value from h (Some e) c = found_some value from h e c

-- and the history that the queue stands for
pub checked_is : (h : List (Event ℤ)) (q : QueueState ℤ) (r : Option (Env ℤ)) → StandsFor q (checked h r)
    → StandsFor q (h ++ map event.Found (option_to_list r))
checked_is h q None s = subst (λ (l : List (Event ℤ)). StandsFor q l) (sym (append-nil h)) s
checked_is h q (Some x) s = s

-- what a `receive` answers is what the tests find
pub receives_found : (value : IntegerPattern) (from : Option ℕ) (h : List (Event ℤ)) (after : QueueState ℤ) (r : Option (Env ℤ))
    → ReceivesFor (Admits value) from h r after → r ≡ found value from h
receives_found value from h after None c = found_none_at value from (top h) c.0
receives_found value from h after (Some e) c = found_some value from h e c.0

-- and the history that the queue stands for after it
pub received_is : (value : IntegerPattern) (from : Option ℕ) (h : List (Event ℤ)) (after : QueueState ℤ) (r : Option (Env ℤ))
    → ReceivesFor (Admits value) from h r after → StandsFor after (h ++ map event.Took (option_to_list r))
received_is value from h after None c = subst (λ (l : List (Event ℤ)). StandsFor after l) (sym (append-nil h)) c.1
received_is value from h after (Some e) c = c.1
