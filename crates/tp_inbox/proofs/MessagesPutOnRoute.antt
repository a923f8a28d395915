-- The messages of a history that came on a route are those that were put on it.
use Rattle.std.proofs.Common.{◌≡◌, ℕ, ◌+◌, Bool, true, false, cond, Some, None, List, [], ◌∷◌, ◌++◌, ◌<◌, ◌≤◌, map, take, get_or, length, refl, sym, ap, ◌∙◌}
use Rattle.std.specs.Prelude.{◌&&◌, ◌==◌}
use Rattle.std.specs.List.{cons_option, filter_map, flat_map}
use Rattle.std.proofs.lemmas.List.{flat_map_more, take_all, take_more}
use Rattle.std.proofs.lemmas.List.Concat.{flat_map-cons}
use Rattle.tp_value.specs.declared.message.Message.{Message}
use Rattle.tp_common.specs.declared.event.Env.{Env}
use Rattle.tp_config.specs.declared.port_type.CompId.{CompId}
use Rattle.tp_config.specs.declared.port_type.RouteId.{RouteId}
use Rattle.tp_inbox.specs.declared.stamped.Stamped.{Stamped}
use Rattle.tp_inbox.specs.declared.entry.Entry.{Entry}
use Rattle.tp_inbox.specs.declared.entry.Entry.TheVariants as entry
use Rattle.tp_inbox.specs.History.{arrival_on, arrived_from, arrived_on}
use Rattle.tp_inbox.specs.PutMessages.{message_of_entry, messages_on}
use Rattle.tp_inbox.specs.Routed.{rest_arrivals}
use Rattle.tp_inbox.proofs.ComponentMessagesByRoute.{came_on}

abbrev message_in : ℕ × Stamped → Message
message_in p = p.1.message

kept_or_not : (b : Bool) (n : ℕ) (m : Stamped) (xs : List (ℕ × Stamped))
    → map message_in (cons_option (cond b (Some (n, m)) None) xs) ≡ cond b (m.message ∷ []) [] ++ map message_in xs
kept_or_not true n m xs = refl
kept_or_not false n m xs = refl

in_entry : (r : RouteId) (e : Entry) (xs : List (ℕ × Stamped))
    → map message_in (cons_option (arrival_on r e) xs) ≡ message_of_entry r e ++ map message_in xs
in_entry r (entry.Arrive p stamp env) xs =
    kept_or_not ((r.to.port == p) && (r.source.0 == env.sender)) env.number record { stamp = stamp; message = env.msg } xs
in_entry r (entry.Took p b env) xs = refl
in_entry r (entry.Found p b env) xs = refl
in_entry r (entry.Dropped p b env) xs = refl
in_entry r (entry.Cleared p) xs = refl
in_entry r (entry.Started p) xs = refl
in_entry r (entry.Stopped p) xs = refl
in_entry r (entry.Halted p) xs = refl
in_entry r (entry.Sent q number m) xs = refl
in_entry r entry.Else xs = refl
in_entry r (entry.Verdict v) xs = refl
in_entry r (entry.Failed fault) xs = refl

in_log : (r : RouteId) (k : List Entry) → map message_in (arrived_on r k) ≡ flat_map (message_of_entry r) k
unfolding arrived_on
in_log r [] = refl
in_log r (e ∷ k) =
    in_entry r e (filter_map (arrival_on r) k) ∙ ap (λ ms. message_of_entry r e ++ ms) (in_log r k)
    ∙ sym (flat_map-cons (message_of_entry r) e k)

-- the messages that came on a route into the component are those that were put on it
pub put_messages : (comp : CompId) (r : RouteId) → r.to.comp ≡ comp → (k : List Entry) (ms : List Message) → ms ≡ flat_map (message_of_entry r) k
    → ms ≡ messages_on r (arrived_from comp r.source k)
put_messages comp r here k ms is = is ∙ sym (in_log r k) ∙ ap (map message_in) (sym (came_on comp r here k))

-- one entry more is looked at
pub next_entry : (r : RouteId) (k : List Entry) (i : ℕ) (e : Entry) → i < length k → e ≡ get_or k i e → (was ms : List Message)
    → was ≡ flat_map (message_of_entry r) (take i k) → ms ≡ was ++ message_of_entry r e → ms ≡ flat_map (message_of_entry r) (take (i + 1) k)
next_entry r k i e below at was ms before is =
    is ∙ ap (λ (xs : List Message). xs ++ message_of_entry r e) before
    ∙ flat_map_more (message_of_entry r) [] (take i k) e
    ∙ ap (λ (x : Entry). flat_map (message_of_entry r) (take i k ++ x ∷ [])) at ∙ ap (flat_map (message_of_entry r)) (sym (take_more k i e below))

-- all of the rest is looked at
pub all_of_rest : (comp : CompId) (r : RouteId) → r.to.comp ≡ comp → (k : List Entry) (rest : List (ℕ × Env Message × ℕ)) (i : ℕ) → length rest ≤ i → (ms : List Message)
    → ms ≡ flat_map (message_of_entry r) (k ++ rest_arrivals (take i rest)) → ms ≡ messages_on r (arrived_from comp r.source (k ++ rest_arrivals rest))
all_of_rest comp r here k rest i all ms is =
    put_messages comp r here (k ++ rest_arrivals rest) ms (is ∙ ap (λ (xs : List (ℕ × Env Message × ℕ)). flat_map (message_of_entry r) (k ++ rest_arrivals xs)) (take_all i rest all))
