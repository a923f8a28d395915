-- One more line, carried out: what the calls of the queue and of the senders make of a replay.
use Rattle.std.proofs.Common.{◌≡◌, ℕ, ◌+◌, ◌≤◌, Option, Some, None, List, [], ◌∷◌, ◌++◌, length, map, refl, ap, sym, ◌∙◌, subst, arith, append-nil}
use Rattle.std.specs.Prelude.{ℤ, codes, string_bytes, Bool, true, false}
use Rattle.std.specs.List.{filter_map}
use Rattle.std.specs.Option.{option_map, option_to_list}
use Rattle.std.proofs.lemmas.List.Elements.{filter_map-append}
use Rattle.std.proofs.lemmas.List.{length-append}
use Rattle.tp_common.specs.declared.event.Env.{Env}
use Rattle.tp_common.specs.declared.event.Event.{Event}
use Rattle.tp_common.specs.declared.event.Event.TheVariants as event
use Rattle.tp_port.specs.declared.engine.Engine.{Engine}
use Rattle.tp_queue.specs.History.{accepted, arrival, top}
use Rattle.tp_port.specs.QueueLine.{QueueLine, Wish, arrive, receive, check, trigger}
use Rattle.tp_port.specs.Replay.{Progress, seen_in, seen_if, with_sender, sighted, answer, events_of, found, meets, triggered, from_of, sender_number, envelope_or_no, triggered_text, arriving}
use Rattle.tp_queue.specs.Queues.{AtHistory, StandsFor}
use Rattle.tp_port.specs.Carried.{CarriesLine, HasReached}
use Rattle.tp_queue.proofs.QueueHistoryGrowth.{accepted_more}

accepted_quiet : (h es : List (Event ℤ)) → accepted es ≡ [] → accepted (h ++ es) ≡ accepted h
unfolding accepted
accepted_quiet h es q = filter_map-append arrival h es ∙ ap (λ l. filter_map arrival h ++ l) q ∙ append-nil (filter_map arrival h)

-- the senders that a line shows, seen by an engine that had come so far
seen_by : (old new : Engine) (line : QueueLine) (s : Progress) → HasReached old s → new.senders ≡ seen_in old.senders line → new.senders ≡ seen_in s.senders line
seen_by old new line s come seen = seen ∙ ap (λ n. seen_in n line) come.senders

-- a line with which nothing arrives
pub carries_quiet : (old new : Engine) (line : QueueLine)
    → ((s : Progress) → accepted (events_of s line) ≡ [])
    → new.senders ≡ seen_in old.senders line → length new.senders ≤ length old.senders + 1 → new.arrivals ≡ old.arrivals
    → ((s : Progress) → HasReached old s → StandsFor new.queue (s.history ++ events_of (sighted s line) line))
    → ((s : Progress) → HasReached old s → string_bytes new.answers ≡ string_bytes old.answers ++ answer (sighted s line) line)
    → CarriesLine old new line
carries_quiet old new line quiet senders few same queue answers =
    record {
      progress = λ s come.
          record {
            senders = seen_by old new line s come senders;
            queue = queue s come;
            counted = same ∙ come.counted ∙ ap length (sym (accepted_quiet s.history (events_of (sighted s line) line) (quiet (sighted s line))));
          };
      answers = answers;
      arrivals = omega arith;
      senders = few;
    }

pub quiet_took : (r : Option (Env ℤ)) → accepted (map event.Took (option_to_list r)) ≡ []
unfolding accepted
quiet_took None = refl
quiet_took (Some e) = refl

pub quiet_found : (r : Option (Env ℤ)) → accepted (map event.Found (option_to_list r)) ≡ []
unfolding accepted
quiet_found None = refl
quiet_found (Some e) = refl

pub quiet_one : (e : Event ℤ) → arrival e ≡ None → accepted (e ∷ []) ≡ []
unfolding accepted
quiet_one e a = rw a refl

quiet_either : (b : Bool) (e : Env ℤ) → accepted (triggered b e ∷ []) ≡ []
quiet_either true e = quiet_one (event.Took e) refl
quiet_either false e = quiet_one (event.Dropped e) refl

quiet_triggered : (value : _) (from : Option ℕ) (r : Option (Env ℤ)) → accepted (map (λ e. triggered (meets value from e) e) (option_to_list r)) ≡ []
quiet_triggered value from None = quiet_took None
quiet_triggered value from (Some e) = quiet_either (meets value from e) e

-- the number of the wanted sender is its number among the senders that are seen then
wanted_is : (old new : Engine) (s : Progress) (wish : Wish) (from : Option ℕ) → HasReached old s → new.senders ≡ seen_if old.senders wish.from
    → from ≡ option_map (sender_number new.senders) wish.from
    → from ≡ option_map (sender_number (seen_if s.senders wish.from)) wish.from
wanted_is old new s wish from come seen number =
    number ∙ ap (λ n. option_map (sender_number n) wish.from) (seen ∙ ap (λ n. seen_if n wish.from) come.senders)

pub carries_receive : (old new : Engine) (wish : Wish) (from : Option ℕ)
    → new.senders ≡ seen_if old.senders wish.from → from ≡ option_map (sender_number new.senders) wish.from
    → AtHistory old.queue (λ h. StandsFor new.queue (h ++ map event.Took (option_to_list (found wish.value from h))))
    → AtHistory old.queue (λ h. string_bytes new.answers ≡ string_bytes old.answers ++ envelope_or_no new.senders (codes "took ") (found wish.value from h))
    → length new.senders ≤ length old.senders + 1 → new.arrivals ≡ old.arrivals
    → CarriesLine old new (receive wish)
carries_receive old new wish from seen number queue text few same =
    carries_quiet old new (receive wish) (λ s. quiet_took (found wish.value (from_of s wish) s.history)) seen few same
    (λ s come.
    subst (λ (f : Option ℕ). StandsFor new.queue (s.history ++ map event.Took (option_to_list (found wish.value f s.history))))
    (wanted_is old new s wish from come seen number) (queue s.history come.queue))
    (λ s come.
    text s.history come.queue
    ∙ ap (λ n. string_bytes old.answers ++ envelope_or_no n (codes "took ") (found wish.value from s.history))
    (seen_by old new (receive wish) s come seen)
    ∙ ap (λ f. string_bytes old.answers ++ envelope_or_no (seen_if s.senders wish.from) (codes "took ") (found wish.value f s.history))
    (wanted_is old new s wish from come seen number))

pub carries_check : (old new : Engine) (wish : Wish) (from : Option ℕ)
    → new.senders ≡ seen_if old.senders wish.from → from ≡ option_map (sender_number new.senders) wish.from
    → AtHistory old.queue (λ h. StandsFor new.queue (h ++ map event.Found (option_to_list (found wish.value from h))))
    → AtHistory old.queue (λ h. string_bytes new.answers ≡ string_bytes old.answers ++ envelope_or_no new.senders (codes "found ") (found wish.value from h))
    → length new.senders ≤ length old.senders + 1 → new.arrivals ≡ old.arrivals
    → CarriesLine old new (check wish)
carries_check old new wish from seen number queue text few same =
    carries_quiet old new (check wish) (λ s. quiet_found (found wish.value (from_of s wish) s.history)) seen few same
    (λ s come.
    subst (λ (f : Option ℕ). StandsFor new.queue (s.history ++ map event.Found (option_to_list (found wish.value f s.history))))
    (wanted_is old new s wish from come seen number) (queue s.history come.queue))
    (λ s come.
    text s.history come.queue
    ∙ ap (λ n. string_bytes old.answers ++ envelope_or_no n (codes "found ") (found wish.value from s.history))
    (seen_by old new (check wish) s come seen)
    ∙ ap (λ f. string_bytes old.answers ++ envelope_or_no (seen_if s.senders wish.from) (codes "found ") (found wish.value f s.history))
    (wanted_is old new s wish from come seen number))

pub carries_trigger : (old new : Engine) (wish : Wish) (from : Option ℕ)
    → new.senders ≡ seen_if old.senders wish.from → from ≡ option_map (sender_number new.senders) wish.from
    → AtHistory old.queue (λ h. StandsFor new.queue (h ++ map (λ e. triggered (meets wish.value from e) e) (option_to_list (top h))))
    → AtHistory old.queue (λ h. string_bytes new.answers ≡ string_bytes old.answers ++ triggered_text new.senders wish.value from (top h))
    → length new.senders ≤ length old.senders + 1 → new.arrivals ≡ old.arrivals
    → CarriesLine old new (trigger wish)
carries_trigger old new wish from seen number queue text few same =
    carries_quiet old new (trigger wish) (λ s. quiet_triggered wish.value (from_of s wish) (top s.history)) seen few same
    (λ s come.
    subst (λ (f : Option ℕ). StandsFor new.queue (s.history ++ map (λ e. triggered (meets wish.value f e) e) (option_to_list (top s.history))))
    (wanted_is old new s wish from come seen number) (queue s.history come.queue))
    (λ s come.
    text s.history come.queue
    ∙ ap (λ n. string_bytes old.answers ++ triggered_text n wish.value from (top s.history))
    (seen_by old new (trigger wish) s come seen)
    ∙ ap (λ f. string_bytes old.answers ++ triggered_text (seen_if s.senders wish.from) wish.value f (top s.history))
    (wanted_is old new s wish from come seen number))

-- the envelope of an arrival, by what the engine had come to
envelope_is : (old new : Engine) (s : Progress) (name : List ℕ) (value : ℤ) (sender : ℕ) → HasReached old s
    → new.senders ≡ with_sender old.senders name → sender ≡ sender_number new.senders name
    → record { sender = sender; number = old.arrivals; msg = value } ≡ arriving (sighted s (arrive name value)) name value
envelope_is old new s name value sender come sighting number =
    let sent : sender ≡ sender_number (with_sender s.senders name) name =
    number ∙ ap (λ n. sender_number n name) (sighting ∙ ap (λ n. with_sender n name) come.senders) in
    ap (λ n. record { sender = n; number = old.arrivals; msg = value }) sent
    ∙ ap (λ n. record { sender = sender_number (with_sender s.senders name) name; number = n; msg = value }) come.counted

-- an arrival
pub carries_arrive : (old new : Engine) (name : List ℕ) (value : ℤ) (sender : ℕ)
    → new.senders ≡ with_sender old.senders name → sender ≡ sender_number new.senders name
    → AtHistory old.queue (λ h. StandsFor new.queue (h ++ event.Arrive (record { sender = sender; number = old.arrivals; msg = value }) ∷ []))
    → string_bytes new.answers ≡ string_bytes old.answers ++ codes "queued\n"
    → length new.senders ≤ length old.senders + 1 → new.arrivals ≡ old.arrivals + 1
    → CarriesLine old new (arrive name value)
carries_arrive old new name value sender sighting number queue text few more =
    let line : QueueLine = arrive name value in
    record {
      progress = λ s come.
          let env : Env ℤ = arriving (sighted s line) name value in
          record {
            senders = seen_by old new line s come sighting;
            queue =
                subst (λ (e : Env ℤ). StandsFor new.queue (s.history ++ event.Arrive e ∷ []))
                (envelope_is old new s name value sender come sighting number) (queue s.history come.queue);
            counted =
                omega (
                  arith,
                  more,
                  come.counted,
                  ap length (accepted_more s.history (event.Arrive env) env refl),
                  length-append (accepted s.history) (env ∷ []),
                );
          };
      answers = λ s come. text;
      arrivals = omega arith;
      senders = few;
    }
