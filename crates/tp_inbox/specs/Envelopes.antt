-- Envelopes, read route by route.
use Rattle.std.specs.Prelude.{◌≡◌, ℕ, ◌<◌, ◌==◌, ◌-◌, ◌||◌, Bool, false, cond, Option, Some, None, List, [], ◌∷◌, ◌++◌}
use Rattle.std.specs.Prelude.{length, take, filter, slice_index_or, All}
use Rattle.tp_inbox.specs.declared.envelope.InboxEnvelope.{InboxEnvelope}
use Rattle.tp_inbox.specs.declared.stamped.Stamped.{Stamped}
use Rattle.tp_inbox.specs.History.{numbered}

-- the numbers and messages of the envelopes of route p, in order
abbrev pub of : ℕ → List InboxEnvelope → List (ℕ × Stamped)
of p [] = []
of p (e ∷ es) = cond (p == e.place) ((e.number, e.stamped) ∷ of p es) (of p es)

-- on each route the numbers are 0, 1, 2 and so on
abbrev pub InOrder : List InboxEnvelope → Type 0
InOrder es = (p : ℕ) → (ms : List Stamped) × (of p es ≡ numbered 0 ms)

-- each envelope is on one of the first n routes
abbrev pub AreRouted : ℕ → List InboxEnvelope → Type 0
AreRouted n [] = Unit {0}
AreRouted n (e ∷ es) = (e.place < n) × AreRouted n es

-- the first list is a prefix of the second
abbrev pub Begins : {A : Type 0} → List A → List A → Type 0
Begins {A} xs ys = (rest : List A) × (xs ++ rest ≡ ys)

-- whether this place is one of these
abbrev pub has : List ℕ → ℕ → Bool
has [] p = false
has (q ∷ qs) p = (p == q) || has qs p

-- the envelopes of the routes at these places, in order
abbrev pub on_routes : List ℕ → List InboxEnvelope → List InboxEnvelope
on_routes ps es = filter (λ (e : InboxEnvelope). has ps e.place) es

-- the places of a sender's routes, and the envelopes that it has put on them, in its order over all its routes
abbrev pub Ledger : Type 0
Ledger = List ℕ × List InboxEnvelope

-- for each sender, those of these envelopes that are on its routes are a prefix of what it has put
abbrev pub AreFronts : List InboxEnvelope → List Ledger → Type 0
AreFronts es known = All (λ (x : Ledger). Begins (on_routes x.0 es) x.1) known

-- for each sender, those of these envelopes that are on its routes are all that it has put
abbrev pub AreWhole : List InboxEnvelope → List Ledger → Type 0
AreWhole es known = All (λ (x : Ledger). on_routes x.0 es ≡ x.1) known

abbrev pub one_of : Option InboxEnvelope → List InboxEnvelope
one_of None = []
one_of (Some e) = e ∷ []

-- the envelopes of `all` before `kept`, which is the end of `all`
abbrev pub envelopes_before : List InboxEnvelope → List InboxEnvelope → List InboxEnvelope
envelopes_before all kept = take (length all - length kept) all

abbrev pub EndsWith : List InboxEnvelope → List InboxEnvelope → Type 0
EndsWith all kept = all ≡ envelopes_before all kept ++ kept

-- there is a count for each of the first n routes: the number of these envelopes on it
abbrev pub AreCounts : ℕ → List ℕ → List InboxEnvelope → Type 0
AreCounts n counts es = (length counts ≡ n) × ((p : ℕ) → p < n → slice_index_or counts p 0 ≡ length (of p es))
