-- The rule of an inbox's queue, over the envelopes that it holds and the views of its passes.
use Rattle.std.specs.Prelude.{◌≡◌, ℕ, ◌<◌, true, false, List, [], ◌∷◌, ◌++◌, All}
use mathlib.Core.Option.{Option, some, none}
use lib.ListN.{get_elem?}
use Rattle.tp_inbox.specs.declared.envelope.InboxEnvelope.{InboxEnvelope}
use Rattle.tp_inbox.specs.declared.rule.View.{View}
use Rattle.tp_inbox.specs.Envelopes.{InOrder, AreFronts, AreWhole, AreRouted, Ledger, has, on_routes}

-- the pass of a sender: the places of its routes, and what it has put on them
abbrev pub sender_pass : List ℕ → List InboxEnvelope → View
sender_pass places put =
    record { sends = true; places = places; put = put; owns = false; split_off = 0; taken = []; known = [] }

-- the pass of the owner: how many routes it has split off, what it has taken out, and the ledgers of those senders that
-- have joined
abbrev pub owner_pass : ℕ → List InboxEnvelope → List Ledger → View
owner_pass split_off taken known =
    record { sends = false; places = []; put = []; owns = true; split_off = split_off; taken = taken; known = known }

-- a pass that has joined
abbrev pub spent : View
spent = record { sends = false; places = []; put = []; owns = false; split_off = 0; taken = []; known = [] }

-- a sender's pass fits the whole: no other pass has its routes, and of all envelopes so far, those on its routes are
-- what it has put, in its order
abbrev pub FitsSender : ℕ → (ℕ → Option ℕ) → List InboxEnvelope → ℕ → View → Type 0
FitsSender split_off holder all pass v =
    v.sends ≡ true
    → ((p : ℕ) → has v.places p ≡ true → (p < split_off) × (holder p ≡ some pass)) × (on_routes v.places all ≡ v.put)

-- the owner's pass fits the whole: there is no other owner's pass; it knows what was taken out, how many routes there
-- are, and what the senders that have joined had put, whose routes no pass has any more
abbrev pub FitsOwner : ℕ → ℕ → (ℕ → Option ℕ) → List InboxEnvelope → List InboxEnvelope → ℕ → View → Type 0
FitsOwner owner split_off holder taken all pass v =
    v.owns ≡ true
    → (pass ≡ owner) × (v.split_off ≡ split_off) × (v.taken ≡ taken)
    × All (λ (x : Ledger). (p : ℕ) → has x.0 p ≡ true → (p < split_off) × (holder p ≡ none)) v.known × AreWhole all v.known

-- for each sender, the envelopes on its routes, first those taken out and then those in the queue, are what it has put,
-- in its order over all its routes; on each route they are numbered from 0; and no envelope is on another route
pub record Delivers (items : List InboxEnvelope) (views : List View) : Type 0 where
  pub owner : ℕ
  pub split_off : ℕ
  pub holder : ℕ → Option ℕ
  pub taken : List InboxEnvelope
  pub routed : AreRouted split_off (taken ++ items)
  pub order : InOrder (taken ++ items)
  pub senders : (pass : ℕ) (v : View) → get_elem? views pass ≡ some v → FitsSender split_off holder (taken ++ items) pass v
  pub owners : (pass : ℕ) (v : View) → get_elem? views pass ≡ some v
      → FitsOwner owner split_off holder taken (taken ++ items) pass v

-- an envelope is taken out: it is on a route that exists, and is the next one there
abbrev pub Takes : View → InboxEnvelope → View → Type 0
Takes v e w =
    (w ≡ owner_pass v.split_off (v.taken ++ e ∷ []) v.known)
    × (e.place < v.split_off) × InOrder (v.taken ++ e ∷ []) × AreFronts (v.taken ++ e ∷ []) v.known

abbrev pub PutsEnvelope : View → InboxEnvelope → View → Type 0
PutsEnvelope v e w = w ≡ sender_pass v.places (v.put ++ e ∷ [])

-- for each sender that has joined, the envelopes on its routes, first those taken out and then those in the queue, are
-- what it has put
abbrev pub Knows : View → List InboxEnvelope → Type 0
Knows v items = AreWhole (v.taken ++ items) v.known

-- the owner's pass, with what follows from the rule
pub record Sound (v : View) : Type 0 where
  pub owner : v ≡ owner_pass v.split_off v.taken v.known
  pub order : InOrder v.taken
  pub routed : AreRouted v.split_off v.taken
  pub fronts : AreFronts v.taken v.known
