-- Histories of entries have one order exactly where their kinds have one.
use Rattle.std.proofs.Common.{◌≡◌, ℕ, ◌<◌, ◌==◌, Bool, true, false, not, cond, Option, Some, None, List, map, take, refl, sym, ap, ◌∙◌, subst}
use Rattle.std.specs.Prelude.{slice_get, option_and_then, ◌↔◌}
use Rattle.std.specs.List.{filter_map}
use Rattle.std.proofs.lemmas.Bool.{false≢true}
use Rattle.std.proofs.lemmas.List.{take-map}
use Rattle.tp_inbox.specs.declared.entry.Entry.{Entry}
use Rattle.tp_inbox.specs.declared.entry.Entry.TheVariants as entry
use Rattle.tp_inbox.specs.History.{is_arrival}
use Rattle.tp_behaviour.specs.Fresh.{LooksAtPorts}
use Rattle.tp_judge.specs.declared.kind.EntryKind.{EntryKind}
use Rattle.tp_judge.specs.declared.kind.EntryKind.TheVariants as kind
use Rattle.tp_judge.specs.OneOrder as orders
use Rattle.tp_judge.specs.Kinds.{AreOwnedBy, IsOwn as IsOwnKind, Kinds, Spot as KindSpot, came_in, came_of, histories_of as histories_by, is_own}
use Rattle.tp_judge.specs.Kinds.{kind_at, sent_from, sent_of}
use Rattle.tp_judge.proofs.RenamedHistories.{AreRenamed, at_map, map_at, one_order_renamed, same_given}
use Rattle.tp_exec.specs.CausalOrder.{Spot}
use Rattle.tp_exec.specs.EntryKinds.{kind_of, kinds_of}
use Rattle.tp_exec.specs.OneOrder.{HasOneOrder, IsOwn, came_before, entry_at_spot, histories_of, log_in, sender_to, sends_to, source_of, sources}

own_is : (c : ℕ) (e : Entry) → is_own (kind_of c e) ≡ not (is_arrival e)
own_is c (entry.Arrive p s v) = refl
own_is c _ = refl

own_of : (c : ℕ) (e : Entry) → is_arrival e ≡ false → is_own (kind_of c e) ≡ true
own_of c e own = own_is c e ∙ ap not own

of_own : (e : Entry) → not (is_arrival e) ≡ true → is_arrival e ≡ false
of_own (entry.Arrive p s v) own = absurd (false≢true own)
of_own _ own = refl

came_is : (c : ℕ) (e : Entry) → source_of e ≡ came_of (kind_of c e)
came_is c (entry.Arrive p s v) = refl
came_is c _ = refl

sent_is : (c d : ℕ) (e : Entry) → cond (sends_to d (Some e)) (Some c) None ≡ sent_of d (kind_of c e)
sent_is c d (entry.Sent r n m) = refl
sent_is c d _ = refl

look_is : (c : ℕ) (e : Entry) → LooksAtPorts e → kind_of c e ≡ kind.Looked
look_is c (entry.Arrive p s v) look = absurd look
look_is c (entry.Sent r n m) look = absurd look
look_is c (entry.Verdict v) look = absurd look
look_is c (entry.Failed f) look = absurd look
look_is c _ look = refl

is_look : (c : ℕ) (e : Entry) → kind_of c e ≡ kind.Looked → LooksAtPorts e
is_look c (entry.Arrive p s v) is = absurd (cc)
is_look c (entry.Sent r n m) is = absurd (cc)
is_look c (entry.Verdict v) is = absurd (cc)
is_look c (entry.Failed f) is = absurd (cc)
is_look c _ is = tt

-- each message is of its sender
sender_is : (c d m : ℕ) (e : Entry) → kind_of c e ≡ kind.Sent d m → m ≡ c
sender_is c d m (entry.Sent r n w) is = cc
sender_is c d m (entry.Arrive p s v) is = absurd (cc)
sender_is c d m (entry.Verdict v) is = absurd (cc)
sender_is c d m (entry.Failed f) is = absurd (cc)
sender_is c d m (entry.Took p b v) is = absurd (cc)
sender_is c d m (entry.Found p b v) is = absurd (cc)
sender_is c d m (entry.Dropped p b v) is = absurd (cc)
sender_is c d m (entry.Cleared p) is = absurd (cc)
sender_is c d m (entry.Started p) is = absurd (cc)
sender_is c d m (entry.Stopped p) is = absurd (cc)
sender_is c d m (entry.Halted p) is = absurd (cc)
sender_is c d m entry.Else is = absurd (cc)

pub owned : (logs : List (List Entry)) → AreOwnedBy (kinds_of logs) (λ m. m)
owned logs c p d m at =
    let e = map_at (kind_of c) (log_in logs c) p (kind.Sent d m) at in
    sender_is c d m e.0 e.2

module _ (logs : List (List Entry)) where
  abbrev kinds : Kinds ℕ
  kinds = kinds_of logs

  abbrev by_kinds : Spot → KindSpot
  by_kinds a = record { comp = a.comp; place = a.place }

  abbrev of_entries : KindSpot → Spot
  of_entries a = record { comp = a.comp; place = a.place }

  own_there : (a : Spot) → IsOwn logs a → IsOwnKind kinds (by_kinds a)
  own_there a own = record {
    act = kind_of a.comp own.act;
    stands = at_map (kind_of a.comp) (log_in logs a.comp) a.place own.act own.stands;
    own = own_of a.comp own.act own.own;
  }

  own_here : (a : KindSpot) → IsOwnKind kinds a → IsOwn logs (of_entries a)
  own_here a own =
      let e = map_at (kind_of a.comp) (log_in logs a.comp) a.place own.act own.stands in
      record { act = e.0; stands = e.1; own = of_own e.0 (sym (own_is a.comp e.0) ∙ ap is_own e.2 ∙ own.own) }

  look_here : (a : KindSpot) → kind_at kinds a ≡ Some kind.Looked → (histories_of logs).IsLook (of_entries a)
  look_here a look =
      let e = map_at (kind_of a.comp) (log_in logs a.comp) a.place kind.Looked look in
      (e.0, e.1, is_look a.comp e.0 e.2)

  look_there : (a : Spot) → (histories_of logs).IsLook a → kind_at kinds (by_kinds a) ≡ Some kind.Looked
  look_there a look =
      at_map (kind_of a.comp) (log_in logs a.comp) a.place look.0 look.1 ∙ ap Some (look_is a.comp look.0 look.2)

  sent_same : (d : ℕ) (a : Spot) → IsOwn logs a → sender_to logs d a ≡ sent_from kinds d (by_kinds a)
  sent_same d a own =
      ap (λ (o : Option Entry). cond (sends_to d o) (Some a.comp) None) own.stands ∙ sent_is a.comp d own.act
      ∙ sym (ap (option_and_then (sent_of d)) (at_map (kind_of a.comp) (log_in logs a.comp) a.place own.act own.stands))

  came_same : (c : ℕ) (k : List Entry) → sources k ≡ came_in (map (kind_of c) k)
  came_same c k = same_given (kind_of c) source_of came_of k (λ i e at. came_is c e)

  before_same : (a : Spot) → came_before logs a ≡ came_in (take a.place (kinds a.comp))
  before_same a = came_same a.comp (take a.place (log_in logs a.comp)) ∙ ap came_in (sym (take-map (kind_of a.comp) a.place (log_in logs a.comp)))

  entries_renamed : AreRenamed (histories_of logs) (histories_by kinds) by_kinds of_entries
  entries_renamed = record {
    own = own_there;
    other = λ a own. (own_here a own, refl);
    back = λ a own. refl;
    component = λ a own. refl;
    earlier = λ a b earlier one two. earlier;
    look = λ a own look. look_here (by_kinds a) look;
    sent_to = sent_same;
    came_before = λ a own. before_same a;
    came = λ c. came_same c (log_in logs c);
  }

  kinds_renamed : AreRenamed (histories_by kinds) (histories_of logs) of_entries by_kinds
  kinds_renamed = record {
    own = own_here;
    other = λ a own. (own_there a own, refl);
    back = λ a own. refl;
    component = λ a own. refl;
    earlier = λ a b earlier one two. earlier;
    look = λ a own look. look_there (of_entries a) look;
    sent_to = λ d a own. sym (sent_same d (of_entries a) (own_here a own));
    came_before = λ a own. sym (before_same (of_entries a));
    came = λ c. sym (came_same c (log_in logs c));
  }

  pub one_order_by_kinds : orders.HasOneOrder (histories_by kinds) ↔ HasOneOrder logs
  one_order_by_kinds = (
    one_order_renamed (histories_by kinds) (histories_of logs) of_entries by_kinds kinds_renamed,
    one_order_renamed (histories_of logs) (histories_by kinds) by_kinds of_entries entries_renamed,
  )
