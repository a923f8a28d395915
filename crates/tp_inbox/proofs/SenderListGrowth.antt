-- Lists of senders that have put more.
use Rattle.std.proofs.Common.{◌≡◌, ◌≢◌, ℕ, zero, suc, ◌<◌, List, [], ◌∷◌, ◌++◌, length, map, set, get_or, sym, ap, ◌∙◌, subst, ⊎_elim, arith}
use Rattle.std.specs.Prelude.{All}
use Rattle.std.proofs.lemmas.Grind.{get_or-set_at}
use Rattle.std.proofs.lemmas.List.{get_or-set_other, length-set, length-map, get_or-map, map-append}
use Rattle.tp_config.specs.declared.port_type.CompId.{CompId}
use Rattle.tp_config.specs.declared.port_type.RouteId.{RouteId}
use Rattle.tp_inbox.specs.Routed.{routes_by}
use Rattle.tp_inbox.specs.Ledgers.{Inbox, SenderLedger, AreSenders, IsSenderInto, end_of}
use Rattle.tp_inbox.proofs.PortQueuesMatchLog.{same_or_not}
use Rattle.tp_inbox.proofs.RoutesAfterSendersJoin.{move_one}

-- which sender it is
abbrev End : Type 0
End = Inbox × CompId × List RouteId

same_into : (inbox : Inbox) (s t : SenderLedger) → end_of t ≡ end_of s → IsSenderInto inbox s → IsSenderInto inbox t
same_into inbox s t same into =
    subst (λ (e : End). (e.0 ≡ inbox) × (e.2 ≡ routes_by e.1 inbox.routes)) (sym same) into

map-set_same : {A B : Type 0} (f : A → B) (xs : List A) (p : ℕ) (t d : A) → p < length xs → f t ≡ f (get_or xs p d) → map f (set xs p t) ≡ map f xs
map-set_same f [] p t d low same = absurd (omega arith)
map-set_same f (x ∷ xs) zero t d low same = ap (λ y. y ∷ map f xs) same
map-set_same f (x ∷ xs) (suc p) t d low same = ap (λ l. f x ∷ l) (map-set_same f xs p t d (omega arith) same)

-- one of them has put more
pub senders_set : (inbox : Inbox) (ss : List SenderLedger) (p : ℕ) (s t : SenderLedger) → AreSenders inbox ss → p < length ss → s ≡ get_or ss p s
    → end_of t ≡ end_of s → AreSenders inbox (set ss p t)
senders_set inbox ss p s t are low at same = (
  λ k d few.
      ⊎_elim
      (λ (here : k ≡ p).
      subst (IsSenderInto inbox) (sym (get_or-set_at ss p k t d here low))
      (same_into inbox (get_or ss p s) t (same ∙ ap end_of at) (are.0 p s low)))
      (λ (other : k ≢ p).
      subst (IsSenderInto inbox) (sym (get_or-set_other ss p k t d other)) (are.0 k d (omega (arith, length-set ss p t))))
      (same_or_not k p),
  map-set_same (λ (x : SenderLedger). x.source) ss p t s low (ap (λ (e : End). e.1) same ∙ ap (λ (x : SenderLedger). x.source) at) ∙ are.1,
)

all_ends : (inbox : Inbox) (xs ys : List SenderLedger) → map end_of xs ≡ map end_of ys → All (IsSenderInto inbox) ys → All (IsSenderInto inbox) xs
all_ends inbox xs ys same are k d low =
    let few : k < length ys = omega (arith, ap length same, length-map xs end_of, length-map ys end_of) in
    same_into inbox (get_or ys k d) (get_or xs k d)
    (sym (get_or-map end_of xs k d (end_of d) low) ∙ ap (λ l. get_or l k (end_of d)) same ∙ get_or-map end_of ys k d (end_of d) few) (are k d few)

sources-ends : (ss : List SenderLedger) → map (λ (s : SenderLedger). s.source) ss ≡ map (λ (e : End). e.1) (map end_of ss)
sources-ends [] = λ i. []
sources-ends (s ∷ ss) = ap (λ l. s.source ∷ l) (sources-ends ss)

-- these are the same senders as those
pub same_senders : (inbox : Inbox) (xs ys : List SenderLedger) → map end_of xs ≡ map end_of ys → AreSenders inbox ys → AreSenders inbox xs
same_senders inbox xs ys same are = (
  all_ends inbox xs ys same are.0,
  sources-ends xs ∙ ap (map (λ (e : End). e.1)) same ∙ sym (sources-ends ys) ∙ are.1,
)

-- one of those on the right has moved to the left
pub moved : {A B C : Type 0} (f : A → C) (g : B → C) (all xs : List A) (x : A) (left rest : List B) (y : B) (whole : List C) → all ≡ xs ++ x ∷ []
    → left ≡ y ∷ rest → f x ≡ g y → map f xs ++ map g left ≡ whole → map f all ++ map g rest ≡ whole
moved f g all xs x left rest y whole is steps same was =
    move_one (map f all) (map f xs) (f x) (map g rest) (ap (map f) is ∙ map-append f xs (x ∷ [])) ∙ ap (λ z. map f xs ++ z ∷ map g rest) same
    ∙ sym (ap (λ l. map f xs ++ map g l) steps) ∙ was
