-- What trying one branch after the other comes to.
use Rattle.std.proofs.Common.{◌≡◌, ℕ, zero, suc, ◌+◌, refl, List, [], ◌∷◌, All, take, slice_get, Some, unwrap_or, ap, sym, subst, add-one}
use Rattle.std.proofs.lemmas.List.Elements.{All-nil, All-cons, All-head, All-tail}
use Rattle.tp_inbox.specs.Desks.{Journal}
use Rattle.tp_behaviour.specs.declared.choice.Guard.{Guard}
use Rattle.tp_behaviour.specs.declared.choice.LookResult.{LookResult}
use Rattle.tp_behaviour.specs.declared.choice.LookResult.TheVariants as look
use Rattle.tp_behaviour.specs.Choices.{NoneOpen, IsChoice, IsDrop, chosen}
use Rattle.tp_inbox.specs.declared.entry.Entry.TheVariants as entry
use Rattle.tp_behaviour.specs.Looks.{Tried, Looked, moment}

-- what the first n have, and the next one, the first n + 1 have
one_longer : {X : Type 0} (P : X → Type 0) (n : ℕ) (xs : List X) (x : X) → slice_get xs n ≡ Some x → All P (take n xs) → P x → All P (take (suc n) xs)
one_longer P n [] x is h p = All-nil P
one_longer P zero (y ∷ ys) x is h p = All-cons P y [] (subst P (ap (λ o. unwrap_or o x) (sym is)) p) (All-nil P)
one_longer P (suc n) (y ∷ ys) x is h p = All-cons P y (take (suc n) ys) (All-head P y (take n ys) h) (one_longer P n ys x is (All-tail P y (take n ys) h) p)

pub one_more : {X : Type 0} (P : X → Type 0) (n : ℕ) (xs : List X) (x : X) → slice_get xs n ≡ Some x → All P (take n xs) → P x → All P (take (n + 1) xs)
one_more P n xs x is h p = rw (add-one) (one_longer P n xs x is h p)

-- what trying one branch comes to, of which none before is open, trying all comes to
pub looked : (gs : List Guard) (d : Journal) (i : ℕ) (g : Guard) (s : LookResult) (after : Journal) → slice_get gs i ≡ Some g
    → NoneOpen d.log (take i gs) → Tried g i d s after → (s ≡ look.Nothing → ⊥) → Looked gs d s after
looked gs d i g (look.Taken j) after is none t not = (
  t.0,
  chosen g.kind g.port t.0 i,
  subst (λ (n : ℕ). (has_else : _) → IsChoice gs has_else (moment d (chosen g.kind g.port t.0 i)) (Some (n, t.0))) (sym t.1)
      (λ has_else. IsChoice.branch d.log i g t.0 is t.2 none),
  t.3,
)
looked gs d i g look.Discarded after is none t not =
    (entry.Dropped g.port i t.0, IsDrop.dropped d.log i g t.0 is t.1 t.2 t.3 none, t.4)
looked gs d i g look.Nothing after is none t not = absurd (not refl)
