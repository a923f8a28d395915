-- Guards at their places while they are looked at.
use Rattle.std.proofs.Common.{◌≡◌, ◌∙◌, ℕ, ◌<◌, ◌≤◌, List, [], ◌∷◌, Some, get_or, length, option_map, slice_get, ap, subst, sym}
use Rattle.std.specs.Prelude.{All}
use Rattle.std.proofs.lemmas.List.{length-map}
use Rattle.std.proofs.lemmas.List.Elements.{All-nil, All-cons, All-head, All-tail}
use Rattle.std.proofs.lemmas.Option.{slice_get-get_or, slice_get-map}
use Rattle.tp_behaviour.specs.declared.choice.Guard.{Guard}
use Rattle.tp_behaviour.specs.declared.choice.GuardView.{GuardView}
use Rattle.tp_behaviour.specs.Views.{all_viewed, viewed}

-- the one at this place
pub viewed_at : (gs : List GuardView) (i : ℕ) (g : GuardView) → i < length gs → g ≡ get_or gs i g → slice_get (all_viewed gs) i ≡ Some (viewed g)
viewed_at gs i g below is = slice_get-map viewed gs i ∙ ap (option_map viewed) (slice_get-get_or gs i g below ∙ ap Some (sym is))

-- past the last one
pub all_past : (gs : List GuardView) (i : ℕ) → length gs ≤ i → length (all_viewed gs) ≤ i
all_past gs i h = subst (λ n. n ≤ i) (sym (length-map gs viewed)) h

-- they are within the ports that the guards are within
pub viewed_within : (n : ℕ) (gs : List GuardView) → All (λ (g : Guard). g.port < n) (all_viewed gs) → All (λ (g : GuardView). g.port < n) gs
viewed_within n [] h = All-nil (λ (g : GuardView). g.port < n)
viewed_within n (g ∷ gs) h =
    All-cons (λ (g : GuardView). g.port < n) g gs (All-head (λ (g : Guard). g.port < n) (viewed g) (all_viewed gs) h)
    (viewed_within n gs (All-tail (λ (g : Guard). g.port < n) (viewed g) (all_viewed gs) h))
