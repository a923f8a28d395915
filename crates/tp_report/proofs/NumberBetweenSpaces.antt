-- A number between two spaces.
use Rattle.std.proofs.Common.{◌≡◌, ℕ, ◌+◌, ◌-◌, ◌<◌, ◌≤◌, List, [], ◌∷◌, ◌++◌, length, take, drop, replicate, get_or, ap, sym, ◌∙◌, arith, length-drop}
use Rattle.std.proofs.lemmas.List.{drop_more, get_or-replicate, get_or-take, take_all}

-- what stands at a place and after it, where all up to there is as before
from_there : (k j : ℕ) (new old rest : List ℕ) → k + 1 ≡ j → k < length new → take j new ≡ take j old → drop j new ≡ rest
    → drop k new ≡ get_or old k 0 ∷ rest
from_there k j new old rest next within before behind =
    let here = sym (get_or-take j new k 0 (omega arith)) ∙ ap (λ l. get_or l k 0) before ∙ get_or-take j old k 0 (omega arith) in
    drop_more new k 0 within ∙ ap (λ x. x ∷ drop (k + 1) new) here ∙ ap (λ l. get_or old k 0 ∷ l) (ap (λ i. drop i new) next ∙ behind)

-- digits that were written into 22 spaces, up to the last of them, and a space on each side
pub between : (start : ℕ) (new digits : List ℕ) → length new ≡ 22 → start + length digits ≡ 21 → 1 ≤ start
    → take start new ≡ take start (replicate 22 32) → drop start new ≡ digits ++ 32 ∷ []
    → take (22 - (start - 1)) (drop (start - 1) new) ≡ 32 ∷ (digits ++ 32 ∷ [])
between start new digits long end some before behind =
    take_all (22 - (start - 1)) (drop (start - 1) new) (omega (arith, long, length-drop (start - 1) new))
    ∙ from_there (start - 1) start new (replicate 22 32) (digits ++ 32 ∷ []) (omega (arith, some)) (omega (arith, long, end)) before behind
    ∙ ap (λ x. x ∷ (digits ++ 32 ∷ [])) (get_or-replicate 22 (start - 1) 32 0 (omega (arith, end, some)))
