-- The links of a run: whose they are, and that no two are from one component into the inbox of one.
use Rattle.std.proofs.Common.{◌≡◌, inl, inr, ℕ, zero, suc, ◌+◌, Some, List, [], ◌∷◌, Contains, slice_get, refl, sym, ap, ◌∙◌, subst, arith}
use Rattle.std.specs.Prelude.{AllPairs, ◌≢◌}
use Rattle.std.proofs.lemmas.List.Elements.{Contains-append_cases, Contains-append_left, Contains-append_right}
use Rattle.std.proofs.lemmas.Option.{same_Some}
use Rattle.tp_config.specs.declared.port_type.CompId.{CompId}
use Rattle.tp_config.proofs.RouteLaws.{map_cases, map_contains}
use Rattle.tp_inbox.specs.Routed.{sources_of}
use Rattle.tp_behaviour.specs.declared.worker.Worker.{Worker}
use Rattle.tp_exec.specs.Rounds.{Link, all_links, comp_at, link_by, links_in}
use Rattle.tp_exec.proofs.PairwiseDifferentElements.{append_pairs, pairs_mapped}
use Rattle.tp_exec.proofs.RoutesBySourceComponent.{sources_apart}

-- the inboxes are those of the components from the one of this number on
abbrev pub AreFrom : ℕ → List Worker → Type 0
AreFrom n workers = (k : ℕ) (x : Worker) → slice_get workers k ≡ Some x → x.owner.inbox.comp ≡ comp_at (n + k)

-- each component with routes into the inbox of one of the workers has a link there
pub link_in : (xs : List Worker) (k : ℕ) (x : Worker) (c : CompId) → slice_get xs k ≡ Some x → Contains (sources_of x.owner.inbox.routes) c
    → Contains (all_links xs) (link_by x.owner.inbox c)
link_in [] k x c stands h = absurd (cc)
link_in (y ∷ ys) zero x c stands h =
    let here : Contains (links_in x.owner.inbox) (link_by x.owner.inbox c) = map_contains (link_by x.owner.inbox) (sources_of x.owner.inbox.routes) c h in
    Contains-append_left (links_in y.owner.inbox) (all_links ys) (link_by x.owner.inbox c)
    (subst (λ (z : Worker). Contains (links_in z.owner.inbox) (link_by x.owner.inbox c)) (sym (same_Some y x stands)) here)
link_in (y ∷ ys) (suc k) x c stands h =
    Contains-append_right (links_in y.owner.inbox) (all_links ys) (link_by x.owner.inbox c) (link_in ys k x c stands h)

-- the worker, and the component, of a link
pub record IsLinkInto (xs : List Worker) (w : Link) : Type 0 where
  pub place : ℕ
  pub worker : Worker
  pub stands : slice_get xs place ≡ Some worker
  pub source : CompId
  pub has : Contains (sources_of worker.owner.inbox.routes) source
  pub is : link_by worker.owner.inbox source ≡ w

-- each link is that of one
pub link_of : (xs : List Worker) (w : Link) → Contains (all_links xs) w → IsLinkInto xs w
link_of [] w h = absurd (omega (arith, h.1))
link_of (y ∷ ys) w h =
    elim (Contains-append_cases (links_in y.owner.inbox) (all_links ys) w h) [
      | inl here ↦ let m = map_cases (link_by y.owner.inbox) (sources_of y.owner.inbox.routes) w here in
          record { place = 0; worker = y; stands = refl; source = m.0; has = m.1; is = m.2 }
      | inr later ↦ let m = link_of ys w later in
          record { place = suc m.place; worker = m.worker; stands = m.stands; source = m.source; has = m.has; is = m.is }
    ]

-- they are not from one component into the inbox of one
abbrev pub AreOfTwo : Link → Link → Type 0
AreOfTwo w v = w.1 ≡ v.1 → w.0.comp ≢ v.0.comp

-- the components of the links into one inbox differ, and two inboxes are those of two components
pub links_apart : (n : ℕ) (xs : List Worker) → AreFrom n xs → AllPairs AreOfTwo (all_links xs)
links_apart n [] from = λ i j d below within. absurd (omega (arith, within))
links_apart n (x ∷ xs) from =
    append_pairs AreOfTwo (links_in x.owner.inbox) (all_links xs) here (links_apart (suc n) xs later) two
  where
    here : AllPairs AreOfTwo (links_in x.owner.inbox)
    here =
        pairs_mapped AreOfTwo (link_by x.owner.inbox) (sources_of x.owner.inbox.routes)
        (λ i j d below within same. absurd (sources_apart x.owner.inbox.routes i j d below within same))

    later : AreFrom (suc n) xs
    later k y stands = from (suc k) y stands ∙ ap comp_at (let e : n + suc k ≡ suc n + k = omega arith in e)

    two : (w v : Link) → Contains (links_in x.owner.inbox) w → Contains (all_links xs) v → AreOfTwo w v
    two w v one other from_one into_one =
        let a = map_cases (link_by x.owner.inbox) (sources_of x.owner.inbox.routes) w one in
        let b = link_of xs v other in
        let first : w.0.comp ≡ comp_at (n + 0) = ap (λ (u : Link). u.0.comp) (sym a.2) ∙ from 0 x refl in
        let second : v.0.comp ≡ comp_at (suc n + b.place) = ap (λ (u : Link). u.0.comp) (sym b.is) ∙ later b.place b.worker b.stands in
        let same : n + 0 ≡ suc n + b.place = ap (λ (c : CompId). c.0) (sym first ∙ into_one ∙ second) in
        omega (arith, same)
