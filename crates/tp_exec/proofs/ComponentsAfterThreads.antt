-- All components of a run, before their threads and after.
use Rattle.std.proofs.Common.{◌≡◌, ℕ, Option, Some, None, List, [], All, length, map, refl, sym, ap, ◌∙◌, subst}
use Rattle.std.specs.Prelude.{filter, slice_get}
use Rattle.std.specs.List.{flat_map, slice_index_or}
use Rattle.std.specs.Option.{option_map}
use Rattle.std.proofs.lemmas.List.{length-map}
use Rattle.std.proofs.lemmas.List.Elements.{All-get_or}
use Rattle.std.proofs.lemmas.List.Folds.{flat_map-map}
use Rattle.std.proofs.lemmas.Option.{get_or_from_slice_get, none-some, same_Some, slice_get-get_or, slice_get-map, slice_get_within}
use Rattle.std.proofs.lemmas.Simd.{map-map}
use Rattle.tp_config.specs.declared.port_type.CompId.{CompId}
use Rattle.tp_config.specs.Setup.{Setup}
use Rattle.tp_play.specs.TestCases.{Made}
use Rattle.tp_inbox.specs.Ledgers.{Inbox}
use Rattle.tp_behaviour.specs.declared.worker.Worker.{Worker}
use Rattle.tp_exec.specs.declared.played.Played.{Played}
use Rattle.tp_exec.specs.Returns.{HasReturned, IsYetToBegin, identity_of, identities_of, worker_number}
use Rattle.tp_exec.specs.Rounds.{ArePlayed, AreWorkers, HasNotBegun, HasPlayed, IsWorkerOf, Link, all_links, comes_from, workers_of, links_in}

abbrev Identity : Type 0
Identity = Inbox × List Link

-- of what an element comes
picked : {X Y : Type 0} (f : X → Y) (o : Option X) (y : Y) → option_map f o ≡ Some y → (x : X) × (o ≡ Some x) × (f x ≡ y)
picked f None y e = absurd (none-some y e)
picked f (Some x) y e = (x, refl, same_Some (f x) y e)

-- what stands at the same place of a list that is the same by what is seen of it
matched : {X Y Z : Type 0} (f : X → Z) (h : Y → Z) (xs : List X) (ys : List Y) (k : ℕ) (x : X) → map f xs ≡ map h ys → slice_get xs k ≡ Some x → (y : Y)
    × (slice_get ys k ≡ Some y) × (h y ≡ f x)
matched f h xs ys k x same at =
    picked h (slice_get ys k) (f x) (sym (slice_get-map h ys k) ∙ ap (λ l. slice_get l k) (sym same) ∙ slice_get-map f xs k ∙ ap (option_map f) at)

numbered : (s : Setup) (k : ℕ) (x : Worker) → IsWorkerOf s k x → worker_number x ≡ k
numbered s k x worker_of = ap (λ (c : CompId). c.0) (worker_of []).ends.comp

-- all are at their places, and nothing has happened there
pub all_waiting : (made : Made) (workers : List Worker) → AreWorkers made.config workers → All HasNotBegun workers → All (IsYetToBegin made) workers
all_waiting made workers are begun = λ k d low.
    let x : Worker = slice_index_or workers k d in
    let worker_of : IsWorkerOf made.config k x = are.worker_of k x (slice_get-get_or workers k d low) in
    record {
      worker_of = subst (λ (n : ℕ). IsWorkerOf made.config n x) (sym (numbered made.config k x worker_of)) worker_of;
      begun = begun k d low;
    }

-- the links of a run are those of its workers' identities
same_links : (xs ys : List Worker) → map identity_of xs ≡ map identity_of ys → all_links xs ≡ all_links ys
same_links xs ys same =
    let h : Identity → List Link = λ b. links_in b.0 in
    sym (flat_map-map h identity_of xs) ∙ ap (flat_map h) same ∙ flat_map-map h identity_of ys

module _ (made : Made) (workers : List Worker) (played : List Played) (are : AreWorkers made.config workers)
    (identities : identities_of played ≡ map identity_of workers) (back : All (HasReturned made) played) where
  same : map identity_of (workers_of played) ≡ map identity_of workers
  same = map-map identity_of (λ (p : Played). p.worker) played ∙ identities

  returned : (k : ℕ) (p : Played) → slice_get played k ≡ Some p → HasReturned made p
  returned k p at =
      subst (HasReturned made) (get_or_from_slice_get played k p p at) (All-get_or (HasReturned made) played k p (slice_get_within played k p at) back)

  placed : (k : ℕ) (p : Played) → slice_get played k ≡ Some p → worker_number p.worker ≡ k
  placed k p at =
      let before = matched (λ (q : Played). identity_of q.worker) identity_of played workers k p identities at in
      ap (λ (b : Identity). b.0.comp.0) (sym before.2) ∙ numbered made.config k before.0 (are.worker_of k before.0 before.1)

  -- each has done what it is there for
  pub all_played : ArePlayed made played
  all_played = λ k p at. subst (λ (n : ℕ). HasPlayed made n p) (placed k p at) (returned k p at).played

  -- and all are still at their places
  pub all_workers : AreWorkers made.config (workers_of played)
  all_workers = record {
    everyone = sym (length-map (workers_of played) identity_of) ∙ ap length same ∙ length-map workers identity_of ∙ are.everyone;
    worker_of = λ k y at.
        let from = picked (λ (p : Played). p.worker) (slice_get played k) y (sym (slice_get-map (λ (p : Played). p.worker) played k) ∙ at) in
        let p : Played = from.0 in
        let worker_of : IsWorkerOf made.config k p.worker = subst (λ (n : ℕ). IsWorkerOf made.config n p.worker) (placed k p from.1)
        (returned k p from.1).worker_of in
        subst (λ (x : Worker). IsWorkerOf made.config k x) from.2 worker_of;
    routes = λ k y at.
        let before = matched identity_of identity_of (workers_of played) workers k y same at in
        ap (λ (b : Identity). b.0.routes) (sym before.2) ∙ are.routes k before.0 before.1;
    senders = λ k y at.
        let before = matched identity_of identity_of (workers_of played) workers k y same at in
        ap (λ (b : Identity). b.1) (sym before.2) ∙ are.senders k before.0 before.1
        ∙ ap (filter (comes_from k)) (sym (same_links (workers_of played) workers same));
  }
