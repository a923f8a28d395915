-- The queue at the address is lent to `port::at`, and comes back.
use Rattle.tp_c.proofs.Steps.{ℕ, List, [], ◌∷◌, ◌++◌, refl, w64, MutBor, proved, full_share, SProp, sep, emp, ex_i, via, mono_r, id⊢, ftrue, flft, flent, sem, Body, lft_new, lft_end, named, Val, vint, vptr, WpFn, fact, fact_i, tables, ‵, raw, ◌⊛◌, some, later, prop, ◌$◌, ◌∵◌, !, qed, done, move, keep, drop, use0, use1, use3, split, join, fsplit, pick, await, regoal, suffices, group, enter, of_opd, addr, stop, no_more, and_then, returns, alloc_all, pass_all, free_all, look_at, get, through, sets, lands_as, u64, yes, Is, shows, lends_ref, ref_back, part_at, mem, uint_Makes, uint_vals, uint_Tells, Ptr, RawPtr, block_ptr, lies_at, in_a_block, rawptr_vals, rawptr_Tells, MutRef, plain, nothing, owned, heard, peeks, calls_at, lasts, on_entry, triple_of, Stays, walk_of, stay_dropped, Goes-dropped, ends_at, on_exit, framed}
use Rattle.tp_queue.specs.Queues.{QueueState}
use Rattle.tp_queue.specs.contracts.queue.Queue as queue
use Rattle.tp_c.specs.Calls.{Placed, Port}
use Rattle.tp_c.specs.declared.port.Answer.{Answer}
use Rattle.tp_c.specs.contracts.port.Answer as answer
use Rattle.tp_c.proofs.port.Answer.TheLaws as laws
use Rattle.tp_c.specs.contracts.export.tp_port_at as f
use Rattle.tp_c.proofs.export.tp_port_at.Statement.{statement}
use Rattle.tp_c.proofs.export.tp_port_at.Code as code
use Rattle.tp_c.specs.contracts.port.at as g
use Rattle.tp_c.proofs.port.at.Met.{met}

abbrev stayed : Stays f.ended.signature.params f.ended.kept
stayed = (stay_dropped _ yes, (stay_dropped _ yes, tt))

pub tp_port_at_spec : {M : Type 1} → statement M
tp_port_at_spec 𝓤 𝓛 𝓜 𝓡 wired =
    let c = f.clauses 𝓛 𝓜.mem 𝓡.returns in let W = walk_of 𝓛 f.ended stayed c in let 𝓣 = tables 𝓤 𝓛.H 𝓜 𝓡 𝓡.env in
    let R = queue.the_row u64 in let G = triple_of 𝓛 g.signature (g.spec 𝓛 𝓜.mem 𝓡.returns) in
    let at_ptr = Goes-dropped 𝓛 0 (plain (λ _. RawPtr)) yes (λ κs x w. refl) in
    let at_8 = Goes-dropped 𝓛 0 (plain (λ _. u64)) yes (λ κs x w. refl) in
    proved 𝓛 f.ended stayed c 𝓜 𝓡 (at_ptr, (at_8, tt))
    f.Key.name code.function (code.unfolded 𝓤 𝓛.H 𝓜 𝓡 wired)
    (λ κs. (rawptr_vals, (uint_vals w64, tt)))
    (λ κs. (rawptr_Tells, (uint_Tells w64, tt)))
    (λ κs qs bounds a q are.
    let words : List Val × (Unit {0}) = (uint_vals w64 a.1.0, tt) in
    let y : Ptr → W.Ghost = λ p. ((κs, qs, bounds, (p, a.1), (rawptr_vals p, words)), q) in
    qed 𝓛 (raw (on_entry 𝓛 f.signature κs qs a (y a.0).0.4) ∷ ‵ (lies_at R full_share a.0 q) ∷ []) ∵ drop ! $
    in_a_block ! a.0 (λ p. lies_at R full_share p q) (id⊢ 𝓤 _) (λ b o e.
    regoal ! (λ p. prop (WpFn 𝓤 𝓛.H 𝓣.C 𝓣.Λ code.function (rawptr_vals p ++ (vint w64 a.1.0 ∷ [])) (W.post (y p)))) e refl $
    enter ! _ _ _ _ _ $ alloc_all ! (λ l. pass_all ! refl ((tt, tt), ((tt, record { fits = are.1.0.1 }), tt)) $
    sets ! (of_opd ! (get ! refl)) refl (tt, tt) $
    sets ! (addr ! (through ! refl (stop !))) refl (tt, tt) $
    -- [the queue; the locals]
    lft_new ! tt (λ α. move ! (1 ∷ []) $
    let κ = α ∷ [] in let now : ℕ → MutBor (QueueState ℕ) = λ γ. record { ref_ptr = (b, o); ghost_name = γ; now = q } in
    use1 𝓛 (later (some (λ (γ : ℕ). ‵ ((MutRef (named 0) κ R).own_val (now γ) (vptr b o ∷ [])) ⊛ ‵ (flent κ (Body (mem R) b o γ))))) (lends_ref 𝓛 R (named 0) κ q b o) $ await ! tt $ pick ! (λ γ. split ! $
    -- [the loan; the lender's part; the token of α]
    let z : G.Ghost = (((κ, tt), (full_share, tt), tt, (now γ, a.1), (vptr b o ∷ [], words)), tt) in
    nothing ! $ owned ! u64 _ (uint_Makes 𝓛 w64) a.1.0 _ (refl, are.1.0.1) $ join ! $
    move ! (1 ∷ 0 ∷ []) $ join ! $ nothing ! $ move ! (3 ∷ 0 ∷ []) $ join ! $ join ! $ nothing ! $ move ! (1 ∷ 0 ∷ []) $ join ! $ use1 𝓛 (raw (G.pre z)) (id⊢ 𝓤 _) $
    calls_at ! (framed 𝓤 𝓛.H 𝓜 𝓣) G (met 𝓤 𝓛 𝓜 𝓡 (code.calls-tp_c::port::at 𝓡.env wired)) z
    (and_then ! (get ! refl) (and_then ! (get ! refl) (no_more !))) (λ v.
    use1 𝓛 (later (some (λ (r : Answer). ((‵ (flft κ full_share) ⊛ ‵ ftrue) ⊛ ‵ (answer.the_row.own_val r (v ∷ []))) ⊛
    some (λ (ws : QueueState ℕ × (Unit {0} × (Unit {0}))). ‵ (lasts g.ended z.0.0 z.0.3 ws) ⊛ raw (fact 𝓤 (Placed q a.1.0 r ws.0)))))) (id⊢ 𝓤 _) $
    await ! tt $ pick ! (λ r. split ! $ split ! $ split ! $ lft_end ! tt $ move ! (2 ∷ []) $
    peeks ! (answer.the_row) (Is (answer.the_row)) (shows 𝓛 (answer.the_row)) r (v ∷ []) (λ is. lands_as ! refl refl ((laws.the_row_laws.lawful 𝓛).typed r _ is).0 $
    move ! (3 ∷ []) $ pick ! (λ ws. split ! $ move ! (1 ∷ []) $ heard ! _ (λ told. fsplit ! $ fsplit ! $
    move ! (4 ∷ 6 ∷ 0 ∷ []) $ use3 𝓛 (later (‵ (part_at R full_share ws.0 b o))) (ref_back 𝓛 R κ γ ws.0 b o) $ await ! tt $
    returns ! (look_at ! 0 refl) $ free_all ! refl $ keep ! (0 ∷ 3 ∷ []) $
    -- [the queue; the result]
    let Told : SProp 𝓤 = fact 𝓤 (Placed q a.1.0 r ws.0) in
    let Exit : SProp 𝓤 = on_exit 𝓛 f.ended stayed κs qs (y (block_ptr b o)).0.4 v r (y (block_ptr b o)).0.3 (tt, (tt, tt)) in
    suffices ! (sep 𝓤 Exit (sep 𝓤 (sem 𝓛 (Port (block_ptr b o) ws.0)) Told))
    (via 𝓤 _ (mono_r 𝓤 Exit (ex_i 𝓤 (λ (after : QueueState ℕ). sep 𝓤 (sem 𝓛 (Port (block_ptr b o) after)) (fact 𝓤 (Placed q a.1.0 r after))) ws.0))
    (ends_at 𝓛 f.ended stayed c (y (block_ptr b o)) v r (tt, (tt, tt)) (tt, (tt, tt)))) $
    use0 𝓛 (raw Told) (fact_i 𝓤 (Placed q a.1.0 r ws.0) (emp 𝓤) told) $ move ! (2 ∷ 1 ∷ 0 ∷ []) $
    nothing ! $ nothing ! $ join ! $ nothing ! $ join ! $ nothing ! $ group ! 3 $ done !))))))))))
