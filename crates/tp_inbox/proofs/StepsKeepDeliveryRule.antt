-- Each kind of step keeps the rule.
use Rattle.std.proofs.Common.{◌≡◌, ◌≢◌, ◌⊎◌, inl, inr, ℕ, zero, suc, ◌+◌, ◌<◌, Bool, true, false, true≢false, cond, eqb, eq-eqb, ne_eqb, List, [], ◌∷◌, ◌++◌, length, set, get_or, refl, sym, ap, ◌∙◌, subst, ⊎_elim, append_assoc, arith}
use Rattle.std.specs.Prelude.{All}
use Rattle.std.proofs.lemmas.List.Elements.{All-nil, All-append}
use mathlib.Core.Option.{Option, some, none, some-injective, some-ne-none}
use lib.ListN.{get_elem?}
use Rattle.crossbeam_queue.specs.Fifo.{Pushes, Pops, Forks, Merges, Learns}
use Rattle.crossbeam_queue.proofs.Lists.{at_set}
use Rattle.tp_inbox.specs.declared.envelope.InboxEnvelope.{InboxEnvelope}
use Rattle.tp_inbox.specs.declared.rule.View.{View}
use Rattle.tp_inbox.specs.Envelopes.{of, InOrder, AreRouted, AreWhole, Ledger, has, on_routes}
use Rattle.tp_inbox.specs.Rule.{sender_pass, owner_pass, spent, FitsSender, FitsOwner, Delivers, Takes, PutsEnvelope, Knows}
use Rattle.tp_inbox.proofs.EnvelopesOfOneRoute.{routed-append, routed-back, routed-more, in_order-front, in_order-push, false_or, has-one, has-either, of-among, among-append, among-here, among-else, among-new, among-more}

-- f, with a at p
abbrev at : {A : Type 0} → (ℕ → A) → ℕ → A → ℕ → A
at f p a q = cond (eqb q p) a (f q)

at-here : {A : Type 0} (f : ℕ → A) (p : ℕ) (a : A) → at f p a p ≡ a
at-here f p a = ap (λ b. cond b a (f p)) (eq-eqb p p refl)

at-else : {A : Type 0} (f : ℕ → A) (p : ℕ) (a : A) (q : ℕ) → q ≢ p → at f p a q ≡ f q
at-else f p a q n = ap (λ b. cond b a (f q)) (ne_eqb q p n)

-- f, with a at each of these
abbrev at_all : {A : Type 0} → (ℕ → A) → List ℕ → A → ℕ → A
at_all f ps a q = cond (has ps q) a (f q)

at_all-here : {A : Type 0} (f : ℕ → A) (ps : List ℕ) (a : A) (q : ℕ) → has ps q ≡ true → at_all f ps a q ≡ a
at_all-here f ps a q h = ap (λ b. cond b a (f q)) h

at_all-else : {A : Type 0} (f : ℕ → A) (ps : List ℕ) (a : A) (q : ℕ) → (has ps q ≡ true → ⊥) → at_all f ps a q ≡ f q
at_all-else f ps a q n = ap (λ b. cond b a (f q)) (false_or (has ps q) n)

off : false ≡ true → ⊥
off e = true≢false (sym e)

abbrev Each : (ℕ → View → Type 0) → List View → Type 0
Each F views = (pass : ℕ) (v : View) → get_elem? views pass ≡ some v → F pass v

each_one : (F : ℕ → View → Type 0) (x : View) → F 0 x → Each F (x ∷ [])
each_one F x h zero v e = subst (F 0) (some-injective x v e) h
each_one F x h (suc j) v e = absurd (some-ne-none v (sym e))

each_set : (F : ℕ → View → Type 0) (views : List View) (pass : ℕ) (w : View) → F pass w → ((j : ℕ) (u : View) → j ≢ pass → get_elem? views j ≡ some u → F j u)
    → Each F (set views pass w)
each_set F views pass w mine others j u e =
    ⊎_elim
    (λ (x : (j ≡ pass) × (w ≡ u)). subst (λ (y : ℕ × View). F y.0 y.1) (λ i. (sym x.0 i, x.1 i)) mine)
    (λ (x : (j ≢ pass) × (get_elem? views j ≡ some u)). others j u x.0 x.1)
    (at_set views pass j w u e)

at_end : (l : List View) (a b : View) (j : ℕ) → get_elem? (l ++ a ∷ []) j ≡ some b → (get_elem? l j ≡ some b) ⊎ ((j ≡ length l) × (a ≡ b))
at_end [] a b zero e = inr (refl, some-injective a b e)
at_end [] a b (suc j) e = absurd (some-ne-none b (sym e))
at_end (x ∷ xs) a b zero e = inl e
at_end (x ∷ xs) a b (suc j) e = ⊎_elim (λ t. inl t) (λ (t : (j ≡ length xs) × (a ≡ b)). inr (ap suc t.0, t.1)) (at_end xs a b j e)

each_snoc : (F : ℕ → View → Type 0) (views : List View) (w : View) → Each F views → F (length views) w → Each F (views ++ w ∷ [])
each_snoc F views w old mine j u e =
    ⊎_elim
    (λ x. old j u x)
    (λ (x : (j ≡ length views) × (w ≡ u)). subst (λ (y : ℕ × View). F y.0 y.1) (λ i. (sym x.0 i, x.1 i)) mine)
    (at_end views w u j e)

pub begins : Delivers [] (owner_pass 0 [] [] ∷ [])
begins = record {
  owner = 0;
  split_off = 0;
  holder = λ p. none;
  taken = [];
  routed = tt;
  order = λ p. ([], refl);
  senders = each_one (FitsSender 0 (λ p. none) []) (owner_pass 0 [] []) (λ s. absurd (off s));
  owners = each_one (FitsOwner 0 0 (λ p. none) [] []) (owner_pass 0 [] [])
      (λ _. (refl, refl, refl, All-nil (λ (x : Ledger). (p : ℕ) → has x.0 p ≡ true → (p < 0) × (none ≡ none)), All-nil (λ (x : Ledger). on_routes x.0 [] ≡ x.1)));
}

pub sends : (n pass : ℕ) (places : List ℕ) (put : List InboxEnvelope) (e : InboxEnvelope) → has places e.place ≡ true → e.number ≡ length (of e.place put)
    → Pushes Delivers n pass (sender_pass places put) e (PutsEnvelope (sender_pass places put) e)
sends n pass places put e own num items views _ h here =
    let mine = h.senders pass (sender_pass places put) here refl in
    let all = h.taken ++ items in
    let whole : all ++ e ∷ [] ≡ h.taken ++ (items ++ e ∷ []) = append_assoc h.taken items (e ∷ []) in
    let there = mine.0 e.place own in
    let count : e.number ≡ length (of e.place all) = num ∙ ap (λ l. length (of e.place l)) (sym mine.1) ∙ ap length (of-among places e.place all own) in
    let w = sender_pass places (put ++ e ∷ []) in (
      w,
      record {
        owner = h.owner;
        split_off = h.split_off;
        holder = h.holder;
        taken = h.taken;
        routed = subst (AreRouted h.split_off) whole (routed-append h.split_off all (e ∷ []) h.routed (there.0, tt));
        order = subst InOrder whole (in_order-push all e h.order count);
        senders = each_set (FitsSender h.split_off h.holder (h.taken ++ (items ++ e ∷ []))) views pass w
            (λ _. (mine.0, ap (on_routes places) (sym whole) ∙ among-here places all e own ∙ ap (λ l. l ++ e ∷ []) mine.1))
            (λ j u apart e' s.
            let o = h.senders j u e' s in (
              o.0,
              ap (on_routes u.places) (sym whole)
                  ∙ among-else u.places all e
                  (false_or (has u.places e.place) (λ yes_. apart (some-injective j pass (sym (o.0 e.place yes_).1 ∙ there.1)))) ∙ o.1,
            ));
        owners = each_set (FitsOwner h.owner h.split_off h.holder h.taken (h.taken ++ (items ++ e ∷ []))) views pass w (λ o. absurd (off o))
            (λ j u apart e' o.
            let f = h.owners j u e' o in (
              f.0,
              f.1,
              f.2,
              f.3,
              λ k d low.
                  let x = get_or u.known k d in
                  ap (on_routes x.0) (sym whole)
                  ∙ among-else x.0 all e
                  (false_or (has x.0 e.place) (λ yes_. some-ne-none pass (sym there.1 ∙ (f.3 k d low e.place yes_).1))) ∙ f.4 k d low,
            ));
      },
      refl,
    )

pub takes : (pass split_off : ℕ) (taken : List InboxEnvelope) (known : List Ledger) → Pops Delivers pass (owner_pass split_off taken known) (Takes (owner_pass split_off taken known))
takes pass split_off taken known e items views h here =
    let mine = h.owners pass (owner_pass split_off taken known) here refl in
    let w = owner_pass split_off (taken ++ e ∷ []) known in
    let more = h.taken ++ e ∷ [] in
    let whole : h.taken ++ (e ∷ items) ≡ more ++ items = sym (append_assoc h.taken (e ∷ []) items) in
    let low = (routed-back h.split_off h.taken (e ∷ items) h.routed).0 in
    let mores : more ++ items ≡ (taken ++ e ∷ []) ++ items = ap (λ l. (l ++ e ∷ []) ++ items) (sym mine.2) in
    let ends : AreWhole (more ++ items) known = subst (λ l. AreWhole l known) whole mine.4 in (
      w,
      record {
        owner = h.owner;
        split_off = h.split_off;
        holder = h.holder;
        taken = more;
        routed = subst (AreRouted h.split_off) whole h.routed;
        order = subst InOrder whole h.order;
        senders = each_set (FitsSender h.split_off h.holder (more ++ items)) views pass w (λ s. absurd (off s))
            (λ j u _ e'. subst (λ l. FitsSender h.split_off h.holder l j u) whole (h.senders j u e'));
        owners = each_set (FitsOwner h.owner h.split_off h.holder more (more ++ items)) views pass w
            (λ _. (mine.0, mine.1, ap (λ l. l ++ e ∷ []) mine.2, mine.3, ends))
            (λ j u apart e' o. absurd (apart ((h.owners j u e' o).0 ∙ sym mine.0)));
      },
      (
        refl,
        (let l : e.place < h.split_off = low in let m : split_off ≡ h.split_off = mine.1 in omega arith),
        in_order-front (taken ++ e ∷ []) items (subst InOrder (whole ∙ mores) h.order),
        λ k d below.
            let x = get_or known k d in
            (on_routes x.0 items, sym (among-append x.0 (taken ++ e ∷ []) items) ∙ ap (on_routes x.0) (sym mores) ∙ ends k d below),
      ),
    )

pub learns : (pass split_off : ℕ) (taken : List InboxEnvelope) (known : List Ledger) → Learns Delivers pass (owner_pass split_off taken known)
    (Knows (owner_pass split_off taken known))
learns pass split_off taken known items views h here =
    let mine = h.owners pass (owner_pass split_off taken known) here refl in
    subst (λ l. AreWhole (l ++ items) known) (sym mine.2) mine.4

pub splits : (pass split_off : ℕ) (taken : List InboxEnvelope) (known : List Ledger) → Forks Delivers pass (owner_pass split_off taken known)
    (owner_pass (split_off + 1) taken known) (sender_pass (split_off ∷ []) [])
splits pass split_off taken known items views h here =
    let mine = h.owners pass (owner_pass split_off taken known) here refl in
    let same : split_off ≡ h.split_off = mine.1 in
    let left = owner_pass (split_off + 1) taken known in
    let right = sender_pass (split_off ∷ []) [] in
    let vs = set views pass left in
    let new = some (length vs) in
    let holder = at h.holder split_off new in
    let all = h.taken ++ items in
    record {
      owner = h.owner;
      split_off = h.split_off + 1;
      holder = holder;
      taken = h.taken;
      routed = routed-more h.split_off all h.routed;
      order = h.order;
      senders = each_snoc (FitsSender (h.split_off + 1) holder all) vs right
          (each_set (FitsSender (h.split_off + 1) holder all) views pass left (λ s. absurd (off s))
          (λ j u _ e s.
          let o = h.senders j u e s in (
            λ p yes_.
                let l = (o.0 p yes_).0 in
                (omega arith, at-else h.holder split_off new p (λ eq. omega arith) ∙ (o.0 p yes_).1),
            o.1,
          )))
          (λ _. (
            λ p yes_.
                let is = has-one split_off p yes_ in
                (omega arith, ap holder is ∙ at-here h.holder split_off new),
            ap (λ n. on_routes (n ∷ []) all) same ∙ among-new h.split_off all h.routed,
          ));
      owners = each_snoc (FitsOwner h.owner (h.split_off + 1) holder h.taken all) vs right
          (each_set (FitsOwner h.owner (h.split_off + 1) holder h.taken all) views pass left
          (λ _. (
            mine.0,
            omega arith,
            mine.2,
            λ k d low p yes_.
                let l = (mine.3 k d low p yes_).0 in
                (omega arith, at-else h.holder split_off new p (λ eq. omega arith) ∙ (mine.3 k d low p yes_).1),
            mine.4,
          ))
          (λ j u apart e o. absurd (apart ((h.owners j u e o).0 ∙ sym mine.0))))
          (λ o. absurd (off o));
    }

all_one : {A : Type 0} (P : A → Type 0) (x : A) → P x → All P (x ∷ [])
all_one P x h zero d low = h
all_one P x h (suc k) d low = absurd (omega arith)

pub joins : (pass split_off : ℕ) (taken : List InboxEnvelope) (known : List Ledger) (other : ℕ) (places : List ℕ) (put : List InboxEnvelope)
    → Merges Delivers pass (owner_pass split_off taken known) other (sender_pass places put) (owner_pass split_off taken (known ++ (places, put) ∷ [])) spent
joins pass split_off taken known other places put items views h here two there =
    let mine = h.owners pass (owner_pass split_off taken known) here refl in
    let both = owner_pass split_off taken (known ++ (places, put) ∷ []) in
    let w = sender_pass places put in
    let vs = set views pass both in
    let was : get_elem? views other ≡ some w = ⊎_elim (λ x. absurd (two x.0)) (λ x. x.1) (at_set views pass other both w there) in
    let theirs = h.senders other w was refl in
    let holder = at_all h.holder places none in
    let all = h.taken ++ items in
    let S : ℕ → View → Type 0 = λ j u. j ≢ other → FitsSender h.split_off holder all j u in
    let O = FitsOwner h.owner h.split_off holder h.taken all in
    let Left : Ledger → Type 0 = λ x. (p : ℕ) → has x.0 p ≡ true → (p < h.split_off) × (holder p ≡ none) in
    let Whole : Ledger → Type 0 = λ x. on_routes x.0 all ≡ x.1 in
    let free : (p : ℕ) → h.holder p ≡ none → holder p ≡ none = λ p is. stays (has places p) (h.holder p) is in
    record {
      owner = h.owner;
      split_off = h.split_off;
      holder = holder;
      taken = h.taken;
      routed = h.routed;
      order = h.order;
      senders = each_set (FitsSender h.split_off holder all) vs other spent (λ s. absurd (off s))
          (λ j u apart e.
          each_set S views pass both (λ _ s. absurd (off s))
          (λ i v _ e' not s.
          let o = h.senders i v e' s in (
            λ p yes_. (
              (o.0 p yes_).0,
              at_all-else h.holder places none p (λ theirs_. not (some-injective i other (sym (o.0 p yes_).1 ∙ (theirs.0 p theirs_).1))) ∙ (o.0 p yes_).1,
            ),
            o.1,
          ))
          j u e apart);
      owners = each_set O vs other spent (λ o. absurd (off o))
          (λ j u apart e.
          each_set O views pass both
          (λ _. (
            mine.0,
            mine.1,
            mine.2,
            All-append Left known ((places, put) ∷ []) (λ k d low p yes_. ((mine.3 k d low p yes_).0, free p (mine.3 k d low p yes_).1))
                (all_one Left (places, put) (λ p yes_. ((theirs.0 p yes_).0, at_all-here h.holder places none p yes_))),
            All-append Whole known ((places, put) ∷ []) mine.4 (all_one Whole (places, put) theirs.1),
          ))
          (λ i v not e' o. absurd (not ((h.owners i v e' o).0 ∙ sym mine.0)))
          j u e);
    }
  where
    stays : (b : Bool) (o : Option ℕ) → o ≡ none → cond b none o ≡ none
    stays true o is = refl
    stays false o is = is

-- a sender takes over the routes of another, which has put nothing
pub pairs : (pass : ℕ) (places : List ℕ) (put : List InboxEnvelope) (other : ℕ) (others : List ℕ)
    → Merges Delivers pass (sender_pass places put) other (sender_pass others []) (sender_pass (places ++ others) put) spent
pairs pass places put other others items views h here two there =
    let mine = h.senders pass (sender_pass places put) here refl in
    let both = sender_pass (places ++ others) put in
    let w = sender_pass others [] in
    let vs = set views pass both in
    let was : get_elem? views other ≡ some w = ⊎_elim (λ x. absurd (two x.0)) (λ x. x.1) (at_set views pass other both w there) in
    let theirs = h.senders other w was refl in
    let holder = at_all h.holder others (some pass) in
    let all = h.taken ++ items in
    let S : ℕ → View → Type 0 = λ j u. j ≢ other → FitsSender h.split_off holder all j u in
    let O : ℕ → View → Type 0 = FitsOwner h.owner h.split_off holder h.taken all in
    let kept : (p : ℕ) → h.holder p ≡ some pass → holder p ≡ some pass = λ p is. stays (has others p) (h.holder p) is in
    record {
      owner = h.owner;
      split_off = h.split_off;
      holder = holder;
      taken = h.taken;
      routed = h.routed;
      order = h.order;
      senders = each_set (FitsSender h.split_off holder all) vs other spent (λ s. absurd (off s))
          (λ j u apart e.
          each_set S views pass both
          (λ _ _. (
            λ p yes_.
                ⊎_elim
                (λ (a : has places p ≡ true). ((mine.0 p a).0, kept p (mine.0 p a).1))
                (λ (b : has others p ≡ true). ((theirs.0 p b).0, at_all-here h.holder others (some pass) p b))
                (has-either places others p yes_),
            among-more places others all theirs.1 ∙ mine.1,
          ))
          (λ i v _ e' not s.
          let o = h.senders i v e' s in (
            λ p yes_. (
              (o.0 p yes_).0,
              at_all-else h.holder others (some pass) p (λ theirs_. not (some-injective i other (sym (o.0 p yes_).1 ∙ (theirs.0 p theirs_).1)))
                  ∙ (o.0 p yes_).1,
            ),
            o.1,
          ))
          j u e apart);
      owners = each_set O vs other spent (λ o. absurd (off o))
          (λ j u apart e.
          each_set O views pass both (λ o. absurd (off o))
          (λ i v _ e' o.
          let f = h.owners i v e' o in (
            f.0,
            f.1,
            f.2,
            λ k d low p yes_. (
              (f.3 k d low p yes_).0,
              at_all-else h.holder others (some pass) p (λ theirs_. some-ne-none other (sym (theirs.0 p theirs_).1 ∙ (f.3 k d low p yes_).1))
                  ∙ (f.3 k d low p yes_).1,
            ),
            f.4,
          ))
          j u e);
    }
  where
    stays : (b : Bool) (o : Option ℕ) → o ≡ some pass → cond b (some pass) o ≡ some pass
    stays true o is = refl
    stays false o is = is

-- the steps, at a view that is known
pub sends_as : (n pass : ℕ) (v : View) (places : List ℕ) (put : List InboxEnvelope) (e : InboxEnvelope) → v ≡ sender_pass places put → has places e.place ≡ true
    → e.number ≡ length (of e.place put) → Pushes Delivers n pass v e (PutsEnvelope v e)
sends_as n pass v places put e is own num = subst (λ (u : View). Pushes Delivers n pass u e (PutsEnvelope u e)) (sym is) (sends n pass places put e own num)

pub takes_as : (pass : ℕ) (v : View) (split_off : ℕ) (taken : List InboxEnvelope) (known : List Ledger) → v ≡ owner_pass split_off taken known
    → Pops Delivers pass v (Takes v)
takes_as pass v split_off taken known is = subst (λ (u : View). Pops Delivers pass u (Takes u)) (sym is) (takes pass split_off taken known)

pub learns_as : (pass : ℕ) (v : View) (split_off : ℕ) (taken : List InboxEnvelope) (known : List Ledger) → v ≡ owner_pass split_off taken known
    → Learns Delivers pass v (Knows v)
learns_as pass v split_off taken known is = subst (λ (u : View). Learns Delivers pass u (Knows u)) (sym is) (learns pass split_off taken known)

pub splits_as : (pass : ℕ) (v : View) (split_off : ℕ) (taken : List InboxEnvelope) (known : List Ledger) → v ≡ owner_pass split_off taken known
    → Forks Delivers pass v (owner_pass (v.split_off + 1) v.taken v.known) (sender_pass (v.split_off ∷ []) [])
splits_as pass v split_off taken known is =
    subst (λ (u : View). Forks Delivers pass u (owner_pass (u.split_off + 1) u.taken u.known) (sender_pass (u.split_off ∷ []) [])) (sym is)
    (splits pass split_off taken known)

pub joins_as : (pass : ℕ) (v : View) (other : ℕ) (w : View) (split_off : ℕ) (taken : List InboxEnvelope) (known : List Ledger) (places : List ℕ)
    (put : List InboxEnvelope) → v ≡ owner_pass split_off taken known → w ≡ sender_pass places put
    → Merges Delivers pass v other w (owner_pass v.split_off v.taken (v.known ++ (w.places, w.put) ∷ [])) spent
joins_as pass v other w split_off taken known places put is its =
    subst (λ (x : View × View). Merges Delivers pass x.0 other x.1 (owner_pass x.0.split_off x.0.taken (x.0.known ++ (x.1.places, x.1.put) ∷ [])) spent)
    (λ i. (sym is i, sym its i))
    (joins pass split_off taken known other places put)

pub pairs_as : (pass : ℕ) (v : View) (other : ℕ) (w : View) (places : List ℕ) (put : List InboxEnvelope) (others : List ℕ) → v ≡ sender_pass places put
    → w ≡ sender_pass others [] → Merges Delivers pass v other w (sender_pass (v.places ++ w.places) v.put) spent
pairs_as pass v other w places put others is its =
    subst (λ (x : View × View). Merges Delivers pass x.0 other x.1 (sender_pass (x.0.places ++ x.1.places) x.0.put) spent)
    (λ i. (sym is i, sym its i))
    (pairs pass places put other others)
