-- What is written through a watched writer, piece by piece.
use Rattle.std.proofs.Common.{◌≡◌, ℕ, zero, suc, ◌+◌, ◌<◌, ◌≤◌, ◌∷◌, get_or, add-one, Bool, true, false, Option, Some, None, List, [], ◌++◌, length, take, drop, length-drop, length-take, ◌-◌, IsTrue, refl, sym, ap, subst, ◌∙◌, arith, append_assoc, take-append-drop}
use Rattle.std.proofs.lemmas.List.{append-nil, take_all}
use Rattle.std.specs.List.{flat_map}
use Rattle.std.proofs.lemmas.Grind.{flat_map-append}
use Rattle.std.specs.Io.KnownBytes.{Appends, Keeps}
use Rattle.std.proofs.KnownBytes.{Appends-nil, Appends-trans, Keeps-refl, Keeps-trans}
use lib.Seq.{take-add, take-take}
use Rattle.tp_common.specs.declared.watched.Watched.{Watched}
use Rattle.tp_common.specs.Watching.{AppendsFront, HasFailed, Writes}

-- to grow by nothing is to stay, and to stay is to grow by nothing
pub stays : (a b : Option (List ℕ)) → Appends a b [] → Keeps a b
stays None b p = tt
stays (Some x) None p = absurd p
stays (Some x) (Some y) p = p ∙ append-nil x

pub grows_by_none : (a b : Option (List ℕ)) → Keeps a b → Appends a b []
grows_by_none None b p = tt
grows_by_none (Some x) None p = absurd p
grows_by_none (Some x) (Some y) p = p ∙ sym (append-nil x)

grows_and_stays : (a b c : Option (List ℕ)) (text : List ℕ) → Appends a b text → Keeps b c → Appends a c text
grows_and_stays None b c text p q = tt
grows_and_stays (Some x) None c text p q = absurd p
grows_and_stays (Some x) (Some y) None text p q = absurd q
grows_and_stays (Some x) (Some y) (Some z) text p q = q ∙ p

failed_or_not : (b : Bool) (P : Type 0) → (IsTrue b → P) → (b ≡ false → P) → P
failed_or_not true P p q = p refl
failed_or_not false P p q = q refl

pub not_both : (b : Bool) → IsTrue b → b ≡ false → ⊥
not_both b failed well = absurd (cc)

module _ {W : Type 0} (contents : W → Option (List ℕ)) where
  first_front : (a b c : Watched W) (x y : List ℕ) → AppendsFront (contents a.inner) (contents b.inner) x → Keeps (contents b.inner) (contents c.inner)
      → AppendsFront (contents a.inner) (contents c.inner) (x ++ y)
  first_front a b c x y p kept =
      record {
        front = p.front;
        rest = p.rest ++ y;
        is = ap (λ l. l ++ y) p.is ∙ append_assoc p.front p.rest y;
        added = grows_and_stays _ _ _ p.front p.added kept;
      }

  second_front : (a b c : Watched W) (x y : List ℕ) → Appends (contents a.inner) (contents b.inner) x → AppendsFront (contents b.inner) (contents c.inner) y
      → AppendsFront (contents a.inner) (contents c.inner) (x ++ y)
  second_front a b c x y p q =
      record {
        front = x ++ q.front;
        rest = q.rest;
        is = ap (λ l. x ++ l) q.is ∙ sym (append_assoc x q.front q.rest);
        added = Appends-trans _ _ _ x q.front p q.added;
      }

  -- one text, and then another
  pub writes_both : (a b c : Watched W) (x y : List ℕ) → Writes contents a b x → Writes contents b c y → Writes contents a c (x ++ y)
  writes_both a b c x y p q =
      record {
        front =
            failed_or_not b.failed (AppendsFront (contents a.inner) (contents c.inner) (x ++ y))
            (λ failed. first_front a b c x y p.front (q.kept failed))
            (λ well. second_front a b c x y (p.whole well) q.front);
        whole = λ well.
            Appends-trans _ _ _ x y (p.whole (failed_or_not b.failed (b.failed ≡ false) (λ failed. absurd (not_both c.failed (q.still failed) well)) (λ e. e))) (q.whole well);
        kept = λ failed. Keeps-trans _ _ _ (p.kept failed) (q.kept (p.still failed));
        still = λ failed. q.still (p.still failed);
      }

  -- nothing is written
  pub writes_nothing : (a : Watched W) (text : List ℕ) → text ≡ [] → Writes contents a a text
  writes_nothing a text none =
      subst (Writes contents a a) (sym none)
      (record {
        front = record { front = []; rest = []; is = refl; added = Appends-nil (contents a.inner) };
        whole = λ well. Appends-nil (contents a.inner);
        kept = λ failed. Keeps-refl (contents a.inner);
        still = λ failed. failed;
      })

  -- a text, and then nothing more
  pub writes_first : (a b c : Watched W) (x : List ℕ) → Writes contents a b x → Writes contents b c [] → Writes contents a c x
  writes_first a b c x p q = subst (Writes contents a c) (append-nil x) (writes_both a b c x [] p q)

  -- nothing is written before the first
  pub nothing_yet : (a : Watched W) → Writes contents a a []
  nothing_yet a = writes_nothing a [] refl

taken : {X : Type 0} (xs : List X) (i : ℕ) (x : X) → i < length xs → x ≡ get_or xs i x → take (i + 1) xs ≡ take i xs ++ x ∷ []
taken [] i x h is = absurd (omega arith)
taken (y ∷ xs) zero x h is = ap (λ z. z ∷ []) (sym is)
taken (y ∷ xs) (suc i) x h is = ap (λ k. take k (y ∷ xs)) (add-one (suc i))
    ∙ ap (λ l. y ∷ l) (sym (ap (λ k. take k xs) (add-one i)) ∙ taken xs i x (omega arith) is)

-- one text more, where each element has one
pub one_more : {W X : Type 0} (contents : W → Option (List ℕ)) (text : X → List ℕ) (xs : List X) (i : ℕ) (x : X) → i < length xs → x ≡ get_or xs i x
    → (start here now : Watched W) → Writes contents start here (flat_map text (take i xs)) → Writes contents here now (text x)
    → Writes contents start now (flat_map text (take (i + 1) xs))
one_more contents text xs i x h is start here now p q =
    subst (Writes contents start now)
    (sym (ap (flat_map text) (taken xs i x h is) ∙ flat_map-append text (take i xs) (x ∷ []) ∙ ap (λ l. flat_map text (take i xs) ++ l)
    (append-nil (text x))))
    (writes_both contents start here now (flat_map text (take i xs)) (text x) p q)

-- all of them
pub all_of_them : {W X : Type 0} (contents : W → Option (List ℕ)) (text : X → List ℕ) (xs : List X) (i : ℕ) → length xs ≤ i
    → (start now : Watched W) → Writes contents start now (flat_map text (take i xs)) → Writes contents start now (flat_map text xs)
all_of_them contents text xs i h start now p = subst (Writes contents start now) (ap (flat_map text) (take_all i xs h)) p

-- the first bytes, and those behind them
pub all_parts : (bytes : List ℕ) (n : ℕ) → n ≤ length bytes → take n bytes ++ take (length bytes - n) (drop n bytes) ≡ bytes
all_parts bytes n fits =
    ap (λ l. take n bytes ++ l) (take_all (length bytes - n) (drop n bytes) (omega (arith, length-drop n bytes))) ∙ take-append-drop n bytes

-- the first bytes are written, all that there are to be, and nothing by a writer that had failed
pub record HasWritten {W : Type 0} (contents : W → Option (List ℕ)) (old new : Watched W) (bytes : List ℕ) (at : ℕ) : Type 0 where
  pub within : at ≤ length bytes
  pub added : Appends (contents old.inner) (contents new.inner) (take at bytes)
  pub kept : HasFailed old → Keeps (contents old.inner) (contents new.inner)
  pub still : HasFailed old → HasFailed new

module _ {W : Type 0} (contents : W → Option (List ℕ)) where
  pub none_written : (a : Watched W) (bytes : List ℕ) → HasWritten contents a a bytes 0
  none_written a bytes =
      record {
        within = omega arith;
        added = Appends-nil (contents a.inner);
        kept = λ failed. Keeps-refl (contents a.inner);
        still = λ failed. failed;
      }

  -- a writer that hasn't failed takes some more
  pub some_written : (a b c : Watched W) (bytes : List ℕ) (at n : ℕ) → b.failed ≡ false → HasWritten contents a b bytes at
      → n ≤ length (take (length bytes - at) (drop at bytes))
      → Appends (contents b.inner) (contents c.inner) (take n (take (length bytes - at) (drop at bytes))) → HasWritten contents a c bytes (at + n)
  some_written a b c bytes at n well h few more =
      let fits : n ≤ length bytes - at = omega (arith, few, length-take (length bytes - at) (drop at bytes)) in
      let joined = ap (λ l. take at bytes ++ l) (take-take n (length bytes - at) (drop at bytes) fits) ∙ sym (take-add at n bytes) in
      record {
        within = omega (arith, h.within, fits);
        added = subst (Appends _ _) joined (Appends-trans _ _ _ _ _ h.added more);
        kept = λ failed. absurd (not_both b.failed (h.still failed) well);
        still = λ failed. absurd (not_both b.failed (h.still failed) well);
      }

  -- or nothing
  pub no_more_written : (a b c : Watched W) (bytes : List ℕ) (at : ℕ) → b.failed ≡ false → HasWritten contents a b bytes at
      → Keeps (contents b.inner) (contents c.inner) → HasWritten contents a c bytes at
  no_more_written a b c bytes at well h stayed =
      record {
        within = h.within;
        added = grows_and_stays _ _ _ _ h.added stayed;
        kept = λ failed. absurd (not_both b.failed (h.still failed) well);
        still = λ failed. absurd (not_both b.failed (h.still failed) well);
      }

  -- one write of a writer that hasn't failed took some bytes
  pub took_some : (a b : Watched W) (text : List ℕ) → a.failed ≡ false → Appends (contents a.inner) (contents b.inner) text → Writes contents a b text
  took_some a b text well added =
      record {
        front = record { front = text; rest = []; is = sym (append-nil text); added = added };
        whole = λ after. added;
        kept = λ failed. absurd (not_both a.failed failed well);
        still = λ failed. absurd (not_both a.failed failed well);
      }

  -- or none
  pub took_nothing : (a b : Watched W) → a.failed ≡ false → Keeps (contents a.inner) (contents b.inner) → Writes contents a b []
  took_nothing a b well stayed = took_some a b [] well (grows_by_none _ _ stayed)

  -- in the end all are written, or the writer has failed
  pub ends_written : (a b c : Watched W) (bytes : List ℕ) (at : ℕ) → HasWritten contents a b bytes at → c.inner ≡ b.inner → (HasFailed b → HasFailed c)
      → (c.failed ≡ false → length bytes ≤ at) → Writes contents a c bytes
  ends_written a b c bytes at h same still all =
      record {
        front = record {
          front = take at bytes;
          rest = drop at bytes;
          is = sym (take-append-drop at bytes);
          added = subst (λ (w : W). Appends (contents a.inner) (contents w) (take at bytes)) (sym same) h.added;
        };
        whole = λ well. subst (λ (w : W). Appends (contents a.inner) (contents w) bytes) (sym same)
            (subst (Appends _ _) (take_all at bytes (all well)) h.added);
        kept = λ failed. subst (λ (w : W). Keeps (contents a.inner) (contents w)) (sym same) (h.kept failed);
        still = λ failed. still (h.still failed);
      }
