-- How a trace grows with its history.
use Rattle.std.proofs.Common.{rules, ◌≡◌, true, false, List, [], ◌∷◌, ◌++◌, Contains, suc, sym, refl}
use Rattle.std.proofs.lemmas.List.{append_assoc, append-nil}
use Rattle.tp_inbox.specs.declared.entry.Entry.{Entry}
use Rattle.tp_inbox.specs.History.{is_arrival}
use Rattle.tp_behaviour.specs.Moments.{own, moments, moments_after}

-- the moments of a longer history are those of the shorter one, and then those of what is added
pub moments_after-append : (past xs ys : List Entry) → moments_after past (xs ++ ys) ≡ moments_after past xs ++ moments_after (past ++ xs) ys
moments_after-append past [] ys = rw (append-nil past) refl
moments_after-append past (x ∷ xs) ys =
    rw (moments_after-append (past ++ x ∷ []) xs ys)
    (rw (append_assoc past (x ∷ []) xs)
    (sym (append_assoc (own past x) (moments_after (past ++ x ∷ []) xs) (moments_after (past ++ x ∷ xs) ys))))

-- the moments of a history that grew
pub moments-append : (k es : List Entry) → moments (k ++ es) ≡ moments k ++ moments_after k es
moments-append k es = unfold moments in moments_after-append [] k es

-- an entry that is no arrival is one moment more
pub moments-own : (k : List Entry) (e : Entry) → is_arrival e ≡ false → moments (k ++ e ∷ []) ≡ moments k ++ record { before = k; entry = e } ∷ []
moments-own k e is = rw (moments-append k (e ∷ [])) (rw is refl)

-- arrivals make no moment
pub moments_after-arrivals : (past es : List Entry) → ((e : Entry) → Contains es e → is_arrival e ≡ true) → moments_after past es ≡ []
moments_after-arrivals past [] are = refl
moments_after-arrivals past (e ∷ es) are =
    rw (are e (0, search rules, refl)) (moments_after-arrivals (past ++ e ∷ []) es (λ x c. are x (suc c.0, search rules, c.2)))

pub moments-arrivals : (k es : List Entry) → ((e : Entry) → Contains es e → is_arrival e ≡ true) → moments (k ++ es) ≡ moments k
moments-arrivals k es are = rw (moments-append k es) (rw (moments_after-arrivals k es are) (append-nil (moments k)))
