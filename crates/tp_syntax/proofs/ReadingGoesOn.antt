-- What was read up to a rule goes on with what is read of it.
use Rattle.std.proofs.Common.{◌≡◌, ℕ, Bool, true, false, List, [], ◌∷◌, ◌++◌, Some, Result, Ok, map, refl, ap, sym, subst, ◌∙◌, append_assoc, append-nil}
use Rattle.std.proofs.lemmas.Bool.{false≢true}
use Rattle.std.proofs.lemmas.List.{map-append}
use Rattle.std.specs.Result.{IsErrAnd}
use Rattle.std.proofs.lemmas.Result.{err_from_is_err_and}
use Rattle.tp_syntax.specs.Lexeme.{PlacedLexeme}
use Rattle.tp_syntax.specs.declared.token.Symbol.TheVariants.{Semicolon, RightBrace}
use Rattle.tp_syntax.specs.declared.cursor.Parser.{Parser}
use Rattle.tp_syntax.specs.declared.stuck.Stuck.{Stuck}
use Rattle.tp_syntax.specs.declared.stuck.Stuck.TheVariants.{Memory}
use Rattle.tp_syntax.specs.Item.{Item, token, rule, of_symbol, Guarded, Choice, accepts, next}
use Rattle.tp_syntax.specs.Rule.{Rule, closing}
use Rattle.tp_syntax.specs.Grammar.{production, notes_line}
use Rattle.tp_syntax.specs.Reading.{Tree, Trees, Reads, ReadsChoice, ReadsAll, Fails, FailsChoice, FailsAll, reads_rule, reads_this, reads_other, reads_else, reads_none, reads_more, fails_memory, fails_rule, fails_this, fails_other, fails_else, fails_here, fails_later, line_ahead, sym as symbol_leaf}
use Rattle.tp_syntax.specs.Parsing.{left, Frame, HasEnd, frame, with_last, under, Leads, LeadsChoice, LeadsAll, leads_here, leads_rule, leads_this, leads_other, leads_else, leads_last, leads_more, Goes, ParsesAll, Ends, Enters, all_frames, listed, ended, enter, end_frames, part_or_end, closing_tree}
use Rattle.tp_syntax.proofs.StepsOfReading.{parsing}

mutual
  pub leads_reads : {r q : Rule} {ts us rest : List PlacedLexeme} {fs : List Frame} {t : Tree}
      → Leads r ts fs q us → Reads (rule q) us t rest → Reads (rule r) ts (under fs t) rest
  leads_reads leads_here h = h
  leads_reads (leads_rule l c) h = reads_rule l (choice_reads c h)

  choice_reads : {gs : List Guarded} {otherwise : List Item} {q : Rule} {ts us rest : List PlacedLexeme} {trees : List Tree} {fs : List Frame} {t : Tree}
      → LeadsChoice gs otherwise ts trees fs q us → Reads (rule q) us t rest → ReadsChoice gs otherwise ts (with_last trees (under fs t)) rest
  choice_reads (leads_this e c) h = reads_this e (all_reads c h)
  choice_reads (leads_other e c) h = reads_other e (choice_reads c h)
  choice_reads (leads_else c) h = reads_else (all_reads c h)

  all_reads : {bound : List ℕ} {is : List Item} {q : Rule} {ts us rest : List PlacedLexeme} {trees : List Tree} {fs : List Frame} {t : Tree}
      → LeadsAll bound is ts trees fs q us → Reads (rule q) us t rest → ReadsAll bound is ts (with_last trees (under fs t)) rest
  all_reads (leads_last c) h = reads_more (leads_reads c h) reads_none
  all_reads (leads_more k c) h = reads_more k (all_reads c h)

mutual
  pub leads_fails : {r q : Rule} {ts us : List PlacedLexeme} {fs : List Frame} {e : Stuck}
      → Leads r ts fs q us → Fails (rule q) us e → Fails (rule r) ts e
  leads_fails leads_here h = h
  leads_fails (leads_rule l c) h = fails_rule (choice_fails c h)

  choice_fails : {gs : List Guarded} {otherwise : List Item} {q : Rule} {ts us : List PlacedLexeme} {trees : List Tree} {fs : List Frame} {e : Stuck}
      → LeadsChoice gs otherwise ts trees fs q us → Fails (rule q) us e → FailsChoice gs otherwise ts e
  choice_fails (leads_this g c) h = fails_this g (all_fails c h)
  choice_fails (leads_other g c) h = fails_other g (choice_fails c h)
  choice_fails (leads_else c) h = fails_else (all_fails c h)

  all_fails : {bound : List ℕ} {is : List Item} {q : Rule} {ts us : List PlacedLexeme} {trees : List Tree} {fs : List Frame} {e : Stuck}
      → LeadsAll bound is ts trees fs q us → Fails (rule q) us e → FailsAll bound is ts e
  all_fails (leads_last c) h = fails_here (leads_fails c h)
  all_fails (leads_more k c) h = fails_later k (all_fails c h)

mutual
  pub leads_on : {r q s : Rule} {ts us ws : List PlacedLexeme} {fs gs : List Frame}
      → Leads r ts fs q us → Leads q us gs s ws → Leads r ts (fs ++ gs) s ws
  leads_on leads_here h = h
  leads_on (leads_rule l c) h = leads_rule l (choice_on c h)

  choice_on : {g : List Guarded} {otherwise : List Item} {q s : Rule} {ts us ws : List PlacedLexeme} {trees : List Tree} {fs gs : List Frame}
      → LeadsChoice g otherwise ts trees fs q us → Leads q us gs s ws → LeadsChoice g otherwise ts trees (fs ++ gs) s ws
  choice_on (leads_this e c) h = leads_this e (all_on c h)
  choice_on (leads_other e c) h = leads_other e (choice_on c h)
  choice_on (leads_else c) h = leads_else (all_on c h)

  all_on : {bound : List ℕ} {is : List Item} {q s : Rule} {ts us ws : List PlacedLexeme} {trees : List Tree} {fs gs : List Frame}
      → LeadsAll bound is ts trees fs q us → Leads q us gs s ws → LeadsAll bound is ts trees (fs ++ gs) s ws
  all_on (leads_last c) h = leads_last (leads_on c h)
  all_on (leads_more k c) h = leads_more k (all_on c h)

-- what a function of the parser answers
pub goes_ok : {A : Type 0} {r : Rule} {frames : A → List Frame} {onto : A → Rule} {p q : Parser} {x : A}
    → Leads r (left p) (frames x) (onto x) (left q) → Goes r frames onto p (Ok x) q
goes_ok h = record { gone = h }

-- what is handed on by `?`
pub goes_handed : {A : Type 0} {r : Rule} {frames : A → List Frame} {onto : A → Rule} {p q : Parser} {result : Result A Stuck} {e : Stuck}
    → IsErrAnd result (λ made. made ≡ e) → Fails (rule r) (left p) e → Goes r frames onto p result q
goes_handed {A} {r} {frames} {onto} {p} {q} {result} {e} made h =
    let k = err_from_is_err_and result made in
    subst (λ (x : Result A Stuck). Goes r frames onto p x q) (sym k.1)
    (record { gone = subst (λ (x : Stuck). Fails (rule r) (left p) x) (sym k.2) h })

pub goes_memory : {A : Type 0} {r : Rule} {frames : A → List Frame} {onto : A → Rule} {p q : Parser} {result : Result A Stuck}
    → IsErrAnd result (λ made. made ≡ Memory) → Goes r frames onto p result q
goes_memory made = goes_handed made fails_memory

pub all_ok : {A : Type 0} {is : List Item} {view : A → Trees} {p q : Parser} {x : A}
    → ReadsAll [] is (left p) (view x) (left q) → ParsesAll is view p (Ok x) q
all_ok h = record { parsed = h }

pub all_handed : {A : Type 0} {is : List Item} {view : A → Trees} {p q : Parser} {result : Result A Stuck} {e : Stuck}
    → IsErrAnd result (λ made. made ≡ e) → FailsAll [] is (left p) e → ParsesAll is view p result q
all_handed {A} {is} {view} {p} {q} {result} {e} made h =
    let k = err_from_is_err_and result made in
    subst (λ (x : Result A Stuck). ParsesAll is view p x q) (sym k.1)
    (record { parsed = subst (λ (x : Stuck). FailsAll [] is (left p) x) (sym k.2) h })

-- a rule that notes its line
pub leads_noted : {r q : Rule} {ts us : List PlacedLexeme} {line : ℕ} {trees : List Tree} {fs : List Frame} → line ≡ line_ahead ts
    → notes_line r ≡ true → LeadsChoice (production r).guarded (production r).otherwise ts trees fs q us → Leads r ts (frame r (Some line) trees ∷ fs) q us
leads_noted e n c = leads_rule (rw (e, n) refl) c

-- one more part of a list
frames_push : {A : Type 0} (f : A → List Frame) (xs : List A) (x : A) → all_frames f (xs ++ x ∷ []) ≡ all_frames f xs ++ f x
frames_push f [] x = simp append-nil
frames_push f (y ∷ xs) x = ap (λ (fs : List Frame). f y ++ fs) (frames_push f xs x) ∙ sym (append_assoc (f y) (all_frames f xs) (f x))

-- a list with one more part
pub grown : {A B : Type 0} (view : A → B) (f : B → List Frame) (hs : List Frame) (xs ys : List A) (x : A) {r a b : Rule} {ts us ws : List PlacedLexeme}
    → ys ≡ xs ++ x ∷ [] → Leads r ts (hs ++ all_frames f (map view xs)) a us → Leads a us (f (view x)) b ws
    → Leads r ts (hs ++ all_frames f (map view ys)) b ws
grown {A} {B} view f hs xs ys x {r} {b = b} {ts = ts} {ws = ws} e so h =
    let k : all_frames f (map view ys) ≡ all_frames f (map view xs) ++ f (view x) =
    ap (all_frames f) (ap (map view) e ∙ map-append view xs (x ∷ [])) ∙ frames_push f (map view xs) (view x) in
    subst (λ (fs : List Frame). Leads r ts fs b ws)
    (append_assoc hs (all_frames f (map view xs)) (f (view x)) ∙ ap (λ (fs : List Frame). hs ++ fs) (sym k))
    (leads_on so h)

-- the end of a list, and what fails within it
pub list_ended : {r : Rule} {ts us rest : List PlacedLexeme} {fs : List Frame} (part : Rule) (b : Bool) → Leads r ts fs (part_or_end part b) us → b ≡ false
    → Reads (rule closing) us closing_tree rest → Reads (rule r) ts (under fs closing_tree) rest
list_ended part true so n h = absurd (false≢true (sym n))
list_ended part false so n h = leads_reads so h

pub list_unended : {r : Rule} {ts us : List PlacedLexeme} {fs : List Frame} {e : Stuck} (part : Rule) (b : Bool) → Leads r ts fs (part_or_end part b) us
    → b ≡ false → Fails (rule closing) us e → Fails (rule r) ts e
list_unended part true so n h = absurd (false≢true (sym n))
list_unended part false so n h = leads_fails so h

pub list_fails : {r : Rule} {ts us : List PlacedLexeme} {fs : List Frame} {e : Stuck} (part : Rule) (b : Bool) → Leads r ts fs (part_or_end part b) us
    → b ≡ true → Fails (rule part) us e → Fails (rule r) ts e
list_fails part true so n h = leads_fails so h
list_fails part false so n h = absurd (false≢true n)

pub list_on : {r : Rule} {ts us : List PlacedLexeme} {fs : List Frame} (part : Rule) (b : Bool) → Leads r ts fs (part_or_end part b) us → b ≡ true
    → Leads r ts fs part us
list_on part true so n = so
list_on part false so n = absurd (false≢true n)

-- whether a list goes on
pub enters_end : {p : Parser} {r : Bool} → accepts (of_symbol RightBrace) (next (left p)) ≡ r → r ≡ true → Enters p false
enters_end {p} a n = record {
  entered = λ l q is silent. leads_rule (rw silent refl)
      (subst (λ (c : Choice). LeadsChoice c.guarded c.otherwise (left p) [] [] closing (left p)) (sym is) (leads_this (a ∙ n) (leads_last leads_here)));
}

pub enters_part : {p : Parser} {r : Bool} → accepts (of_symbol RightBrace) (next (left p)) ≡ r → r ≡ false → Enters p true
enters_part {p} a n = record {
  entered = λ l q is silent. leads_rule (rw silent refl)
      (subst (λ (c : Choice). LeadsChoice c.guarded c.otherwise (left p) [] [] q (left p)) (sym is) (leads_other (a ∙ n) (leads_else (leads_last leads_here))));
}

pub ends_on : {p q : Parser} {r b : Bool} → accepts (of_symbol Semicolon) (next (left p)) ≡ r → r ≡ true
    → Reads (token (of_symbol Semicolon)) (left p) (symbol_leaf Semicolon) (left q) → Enters q b → Ends p (record { has_semicolon = true; is_open = b }) q
ends_on {p} {q} {b = b} a n h k = record {
  ended = λ r l part is listing silent quiet. leads_rule (rw silent refl)
      (subst (λ (c : Choice). LeadsChoice c.guarded c.otherwise (left p) (symbol_leaf Semicolon ∷ []) (enter l) (part_or_end part b) (left q)) (sym is)
      (leads_this (a ∙ n) (leads_more h (leads_last (k.entered l part listing quiet)))));
}

pub ends_here : {p : Parser} {r : Bool} → accepts (of_symbol Semicolon) (next (left p)) ≡ r → r ≡ false
    → Ends p (record { has_semicolon = false; is_open = false }) p
ends_here {p} a n = record {
  ended = λ r l part is listing silent quiet. leads_rule (rw silent refl)
      (subst (λ (c : Choice). LeadsChoice c.guarded c.otherwise (left p) [] [] closing (left p)) (sym is)
      (leads_other (a ∙ n) (leads_else (leads_last leads_here))));
}

pub has_end : {p q : Parser} {r : Bool} → accepts (of_symbol Semicolon) (next (left p)) ≡ r → r ≡ true
    → Reads (token (of_symbol Semicolon)) (left p) (symbol_leaf Semicolon) (left q) → HasEnd p true q
has_end {p} {q} a n h = record {
  ended = λ r l is silent. leads_rule (rw silent refl)
      (subst (λ (c : Choice). LeadsChoice c.guarded c.otherwise (left p) (symbol_leaf Semicolon ∷ []) [] l (left q)) (sym is)
      (leads_this (a ∙ n) (leads_more h (leads_last leads_here))));
}

pub has_no_end : {p : Parser} {r : Bool} → accepts (of_symbol Semicolon) (next (left p)) ≡ r → r ≡ false → HasEnd p false p
has_no_end {p} a n = record {
  ended = λ r l is silent. leads_rule (rw silent refl)
      (subst (λ (c : Choice). LeadsChoice c.guarded c.otherwise (left p) [] [] closing (left p)) (sym is)
      (leads_other (a ∙ n) (leads_else (leads_last leads_here))));
}

pub ruleset all_parsing = (parsing, all_ok, all_handed)

pub ruleset leading =
    (goes_ok, goes_handed, goes_memory, leads_here, leads_rule, leads_noted, leads_this, leads_other, leads_else, leads_last, leads_more, enters_end, enters_part, ends_on, ends_here, has_end, has_no_end)
