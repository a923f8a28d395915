-- Line by line, the sections are numbered.
use Rattle.std.proofs.Common.{◌≡◌, ℕ, zero, suc, ◌<◌, ◌≤◌, ◌+◌, ◌*◌, true, Some, List, [], ◌∷◌, ◌++◌, length, take}
use Rattle.std.proofs.Common.{drop, slice_get, refl, ap, sym, ◌∙◌, subst, arith, append_assoc, append-nil}
use Rattle.std.specs.List.{AllZip}
use Rattle.std.proofs.lemmas.List.Sums.{fold_push}
use Rattle.std.proofs.lemmas.Option.{slice_get_within}
use Rattle.tp_judge.specs.declared.referee.form.TracePosition.TheVariants as stand
use Rattle.tp_judge.specs.LineTexts.{Told, begins, passed, operated, otherwise, remarked, ended, resulted}
use Rattle.tp_judge.specs.Tree.{IsTrace, may_stand, names_of, place_behind, place_after}
use Rattle.tp_judge.specs.declared.line.IndexedLine.{IndexedLine}
use Rattle.tp_judge.specs.declared.referee.tables.Tables.{Tables}
use Rattle.tp_judge.specs.Kept.{Keeps}
use Rattle.tp_judge.specs.Numbering.{IsComponentNumber, IsLine, Stand, stands_from, stands_of}
use Rattle.tp_judge.specs.Turns.{KeepsNumbers, IsAdded, IsInside, IsTurn, size}
use Rattle.tp_judge.proofs.NumberTableGrowth.{lines_grow}
use Rattle.tp_judge.proofs.ZippedPrefixGrowth.{drop_here, take_next, zip_push}

-- the lines below this place are numbered, and where the next stands in a section, it is that of the component `here`
pub record Numbered (tolds : List Told) (place : ℕ) (t : Tables) (here : ℕ) (lines : List IndexedLine) : Type 0 where
  pub done : List Stand
  pub name : List ℕ
  pub cut : stands_of tolds ≡ done ++ stands_from name (place + 1) (drop place tolds)
  pub zipped : AllZip (IsLine t) done lines
  pub section : (told : Told) → slice_get tolds place ≡ Some told → IsInside told → IsComponentNumber t here name
  pub sections : Keeps (names_of tolds) t.components
  pub few : size t ≤ length tolds + 5 * place

not_in_front : (told : Told) → may_stand stand.Front told ≡ true → IsInside told → ⊥
not_in_front (begins name) m h = h
not_in_front (passed fate letter) m h = absurd (cc)
not_in_front (operated o port) m h = absurd (cc)
not_in_front otherwise m h = absurd (cc)
not_in_front (remarked n word) m h = absurd (cc)
not_in_front (ended words) m h = absurd (cc)
not_in_front (resulted word) m h = h

names_few : (tolds : List Told) → length (names_of tolds) ≤ length tolds
names_few [] = omega arith
names_few (begins name ∷ tolds) = let few = names_few tolds in omega arith
names_few (passed fate letter ∷ tolds) = let few = names_few tolds in omega arith
names_few (operated o port ∷ tolds) = let few = names_few tolds in omega arith
names_few (otherwise ∷ tolds) = let few = names_few tolds in omega arith
names_few (remarked n word ∷ tolds) = let few = names_few tolds in omega arith
names_few (ended words ∷ tolds) = let few = names_few tolds in omega arith
names_few (resulted word ∷ tolds) = let few = names_few tolds in omega arith

pub Numbered-first : (tolds : List Told) (t : Tables) (here : ℕ) (lines : List IndexedLine) → IsTrace tolds → t.components ≡ names_of tolds
    → size t ≡ length (names_of tolds) → lines ≡ [] → Numbered tolds 0 t here lines
Numbered-first tolds t here lines trace same none empty = record {
  done = [];
  name = [];
  cut = refl;
  zipped = subst (λ (l : List IndexedLine). AllZip (IsLine t) [] l) (sym empty) tt;
  section = λ told e inside. absurd (not_in_front told (trace 0 told e).fits inside);
  sections = subst (Keeps (names_of tolds)) (sym same) (λ k x e. e);
  few = let most = names_few tolds in omega (arith, none);
}

-- after the result stands nothing
nothing_behind : (tolds : List Told) (place : ℕ) (word : List ℕ) → IsTrace tolds → slice_get tolds place ≡ Some (resulted word)
    → (told : Told) → slice_get tolds (place + 1) ≡ Some told → ⊥
nothing_behind tolds place word trace at told e =
    let before : place_behind (take (place + 1) tolds) ≡ stand.Behind =
    ap place_behind (take_next tolds place (resulted word) at) ∙ fold_push (λ _ told. place_after told) stand.Front (take place tolds) (resulted word) in
    let fits : may_stand stand.Behind told ≡ true = ap (λ p. may_stand p told) (sym before) ∙ (trace (place + 1) told e).fits in
    cc

module _ (tolds : List Told) (place : ℕ) (old new : Tables) (here after : ℕ) (lines more : List IndexedLine) (trace : IsTrace tolds) (g : KeepsNumbers 5 old new)
    (was : Numbered tolds place old here lines) where
  few_more : size new ≤ length tolds + 5 * (place + 1)
  few_more = omega (arith, g.few, was.few)

  still_sections : Keeps (names_of tolds) new.components
  still_sections = λ k x e. g.components k x (was.sections k x e)

  begun : (name : List ℕ) → slice_get tolds place ≡ Some (begins name) → IsComponentNumber new after name → more ≡ lines → Numbered tolds (place + 1) new after more
  begun name at here_is same = record {
    done = was.done;
    name = name;
    cut = was.cut ∙ ap (λ l. was.done ++ stands_from was.name (place + 1) l) (drop_here tolds place (begins name) at);
    zipped = subst (λ (l : List IndexedLine). AllZip (IsLine new) was.done l) (sym same) (lines_grow 5 old new g was.done lines was.zipped);
    section = λ told e inside. here_is;
    sections = still_sections;
    few = few_more;
  }

  closed : (word : List ℕ) → slice_get tolds place ≡ Some (resulted word) → more ≡ lines → Numbered tolds (place + 1) new after more
  closed word at same = record {
    done = was.done;
    name = was.name;
    cut = was.cut ∙ ap (λ l. was.done ++ stands_from was.name (place + 1) l) (drop_here tolds place (resulted word) at);
    zipped = subst (λ (l : List IndexedLine). AllZip (IsLine new) was.done l) (sym same) (lines_grow 5 old new g was.done lines was.zipped);
    section = λ told e inside. absurd (nothing_behind tolds place word trace at told e);
    sections = still_sections;
    few = few_more;
  }

  stood : (told : Told) → slice_get tolds place ≡ Some told → IsInside told
      → stands_from was.name (place + 1) (told ∷ drop (place + 1) tolds)
      ≡ record { component = was.name; number = place + 1; told = told } ∷ stands_from was.name (place + 1 + 1) (drop (place + 1) tolds)
      → IsAdded new here (place + 1) told after lines more → Numbered tolds (place + 1) new after more
  stood told at inside step added =
      let s : Stand = record { component = was.name; number = place + 1; told = told } in
      let rest = stands_from was.name (place + 1 + 1) (drop (place + 1) tolds) in
      let known : IsComponentNumber new here was.name = g.components _ _ (was.section told at inside) in
      record {
        done = was.done ++ s ∷ [];
        name = was.name;
        cut = was.cut ∙ ap (λ l. was.done ++ stands_from was.name (place + 1) l) (drop_here tolds place told at) ∙ ap (λ l. was.done ++ l) step
            ∙ sym (append_assoc was.done (s ∷ []) rest);
        zipped = subst (λ (l : List IndexedLine). AllZip (IsLine new) (was.done ++ s ∷ []) l) (sym added.added)
            (zip_push (IsLine new) was.done lines s (record { number = place + 1; component = here; act = added.act })
            (lines_grow 5 old new g was.done lines was.zipped) (record { number = refl; section = known; says = added.says }));
        section = λ next e in'. subst (λ n. IsComponentNumber new n was.name) (sym added.stays) known;
        sections = still_sections;
        few = few_more;
      }

  pub Numbered-more : (told : Told) → slice_get tolds place ≡ Some told → IsTurn new here (place + 1) told after lines more
      → Numbered tolds (place + 1) new after more
  Numbered-more (begins name) at turn = begun name at turn.0 turn.1
  Numbered-more (resulted word) at turn = closed word at turn.1
  Numbered-more (passed fate letter) at turn = stood (passed fate letter) at tt refl turn
  Numbered-more (operated o port) at turn = stood (operated o port) at tt refl turn
  Numbered-more otherwise at turn = stood otherwise at tt refl turn
  Numbered-more (remarked n word) at turn = stood (remarked n word) at tt refl turn
  Numbered-more (ended words) at turn = stood (ended words) at tt refl turn

drop_past : {X : Type 0} (xs : List X) (k : ℕ) → length xs ≤ k → drop k xs ≡ []
drop_past [] zero h = refl
drop_past [] (suc k) h = refl
drop_past (x ∷ xs) zero h = absurd (omega arith)
drop_past (x ∷ xs) (suc k) h = drop_past xs k (omega arith)

pub all_numbered : (tolds : List Told) (place : ℕ) (t : Tables) (here : ℕ) (lines : List IndexedLine) → length tolds ≤ place
    → Numbered tolds place t here lines → AllZip (IsLine t) (stands_of tolds) lines
all_numbered tolds place t here lines past was =
    let whole : stands_of tolds ≡ was.done =
    was.cut ∙ ap (λ l. was.done ++ stands_from was.name (place + 1) l) (drop_past tolds place past) ∙ append-nil was.done in
    subst (λ (l : List Stand). AllZip (IsLine t) l lines) (sym whole) was.zipped

-- the component of a line that stands in a section has a number
pub known_here : (tolds : List Told) (place : ℕ) (t : Tables) (here : ℕ) (lines : List IndexedLine) (told : Told) → slice_get tolds place ≡ Some told
    → Numbered tolds place t here lines → IsInside told → here < length t.components
known_here tolds place t here lines told at was inside = slice_get_within t.components here was.name (was.section told at inside)
