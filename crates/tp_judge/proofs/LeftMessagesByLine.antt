-- What is told as left, line by line.
use Rattle.std.proofs.Common.{◌≡◌, ◌≢◌, inl, inr, ℕ, zero, suc, ◌+◌, ◌<◌, ◌≤◌, Option, Some, None, List, [], ◌∷◌, ◌++◌}
use Rattle.std.proofs.Common.{length, get_or, take, drop, refl, ap, sym, ◌∙◌, append-nil, Bor, arith}
use Rattle.std.specs.Prelude.{slice_get}
use Rattle.std.specs.Option.{option_to_list}
use Rattle.std.specs.declared.vec.Vec.{Vec}
use Rattle.std.specs.declared.alloc.Global.{Global}
use Rattle.std.proofs.lemmas.Bool.{cases_eq}
use Rattle.std.proofs.lemmas.List.{length-take-le, take-append-drop, take_all}
use Rattle.std.proofs.lemmas.Option.{same_Some, slice_get_within}
use Rattle.tp_common.specs.declared.event.Env.{Env}
use Rattle.tp_common.specs.declared.event.Event.{Event}
use Rattle.tp_queue.specs.History.{queued}
use Rattle.tp_judge.specs.declared.line.MessageId.{MessageId}
use Rattle.tp_judge.specs.declared.line.Mention.{Mention}
use Rattle.tp_judge.specs.declared.line.Act.{Act}
use Rattle.tp_judge.specs.declared.line.Act.TheVariants as act
use Rattle.tp_judge.specs.declared.line.IndexedLine.{IndexedLine}
use Rattle.tp_judge.specs.declared.place.Rule.TheVariants as rule
use Rattle.tp_judge.specs.LinesByNumber.{lines_at}
use Rattle.tp_judge.specs.Lines.{left_of}
use Rattle.tp_judge.specs.Rules.{left_in}
use Rattle.tp_judge.specs.Lawful.{IsCloserNumber, IsCloserOf, IsLeftBroken, IsNoEndBefore, IsToldFirst}
use Rattle.tp_judge.specs.PortRows.{AreClosers}
use Rattle.tp_judge.proofs.LinesNameOneParcel.{length-seen}
use Rattle.tp_judge.proofs.ReferencedLinesGrowth.{filter_map-more, seen_at, seen-take, take_got}

-- the lines so far tell so many of the queue
pub record TellsFirst (q : List (Env MessageId)) (left : List (Bor IndexedLine)) (i told : ℕ) : Type 0 where
  pub within : told ≤ length q
  pub so_far : left_in (lines_at (take i left)) ≡ take told q

pub tells_one : (q : List (Env MessageId)) (left : List (Bor IndexedLine)) (i told : ℕ) (d : Bor IndexedLine) (e : Env MessageId)
    → i < length left → TellsFirst q left i told → left_of (get_or left i d).now.act ≡ Some e → slice_get q told ≡ Some e
    → TellsFirst q left (i + 1) (told + 1)
tells_one q left i told d e within was says is =
    let below = slice_get_within q told e is in
    record {
      within = omega arith;
      so_far =
          filter_map-more (λ line. left_of line.act) left i d within
          ∙ ap (λ l. l ++ option_to_list (left_of (get_or left i d).now.act)) was.so_far
          ∙ ap (λ o. take told q ++ option_to_list o) says
          ∙ sym (take_got q told e is);
    }

pub tells_none : (q : List (Env MessageId)) (left : List (Bor IndexedLine)) (i told : ℕ) (d : Bor IndexedLine)
    → i < length left → TellsFirst q left i told → left_of (get_or left i d).now.act ≡ None → TellsFirst q left (i + 1) told
tells_none q left i told d within was says = record {
  within = was.within;
  so_far =
      filter_map-more (λ line. left_of line.act) left i d within
      ∙ ap (λ l. l ++ option_to_list (left_of (get_or left i d).now.act)) was.so_far
      ∙ ap (λ o. take told q ++ option_to_list o) says
      ∙ append-nil (take told q);
}

-- a front of the queue is what is queued first
pub told_first : (h : List (Event MessageId)) (left : List IndexedLine) (told : ℕ) → left_in left ≡ take told (queued h) → IsToldFirst h left
told_first h left told is =
    (drop told (queued h), ap (λ l. l ++ drop told (queued h)) is ∙ take-append-drop told (queued h))

pub tells_wrong : (h : List (Event MessageId)) (left : List (Bor IndexedLine)) (closing : List IndexedLine) (i told : ℕ) (d : Bor IndexedLine) (closer : IndexedLine) (e : Env MessageId)
    → slice_get closing 0 ≡ Some closer → i < length left → TellsFirst (queued h) left i told
    → left_of (get_or left i d).now.act ≡ Some e → slice_get (queued h) told ≢ Some e
    → IsLeftBroken h (lines_at left) closing (record { line = (get_or left i d).now.number; rule = rule.Left })
tells_wrong h left closing i told d closer e closed within was says wrong =
    let so_far = was.within in
    let count : length (left_in (take i (lines_at left))) ≡ told =
    ap (λ l. length (left_in l)) (seen-take i left) ∙ ap length was.so_far ∙ length-take-le told (queued h) so_far in
    record {
      rule_is = refl;
      how = inl (record {
        closer = closer;
        closed = closed;
        before = i;
        line = (get_or left i d).now;
        stands = seen_at left i d within;
        told = refl;
        right = told_first h (take i (lines_at left)) told (ap left_in (seen-take i left) ∙ was.so_far);
        env = e;
        says = says;
        wrong = λ is. wrong (ap (slice_get (queued h)) (sym count) ∙ is);
      });
    }

pub tells_missing : (h : List (Event MessageId)) (left : List (Bor IndexedLine)) (closing : List IndexedLine) (i told closer : ℕ)
    → IsCloserNumber closing closer → length left ≤ i → TellsFirst (queued h) left i told → told < length (queued h)
    → IsLeftBroken h (lines_at left) closing (record { line = closer; rule = rule.Left })
tells_missing h left closing i told closer closes long was fewer =
    let said : left_in (lines_at left) ≡ take told (queued h) = ap (λ l. left_in (lines_at l)) (sym (take_all i left long)) ∙ was.so_far in
    let so_far = was.within in
    let count = ap length said ∙ length-take-le told (queued h) so_far in
    record {
      rule_is = refl;
      how = inr (record { closes = closes; right = told_first h (lines_at left) told said; missing = omega arith });
    }

-- a line that isn't one of these tells nothing
pub not_left : (a : Act) → ((m : Mention) → a ≡ act.Left m → ⊥) → left_of a ≡ None
not_left (act.Left m) none = absurd (none m refl)
not_left _ none = refl

-- one line more doesn't say that the component ended
pub no_end_more : (closing : List (Bor IndexedLine)) (i : ℕ) (d : Bor IndexedLine) → i < length closing → IsNoEndBefore (lines_at closing) i
    → (get_or closing i d).now.act ≢ act.End → IsNoEndBefore (lines_at closing) (i + 1)
no_end_more closing i d within was here k line below stands = elim (cases_eq k i) [
  | inl same ↦
      λ is. here (ap (λ (l : IndexedLine). l.act)
      (same_Some (get_or closing i d).now line (sym (seen_at closing i d within) ∙ ap (slice_get (lines_at closing)) (sym same) ∙ stands)) ∙ is)
  | inr apart ↦ was k line (omega arith) stands
]

-- it says so
pub closer_here : (closing : List (Bor IndexedLine)) (i : ℕ) (d : Bor IndexedLine) → i < length closing → IsNoEndBefore (lines_at closing) i
    → (get_or closing i d).now.act ≡ act.End → IsCloserNumber (lines_at closing) (get_or closing i d).now.number
closer_here closing i d within was is =
    ((get_or closing i d).now, record { place = i; at = seen_at closing i d within; none_before = was; which = inl is }, refl)

-- none does
pub closer_last : (closing : List (Bor IndexedLine)) (i : ℕ) (d : Bor IndexedLine) → i + 1 ≡ length closing → IsNoEndBefore (lines_at closing) (length closing)
    → IsCloserNumber (lines_at closing) (get_or closing i d).now.number
closer_last closing i d last was =
    let count = length-seen closing in (
      (get_or closing i d).now,
      record {
        place = i;
        at = seen_at closing i d (omega arith);
        none_before = λ k line below. was k line (omega arith);
        which = inr (λ k line below. was k line (omega arith), last ∙ sym count);
      },
      refl,
    )

-- which line closes the section of this number
pub closer_at : (rows : List (Vec (Bor IndexedLine) Global)) (closers : List (Option ℕ)) (k : ℕ) (row : Vec (Bor IndexedLine) Global) (closer : Option ℕ)
    → AreClosers rows closers → k < length rows → IsCloserOf (lines_at (get_or rows k row).items) (get_or closers k closer)
closer_at [] closers k row closer z below = absurd (omega (arith, below))
closer_at (r ∷ rows) [] k row closer z below = absurd z
closer_at (r ∷ rows) (c ∷ closers) zero row closer z below = z.0
closer_at (r ∷ rows) (c ∷ closers) (suc k) row closer z below = closer_at rows closers k row closer z.1 (omega (arith, below))
