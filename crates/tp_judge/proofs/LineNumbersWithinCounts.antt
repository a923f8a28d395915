-- The numbers of the lines are within the counts.
use Rattle.std.proofs.Common.{◌≡◌, ℕ, ◌<◌, ◌≤◌, ◌+◌, Option, List, [], ◌∷◌, length, map, get_or, All, ap, sym, ◌∙◌}
use Rattle.std.proofs.Common.{subst, arith}
use Rattle.std.specs.Prelude.{IfSome}
use Rattle.std.specs.List.{AllZip}
use Rattle.std.proofs.lemmas.List.{length-map}
use Rattle.std.proofs.lemmas.Option.{slice_get_within, slice_get-get_or}
use Rattle.std.proofs.lemmas.List.Elements.{All-nil, All-cons, All-map}
use Rattle.tp_common.specs.declared.operation.PortOperation.{PortOperation}
use Rattle.tp_common.specs.declared.operation.PortOperation.TheVariants as operation
use Rattle.tp_judge.specs.declared.referee.line.MessageVerb.{MessageVerb}
use Rattle.tp_judge.specs.declared.referee.line.MessageVerb.TheVariants as fate
use Rattle.tp_judge.specs.LineTexts.{Told, begins, passed, operated, otherwise, remarked, ended, resulted}
use Rattle.tp_judge.specs.declared.line.Mention.{Mention}
use Rattle.tp_judge.specs.declared.line.Act.{Act}
use Rattle.tp_judge.specs.declared.line.Act.TheVariants as act
use Rattle.tp_judge.specs.declared.line.By.TheVariants as by
use Rattle.tp_judge.specs.declared.line.IndexedLine.{IndexedLine}
use Rattle.tp_judge.specs.declared.trace.IndexedTrace.{IndexedTrace}
use Rattle.tp_judge.specs.Lawful.{AreWithin}
use Rattle.tp_judge.specs.Lines.{HasKeyBelow, came_route, closed_by, event_port, left_port, sent_route}
use Rattle.tp_judge.specs.declared.referee.tables.PortKey.{PortKey}
use Rattle.tp_judge.specs.declared.referee.tables.Tables.{Tables}
use Rattle.tp_judge.specs.Numbering.{IsAct, IsLine, IsNumberingOf, Stand, act_of, operation_act, stands_from}
use Rattle.tp_judge.specs.Numbering.{stands_of}
use Rattle.tp_judge.specs.Turns.{IsWhole}
use Rattle.tp_judge.proofs.ZippedPrefixGrowth.{zip_all}

abbrev Below : (Act → Option ℕ) → ℕ → Act → Type 0
Below key n a = IfSome (key a) (λ k. k < n)

-- a number that every mention and every operation has below the count, and no other line has
module _ (key : Act → Option ℕ) (n : ℕ) (t : Tables) (here : ℕ)
    (passing : (f : MessageVerb) (m : Mention) → m.port < length t.ports.keys → m.route < length t.routes.keys → Below key n (act_of f m))
    (operating : (o : PortOperation) (p : ℕ) → p < length t.ports.keys → Below key n (operation_act o p))
    (otherwise_not : Below key n act.Else) (end_not : Below key n act.End) (other_not : Below key n act.Other) where
  act_below : (told : Told) (a : Act) → IsAct t here told a → Below key n a
  act_below (begins name) a h = subst (Below key n) (sym h) other_not
  act_below (passed f letter) a h =
      subst (Below key n) (sym h.is)
      (passing f h.mention (slice_get_within t.ports.keys h.mention.port _ h.mentioned.port.there)
      (slice_get_within t.routes.keys h.mention.route _ h.mentioned.route))
  act_below (operated o name) a h = subst (Below key n) (sym h.is) (operating o h.port (slice_get_within t.ports.keys h.port _ h.there.there))
  act_below otherwise a h = subst (Below key n) (sym h) otherwise_not
  act_below (remarked remark word) a h = subst (Below key n) (sym h) other_not
  act_below (ended words) a h = subst (Below key n) (sym h) end_not
  act_below (resulted word) a h = subst (Below key n) (sym h) other_not

module _ (t : Tables) where
  events : (f : MessageVerb) (m : Mention) → m.port < length t.ports.keys → m.route < length t.routes.keys → Below event_port (length t.ports.keys) (act_of f m)
  events fate.Sent m p r = tt
  events fate.Came m p r = p
  events fate.Took m p r = p
  events fate.Found m p r = p
  events fate.Dropped m p r = p
  events fate.Left m p r = tt

  event_operations : (o : PortOperation) (p : ℕ) → p < length t.ports.keys → Below event_port (length t.ports.keys) (operation_act o p)
  event_operations operation.Start p h = h
  event_operations operation.Stop p h = h
  event_operations operation.Halt p h = h
  event_operations operation.Clear p h = h

  lefts : (f : MessageVerb) (m : Mention) → m.port < length t.ports.keys → m.route < length t.routes.keys → Below left_port (length t.ports.keys) (act_of f m)
  lefts fate.Sent m p r = tt
  lefts fate.Came m p r = tt
  lefts fate.Took m p r = tt
  lefts fate.Found m p r = tt
  lefts fate.Dropped m p r = tt
  lefts fate.Left m p r = p

  left_operations : (o : PortOperation) (p : ℕ) → p < length t.ports.keys → Below left_port (length t.ports.keys) (operation_act o p)
  left_operations operation.Start p h = tt
  left_operations operation.Stop p h = tt
  left_operations operation.Halt p h = tt
  left_operations operation.Clear p h = tt

  sents : (f : MessageVerb) (m : Mention) → m.port < length t.ports.keys → m.route < length t.routes.keys → Below sent_route (length t.routes.keys) (act_of f m)
  sents fate.Sent m p r = r
  sents fate.Came m p r = tt
  sents fate.Took m p r = tt
  sents fate.Found m p r = tt
  sents fate.Dropped m p r = tt
  sents fate.Left m p r = tt

  sent_operations : (o : PortOperation) (p : ℕ) → p < length t.ports.keys → Below sent_route (length t.routes.keys) (operation_act o p)
  sent_operations operation.Start p h = tt
  sent_operations operation.Stop p h = tt
  sent_operations operation.Halt p h = tt
  sent_operations operation.Clear p h = tt

  cames : (f : MessageVerb) (m : Mention) → m.port < length t.ports.keys → m.route < length t.routes.keys → Below came_route (length t.routes.keys) (act_of f m)
  cames fate.Sent m p r = tt
  cames fate.Came m p r = r
  cames fate.Took m p r = tt
  cames fate.Found m p r = tt
  cames fate.Dropped m p r = tt
  cames fate.Left m p r = tt

  came_operations : (o : PortOperation) (p : ℕ) → p < length t.ports.keys → Below came_route (length t.routes.keys) (operation_act o p)
  came_operations operation.Start p h = tt
  came_operations operation.Stop p h = tt
  came_operations operation.Halt p h = tt
  came_operations operation.Clear p h = tt

closed_below : (c n : ℕ) (a : Act) → c < n → IfSome (closed_by c a) (λ k. k < n)
closed_below c n (act.Left m) h = h
closed_below c n act.End h = h
closed_below c n _ h = tt

-- the numbers of lines grow from the first on
numbers_below : (name : List ℕ) (n m : ℕ) (tolds : List Told) → n + length tolds ≤ m → All (λ (s : Stand). s.number < m) (stands_from name n tolds)
numbers_below name n m [] h = All-nil (λ (s : Stand). s.number < m)
numbers_below name n m (begins other ∷ tolds) h = numbers_below other (n + 1) m tolds (omega arith)
numbers_below name n m (resulted word ∷ tolds) h = numbers_below name (n + 1) m tolds (omega arith)
numbers_below name n m (passed f letter ∷ tolds) h =
    All-cons (λ (s : Stand). s.number < m) _ _ (omega arith) (numbers_below name (n + 1) m tolds (omega arith))
numbers_below name n m (operated o port ∷ tolds) h =
    All-cons (λ (s : Stand). s.number < m) _ _ (omega arith) (numbers_below name (n + 1) m tolds (omega arith))
numbers_below name n m (otherwise ∷ tolds) h =
    All-cons (λ (s : Stand). s.number < m) _ _ (omega arith) (numbers_below name (n + 1) m tolds (omega arith))
numbers_below name n m (remarked remark word ∷ tolds) h =
    All-cons (λ (s : Stand). s.number < m) _ _ (omega arith) (numbers_below name (n + 1) m tolds (omega arith))
numbers_below name n m (ended words ∷ tolds) h =
    All-cons (λ (s : Stand). s.number < m) _ _ (omega arith) (numbers_below name (n + 1) m tolds (omega arith))

module _ (tolds : List Told) (t : Tables) (lines : List IndexedLine) (zipped : AllZip (IsLine t) (stands_of tolds) lines) where
  pub each_line : (P : IndexedLine → Type 0) → ((s : Stand) (l : IndexedLine) → IsLine t s l → P l) → All P lines
  each_line P f =
      zip_all (IsLine t) (λ (s : Stand). s.number < 1 + length tolds) P (λ s l h low. f s l h) (stands_of tolds) lines zipped
      (numbers_below [] 1 (1 + length tolds) tolds (omega arith))

  pub events_within : All (HasKeyBelow by.Port (length t.ports.keys)) lines
  events_within =
      each_line (HasKeyBelow by.Port (length t.ports.keys))
      (λ s l h. act_below event_port (length t.ports.keys) t l.component (events t) (event_operations t) tt tt tt s.told l.act h.says)

  pub left_within : All (HasKeyBelow by.Left (length t.ports.keys)) lines
  left_within =
      each_line (HasKeyBelow by.Left (length t.ports.keys))
      (λ s l h. act_below left_port (length t.ports.keys) t l.component (lefts t) (left_operations t) tt tt tt s.told l.act h.says)

  pub sent_within : All (HasKeyBelow by.Sent (length t.routes.keys)) lines
  sent_within =
      each_line (HasKeyBelow by.Sent (length t.routes.keys))
      (λ s l h. act_below sent_route (length t.routes.keys) t l.component (sents t) (sent_operations t) tt tt tt s.told l.act h.says)

  pub came_within : All (HasKeyBelow by.Came (length t.routes.keys)) lines
  came_within =
      each_line (HasKeyBelow by.Came (length t.routes.keys))
      (λ s l h. act_below came_route (length t.routes.keys) t l.component (cames t) (came_operations t) tt tt tt s.told l.act h.says)

  pub closing_within : All (HasKeyBelow by.Closing (length t.components)) lines
  closing_within =
      each_line (HasKeyBelow by.Closing (length t.components))
      (λ s l h. closed_below l.component (length t.components) l.act (slice_get_within t.components l.component s.component h.section))

  pub sections_within : All (HasKeyBelow by.Component (length t.components)) lines
  sections_within =
      each_line (HasKeyBelow by.Component (length t.components))
      (λ s l h. slice_get_within t.components l.component s.component h.section)

  pub numbers_within : All (λ (l : IndexedLine). l.number < length tolds + 1) lines
  numbers_within =
      zip_all (IsLine t) (λ (s : Stand). s.number < 1 + length tolds) (λ (l : IndexedLine). l.number < length tolds + 1) (λ s l h low. omega (arith, h.number, low))
      (stands_of tolds) lines zipped (numbers_below [] 1 (1 + length tolds) tolds (omega arith))

owners_within : (t : Tables) → IsWhole t → All (λ owner. owner < length t.components) (map (λ (p : PortKey). p.component) t.ports.keys)
owners_within t whole =
    All-map (λ owner. owner < length t.components) (λ (p : PortKey). p.component) t.ports.keys
    (λ k d low. whole k (get_or t.ports.keys k d) (slice_get-get_or t.ports.keys k d low))

-- **within**: a numbering whose tables are whole
pub numbering_within : (tolds : List Told) (trace : IndexedTrace) → length tolds ≤ 268435456 → (h : IsNumberingOf tolds trace) → IsWhole h.tables → AreWithin trace
numbering_within tolds trace few h whole =
    let t = h.tables in
    let lines = trace.lines.items in
    let ports : length trace.owners.items ≡ length t.ports.keys = ap length h.owners ∙ length-map t.ports.keys (λ port. port.component) in
    record {
      owners = subst (λ (l : List ℕ). All (λ owner. owner < trace.components) l) (sym h.owners)
          (subst (λ n. All (λ owner. owner < n) (map (λ (p : PortKey). p.component) t.ports.keys)) (sym h.components) (owners_within t whole));
      events = subst (λ n. All (HasKeyBelow by.Port n) lines) (sym ports) (events_within tolds t lines h.lines);
      left = subst (λ n. All (HasKeyBelow by.Left n) lines) (sym ports) (left_within tolds t lines h.lines);
      closing = subst (λ n. All (HasKeyBelow by.Closing n) lines) (sym h.components) (closing_within tolds t lines h.lines);
      sent = subst (λ n. All (HasKeyBelow by.Sent n) lines) (sym h.routes) (sent_within tolds t lines h.lines);
      came = subst (λ n. All (HasKeyBelow by.Came n) lines) (sym h.routes) (came_within tolds t lines h.lines);
      sections = subst (λ n. All (HasKeyBelow by.Component n) lines) (sym h.components) (sections_within tolds t lines h.lines);
      numbers = subst (λ n. All (λ (l : IndexedLine). l.number < n) lines) (sym h.numbers) (numbers_within tolds t lines h.lines);
      few = omega (arith, h.numbers, few);
    }
