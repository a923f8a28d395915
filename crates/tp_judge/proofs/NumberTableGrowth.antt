-- What is said of lines in numbers stays so when the tables grow.
use Rattle.std.proofs.Common.{◌≡◌, ℕ, ◌+◌, ◌<◌, ◌≤◌, Some, List, length, slice_get, arith, get_or, inl, inr, subst}
use Rattle.std.specs.List.{AllZip}
use Rattle.std.proofs.lemmas.Option.{slice_get_within, slice_get-get_or}
use Rattle.indexmap.specs.IndexSet.{insert_key}
use Rattle.tp_judge.specs.declared.referee.line.MessageVerb.{MessageVerb}
use Rattle.tp_judge.specs.declared.referee.line.MessageVerb.TheVariants as fate
use Rattle.tp_judge.specs.LineTexts.{Letter, Told, begins, passed, operated, otherwise, remarked, ended, resulted}
use Rattle.tp_judge.specs.declared.line.Mention.{Mention}
use Rattle.tp_judge.specs.declared.line.Act.{Act}
use Rattle.tp_judge.specs.declared.line.IndexedLine.{IndexedLine}
use Rattle.tp_judge.specs.declared.referee.tables.PortKey.{PortKey}
use Rattle.tp_judge.specs.declared.referee.tables.Tables.{Tables}
use Rattle.tp_judge.specs.Kept.{Keeps}
use Rattle.tp_judge.specs.Numbering.{IsAct, IsLine, IsMention, IsPassed, IsPortNumber, Stand, receiver_of}
use Rattle.tp_judge.specs.Turns.{KeepsNumbers, IsWhole}
use Rattle.tp_judge.proofs.PortAndRouteEquality.{port_eq}
use Rattle.tp_judge.proofs.KeySetGrowth.{key_at}
use Rattle.tp_judge.proofs.ZippedPrefixGrowth.{zip_weaker}

-- a list that keeps what it has is no shorter
pub kept_length : {X : Type 0} (xs ys : List X) (k : ℕ) (d : X) → Keeps xs ys → k < length xs → k < length ys
kept_length xs ys k d kept low = slice_get_within ys k (get_or xs k d) (kept k (get_or xs k d) (slice_get-get_or xs k d low))

-- a port more, of a component that has a number
pub whole_more : (t : Tables) (key : PortKey) → IsWhole t → key.component < length t.components → (k : ℕ) (port : PortKey)
    → slice_get (insert_key port_eq t.ports.keys key) k ≡ Some port → port.component < length t.components
whole_more t key whole low k port e =
    elim (key_at port_eq t.ports.keys key k port e) [
      | inl there ↦ whole k port there
      | inr same ↦ subst (λ (p : PortKey). p.component < length t.components) same low
    ]

-- the receiver is one of the two
pub receiver_below : (f : MessageVerb) (here other n : ℕ) → here < n → other < n → receiver_of f here other < n
receiver_below fate.Sent here other n h o = o
receiver_below fate.Came here other n h o = h
receiver_below fate.Took here other n h o = h
receiver_below fate.Found here other n h o = h
receiver_below fate.Dropped here other n h o = h
receiver_below fate.Left here other n h o = h

pub Grows-then : (j k n : ℕ) (a b c : Tables) → j + k ≤ n → KeepsNumbers j a b → KeepsNumbers k b c → KeepsNumbers n a c
Grows-then j k n a b c within g h = record {
  components = λ i x e. h.components i x (g.components i x e);
  names = λ i x e. h.names i x (g.names i x e);
  ports = λ i x e. h.ports i x (g.ports i x e);
  routes = λ i x e. h.routes i x (g.routes i x e);
  messages = λ i x e. h.messages i x (g.messages i x e);
  few = omega (arith, g.few, h.few, within);
}

module _ (n : ℕ) (old new : Tables) (g : KeepsNumbers n old new) where
  pub port_grows : (port component : ℕ) (name : List ℕ) → IsPortNumber old port component name → IsPortNumber new port component name
  port_grows port component name p = record { word = p.word; there = g.ports _ _ p.there; named = g.names _ _ p.named }

  pub mention_grows : (sender receiver : ℕ) (letter : Letter) (m : Mention) → IsMention old sender receiver letter m → IsMention new sender receiver letter m
  mention_grows sender receiver letter m h = record {
    port = port_grows m.port receiver letter.port h.port;
    route = g.routes _ _ h.route;
    number = h.number;
    message = g.messages _ _ h.message;
  }

  passed_grows : (here : ℕ) (fate : MessageVerb) (letter : Letter) (a : Act) → IsPassed old here fate letter a → IsPassed new here fate letter a
  passed_grows here fate letter a h = record {
    mention = h.mention;
    is = h.is;
    other = h.other;
    partner = g.components _ _ h.partner;
    mentioned = mention_grows _ _ letter h.mention h.mentioned;
  }

  act_grows : (here : ℕ) (told : Told) (a : Act) → IsAct old here told a → IsAct new here told a
  act_grows here (begins name) a h = h
  act_grows here (passed fate letter) a h = passed_grows here fate letter a h
  act_grows here (operated operation name) a h = record { port = h.port; is = h.is; there = port_grows _ _ _ h.there }
  act_grows here otherwise a h = h
  act_grows here (remarked remark word) a h = h
  act_grows here (ended words) a h = h
  act_grows here (resulted word) a h = h

  line_grows : (stand : Stand) (line : IndexedLine) → IsLine old stand line → IsLine new stand line
  line_grows stand line h = record {
    number = h.number;
    section = g.components _ _ h.section;
    says = act_grows line.component stand.told line.act h.says;
  }

  pub lines_grow : (stands : List Stand) (lines : List IndexedLine) → AllZip (IsLine old) stands lines → AllZip (IsLine new) stands lines
  lines_grow = zip_weaker (IsLine old) (IsLine new) line_grows
