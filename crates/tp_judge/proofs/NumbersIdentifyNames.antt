-- Two lines have one number exactly where they name the same.
use Rattle.std.proofs.Common.{◌≡◌, ◌≢◌, inl, inr, ℕ, Option, Some, None, List, slice_get, refl, ap, sym, ◌∙◌, subst}
use Rattle.std.proofs.Common.{arith}
use Rattle.std.specs.Prelude.{◌↔◌, AllPairs}
use Rattle.std.proofs.lemmas.Bool.{cases_lt}
use Rattle.std.proofs.lemmas.Option.{same_Some, slice_get_within, get_or_from_slice_get}
use Rattle.tp_common.specs.declared.operation.PortOperation.{PortOperation}
use Rattle.tp_common.specs.declared.operation.PortOperation.TheVariants as operation
use Rattle.tp_judge.specs.declared.referee.line.MessageVerb.{MessageVerb}
use Rattle.tp_judge.specs.declared.referee.line.MessageVerb.TheVariants as fate
use Rattle.tp_judge.specs.LineTexts.{Letter, Told, begins, passed, operated, otherwise, remarked, ended, resulted}
use Rattle.tp_judge.specs.declared.line.Act.{Act}
use Rattle.tp_judge.specs.declared.line.Mention.{Mention}
use Rattle.tp_judge.specs.declared.line.IndexedLine.{IndexedLine}
use Rattle.tp_judge.specs.declared.referee.tables.PortKey.{PortKey}
use Rattle.tp_judge.specs.declared.referee.tables.RouteKey.{RouteKey}
use Rattle.tp_judge.specs.declared.referee.tables.Tables.{Tables}
use Rattle.tp_judge.specs.Numbering.{AreTablesDistinct, IsAct, IsComponentNumber, IsLine, IsMention, IsPortNumber}
use Rattle.tp_judge.specs.Numbering.{Stand, act_of, operation_act, receiver_of, sender_of, stands_of}
use Rattle.tp_judge.specs.OneToOne.{AreNumberedAlike, IsOneToOne, PortName, RouteName, mention_of, message_number}
use Rattle.tp_judge.specs.OneToOne.{port_in_line, port_of_act, route_in, route_of, message_named}
use Rattle.tp_judge.proofs.ZippedPrefixGrowth.{zip_get}

-- what stands twice stands at one place
pub once : {X : Type 0} (xs : List X) → AllPairs (λ a b. a ≢ b) xs → (j k : ℕ) (x : X) → slice_get xs j ≡ Some x → slice_get xs k ≡ Some x → j ≡ k
once xs apart j k x e f =
    elim (cases_lt j k) [
      | inl low ↦
          absurd (apart j k x low (slice_get_within xs k x f) (get_or_from_slice_get xs j x x e ∙ sym (get_or_from_slice_get xs k x x f)))
      | inr high ↦ elim (cases_lt k j) [
        | inl low ↦
            absurd (apart k j x low (slice_get_within xs j x e) (get_or_from_slice_get xs k x x f ∙ sym (get_or_from_slice_get xs j x x e)))
        | inr low ↦ omega (arith, high, low)
      ]
    ]

module _ {N : Type 0} (Is : ℕ → N → Type 0) (one : (p q : ℕ) (a : N) → Is p a → Is q a → p ≡ q) (same : (p : ℕ) (a b : N) → Is p a → Is p b → a ≡ b) where
  abbrev Stands : Option ℕ → Option N → Type 0
  Stands None None = Unit {0}
  Stands None (Some a) = ⊥
  Stands (Some p) None = ⊥
  Stands (Some p) (Some a) = Is p a

  alike : (o p : Option ℕ) (a b : Option N) → Stands o a → Stands p b → (o ≡ p) ↔ (a ≡ b)
  alike None None None None h k = (λ _. refl, λ _. refl)
  alike None None None (Some b) h k = absurd k
  alike None None (Some a) b h k = absurd h
  alike None (Some q) None None h k = absurd k
  alike None (Some q) None (Some b) h k = (λ e. absurd (cc), λ e. absurd (cc))
  alike None (Some q) (Some a) b h k = absurd h
  alike (Some p) None None b h k = absurd h
  alike (Some p) None (Some a) None h k = (λ e. absurd (cc), λ e. absurd (cc))
  alike (Some p) None (Some a) (Some b) h k = absurd k
  alike (Some p) (Some q) None b h k = absurd h
  alike (Some p) (Some q) (Some a) None h k = absurd k
  alike (Some p) (Some q) (Some a) (Some b) h k = (
    λ e. ap Some (same q a b (subst (λ n. Is n a) (same_Some p q e) h) k),
    λ e. ap Some (one p q a h (subst (Is q) (sym (same_Some a b e)) k)),
  )

module _ (t : Tables) (d : AreTablesDistinct t) where
  one_in : {X : Type 0} (xs : List X) (p : ℕ) (a b : X) → slice_get xs p ≡ Some a → slice_get xs p ≡ Some b → a ≡ b
  one_in xs p a b e f = same_Some a b (sym e ∙ f)

  record PortIs (p : ℕ) (a : PortName) : Type 0 where
    component : ℕ
    known : IsComponentNumber t component a.component
    port : IsPortNumber t p component a.name

  ports_one : (p q : ℕ) (a : PortName) → PortIs p a → PortIs q a → p ≡ q
  ports_one p q a h k =
      let c : h.component ≡ k.component = once t.components d.components h.component k.component a.component h.known k.known in
      let w : h.port.word ≡ k.port.word = once t.names d.names h.port.word k.port.word a.name h.port.named k.port.named in
      let key : PortKey = record { component = k.component; name = k.port.word } in
      let there : slice_get t.ports.keys p ≡ Some key = h.port.there ∙ (λ i. Some (record { component = c i; name = w i })) in
      once t.ports.keys d.ports p q key there k.port.there

  ports_same : (p : ℕ) (a b : PortName) → PortIs p a → PortIs p b → a ≡ b
  ports_same p a b h k =
      let keys : ◌≡◌ {A = PortKey} (record { component = h.component; name = h.port.word }) (record { component = k.component; name = k.port.word }) =
      one_in t.ports.keys p _ _ h.port.there k.port.there in
      let c : a.component ≡ b.component =
      one_in t.components k.component _ _ (ap (slice_get t.components) (sym (ap (λ (r : PortKey). r.component) keys)) ∙ h.known) k.known in
      let n : a.name ≡ b.name = one_in t.names k.port.word _ _ (ap (slice_get t.names) (sym (ap (λ (r : PortKey). r.name) keys)) ∙ h.port.named) k.port.named in
      λ i. record { component = c i; name = n i }

  record RouteIs (r : ℕ) (a : RouteName) : Type 0 where
    sender : ℕ
    port : ℕ
    from : IsComponentNumber t sender a.sender
    to : PortIs port a.port
    there : slice_get t.routes.keys r ≡ Some (record { sender = sender; port = port })

  routes_one : (r q : ℕ) (a : RouteName) → RouteIs r a → RouteIs q a → r ≡ q
  routes_one r q a h k =
      let s : h.sender ≡ k.sender = once t.components d.components h.sender k.sender a.sender h.from k.from in
      let p : h.port ≡ k.port = ports_one h.port k.port a.port h.to k.to in
      let key : RouteKey = record { sender = k.sender; port = k.port } in
      let there : slice_get t.routes.keys r ≡ Some key = h.there ∙ (λ i. Some (record { sender = s i; port = p i })) in
      once t.routes.keys d.routes r q key there k.there

  routes_same : (r : ℕ) (a b : RouteName) → RouteIs r a → RouteIs r b → a ≡ b
  routes_same r a b h k =
      let keys : ◌≡◌ {A = RouteKey} (record { sender = h.sender; port = h.port }) (record { sender = k.sender; port = k.port }) =
      one_in t.routes.keys r _ _ h.there k.there in
      let s : a.sender ≡ b.sender =
      one_in t.components k.sender _ _ (ap (slice_get t.components) (sym (ap (λ (x : RouteKey). x.sender) keys)) ∙ h.from) k.from in
      let p : a.port ≡ b.port = ports_same k.port a.port b.port (subst (λ n. PortIs n a.port) (ap (λ (x : RouteKey). x.port) keys) h.to) k.to in
      λ i. record { sender = s i; port = p i }

  abbrev Ports : Option ℕ → Option PortName → Type 0
  Ports = Stands PortIs ports_one ports_same

  abbrev Routes : Option ℕ → Option RouteName → Type 0
  Routes = Stands RouteIs routes_one routes_same

  abbrev TextIs : ℕ → List ℕ → Type 0
  TextIs n text = slice_get t.messages n ≡ Some text

  texts_one : (p q : ℕ) (a : List ℕ) → TextIs p a → TextIs q a → p ≡ q
  texts_one p q a h k = once t.messages d.messages p q a h k

  texts_same : (p : ℕ) (a b : List ℕ) → TextIs p a → TextIs p b → a ≡ b
  texts_same p a b h k = one_in t.messages p a b h k

  abbrev Texts : Option ℕ → Option (List ℕ) → Type 0
  Texts = Stands TextIs texts_one texts_same

  -- what a line in numbers mentions is what it names
  record Says (here : List ℕ) (told : Told) (a : Act) : Type 0 where
    ports : Ports (port_of_act a) (port_in_line here told)
    routes : Routes (route_of (mention_of a)) (route_in here told)
    texts : Texts (message_number (mention_of a)) (message_named told)

  says_message : (c other : ℕ) (here : List ℕ) (f : MessageVerb) (letter : Letter) (m : Mention) → IsComponentNumber t c here → IsComponentNumber t other letter.component
      → IsMention t (sender_of f c other) (receiver_of f c other) letter m → Says here (passed f letter) (act_of f m)
  says_message c other here fate.Sent letter m h o is =
      let port : PortIs m.port (record { component = letter.component; name = letter.port }) = record { component = other; known = o; port = is.port } in
      record { ports = port; routes = record { sender = c; port = m.port; from = h; to = port; there = is.route }; texts = is.message }
  says_message c other here fate.Came letter m h o is =
      let port : PortIs m.port (record { component = here; name = letter.port }) = record { component = c; known = h; port = is.port } in
      record { ports = port; routes = record { sender = other; port = m.port; from = o; to = port; there = is.route }; texts = is.message }
  says_message c other here fate.Took letter m h o is =
      let port : PortIs m.port (record { component = here; name = letter.port }) = record { component = c; known = h; port = is.port } in
      record { ports = port; routes = record { sender = other; port = m.port; from = o; to = port; there = is.route }; texts = is.message }
  says_message c other here fate.Found letter m h o is =
      let port : PortIs m.port (record { component = here; name = letter.port }) = record { component = c; known = h; port = is.port } in
      record { ports = port; routes = record { sender = other; port = m.port; from = o; to = port; there = is.route }; texts = is.message }
  says_message c other here fate.Dropped letter m h o is =
      let port : PortIs m.port (record { component = here; name = letter.port }) = record { component = c; known = h; port = is.port } in
      record { ports = port; routes = record { sender = other; port = m.port; from = o; to = port; there = is.route }; texts = is.message }
  says_message c other here fate.Left letter m h o is =
      let port : PortIs m.port (record { component = here; name = letter.port }) = record { component = c; known = h; port = is.port } in
      record { ports = port; routes = record { sender = other; port = m.port; from = o; to = port; there = is.route }; texts = is.message }

  says_operation : (c p : ℕ) (here name : List ℕ) (o : PortOperation) → IsComponentNumber t c here → IsPortNumber t p c name → Says here (operated o name) (operation_act o p)
  says_operation c p here name operation.Start h is = record { ports = record { component = c; known = h; port = is }; routes = tt; texts = tt }
  says_operation c p here name operation.Stop h is = record { ports = record { component = c; known = h; port = is }; routes = tt; texts = tt }
  says_operation c p here name operation.Halt h is = record { ports = record { component = c; known = h; port = is }; routes = tt; texts = tt }
  says_operation c p here name operation.Clear h is = record { ports = record { component = c; known = h; port = is }; routes = tt; texts = tt }

  says_act : (c : ℕ) (here : List ℕ) (told : Told) (a : Act) → IsComponentNumber t c here → IsAct t c told a → Says here told a
  says_act c here (begins name) a h is = subst (Says here (begins name)) (sym is) (record { ports = tt; routes = tt; texts = tt })
  says_act c here (passed f letter) a h is =
      subst (Says here (passed f letter)) (sym is.is) (says_message c is.other here f letter is.mention h is.partner is.mentioned)
  says_act c here (operated o name) a h is = subst (Says here (operated o name)) (sym is.is) (says_operation c is.port here name o h is.there)
  says_act c here otherwise a h is = subst (Says here otherwise) (sym is) (record { ports = tt; routes = tt; texts = tt })
  says_act c here (remarked n word) a h is = subst (Says here (remarked n word)) (sym is) (record { ports = tt; routes = tt; texts = tt })
  says_act c here (ended words) a h is = subst (Says here (ended words)) (sym is) (record { ports = tt; routes = tt; texts = tt })
  says_act c here (resulted word) a h is = subst (Says here (resulted word)) (sym is) (record { ports = tt; routes = tt; texts = tt })

  lines_alike : (s u : Stand) (l m : IndexedLine) → IsLine t s l → IsLine t u m → AreNumberedAlike s u l m
  lines_alike s u l m h k =
      let a = says_act l.component s.component s.told l.act h.section h.says in
      let b = says_act m.component u.component u.told m.act k.section k.says in
      record {
        section = (
          λ e. one_in t.components m.component s.component u.component (ap (slice_get t.components) (sym e) ∙ h.section) k.section,
          λ e. once t.components d.components l.component m.component s.component h.section (k.section ∙ ap Some (sym e)),
        );
        port = alike PortIs ports_one ports_same _ _ _ _ a.ports b.ports;
        route = alike RouteIs routes_one routes_same _ _ _ _ a.routes b.routes;
        message = alike TextIs texts_one texts_same _ _ _ _ a.texts b.texts;
      }

pub one_to_one : IsOneToOne
one_to_one tolds trace j k s u l m h sj lj uk mk =
    let a = zip_get (IsLine h.tables) (stands_of tolds) trace.lines.items j s h.lines sj in
    let b = zip_get (IsLine h.tables) (stands_of tolds) trace.lines.items k u h.lines uk in
    let al : a.0 ≡ l = same_Some a.0 l (sym a.1 ∙ lj) in
    let bm : b.0 ≡ m = same_Some b.0 m (sym b.1 ∙ mk) in
    lines_alike h.tables h.distinct s u l m (subst (λ x. IsLine h.tables s x) al a.2) (subst (λ x. IsLine h.tables u x) bm b.2)
