-- The report of what a run came to is the report of the run.
use Rattle.std.proofs.Common.{◌≡◌, ℕ, zero, suc, ◌+◌, ◌<◌, ◌≤◌, Option, Some, None, List, [], ◌∷◌, ◌++◌, length, map, append_assoc, refl, sym, ap, ◌∙◌, subst, arith}
use Rattle.std.specs.Prelude.{All, Contains, slice_get, string_bytes}
use Rattle.std.specs.List.{AllZip}
use Rattle.std.proofs.lemmas.List.{append-nil}
use Rattle.std.proofs.lemmas.Option.{same_Some, slice_get-get_or}
use Rattle.tp_queue.specs.History.{Lawful}
use Rattle.tp_queue.proofs.ListPartGrowth.{length-push}
use Rattle.tp_config.specs.declared.port_type.CompId.{CompId}
use Rattle.tp_config.specs.declared.port_type.RouteId.{RouteId}
use Rattle.tp_config.specs.Allowed.{IsSetup}
use Rattle.tp_config.specs.Setup.{Setup, IsComponent, names_of_components}
use Rattle.tp_config.specs.Routes.{routes_into}
use Rattle.tp_play.specs.declared.body.Body.{Body}
use Rattle.tp_play.specs.Behaviours.{Behaviour}
use Rattle.tp_play.specs.TestCases.{Made, behaviour_at}
use Rattle.tp_inbox.specs.declared.stamped.Stamped.{Stamped}
use Rattle.tp_inbox.specs.declared.entry.Entry.{Entry}
use Rattle.tp_inbox.specs.Desks.{Journal, at_port}
use Rattle.tp_inbox.specs.History.{IsClocked, arrived_from, arrived_on, count_of, numbered, sent_on, sent_to}
use Rattle.tp_report.specs.declared.report.CompReport.{CompReport}
use Rattle.tp_report.specs.declared.report.Report.{Report}
use Rattle.tp_report.specs.Reports.{IsDeskIn, IsReportable}
use Rattle.tp_report.specs.Verdicts.{endings, local_verdict, locals, overall_verdict}
use Rattle.tp_behaviour.specs.declared.outcome.Outcome.{Outcome}
use Rattle.tp_behaviour.specs.declared.outcome.Outcome.TheVariants as outcome
use Rattle.tp_behaviour.specs.Choices.{NoneOpen}
use Rattle.tp_behaviour.specs.BehaviourEnds.{Follows}
use Rattle.tp_behaviour.specs.Fresh.{Fresh}
use Rattle.tp_behaviour.specs.Held.{Actor}
use Rattle.tp_behaviour.specs.Outcomes.{HasEnded, WaitsWithin}
use Rattle.tp_behaviour.proofs.WeakerStopConditions.{still_stops}
use Rattle.tp_exec.specs.declared.ended.EndedComponent.{EndedComponent}
use Rattle.tp_exec.specs.Delivery.{FollowsBehaviour, IsCompReport, IsDelivered, IsDeliveredBetween, IsOnRoute, IsReportOf, numbers_from}
use Rattle.tp_exec.specs.OneOrder.{logs_of}
use Rattle.tp_exec.specs.Rounds.{BehaviourEnded}
use Rattle.tp_exec.specs.Settlings.{IsOfARun}
use Rattle.tp_exec.specs.Reporting.{IsAtRest, IsReportedAs, IsRest, end_as}
use Rattle.tp_exec.proofs.AllInboxSendersReturn.{length-numbered}
use Rattle.tp_exec.proofs.RunNamesInConfiguration.{all_at, known}

-- two lists, element by element
module _ {A B : Type 0} (R : A → B → Type 0) where
  -- the first one's element at a place
  first_at : (xs : List A) (ys : List B) (k : ℕ) (y : B) → AllZip R xs ys → slice_get ys k ≡ Some y → (x : A) × (slice_get xs k ≡ Some x) × R x y
  first_at [] [] k y zip at = absurd (cc)
  first_at [] (z ∷ ys) k y zip at = absurd zip
  first_at (x ∷ xs) [] k y zip at = absurd zip
  first_at (x ∷ xs) (z ∷ ys) zero y zip at = (x, refl, subst (R x) (same_Some z y at) zip.0)
  first_at (x ∷ xs) (z ∷ ys) (suc k) y zip at = first_at xs ys k y zip.1 at

  second_at : (xs : List A) (ys : List B) (k : ℕ) (x : A) → AllZip R xs ys → slice_get xs k ≡ Some x → (y : B) × (slice_get ys k ≡ Some y) × R x y
  second_at [] [] k x zip at = absurd (cc)
  second_at [] (y ∷ ys) k x zip at = absurd zip
  second_at (z ∷ xs) [] k x zip at = absurd zip
  second_at (z ∷ xs) (y ∷ ys) zero x zip at = (y, refl, subst (λ w. R w y) (same_Some z x at) zip.0)
  second_at (z ∷ xs) (y ∷ ys) (suc k) x zip at = second_at xs ys k x zip.1 at

  as_long : (xs : List A) (ys : List B) → AllZip R xs ys → length ys ≡ length xs
  as_long [] [] zip = refl
  as_long [] (y ∷ ys) zip = absurd zip
  as_long (x ∷ xs) [] zip = absurd zip
  as_long (x ∷ xs) (y ∷ ys) zip = ap suc (as_long xs ys zip.1)

  -- one more element of each
  pub zip_more : (before rest all : List A) (done after : List B) (x : A) (y : B) → before ≡ x ∷ rest → after ≡ done ++ y ∷ [] → R x y
      → ((more : List B) → AllZip R before more → AllZip R all (done ++ more)) → (more : List B) → AllZip R rest more → AllZip R all (after ++ more)
  zip_more before rest all done after x y is was here go more zip =
      subst (λ (l : List B). AllZip R all (l ++ more)) (sym was)
      (subst (AllZip R all) (sym (append_assoc done (y ∷ []) more)) (go (y ∷ more) (subst (λ (l : List A). AllZip R l (y ∷ more)) (sym is) (here, zip))))

  -- nothing is left
  pub zip_all : (rest all : List A) (done : List B) → rest ≡ [] → ((more : List B) → AllZip R rest more → AllZip R all (done ++ more)) → AllZip R all done
  zip_all rest all done none go = subst (AllZip R all) (append-nil done) (go [] (subst (λ (l : List A). AllZip R l []) (sym none) tt))

-- there is space for the rest
pub space_more : {A B : Type 0} (before rest : List A) (done after : List B) (x : A) (y : B) (space now : ℕ) → before ≡ x ∷ rest → after ≡ done ++ y ∷ []
    → now ≡ space → length done + length before ≤ space → length after + length rest ≤ now
space_more before rest done after x y space now is was same low = omega (arith, low, same, ap length is, ap length was, length-push done y)

-- what is reported has the histories that there were
pub same_logs : (s : Setup) (es : List EndedComponent) (ys : List CompReport) → AllZip (IsReportedAs s) es ys → logs_of ys ≡ map (λ (e : EndedComponent). e.desk.log) es
same_logs s [] [] zip = refl
same_logs s [] (y ∷ ys) zip = absurd zip
same_logs s (e ∷ es) [] zip = absurd zip
same_logs s (e ∷ es) (y ∷ ys) zip = ap (λ (d : Journal). d.log ∷ logs_of ys) zip.0.desk ∙ ap (λ l. e.desk.log ∷ l) (same_logs s es ys zip.1)

-- a behaviour that has ended, with nothing to come, follows its body to that end
followed : (r : Actor) (body : Body) (o : Outcome) (k : List Entry) → HasEnded r body o k → IsRest k o → Follows r body k (end_as o)
followed r body outcome.Done k h rest = Follows.done h.0 h.1
followed r body (outcome.Error fault) k h rest = Follows.error fault (still_stops r (λ _. ⊥) (NoneOpen k) (λ gs none. absurd none) h.1)
followed r body (outcome.Waiting guards) k h rest =
    Follows.waiting (still_stops r (λ gs. gs ≡ guards.items) (NoneOpen k) (λ gs are. subst (NoneOpen k) (sym are) rest) h.1)

-- so does a component with what it is there for
follows : (s : Setup) (c : CompId) (d : Option Behaviour) (o : Outcome) (k : List Entry) → BehaviourEnded s c d o k → IsRest k o
    → FollowsBehaviour s c d k (end_as o)
follows s c (Some d) o k h rest = followed (record { config = s; comp = c; references = d.references }) d.body o k h rest
follows s c None o k h rest = followed (record { config = s; comp = c; references = [] }) (record { variables = []; statements = [] }) o k h rest

-- what is numbered from n on has the numbers from n on
numbers : (n : ℕ) (ms : List Stamped) → map (λ (x : ℕ × Stamped). x.0) (numbered n ms) ≡ numbers_from n (numbered n ms)
numbers n [] = refl
numbers n (m ∷ ms) =
    let next : n + 1 ≡ 1 + n = omega arith in
    ap (λ l. n ∷ l) (numbers (n + 1) ms ∙ ap (λ i. numbers_from i (numbered (n + 1) ms)) next)

module _ (made : Made) (ended : List EndedComponent) (run : IsOfARun made ended) where
  -- what a waiting component waits for are operations on its ports
  pub waits_within : All (λ (e : EndedComponent). WaitsWithin e.desk.ports e.outcome) ended
  waits_within k d low = (run.each k _ (slice_get-get_or ended k d low)).within

  pub all_there : All (λ (e : EndedComponent). IsComponent made.config e.desk.comp) ended
  all_there k d low =
      subst (IsComponent made.config) (sym (run.each k _ (slice_get-get_or ended k d low)).comp) (subst (λ n. k < n) run.come.everyone low)

module _ (made : Made) (ended : List EndedComponent) (run : IsOfARun made ended) (xs : List CompReport) (told : AllZip (IsReportedAs made.config) ended xs) where
  abbrev Told : EndedComponent → CompReport → Type 0
  Told = IsReportedAs made.config

  all_told : length xs ≡ length made.config.components
  all_told = as_long Told ended xs told ∙ run.come.everyone

  component : All IsAtRest ended → (c : CompId) (x : CompReport) → slice_get xs c.0 ≡ Some x → IsCompReport made c x
  component rest c x at =
      let w = first_at Told ended xs c.0 x told at in
      let e : EndedComponent = w.0 in
      let r = w.2 in
      let own = run.each c.0 e w.1 in
      let log : x.desk.log ≡ e.desk.log = ap (λ (d : Journal). d.log) r.desk in
      record {
        name = subst (λ (q : CompId). slice_get (names_of_components made.config) q.0 ≡ Some (string_bytes x.name)) own.comp r.name;
        comp = ap (λ (d : Journal). d.comp) r.desk ∙ own.comp;
        ports = ap (λ (d : Journal). d.ports) r.desk ∙ own.ports;
        lawful = subst (λ (d : Journal). (port : ℕ) → port < d.ports → Lawful (at_port d port)) (sym r.desk) r.sound.lawful;
        routed = λ k y there. all_at (IsOnRoute made.config c) x.desk.log k y (subst (All (IsOnRoute made.config c)) (sym log) (run.come.routed c.0 e w.1))
            there;
        clocked = subst IsClocked (sym log) r.sound.clocked;
        follows = subst (FollowsBehaviour made.config c (behaviour_at made c.0) x.desk.log) (sym r.ending)
            (subst (λ k. FollowsBehaviour made.config c (behaviour_at made c.0) k (end_as e.outcome)) (sym log)
            (follows made.config c (behaviour_at made c.0) e.outcome e.desk.log own.ended (all_at IsAtRest ended c.0 e rest w.1)));
        fresh = subst (Fresh c) (sym log) own.fresh;
        verdict = r.verdict ∙ ap local_verdict (sym log);
        routes = ap (map (λ (n : RouteId × ℕ). n.0)) r.counts ∙ run.come.counts c.0 e w.1;
      }

  delivered : (c : CompId) (r : RouteId) → Contains (routes_into made.config c) r → IsDelivered xs r
  delivered c r h =
      let t = run.come.there c.0 r h in
      let from = second_at Told ended xs r.source.0 t.source told t.source_is in
      let to = second_at Told ended xs r.to.comp.0 t.receiver told t.receiver_is in
      let out : sent_on r from.0.desk.log ≡ sent_on r t.source.desk.log = ap (λ (d : Journal). sent_on r d.log) from.2.desk in
      let numbered_so : sent_on r from.0.desk.log ≡ numbered 0 t.ledger = out ∙ t.numbered in
      record {
        pair = record { source = from.0; source_is = from.1; receiver = to.0; receiver_is = to.1 };
        same = out ∙ t.same ∙ ap (λ (d : Journal). arrived_on r d.log) (sym to.2.desk);
        numbered = subst (λ l. map (λ (y : ℕ × Stamped). y.0) l ≡ numbers_from 0 l) (sym numbered_so) (numbers 0 t.ledger);
        counted = ap (count_of r) to.2.counts ∙ t.counted ∙ sym (length-numbered 0 t.ledger) ∙ ap length (sym numbered_so);
      }

  between : (c d : CompId) (x y : CompReport) → slice_get xs c.0 ≡ Some x → slice_get xs d.0 ≡ Some y → IsDeliveredBetween c d x.desk.log y.desk.log
  between c d x y from to =
      let w = first_at Told ended xs c.0 x told from in
      let v = first_at Told ended xs d.0 y told to in
      ap (λ (j : Journal). sent_to d j.log) w.2.desk ∙ run.come.between c d w.0 v.0 w.1 v.1
      ∙ ap (λ (j : Journal). arrived_from d c j.log) (sym v.2.desk)

  -- **the report of a run**
  pub report_of : All IsAtRest ended → (report : Report) → report.components.items ≡ xs → report.result ≡ overall_verdict (endings xs) (locals xs)
      → IsReportOf made report
  report_of rest report are is = record {
    everyone = ap length are ∙ all_told;
    each = λ c x at. component rest c x (ap (λ l. slice_get l c.0) (sym are) ∙ at);
    delivered = λ c r h. subst (λ l. IsDelivered l r) (sym are) (delivered c r h);
    between = λ c d x y from to. between c d x y (ap (λ l. slice_get l c.0) (sym are) ∙ from) (ap (λ l. slice_get l d.0) (sym are) ∙ to);
    result = is ∙ ap (λ l. overall_verdict (endings l) (locals l)) (sym are);
  }

  -- and it has a text
  pub reportable : IsSetup made.config → (report : Report) → report.components.items ≡ xs → IsReportable made.config report
  reportable l report are = record {
    everyone = ap length are ∙ all_told;
    each = λ c x at. own c x (ap (λ ys. slice_get ys c.0) (sym are) ∙ at);
  }
    where
      own : (c : CompId) (x : CompReport) → slice_get xs c.0 ≡ Some x → IsDeskIn made.config c x.desk
      own c x at =
          let w = first_at Told ended xs c.0 x told at in
          let own = run.each c.0 w.0 w.1 in
          subst (IsDeskIn made.config c) (sym w.2.desk) record {
            comp = own.comp;
            ports = own.ports;
            known = known made.config l c w.0.desk own.ports w.2.sound (run.come.routed c.0 w.0 w.1) own.sent;
          }
