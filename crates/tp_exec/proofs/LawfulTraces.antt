-- In a report every route between two components is lawful: where nothing came nothing was sent, and where something came
-- it is a route of the configuration.
use Rattle.std.proofs.Common.{◌≡◌, ℕ, suc, Bool, true, false, cond, Option, Some, None, List, [], ◌∷◌, map, refl, sym, ap, ◌∙◌, subst}
use Rattle.std.specs.Prelude.{slice_get, ◌&&◌, ◌==◌}
use Rattle.std.specs.List.{filter_map, cons_option}
use Rattle.std.proofs.lemmas.Bool.{and_parts, eqb-true}
use Rattle.std.proofs.lemmas.Option.{same_Some}
use Rattle.tp_common.specs.declared.event.Env.{Env}
use Rattle.tp_value.specs.declared.message.Message.{Message}
use Rattle.tp_config.specs.declared.port_type.RouteId.{RouteId}
use Rattle.tp_play.specs.TestCases.{Made}
use Rattle.tp_inbox.specs.declared.stamped.Stamped.{Stamped}
use Rattle.tp_inbox.specs.declared.entry.Entry.{Entry}
use Rattle.tp_inbox.specs.declared.entry.Entry.TheVariants as entry
use Rattle.tp_inbox.specs.History.{arrival_on, arrived_on, posted_on, sent_on}
use Rattle.tp_inbox.proofs.ComponentMessagesByRoute.{came_on, sent_by_routes}
use Rattle.tp_report.specs.declared.report.CompReport.{CompReport}
use Rattle.tp_report.specs.declared.report.Report.{Report}
use Rattle.tp_exec.specs.Delivery.{IsReportOf, numbers_from}
use Rattle.tp_exec.specs.Laws.{IsLawfulRoute}
use Rattle.tp_exec.specs.CausalOrder.{log_of}
use Rattle.tp_exec.proofs.NoHappenedBeforeCircle.{on_route}

first_is : {B : Type 0} (x y : B) (xs ys : List B) → x ∷ xs ≡ y ∷ ys → x ≡ y
first_is x y xs ys e = cc

-- one of these, of which this is given
abbrev IsGiven : {A B : Type 0} → (A → Option B) → List A → B → Type 0
IsGiven {A} f xs z = (n : ℕ) × (x : A) × (slice_get xs n ≡ Some x) × (f x ≡ Some z)

given_behind : {A B : Type 0} (f : A → Option B) (x : A) (xs : List A) (z : B) (zs : List B) (o : Option B) → f x ≡ o
    → (filter_map f xs ≡ z ∷ zs → IsGiven f xs z) → cons_option o (filter_map f xs) ≡ z ∷ zs → IsGiven f (x ∷ xs) z
given_behind f x xs z zs None is more e = let h = more e in (suc h.0, h.1, h.2, h.3)
given_behind f x xs z zs (Some w) is more e = (0, x, refl, is ∙ ap Some (first_is w z (filter_map f xs) zs e))

-- the first that is given is given of one of them
given_first : {A B : Type 0} (f : A → Option B) (xs : List A) (z : B) (zs : List B) → filter_map f xs ≡ z ∷ zs → IsGiven f xs z
given_first f [] z zs e = absurd (cc)
given_first f (x ∷ xs) z zs e = given_behind f x xs z zs (f x) refl (given_first f xs z zs) e

met : {B : Type 0} (b : Bool) (x z : B) → cond b (Some x) None ≡ Some z → b ≡ true
met true x z e = refl
met false x z e = absurd (cc)

-- the entry is an arrival on the route
abbrev IsArrivalOf : RouteId → Entry → Type 0
IsArrivalOf r e = (stamp : ℕ) × (env : Env Message) × (e ≡ entry.Arrive r.to.port stamp env) × (env.sender ≡ r.source.0)

arrives : (r : RouteId) (e : Entry) (z : ℕ × Stamped) → arrival_on r e ≡ Some z → IsArrivalOf r e
arrives r (entry.Arrive p stamp env) z is =
    let both = and_parts (r.to.port == p) (r.source.0 == env.sender)
    (met ((r.to.port == p) && (r.source.0 == env.sender)) (env.number, record { stamp = stamp; message = env.msg }) z is) in
    (stamp, env, ap (λ q. entry.Arrive q stamp env) (sym (eqb-true r.to.port p both.0)), sym (eqb-true r.source.0 env.sender both.1))
arrives r (entry.Took p branch env) z is = absurd (cc)
arrives r (entry.Found p branch env) z is = absurd (cc)
arrives r (entry.Dropped p branch env) z is = absurd (cc)
arrives r (entry.Cleared p) z is = absurd (cc)
arrives r (entry.Started p) z is = absurd (cc)
arrives r (entry.Stopped p) z is = absurd (cc)
arrives r (entry.Halted p) z is = absurd (cc)
arrives r (entry.Sent q number m) z is = absurd (cc)
arrives r entry.Else z is = absurd (cc)
arrives r (entry.Verdict v) z is = absurd (cc)
arrives r (entry.Failed code) z is = absurd (cc)

module _ (made : Made) (report : Report) (h : IsReportOf made report) (r : RouteId) (x y : CompReport)
    (source : slice_get report.components.items r.source.0 ≡ Some x) (receiver : slice_get report.components.items r.to.comp.0 ≡ Some y) where
  abbrev AreNumbered : List (ℕ × Stamped) → Type 0
  AreNumbered sent = map (λ s. s.0) sent ≡ numbers_from 0 sent

  same : sent_on r x.desk.log ≡ arrived_on r y.desk.log
  same = sym (sent_by_routes r.to.comp r refl x.desk.log) ∙ ap (posted_on r) (h.between r.source r.to.comp x y source receiver)
      ∙ came_on r.to.comp r refl y.desk.log

  numbered : (came : List (ℕ × Stamped)) → arrived_on r y.desk.log ≡ came → AreNumbered (sent_on r x.desk.log)
  unfolding arrived_on
  numbered [] is = subst AreNumbered (sym (same ∙ is)) refl
  numbered (z ∷ zs) is =
      let at = given_first (arrival_on r) y.desk.log z zs is in
      let came = arrives r at.1 z at.3 in
      let into : slice_get (log_of (slice_get report.components.items r.to.comp.0)) at.0 ≡ Some (entry.Arrive r.to.port came.0 came.1) =
      ap (λ o. slice_get (log_of o) at.0) receiver ∙ at.2 ∙ ap Some came.2 in
      let d = on_route made report h r at.0 came.0 came.1 into came.3 in
      subst (λ (s : CompReport). AreNumbered (sent_on r s.desk.log)) (same_Some d.pair.source x (sym d.pair.source_is ∙ source)) d.numbered

  pub lawful_route : IsLawfulRoute r x.desk.log y.desk.log
  lawful_route = record { same = same; numbered = numbered (arrived_on r y.desk.log) refl }
