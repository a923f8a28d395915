-- The routes into the component are those of its inbox, and the components with these have its senders.
use Rattle.std.proofs.Common.{◌≡◌, All, AllPairs, Contains, List, sym, ap, ◌∙◌, subst}
use Rattle.std.specs.Global.{Global}
use Rattle.std.specs.declared.vec.IntoIter.{IntoIter}
use Rattle.tp_config.specs.declared.port_type.CompId.{CompId}
use Rattle.tp_config.specs.declared.port_type.RouteId.{RouteId}
use Rattle.tp_config.specs.Routes.{routes_into}
use Rattle.tp_inbox.specs.Ledgers.{AreSenders, Inbox, SenderLedger}
use Rattle.tp_inbox.specs.Routed.{sources_of}
use Rattle.tp_behaviour.specs.Outboxes.{routes_of}
use Rattle.tp_exec.specs.ReturnedSenders.{CanTake, Gives, Leaves, ShareNone, links_by}
use Rattle.tp_exec.specs.Rounds.{links_in}
use Rattle.tp_exec.proofs.AllInboxSendersReturn.{are_senders, have_all, share_none}
use Rattle.tp_exec.proofs.settling.take_senders.Goals as goal

-- where these are the components with routes into the inbox
module _ (hands : List (IntoIter SenderLedger Global)) (i : Inbox) (cs : List CompId) (these : cs ≡ sources_of i.routes) where
  can_take : CanTake hands (links_in i) → CanTake hands (links_by i cs)
  can_take h = subst (λ (ds : List CompId). CanTake hands (links_by i ds)) (sym these) h

  leaves : (after : List (IntoIter SenderLedger Global)) → Leaves hands (links_by i cs) after → Leaves hands (links_in i) after
  leaves after h = subst (λ (ds : List CompId). Leaves hands (links_by i ds) after) these h

  gives : (ss : List SenderLedger) → Gives hands (links_by i cs) ss → Gives hands (links_in i) ss
  gives ss h = subst (λ (ds : List CompId). Gives hands (links_by i ds) ss) these h

  -- those that come back are the inbox's
  are : (ss : List SenderLedger) → CanTake hands (links_in i) → Gives hands (links_by i cs) ss → AreSenders i ss
  are ss can back = are_senders can.0 i ss (gives ss back can.0 can.1 can.2)

pub take_back-requires : goal.take_back-requires
take_back-requires c =
    let i = c.args.idle.now.owner.inbox in
    let same : i.routes ≡ c.in_ok-routes.routes.items =
    c.requires.routes ∙ sym (c.in_ok-routes.ensures.routes ∙ ap (routes_into c.args.config.now) c.comp.ensures) in
    let these : c.in_ok-sources.sources.items ≡ sources_of i.routes = c.in_ok-sources.ensures ∙ ap sources_of (c.as_slice.ensures.value ∙ sym same) in
    (i, can_take c.args.hands.now.items i c.in_ok-sources.sources.items these c.requires.held)

pub count_all-requires-clause-apart : goal.count_all-requires-clause-apart
count_all-requires-clause-apart c =
    let i = c.args.idle.now.owner.inbox in
    let same : i.routes ≡ c.in_ok-routes.routes.items =
    c.requires.routes ∙ sym (c.in_ok-routes.ensures.routes ∙ ap (routes_into c.args.config.now) c.comp.ensures) in
    let these : c.in_ok-sources.sources.items ≡ sources_of i.routes = c.in_ok-sources.ensures ∙ ap sources_of (c.as_slice.ensures.value ∙ sym same) in
    let ss = c.in_ok-senders.senders.items in
    let inbox = are c.args.hands.now.items i c.in_ok-sources.sources.items these ss c.requires.held (c.in_ok-senders.ensures.back i) in
    subst (AllPairs ShareNone) (sym c.as_slice-2.ensures.value) (share_none i ss inbox)

pub count_all-requires-clause-theirs : goal.count_all-requires-clause-theirs
count_all-requires-clause-theirs c =
    let i = c.args.idle.now.owner.inbox in
    let same : i.routes ≡ c.in_ok-routes.routes.items =
    c.requires.routes ∙ sym (c.in_ok-routes.ensures.routes ∙ ap (routes_into c.args.config.now) c.comp.ensures) in
    let these : c.in_ok-sources.sources.items ≡ sources_of i.routes = c.in_ok-sources.ensures ∙ ap sources_of (c.as_slice.ensures.value ∙ sym same) in
    let ss = c.in_ok-senders.senders.items in
    let inbox = are c.args.hands.now.items i c.in_ok-sources.sources.items these ss c.requires.held (c.in_ok-senders.ensures.back i) in
    subst (λ (ts : List SenderLedger). All (Contains (routes_of ts)) c.in_ok-routes.routes.items) (sym c.as_slice-2.ensures.value)
    (subst (All (Contains (routes_of ss))) same (have_all i ss inbox))

pub returns-clause-held : goal.returns-clause-held
returns-clause-held c =
    let i = c.args.idle.now.owner.inbox in
    let same : i.routes ≡ c.in_ok-routes.routes.items =
    c.requires.routes ∙ sym (c.in_ok-routes.ensures.routes ∙ ap (routes_into c.args.config.now) c.comp.ensures) in
    let these : c.in_ok-sources.sources.items ≡ sources_of i.routes = c.in_ok-sources.ensures ∙ ap sources_of (c.as_slice.ensures.value ∙ sym same) in
    leaves c.args.hands.now.items i c.in_ok-sources.sources.items these c.take_back.new.hands.items (c.in_ok-senders.ensures.held i)

pub returns-clause-back : goal.returns-clause-back
returns-clause-back c =
    let i = c.args.idle.now.owner.inbox in
    let same : i.routes ≡ c.in_ok-routes.routes.items =
    c.requires.routes ∙ sym (c.in_ok-routes.ensures.routes ∙ ap (routes_into c.args.config.now) c.comp.ensures) in
    let these : c.in_ok-sources.sources.items ≡ sources_of i.routes = c.in_ok-sources.ensures ∙ ap sources_of (c.as_slice.ensures.value ∙ sym same) in
    gives c.args.hands.now.items i c.in_ok-sources.sources.items these c.in_ok-senders.senders.items (c.in_ok-senders.ensures.back i)

pub returns-clause-routes : goal.returns-clause-routes
returns-clause-routes c =
    c.in_ok-counts.ensures.routes ∙ c.in_ok-routes.ensures.routes ∙ ap (routes_into c.args.config.now) c.comp.ensures ∙ sym c.requires.routes

pub returns-clause-counted : goal.returns-clause-counted
returns-clause-counted c = λ s r there has known.
    let i = c.args.idle.now.owner.inbox in
    let same : i.routes ≡ c.in_ok-routes.routes.items =
    c.requires.routes ∙ sym (c.in_ok-routes.ensures.routes ∙ ap (routes_into c.args.config.now) c.comp.ensures) in
    c.in_ok-counts.ensures.counted s r (subst (λ (ss : List SenderLedger). Contains ss s) (sym c.as_slice-2.ensures.value) there) has
    (subst (λ (rs : List RouteId). Contains rs r) same known)
