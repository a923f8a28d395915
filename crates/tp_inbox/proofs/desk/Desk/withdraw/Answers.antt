-- The history and the clock are as before the sending.
use Rattle.std.proofs.Common.{◌∙◌, ◌-◌, arith, length, refl, subst, sym}
use Rattle.tp_inbox.specs.Desks.{IsKept}
use Rattle.tp_inbox.proofs.PortQueuesMatchLog.{noted_before, withdrawn}
use Rattle.tp_inbox.proofs.desk.Desk.withdraw.Goals as goal

pub overflow_sub-self : goal.overflow_sub-self
overflow_sub-self c =
    let s = c.requires.1 in
    let w = withdrawn _ _ _ _ c.requires.0 s.0 s.1 s.2 c.len-noted.result c.self.invariant c.self.view_is s.3
    (omega (arith, c.len-noted.ensures, c.self.inside.log.ok.0)) in
    let clock = w.2 in
    omega (arith, clock)

pub invariant_of-self : goal.invariant_of-self
invariant_of-self c =
    let s = c.requires.1 in
    let w = withdrawn _ _ _ _ c.requires.0 s.0 s.1 s.2 c.len-noted.result c.self.invariant c.self.view_is s.3
    (omega (arith, c.len-noted.ensures, c.self.inside.log.ok.0)) in
    subst (IsKept c.self.inside.ports.items (c.self.inside.clock - 1)) (sym c.truncate.ensures.items) w.3

pub returns : goal.returns
returns c =
    let s = c.requires.1 in
    let w = withdrawn _ _ _ _ c.requires.0 s.0 s.1 s.2 c.len-noted.result c.self.invariant c.self.view_is s.3
    (omega (arith, c.len-noted.ensures, c.self.inside.log.ok.0)) in
    noted_before _ _ c.requires.0 record { comp = c.self.inside.comp; ports = length c.self.inside.ports.items; log = c.truncate.new.self.items } s.0 s.1 s.2
    c.self.view_is s.3 refl refl (c.truncate.ensures.items ∙ w.0)
