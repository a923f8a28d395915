-- A turn of the floor's rule: the place of the pass changes as the number that rests does.
use Rattle.std.proofs.Common.{◌+◌, ◌-◌, rules, arith}
use Rattle.crossbeam_utils.specs.Seq.{cell_view}
use Rattle.tp_floor.proofs.CountsKeepFloorRule.{turns, alike}
use Rattle.tp_floor.proofs.floor.Floor.exchange.Goals as goal

pub compare_exchange_as-done-requires : goal.compare_exchange_as-done-requires
compare_exchange_as-done-requires g c =
    let seen = c.args.seen in
    let next = c.args.next in
    let was = cell_view c.args.pass.now in
    let counted = c.requires.counted in (
      search rules,
      (
        search rules,
        (search rules, turns _ _ was (next.resting + was - seen.resting) seen next (λ x e. alike x seen e) (λ le. omega (arith, counted))),
      ),
    )
