-- The next name is the one that is looked for or is not, and after the last there is none.
use Rattle.std.proofs.{Common.arith, Common.sym, Common.◌∙◌, lemmas.Option.slice_get-get_or}
use Rattle.tp_checks.proofs.NameSearchGrowth.{one_more, found, nowhere}
use Rattle.tp_checks.proofs.name.find.Goals as goal

pub returns-then-is_called-clause-there : goal.returns-then-is_called-clause-there
returns-then-is_called-clause-there c =
    found (λ n. n.text.now) c.args.names.now c.args.name.now c.loop-place.place _ (slice_get-get_or c.args.names.now c.loop-place.place _ (omega arith))
    (sym c.is_called.ensures ∙ c.if-is_called.true) c.loop-place.invariant

pub loop-place-preserved : goal.loop-place-preserved
loop-place-preserved c =
    one_more (λ n. n.text.now) c.args.names.now c.args.name.now c.loop-place.place _ (slice_get-get_or c.args.names.now c.loop-place.place _ (omega arith))
    (sym c.is_called.ensures ∙ c.if-is_called.false) c.loop-place.invariant

pub returns-clause-absent : goal.returns-clause-absent
returns-clause-absent c = nowhere (λ n. n.text.now) c.args.names.now c.args.name.now c.loop-place.place (omega arith) c.loop-place.invariant
