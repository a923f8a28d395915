-- After a token within the limits the text goes on; else the tokens are cut after it.
use Rattle.std.proofs.Common.{inl, inr, ◌≤◌, refl, subst, sym, arith}
use Rattle.std.proofs.lemmas.Bool.{iff_false}
use Rattle.tp_syntax.proofs.TokensPassedWithinLimits.{all_gone, cut_there, few_behind, none_gone, one_gone}
use Rattle.tp_syntax.proofs.faults.front_of.Goals as goal

pub more-init : goal.more-init
more-init c = record {
  gone = none_gone c.args.tokens.items;
  few = omega arith;
  within = omega arith;
}

pub more-preserved : goal.more-preserved
more-preserved c =
    let allowed = c.is_allowed.ensures.0 c.if-not-is_allowed.false in record {
      gone = one_gone c.args.tokens.items c.more.place c.more.opened c.more.is_signed _ _ _ c.more.invariant.gone
          (omega (arith, c.more-test.true)) c.index-placed.ensures allowed c.opened_behind-opened.ensures c.is_minus-is_signed.ensures;
      few = subst (λ n. n ≤ 32) (sym c.opened_behind-opened.ensures) (few_behind c.more.opened c.more.is_signed _ c.more.invariant.few allowed);
      within = omega (arith, c.more-test.true);
    }

pub returns-then-not-is_allowed : goal.returns-then-not-is_allowed
returns-then-not-is_allowed c =
    inr (cut_there c.args.tokens.items c.more.place c.more.opened c.more.is_signed c.index-placed.result.now _ _ c.more.invariant.gone
    (omega (arith, c.more-test.true)) c.index-placed.ensures (iff_false c.is_allowed.ensures c.if-not-is_allowed.true) c.cut_behind.ensures)

pub returns : goal.returns
returns c =
    inl (refl, refl, all_gone c.args.tokens.items c.more.place c.more.opened c.more.is_signed c.more.invariant.gone (omega (arith, c.more-test.false)))
