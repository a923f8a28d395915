-- The ends of the route are those that the line tells.
use Rattle.std.proofs.Common.{ℕ, arith, sym, subst, ◌<◌, length, []}
use Rattle.std.proofs.lemmas.Option.{slice_get_within}
use Rattle.tp_judge.specs.Tree.{letter_of}
use Rattle.tp_judge.specs.Numbering.{IsMention, receiver_of}
use Rattle.tp_judge.proofs.NumberTableGrowth.{Grows-then, kept_length, receiver_below}
use Rattle.tp_judge.proofs.referee.tables.Tables.passed.Goals as goal

pub mention-requires-clause-receiver : goal.mention-requires-clause-receiver
mention-requires-clause-receiver c =
    let t = c.component.new.self in
    subst (λ n. n < length t.components) (sym c.ends-sender.ensures.receiver)
    (receiver_below c.args.fate c.args.here c.in_ok-other.other (length t.components)
    (kept_length c.args.self.now.components t.components c.args.here [] c.in_ok-other.ensures.grows.components c.requires.here)
    (slice_get_within t.components c.in_ok-other.other _ c.in_ok-other.ensures.there))

pub returns-clause-act : goal.returns-clause-act
returns-clause-act c =
    let t = c.mention.new.self in
    let m = c.in_ok-mention.mention in
    let letter = letter_of c.args.message.now in
    record {
      mention = m;
      is = c.act_of.ensures;
      other = c.in_ok-other.other;
      partner = c.in_ok-mention.ensures.grows.components _ _ c.in_ok-other.ensures.there;
      mentioned =
          subst (λ (n : ℕ). IsMention t n (receiver_of c.args.fate c.args.here c.in_ok-other.other) letter m) c.ends-sender.ensures.sender
          (subst (λ (n : ℕ). IsMention t c.ends-sender.result.0 n letter m) c.ends-sender.ensures.receiver c.in_ok-mention.ensures.mention);
    }

pub returns-clause-grows : goal.returns-clause-grows
returns-clause-grows c = Grows-then 1 4 5 _ _ _ (omega arith) c.in_ok-other.ensures.grows c.in_ok-mention.ensures.grows
