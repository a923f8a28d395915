-- Up to the first quote the text is written as it is, then another quote; without one, all is.
use Rattle.tp_value.proofs.WrittenValueTexts.{escaped_to_quote, escaped_no_quote}
use Rattle.tp_value.proofs.writing.cut_at_quote.Goals as goal

pub returns-in-None-clause-cut : goal.returns-in-None-clause-cut
returns-in-None-clause-cut c = escaped_no_quote c.args.text.now c.in-None.ensures

pub returns-in-Some-clause-cut : goal.returns-in-Some-clause-cut
returns-in-Some-clause-cut c =
    let e = escaped_to_quote c.in-Some.place c.args.text.now c.in-Some.ensures in
    rw (c.split_at.ensures.front, c.split_at.ensures.back) e
