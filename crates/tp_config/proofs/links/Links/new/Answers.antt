-- One more port has nothing beside it, up to the last.
use Rattle.std.proofs.Common.{◌∙◌, [], ◌++◌, ◌∷◌, ap, arith, replicate}
use Rattle.tp_config.proofs.StoredPortLinks.{replicate_more}
use Rattle.tp_config.proofs.links.Links.new.Goals as goal

pub loop-preserved : goal.loop-preserved
loop-preserved c =
    c.in_ok-push.ensures.items ∙ ap (λ l. l ++ c.new.result ∷ []) c.loop.invariant ∙ ap (λ x. replicate c.loop.counter [] ++ x ∷ []) c.new.ensures
    ∙ replicate_more c.loop.counter []

pub returns : goal.returns
returns c = c.loop.invariant ∙ ap (λ n. replicate n []) (omega arith)
