-- The components of the routes so far are seen.
use Rattle.std.proofs.Common.{◌≡◌, take}
use Rattle.tp_inbox.specs.Routed.{sources_of}
use Rattle.tp_exec.proofs.returning.distinct_sources.Given as goal

abbrev pub invariant-loop-place : goal.invariant-loop-place
invariant-loop-place l = l.seen.keys ≡ sources_of (take l.place l.routes)
