-- The number of a name is its place in the list, and a name with no place is not there.
use Rattle.std.proofs.Common.{◌∙◌, ap, subst}
use Rattle.std.specs.Str.{bytes_eq}
use Rattle.tp_checks.specs.Tables.{AreDistinct, place_of_name}
use Rattle.tp_checks.proofs.NameSetLookups.{place_known, place_unknown}
use Rattle.tp_checks.proofs.FirstPlacesOfNames.{position_is_place, position_is_nowhere}
use Rattle.tp_checks.proofs.name_set.NameSet.find.Goals as goal
use Rattle.tp_config.proofs.ComponentAndPortLookups.{position_map}

pub returns-in-Some-clause-place : goal.returns-in-Some-clause-place
returns-in-Some-clause-place c =
    c.in-Some.ensures.index ∙ position_map (λ n. n.now) (bytes_eq c.args.name.now) c.self.inside.names.keys
    ∙ ap (λ l. place_of_name l c.args.name.now) c.self.view_is

pub returns-in-Some-clause-known : goal.returns-in-Some-clause-known
returns-in-Some-clause-known c = (λ _. place_known c.args.self.now c.args.name.now c.in-Some.place (returns-in-Some-clause-place c), λ _. cc)

pub returns-in-Some-clause-distinct : goal.returns-in-Some-clause-distinct
returns-in-Some-clause-distinct c = subst AreDistinct c.self.view_is c.self.invariant.distinct

pub returns-in-None-clause-place : goal.returns-in-None-clause-place
returns-in-None-clause-place c =
    c.in-None.ensures.index ∙ position_map (λ n. n.now) (bytes_eq c.args.name.now) c.self.inside.names.keys
    ∙ ap (λ l. place_of_name l c.args.name.now) c.self.view_is

pub returns-in-None-clause-known : goal.returns-in-None-clause-known
returns-in-None-clause-known c = (λ h. (cc), λ h. absurd (place_unknown c.args.self.now c.args.name.now (returns-in-None-clause-place c) h))

pub returns-in-None-clause-distinct : goal.returns-in-None-clause-distinct
returns-in-None-clause-distinct c = subst AreDistinct c.self.view_is c.self.invariant.distinct

pub returns-in-Some-clause-there : goal.returns-in-Some-clause-there
returns-in-Some-clause-there c = position_is_place c.args.self.now c.args.name.now c.in-Some.place (returns-in-Some-clause-place c)

pub returns-in-None-clause-absent : goal.returns-in-None-clause-absent
returns-in-None-clause-absent c = position_is_nowhere c.args.self.now c.args.name.now (returns-in-None-clause-place c)
