-- The place of a name among the entries is the number of its type.
use Rattle.std.proofs.Common.{string_bytes, ◌∙◌}
use Rattle.tp_value.proofs.TypeNameLookups.{number_is, name_there, name_known, name_unknown}
use Rattle.tp_value.proofs.types.Types.find.Goals as goal

pub returns-in-Some-clause-number : goal.returns-in-Some-clause-number
returns-in-Some-clause-number c =
    c.in-Some.ensures.index ∙ number_is string_bytes c.self.inside.definitions.entries c.args.self.now c.args.name.now c.self.view_is

pub returns-in-Some-clause-there : goal.returns-in-Some-clause-there
returns-in-Some-clause-there c = name_there c.args.self.now c.args.name.now c.in-Some.number (returns-in-Some-clause-number c)

pub returns-in-Some-clause-known : goal.returns-in-Some-clause-known
returns-in-Some-clause-known c = (λ _. name_known c.args.self.now c.args.name.now c.in-Some.number (returns-in-Some-clause-number c), λ _. cc)

pub returns-in-None-clause-number : goal.returns-in-None-clause-number
returns-in-None-clause-number c =
    c.in-None.ensures.index ∙ number_is string_bytes c.self.inside.definitions.entries c.args.self.now c.args.name.now c.self.view_is

pub returns-in-None-clause-known : goal.returns-in-None-clause-known
returns-in-None-clause-known c = (λ h. (cc), λ h. absurd (name_unknown c.args.self.now c.args.name.now (returns-in-None-clause-number c) h))
