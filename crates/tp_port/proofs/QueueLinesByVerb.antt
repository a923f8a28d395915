-- Which lines a verb has.
use Rattle.std.proofs.Common.{◌≡◌, ℕ, Bool, true, false, List, [], refl, ap, sym, ◌∙◌}
use Rattle.tp_port.specs.declared.command.CommandVerb.{CommandVerb}
use Rattle.tp_port.specs.declared.command.CommandVerb.TheVariants as verb
use Rattle.tp_common.specs.Cutting.{words_of}
use Rattle.tp_port.specs.QueueLine.{QueueLine, arrive, receive, check, trigger, clear, start, stop, halt, operands, verb_of}
use Rattle.tp_port.proofs.SplitTextHasWords.{some_word}

-- the verb has no operands
abbrev is_bare : CommandVerb → Bool
is_bare verb.Arrive = false
is_bare verb.Receive = false
is_bare verb.Check = false
is_bare verb.Trigger = false
is_bare verb.Clear = true
is_bare verb.Start = true
is_bare verb.Stop = true
is_bare verb.Halt = true

bare_operands : (a : QueueLine) → is_bare (verb_of a) ≡ true → operands a ≡ []
bare_operands (arrive name n) e = absurd (cc)
bare_operands (receive wish) e = absurd (cc)
bare_operands (check wish) e = absurd (cc)
bare_operands (trigger wish) e = absurd (cc)
bare_operands clear e = refl
bare_operands start e = refl
bare_operands stop e = refl
bare_operands halt e = refl

bare_verb : (a : QueueLine) → operands a ≡ [] → is_bare (verb_of a) ≡ true
bare_verb (arrive name n) e = absurd (cc)
bare_verb (receive wish) e = absurd (cc)
bare_verb (check wish) e = absurd (cc)
bare_verb (trigger wish) e = absurd (cc)
bare_verb clear e = refl
bare_verb start e = refl
bare_verb stop e = refl
bare_verb halt e = refl

-- where words follow, no line of a verb without operands is spelled
pub alone_words : (rest : List ℕ) (words : List (List ℕ)) (line known : QueueLine) → verb_of line ≡ verb_of known
    → operands known ≡ [] → words ≡ words_of rest → words ≡ operands line → ⊥
alone_words rest words line known same none is spelled =
    some_word rest (sym is ∙ spelled ∙ bare_operands line (ap is_bare same ∙ bare_verb known none))
