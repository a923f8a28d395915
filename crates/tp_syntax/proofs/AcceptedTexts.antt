-- A text that is read as a module isn't refused: its tokens are within the limits, and it goes on with any of them.
use Rattle.std.proofs.Common.{inl, inr, ◌≡◌, ℕ, Bool, false, List, [], ◌∷◌, ◌++◌, Option, None, refl, sym, subst}
use Rattle.tp_syntax.specs.declared.script_fault.ScriptFault.TheVariants.{Refused}
use Rattle.tp_syntax.specs.declared.stuck.Stuck.TheVariants.{At}
use Rattle.tp_syntax.specs.Lexeme.{PlacedLexeme}
use Rattle.tp_syntax.specs.Reading.{Tree}
use Rattle.tp_syntax.specs.Refusal.{Agree, agree_last, agree_more, Begins, begins_end, begins_more, BeginsText, IsText, NoneGoesOn}
use Rattle.tp_syntax.specs.Faults.{AreAllowed, AreTokensSeen, AreWithin, IsAllowed, IsCut, is_minus, opened_behind}
use Rattle.tp_syntax.specs.SettledTokens.{settled}
use Rattle.tp_syntax.specs.ReadTexts.{ReadTextsAreAccepted}
use Rattle.tp_syntax.proofs.AcceptedTokenTexts.{good_texts_are_accepted}
use Rattle.tp_syntax.proofs.UniqueTokens.{tokens_are_unique}

-- tokens agree with themselves up to any of them
with_itself : {n : ℕ} {ts us : List PlacedLexeme} → Begins n ts us → Agree n ts ts
with_itself (begins_end e) = agree_last e refl
with_itself (begins_more e h) = agree_more refl (with_itself h)

-- so a text doesn't fail to go on
text_goes_on : {ts : List PlacedLexeme} {t : Tree} {left : ℕ} → IsText ts t → BeginsText ts (At left) → NoneGoesOn ts (At left) → ⊥
text_goes_on {ts} {t} is begins none = none ts t (with_itself begins.2) is

-- of tokens within the limits each is
allowed_there : (opened : ℕ) (signed : Bool) (passed : List PlacedLexeme) (t : PlacedLexeme) (rest : List PlacedLexeme)
    (there end : ℕ) (signed_there signed_end : Bool) → AreAllowed opened signed passed there signed_there
    → AreAllowed opened signed (passed ++ t ∷ rest) end signed_end → IsAllowed there signed_there t.token
allowed_there opened signed [] t rest there end signed_there signed_end before all =
    subst (λ n. IsAllowed n signed_there t.token) before.0 (subst (λ s. IsAllowed opened s t.token) before.1 all.0)
allowed_there opened signed (u ∷ us) t rest there end signed_there signed_end before all =
    allowed_there (opened_behind opened u.token) (is_minus u.token) us t rest there end signed_there signed_end before.1 all.1

none_is_cut : {ts front : List PlacedLexeme} {beyond : Option ℕ} → AreWithin ts → IsCut ts front beyond → ⊥
none_is_cut within c =
    c.beyond_limits (allowed_there 0 false c.passed c.token c.rest c.opened within.0 c.signed within.1 c.allowed
    (subst (λ (us : List PlacedLexeme). AreAllowed 0 false us within.0 within.1) c.is within.2))

no_fault : {ts front : List PlacedLexeme} {beyond : Option ℕ} {left : ℕ} {t : Tree} → AreTokensSeen ts front beyond → AreWithin ts → IsText (settled ts) t
    → BeginsText (settled front) (At left) → (beyond ≡ None → NoneGoesOn (settled front) (At left)) → ⊥
no_fault {left = left} {t = t} (inl all) within is begins none =
    text_goes_on (subst (λ (us : List PlacedLexeme). IsText (settled us) t) (sym all.0) is) begins (none all.1)
no_fault (inr c) within is begins none = none_is_cut within c

pub read_texts_are_accepted : ReadTextsAreAccepted
read_texts_are_accepted text m rule line read (inl refused) =
    good_texts_are_accepted text read.tokens (Refused rule line) read.has.are read.has.limits read.has.short refused
read_texts_are_accepted text m rule line read (inr (tokens, has, fault)) =
    let same : read.tokens ≡ tokens = tokens_are_unique text read.tokens tokens read.has.are has.are in
    no_fault fault.seen (subst AreWithin same read.within) (subst (λ (us : List PlacedLexeme). IsText (settled us) _) same read.spelled) fault.begins (λ e. fault.none (inl e))
