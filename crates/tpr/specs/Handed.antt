-- How much is written of a text that a mode may print, and how much of it the writer under a buffer has got.
use Rattle.std.specs.Prelude.{◌≡◌, ℕ, false, Option, Some, None, List, ◌++◌, MatchOption, MatchResult, Result}
use Rattle.std.specs.Global.{Global}
use Rattle.std.specs.declared.io.buffered.BufWriter.{BufWriter}
use Rattle.std.specs.Io.Buffered.{writer_contents}
use Rattle.std.specs.Io.KnownBytes.{Appends, Keeps}
use Rattle.tp_common.specs.declared.watched.Watched.{Watched}
use Rattle.tp_common.specs.Watching.{AppendsFront, HasFailed, Writes}
use Rattle.tpr.specs.declared.handing.FailedWriter.{FailedWriter}
use Rattle.tpr.specs.declared.handing.FailedWriter.TheVariants as failed_writer

-- this text and this status, and no other
abbrev pub IsJust : List ℕ → ℕ → List ℕ → ℕ → Type 0
IsJust line code text status = (text ≡ line) × (status ≡ code)

-- one text that may be printed is written: all of it if a status is returned, which is that of the text; otherwise a
-- front of it, and the writer has failed
pub record IsAnswered {W : Type 0} (contents : W → Option (List ℕ)) (may : List ℕ → ℕ → Type 0) (old new : Watched W)
    (given : Option ℕ) : Type 0 where
  pub text : List ℕ
  pub status : ℕ
  pub allowed : may text status
  pub written : Writes contents old new text
  pub told : MatchOption given (HasFailed new) (λ s. (s ≡ status) × (new.failed ≡ false))

-- the writer under a buffer has got everything: what was written through the buffer before, and this text
abbrev pub HasGot : Option (List ℕ) → Option (List ℕ) → List ℕ → Type 0
HasGot old got text = (held : Option (List ℕ)) × Appends old held text × Keeps held got

-- what was written begins with what the writer has got, if it is known what was written
abbrev pub BeginsWith : Option (List ℕ) → Option (List ℕ) → Type 0
BeginsWith None got = Unit {0}
BeginsWith (Some held) None = ⊥
BeginsWith (Some held) (Some got) = (rest : List ℕ) × (held ≡ got ++ rest)

-- the writer under a buffer has got a front of what was written through the buffer: what was before, and then a front
-- of this text
abbrev pub HasGotFront : Option (List ℕ) → Option (List ℕ) → List ℕ → Type 0
HasGotFront old got text = (held : Option (List ℕ)) × AppendsFront old held text × BeginsWith held got

-- what the writer under the buffer has got
abbrev pub got_by : {W : Type 0} → (W → Option (List ℕ)) → FailedWriter W → Option (List ℕ)
got_by contents (failed_writer.Buffer b) = contents b.inner.inner
got_by contents (failed_writer.Writer w) = contents w.inner

-- the buffer or the writer under it returned an error, or took no byte
abbrev pub IsFailed : {W : Type 0} → FailedWriter W → Type 0
IsFailed (failed_writer.Buffer b) = HasFailed b
IsFailed (failed_writer.Writer w) = HasFailed w

-- the writer has got everything that was written through the buffer, and the status is returned; or the writer has
-- failed, or the buffer had failed before, and the writer has got a front of it
abbrev pub IsFinished : {W : Type 0} → (W → Option (List ℕ)) → Watched (BufWriter W Global) → Option ℕ
    → Result (ℕ × W) (FailedWriter W) → Type 0
IsFinished contents buffer status given = MatchResult given
    (λ handed. (status ≡ Some handed.0) × Keeps (writer_contents contents buffer.inner) (contents handed.1))
    (λ failed. ((status ≡ None → HasFailed buffer) → IsFailed failed)
    × BeginsWith (writer_contents contents buffer.inner) (got_by contents failed))

-- one text that may be printed has gone through a buffer: all of it, with the status of the text; or, only if the
-- buffer or its writer has failed, a front of it
pub record IsHanded {W : Type 0} (contents : W → Option (List ℕ)) (may : List ℕ → ℕ → Type 0) (old : Option (List ℕ))
    (given : Result (ℕ × W) (FailedWriter W)) : Type 0 where
  pub text : List ℕ
  pub status : ℕ
  pub allowed : may text status
  pub told : MatchResult given
      (λ handed. (handed.0 ≡ status) × HasGot old (contents handed.1) text)
      (λ failed. IsFailed failed × HasGotFront old (got_by contents failed) text)
