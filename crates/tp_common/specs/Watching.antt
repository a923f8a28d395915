-- What is written through a watched writer, and whether it has failed.
use Rattle.std.specs.Prelude.{◌≡◌, ℕ, false, Option, List, ◌++◌, IsTrue}
use Rattle.std.specs.Io.KnownBytes.{Appends, Keeps}
use Rattle.tp_common.specs.declared.watched.Watched.{Watched}

-- the reader or writer has failed: it returned an error, or, as a writer, took no byte
abbrev pub HasFailed : {T : Type 0} → Watched T → Type 0
HasFailed w = IsTrue w.failed

-- the bytes that the reader still has, if they are known
abbrev pub reader_left : {R : Type 0} → (R → Option (List ℕ)) → Watched R → Option (List ℕ)
reader_left remaining r = remaining r.inner

-- the bytes that the writer contains, if they are known
abbrev pub held_by : {W : Type 0} → (W → Option (List ℕ)) → Watched W → Option (List ℕ)
held_by contents w = contents w.inner

-- a front of the text is appended to the known bytes
pub record AppendsFront (old new : Option (List ℕ)) (text : List ℕ) : Type 0 where
  pub front : List ℕ
  pub rest : List ℕ
  pub is : text ≡ front ++ rest
  pub added : Appends old new front

-- a front of the text is written, and all of it unless the writer has failed; a writer that had failed before writes
-- nothing, and stays failed
pub record Writes {W : Type 0} (contents : W → Option (List ℕ)) (old new : Watched W) (text : List ℕ) : Type 0 where
  pub front : AppendsFront (contents old.inner) (contents new.inner) text
  pub whole : new.failed ≡ false → Appends (contents old.inner) (contents new.inner) text
  pub kept : HasFailed old → Keeps (contents old.inner) (contents new.inner)
  pub still : HasFailed old → HasFailed new
