-- What is answered, and what comes of it through a buffer.
use Rattle.std.proofs.Common.{◌≡◌, ℕ, Bool, false, Option, Some, None, Result, Ok, Err, List, [], ◌++◌, IsTrue, inl, inr, refl, sym, ap, ◌∙◌, append_assoc, subst}
use Rattle.std.specs.Prelude.{MatchOption}
use Rattle.std.specs.Global.{Global}
use Rattle.std.specs.declared.io.buffered.BufWriter.{BufWriter}
use Rattle.std.specs.Io.Buffered.{writer_contents}
use Rattle.std.specs.Io.KnownBytes.{Appends, Keeps, append_known}
use Rattle.tp_common.specs.declared.watched.Watched.{Watched}
use Rattle.tp_common.specs.Watching.{AppendsFront, HasFailed, Writes, reader_left}
use Rattle.tp_common.proofs.WatchedWriterGrowth.{not_both, writes_first}
use Rattle.tp_port.specs.declared.replay.QueueFault.{QueueFault}
use Rattle.tp_port.specs.declared.replay.QueueFault.TheVariants as q
use Rattle.tp_port.specs.Faults.{HasFault, IsReplayed}
use Rattle.tpr.specs.declared.handing.FailedWriter.{FailedWriter}
use Rattle.tpr.specs.Handed.{BeginsWith, IsAnswered, IsFinished, IsHanded, IsJust}
use Rattle.tpr.specs.FaultLines.{HasLine, IsQueueAnswer, fault_status, fault_text}

module _ {W : Type 0} (contents : W → Option (List ℕ)) where
  -- a line is written, and then nothing more
  pub answered : (old mid new : Watched W) (line : List ℕ) (code : ℕ) (given : Option ℕ) → Writes contents old mid line → Writes contents mid new []
      → MatchOption given (HasFailed new) (λ s. (s ≡ code) × (new.failed ≡ false)) → IsAnswered contents (IsJust line code) old new given
  answered old mid new line code given first last told =
      record { text = line; status = code; allowed = (refl, refl); written = writes_first contents old mid new line first last; told = told }

  -- what is just this may be printed where this may
  pub answered_as : (may : List ℕ → ℕ → Type 0) (line : List ℕ) (code : ℕ) (old new : Watched W) (given : Option ℕ)
      → ((text : List ℕ) (status : ℕ) → text ≡ line → status ≡ code → may text status) → IsAnswered contents (IsJust line code) old new given
      → IsAnswered contents may old new given
  answered_as may line code old new given allows h =
      record {
        text = h.text;
        status = h.status;
        allowed = allows h.text h.status h.allowed.0 h.allowed.1;
        written = h.written;
        told = h.told;
      }

  -- the same of anything that may be printed
  pub answered_more : (may more : List ℕ → ℕ → Type 0) (old new : Watched W) (given : Option ℕ)
      → ((text : List ℕ) (status : ℕ) → may text status → more text status) → IsAnswered contents may old new given → IsAnswered contents more old new given
  answered_more may more old new given allows h =
      record { text = h.text; status = h.status; allowed = allows h.text h.status h.allowed; written = h.written; told = h.told }

-- what a buffer writes to has got what was printed into it
module _ {W : Type 0} (contents : W → Option (List ℕ)) (may : List ℕ → ℕ → Type 0) (before : BufWriter W Global) (old new : Watched (BufWriter W Global))
    (given : Option ℕ) (first : old.inner ≡ before) (h : IsAnswered (writer_contents contents) may old new given) where
  no_status : given ≡ None → HasFailed new
  no_status none = subst (λ (o : Option ℕ). MatchOption o (HasFailed new) (λ r. (r ≡ h.status) × (new.failed ≡ false))) none h.told

  pub handed : (result : Result (ℕ × W) (FailedWriter W)) → IsFinished contents new given result
      → IsHanded contents may (writer_contents contents before) result
  handed (Ok (s, w)) finished =
      let told : (s ≡ h.status) × (new.failed ≡ false) =
      subst (λ (o : Option ℕ). MatchOption o (HasFailed new) (λ r. (r ≡ h.status) × (new.failed ≡ false))) finished.0 h.told in
      record {
        text = h.text;
        status = h.status;
        allowed = h.allowed;
        told = (
          told.0,
          (
            writer_contents contents new.inner,
            subst (λ (b : BufWriter W Global). Appends (writer_contents contents b) (writer_contents contents new.inner) h.text) first (h.written.whole told.1),
            finished.1,
          ),
        );
      }
  handed (Err failed) finished = record {
    text = h.text;
    status = h.status;
    allowed = h.allowed;
    told = (
      finished.0 no_status,
      (
        writer_contents contents new.inner,
        subst (λ (b : BufWriter W Global). AppendsFront (writer_contents contents b) (writer_contents contents new.inner) h.text) first h.written.front,
        finished.1,
      ),
    );
  }

failed_again : (given : Option ℕ) (code other : ℕ) (failed : Bool) → IsTrue failed → MatchOption given (IsTrue failed) (λ s. (s ≡ code) × (failed ≡ false))
    → MatchOption given (IsTrue failed) (λ s. (s ≡ other) × (failed ≡ false))
failed_again None code other failed has told = told
failed_again (Some s) code other failed has told = absurd (not_both failed has told.1)

module _ {W R : Type 0} (contents : W → Option (List ℕ)) (remaining : R → Option (List ℕ)) (asked left : Watched R) where
  abbrev May : List ℕ → ℕ → Type 0
  May = IsQueueAnswer remaining asked left

  -- a queue file is answered
  pub replayed : (start mid done : Watched W) (given : Option ℕ) → IsReplayed contents (reader_left remaining asked) start mid → Writes contents mid done []
      → MatchOption given (HasFailed done) (λ s. (s ≡ 0) × (done.failed ≡ false)) → IsAnswered contents May start done given
  replayed start mid done given h last told =
      record {
        text = h.answer;
        status = 0;
        allowed = inl (refl, h.is);
        written = writes_first contents start mid done h.answer h.written last;
        told = told;
      }

  told_fault : (fault : QueueFault) (start mid done : Watched W) (given : Option ℕ) → HasLine fault → (fault ≡ q.Write → ⊥)
      → HasFault (reader_left remaining asked) (reader_left remaining left) fault → (fault ≡ q.Read → HasFailed left)
      → ((fault ≡ q.Write → ⊥) → mid ≡ start) → IsAnswered contents (IsJust (fault_text fault) (fault_status fault)) mid done given
      → IsAnswered contents May start done given
  told_fault fault start mid done given line other found unread unwritten h =
      answered_as contents May (fault_text fault) (fault_status fault) start done given
      (λ text status is code. inr (record { fault = fault; is_told = line; found = found; unread = unread; code = code; line = is }))
      (subst (λ (w : Watched W). IsAnswered contents (IsJust (fault_text fault) (fault_status fault)) w done given) (unwritten other) h)

  -- or it has a fault; where that is the writer's, a front of the answers is written
  pub not_replayed : (fault : QueueFault) (start mid done : Watched W) (given : Option ℕ)
      → HasFault (reader_left remaining asked) (reader_left remaining left) fault → (fault ≡ q.Read → HasFailed left)
      → (fault ≡ q.Write → IsReplayed contents (reader_left remaining asked) start mid) → (fault ≡ q.Write → HasFailed mid)
      → ((fault ≡ q.Write → ⊥) → mid ≡ start) → IsAnswered contents (IsJust (fault_text fault) (fault_status fault)) mid done given
      → IsAnswered contents May start done given
  not_replayed (q.BadLine n) start mid done given found unread cut failed unwritten h =
      told_fault (q.BadLine n) start mid done given tt (λ e. absurd (cc)) found unread unwritten h
  not_replayed q.Read start mid done given found unread cut failed unwritten h =
      told_fault q.Read start mid done given tt (λ e. absurd (cc)) found unread unwritten h
  not_replayed q.Limit start mid done given found unread cut failed unwritten h =
      told_fault q.Limit start mid done given tt (λ e. absurd (cc)) found unread unwritten h
  not_replayed q.Memory start mid done given found unread cut failed unwritten h =
      told_fault q.Memory start mid done given tt (λ e. absurd (cc)) found unread unwritten h
  not_replayed q.Write start mid done given found unread cut failed unwritten h =
      replayed start mid done given (cut refl) (subst (Writes contents mid done) h.allowed.0 h.written)
      (failed_again given h.status 0 done.failed (h.written.still (failed refl)) h.told)
