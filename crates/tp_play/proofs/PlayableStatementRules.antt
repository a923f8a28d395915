-- What an executor takes out of a body that can be played, as rules on statements that are known by an equation.
use Rattle.std.proofs.Common.{◌≡◌, ℕ, ◌+◌, ◌<◌, ℤ, List, Option, Some, None, All, length, refl}
use Rattle.std.proofs.lemmas.Option.{slice_get_within}
use Rattle.tp_value.specs.declared.types.Ty.{Ty}
use Rattle.tp_common.specs.declared.operation.PortOperation.{PortOperation}
use Rattle.tp_play.specs.declared.body.SendMsg.{SendMsg}
use Rattle.tp_play.specs.declared.body.RecvTemplate.{RecvTemplate}
use Rattle.tp_play.specs.declared.body.RecvMsg.{RecvMsg}
use Rattle.tp_play.specs.declared.body.RecvMsg.TheVariants as wanted
use Rattle.tp_play.specs.declared.body.Sent.{Sent}
use Rattle.tp_play.specs.declared.body.Sent.TheVariants as sent
use Rattle.tp_play.specs.declared.body.Receiver.{Receiver}
use Rattle.tp_play.specs.declared.body.Receiver.TheVariants as to
use Rattle.tp_play.specs.declared.body.SendOperation.{SendOperation}
use Rattle.tp_play.specs.declared.body.Receiving.{Receiving}
use Rattle.tp_play.specs.declared.body.ResolvedStatement.{ResolvedStatement}
use Rattle.tp_play.specs.declared.body.ResolvedStatement.TheVariants as b
use Rattle.tp_play.specs.declared.body.ResolvedBranch.{ResolvedBranch}
use Rattle.tp_play.specs.declared.body.VariableType.TheVariants as kind
use Rattle.tp_play.specs.Playable.{Stage, HoldsValues, HoldsComponents, CanWrite, CanSay, CanAddress, CanSend, CanExpect, CanKeepValue, CanKeepSender, CanReceive, CanPlay, CanEnter, CanPlayAll, CanEnterAll}
use Rattle.tp_play.proofs.PlayableStatementEquations.{play_send, play_receive, play_control, play_alt, play_alt_else, play_for, enter_branch, Each-all}

module _ (s : Stage) (n : ℕ) where
  pub plays_send : (x : ResolvedStatement) (y : SendOperation) → x ≡ b.Send y → CanPlay s n x → CanSend s n y
  plays_send x y e h = rw (e, play_send) at h

  pub plays_receive : (x : ResolvedStatement) (y : Receiving) → x ≡ b.Receive y → CanPlay s n x → CanReceive s n y
  plays_receive x y e h = rw (e, play_receive) at h

  pub plays_control : (x : ResolvedStatement) (k : ℕ) (o : PortOperation) → x ≡ b.Control k o → CanPlay s n x → k < s.ports
  plays_control x k o e h = rw (e, play_control) at h

  pub plays_alt : (x : ResolvedStatement) (branches : List ResolvedBranch) (otherwise : Option (List ResolvedStatement)) → x ≡ b.Alt branches otherwise → CanPlay s n x
      → CanEnterAll s n branches
  plays_alt x branches None e h = (rw (e, play_alt) at h).0
  plays_alt x branches (Some block) e h = (rw (e, play_alt_else) at h).0

  pub plays_else : (x : ResolvedStatement) (branches : List ResolvedBranch) (block : List ResolvedStatement) → x ≡ b.Alt branches (Some block) → CanPlay s n x → CanPlayAll s n block
  plays_else x branches block e h = (rw (e, play_alt_else) at h).1

  pub plays_for : (x : ResolvedStatement) (first bound : ℤ) (block : List ResolvedStatement) → x ≡ b.For first bound block → CanPlay s n x → CanPlayAll s (n + 1) block
  plays_for x first bound block e h = rw (e, play_for) at h

  pub enters_receive : (x : ResolvedBranch) → CanEnter s n x → CanReceive s n x.receiving
  enters_receive x h = (rw enter_branch at h).0

  pub enters_block : (x : ResolvedBranch) → CanEnter s n x → CanPlayAll s n x.block
  enters_block x h = (rw enter_branch at h).1

  -- each statement of a block, and each branch of an `alt`, as words on lists say it
  pub plays_each : (xs : List ResolvedStatement) → CanPlayAll s n xs → All (CanPlay s n) xs
  plays_each xs h = Each-all (λ x m. CanPlay s m x) n xs h

  pub enters_each : (xs : List ResolvedBranch) → CanEnterAll s n xs → All (CanEnter s n) xs
  enters_each xs h = Each-all (λ x m. CanEnter s m x) n xs h

  pub says_written : (x : Sent) (m : SendMsg) → x ≡ sent.Written m → CanSay s n x → CanWrite s n m
  says_written x m e h = rw e at h

  pub says_variable : (x : Sent) (k : ℕ) → x ≡ sent.Variable k → CanSay s n x → (u : Ty) × HoldsValues s k u
  says_variable x k e h = rw e at h

module _ (s : Stage) where
  pub addresses_reference : (x : Receiver) (k : ℕ) → x ≡ to.Reference k → CanAddress s x → k < s.references
  addresses_reference x k e h = rw e at h

  pub addresses_variable : (x : Receiver) (k : ℕ) → x ≡ to.Variable k → CanAddress s x → HoldsComponents s k
  addresses_variable x k e h = rw e at h

  pub expects_reference : (x : Option ℕ) (k : ℕ) → x ≡ Some k → CanExpect s x → k < s.references
  expects_reference x k e h = rw e at h

  -- a value is kept only where a type is wanted, and that is the variable's
  pub keeps_value : (x : RecvMsg) (y : Option ℕ) (k : ℕ) → y ≡ Some k → CanKeepValue s x y
      → (u : Ty) × (r : RecvTemplate) × (x ≡ wanted.Of u r) × HoldsValues s k u
  keeps_value wanted.Any y k e h = absurd (rw e at h)
  keeps_value (wanted.Of u r) y k e h = (u, r, refl, rw e at h)

  pub keeps_sender : (x : Option ℕ) (k : ℕ) → x ≡ Some k → CanKeepSender s x → HoldsComponents s k
  keeps_sender x k e h = rw e at h

  -- a variable that holds something is one of the body's
  pub values_within : (k : ℕ) (u : Ty) → HoldsValues s k u → k < length s.variables
  values_within k u h = slice_get_within s.variables k (kind.Message u) h

  pub components_within : (k : ℕ) → HoldsComponents s k → k < length s.variables
  components_within k h = slice_get_within s.variables k kind.Component h

pub ruleset playing = (
  plays_send,
  plays_receive,
  plays_control,
  plays_alt,
  plays_else,
  plays_for,
  enters_receive,
  enters_block,
  plays_each,
  enters_each,
  says_written,
  says_variable,
  addresses_reference,
  addresses_variable,
  expects_reference,
  keeps_value,
  keeps_sender,
  values_within,
  components_within,
)
