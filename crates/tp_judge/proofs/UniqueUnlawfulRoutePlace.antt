-- Of a route one place alone can be told.
use Rattle.std.proofs.Common.{◌≡◌, ◌≢◌, ◌⊎◌, ℕ, ◌<◌, List, refl, ap, sym, ◌∙◌, subst, ⊎_elim, arith}
use Rattle.std.specs.Prelude.{slice_get}
use Rattle.std.proofs.lemmas.Option.{same_Some}
use Rattle.tp_judge.specs.declared.line.Parcel.{Parcel}
use Rattle.tp_judge.specs.declared.line.IndexedLine.{IndexedLine}
use Rattle.tp_judge.specs.declared.place.Rule.{Rule}
use Rattle.tp_judge.specs.declared.place.Rule.TheVariants as rule
use Rattle.tp_judge.specs.declared.place.UnlawfulPlace.{UnlawfulPlace}
use Rattle.tp_judge.specs.Delivered.{AreParcelsNumbered, DiffersAt, IsFirstArrival, IsMisnumbered, IsOvertaken}
use Rattle.tp_judge.specs.Delivered.{IsPlaceOfLine, IsUnlawfulRoute, different, numbering, IsWrongAt, changed}
use Rattle.tp_judge.specs.Delivered.{changed_later, doubled, invented, lost, reordered, NeverCame, NeverSent}
use Rattle.tp_judge.specs.Delivered.{NothingCame, ParcelAt, parcels}
use Rattle.tp_judge.proofs.FirstPlaceIsUnique.{neither_less, same_place}

same_parcel_at : (lines : List IndexedLine) (j k : ℕ) (p q : Parcel) → j ≡ k → ParcelAt lines j p → ParcelAt lines k q → p ≡ q
same_parcel_at lines j k p q e first second = same_Some p q (sym first ∙ ap (slice_get (parcels lines)) e ∙ second)

same_number_at : (lines : List IndexedLine) (k : ℕ) (p q : Parcel) → ParcelAt lines k p → ParcelAt lines k q → p.number ≡ q.number
same_number_at lines k p q first second = ap (λ (r : Parcel). r.number) (same_parcel_at lines k k p q refl first second)

-- what a place says: the rule, and where its line stands
record IsToldAs (r : Rule) (lines : List IndexedLine) (k : ℕ) (place : UnlawfulPlace) : Type 0 where
  rule_is : place.rule ≡ r
  told : IsPlaceOfLine lines k place

one_said : (r : Rule) (lines : List IndexedLine) (j k : ℕ) (a b : UnlawfulPlace) → j ≡ k → IsToldAs r lines j a → IsToldAs r lines k b → a ≡ b
one_said r lines j k a b e first second =
    let same = same_Some first.told.line second.told.line
    (sym first.told.stands ∙ ap (slice_get lines) e ∙ second.told.stands) in
    same_place a b (first.told.told ∙ ap (λ (l : IndexedLine). l.number) same ∙ sym second.told.told) (first.rule_is ∙ sym second.rule_is)

-- the first place at which a route differs, where all sendings have their numbers
record IsDifference (sent came : List IndexedLine) (k : ℕ) : Type 0 where
  numbered : AreParcelsNumbered (parcels sent)
  differs : DiffersAt sent came k

-- the first arrival with a number is one
first_once : (came : List IndexedLine) (m n j k : ℕ) (p q : Parcel) → m ≡ n → IsFirstArrival came m j p → IsFirstArrival came n k q → j ≡ k
first_once came m n j k p q e first second =
    neither_less j k
    (λ low. second.none_before j p low first.at (first.is ∙ e))
    (λ high. first.none_before k q high second.at (second.is ∙ sym e))

-- what came had come before
record IsAgain (came : List IndexedLine) (k j : ℕ) (p q : Parcel) : Type 0 where
  at : ParcelAt came k p
  below : j < k
  before : ParcelAt came j q
  number : q.number ≡ p.number

-- what came there was sent under its number with another message
record IsOther (sent came : List IndexedLine) (k j : ℕ) (p q : Parcel) : Type 0 where
  there : ParcelAt sent j q
  first : IsFirstArrival came q.number k p
  other : q.message ≢ p.message

-- what was sent there came further down, with the same message or another
record IsFurther (sent came : List IndexedLine) (k m : ℕ) (p q : Parcel) : Type 0 where
  over : IsOvertaken sent came k
  there : ParcelAt sent k q
  first : IsFirstArrival came q.number m p

-- what came there wasn't sent later where it had come before
again_sent_later : (sent came : List IndexedLine) (k j : ℕ) (p q : Parcel) → IsDifference sent came k → IsAgain came k j p q
    → IsOvertaken sent came k → ⊥
again_sent_later sent came k j p q d a over =
    let same = same_number_at came k p over.1 a.at over.4 in
    let again = a.number in
    let below = a.below in
    let first = d.numbered j q (d.differs.before j a.below ∙ a.before) in
    let second = d.numbered over.0 over.1 over.3 in
    let later = over.2 in
    omega arith

-- nor where it was never sent
never_sent_later : (sent came : List IndexedLine) (k : ℕ) (p : Parcel) → ParcelAt came k p → NeverSent sent p → IsOvertaken sent came k → ⊥
never_sent_later sent came k p at never over = never over.0 over.1 over.3 (same_number_at came k over.1 p over.4 at)

-- nor where it was sent with another message
other_sent_later : (sent came : List IndexedLine) (k j : ℕ) (p q : Parcel) → IsDifference sent came k → IsOther sent came k j p q
    → IsOvertaken sent came k → ⊥
other_sent_later sent came k j p q d o over =
    let same = same_parcel_at came k k p over.1 refl o.first.at over.4 in
    let number = ap (λ (r : Parcel). r.number) same in
    let is = o.first.is in
    let one = d.numbered j q o.there in
    let two = d.numbered over.0 over.1 over.3 in
    let both = same_parcel_at sent j over.0 q over.1 (omega arith) o.there over.3 in
    o.other (ap (λ (r : Parcel). r.message) (both ∙ sym same))

-- what was never sent hadn't come before, where all before it was sent
again_sent : (sent came : List IndexedLine) (k j : ℕ) (p q r : Parcel) → IsDifference sent came k → IsAgain came k j p q
    → ParcelAt came k r → NeverSent sent r → ⊥
again_sent sent came k j p q r d a at never =
    never j q (d.differs.before j a.below ∙ a.before) (a.number ∙ same_number_at came k p r a.at at)

-- the first arrival with a number hadn't come before
again_first : (sent came : List IndexedLine) (k i j : ℕ) (p q r s : Parcel) → IsAgain came k i p q → IsOther sent came k j r s → ⊥
again_first sent came k i j p q r s a o =
    o.first.none_before i q a.below a.before (a.number ∙ same_number_at came k p r a.at o.first.at ∙ o.first.is)

never_other : (sent came : List IndexedLine) (k j : ℕ) (p q r : Parcel) → ParcelAt came k p → NeverSent sent p → IsOther sent came k j q r → ⊥
never_other sent came k j p q r at never o =
    never j r o.there (sym o.first.is ∙ same_number_at came k q p o.first.at at)

-- what came further down came
further_came : (sent came : List IndexedLine) (k m : ℕ) (p q r : Parcel) → IsFurther sent came k m p q → ParcelAt sent k r → NeverCame came r → ⊥
further_came sent came k m p q r f at never = never m p f.first.at (f.first.is ∙ same_number_at sent k q r f.there at)

-- one arrival is the first of what was sent there
further_once : (sent came : List IndexedLine) (k m n : ℕ) (p q r s : Parcel) → IsFurther sent came k m p q → IsFurther sent came k n r s → m ≡ n
further_once sent came k m n p q r s f g =
    first_once came q.number s.number m n p r (same_number_at sent k q s f.there g.there) f.first g.first

-- and has one message
further_same : (sent came : List IndexedLine) (k m n : ℕ) (p q r : Parcel) → IsFurther sent came k m p q → IsFurther sent came k n r r
    → q.message ≢ p.message → ⊥
further_same sent came k m n p q r f g other =
    let here = same_parcel_at came m n p r (further_once sent came k m n p q r r f g) f.first.at g.first.at in
    let there = same_parcel_at sent k k q r refl f.there g.there in
    other (ap (λ (r : Parcel). r.message) (there ∙ sym here))

-- nothing came there, or what was sent later: neither is so of what came there and wasn't
came_here : (sent came : List IndexedLine) (k : ℕ) (p : Parcel) → ParcelAt came k p → (IsOvertaken sent came k → ⊥)
    → NothingCame came k ⊎ IsOvertaken sent came k → ⊥
came_here sent came k p at apart either = ⊎_elim (λ (nothing : NothingCame came k). nothing p at) apart either

lost_once : (sent came : List IndexedLine) (k : ℕ) (p : Parcel) (a b : UnlawfulPlace) → IsDifference sent came k → IsToldAs rule.Lost sent k a
    → ParcelAt sent k p → NeverCame came p → NothingCame came k ⊎ IsOvertaken sent came k → IsWrongAt sent came k b → a ≡ b
lost_once sent came k p a b d says at never either (lost q is told there _ _) =
    one_said rule.Lost sent k k a b refl says (record { rule_is = is; told = told })
lost_once sent came k p a b d says at never either (doubled j q r is told there below before number) =
    let again : IsAgain came k j q r = record { at = there; below = below; before = before; number = number } in
    absurd (came_here sent came k q there (again_sent_later sent came k j q r d again) either)
lost_once sent came k p a b d says at never either (invented q is told there gone) =
    absurd (came_here sent came k q there (never_sent_later sent came k q there gone) either)
lost_once sent came k p a b d says at never either (changed j q r is told there first other) =
    let o : IsOther sent came k j q r = record { there = there; first = first; other = other } in
    absurd (came_here sent came k q first.at (other_sent_later sent came k j q r d o) either)
lost_once sent came k p a b d says at never either (changed_later m q r is told over there behind first other) =
    absurd (further_came sent came k m q r p (record { over = over; there = there; first = first }) at never)
lost_once sent came k p a b d says at never either (reordered m q is told over there behind first) =
    absurd (further_came sent came k m q q p (record { over = over; there = there; first = first }) at never)

doubled_once : (sent came : List IndexedLine) (k j : ℕ) (p q : Parcel) (a b : UnlawfulPlace) → IsDifference sent came k → IsToldAs rule.Doubled came k a
    → IsAgain came k j p q → IsWrongAt sent came k b → a ≡ b
doubled_once sent came k j p q a b d says again (lost r is told there never either) =
    absurd (came_here sent came k p again.at (again_sent_later sent came k j p q d again) either)
doubled_once sent came k j p q a b d says again (doubled i r s is told _ _ _ _) =
    one_said rule.Doubled came k k a b refl says (record { rule_is = is; told = told })
doubled_once sent came k j p q a b d says again (invented r is told there never) =
    absurd (again_sent sent came k j p q r d again there never)
doubled_once sent came k j p q a b d says again (changed i r s is told there first other) =
    absurd (again_first sent came k j i p q r s again (record { there = there; first = first; other = other }))
doubled_once sent came k j p q a b d says again (changed_later m r s is told over _ _ _ _) =
    absurd (again_sent_later sent came k j p q d again over)
doubled_once sent came k j p q a b d says again (reordered m r is told over _ _ _) =
    absurd (again_sent_later sent came k j p q d again over)

invented_once : (sent came : List IndexedLine) (k : ℕ) (p : Parcel) (a b : UnlawfulPlace) → IsDifference sent came k → IsToldAs rule.Invented came k a
    → ParcelAt came k p → NeverSent sent p → IsWrongAt sent came k b → a ≡ b
invented_once sent came k p a b d says at never (lost r is told there _ either) =
    absurd (came_here sent came k p at (never_sent_later sent came k p at never) either)
invented_once sent came k p a b d says at never (doubled j q r is told there below before number) =
    absurd (again_sent sent came k j q r p d (record { at = there; below = below; before = before; number = number }) at never)
invented_once sent came k p a b d says at never (invented q is told _ _) =
    one_said rule.Invented came k k a b refl says (record { rule_is = is; told = told })
invented_once sent came k p a b d says at never (changed j q r is told there first other) =
    absurd (never_other sent came k j p q r at never (record { there = there; first = first; other = other }))
invented_once sent came k p a b d says at never (changed_later m q r is told over _ _ _ _) =
    absurd (never_sent_later sent came k p at never over)
invented_once sent came k p a b d says at never (reordered m q is told over _ _ _) =
    absurd (never_sent_later sent came k p at never over)

changed_once : (sent came : List IndexedLine) (k j : ℕ) (p q : Parcel) (a b : UnlawfulPlace) → IsDifference sent came k → IsToldAs rule.Changed came k a
    → IsOther sent came k j p q → IsWrongAt sent came k b → a ≡ b
changed_once sent came k j p q a b d says o (lost r is told there never either) =
    absurd (came_here sent came k p o.first.at (other_sent_later sent came k j p q d o) either)
changed_once sent came k j p q a b d says o (doubled i r s is told there below before number) =
    absurd (again_first sent came k i j r s p q (record { at = there; below = below; before = before; number = number }) o)
changed_once sent came k j p q a b d says o (invented r is told there never) =
    absurd (never_other sent came k j r p q there never o)
changed_once sent came k j p q a b d says o (changed i r s is told _ _ _) =
    one_said rule.Changed came k k a b refl says (record { rule_is = is; told = told })
changed_once sent came k j p q a b d says o (changed_later m r s is told over _ _ _ _) =
    absurd (other_sent_later sent came k j p q d o over)
changed_once sent came k j p q a b d says o (reordered m r is told over _ _ _) =
    absurd (other_sent_later sent came k j p q d o over)

changed_later_once : (sent came : List IndexedLine) (k m : ℕ) (p q : Parcel) (a b : UnlawfulPlace) → IsDifference sent came k
    → IsToldAs rule.Changed came m a → IsFurther sent came k m p q → q.message ≢ p.message → IsWrongAt sent came k b → a ≡ b
changed_later_once sent came k m p q a b d says f apart (lost r is told there never _) =
    absurd (further_came sent came k m p q r f there never)
changed_later_once sent came k m p q a b d says f apart (doubled j r s is told there below before number) =
    let again : IsAgain came k j r s = record { at = there; below = below; before = before; number = number } in
    absurd (again_sent_later sent came k j r s d again f.over)
changed_later_once sent came k m p q a b d says f apart (invented r is told there never) =
    absurd (never_sent_later sent came k r there never f.over)
changed_later_once sent came k m p q a b d says f apart (changed j r s is told there first other) =
    absurd (other_sent_later sent came k j r s d (record { there = there; first = first; other = other }) f.over)
changed_later_once sent came k m p q a b d says f apart (changed_later n r s is told over there _ first _) =
    let g : IsFurther sent came k n r s = record { over = over; there = there; first = first } in
    one_said rule.Changed came m n a b (further_once sent came k m n p q r s f g) says (record { rule_is = is; told = told })
changed_later_once sent came k m p q a b d says f apart (reordered n r is told over there _ first) =
    absurd (further_same sent came k m n p q r f (record { over = over; there = there; first = first }) apart)

reordered_once : (sent came : List IndexedLine) (k m : ℕ) (p : Parcel) (a b : UnlawfulPlace) → IsDifference sent came k
    → IsToldAs rule.Reordered came m a → IsFurther sent came k m p p → IsWrongAt sent came k b → a ≡ b
reordered_once sent came k m p a b d says f (lost r is told there never _) =
    absurd (further_came sent came k m p p r f there never)
reordered_once sent came k m p a b d says f (doubled j r s is told there below before number) =
    let again : IsAgain came k j r s = record { at = there; below = below; before = before; number = number } in
    absurd (again_sent_later sent came k j r s d again f.over)
reordered_once sent came k m p a b d says f (invented r is told there never) =
    absurd (never_sent_later sent came k r there never f.over)
reordered_once sent came k m p a b d says f (changed j r s is told there first other) =
    absurd (other_sent_later sent came k j r s d (record { there = there; first = first; other = other }) f.over)
reordered_once sent came k m p a b d says f (changed_later n r s is told over there _ first other) =
    absurd (further_same sent came k n m r s p (record { over = over; there = there; first = first }) f other)
reordered_once sent came k m p a b d says f (reordered n r is told over there _ first) =
    let g : IsFurther sent came k n r r = record { over = over; there = there; first = first } in
    one_said rule.Reordered came m n a b (further_once sent came k m n p p r r f g) says (record { rule_is = is; told = told })

one_wrong : (sent came : List IndexedLine) (k : ℕ) (a b : UnlawfulPlace) → IsDifference sent came k → IsWrongAt sent came k a → IsWrongAt sent came k b → a ≡ b
one_wrong sent came k a b d (lost p is told there never either) second =
    lost_once sent came k p a b d (record { rule_is = is; told = told }) there never either second
one_wrong sent came k a b d (doubled j p q is told there below before number) second =
    doubled_once sent came k j p q a b d (record { rule_is = is; told = told })
    (record { at = there; below = below; before = before; number = number }) second
one_wrong sent came k a b d (invented p is told there never) second =
    invented_once sent came k p a b d (record { rule_is = is; told = told }) there never second
one_wrong sent came k a b d (changed j p q is told there first other) second =
    changed_once sent came k j p q a b d (record { rule_is = is; told = told })
    (record { there = there; first = first; other = other }) second
one_wrong sent came k a b d (changed_later m p q is told over there behind first other) second =
    changed_later_once sent came k m p q a b d (record { rule_is = is; told = told })
    (record { over = over; there = there; first = first }) other second
one_wrong sent came k a b d (reordered m p is told over there behind first) second =
    reordered_once sent came k m p a b d (record { rule_is = is; told = told })
    (record { over = over; there = there; first = first }) second

-- the first place at which a route differs is one, and so is the first sending that has not the next number
differs_once : (sent came : List IndexedLine) (j k : ℕ) → DiffersAt sent came j → DiffersAt sent came k → j ≡ k
differs_once sent came j k first second =
    neither_less j k (λ low. first.here (second.before j low)) (λ high. second.here (first.before k high))

misnumbered_once : (sent : List IndexedLine) (j k : ℕ) → IsMisnumbered sent j → IsMisnumbered sent k → j ≡ k
misnumbered_once sent j k first second =
    neither_less j k
    (λ low. first.wrong (second.before j first.parcel low first.at))
    (λ high. second.wrong (first.before k second.parcel high second.at))

wrong_moved : (sent came : List IndexedLine) (j k : ℕ) (place : UnlawfulPlace) → j ≡ k → IsWrongAt sent came j place → IsWrongAt sent came k place
wrong_moved sent came j k place e wrong = subst (λ (n : ℕ). IsWrongAt sent came n place) e wrong

-- of a route one place can be told
pub one_on_route : (sent came : List IndexedLine) (a b : UnlawfulPlace) → IsUnlawfulRoute sent came a → IsUnlawfulRoute sent came b → a ≡ b
one_on_route sent came a b (numbering j is told wrong) (numbering k other_is other_told other_wrong) =
    one_said rule.Numbering sent j k a b (misnumbered_once sent j k wrong other_wrong)
    (record { rule_is = is; told = told }) (record { rule_is = other_is; told = other_told })
one_on_route sent came a b (numbering j is told wrong) (different k numbered differs other) =
    absurd (wrong.wrong (numbered j wrong.parcel wrong.at))
one_on_route sent came a b (different j numbered differs other) (numbering k is told wrong) =
    absurd (wrong.wrong (numbered k wrong.parcel wrong.at))
one_on_route sent came a b (different j numbered differs first) (different k _ other_differs second) =
    one_wrong sent came k a b (record { numbered = numbered; differs = other_differs })
    (wrong_moved sent came j k a (differs_once sent came j k differs other_differs) first) second
