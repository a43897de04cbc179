-- Who has left, along what is observed.
use Rattle.st_lemmas.proofs.Words
use Words.{◌≡◌, not, List, [], ◌∷◌, ◌++◌, refl, sym, ap, ◌∙◌, inl, inr, append-nil, append_assoc}
use Words.{ClientId}
use Words.outputs
use Words.Lists.{Has}
use Words.Tables.{has_filter}
use Rattle.st_rules.specs.declared.observation.Observation.TheVariants as plain_seen
use Rattle.st_third.specs.declared.observation.ThirdObservation.{ThirdObservation}
use Rattle.st_third.specs.declared.observation.ThirdObservation.TheVariants as seen
use Rattle.st_third.specs.declared.output.ThirdOutput.{ThirdOutput}
use Rattle.st_third.specs.declared.output.ThirdOutput.TheVariants as says
use Rattle.st_third.specs.Promises.{Leaver, asks_again, left_along, left_behind, left_from}
use Rattle.st_third.specs.Steps.{ThirdStep}
use Rattle.st_laws_third.proofs.Told as told
use Rattle.st_laws_third.proofs.Told.{SeenOf}

-- one after another
pub along_both : (past : List ThirdStep) (x : ThirdStep) (ls : List Leaver) (os ps : List ThirdObservation) →
    left_along past x ls (os ++ ps) ≡ left_along past x (left_along past x ls os) ps
unfolding left_along
along_both past x ls [] ps = refl
along_both past x ls (o ∷ os) ps = along_both past x (left_behind past x ls o) os ps

-- neither a message nor `left`
abbrev pub IsNeutral : ThirdObservation → Type 0
IsNeutral (seen.Left c op) = ⊥
IsNeutral (seen.Plain (plain_seen.Sent k m)) = ⊥
IsNeutral o = Unit {0}

pub along_neutral : (past : List ThirdStep) (x : ThirdStep) (ls : List Leaver) (os : List ThirdObservation) →
    ((y : ThirdObservation) → Has y os → IsNeutral y) →
    left_along past x ls os ≡ ls
unfolding left_along
along_neutral past x ls [] f = refl
along_neutral past x ls (o ∷ os) f = along_neutral past x (left_behind past x ls o) os (λ y h. f y (inr h)) ∙ one o (f o (inl refl))
  where
    one : (o : ThirdObservation) → IsNeutral o → left_behind past x ls o ≡ ls
    one (seen.Left c op) n = absurd n
    one (seen.Plain (plain_seen.Sent k m)) n = absurd n
    one (seen.Plain p) n = refl
    one (seen.Unsynced c op ino) n = refl
    one (seen.Ended c s life) n = refl

-- not `left`
abbrev pub NoLeft : ThirdObservation → Type 0
NoLeft (seen.Left c op) = ⊥
NoLeft o = Unit {0}

-- nobody else has left
pub along_fewer : (past : List ThirdStep) (x : ThirdStep) (ls : List Leaver) (os : List ThirdObservation) → ((y : ThirdObservation) → Has y os → NoLeft y) →
    (l : Leaver) → Has l (left_along past x ls os) → Has l ls
unfolding left_along
along_fewer past x ls [] f l h = h
along_fewer past x ls (o ∷ os) f l h = one o (f o (inl refl)) (along_fewer past x (left_behind past x ls o) os (λ y i. f y (inr i)) l h)
  where
    one : (o : ThirdObservation) → NoLeft o → Has l (left_behind past x ls o) → Has l ls
    one (seen.Left c op) n i = absurd n
    one (seen.Plain (plain_seen.Sent k m)) n i = (has_filter (λ z. not (asks_again m z)) ls l i).0
    one (seen.Plain p) n i = i
    one (seen.Unsynced c op ino) n i = i
    one (seen.Ended c s life) n i = i

-- after one more step
pub from_last : (pre : List ThirdStep) (ls : List Leaver) (xs : List ThirdStep) (x : ThirdStep) →
    left_from pre ls (xs ++ x ∷ []) ≡ left_along (pre ++ xs) x (left_from pre ls xs) x.seen
unfolding left_from
from_last pre ls [] x = ap (λ p. left_along p x ls x.seen) (sym (append-nil pre))
from_last pre ls (y ∷ ys) x =
    let z = left_along pre y ls y.seen in
    from_last (pre ++ y ∷ []) z ys x ∙ ap (λ p. left_along p x (left_from (pre ++ y ∷ []) z ys) x.seen) (append_assoc pre (y ∷ []) ys)

-- a word that is neither a message nor `left`
abbrev pub IsOther : ThirdOutput → Type 0
IsOther (says.Left op) = ⊥
IsOther (says.Plain (outputs.Send m)) = ⊥
IsOther o = Unit {0}

pub neutral_of : (c : ClientId) (o : ThirdOutput) (y : ThirdObservation) → SeenOf c o y → IsOther o → IsNeutral y
neutral_of c _ _ (told.Sends m k) n = n
neutral_of c _ _ (told.Submits number at what k) n = tt
neutral_of c _ _ (told.Answers op a) n = tt
neutral_of c _ _ (told.Leases s end) n = tt
neutral_of c _ _ (told.Loses s life) n = tt
neutral_of c _ _ (told.Writes f p bytes k) n = tt
neutral_of c _ _ (told.Patches f p at bytes k) n = tt
neutral_of c _ _ (told.Leaves op) n = n
neutral_of c _ _ (told.IsUnsynced op ino) n = tt
neutral_of c _ _ (told.Ends s life end) n = tt
