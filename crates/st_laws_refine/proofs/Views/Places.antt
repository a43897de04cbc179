-- What is read of a table by a number, after a row was put, cut or appended, as a function of the number.
use Rattle.st_lemmas.proofs.Words
use Words.{◌≡◌, ℕ, not, List, ◌∷◌, ◌++◌, ◌==◌, Option, Some, None, ap, ◌∙◌, find, filter}
use Words.Keys.{put}
use Words.Lookups.{find_without, if_ap}
use Rattle.st_protocol.specs.Assoc.{upd}
use Rattle.st_lemmas.proofs.Puts.{find_put_at}

pub put_at : {A B : Type 0} (ino : A → ℕ) (f : Option A → B) (v : A) (rows : List A) (d : ℕ) →
    f (find (λ r. ino r == d) (put (λ r. ino r == ino v) v rows)) ≡ upd (λ d. f (find (λ r. ino r == d) rows)) (ino v) (f (Some v)) d
unfolding upd
put_at ino f v rows d = ap f (find_put_at ino v d rows) ∙ if_ap f (d == ino v) (Some v) (find (λ r. ino r == d) rows)

pub cut_at : {A B : Type 0} (ino : A → ℕ) (f : Option A → B) (i : ℕ) (rows : List A) (d : ℕ) →
    f (find (λ r. ino r == d) (filter (λ r. not (ino r == i)) rows)) ≡ upd (λ d. f (find (λ r. ino r == d) rows)) i (f None) d
unfolding upd
cut_at ino f i rows d = ap f (find_without ino i d rows) ∙ if_ap f (d == i) None (find (λ r. ino r == d) rows)
