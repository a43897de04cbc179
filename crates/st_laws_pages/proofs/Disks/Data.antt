-- What follows for the clients' data.
use Rattle.st_lemmas.proofs.Words
use Words.{◌≡◌, Bool, true, false, List, [], ◌∷◌, Some, None, refl, sym, ap, ◌∙◌, subst, inl, inr, arith, Stamp, LogEntry, LogOwner}
use Words.FlatLog as log
use Words.FlatLog.{same_owner, owner}
use Words.World.{World, ended_of}
use Words.Truth.{none_not_some}
use Rattle.st_laws_pages.specs.Fates.Fates.{BeforeEnd, GoneAll}
use Rattle.st_laws_pages.specs.Disks.Data.{UnmappedIsZeros, BlockIsContent, DoneWriteIsHard}
use Rattle.st_laws_pages.proofs.Disks.Folds.{owner_parts}
use Rattle.st_laws_pages.proofs.Fates.GoneLaw.{Over}
use Rattle.st_laws_pages.proofs.Disks.ReadsFind.{NotGone, read_finds, unmapped_finds, hard_is}

-- no entry is gone of a life that has not ended and is before its end
not_over : (w : World) (o : LogOwner) → ended_of w o.client o.file.server o.life ≡ None → BeforeEnd w o → Over w o → ⊥
not_over w o n b (inl x) = none_not_some x.row (sym n ∙ x.is)
not_over w o n b (inr x) = let e : x.end ≡ b.end = inj x.end b.end (sym x.is ∙ b.is) in let z = ap (λ (s : Stamp). s.0) e in let l = x.late in let t = b.before in omega (arith, z, l, t)
  where
    inj : (a c : Stamp) → Some a ≡ Some c → a ≡ c
    inj a c e = cc

pub not_gone : (w : World) (o : LogOwner) (es : List LogEntry) → ended_of w o.client o.file.server o.life ≡ None → BeforeEnd w o → GoneAll (Over w) es → NotGone o es
not_gone w o [] n b g = record {}
not_gone w o (e ∷ es) n b g = record { one = λ s. counts s (log.counts e.fate) refl; rest = not_gone w o es n b g.rest }
  where
    counts : same_owner e.of o ≡ true → (c : Bool) → log.counts e.fate ≡ c → c ≡ true
    counts s true q = refl
    counts s false q = absurd (not_over w o n b (subst (Over w) (owner_parts e.of o s) (g.one q)))

pub unmapped_law : UnmappedIsZeros
unmapped_law w f p h m s = unmapped_finds w f p h m s

pub block_law : BlockIsContent
block_law w f p e h m s = read_finds w f p e h m s

pub hard_law : DoneWriteIsHard
hard_law w k x d at tag bytes h f i e what q c n b = hard_is w k x d at tag bytes h i e what q c (not_gone w (owner x.client x.life tag.file tag.page) w.log n b f.gone)
