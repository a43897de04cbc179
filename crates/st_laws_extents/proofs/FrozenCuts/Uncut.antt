-- A cut finds no write of the life that asks for it if a crash ended that life.
use Rattle.st_lemmas.proofs.Words
use Words.{◌≡◌, ℕ, true, List, Some, ap, ◌∙◌, subst, FileId, PageNo, BlockAt, Tag, Event, IssuedCommand, LeaseLife}
use Words.Events.{WorldTurn}
use Words.History.{Traced}
use Words.Keys.{client}
use Words.Safety.{Step, step}
use Words.World.{ended_of}
use Rattle.st_protocol.specs.Assoc.{Config}
use Rattle.st_laws_extents.specs.CutRequests.EndedLives.{LifeHarmless}
use Rattle.st_laws_extents.specs.CutRequests.Law.{gifts}
use Rattle.st_laws_extents.specs.FrozenCuts.FrozenFiles.{FrozenFilesUncut}
use Rattle.st_laws_reads.specs.OpenWrites.StandStill.{OpenWrite}
use Rattle.st_laws_extents.proofs.CutRequests.Law.{Hold}
use Rattle.st_laws_pages.specs.Disks.World.{Living, PagesHold, Timely}
use Rattle.st_laws_extents.specs.Submits.Obligations.{FrozenUncut}
use Rattle.st_laws_extents.specs.CutRequests.Cut.{CutIn}
use Rattle.st_laws_extents.proofs.CutRequests.EndedLives.{no_cut}

module _ (k : Config) (count : ℕ) (past : List Step) (t : Traced) (h : Hold k count past t) (safe : FrozenFilesUncut k count t.world h.all) (pages_ : PagesHold t.world) where
  -- a cut by a message of the life of a write
  none : (f : FileId) (p : PageNo) (c : CutIn t.world f p) (n : ℕ) (y : IssuedCommand) (at : BlockAt) (tag : Tag) (bytes : List ℕ) → Living (Timely t.world) t.world.commands t.world.disks.commands n y at tag bytes → tag.file ≡ f →
      y.client.0 ≡ c.message.header.from → y.life.0 ≡ c.message.header.life → (row : LeaseLife) → ended_of t.world y.client y.server y.life ≡ Some row → row.crashed ≡ true → ⊥
  none f p c n y at tag bytes l same who life row q crashed =
      no_cut k count t.world h.all f p c
      (subst (λ x. LifeHarmless (gifts k count t.world h.all (client x) f.server) t.world (client x) f.server c.message.header.life f.ino) who
      (subst (λ v. LifeHarmless (gifts k count t.world h.all y.client v) t.world y.client v c.message.header.life f.ino) place
      (subst (λ i. LifeHarmless (gifts k count t.world h.all y.client y.server) t.world y.client y.server c.message.header.life i) (ap (λ (g : FileId). g.ino) same)
      (subst (λ x. LifeHarmless (gifts k count t.world h.all y.client y.server) t.world y.client y.server x tag.file.ino) life (safe n y at tag bytes an_open row q crashed)))))
    where
      an_open : OpenWrite t.world n y at tag bytes
      an_open = record { issued = l.issued; command = l.command; is = l.is; what = l.what; unreported = l.unreported }

      place : y.server ≡ f.server
      place = (pages_.pages.carry n y at tag bytes l).server ∙ ap (λ (g : FileId). g.server) same

  pub frozen_uncut : (e : Event) (sc : WorldTurn) → FrozenUncut (step t e sc)
  frozen_uncut e sc index f p i c n y at tag bytes l same who life row q crashed =
      none f p (record { node = c.node; there = c.there; running = c.running; message = c.message; among = c.among; by = c.by }) n y at tag bytes l same who life row q crashed
