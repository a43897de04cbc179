-- Which entries a failed write changes: none of a life that is over, if the commands of that life were reported; and its number is no other command's.
use Rattle.st_lemmas.proofs.Words
use Words.{◌≡◌, ◌≤◌, ◌⊎◌, ℕ, zero, suc, ◌&&◌, ◌||◌, ◌==◌, Bool, true, false, List, [], ◌∷◌, Some, refl, sym, ap, ◌∙◌, subst, inl, inr, arith}
use Words.{if◌then◌else◌, slice_get, Command, ClientId, FileId, PageNo, Life, ServerId, DiskCommand, LogOwner, Carried, IssuedCommand}
use Words.commands
use Words.reports
use Words.Disks as disks
use Words.Lookups.{some_is}
use Words.Truth.{none_not_some}
use Words.World as world
use Words.World.{World, numbered}
use Rattle.st_rules.specs.History.{Traced}
use Rattle.st_rules.specs.Safety.{Step}
use Rattle.st_laws_pages.specs.Disks.Folds.{owner_at}
use Rattle.st_laws_pages.specs.Flush.Flush.{Cared, Sent, WriteCared}
use Rattle.st_laws_pages.specs.Writes.Writes.{ListedSince, OpenHold}
use Rattle.st_laws_pages.proofs.Causes.Law.{Stand}
use Rattle.st_laws_volume.proofs.CarriedEntries.{EntriesCarried, IsAt}
use Rattle.st_laws_volume.proofs.FailureLives.{PresentOf}
use Rattle.st_laws_volume.proofs.FailureWrites.{IsOf}
use Rattle.st_volume.specs.Pages.{Entry, failed_up_to, failure_of, is_by_at, is_open}
use Rattle.std.proofs.lemmas.Bool.{eqb-true}

-- What a failed write leaves of one entry.
pub data Left (i : ℕ) (c : ClientId) (number : ℕ) (x : FileId × PageNo) (n : ℕ) (f : Entry) : Entry → Type 0 where
  Spared : Left i c number x n f f
  Touched : suc n ≤ i → is_by_at c x f ≡ true → ((suc n ≡ i) ⊎ (is_open f.fate ≡ true)) → Left i c number x n f (record f { failed = number })

zero_is : (n : ℕ) → (n == 0) ≡ true → n ≡ 0
zero_is n q = eqb-true n 0 q

pub left_at : (i : ℕ) (c : ClientId) (number : ℕ) (x : FileId × PageNo) (es : List Entry) (n : ℕ) (f : Entry) → slice_get es n ≡ Some f →
    (g : Entry) × (slice_get (failed_up_to i c number x es) n ≡ Some g) × Left i c number x n f g
unfolding failed_up_to
left_at zero c number x es n f q = (f, q, Spared)
left_at (suc i) c number x [] n f q = cc q
left_at (suc i) c number x (y ∷ es) zero f q =
    subst (λ z. (g : Entry) × (Some (failure_of c number x (i == 0) y) ≡ Some g) × Left (suc i) c number x zero z g) (some_is q)
    (go (is_by_at c x y) refl (i == 0) refl (is_open y.fate) refl)
  where
    go : (a : Bool) → is_by_at c x y ≡ a → (b : Bool) → (i == 0) ≡ b → (o : Bool) → is_open y.fate ≡ o →
        (g : Entry) × (Some (if a && (b || o) then record y { failed = number } else y) ≡ Some g) × Left (suc i) c number x zero y g
    go true p true e o k = (record y { failed = number }, refl, Touched (omega arith) p (inl (let z = zero_is i e in omega (arith, z))))
    go true p false e true k = (record y { failed = number }, refl, Touched (omega arith) p (inr k))
    go true p false e false k = (y, refl, Spared)
    go false p b e o k = (y, refl, Spared)
left_at (suc i) c number x (y ∷ es) (suc n) f q = go (left_at i c number x es n f q)
  where
    go : (g : Entry) × (slice_get (failed_up_to i c number x es) n ≡ Some g) × Left i c number x n f g →
        (g : Entry) × (slice_get (failed_up_to i c number x es) n ≡ Some g) × Left (suc i) c number x (suc n) f g
    go (g, j, l) = (g, j, more g l)
      where
        carried : (suc n ≡ i) ⊎ (is_open f.fate ≡ true) → (suc (suc n) ≡ suc i) ⊎ (is_open f.fate ≡ true)
        carried (inl e) = inl (ap suc e)
        carried (inr e) = inr e

        more : (g : Entry) → Left i c number x n f g → Left (suc i) c number x (suc n) f g
        more _ Spared = Spared
        more _ (Touched l p k) = Touched (omega (arith, l)) p (carried k)

-- no write of a life is unreported
abbrev pub Shut : World → ClientId → ServerId → Life → Type 0
Shut w c s l =
    (k : ℕ) (x : IssuedCommand) (d : DiskCommand) (y : Carried) → IsAt w k x d → d.report ≡ reports.Open → x.carries ≡ Some y → x.client ≡ c →
    x.server ≡ s → x.life ≡ l → ⊥

-- A write that isn't reported yet.
module _ (past : List Step) (t : Traced) (s : Stand past t) (opens : OpenHold t.world) (carry : EntriesCarried t.world)
    (k : ℕ) (x : IssuedCommand) (d : DiskCommand) (y : Carried) (issued : numbered t.world.commands k ≡ Some x)
    (is : disks.command_at t.world.disks.commands k ≡ Some d) (unreported : d.report ≡ reports.Open) (carries : x.carries ≡ Some y) where
  abbrev w : World
  w = t.world

  -- it carried no entry that another write carried of a life without unreported writes
  pub shut_out : (j : ℕ) (z : IssuedCommand) (v : Carried) → numbered w.commands j ≡ Some z → z.carries ≡ Some v → v.index ≡ y.index →
      Shut w z.client v.file.server z.life → ⊥
  shut_out j z v i c same shut =
      shut k x d y (issued, is) unreported carries (ap (λ (o : LogOwner). o.client) owner)
      (sym (carry.owned k x issued y carries).1 ∙ ap (λ (o : LogOwner). o.file.server) owner)
      (ap (λ (o : LogOwner). o.life) owner)
    where
      owner : world.owner_carried x y ≡ world.owner_carried z v
      owner =
          some_is
          (sym (carry.owned k x issued y carries).0
          ∙ (ap (owner_at w.log) (sym same) ∙ (carry.owned j z i v c).0))

  -- no command of the same instance and of another life has its number
  pub number_own : (o : LogOwner) (p : PresentOf w o) → IsOf x y o → (j : ℕ) (z : IssuedCommand) → numbered w.commands j ≡ Some z → z.client ≡ o.client →
      z.starts ≡ p.site.starts → z.number ≡ x.number → z.life ≡ o.life
  number_own o p own j z i client starts number = by d.what refl
    where
      by : (what : Command) → d.what ≡ what → z.life ≡ o.life
      by (commands.Read at) e = absurd (none_not_some y (sym (s.both.writes.commands.reads k x d at issued is e) ∙ carries))
      by (commands.Write at tag bytes) e = ap (λ (q : IssuedCommand). q.life) same ∙ own.life
        where
          server : x.server ≡ p.a.server
          server = sym (carry.owned k x issued y carries).1 ∙ (ap (λ (f : FileId). f.server) own.file ∙ sym p.server)

          l : ListedSince p.site.starts p.a x tag
          l = opens o.client p.site p.there p.runs p.a p.has k x d at tag bytes issued is e unreported own.client server (own.life ∙ sym p.life)

          cared : Cared past w.commands w.log o.client p.site.starts p.site.node.state.next_command p.a
          cared = (s.both.flush.sites o.client p.site p.there p.runs).cared p.a p.has

          written : WriteCared w.commands w.log o.client p.site.starts p.a l.listed.command l.listed.version
          written = cared.writes l.listed.command l.listed.here l.listed.version l.listed.kind

          mine : Sent w.commands w.log o.client p.a l.listed.command l.listed.version k x
          mine = written.world k x issued (record { client = own.client; instance_ = l.since; number_is = sym l.listed.number_is })

          other : Sent w.commands w.log o.client p.a l.listed.command l.listed.version j z
          other = written.world j z i (record { client = client; instance_ = starts; number_is = number ∙ sym l.listed.number_is })

          same : z ≡ x
          same = some_is (sym i ∙ (ap (numbered w.commands) (sym other.last ∙ mine.last) ∙ issued))
