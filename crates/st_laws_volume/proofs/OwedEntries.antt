-- What holds of rows that are owed and of the entries that they name, and of dirty pages and their latest entries.
use Rattle.st_lemmas.proofs.Words
use Words.{◌≡◌, ◌≤◌, ◌<◌, ℕ, zero, suc, Bool, true, false, ◌&&◌, ◌||◌, ◌==◌, List, [], ◌∷◌, Some, refl, sym, ap, ◌∙◌, subst, inl, inr}
use Words.{slice_get, ClientId, PageNo, ServerId, DirtyPage, LogEntry, LostPage, Carried, IssuedCommand}
use Words.ClientPages as pages
use Words.ClientState.{Association}
use Words.Events.{is_change, latest}
use Words.Lists.{Has}
use Words.Lookups.{some_is}
use Words.World.{World, WorldClient, numbered, site_of}
use Rattle.st_laws_pages.specs.Flush.Flush.{file_at, owner_at_page}
use Rattle.st_laws_volume.proofs.EntryEvents.{AllWere, Was, stayed}
use Rattle.st_laws_volume.proofs.EntryMarks.{Alike, LogStays, map_at, stayed_at}
use Rattle.st_laws_volume.proofs.FailureLives.{PresentOf}
use Rattle.st_laws_volume.proofs.FailureTouches.{Shut}
use Rattle.st_volume.specs.Pages.{Entry, is_by_at, is_at}
use Rattle.st_volume.specs.Volume.{Volume, tell}
use Rattle.std.specs.Prelude.{map}

-- A row and what it names: the failed command of an earlier life, by the instance that runs, and the entry that the command carried. No write of that life is
-- unreported.
pub record RowAt (w v : World) (u : Volume) (c : ClientId) (s : ServerId) (r : LostPage) : Type 0 where
  pub k : ℕ
  pub x : IssuedCommand
  pub y : Carried
  pub is : numbered w.commands k ≡ Some x
  pub client : x.client ≡ c
  pub number : x.number ≡ r.command
  pub first : 1 ≤ r.command
  pub carries : x.carries ≡ Some y
  pub server : y.file.server ≡ s
  pub site : WorldClient
  pub there : site_of w c ≡ Some site
  pub runs : site.node.running ≡ true
  pub starts : x.starts ≡ site.starts
  pub over : (after : WorldClient) → site_of v c ≡ Some after → (b : Association) → Has b after.node.state.associations → b.server ≡ s →
      x.life.0 < b.life.0
  pub born : 1 ≤ x.life.0
  pub shut : Shut w c s x.life
  pub n : ℕ
  pub index : y.index ≡ suc n
  pub f : Entry
  pub at : slice_get u.log n ≡ Some f
  pub by : is_by_at c (record { server = s; ino = r.ino }, r.page) f ≡ true
  pub failed : f.failed ≡ r.command
  pub told : f.told ≡ false
  pub crashed : f.crashed ≡ false

-- all rows that are owed
abbrev pub AllRows : (ClientId → ServerId → List LostPage) → World → World → Volume → Type 0
AllRows rows w v u = (c : ClientId) (s : ServerId) (r : LostPage) → Has r (rows c s) → RowAt w v u c s r

-- No entry of a present life was failed by the command of a row.
abbrev pub Apart : (ClientId → ServerId → List LostPage) → World → List LogEntry → Volume → Type 0
Apart rows v es u =
    (n : ℕ) (o : LogEntry) (f : Entry) → slice_get es n ≡ Some o → slice_get u.log n ≡ Some f → is_change o ≡ true → PresentOf v o.of → (r : LostPage) →
    Has r (rows o.of.client o.of.file.server) → f.failed ≡ r.command → ⊥

-- Nobody was told of the latest entry of a dirty page.
abbrev pub Untold : World → List LogEntry → Volume → Type 0
Untold w es u =
    (c : ClientId) (site : WorldClient) (a : Association) (ino : ℕ) (p : PageNo) (d : DirtyPage) → site_of w c ≡ Some site → site.node.running ≡ true →
    Has a site.node.state.associations → pages.dirty_of a.store.pages ino p ≡ Some d → (n : ℕ) (o : LogEntry) (f : Entry) → slice_get es n ≡ Some o →
    slice_get u.log n ≡ Some f → latest es c (file_at a ino) p ≡ suc n → o.of ≡ owner_at_page c a ino p → f.told ≡ false

-- What a line leaves of entries: it may tell some, and that is all; and entries may join.
pub record Tell (test : Entry → Bool) (f g : Entry) : Type 0 where
  pub what : g.what ≡ f.what
  pub client : g.client ≡ f.client
  pub crashed : g.crashed ≡ f.crashed
  pub failed : g.failed ≡ f.failed
  pub told : g.told ≡ (f.told || test f)

pub record Block (test : Entry → Bool) (u z : Volume) : Type 0 where
  pub back : AllWere (Tell test) u.log z.log
  pub fwd : (n : ℕ) (f : Entry) → slice_get u.log n ≡ Some f → (g : Entry) × (slice_get z.log n ≡ Some g) × Tell test f g

abbrev pub never : Entry → Bool
never f = false

plain_told : (b : Bool) → (b || false) ≡ b
plain_told true = refl
plain_told false = refl

tell_alike : (f g : Entry) → Alike f g → Tell never f g
tell_alike f g k = record { what = k.what; client = k.client; crashed = k.crashed; failed = k.failed; told = k.told ∙ sym (plain_told f.told) }

pub block_plain : (u z : Volume) → LogStays u z → Block never u z
block_plain u z k =
    record {
      back = λ n g i. go n g (stayed u.log z.log k n g i);
      fwd = λ n f i. let y = stayed_at u.log z.log k n f i in (y.0, y.1, tell_alike f y.0 y.2);
    }
  where
    go : (n : ℕ) (g : Entry) → Was Alike u.log n g → Was (Tell never) u.log n g
    go n g (inl (f, i, y)) = inl (f, i, tell_alike f g y)
    go n g (inr y) = inr y

map_fwd : (g : Entry → Entry) (es : List Entry) (n : ℕ) (f : Entry) → slice_get es n ≡ Some f →
    slice_get (map g es) n ≡ Some (g f)
map_fwd g [] n f i = cc i
map_fwd g (x ∷ es) zero f i = ap (λ y. Some (g y)) (some_is i)
map_fwd g (x ∷ es) (suc n) f i = map_fwd g es n f i

pub block_tells : (test : Entry → Bool) (u z : Volume) → z.log ≡ map (tell test) u.log → Block test u z
block_tells test u z q =
    record {
      back = λ n g i. go n g (map_at (tell test) u.log n g (ap (λ es. slice_get es n) (sym q) ∙ i));
      fwd = λ n f i. (tell test f, ap (λ es. slice_get es n) q ∙ map_fwd (tell test) u.log n f i, self f);
    }
  where
    self : (f : Entry) → Tell test f (tell test f)
    self f = record { what = refl; client = refl; crashed = refl; failed = refl; told = refl }

    go : (n : ℕ) (g : Entry) → (f : Entry) × (slice_get u.log n ≡ Some f) × (g ≡ tell test f) → Was (Tell test) u.log n g
    go n g (f, i, y) = inl (f, i, subst (Tell test f) (sym y) (self f))

-- A row's entry that isn't told by a line is the row's still.
pub row_moved : (w v : World) (test : Entry → Bool) (u z : Volume) → Block test u z → (c : ClientId) (s : ServerId) (r : LostPage) →
    (row : RowAt w v u c s r) → test row.f ≡ false → RowAt w v z c s r
row_moved w v test u z b c s r row q =
    let y = b.fwd row.n row.f row.at in
    record {
      k = row.k;
      x = row.x;
      y = row.y;
      is = row.is;
      client = row.client;
      number = row.number;
      first = row.first;
      carries = row.carries;
      server = row.server;
      site = row.site;
      there = row.there;
      runs = row.runs;
      starts = row.starts;
      over = row.over;
      born = row.born;
      shut = row.shut;
      n = row.n;
      index = row.index;
      f = y.0;
      at = y.1;
      by =
          ap (λ what. (c.0 == y.0.client.0) && is_at (record { server = s; ino = r.ino }, r.page) what) y.2.what
          ∙ (ap (λ (d : ClientId). (c.0 == d.0) && is_at (record { server = s; ino = r.ino }, r.page) row.f.what) y.2.client
          ∙ row.by);
      failed = y.2.failed ∙ row.failed;
      told = y.2.told ∙ (ap (λ k. row.f.told || k) q ∙ (plain_told row.f.told ∙ row.told));
      crashed = y.2.crashed ∙ row.crashed;
    }
