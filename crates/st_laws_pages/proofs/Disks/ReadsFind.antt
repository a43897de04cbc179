-- What follows for clients: what a read finds, what an unmapped page is, and that a write that was reported made its page hard.
use Rattle.st_lemmas.proofs.Words
use Words.{◌≡◌, ℕ, ◌+◌, ◌≤◌, ◌<◌, Bool, true, false, ◌&&◌, List, [], ◌∷◌, Option, Some, None, refl, sym, ap, ◌∙◌, subst, arith, if◌then◌else◌, eq-eqb, le-leb}
use Words.{ClientId, FileId, PageNo, BlockAt, Tag, MappedBlock, Block, DiskCommand, Extent, Fate, LogEntry, LogOwner, Carried, IssuedCommand}
use Words.commands
use Words.Page.{filled}
use Words.fates
use Words.Keys.{same_client, same_file, same_page}
use Words.FlatLog as log
use Words.FlatLog.{same_owner, owner, content}
use Words.ClientPages.{found_under}
use Words.Disks as disks
use Words.World.{World, issued_of}
use Words.Events.{is_hard_fate, is_entry_of, latest, latest_from, latest_at}
use Words.Tables.{and_both}
use Words.Truth.{file_self, not_both}
use Rattle.st_laws_pages.specs.Disks.Folds.{SettledOn, DoneUpto}
use Rattle.st_laws_pages.specs.Disks.Pages.{mapping_of}
use Rattle.st_laws_pages.specs.Disks.World.{mapped_in, block_in, EffectDone, PagesHold}
use Rattle.st_laws_pages.specs.Disks.Data.{HardOf}
use Rattle.st_laws_pages.specs.Fates.Fates.{PendingAll}
use Rattle.st_laws_pages.proofs.Disks.Folds.{settled_is, owner_parts}

-- A read of a mapped page of which nothing is pending finds the content.
pub read_finds : (w : World) (f : FileId) (p : PageNo) (e : Extent) → PagesHold w → mapped_in w f p ≡ Some e → SettledOn f p w.log →
    found_under f p (block_in w e.at).tag (block_in w e.at).bytes (mapping_of e) ≡ content w.log f p
unfolding content
read_finds w f p e h m s = ap (Rattle.st_laws_pages.specs.Disks.Pages.standing f p (block_in w)) (sym m) ∙ h.pages.stands f p ∙ sym (settled_is f p (filled 0) w.log s)

-- An unmapped page of which nothing is pending has zeros.
pub unmapped_finds : (w : World) (f : FileId) (p : PageNo) → PagesHold w → mapped_in w f p ≡ None → SettledOn f p w.log → content w.log f p ≡ filled 0
unfolding content
unmapped_finds w f p h m s = settled_is f p (filled 0) w.log s ∙ sym (h.pages.stands f p) ∙ ap (Rattle.st_laws_pages.specs.Disks.Pages.standing f p (block_in w)) m

-- A client's latest entry of a page is its last.
latest_from_up : (n before : ℕ) (c : ClientId) (f : FileId) (p : PageNo) (es : List LogEntry) → before < n → before ≤ latest_from n before c f p es
unfolding latest_from latest_at
latest_from_up n before c f p [] h = omega arith
latest_from_up n before c f p (e ∷ es) h = go (is_entry_of c f p e) (latest_from_up (n + 1) n c f p es (omega arith)) (latest_from_up (n + 1) before c f p es (omega arith))
  where
    go : (b : Bool) → n ≤ latest_from (n + 1) n c f p es → before ≤ latest_from (n + 1) before c f p es → before ≤ latest_from (n + 1) (if b then n else before) c f p es
    go true a b = omega (arith, a, h)
    go false a b = b

-- all entries of a client to a page that are done up to its latest, and of which none is gone, are hard
abbrev pub NotGone : LogOwner → List LogEntry → Type 0
NotGone o [] = Unit {0}
NotGone o (e ∷ es) = record { one : same_owner e.of o ≡ true → log.counts e.fate ≡ true; rest : NotGone o es }

-- what is done up to its client's latest entry of the page is not pending
pub none_upto : (n before : ℕ) (o : LogOwner) (es : List LogEntry) → before < n → DoneUpto n (latest_from n before o.client o.file o.page es) o es → PendingAll (λ x. same_owner x o ≡ true → ⊥) es
unfolding latest_from latest_at
none_upto n before o [] h d = record {}
none_upto n before o (e ∷ es) h d =
    record {
      one = λ t s. not_both (log.is_pending e.fate) t (d.one (le-leb n _ (top s)) s);
      rest = none_upto (n + 1) (if is_entry_of o.client o.file o.page e then n else before) o es (low (is_entry_of o.client o.file o.page e)) d.rest;
    }
  where
    low : (b : Bool) → (if b then n else before) < n + 1
    low true = omega arith
    low false = omega (arith, h)

    its : same_owner e.of o ≡ true → is_entry_of o.client o.file o.page e ≡ true
    its s = let z = owner_parts e.of o s in subst (λ (q : LogOwner). (same_client q.client o.client && (same_file q.file o.file && same_page q.page o.page)) ≡ true) (sym z)
        (and_both _ _ (eq-eqb o.client.0 o.client.0 refl) (and_both _ _ (file_self o.file) (eq-eqb o.page.0 o.page.0 refl)))

    top : same_owner e.of o ≡ true → n ≤ latest_from (n + 1) (if is_entry_of o.client o.file o.page e then n else before) o.client o.file o.page es
    top s = subst (λ (b : Bool). n ≤ latest_from (n + 1) (if b then n else before) o.client o.file o.page es) (sym (its s)) (latest_from_up (n + 1) n o.client o.file o.page es (omega arith))

hard_all : (o : LogOwner) (es : List LogEntry) → PendingAll (λ x. same_owner x o ≡ true → ⊥) es → NotGone o es → HardOf o es
hard_all o [] n g = record {}
hard_all o (e ∷ es) n g = record { one = λ s. hard e.fate (λ t. n.one t s) (g.one s); rest = hard_all o es n.rest g.rest }
  where
    hard : (z : Fate) → (log.is_pending z ≡ true → ⊥) → log.counts z ≡ true → is_hard_fate z ≡ true
    hard fates.Pending a b = absurd (a refl)
    hard fates.Hard a b = refl
    hard (fates.Gone c) a b = cc

hard_upto : (n before : ℕ) (o : LogOwner) (es : List LogEntry) → before < n → DoneUpto n (latest_from n before o.client o.file o.page es) o es → NotGone o es → HardOf o es
hard_upto n before o es h d g = hard_all o es (none_upto n before o es h d) g

index_of : Option Carried → ℕ
index_of None = 0
index_of (Some c) = c.index

-- A write that was reported to have been done, and carries its client's latest entry of the page, has made it hard.
pub hard_is : (w : World) (k : ℕ) (x : IssuedCommand) (d : DiskCommand) (at : BlockAt) (tag : Tag) (bytes : List ℕ) → PagesHold w → issued_of w k ≡ Some x → disks.command w.disks k ≡ Some d → d.what ≡ commands.Write at tag bytes → d.effected ≡ true →
    x.carries ≡ Some (record { file = tag.file; page = tag.page; index = latest w.log x.client tag.file tag.page }) → NotGone (owner x.client x.life tag.file tag.page) w.log → HardOf (owner x.client x.life tag.file tag.page) w.log
unfolding latest index_of
hard_is w k x d at tag bytes h i e what f c g = go (h.commands.done k x d at tag bytes i e what f)
  where
    o : LogOwner
    o = owner x.client x.life tag.file tag.page

    go : EffectDone w.log x tag → HardOf o w.log
    go z = hard_upto 1 0 o w.log (omega arith) (subst (λ n. DoneUpto 1 n o w.log) (same z.index (latest w.log x.client tag.file tag.page) (sym z.carries ∙ c)) z.done) g
      where
        same : (n m : ℕ) → ◌≡◌ {A = Option Carried} (Some (record { file = tag.file; page = tag.page; index = n })) (Some (record { file = tag.file; page = tag.page; index = m })) → n ≡ m
        same n m q = ap index_of q

-- A read that a client waits for: its page is mapped where it reads, nothing of the page is pending, and what it found is the content.
pub record Reading (w : World) (k : ℕ) (f : FileId) (p : PageNo) (m : MappedBlock) : Type 0 where
  pub command : DiskCommand
  pub is : disks.command w.disks k ≡ Some command
  pub what : command.what ≡ commands.Read m.at
  pub extent : Extent
  pub mapped : mapped_in w f p ≡ Some extent
  pub known : mapping_of extent ≡ m
  pub settled : SettledOn f p w.log
  pub sampled : (b : Block) → disks.sample w.disks k ≡ Some b → found_under f p b.tag b.bytes m ≡ content w.log f p
