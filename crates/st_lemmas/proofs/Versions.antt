-- What a change of a client's pages leaves of versions, places and commands.
use Rattle.std.proofs.Common.{Bool, List, None, Option, Some, [], ap, eqb-true, false, find, if◌then◌else◌, refl, suc, sym, true, zero, ℕ, ◌++◌, ◌==◌, ◌∙◌, ◌∷◌}
use Rattle.std.proofs.Common.{◌≡◌}
use Rattle.st_base.specs.declared.ids.PageNo.{PageNo}
use Rattle.st_lemmas.proofs.Numbers.{numbered_old}
use Rattle.st_rules.specs.ClientPages.{Pages, clean_of, dirty_of, fail_of, failed_by, harden, harden_at, harden_page, is_dirty_of, use_at, use_clean, use_page}
use Rattle.st_rules.specs.declared.client.CleanPage.{CleanPage}
use Rattle.st_rules.specs.declared.client.PageCommand.{PageCommand}
use Rattle.st_rules.specs.declared.disks.DiskCommand.{DiskCommand}
use Rattle.st_rules.specs.declared.pages.DirtyPage.{DirtyPage}
use Rattle.st_rules.specs.Disks as disks
use Rattle.st_rules.specs.ClientPages as pages

pub version_hardened : (ps : Pages) (ino : ℕ) (p : PageNo) → (harden ps ino p).next_version ≡ ps.next_version
unfolding harden harden_at harden_page
version_hardened ps ino p = by (dirty_of ps ino p)
  where
    by : (o : Option DirtyPage) → (harden_at ps o).next_version ≡ ps.next_version
    by None = refl
    by (Some d) = refl

pub version_failed : (ps : Pages) (ino : ℕ) (p : PageNo) (n : ℕ) → (pages.fail ps ino p n).next_version ≡ ps.next_version
unfolding pages.fail
version_failed ps ino p n = refl

-- versions stay when a page is used
pub version_used : (ps : Pages) (ino : ℕ) (p : PageNo) → (use_page ps ino p).next_version ≡ ps.next_version
unfolding use_page use_clean use_at
version_used ps ino p = by (dirty_of ps ino p)
  where
    at : (c : Option CleanPage) → (use_at ps c).next_version ≡ ps.next_version
    at None = refl
    at (Some c) = refl

    by : (o : Option DirtyPage) → (use_clean ps ino p o).next_version ≡ ps.next_version
    by None = at (clean_of ps ino p)
    by (Some d) = refl

-- a page is used
pub dirty_used : (ps : Pages) (ino : ℕ) (p : PageNo) → (use_page ps ino p).dirty ≡ ps.dirty
unfolding use_page use_clean use_at
dirty_used ps ino p = by (dirty_of ps ino p) (clean_of ps ino p)
  where
    at : (c : Option CleanPage) → (use_at ps c).dirty ≡ ps.dirty
    at None = refl
    at (Some c) = refl

    by : (o : Option DirtyPage) (c : Option CleanPage) → (use_clean ps ino p o).dirty ≡ ps.dirty
    by None c = at (clean_of ps ino p)
    by (Some d) c = refl

pub place_failed : (ino : ℕ) (p : PageNo) (command j : ℕ) (q : PageNo) (d : DirtyPage) → is_dirty_of j q (fail_of ino p command d) ≡ is_dirty_of j q d
unfolding failed_by
place_failed ino p command j q d = by (is_dirty_of ino p d)
  where
    by : (b : Bool) → is_dirty_of j q (if b then failed_by command d else d) ≡ is_dirty_of j q d
    by true = refl
    by false = refl

-- a command that is found has its number
pub command_number : (cs : List PageCommand) (n : ℕ) (c : PageCommand) → pages.command_of cs n ≡ Some c → c.number ≡ n
command_number [] n c e = cc
command_number (x ∷ xs) n c e = go (x.number == n) refl e (command_number xs n c)
  where
    go : (b : Bool) → (x.number == n) ≡ b → (if b then Some x else find (pages.is_numbered n) xs) ≡ Some c →
        (find (pages.is_numbered n) xs ≡ Some c → c.number ≡ n) → c.number ≡ n
    go true q e f = ap (λ (z : PageCommand). z.number) (sym (inj e)) ∙ eqb-true x.number n q
      where
        inj : Some x ≡ Some c → x ≡ c
        inj z = cc
    go false q e f = f e

pub command_old : (ds : List DiskCommand) (d : DiskCommand) (k : ℕ) (x : DiskCommand) → disks.command_at ds k ≡ Some x →
    disks.command_at (ds ++ d ∷ []) k ≡ Some x
command_old ds d zero x e = cc
command_old ds d (suc k) x e = numbered_old ds d (suc k) x e
