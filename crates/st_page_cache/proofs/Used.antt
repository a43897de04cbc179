-- A page that is read shows the same bytes once it is used if 256 pages may be clean.
use Rattle.st_lemmas.proofs.Words
use Words.{◌≡◌, ℕ, ◌∷◌, take, refl, sym, ap, ◌∙◌, find, Option, Some, None, PageNo, CleanPage, DirtyPage}
use Words.Tables.{found_at}
use Words.ClientPages.{Pages, cached, cached_at, clean_of, dirty_of, is_clean_of, use_at, use_clean, use_page, without_clean}
use Rattle.std.proofs.lemmas.Bool.{cond-true}

module _ (ps : Pages) (ino : ℕ) (page : PageNo) (most : ps.most_clean ≡ 256) where
  at_clean : (o : Option CleanPage) → clean_of ps ino page ≡ o → cached (use_at ps o) ino page ≡ cached ps ino page
  unfolding use_at
  at_clean None e = refl
  at_clean (Some c) e =
      ap (cached_at (dirty_of ps ino page))
      (ap (λ n. find (is_clean_of ino page) (take n (c ∷ without_clean c.ino c.page ps.clean))) most
      ∙ cond-true (is_clean_of ino page c) (Some c) (find (is_clean_of ino page) (take 255 (without_clean c.ino c.page ps.clean)))
      (found_at (is_clean_of ino page) ps.clean c e).0 ∙ sym e)

  at_dirty : (o : Option DirtyPage) → dirty_of ps ino page ≡ o → cached (use_clean ps ino page o) ino page ≡ cached ps ino page
  unfolding use_clean
  at_dirty None e = at_clean (clean_of ps ino page) refl
  at_dirty (Some d) e = refl

  pub cached_used : cached (use_page ps ino page) ino page ≡ cached ps ino page
  unfolding use_page
  cached_used = at_dirty (dirty_of ps ino page) refl
