-- What a read of a page leaves.
use Rattle.st_lemmas.proofs.Words
use Words.{◌≡◌, ℕ, List, refl, sym, ap, ◌∙◌, Option, Some, None, option_map, Result, Ok, Err, IfOk, PageNo, CleanPage, DirtyPage}
use Words.ClientPages.{Pages, bytes_of_clean, cached, cached_at, clean_of, dirty_of, use_at, use_clean, use_page}
use Words.ClientState.{Turn}
use Rattle.st_client_association.specs.Turns.{Reads, with_pages}

-- a page that is neither dirty nor clean is not used
unused : (ps : Pages) (ino : ℕ) (p : PageNo) → cached ps ino p ≡ None → use_page ps ino p ≡ ps
unfolding use_page use_clean use_at
unused ps ino p e = by (dirty_of ps ino p) e
  where
    at : (c : Option CleanPage) → option_map bytes_of_clean c ≡ None → use_at ps c ≡ ps
    at None e = refl
    at (Some c) e = cc

    by : (d : Option DirtyPage) → cached_at d (clean_of ps ino p) ≡ None → use_clean ps ino p d ≡ ps
    by None e = at (clean_of ps ino p) e
    by (Some d) e = cc

-- the page is read, and used if it is cached
pub read_as : {E : Type 0} (t u : Turn) (ino : ℕ) (p : PageNo) (r : Result (Option (List ℕ)) E) → IfOk r (λ bytes. bytes ≡ cached t.here.store.pages ino p) →
    u ≡ with_pages (use_page t.here.store.pages ino p) t → IfOk r (λ bytes. Reads t u bytes ino p)
read_as t u ino p (Err e) h f = tt
read_as t u ino p (Ok None) h f = record { missing = sym h; same = f ∙ ap (λ ps. with_pages ps t) (unused t.here.store.pages ino p (sym h)) }
read_as t u ino p (Ok (Some bytes)) h f = record { cached = sym h; is = f }
