-- Where commands may begin: at a page of which no read and no write is outstanding, under a number above all that were given.
use Rattle.st_lemmas.proofs.Words
use Words.{◌≡◌, ℕ, ◌+◌, ◌<◌, ◌≤◌, Bool, true, false, ◌&&◌, ◌||◌, ◌==◌, not, cond, if◌then◌else◌, List, [], ◌∷◌, map, Option, Some, None, refl, sym, ap, ◌∙◌}
use Words.{arith, find, filter_map, is_some, list_all, list_any, cons_option, and_parts, ltb-true, not-true, eqb-true, PageNo, MappedBlock, PageCommand}
use Words.{DirtyPage}
use Words.Keys.{same_page}
use Words.ClientInvariants.{is_below}
use Words.ClientPages as pages
use Words.ClientPages.{Store, command_of, command_on, is_command_of, is_numbered, is_read_of, is_write, is_write_of}
use Words.ClientPasses.{is_unfailed}
use Words.Lists.{Has}
use Words.Lookups.{or_false}
use Words.Tables.{found_at}
use Rattle.st_flush.specs.Calls.{is_taken_in}
use Rattle.st_flush.specs.FlushWrites.{Draining, drained, drained_at, drained_by, drained_of, drained_to, is_drained, version_of}

-- a command of a page reads or writes it
read_or_write : (c : PageCommand) (ino : ℕ) (p : PageNo) → is_read_of ino p c ≡ false → is_write_of ino p c ≡ false → is_command_of ino p c ≡ false
read_or_write c ino p r w = by (is_write c.kind) r w
  where
    by : (b : Bool) → (not b && ((c.ino == ino) && same_page c.page p)) ≡ false → (b && ((c.ino == ino) && same_page c.page p)) ≡ false → ((c.ino == ino) && same_page c.page p) ≡ false
    by true r w = w
    by false r w = r

-- no command of a page of which no read and no write is outstanding
pub no_command : (cs : List PageCommand) (ino : ℕ) (p : PageNo) → pages.is_being_read cs ino p ≡ false → pages.is_being_written cs ino p ≡ false → command_on cs ino p ≡ None
no_command [] ino p r w = refl
no_command (c ∷ cs) ino p r w =
    let a = or_false (is_read_of ino p c) (list_any (is_read_of ino p) cs) r in
    let b = or_false (is_write_of ino p c) (list_any (is_write_of ino p) cs) w in
    ap (λ (v : Bool). cond v (Some c) (find (is_command_of ino p) cs)) (read_or_write c ino p a.0 b.0) ∙ no_command cs ino p a.1 b.1

pub no_number : (cs : List PageCommand) (next : ℕ) → list_all (is_below next) cs ≡ true → command_of cs next ≡ None
no_number [] next h = refl
no_number (c ∷ cs) next h =
    let q = and_parts (is_below next c) (list_all (is_below next) cs) h in
    ap (λ (v : Bool). cond v (Some c) (find (is_numbered next) cs)) (other (c.number == next) refl (ltb-true _ _ q.0)) ∙ no_number cs next q.1
  where
    other : (b : Bool) → (c.number == next) ≡ b → c.number < next → b ≡ false
    other true e l = let m : c.number ≡ next = eqb-true _ _ e in absurd (omega arith)
    other false e l = refl

-- All that goes out in the flush phase may begin.

module _ (st : Store) (unread : (d : DirtyPage) → Has d st.pages.dirty → pages.is_being_read st.commands d.ino d.page ≡ false) where
  none_taken : (d : DirtyPage) → Has d st.pages.dirty → (w : Draining) → drained_by st d ≡ Some w → is_taken_in st.commands (version_of w) ≡ false
  none_taken d m w e = by (is_drained st d) refl e
    where
      to_is : (o : Option MappedBlock) → drained_to d o ≡ Some w → w.page ≡ d
      to_is None e = cc
      to_is (Some n) e = let s : record { page = d; mapping = n } ≡ w = cc in sym (ap (λ z. z.page) s)

      by : (b : Bool) → is_drained st d ≡ b → (if b then drained_to d (pages.mapping_of st.extents d.ino d.page) else None) ≡ Some w → is_taken_in st.commands (version_of w) ≡ false
      by true q e =
          let free : command_on st.commands d.ino d.page ≡ None =
          no_command st.commands d.ino d.page (unread d m) (not-true _ (and_parts (not (pages.is_being_written st.commands d.ino d.page)) (is_unfailed d) q).0) in
          ap (λ (x : DirtyPage). is_some (command_on st.commands x.ino x.page)) (to_is (pages.mapping_of st.extents d.ino d.page) e) ∙ ap is_some free
      by false q e = cc

  taken_at : (x : ℕ × PageNo) (w : Draining) → drained_at st x ≡ Some w → is_taken_in st.commands (version_of w) ≡ false
  taken_at x w e = by (pages.dirty_of st.pages x.0 x.1) refl e
    where
      by : (o : Option DirtyPage) → pages.dirty_of st.pages x.0 x.1 ≡ o → drained_of st o ≡ Some w → is_taken_in st.commands (version_of w) ≡ false
      by None f e = cc
      by (Some d) f e = none_taken d (found_at (pages.is_dirty_of x.0 x.1) st.pages.dirty d f).1 w e

  none_of : (xs : List (ℕ × PageNo)) → list_any (is_taken_in st.commands) (map version_of (filter_map (drained_at st) xs)) ≡ false
  none_of [] = refl
  none_of (x ∷ xs) = by (drained_at st x) refl (none_of xs)
    where
      by : (o : Option Draining) → drained_at st x ≡ o → list_any (is_taken_in st.commands) (map version_of (filter_map (drained_at st) xs)) ≡ false →
          list_any (is_taken_in st.commands) (map version_of (cons_option o (filter_map (drained_at st) xs))) ≡ false
      by None e i = i
      by (Some w) e i = λ k. taken_at x w e k || i k
