-- A command that ends: its page is not dirty where it read, and has no other command.
use Rattle.st_lemmas.proofs.Words
use Words.{◌≡◌, ℕ, Bool, true, false, ◌&&◌, ◌==◌, not, List, Option, Some, None, refl, sym, ap, ◌∙◌, find, is_some, if◌then◌else◌, and_from, and_parts}
use Words.{eq-eqb, eqb-true, IoKind, PageCommand, DirtyPage, ServerId}
use Words.Tables.{each_passes, find_gone_in, found_at}
use Words.Keys.{same_page}
use Words.ClientInvariants.{same_page_command}
use Words.ClientPages.{command_of, command_on, done_as, end_at, end_command, ended_as, is_command_of, is_dirty_of, is_numbered, is_write, without_command}
use Words.ends
use Words.io.{Read, Write}
use Words.answers
use Words.Client.{failed_as, is_present, mark_failed, with_failed}
use Words.ClientState.{Turn, answer_each, is_on, is_sync, reads_page}
use Words.Truth.{eqb_turned}
use Rattle.st_flush.specs.Calls.{AreApart}
use Rattle.st_lemmas.proofs.Once.{found_once}
use Rattle.st_client_store.specs.Stores.{AreMatched, agree, is_matched}

flip_page : (x y : PageCommand) → same_page_command x y ≡ same_page_command y x
flip_page x y = λ i. eqb_turned y.ino x.ino i && eqb_turned y.page.0 x.page.0 i

self_page : (x : PageCommand) → same_page_command x x ≡ true
self_page x = and_from (x.ino == x.ino) (same_page x.page x.page) (eq-eqb x.ino x.ino refl) (eq-eqb x.page.0 x.page.0 refl)

-- the page of a command that ends has no other one
pub page_free : (cs : List PageCommand) (c : PageCommand) → AreApart cs → command_of cs c.number ≡ Some c → command_on (without_command c.number cs) c.ino c.page ≡ None
page_free cs c a e =
    find_gone_in (is_command_of c.ino c.page) (λ x. not (is_numbered c.number x)) cs
    (λ x h q.
    let here : find (same_page_command x) cs ≡ Some x = found_once same_page_command self_page flip_page cs a.one_command x h in
    let there : find (same_page_command c) cs ≡ Some c = found_once same_page_command self_page flip_page cs a.one_command c (found_at (is_numbered c.number) cs c e).1 in
    let p = and_parts (x.ino == c.ino) (same_page x.page c.page) q in
    let i : x.ino ≡ c.ino = eqb-true _ _ p.0 in
    let n : x.page.0 ≡ c.page.0 = eqb-true _ _ p.1 in
    let one : find (same_page_command x) cs ≡ find (same_page_command c) cs = λ j. find (is_command_of (i j) (record { 0 = n j })) cs in
    let same : x ≡ c = ap (λ (o : Option PageCommand). or_else x o) (sym here ∙ one ∙ there) in
    ap not (ap (λ (z : PageCommand). is_numbered c.number z) same ∙ eq-eqb c.number c.number refl))
  where
    or_else : PageCommand → Option PageCommand → PageCommand
    or_else x None = x
    or_else x (Some y) = y

-- the page of a read is not dirty
pub page_clean : (dirty : List DirtyPage) (cs : List PageCommand) (c : PageCommand) → AreMatched dirty cs → command_of cs c.number ≡ Some c → is_write c.kind ≡ false → not (is_some (find (is_dirty_of c.ino c.page) dirty)) ≡ true
page_clean dirty cs c m e w =
    ap (λ (b : Bool). agree b (is_some (find (is_dirty_of c.ino c.page) dirty))) (sym w)
    ∙ each_passes (is_matched dirty) cs m c (found_at (is_numbered c.number) cs c e).1

-- a command that filled its page was a read
filled_read : (kind : IoKind) (ok : Bool) (version : ℕ) (c : PageCommand) → c.kind ≡ kind → ended_as c ok version ≡ ends.Filled → is_write kind ≡ false
filled_read Read ok version c k e = refl
filled_read (Write v) true version c k e = by (v == version) (ap (λ (z : IoKind). done_as z version) (sym k) ∙ e)
  where
    by : (b : Bool) → (if b then ends.Hard else ends.Redirty) ≡ ends.Filled → true ≡ false
    by true h = cc
    by false h = cc
filled_read (Write v) false version c k e = cc

module _ (cs : List PageCommand) (c : PageCommand) (ok : Bool) (version : ℕ) (e : command_of cs c.number ≡ Some c) where
  ended_is : (end_command cs c.number ok version).ended ≡ ended_as c ok version
  unfolding end_command end_at
  ended_is = ap (λ (o : Option PageCommand). (end_at cs c.number ok version o).ended) e

  left_is : (end_command cs c.number ok version).commands ≡ without_command c.number cs
  unfolding end_command end_at
  left_is = ap (λ (o : Option PageCommand). (end_at cs c.number ok version o).commands) e

  pub filled_clean : (dirty : List DirtyPage) → AreMatched dirty cs → (end_command cs c.number ok version).ended ≡ ends.Filled → not (is_some (find (is_dirty_of c.ino c.page) dirty)) ≡ true
  filled_clean dirty m f = page_clean dirty cs c m e (filled_read c.kind ok version c refl (sym ended_is ∙ f))

  pub ended_free : AreApart cs → not (is_some (command_on (end_command cs c.number ok version).commands c.ino c.page)) ≡ true
  ended_free a = ap (λ ds. not (is_some (command_on ds c.ino c.page))) left_is ∙ ap (λ (o : Option PageCommand). not (is_some o)) (page_free cs c a e)

-- the command of a number is that of its own number
pub own_number : (cs : List PageCommand) (n : ℕ) (c : PageCommand) → Some c ≡ command_of cs n → command_of cs c.number ≡ Some c
own_number cs n c e =
    let q : c.number ≡ n = eqb-true _ _ (found_at (is_numbered n) cs c (sym e)).0 in
    ap (command_of cs) q ∙ sym e

-- Failures.

marked_server : (t : Turn) (c : PageCommand) (version : ℕ) → (mark_failed t c version).here.server ≡ t.here.server
unfolding mark_failed
marked_server t c version = by (is_present t c version)
  where
    by : (b : Bool) → (if b then with_failed c t else t).here.server ≡ t.here.server
    by true = refl
    by false = refl

pub failed_read : (t : Turn) (c : PageCommand) (s : ServerId) → s ≡ t.here.server → answer_each (λ o. reads_page s c.ino c.page o.ask) (answers.DiskFault c.number) t ≡ failed_as t c Read
unfolding failed_as
failed_read t c s e = λ i. answer_each (λ o. reads_page (e i) c.ino c.page o.ask) (answers.DiskFault c.number) t

pub failed_write : (t u : Turn) (c : PageCommand) (version : ℕ) (s : ServerId) → u ≡ mark_failed t c version → s ≡ u.here.server →
    answer_each (λ o. is_on s c.ino o && is_sync o.ask) (answers.DiskFault c.number) u ≡ failed_as t c (Write version)
unfolding failed_as
failed_write t u c version s is e =
    let same : s ≡ t.here.server = e ∙ ap (λ v. v.here.server) is ∙ marked_server t c version in
    λ i. answer_each (λ o. is_on (same i) c.ino o && is_sync o.ask) (answers.DiskFault c.number) (is i)
