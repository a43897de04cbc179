-- Outstanding commands match the dirty pages after each change.
use Rattle.st_lemmas.proofs.Words
use Words.{◌≡◌, ℕ, ◌⊎◌, Bool, true, false, List, [], ◌∷◌, ◌++◌, refl, sym, ap, ◌∙◌, subst, inl, inr, not, find, filter, map, ◌&&◌, Option, Some, None, is_some}
use Words.{option_map, Result, Ok, Err, if◌then◌else◌, PageNo, IoKind, PageCommand, WriteRefusal, DirtyPage}
use Words.Lists.{Has}
use Words.Tables.{and_true, not_true, all_pass, each_passes, has_filter, has_append, find_kept, find_map, found_at, none_has}
use Words.Keys.{put}
use Words.ClientPages.{Pages, begin_command, command_on, dirty_of, end_at, end_command, fail, fail_of, forget_read, is_being_read, is_being_written}
use Words.ClientPages.{is_write_of, harden, harden_at, harden_page, is_command_of, is_dirty_of, is_full_for, is_numbered, is_read_of, is_write, new_dirty}
use Words.ClientPages.{page_command, without_dirty, write, written}
use Words.writing
use Words.Versions.{place_failed}
use Rattle.st_lemmas.proofs.Contents.{Place_is, one_place, other_place}
use Rattle.st_flush.proofs.Places.{no_command}
use Rattle.st_lemmas.proofs.Once.{none_any}
use Rattle.st_lemmas.proofs.Puts.{find_put_by, find_put_other}
use Rattle.st_client_store.specs.Stores.{AreMatched, agree, is_matched}

-- if a command of a page isn't a read of it
write_there : (b x : Bool) → x ≡ true → not (not b && x) ≡ true → b ≡ true
write_there true x e f = refl
write_there false x e f = cc

turned : (j : ℕ) (q : PageNo) (ino : ℕ) (p : PageNo) → Place_is j q ino p ≡ true → Place_is ino p j q ≡ true
turned j q ino p e =
    let h = one_place j q ino p e in
    let g = sym h.0 in
    let k = sym h.1 in
    (λ i. Place_is (g i) (k i) (h.0 i) (h.1 i)) ∙ e

-- a page is changed, and its read is forgotten
pub matched_put : (dirty : List DirtyPage) (d : DirtyPage) (cs : List PageCommand) → AreMatched dirty cs →
    AreMatched (put (is_dirty_of d.ino d.page) d dirty) (filter (λ c. not (is_read_of d.ino d.page c)) cs)
matched_put dirty d cs m =
    all_pass (is_matched (put (is_dirty_of d.ino d.page) d dirty)) (filter (λ c. not (is_read_of d.ino d.page c)) cs)
    (λ c h. let k = has_filter (λ c. not (is_read_of d.ino d.page c)) cs c h in one c (each_passes (is_matched dirty) cs m c k.0) k.1)
  where
    one : (c : PageCommand) → is_matched dirty c ≡ true → not (is_read_of d.ino d.page c) ≡ true → is_matched (put (is_dirty_of d.ino d.page) d dirty) c ≡ true
    one c o r = by (Place_is d.ino d.page c.ino c.page) refl
      where
        by : (b : Bool) → Place_is d.ino d.page c.ino c.page ≡ b → is_matched (put (is_dirty_of d.ino d.page) d dirty) c ≡ true
        by true e =
            let h = one_place d.ino d.page c.ino c.page e in
            let there : find (is_dirty_of c.ino c.page) (put (is_dirty_of d.ino d.page) d dirty) ≡ Some d =
            find_put_by (is_dirty_of c.ino c.page) (is_dirty_of d.ino d.page) d dirty e (λ y q. (λ i. Place_is y.ino y.page (h.0 i) (h.1 i)) ∙ q) in
            let w : is_write c.kind ≡ true = write_there (is_write c.kind) (Place_is c.ino c.page d.ino d.page) (turned d.ino d.page c.ino c.page e) r in
            λ i. agree (w i) (is_some (there i))
        by false e =
            ap (λ o. agree (is_write c.kind) (is_some o))
            (find_put_other (is_dirty_of c.ino c.page) (is_dirty_of d.ino d.page) d dirty e (λ y q. other_place d.ino d.page c.ino c.page e y.ino y.page q))
            ∙ o

abbrev is_refused : Result Pages WriteRefusal
is_refused = Err writing.DirtyFull

-- a change that was not refused
pub matched_written : (ps qs : Pages) (ino : ℕ) (p : PageNo) (bytes : List ℕ) (cs : List PageCommand) → write ps ino p bytes ≡ Ok qs → AreMatched ps.dirty cs → AreMatched qs.dirty (forget_read cs ino p)
unfolding write written forget_read
matched_written ps qs ino p bytes cs e m = by (is_full_for ps ino p) e
  where
    by : (b : Bool) → (if b then is_refused else Ok (written ps ino p bytes)) ≡ Ok qs → AreMatched qs.dirty (forget_read cs ino p)
    by true e = cc
    by false e =
        let s : written ps ino p bytes ≡ qs = cc in
        subst (λ (z : Pages). AreMatched z.dirty (forget_read cs ino p)) s (matched_put ps.dirty (new_dirty ps ino p bytes) cs m)

pub matched_fewer : (dirty : List DirtyPage) (q : PageCommand → Bool) (cs : List PageCommand) → AreMatched dirty cs → AreMatched dirty (filter q cs)
matched_fewer dirty q cs m = all_pass (is_matched dirty) (filter q cs) (λ c h. each_passes (is_matched dirty) cs m c (has_filter q cs c h).0)

-- a command ended, or is unknown
pub matched_ended : (dirty : List DirtyPage) (number : ℕ) (ok : Bool) (version : ℕ) (cs : List PageCommand) → AreMatched dirty cs → AreMatched dirty (end_command cs number ok version).commands
unfolding end_command end_at
matched_ended dirty number ok version cs m = by (find (is_numbered number) cs)
  where
    by : (o : Option PageCommand) → AreMatched dirty (end_at cs number ok version o).commands
    by None = m
    by (Some c) = matched_fewer dirty (λ c. not (is_numbered number c)) cs m

-- one more command that matches
pub matched_more : (dirty : List DirtyPage) (cs : List PageCommand) (number ino : ℕ) (p : PageNo) (kind : IoKind) → agree (is_write kind) (is_some (find (is_dirty_of ino p) dirty)) ≡ true → AreMatched dirty cs →
    AreMatched dirty (begin_command cs number ino p kind)
unfolding begin_command
matched_more dirty cs number ino p kind a m =
    all_pass (is_matched dirty) (cs ++ page_command number ino p kind ∷ []) (λ c h. by c (has_append cs (page_command number ino p kind ∷ []) c h))
  where
    by : (c : PageCommand) → Has c cs ⊎ Has c (page_command number ino p kind ∷ []) → is_matched dirty c ≡ true
    by c (inl h) = each_passes (is_matched dirty) cs m c h
    by c (inr (inl e)) = ap (is_matched dirty) e ∙ a
    by c (inr (inr h)) = elim h [ ]

-- a page without a command is no longer dirty
pub matched_without : (dirty : List DirtyPage) (ino : ℕ) (p : PageNo) (cs : List PageCommand) → command_on cs ino p ≡ None → AreMatched dirty cs → AreMatched (without_dirty ino p dirty) cs
matched_without dirty ino p cs n m = all_pass (is_matched (without_dirty ino p dirty)) cs one
  where
    one : (c : PageCommand) → Has c cs → is_matched (without_dirty ino p dirty) c ≡ true
    one c h =
        let other : Place_is c.ino c.page ino p ≡ false = none_has (is_command_of ino p) cs n c h in
        ap (λ o. agree (is_write c.kind) (is_some o))
        (find_kept (is_dirty_of c.ino c.page) (λ d. not (is_dirty_of ino p d))
        (λ d q. let k = one_place d.ino d.page c.ino c.page q in ap not ((λ i. Place_is (k.0 i) (k.1 i) ino p) ∙ other)) dirty)
        ∙ each_passes (is_matched dirty) cs m c h

pub matched_hardened : (ps : Pages) (ino : ℕ) (p : PageNo) (cs : List PageCommand) → command_on cs ino p ≡ None → AreMatched ps.dirty cs → AreMatched (harden ps ino p).dirty cs
unfolding harden harden_at harden_page
matched_hardened ps ino p cs n m = by (dirty_of ps ino p) refl
  where
    by : (o : Option DirtyPage) → dirty_of ps ino p ≡ o → AreMatched (harden_at ps o).dirty cs
    by None e = m
    by (Some d) e =
        let k = one_place d.ino d.page ino p (found_at (is_dirty_of ino p) ps.dirty d e).0 in
        matched_without ps.dirty d.ino d.page cs ((λ i. command_on cs (k.0 i) (k.1 i)) ∙ n) m

some_mapped : {A : Type 0} (f : A → A) (o : Option A) → is_some (option_map f o) ≡ is_some o
some_mapped f None = refl
some_mapped f (Some x) = refl

-- a page's command failed
pub matched_failed : (ps : Pages) (ino : ℕ) (p : PageNo) (command : ℕ) (cs : List PageCommand) → AreMatched ps.dirty cs → AreMatched (fail ps ino p command).dirty cs
unfolding fail
matched_failed ps ino p command cs m =
    all_pass (is_matched (map (fail_of ino p command) ps.dirty)) cs
    (λ c h.
    ap (λ o. agree (is_write c.kind) (is_some o))
    (find_map (is_dirty_of c.ino c.page) (fail_of ino p command) (λ d. place_failed ino p command c.ino c.page d) ps.dirty)
    ∙ ap (agree (is_write c.kind)) (some_mapped (fail_of ino p command) (find (is_dirty_of c.ino c.page) ps.dirty))
    ∙ each_passes (is_matched ps.dirty) cs m c h)

nothing_dirty : is_some {T = DirtyPage} None ≡ true → true ≡ false
nothing_dirty e = cc

-- a page that is not dirty and not being read has no command
pub none_read : (dirty : List DirtyPage) (ino : ℕ) (p : PageNo) (cs : List PageCommand) → find (is_dirty_of ino p) dirty ≡ None → is_being_read cs ino p ≡ false → AreMatched dirty cs → command_on cs ino p ≡ None
none_read dirty ino p cs n r m = no_command cs ino p r (none_any (is_write_of ino p) cs one)
  where
    one : (c : PageCommand) → Has c cs → is_write_of ino p c ≡ false
    one c h = by (is_write_of ino p c) refl
      where
        by : (b : Bool) → is_write_of ino p c ≡ b → b ≡ false
        by true e =
            let q = and_true (is_write c.kind) (Place_is c.ino c.page ino p) e in
            let k = one_place c.ino c.page ino p q.1 in
            let u = sym k.0 in
            let v = sym k.1 in
            let w = sym q.0 in
            let a : agree (is_write c.kind) (is_some (find (is_dirty_of c.ino c.page) dirty)) ≡ true = each_passes (is_matched dirty) cs m c h in
            let b : agree true (is_some (find (is_dirty_of ino p) dirty)) ≡ true =
            (λ i. agree (w i) (is_some (find (is_dirty_of (u i) (v i)) dirty))) ∙ a in
            nothing_dirty (ap is_some (sym n) ∙ b)
        by false e = refl

both_ways : (x : Bool) → x ≡ true → not x ≡ true → true ≡ false
both_ways true e f = cc
both_ways false e f = cc

-- a page that is dirty and not being written has no command
pub none_written : (dirty : List DirtyPage) (ino : ℕ) (p : PageNo) (cs : List PageCommand) → is_some (find (is_dirty_of ino p) dirty) ≡ true → is_being_written cs ino p ≡ false → AreMatched dirty cs → command_on cs ino p ≡ None
none_written dirty ino p cs n w m = no_command cs ino p (none_any (is_read_of ino p) cs one) w
  where
    one : (c : PageCommand) → Has c cs → is_read_of ino p c ≡ false
    one c h = by (is_read_of ino p c) refl
      where
        by : (b : Bool) → is_read_of ino p c ≡ b → b ≡ false
        by true e =
            let q = and_true (not (is_write c.kind)) (Place_is c.ino c.page ino p) e in
            let k = one_place c.ino c.page ino p q.1 in
            let u = sym k.0 in
            let v = sym k.1 in
            let w = sym (not_true (is_write c.kind) q.0) in
            let a : agree (is_write c.kind) (is_some (find (is_dirty_of c.ino c.page) dirty)) ≡ true = each_passes (is_matched dirty) cs m c h in
            let b : agree false (is_some (find (is_dirty_of ino p) dirty)) ≡ true =
            (λ i. agree (w i) (is_some (find (is_dirty_of (u i) (v i)) dirty))) ∙ a in
            both_ways (is_some (find (is_dirty_of ino p) dirty)) n b
        by false e = refl
