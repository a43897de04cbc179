-- What holds of a client's copies, as entries of others and of its earlier lives are dropped.
use Rattle.st_lemmas.proofs.Words
use Words.{◌≡◌, ℕ, zero, suc, ◌+◌, ◌⊎◌, Bool, true, false, ◌&&◌, List, [], ◌∷◌, ◌==◌, refl, sym, ap, ◌∙◌, subst, if◌then◌else◌, is_some, eqb-true, ClientId}
use Words.{FileId, PageNo, ServerId, Life, Cause, Fate, LogEntry, LogOwner}
use Words.Page.{filled}
use Words.fates
use Words.Keys.{same_file, same_server}
use Words.FlatLog as log
use Words.FlatLog.{content, content_from, is_of_life, is_pending}
use Words.ClientPages as pages
use Words.ClientPages.{Store}
use Words.ClientState.{Association}
use Words.Events.{is_hard_fate}
use Words.Tables.{and_true}
use Words.Truth.{not_both}
use Rattle.st_laws_refine.specs.Views.Halves.{held_in}
use Rattle.st_laws_refine.specs.Client.Invariants.{Lasts}
use Rattle.st_laws_reads.specs.Copies.Copies.{PageOk, FatesOk, file_at}
use Rattle.st_laws_reads.specs.Copies.Law.{Lived, AllWhile}
use Rattle.st_laws_reads.specs.Copies.World.{DropsUnheld, DropsKeepCopies}
use Rattle.st_laws_reads.proofs.Copies.Others.{unheld_ok}

module _ (picked : ℕ → LogOwner → Bool) (cause : FileId → PageNo → Cause) where
  -- what is dropped is of other files
  abbrev Elsewhere : FileId → ℕ → List LogEntry → Type 0
  Elsewhere f n [] = Unit {0}
  Elsewhere f n (e ∷ es) = record { one : picked n e.of ≡ true → is_pending e.fate ≡ true → same_file e.of.file f ≡ false; rest : Elsewhere f (n + 1) es }

  content_drop : (page : List ℕ) (f : FileId) (p : PageNo) (n : ℕ) (es : List LogEntry) → Elsewhere f n es → content_from page f p (log.drop_from n picked cause es) ≡ content_from page f p es
  unfolding content_from log.drop_from log.dropped log.lost_entry log.after
  content_drop page f p n [] h = refl
  content_drop page f p n (e ∷ es) h = ap (λ x. content_from x f p (log.drop_from (n + 1) picked cause es)) (go (picked n e.of) refl) ∙ content_drop (log.after f p e page) f p (n + 1) es h.rest
    where
      made : Bool → Bool → List ℕ
      made s counted = if (s && log.reaches e.change e.of.page p) && counted then log.changed e.change page else page

      gone : (k : Cause) (x : Fate) → (is_pending x ≡ true → same_file e.of.file f ≡ false) → made (same_file e.of.file f) (log.counts (log.lost k x)) ≡ made (same_file e.of.file f) (log.counts x)
      gone k fates.Pending q = ap (λ s. made s false) (q refl) ∙ sym (ap (λ s. made s true) (q refl))
      gone k fates.Hard q = refl
      gone k (fates.Gone d) q = refl

      go : (b : Bool) → picked n e.of ≡ b → log.after f p (if b then log.lost_entry cause e else e) page ≡ log.after f p e page
      go true q = gone (cause e.of.file e.of.page) e.fate (h.one q)
      go false q = refl

  -- what is dropped is on files of which this association has no lock
  abbrev Unlocked : Association → ℕ → List LogEntry → Type 0
  Unlocked a n [] = Unit {0}
  Unlocked a n (e ∷ es) =
      record { one : picked n e.of ≡ true → is_pending e.fate ≡ true → e.of.file.server ≡ a.server → (held_in a.session e.of.file.ino).mode ≡ 0; rest : Unlocked a (n + 1) es }

  elsewhere : (a : Association) (ino k n : ℕ) (es : List LogEntry) → (held_in a.session ino).mode ≡ suc k → Unlocked a n es → Elsewhere (file_at a.server ino) n es
  elsewhere a ino k n [] m h = record {}
  elsewhere a ino k n (e ∷ es) m h = record { one = λ x y. go x y (same_file e.of.file (file_at a.server ino)) refl; rest = elsewhere a ino k (n + 1) es m h.rest }
    where
      go : picked n e.of ≡ true → is_pending e.fate ≡ true → (b : Bool) → same_file e.of.file (file_at a.server ino) ≡ b → b ≡ false
      go x y false q = refl
      go x y true q =
          let z = and_true (same_server e.of.file.server a.server) (e.of.file.ino == ino) q in
          let none = ap (λ n. (held_in a.session n).mode) (sym (eqb-true e.of.file.ino ino z.1)) ∙ h.one x y (ap (λ n. record { 0 = n }) (eqb-true e.of.file.server.0 a.server.0 z.0)) in
          let never = sym none ∙ m in
          cc never

  page_drop : (es : List LogEntry) (a : Association) → Unlocked a 1 es → (ino : ℕ) (p : PageNo) → PageOk (held_in a.session ino).mode (content es (file_at a.server ino) p) a.store ino p →
      PageOk (held_in a.session ino).mode (content (log.drop_picked es picked cause) (file_at a.server ino) p) a.store ino p
  unfolding log.drop_picked content
  page_drop es a h ino p r = go (held_in a.session ino).mode refl
    where
      go : (m : ℕ) → (held_in a.session ino).mode ≡ m → PageOk (held_in a.session ino).mode (content_from (filled 0) (file_at a.server ino) p (log.drop_from 1 picked cause es)) a.store ino p
      go zero q = unheld_ok (held_in a.session ino).mode _ _ a.store ino p q r
      go (suc k) q = subst (λ bytes. PageOk (held_in a.session ino).mode bytes a.store ino p) (sym (content_drop (filled 0) (file_at a.server ino) p 1 es (elsewhere a ino k 1 es q h))) r

  -- what is dropped doesn't belong to this life
  abbrev Over : ClientId → ServerId → Life → ℕ → List LogEntry → Type 0
  Over c sv life n [] = Unit {0}
  Over c sv life n (e ∷ es) = record { one : picked n e.of ≡ true → is_pending e.fate ≡ true → is_of_life c sv life e.of ≡ false; rest : Over c sv life (n + 1) es }

  fates_drop : (c : ClientId) (life : Life) (sv : ServerId) (x : Store) (n : ℕ) (es : List LogEntry) → Over c sv life n es → FatesOk c life sv x es → FatesOk c life sv x (log.drop_from n picked cause es)
  unfolding log.drop_from log.dropped log.lost_entry
  fates_drop c life sv x n [] u h = record {}
  fates_drop c life sv x n (e ∷ es) u h = go (picked n e.of) refl (fates_drop c life sv x (n + 1) es u.rest h.rest)
    where
      HardOrDirty : Fate → Type 0
      HardOrDirty f = (is_hard_fate f ≡ true) ⊎ (is_some (pages.dirty_of x.pages e.of.file.ino e.of.page) ≡ true)

      one : (k : Cause) (f : Fate) → is_of_life c sv life e.of ≡ true → (is_pending f ≡ true → is_of_life c sv life e.of ≡ false) → HardOrDirty f → HardOrDirty (log.lost k f)
      one k fates.Pending o w q = absurd (not_both (is_of_life c sv life e.of) o (w refl))
      one k fates.Hard o w q = q
      one k (fates.Gone d) o w q = q

      go : (b : Bool) → picked n e.of ≡ b → FatesOk c life sv x (log.drop_from (n + 1) picked cause es) → FatesOk c life sv x ((if b then record e { fate = log.lost (cause e.of.file e.of.page) e.fate } else e) ∷ log.drop_from (n + 1) picked cause es)
      go true q r = record { one = λ o. one (cause e.of.file e.of.page) e.fate o (u.one q) (h.one o); rest = r }
      go false q r = record { one = h.one; rest = r }

  pub lived_drop : (c : ClientId) (sv : ServerId) (life : Life) (n : ℕ) (es : List LogEntry) → Lived c sv life es → Lived c sv life (log.drop_from n picked cause es)
  unfolding log.drop_from log.dropped log.lost_entry
  lived_drop c sv life n [] h = record {}
  lived_drop c sv life n (e ∷ es) h = go (picked n e.of) (lived_drop c sv life (n + 1) es h.rest)
    where
      go : (b : Bool) → Lived c sv life (log.drop_from (n + 1) picked cause es) → Lived c sv life ((if b then record e { fate = log.lost (cause e.of.file e.of.page) e.fate } else e) ∷ log.drop_from (n + 1) picked cause es)
      go true r = record { one = h.one; rest = r }
      go false r = record { one = h.one; rest = r }

  -- the first association, and the others
  module _ (lease now : ℕ) where
    first : (c : ClientId) (a : Association) (xs : List Association) (n : ℕ) (es : List LogEntry) → Lasts lease now a.session → DropsUnheld c picked lease now (a ∷ xs) n es → Unlocked a n es
    first c a xs n [] l u = record {}
    first c a xs n (e ∷ es) l u = record { one = λ x y. (u.unheld x y).one l; rest = first c a xs (n + 1) es l u.rest }

    over : (c : ClientId) (a : Association) (xs : List Association) (n : ℕ) (es : List LogEntry) → Lasts lease now a.session → DropsUnheld c picked lease now (a ∷ xs) n es → Over c a.server a.life n es
    over c a xs n [] l u = record {}
    over c a xs n (e ∷ es) l u = record { one = λ x y. (u.other x y).one l; rest = over c a xs (n + 1) es l u.rest }

    others : (c : ClientId) (a : Association) (xs : List Association) (n : ℕ) (es : List LogEntry) → DropsUnheld c picked lease now (a ∷ xs) n es → DropsUnheld c picked lease now xs n es
    others c a xs n [] u = record {}
    others c a xs n (e ∷ es) u = record { other = λ x y. (u.other x y).rest; unheld = λ x y. (u.unheld x y).rest; rest = others c a xs (n + 1) es u.rest }

    all_drop : (c : ClientId) (es : List LogEntry) (xs : List Association) → DropsUnheld c picked lease now xs 1 es → AllWhile lease now c es xs → AllWhile lease now c (log.drop_picked es picked cause) xs
    unfolding log.drop_picked
    all_drop c es [] u h = record {}
    all_drop c es (a ∷ xs) u h =
        record {
          one =
              record {
                lived = lived_drop c a.server a.life 1 es h.one.lived;
                lasting = λ l. let r = h.one.lasting l in
                    record {
                      pages = λ ino p. page_drop es a (first c a xs 1 es l u) ino p (r.pages ino p);
                      fates = fates_drop c a.life a.server a.store 1 es (over c a xs 1 es l u) r.fates;
                      lived = lived_drop c a.server a.life 1 es r.lived;
                    };
              };
          rest = all_drop c es xs (others c a xs 1 es u) h.rest;
        }

pub drops_keep_copies : DropsKeepCopies
drops_keep_copies asked_as c es now s picked cause u h = record { apart = h.apart; copies = all_drop picked cause s.config.lease now.0 c es s.associations u h.copies; asked = h.asked }
