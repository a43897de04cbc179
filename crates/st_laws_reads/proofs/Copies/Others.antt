-- What holds of a client's copies, as the log changes elsewhere.
use Rattle.st_lemmas.proofs.Words
use Words.{◌≡◌, ℕ, ◌+◌, ◌⊎◌, Bool, true, false, ◌&&◌, List, [], ◌∷◌, ◌++◌, ◌==◌, Option, Some, None, refl, sym, ap, ◌∙◌, subst, inl, inr, arith, if◌then◌else◌}
use Words.{is_some, nat_le, eqb-true, ClientId, FileId, PageNo, ServerId, Life, Fate, LogEntry, LogOwner}
use Words.Page.{filled}
use Words.fates
use Words.Keys.{same_file, same_server}
use Words.FlatLog as log
use Words.FlatLog.{content, after, is_of_client}
use Words.ClientPages as pages
use Words.ClientPages.{Store}
use Words.ClientState.{Association}
use Words.Events.{is_hard_fate}
use Words.Lookups.{if_false}
use Words.Tables.{and_true}
use Words.Truth.{not_both}
use Rattle.st_laws_refine.specs.Views.Halves.{held_in}
use Rattle.st_lemmas.proofs.Contents.{content_last}
use Rattle.st_lemmas.proofs.Marks.{content_hard}
use Rattle.st_laws_reads.specs.Copies.Copies.{PageOk, FatesOk, file_at}
use Rattle.st_laws_reads.specs.Copies.Law.{Lived, AllWhile}
use Rattle.st_laws_reads.specs.Copies.World.{Unheld, EntriesKeepCopies, EffectsKeepCopies}

-- An entry of another file leaves the content.
content_other : (es : List LogEntry) (e : LogEntry) (f : FileId) (p : PageNo) → same_file e.of.file f ≡ false → content (es ++ e ∷ []) f p ≡ content es f p
unfolding content after
content_other es e f p h = content_last (filled 0) f p es e ∙ if_false (log.matters f p e) _ _ (ap (λ b. (b && log.reaches e.change e.of.page p) && log.counts e.fate) h)

-- Without a lock nothing of a file is cached, whatever the bytes are.
pub unheld_ok : (held : ℕ) (bytes more : List ℕ) (x : Store) (ino : ℕ) (p : PageNo) → held ≡ 0 → PageOk held bytes x ino p → PageOk held more x ino p
unheld_ok held bytes more x ino p z r =
    record {
      mode = r.mode;
      dirty = λ d q. let m = r.mode d q in absurd (omega (arith, m, z));
      clean = λ y q h. absurd (omega (arith, h, z));
      unmapped = λ e q n h. absurd (omega (arith, h, z));
      locked = r.locked;
      known = r.known;
      reading = r.reading;
    }

page_more : (es : List LogEntry) (e : LogEntry) (a : Association) → (e.of.file.server ≡ a.server → (held_in a.session e.of.file.ino).mode ≡ 0) → (ino : ℕ) (p : PageNo) → PageOk (held_in a.session ino).mode (content es (file_at a.server ino) p) a.store ino p →
    PageOk (held_in a.session ino).mode (content (es ++ e ∷ []) (file_at a.server ino) p) a.store ino p
page_more es e a h ino p r = go (same_file e.of.file (file_at a.server ino)) refl
  where
    go : (b : Bool) → same_file e.of.file (file_at a.server ino) ≡ b → PageOk (held_in a.session ino).mode (content (es ++ e ∷ []) (file_at a.server ino) p) a.store ino p
    go true q =
        let z = and_true (same_server e.of.file.server a.server) (e.of.file.ino == ino) q in
        unheld_ok (held_in a.session ino).mode _ _ a.store ino p (ap (λ n. (held_in a.session n).mode) (sym (eqb-true e.of.file.ino ino z.1)) ∙ h (ap (λ n. record { 0 = n }) (eqb-true e.of.file.server.0 a.server.0 z.0))) r
    go false q = subst (λ bytes. PageOk (held_in a.session ino).mode bytes a.store ino p) (sym (content_other es e (file_at a.server ino) p q)) r

fates_more : (c : ClientId) (life : Life) (sv : ServerId) (x : Store) (es : List LogEntry) (e : LogEntry) → is_of_client c e.of ≡ false → FatesOk c life sv x es → FatesOk c life sv x (es ++ e ∷ [])
fates_more c life sv x [] e n h = record { one = λ q. absurd (not_both (is_of_client c e.of) (and_true (is_of_client c e.of) _ q).0 n); rest = record {} }
fates_more c life sv x (y ∷ es) e n h = record { one = h.one; rest = fates_more c life sv x es e n h.rest }

pub lived_more : (c : ClientId) (sv : ServerId) (life : Life) (es : List LogEntry) (e : LogEntry) → is_of_client c e.of ≡ false → Lived c sv life es → Lived c sv life (es ++ e ∷ [])
lived_more c sv life [] e n h = record { one = λ q s. absurd (not_both (is_of_client c e.of) q n); rest = record {} }
lived_more c sv life (y ∷ es) e n h = record { one = h.one; rest = lived_more c sv life es e n h.rest }

all_more : (lease now : ℕ) (c : ClientId) (es : List LogEntry) (e : LogEntry) (xs : List Association) → is_of_client c e.of ≡ false → Unheld e.of.file lease now xs → AllWhile lease now c es xs → AllWhile lease now c (es ++ e ∷ []) xs
all_more lease now c es e [] n u h = record {}
all_more lease now c es e (a ∷ xs) n u h =
    record {
      one =
          record {
            lived = lived_more c a.server a.life es e n h.one.lived;
            lasting = λ l. let r = h.one.lasting l in
                record { pages = λ ino p. page_more es e a (u.one l) ino p (r.pages ino p); fates = fates_more c a.life a.server a.store es e n r.fates; lived = lived_more c a.server a.life es e n r.lived };
          };
      rest = all_more lease now c es e xs n u.rest h.rest;
    }

pub entries_law : EntriesKeepCopies
entries_law asked_as c es now s e n u h = record { apart = h.apart; copies = all_more s.config.lease now.0 c es e s.associations n u h.copies; asked = h.asked }

-- Entries that become hard.
fates_hard : (c : ClientId) (life : Life) (sv : ServerId) (x : Store) (n i : ℕ) (o : LogOwner) (es : List LogEntry) → FatesOk c life sv x es → FatesOk c life sv x (log.harden_from n i o es)
unfolding log.harden_from log.hardened log.harder_entry
fates_hard c life sv x n i o [] h = record {}
fates_hard c life sv x n i o (e ∷ es) h = go (nat_le n i && log.same_owner e.of o) (fates_hard c life sv x (n + 1) i o es h.rest)
  where
    harder : (f : Fate) → is_hard_fate f ≡ true → is_hard_fate (log.harder f) ≡ true
    harder fates.Pending q = cc q
    harder fates.Hard q = refl
    harder (fates.Gone d) q = cc q

    one : (is_hard_fate e.fate ≡ true) ⊎ (is_some (pages.dirty_of x.pages e.of.file.ino e.of.page) ≡ true) → (is_hard_fate (log.harder e.fate) ≡ true) ⊎ (is_some (pages.dirty_of x.pages e.of.file.ino e.of.page) ≡ true)
    one (inl q) = inl (harder e.fate q)
    one (inr q) = inr q

    go : (b : Bool) → FatesOk c life sv x (log.harden_from (n + 1) i o es) → FatesOk c life sv x ((if b then record e { fate = log.harder e.fate } else e) ∷ log.harden_from (n + 1) i o es)
    go true r = record { one = λ q. one (h.one q); rest = r }
    go false r = record { one = h.one; rest = r }

pub lived_hard : (c : ClientId) (sv : ServerId) (life : Life) (n i : ℕ) (o : LogOwner) (es : List LogEntry) → Lived c sv life es → Lived c sv life (log.harden_from n i o es)
unfolding log.harden_from log.hardened log.harder_entry
lived_hard c sv life n i o [] h = record {}
lived_hard c sv life n i o (e ∷ es) h = go (nat_le n i && log.same_owner e.of o) (lived_hard c sv life (n + 1) i o es h.rest)
  where
    go : (b : Bool) → Lived c sv life (log.harden_from (n + 1) i o es) → Lived c sv life ((if b then record e { fate = log.harder e.fate } else e) ∷ log.harden_from (n + 1) i o es)
    go true r = record { one = h.one; rest = r }
    go false r = record { one = h.one; rest = r }

all_hard : (lease now : ℕ) (c : ClientId) (es : List LogEntry) (i : ℕ) (o : LogOwner) (xs : List Association) → AllWhile lease now c es xs → AllWhile lease now c (log.harden_from 1 i o es) xs
unfolding content
all_hard lease now c es i o [] h = record {}
all_hard lease now c es i o (a ∷ xs) h =
    record {
      one =
          record {
            lived = lived_hard c a.server a.life 1 i o es h.one.lived;
            lasting = λ l. let r = h.one.lasting l in
                record {
                  pages = λ ino p. subst (λ bytes. PageOk (held_in a.session ino).mode bytes a.store ino p) (sym (content_hard (filled 0) (file_at a.server ino) p 1 i o es)) (r.pages ino p);
                  fates = fates_hard c a.life a.server a.store 1 i o es r.fates;
                  lived = lived_hard c a.server a.life 1 i o es r.lived;
                };
          };
      rest = all_hard lease now c es i o xs h.rest;
    }

pub effects_law : EffectsKeepCopies
unfolding log.harden log.harden_at
effects_law asked_as c es now s None h = h
effects_law asked_as c es now s (Some x) h = record { apart = h.apart; copies = go (log.entry_at es x.index); asked = h.asked }
  where
    go : (o : Option LogEntry) → AllWhile s.config.lease now.0 c (log.harden_at es x.index o) s.associations
    go None = h.copies
    go (Some e) = all_hard s.config.lease now.0 c es x.index e.of s.associations h.copies
