-- Lines that change no page of a client leave its latest entries.
use Rattle.st_lemmas.proofs.Words
use Words.{◌≡◌, ◌≤◌, ℕ, zero, suc, Bool, true, false, ◌&&◌, ◌||◌, ◌==◌, List, [], ◌∷◌, Option, Some, None, refl, sym, ap, ◌∙◌, arith}
use Words.{eqb-true, list_all, list_any, map, slice_get, ClientId, FileId, PageNo, ServerId, Fate}
use Words.{LogEntry, Observation}
use Words.fates
use Words.seen
use Words.Events.{latest}
use Words.FlatLog as log
use Words.Keys.{same_client}
use Words.Lines as lines
use Words.Tables.{and_true}
use Words.Truth.{client_is}
use Words.World.{World}
use Rattle.st_rules.specs.Keys.{same_file, same_page}
use Rattle.st_laws_steps.specs.Lives.Lives.{owner_of}
use Rattle.st_laws_pages.proofs.Flush.Caring.{latest_stays}
use Rattle.st_laws_pages.proofs.Flush.FlushSteps.{latest_owners}
use Rattle.st_laws_volume.specs.DirtyPages.{is_change_of}
use Rattle.st_laws_volume.specs.HardFiles.{is_page_at}
use Rattle.st_laws_volume.proofs.CarriedEntries.{owners_set}
use Rattle.st_laws_volume.proofs.EventClients.{is_mute}
use Rattle.st_laws_volume.proofs.LossesOnce.{mine}

-- Lines that change no page of a client leave its latest entries.
not_zero : (n : ℕ) → 1 ≤ n → (0 == n) ≡ false
not_zero n l = go (0 == n) refl
  where
    go : (b : Bool) → (0 == n) ≡ b → b ≡ false
    go true q = absurd (let z = eqb-true 0 n q in omega (arith, z, l))
    go false q = refl

fated_owners : (es : List LogEntry) (i : ℕ) (fate : Fate) → map owner_of (lines.fated es i fate) ≡ map owner_of es
fated_owners es zero fate = refl
fated_owners es (suc n) fate = go (slice_get es n) refl
  where
    go : (o : Option LogEntry) → slice_get es n ≡ o → map owner_of (lines.with_fate (suc n) fate o es) ≡ map owner_of es
    go None q = refl
    go (Some e) q = owners_set es n e fate q

pub latest_on : (f : World) (d : ClientId) (n : ServerId) (ino : ℕ) (p : PageNo) → 1 ≤ d.0 → (xs : List Observation) (fs : List LogEntry) →
    list_any (is_change_of d n ino p) xs ≡ false →
    latest (lines.log_told f fs xs) d (record { server = n; ino = ino }) p ≡ latest fs d (record { server = n; ino = ino }) p
unfolding lines.log_told lines.log_behind log.accept log.patch log.cut
latest_on f d n ino p born [] fs q = refl
latest_on f d n ino p born (x ∷ xs) fs q =
    let b = parts (is_change_of d n ino p x) (list_any (is_change_of d n ino p) xs) q in
    latest_on f d n ino p born xs (lines.log_behind f fs x) b.1 ∙ one x b.0
  where
    file : FileId
    file = record { server = n; ino = ino }

    parts : (a b : Bool) → (a || b) ≡ false → (a ≡ false) × (b ≡ false)
    parts true b h = cc h
    parts false b h = (refl, h)

    one : (x : Observation) → is_change_of d n ino p x ≡ false → latest (lines.log_behind f fs x) d file p ≡ latest fs d file p
    one (seen.Wrote i c g q2 bytes) h = latest_stays d file p fs _ h
    one (seen.Patched i c g q2 at bytes) h = latest_stays d file p fs _ h
    one (seen.CutAt i g q2) h =
        latest_stays d file p fs (log.hard_cut g q2)
        (ap (λ b. b && (same_file g file && same_page q2 p)) (not_zero d.0 born))
    one (seen.Hardened i) h = latest_owners d file p fs (lines.fated fs i fates.Hard) (fated_owners fs i fates.Hard)
    one (seen.Dropped i cause) h = latest_owners d file p fs (lines.fated fs i (fates.Gone cause)) (fated_owners fs i (fates.Gone cause))
    one (seen.Sent k m) h = refl
    one (seen.Submitted k c number what) h = refl
    one (seen.Answered c op answer) h = refl
    one (seen.Leased c s end) h = refl
    one (seen.Lost c s life) h = refl
    one (seen.Suspected s c start) h = refl
    one (seen.Stolen s c life) h = refl

-- Mute lines, and lines of another client.
pub mute_unchanged : (d : ClientId) (n : ServerId) (ino : ℕ) (p : PageNo) (os : List Observation) → list_all is_mute os ≡ true →
    list_any (is_change_of d n ino p) os ≡ false
mute_unchanged d n ino p [] q = refl
mute_unchanged d n ino p (o ∷ os) q =
    let b = and_true (is_mute o) (list_all is_mute os) q in
    ap (λ k. k || list_any (is_change_of d n ino p) os) (one o b.0) ∙ mute_unchanged d n ino p os b.1
  where
    one : (o : Observation) → is_mute o ≡ true → is_change_of d n ino p o ≡ false
    one (seen.Wrote i c f g bytes) z = cc z
    one (seen.Patched i c f g at bytes) z = cc z
    one o z = refl

pub other_unchanged : (c d : ClientId) (n : ServerId) (ino : ℕ) (p : PageNo) → (d ≡ c → ⊥) → (os : List Observation) → list_all (mine c) os ≡ true →
    list_any (is_change_of d n ino p) os ≡ false
other_unchanged c d n ino p non [] q = refl
other_unchanged c d n ino p non (o ∷ os) q =
    let b = and_true (mine c o) (list_all (mine c) os) q in
    ap (λ k. k || list_any (is_change_of d n ino p) os) (one o b.0) ∙ other_unchanged c d n ino p non os b.1
  where
    apart : (k : ClientId) (b : Bool) → same_client k c ≡ true → (same_client k d && b) ≡ false
    apart k b z = go (same_client k d) refl
      where
        go : (y : Bool) → same_client k d ≡ y → (y && b) ≡ false
        go false y = refl
        go true y = absurd (non (sym (client_is k d y) ∙ client_is k c z))

    one : (o : Observation) → mine c o ≡ true → is_change_of d n ino p o ≡ false
    one (seen.Wrote i k f g bytes) z = apart k (is_page_at n ino p f g) z
    one (seen.Patched i k f g at bytes) z = apart k (is_page_at n ino p f g) z
    one o z = refl
