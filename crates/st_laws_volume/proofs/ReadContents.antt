-- If the logs are the same, the pages are: entries fit their pages.
use Rattle.std.proofs.Common.{◌≡◌, ℕ, ◌+◌, ◌≤◌, Bool, true, false, not, ◌&&◌, ◌==◌, List, [], ◌∷◌, ◌++◌, length, refl, ap, ◌∙◌, arith, if◌then◌else◌}
use Rattle.std.specs.Prelude.{zero, suc, nat_le, take, drop}
use Rattle.std.specs.List.{list_all}
use Rattle.std.proofs.lemmas.List.{length-replicate}
use Rattle.std.proofs.lemmas.Bool.{eqb-true, leb-true}
use Rattle.st_base.specs.declared.ids.FileId.{FileId}
use Rattle.st_base.specs.declared.ids.PageNo.{PageNo}
use Rattle.st_base.specs.Page.{filled}
use Rattle.st_messages.specs.declared.ask.Ask.{Ask}
use Rattle.st_rules.specs.declared.log.Change.{Change}
use Rattle.st_rules.specs.declared.log.Change.TheVariants as changes
use Rattle.st_rules.specs.declared.log.Fate as world_fate
use Rattle.st_rules.specs.declared.log.Fate.TheVariants as old_fates
use Rattle.st_rules.specs.declared.log.LogEntry.{LogEntry}
use Rattle.st_rules.specs.FlatLog as log
use Rattle.st_rules.specs.Keys as keys
use Rattle.st_lemmas.proofs.Tables.{and_true}
use Rattle.st_lemmas.proofs.Truth.{eqb_turned}
use Rattle.st_laws_volume.specs.Logs.{AreSame, IsSame, ask_of, fate_of}
use Rattle.st_laws_volume.specs.Reads.{HasPagesOf}
use Rattle.st_laws_volume.proofs.ReadPatches.{patched_is}
use Rattle.st_volume.specs.Pages.{Entry, after, changed, content_from, is_dropped, same_file, touches}
use Rattle.st_volume.specs.Volume.{Volume}

-- A change fits its page.
abbrev pub fits : Change → Bool
fits (changes.Write bytes) = length bytes == 4096
fits (changes.Patch at bytes) = nat_le (at + length bytes) 4096
fits changes.Cut = true

abbrev pub fits_page : LogEntry → Bool
fits_page o = fits o.change

file_turned : (f g : FileId) → same_file f g ≡ keys.same_file g f
file_turned f g = ap (λ b. b && (f.ino == g.ino)) (eqb_turned f.server.0 g.server.0) ∙ ap (λ b. (g.server.0 == f.server.0) && b) (eqb_turned f.ino g.ino)

touches_same : (f g : FileId) (p q : PageNo) (change : Change) → touches (f, p) (ask_of g q change) ≡ (keys.same_file g f && log.reaches change q p)
touches_same f g p q (changes.Write bytes) = ap (λ b. b && (p.0 == q.0)) (file_turned f g) ∙ ap (λ b. keys.same_file g f && b) (eqb_turned p.0 q.0)
touches_same f g p q (changes.Patch at bytes) = ap (λ b. b && (p.0 == q.0)) (file_turned f g) ∙ ap (λ b. keys.same_file g f && b) (eqb_turned p.0 q.0)
touches_same f g p q changes.Cut = ap (λ b. b && nat_le q.0 p.0) (file_turned f g)

counts_same : (fate : world_fate.Fate) → not (is_dropped (fate_of fate)) ≡ log.counts fate
counts_same old_fates.Pending = refl
counts_same old_fates.Hard = refl
counts_same (old_fates.Gone cause) = refl

-- It changes them alike.
changed_same : (g : FileId) (q : PageNo) (change : Change) (page : List ℕ) → fits change ≡ true → length page ≡ 4096 →
    changed (ask_of g q change) page ≡ log.changed change page
changed_same g q (changes.Write bytes) page t n = refl
changed_same g q (changes.Patch at bytes) page t n = patched_is at bytes page (let h = leb-true (at + length bytes) 4096 t in omega (arith, h, n))
changed_same g q changes.Cut page t n = refl

after_same : (f : FileId) (p : PageNo) (o : LogEntry) (e : Entry) (page : List ℕ) → IsSame o e → fits_page o ≡ true → length page ≡ 4096 →
    after (f, p) e page ≡ log.after f p o page
unfolding log.after
after_same f p o e page h t n =
    ap (λ a. if touches (f, p) a && not (is_dropped e.fate) then changed a page else page) h.what
    ∙ (ap (λ a. if touches (f, p) asked && not (is_dropped a) then changed asked page else page) h.fate
    ∙ (ap (λ b. if b && not (is_dropped (fate_of o.fate)) then changed asked page else page) (touches_same f o.of.file p o.of.page o.change)
    ∙ (ap (λ b. if log.touches f p o && b then changed asked page else page) (counts_same o.fate)
    ∙ ap (λ bs. if log.matters f p o then bs else page) (changed_same o.of.file o.of.page o.change page t n))))
  where
    asked : Ask
    asked = ask_of o.of.file o.of.page o.change

-- Pages stay whole.
overlay_length : (at : ℕ) (bytes page : List ℕ) → at + length bytes ≤ length page → length (log.overlay at bytes page) ≡ length page
unfolding log.overlay
overlay_length at bytes page h =
    both (take at page) (bytes ++ drop (at + length bytes) page)
    ∙ (ap (λ n. length (take at page) + n) (both bytes (drop (at + length bytes) page)) ∙ sum (taken at page) (dropped (at + length bytes) page))
  where
    both : (as_ bs : List ℕ) → length (as_ ++ bs) ≡ length as_ + length bs
    both [] bs = omega arith
    both (a ∷ as_) bs = let r = both as_ bs in omega (arith, r)

    taken : (n : ℕ) (xs : List ℕ) → (n ≤ length xs → length (take n xs) ≡ n)
    taken zero xs l = refl
    taken (suc n) [] l = absurd (omega (arith, l))
    taken (suc n) (x ∷ xs) l = let r = taken n xs (omega (arith, l)) in omega (arith, r)

    dropped : (n : ℕ) (xs : List ℕ) → (n ≤ length xs → length (drop n xs) + n ≡ length xs)
    dropped zero xs l = omega arith
    dropped (suc n) [] l = absurd (omega (arith, l))
    dropped (suc n) (x ∷ xs) l = let r = dropped n xs (omega (arith, l)) in omega (arith, r)

    sum : (at ≤ length page → length (take at page) ≡ at) →
        (at + length bytes ≤ length page → length (drop (at + length bytes) page) + (at + length bytes) ≡ length page) →
        length (take at page) + (length bytes + length (drop (at + length bytes) page)) ≡ length page
    sum t d = let x = t (omega (arith, h)) in let y = d h in omega (arith, x, y)

length_filled : (b : ℕ) → length (filled b) ≡ 4096
unfolding filled
length_filled b = length-replicate 4096 b

after_whole : (f : FileId) (p : PageNo) (o : LogEntry) (page : List ℕ) → fits_page o ≡ true → length page ≡ 4096 → length (log.after f p o page) ≡ 4096
unfolding log.after
after_whole f p o page t n = go (log.matters f p o) o.change t
  where
    go : (b : Bool) (change : Change) → fits change ≡ true → length (if b then log.changed change page else page) ≡ 4096
    go false change t = n
    go true (changes.Write bytes) t = eqb-true (length bytes) 4096 t
    go true (changes.Patch at bytes) t = overlay_length at bytes page (let h = leb-true (at + length bytes) 4096 t in omega (arith, h, n)) ∙ n
    go true changes.Cut t = length_filled 0

content_same : (f : FileId) (p : PageNo) (os : List LogEntry) (es : List Entry) (page : List ℕ) → AreSame os es → list_all fits_page os ≡ true →
    length page ≡ 4096 → content_from page (f, p) es ≡ log.content_from page f p os
unfolding content_from log.content_from
content_same f p [] [] page h t n = refl
content_same f p [] (e ∷ es) page h t n = absurd h
content_same f p (o ∷ os) [] page h t n = absurd h
content_same f p (o ∷ os) (e ∷ es) page h t n =
    let b = and_true (fits_page o) (list_all fits_page os) t in
    ap (λ z. content_from z (f, p) es) (after_same f p o e page h.0 b.0 n)
    ∙ content_same f p os es (log.after f p o page) h.1 b.1 (after_whole f p o page b.0 n)

pub pages_same : (os : List LogEntry) (v : Volume) → AreSame os v.log → list_all fits_page os ≡ true → HasPagesOf os v
unfolding log.content
pages_same os v h t f p = content_same f p os v.log (filled 0) h t (length_filled 0)
