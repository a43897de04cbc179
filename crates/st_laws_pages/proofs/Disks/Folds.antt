-- The folds over the log under its changes: one more entry, harden, drop.
use Rattle.st_lemmas.proofs.Words
use Words.{◌≡◌, ℕ, ◌+◌, ◌<◌, Bool, true, false, ◌&&◌, List, [], ◌∷◌, ◌++◌, refl, sym, ap, ◌∙◌, arith, if◌then◌else◌, nat_le, length, eqb-true}
use Words.{FileId, PageNo, Cause, Change, Fate, LogEntry, LogOwner, lt-leb}
use Words.changes
use Words.fates
use Words.Keys.{same_file, same_page}
use Words.FlatLog as log
use Words.FlatLog.{touches, matters, same_owner, changed, after, content_from}
use Words.Events.{is_hard_fate}
use Words.Lookups.{if_false}
use Words.Tables.{and_true}
use Words.Truth.{not_both}
use Rattle.st_laws_pages.specs.Disks.Folds.{hard_after, hard_from, content_upto, Carry, SettledOn, OnlyOwn, LastIs, DoneUpto, CutsHard}

-- One more entry.

pub hard_last : (page : List ℕ) (f : FileId) (p : PageNo) (es : List LogEntry) (e : LogEntry) → hard_from page f p (es ++ e ∷ []) ≡ hard_after f p e (hard_from page f p es)
hard_last page f p [] e = refl
hard_last page f p (x ∷ es) e = hard_last (hard_after f p x page) f p es e

pub upto_last : (n i : ℕ) (page : List ℕ) (f : FileId) (p : PageNo) (es : List LogEntry) (e : LogEntry) → i < n + length es → content_upto n i page f p (es ++ e ∷ []) ≡ content_upto n i page f p es
upto_last n i page f p [] e h = if_false (nat_le n i) (after f p e page) page (lt-leb n i (omega arith))
upto_last n i page f p (x ∷ es) e h = upto_last (n + 1) i (if nat_le n i then after f p x page else page) f p es e (omega arith)

pub carry_last : (n i : ℕ) (o : LogOwner) (f : FileId) (p : PageNo) (es : List LogEntry) (e : LogEntry) → i < n + length es → (touches f p e ≡ true → is_hard_fate e.fate ≡ false) → Carry n i o f p es → Carry n i o f p (es ++ e ∷ [])
carry_last n i o f p [] e h g c = record { early = λ q. absurd (not_both (nat_le n i) q (lt-leb n i (omega arith))); late = λ q. g; rest = record {} }
carry_last n i o f p (x ∷ es) e h g c = record { early = c.early; late = c.late; rest = carry_last (n + 1) i o f p es e (omega arith) g c.rest }

pub done_last : (n i : ℕ) (o : LogOwner) (es : List LogEntry) (e : LogEntry) → i < n + length es → DoneUpto n i o es → DoneUpto n i o (es ++ e ∷ [])
done_last n i o [] e h c = record { one = λ q. absurd (not_both (nat_le n i) q (lt-leb n i (omega arith))); rest = record {} }
done_last n i o (x ∷ es) e h c = record { one = c.one; rest = done_last (n + 1) i o es e (omega arith) c.rest }

pub cuts_last : (es : List LogEntry) (e : LogEntry) → (e.change ≡ changes.Cut → e.fate ≡ fates.Hard) → CutsHard es → CutsHard (es ++ e ∷ [])
cuts_last [] e g c = record { one = g; rest = record {} }
cuts_last (x ∷ es) e g c = record { one = c.one; rest = cuts_last es e g c.rest }

-- Two logs are alike for a page: the same owners and changes, and the same fates of what touches it.
abbrev pub Alike : FileId → PageNo → List LogEntry → List LogEntry → Type 0
Alike f p [] [] = Unit {0}
Alike f p [] (y ∷ ys) = ⊥
Alike f p (x ∷ xs) [] = ⊥
Alike f p (x ∷ xs) (y ∷ ys) = record { of : y.of ≡ x.of; change : y.change ≡ x.change; fate : touches f p x ≡ true → y.fate ≡ x.fate; rest : Alike f p xs ys }

pub record OneAlike (f : FileId) (p : PageNo) (x y : LogEntry) : Type 0 where
  pub of : y.of ≡ x.of
  pub change : y.change ≡ x.change
  pub fate : touches f p x ≡ true → y.fate ≡ x.fate

touch_same : (f : FileId) (p : PageNo) (x y : LogEntry) → OneAlike f p x y → touches f p y ≡ touches f p x
touch_same f p x y a = ap (λ o. same_file o.file f && log.reaches y.change o.page p) a.of ∙ ap (λ c. same_file x.of.file f && log.reaches c x.of.page p) a.change

-- a test of the fate, if it touches
test_same : (f : FileId) (p : PageNo) (t : Fate → Bool) (x y : LogEntry) → OneAlike f p x y → (touches f p y && t y.fate) ≡ (touches f p x && t x.fate)
test_same f p t x y a = ap (λ b. b && t y.fate) (touch_same f p x y a) ∙ go (touches f p x) refl
  where
    go : (b : Bool) → touches f p x ≡ b → (b && t y.fate) ≡ (b && t x.fate)
    go true e = ap t (a.fate e)
    go false e = refl

one_hard : (f : FileId) (p : PageNo) (x y : LogEntry) (page : List ℕ) → OneAlike f p x y → hard_after f p y page ≡ hard_after f p x page
one_hard f p x y page a = ap (λ b. if b then changed y.change page else page) (test_same f p is_hard_fate x y a) ∙ ap (λ c. if touches f p x && is_hard_fate x.fate then changed c page else page) a.change

one_after : (f : FileId) (p : PageNo) (x y : LogEntry) (page : List ℕ) → OneAlike f p x y → after f p y page ≡ after f p x page
unfolding after
one_after f p x y page a = ap (λ b. if b then changed y.change page else page) (test_same f p log.counts x y a) ∙ ap (λ c. if touches f p x && log.counts x.fate then changed c page else page) a.change

pub alike_hard : (page : List ℕ) (f : FileId) (p : PageNo) (es fs : List LogEntry) → Alike f p es fs → hard_from page f p fs ≡ hard_from page f p es
alike_hard page f p [] [] a = refl
alike_hard page f p [] (y ∷ ys) a = absurd a
alike_hard page f p (x ∷ xs) [] a = absurd a
alike_hard page f p (x ∷ xs) (y ∷ ys) a = ap (λ z. hard_from z f p ys) (one_hard f p x y page (record { of = a.of; change = a.change; fate = a.fate })) ∙ alike_hard (hard_after f p x page) f p xs ys a.rest

pub alike_content : (page : List ℕ) (f : FileId) (p : PageNo) (es fs : List LogEntry) → Alike f p es fs → content_from page f p fs ≡ content_from page f p es
unfolding content_from
alike_content page f p [] [] a = refl
alike_content page f p [] (y ∷ ys) a = absurd a
alike_content page f p (x ∷ xs) [] a = absurd a
alike_content page f p (x ∷ xs) (y ∷ ys) a = ap (λ z. content_from z f p ys) (one_after f p x y page (record { of = a.of; change = a.change; fate = a.fate })) ∙ alike_content (after f p x page) f p xs ys a.rest

pub alike_upto : (n i : ℕ) (page : List ℕ) (f : FileId) (p : PageNo) (es fs : List LogEntry) → Alike f p es fs → content_upto n i page f p fs ≡ content_upto n i page f p es
alike_upto n i page f p [] [] a = refl
alike_upto n i page f p [] (y ∷ ys) a = absurd a
alike_upto n i page f p (x ∷ xs) [] a = absurd a
alike_upto n i page f p (x ∷ xs) (y ∷ ys) a =
    ap (λ z. content_upto (n + 1) i (if nat_le n i then z else page) f p ys) (one_after f p x y page (record { of = a.of; change = a.change; fate = a.fate }))
    ∙ alike_upto (n + 1) i (if nat_le n i then after f p x page else page) f p xs ys a.rest

pub alike_carry : (n i : ℕ) (o : LogOwner) (f : FileId) (p : PageNo) (es fs : List LogEntry) → Alike f p es fs → Carry n i o f p es → Carry n i o f p fs
alike_carry n i o f p [] [] a c = c
alike_carry n i o f p [] (y ∷ ys) a c = absurd a
alike_carry n i o f p (x ∷ xs) [] a c = absurd a
alike_carry n i o f p (x ∷ xs) (y ∷ ys) a c =
    let t = touch_same f p x y (record { of = a.of; change = a.change; fate = a.fate }) in
    record {
      early = λ h u v. ap (λ z. same_owner z o) a.of ∙ c.early h (sym t ∙ u) (sym (a.fate (sym t ∙ u)) ∙ v);
      late = λ h u. ap is_hard_fate (a.fate (sym t ∙ u)) ∙ c.late h (sym t ∙ u);
      rest = alike_carry (n + 1) i o f p xs ys a.rest c.rest;
    }

pub alike_settled : (f : FileId) (p : PageNo) (es fs : List LogEntry) → Alike f p es fs → SettledOn f p es → SettledOn f p fs
alike_settled f p [] [] a c = c
alike_settled f p [] (y ∷ ys) a c = absurd a
alike_settled f p (x ∷ xs) [] a c = absurd a
alike_settled f p (x ∷ xs) (y ∷ ys) a c =
    let t = touch_same f p x y (record { of = a.of; change = a.change; fate = a.fate }) in
    record { one = λ u. ap log.is_pending (a.fate (sym t ∙ u)) ∙ c.one (sym t ∙ u); rest = alike_settled f p xs ys a.rest c.rest }

-- Harden leaves every other page.
abbrev pub Other : LogOwner → FileId → PageNo → Type 0
Other o f p = (same_file o.file f && same_page o.page p) ≡ false

pub owner_parts : (a b : LogOwner) → same_owner a b ≡ true → a ≡ b
owner_parts a b e =
    let h = and_true _ _ e in
    let l = and_true _ _ h.0 in
    let r = and_true _ _ h.1 in
    let f = and_true _ _ r.0 in
    eq (eqb-true _ _ l.0) (eqb-true _ _ l.1) (eqb-true _ _ f.0) (eqb-true _ _ f.1) (eqb-true _ _ r.1)
  where
    mk : ℕ → ℕ → ℕ → ℕ → ℕ → LogOwner
    mk c l s i p = record { client = record { 0 = c }; life = record { 0 = l }; file = record { server = record { 0 = s }; ino = i }; page = record { 0 = p } }

    eq : a.client.0 ≡ b.client.0 → a.life.0 ≡ b.life.0 → a.file.server.0 ≡ b.file.server.0 → a.file.ino ≡ b.file.ino → a.page.0 ≡ b.page.0 → a ≡ b
    eq c l s i p =
        ap (λ z. mk z a.life.0 a.file.server.0 a.file.ino a.page.0) c ∙ ap (λ z. mk b.client.0 z a.file.server.0 a.file.ino a.page.0) l ∙ ap (λ z. mk b.client.0 b.life.0 z a.file.ino a.page.0) s
        ∙ ap (λ z. mk b.client.0 b.life.0 b.file.server.0 z a.page.0) i ∙ ap (λ z. mk b.client.0 b.life.0 b.file.server.0 b.file.ino z) p

touch_own : (f : FileId) (p : PageNo) (o : LogOwner) (x : LogEntry) → Other o f p → (x.change ≡ changes.Cut → ⊥) → same_owner x.of o ≡ true → touches f p x ≡ false
touch_own f p o x h nc s = go x.change nc
  where
    z : (same_file x.of.file f && same_page x.of.page p) ≡ false
    z = ap (λ a. same_file a.file f && same_page a.page p) (owner_parts x.of o s) ∙ h

    go : (c : Change) → (c ≡ changes.Cut → ⊥) → (same_file x.of.file f && log.reaches c x.of.page p) ≡ false
    go (changes.Write bytes) n = z
    go (changes.Patch at bytes) n = z
    go changes.Cut n = absurd (n refl)

pub alike_harden : (n i : ℕ) (o : LogOwner) (f : FileId) (p : PageNo) (es : List LogEntry) → CutsHard es → Other o f p → Alike f p es (log.harden_from n i o es)
unfolding log.harden_from log.hardened log.harder_entry
alike_harden n i o f p [] c h = record {}
alike_harden n i o f p (x ∷ xs) c h = let y = one (nat_le n i && same_owner x.of o) refl in record { of = y.of; change = y.change; fate = y.fate; rest = alike_harden (n + 1) i o f p xs c.rest h }
  where
    fated : (ch : Change) → x.change ≡ ch → same_owner x.of o ≡ true → touches f p x ≡ true → log.harder x.fate ≡ x.fate
    fated changes.Cut e s t = ap log.harder (c.one e) ∙ sym (c.one e)
    fated (changes.Write bytes) e s t = absurd (not_both (touches f p x) t (touch_own f p o x h (λ q. cc) s))
    fated (changes.Patch at bytes) e s t = absurd (not_both (touches f p x) t (touch_own f p o x h (λ q. cc) s))

    one : (b : Bool) → (nat_le n i && same_owner x.of o) ≡ b → OneAlike f p x (if b then record x { fate = log.harder x.fate } else x)
    one true e = record { of = refl; change = refl; fate = fated x.change refl (and_true _ _ e).1 }
    one false e = record { of = refl; change = refl; fate = λ t. refl }

-- a drop leaves a page of which nothing is pending
pub alike_drop : (n : ℕ) (picked : ℕ → LogOwner → Bool) (cause : FileId → PageNo → Cause) (f : FileId) (p : PageNo) (es : List LogEntry) → SettledOn f p es → Alike f p es (log.drop_from n picked cause es)
unfolding log.drop_from log.dropped log.lost_entry
alike_drop n picked cause f p [] c = record {}
alike_drop n picked cause f p (x ∷ xs) c = let y = one (picked n x.of) in record { of = y.of; change = y.change; fate = y.fate; rest = alike_drop (n + 1) picked cause f p xs c.rest }
  where
    stays : (k : Cause) (z : Fate) → log.is_pending z ≡ false → log.lost k z ≡ z
    stays k fates.Pending e = cc
    stays k fates.Hard e = refl
    stays k (fates.Gone d) e = refl

    one : (b : Bool) → OneAlike f p x (if b then record x { fate = log.lost (cause x.of.file x.of.page) x.fate } else x)
    one true = record { of = refl; change = refl; fate = λ t. stays (cause x.of.file x.of.page) x.fate (c.one t) }
    one false = record { of = refl; change = refl; fate = λ t. refl }

-- A drop that spares what a command carries leaves what it rests on.
lost_pending : (k : Cause) (z : Fate) → log.lost k z ≡ fates.Pending → z ≡ fates.Pending
lost_pending k fates.Pending e = cc
lost_pending k fates.Hard e = cc
lost_pending k (fates.Gone d) e = cc

lost_hard : (k : Cause) (z : Fate) → is_hard_fate (log.lost k z) ≡ is_hard_fate z
lost_hard k fates.Pending = refl
lost_hard k fates.Hard = refl
lost_hard k (fates.Gone d) = refl

abbrev pub Spares : ℕ → LogOwner → (ℕ → LogOwner → Bool) → Type 0
Spares i o picked = (m : ℕ) (a : LogOwner) → nat_le m i ≡ true → same_owner a o ≡ true → picked m a ≡ false

pub carry_drop : (n i : ℕ) (o : LogOwner) (f : FileId) (p : PageNo) (picked : ℕ → LogOwner → Bool) (cause : FileId → PageNo → Cause) (es : List LogEntry) → Carry n i o f p es → Carry n i o f p (log.drop_from n picked cause es)
unfolding log.drop_from log.dropped log.lost_entry
carry_drop n i o f p picked cause [] c = c
carry_drop n i o f p picked cause (x ∷ xs) c = go (picked n x.of) (carry_drop (n + 1) i o f p picked cause xs c.rest)
  where
    k : Cause
    k = cause x.of.file x.of.page

    go : (b : Bool) → Carry (n + 1) i o f p (log.drop_from (n + 1) picked cause xs) → Carry n i o f p ((if b then record x { fate = log.lost k x.fate } else x) ∷ log.drop_from (n + 1) picked cause xs)
    go true r = record { early = λ h t e. c.early h t (lost_pending k x.fate e); late = λ h t. lost_hard k x.fate ∙ c.late h t; rest = r }
    go false r = record { early = c.early; late = c.late; rest = r }

pub upto_drop : (n i : ℕ) (page : List ℕ) (o : LogOwner) (f : FileId) (p : PageNo) (picked : ℕ → LogOwner → Bool) (cause : FileId → PageNo → Cause) (es : List LogEntry) → Spares i o picked → Carry n i o f p es →
    content_upto n i page f p (log.drop_from n picked cause es) ≡ content_upto n i page f p es
unfolding log.drop_from log.dropped log.lost_entry after
upto_drop n i page o f p picked cause [] s c = refl
upto_drop n i page o f p picked cause (x ∷ xs) s c =
    ap (λ z. content_upto (n + 1) i z f p (log.drop_from (n + 1) picked cause xs)) (this (nat_le n i) refl)
    ∙ upto_drop (n + 1) i (if nat_le n i then after f p x page else page) o f p picked cause xs s c.rest
  where
    k : Cause
    k = cause x.of.file x.of.page

    same : (z : Fate) → (z ≡ fates.Pending → ⊥) → log.counts (log.lost k z) ≡ log.counts z
    same fates.Pending e = absurd (e refl)
    same fates.Hard e = refl
    same (fates.Gone d) e = refl

    one : (b : Bool) → picked n x.of ≡ b → nat_le n i ≡ true → (t : Bool) → touches f p x ≡ t → (t && log.counts (if b then log.lost k x.fate else x.fate)) ≡ (t && log.counts x.fate)
    one b e h false et = refl
    one false e h true et = refl
    one true e h true et = same x.fate (λ q. not_both (picked n x.of) e (s n x.of h (c.early h et q)))

    into : (b : Bool) → after f p (if b then record x { fate = log.lost k x.fate } else x) page ≡ (if touches f p x && log.counts (if b then log.lost k x.fate else x.fate) then changed x.change page else page)
    into true = refl
    into false = refl

    this : (b : Bool) → nat_le n i ≡ b → (if b then after f p (if picked n x.of then record x { fate = log.lost k x.fate } else x) page else page) ≡ (if b then after f p x page else page)
    this true h = into (picked n x.of) ∙ ap (λ z. if z then changed x.change page else page) (one (picked n x.of) refl h (touches f p x) refl)
    this false h = refl

-- What stays under every change of fates.
pub done_drop : (n i : ℕ) (o : LogOwner) (m : ℕ) (picked : ℕ → LogOwner → Bool) (cause : FileId → PageNo → Cause) (es : List LogEntry) → DoneUpto n i o es → DoneUpto n i o (log.drop_from m picked cause es)
unfolding log.drop_from log.dropped log.lost_entry
done_drop n i o m picked cause [] c = c
done_drop n i o m picked cause (x ∷ xs) c = go (picked m x.of) (done_drop (n + 1) i o (m + 1) picked cause xs c.rest)
  where
    k : Cause
    k = cause x.of.file x.of.page

    stays : (z : Fate) → log.is_pending z ≡ false → log.is_pending (log.lost k z) ≡ false
    stays fates.Pending e = cc
    stays fates.Hard e = refl
    stays (fates.Gone d) e = refl

    go : (b : Bool) → DoneUpto (n + 1) i o (log.drop_from (m + 1) picked cause xs) → DoneUpto n i o ((if b then record x { fate = log.lost k x.fate } else x) ∷ log.drop_from (m + 1) picked cause xs)
    go true r = record { one = λ h t. stays x.fate (c.one h t); rest = r }
    go false r = record { one = c.one; rest = r }

pub done_harden : (n i : ℕ) (o : LogOwner) (m j : ℕ) (a : LogOwner) (es : List LogEntry) → DoneUpto n i o es → DoneUpto n i o (log.harden_from m j a es)
unfolding log.harden_from log.hardened log.harder_entry
done_harden n i o m j a [] c = c
done_harden n i o m j a (x ∷ xs) c = go (nat_le m j && same_owner x.of a) (done_harden (n + 1) i o (m + 1) j a xs c.rest)
  where
    stays : (z : Fate) → log.is_pending z ≡ false → log.is_pending (log.harder z) ≡ false
    stays fates.Pending e = cc
    stays fates.Hard e = refl
    stays (fates.Gone d) e = refl

    go : (b : Bool) → DoneUpto (n + 1) i o (log.harden_from (m + 1) j a xs) → DoneUpto n i o ((if b then record x { fate = log.harder x.fate } else x) ∷ log.harden_from (m + 1) j a xs)
    go true r = record { one = λ h t. stays x.fate (c.one h t); rest = r }
    go false r = record { one = c.one; rest = r }

-- after the effect the owner's entries up to the carried one are done
pub harden_done : (n i : ℕ) (o : LogOwner) (es : List LogEntry) → DoneUpto n i o (log.harden_from n i o es)
unfolding log.harden_from log.hardened log.harder_entry
harden_done n i o [] = record {}
harden_done n i o (x ∷ xs) = go (nat_le n i) (same_owner x.of o) refl refl (harden_done (n + 1) i o xs)
  where
    hard : (z : Fate) → log.is_pending (log.harder z) ≡ false
    hard fates.Pending = refl
    hard fates.Hard = refl
    hard (fates.Gone d) = refl

    go : (b d : Bool) → nat_le n i ≡ b → same_owner x.of o ≡ d → DoneUpto (n + 1) i o (log.harden_from (n + 1) i o xs) → DoneUpto n i o ((if b && d then record x { fate = log.harder x.fate } else x) ∷ log.harden_from (n + 1) i o xs)
    go true true e f r = record { one = λ h t. hard x.fate; rest = r }
    go true false e f r = record { one = λ h t. absurd (not_both (same_owner x.of o) t f); rest = r }
    go false d e f r = record { one = λ h t. absurd (not_both (nat_le n i) h e); rest = r }

pub cuts_drop : (m : ℕ) (picked : ℕ → LogOwner → Bool) (cause : FileId → PageNo → Cause) (es : List LogEntry) → CutsHard es → CutsHard (log.drop_from m picked cause es)
unfolding log.drop_from log.dropped log.lost_entry
cuts_drop m picked cause [] c = c
cuts_drop m picked cause (x ∷ xs) c = go (picked m x.of) (cuts_drop (m + 1) picked cause xs c.rest)
  where
    k : Cause
    k = cause x.of.file x.of.page

    go : (b : Bool) → CutsHard (log.drop_from (m + 1) picked cause xs) → CutsHard ((if b then record x { fate = log.lost k x.fate } else x) ∷ log.drop_from (m + 1) picked cause xs)
    go true r = record { one = λ h. ap (log.lost k) (c.one h); rest = r }
    go false r = record { one = c.one; rest = r }

pub cuts_harden : (m j : ℕ) (a : LogOwner) (es : List LogEntry) → CutsHard es → CutsHard (log.harden_from m j a es)
unfolding log.harden_from log.hardened log.harder_entry
cuts_harden m j a [] c = c
cuts_harden m j a (x ∷ xs) c = go (nat_le m j && same_owner x.of a) (cuts_harden (m + 1) j a xs c.rest)
  where
    go : (b : Bool) → CutsHard (log.harden_from (m + 1) j a xs) → CutsHard ((if b then record x { fate = log.harder x.fate } else x) ∷ log.harden_from (m + 1) j a xs)
    go true r = record { one = λ h. ap log.harder (c.one h); rest = r }
    go false r = record { one = c.one; rest = r }

-- Submitting: what is last carries the whole content.
pub upto_all : (n i : ℕ) (page : List ℕ) (f : FileId) (p : PageNo) (es : List LogEntry) → LastIs n i f p es → content_upto n i page f p es ≡ content_from page f p es
unfolding content_from after
upto_all n i page f p [] l = refl
upto_all n i page f p (x ∷ xs) l = ap (λ z. content_upto (n + 1) i z f p xs) (this (nat_le n i) refl) ∙ upto_all (n + 1) i (after f p x page) f p xs l.rest
  where
    this : (b : Bool) → nat_le n i ≡ b → (if b then after f p x page else page) ≡ after f p x page
    this true e = refl
    this false e = sym (if_false (matters f p x) (changed x.change page) page (l.one e))

pub carry_all : (n i : ℕ) (o : LogOwner) (f : FileId) (p : PageNo) (es : List LogEntry) → LastIs n i f p es → OnlyOwn o f p es → Carry n i o f p es
carry_all n i o f p [] l a = record {}
carry_all n i o f p (x ∷ xs) l a = record { early = λ h. a.one; late = λ h t. cold x.fate (counted t (l.one h)); rest = carry_all (n + 1) i o f p xs l.rest a.rest }
  where
    counted : touches f p x ≡ true → matters f p x ≡ false → log.counts x.fate ≡ false
    counted t e = ap (λ b. b && log.counts x.fate) (sym t) ∙ e

    cold : (z : Fate) → log.counts z ≡ false → is_hard_fate z ≡ false
    cold fates.Pending e = refl
    cold fates.Hard e = cc
    cold (fates.Gone d) e = refl

-- What an effect makes hard: the page's hard content becomes what the command carries.
one_early : (f : FileId) (p : PageNo) (o : LogOwner) (e : LogEntry) (page : List ℕ) → (touches f p e ≡ true → e.fate ≡ fates.Pending → same_owner e.of o ≡ true) → (b : Bool) → same_owner e.of o ≡ b → hard_after f p (if b then log.harder_entry e else e) page ≡ after f p e page
unfolding log.harder_entry after
one_early f p o e page h b eq = go (touches f p e) e.fate b refl refl eq
  where
    own : (b : Bool) → hard_after f p (if b then log.harder_entry e else e) page ≡ (if touches f p e && is_hard_fate (if b then log.harder e.fate else e.fate) then changed e.change page else page)
    own true = refl
    own false = refl

    pick : (t : Bool) (x : Fate) (b : Bool) → (t ≡ true → x ≡ fates.Pending → b ≡ true) → (t && is_hard_fate (if b then log.harder x else x)) ≡ (t && log.counts x)
    pick false x b g = refl
    pick true fates.Pending true g = refl
    pick true fates.Pending false g = cc (g refl refl)
    pick true fates.Hard true g = refl
    pick true fates.Hard false g = refl
    pick true (fates.Gone c) true g = refl
    pick true (fates.Gone c) false g = refl

    go : (t : Bool) (x : Fate) (b : Bool) → touches f p e ≡ t → e.fate ≡ x → same_owner e.of o ≡ b → hard_after f p (if b then log.harder_entry e else e) page ≡ after f p e page
    go t x b et ex eb = own b ∙ ap (λ c. if c then changed e.change page else page) (pick (touches f p e) e.fate b (λ u v. sym eb ∙ h u v))

pub hardened_is : (f : FileId) (p : PageNo) (n i : ℕ) (o : LogOwner) (page : List ℕ) (es : List LogEntry) → Carry n i o f p es → hard_from page f p (log.harden_from n i o es) ≡ content_upto n i page f p es
unfolding log.harden_from log.hardened
hardened_is f p n i o page [] c = refl
hardened_is f p n i o page (e ∷ es) c =
    ap (λ x. hard_from x f p (log.harden_from (n + 1) i o es)) (this (nat_le n i) refl) ∙ hardened_is f p (n + 1) i o (if nat_le n i then after f p e page else page) es c.rest
  where
    none : (t : Bool) → touches f p e ≡ t → (touches f p e ≡ true → is_hard_fate e.fate ≡ false) → hard_after f p e page ≡ page
    none true q h = if_false _ _ page (ap (λ b. touches f p e && b) (h q) ∙ nothing (touches f p e))
      where
        nothing : (b : Bool) → (b && false) ≡ false
        nothing true = refl
        nothing false = refl
    none false q h = if_false _ _ page (ap (λ b. b && is_hard_fate e.fate) q)

    this : (b : Bool) → nat_le n i ≡ b → hard_after f p (if b && same_owner e.of o then log.harder_entry e else e) page ≡ (if b then after f p e page else page)
    this true q = one_early f p o e page (c.early q) (same_owner e.of o) refl
    this false q = none (touches f p e) refl (c.late q)

-- a drop leaves what is hard
pub dropped_is : (f : FileId) (p : PageNo) (n : ℕ) (picked : ℕ → LogOwner → Bool) (cause : FileId → PageNo → Cause) (page : List ℕ) (es : List LogEntry) → hard_from page f p (log.drop_from n picked cause es) ≡ hard_from page f p es
unfolding log.drop_from log.dropped log.lost_entry
dropped_is f p n picked cause page [] = refl
dropped_is f p n picked cause page (e ∷ es) = ap (λ x. hard_from x f p (log.drop_from (n + 1) picked cause es)) (this (picked n e.of)) ∙ dropped_is f p (n + 1) picked cause (hard_after f p e page) es
  where
    same : (c : Cause) (x : Fate) → is_hard_fate (log.lost c x) ≡ is_hard_fate x
    same c fates.Pending = refl
    same c fates.Hard = refl
    same c (fates.Gone d) = refl

    this : (b : Bool) → hard_after f p (if b then log.lost_entry cause e else e) page ≡ hard_after f p e page
    this true = ap (λ h. if touches f p e && h then changed e.change page else page) (same (cause e.of.file e.of.page) e.fate)
    this false = refl

pub settled_is : (f : FileId) (p : PageNo) (page : List ℕ) (es : List LogEntry) → SettledOn f p es → log.content_from page f p es ≡ hard_from page f p es
unfolding log.content_from after
settled_is f p page [] s = refl
settled_is f p page (e ∷ es) s = ap (λ x. log.content_from x f p es) (ap (λ b. if b then changed e.change page else page) (this (touches f p e) e.fate s.one)) ∙ settled_is f p (hard_after f p e page) es s.rest
  where
    this : (t : Bool) (x : Fate) → (t ≡ true → log.is_pending x ≡ false) → (t && log.counts x) ≡ (t && is_hard_fate x)
    this false x h = refl
    this true fates.Pending h = cc (h refl)
    this true fates.Hard h = refl
    this true (fates.Gone c) h = refl
