-- The log after entries became hard or were dropped: length, owners, changes, what is hard, and the content of pages.
use Rattle.std.proofs.Common.{◌≡◌, ℕ, ◌+◌, Bool, true, false, not, ◌&&◌, ◌||◌, List, [], ◌∷◌, ◌++◌, refl, ap, ◌∙◌, if◌then◌else◌}
use Rattle.std.specs.Prelude.{nat_le, map, length, suc}
use Rattle.st_base.specs.declared.ids.FileId.{FileId}
use Rattle.st_base.specs.declared.ids.PageNo.{PageNo}
use Rattle.st_rules.specs.declared.log.Cause.{Cause}
use Rattle.st_rules.specs.declared.log.Change.{Change}
use Rattle.st_rules.specs.declared.log.Fate.{Fate}
use Rattle.st_rules.specs.declared.log.Fate.TheVariants as fates
use Rattle.st_rules.specs.declared.log.LogEntry.{LogEntry}
use Rattle.st_rules.specs.declared.log.LogOwner.{LogOwner}
use Rattle.st_rules.specs.FlatLog as log
use Rattle.st_rules.specs.FlatLog.{content_from}
use Rattle.st_rules.specs.Events.{is_hard_fate}
use Rattle.st_rules.specs.Safety.{keep_hard, keeps_hard}
use Rattle.st_lemmas.proofs.Tables.{and_true, and_both}

-- the owner and the change of an entry
abbrev pub of_entry : LogEntry → LogOwner
of_entry e = e.of

pub owners_harden : (n i : ℕ) (o : LogOwner) (es : List LogEntry) → map of_entry (log.harden_from n i o es) ≡ map of_entry es
unfolding log.harden_from log.hardened log.harder_entry
owners_harden n i o [] = refl
owners_harden n i o (x ∷ xs) = go (nat_le n i && log.same_owner x.of o) ∙ ap (λ z. x.of ∷ z) (owners_harden (n + 1) i o xs)
  where
    go : (b : Bool) → of_entry (if b then record x { fate = log.harder x.fate } else x) ∷ map of_entry (log.harden_from (n + 1) i o xs) ≡ x.of ∷ map of_entry (log.harden_from (n + 1) i o xs)
    go true = refl
    go false = refl

pub owners_drop : (n : ℕ) (picked : ℕ → LogOwner → Bool) (cause : FileId → PageNo → Cause) (es : List LogEntry) → map of_entry (log.drop_from n picked cause es) ≡ map of_entry es
unfolding log.drop_from log.dropped log.lost_entry
owners_drop n picked cause [] = refl
owners_drop n picked cause (x ∷ xs) = go (picked n x.of) ∙ ap (λ z. x.of ∷ z) (owners_drop (n + 1) picked cause xs)
  where
    go : (b : Bool) → of_entry (if b then record x { fate = log.lost (cause x.of.file x.of.page) x.fate } else x) ∷ map of_entry (log.drop_from (n + 1) picked cause xs) ≡ x.of ∷ map of_entry (log.drop_from (n + 1) picked cause xs)
    go true = refl
    go false = refl

pub length_harden : (n i : ℕ) (o : LogOwner) (es : List LogEntry) → length (log.harden_from n i o es) ≡ length es
unfolding log.harden_from
length_harden n i o [] = refl
length_harden n i o (x ∷ xs) = ap suc (length_harden (n + 1) i o xs)

pub length_drop : (n : ℕ) (picked : ℕ → LogOwner → Bool) (cause : FileId → PageNo → Cause) (es : List LogEntry) → length (log.drop_from n picked cause es) ≡ length es
unfolding log.drop_from
length_drop n picked cause [] = refl
length_drop n picked cause (x ∷ xs) = ap suc (length_drop (n + 1) picked cause xs)

-- hardening leaves every page's content
pub content_hard : (page : List ℕ) (f : FileId) (p : PageNo) (n i : ℕ) (o : LogOwner) (es : List LogEntry) → content_from page f p (log.harden_from n i o es) ≡ content_from page f p es
unfolding content_from log.harden_from log.hardened log.harder_entry log.after
content_hard page f p n i o [] = refl
content_hard page f p n i o (e ∷ es) = ap (λ x. content_from x f p (log.harden_from (n + 1) i o es)) (go (nat_le n i && log.same_owner e.of o)) ∙ content_hard (log.after f p e page) f p (n + 1) i o es
  where
    counted : (x : Fate) → log.counts (log.harder x) ≡ log.counts x
    counted fates.Pending = refl
    counted fates.Hard = refl
    counted (fates.Gone c) = refl

    go : (b : Bool) → log.after f p (if b then log.harder_entry e else e) page ≡ log.after f p e page
    go true = ap (λ c. if log.touches f p e && c then log.changed e.change page else page) (counted e.fate)
    go false = refl

-- what was hard is hard: with more entries, after entries became hard, and after entries were dropped
abbrev pub Kept_hard : List LogEntry → List LogEntry → Type 0
Kept_hard es fs = keep_hard es fs ≡ true

kept_one : (b : Bool) → (not b || b) ≡ true
kept_one true = refl
kept_one false = refl

pub hard_more : (es ps : List LogEntry) → Kept_hard es (es ++ ps)
unfolding keep_hard
hard_more [] ps = refl
hard_more (e ∷ es) ps = and_both (keeps_hard e e) (keep_hard es (es ++ ps)) (kept_one (is_hard_fate e.fate)) (hard_more es ps)

pub hard_same : (es : List LogEntry) → Kept_hard es es
unfolding keep_hard
hard_same [] = refl
hard_same (e ∷ es) = and_both (keeps_hard e e) (keep_hard es es) (kept_one (is_hard_fate e.fate)) (hard_same es)

three : (a b c : Bool) → (not a || b) ≡ true → (not b || c) ≡ true → (not a || c) ≡ true
three true true c e f = f
three true false c e f = cc
three false b c e f = refl

pub hard_then : (es fs gs : List LogEntry) → Kept_hard es fs → Kept_hard fs gs → Kept_hard es gs
unfolding keep_hard
hard_then [] fs gs p q = refl
hard_then (e ∷ es) [] gs p q = cc
hard_then (e ∷ es) (f ∷ fs) [] p q = cc
hard_then (e ∷ es) (f ∷ fs) (g ∷ gs) p q =
    let a = and_true (keeps_hard e f) (keep_hard es fs) p in
    let b = and_true (keeps_hard f g) (keep_hard fs gs) q in
    and_both (keeps_hard e g) (keep_hard es gs) (three (is_hard_fate e.fate) (is_hard_fate f.fate) (is_hard_fate g.fate) a.0 b.0) (hard_then es fs gs a.1 b.1)

harder_keeps : (f : Fate) → (not (is_hard_fate f) || is_hard_fate (log.harder f)) ≡ true
harder_keeps fates.Pending = refl
harder_keeps fates.Hard = refl
harder_keeps (fates.Gone c) = refl

lost_keeps : (c : Cause) (f : Fate) → (not (is_hard_fate f) || is_hard_fate (log.lost c f)) ≡ true
lost_keeps c fates.Pending = refl
lost_keeps c fates.Hard = refl
lost_keeps c (fates.Gone d) = refl

pub hard_harden : (n i : ℕ) (o : LogOwner) (es : List LogEntry) → Kept_hard es (log.harden_from n i o es)
unfolding keep_hard log.harden_from log.hardened log.harder_entry
hard_harden n i o [] = refl
hard_harden n i o (e ∷ es) = and_both (keeps_hard e (log.hardened i o n e)) _ (go (nat_le n i && log.same_owner e.of o)) (hard_harden (n + 1) i o es)
  where
    go : (b : Bool) → keeps_hard e (if b then log.harder_entry e else e) ≡ true
    go true = harder_keeps e.fate
    go false = kept_one (is_hard_fate e.fate)

pub hard_drop : (n : ℕ) (picked : ℕ → LogOwner → Bool) (cause : FileId → PageNo → Cause) (es : List LogEntry) → Kept_hard es (log.drop_from n picked cause es)
unfolding keep_hard log.drop_from log.dropped log.lost_entry
hard_drop n picked cause [] = refl
hard_drop n picked cause (e ∷ es) = and_both (keeps_hard e (log.dropped picked cause n e)) _ (go (picked n e.of)) (hard_drop (n + 1) picked cause es)
  where
    go : (b : Bool) → keeps_hard e (if b then log.lost_entry cause e else e) ≡ true
    go true = lost_keeps (cause e.of.file e.of.page) e.fate
    go false = kept_one (is_hard_fate e.fate)
