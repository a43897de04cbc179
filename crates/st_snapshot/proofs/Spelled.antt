-- Entries, mapped pages and counters are read as they are spelled.
use Rattle.std.proofs.Common.{◌≡◌, ℕ, ◌^◌, ◌<◌, ◌≤◌, Bool, true, false, List, ◌∷◌, ◌++◌, length, take, drop, refl, sym, ap, ◌∙◌, append_assoc, arith}
use Rattle.std.proofs.lemmas.List.{take_at, drop_at, length-append}
use Rattle.st_journal_bytes.specs.Words.{word16, word64}
use Rattle.st_journal_bytes.proofs.Numbers.{once_16, once_32, once_64}
use Rattle.st_journal_file.specs.Layout.{word32}
use Rattle.st_rules.specs.declared.extents.Extent.{Extent}
use Rattle.st_rules.specs.declared.names.NameEntry.{NameEntry}
use Rattle.st_snapshot.specs.Snapshots.{CountersFit, EntryFits, PageFits, counters, entry, mark, page}
use Rattle.st_snapshot.specs.declared.counters.Counters.{Counters}

regroup_3 : (a b c d r : List ℕ) → (a ++ (b ++ (c ++ d))) ++ r ≡ a ++ (b ++ (c ++ (d ++ r)))
regroup_3 a b c d r = simp append_assoc

regroup_5 : (a b c d e g r : List ℕ) → (a ++ (b ++ (c ++ (d ++ (e ++ g))))) ++ r ≡ a ++ (b ++ (c ++ (d ++ (e ++ (g ++ r)))))
regroup_5 a b c d e g r = simp append_assoc

-- two bytes strings whose fronts have one length
same_fronts : (a b r q : List ℕ) → length a ≡ length b → a ++ r ≡ b ++ q → (a ≡ b) × (r ≡ q)
same_fronts a b r q n e = (
  sym (take_at a r (length b) n) ∙ (ap (λ (xs : List ℕ). take (length b) xs) e ∙ take_at b q (length b) refl),
  sym (drop_at a r (length b) n) ∙ (ap (λ (xs : List ℕ). drop (length b) xs) e ∙ drop_at b q (length b) refl),
)

head_is : (a b : ℕ) (xs ys : List ℕ) → a ∷ xs ≡ b ∷ ys → a ≡ b
head_is a b xs ys e = cc

tail_is : (a b : ℕ) (xs ys : List ℕ) → a ∷ xs ≡ b ∷ ys → xs ≡ ys
tail_is a b xs ys e = cc

mark_once : (a b : Bool) → mark a ≡ mark b → a ≡ b
mark_once true true e = refl
mark_once true false e = absurd (omega (arith, e))
mark_once false true e = absurd (omega (arith, e))
mark_once false false e = refl

-- An entry.

pub entry_is : (e : NameEntry) (r : List ℕ) → entry e ++ r ≡ word32 e.dir ++ (word32 e.ino ++ (word64 (length e.name) ++ (mark e.directory ∷ (e.name ++ r))))
unfolding entry
entry_is e r = regroup_3 (word32 e.dir) (word32 e.ino) (word64 (length e.name)) (mark e.directory ∷ e.name) r

-- the numbers in front of an entry are known
pub behind_numbers : (e : NameEntry) (dir ino len : ℕ) (rest more : List ℕ) → EntryFits e → dir < 2 ^ 32 → ino < 2 ^ 32 → len < 2 ^ 64 →
    word32 dir ++ (word32 ino ++ (word64 len ++ rest)) ≡ entry e ++ more →
    (dir ≡ e.dir) × ((ino ≡ e.ino) × ((len ≡ length e.name) × (rest ≡ mark e.directory ∷ (e.name ++ more))))
behind_numbers e dir ino len rest more fits d i l is =
    let whole = is ∙ entry_is e more in
    let first = once_32 dir e.dir _ _ d fits.dir whole in
    let second = once_32 ino e.ino _ _ i fits.ino first.1 in
    let third = once_64 len (length e.name) _ _ l fits.name second.1 in
    (first.0, (second.0, (third.0, third.1)))

-- an entry whose parts were read
pub entry_found : (e : NameEntry) (bytes rest others name more : List ℕ) (dir ino len : ℕ) (d : Bool) →
    bytes ≡ word32 dir ++ (word32 ino ++ (word64 len ++ rest)) → rest ≡ mark d ∷ others →
    others ≡ name ++ more → length name ≡ len → e.dir ≡ dir → e.ino ≡ ino → e.directory ≡ d → e.name ≡ name → bytes ≡ entry e ++ more
entry_found e bytes rest others name more dir ino len d parts f g n a b c h = parts ∙ (rw (a, b, c, h, n, f, g) refl ∙ sym (entry_is e more))

pub no_mark : (e : NameEntry) (dir ino len : ℕ) (bytes rest more : List ℕ) → bytes ≡ word32 dir ++ (word32 ino ++ (word64 len ++ rest)) → dir < 2 ^ 32 →
    ino < 2 ^ 32 → len < 2 ^ 64 →
    ((b : Bool) (others : List ℕ) → rest ≡ mark b ∷ others → ⊥) → EntryFits e → bytes ≡ entry e ++ more → ⊥
no_mark e dir ino len bytes rest more parts d i l none fits is =
    none e.directory (e.name ++ more) (behind_numbers e dir ino len rest more fits d i l (sym parts ∙ is)).1.1.1

pub no_name : (e : NameEntry) (dir ino len : ℕ) (bytes rest others more : List ℕ) (b : Bool) → bytes ≡ word32 dir ++ (word32 ino ++ (word64 len ++ rest)) →
    dir < 2 ^ 32 → ino < 2 ^ 32 →
    len < 2 ^ 64 → rest ≡ mark b ∷ others → length others < len → EntryFits e → bytes ≡ entry e ++ more → ⊥
no_name e dir ino len bytes rest others more b parts d i l found short fits is =
    let known = behind_numbers e dir ino len rest more fits d i l (sym parts ∙ is) in
    let same : others ≡ e.name ++ more = tail_is (mark b) (mark e.directory) others (e.name ++ more) (sym found ∙ known.1.1.1) in
    omega (arith, short, known.1.1.0, ap length same, length-append e.name more)

pub entry_once : (a b : NameEntry) (r q : List ℕ) → EntryFits a → EntryFits b → entry a ++ r ≡ entry b ++ q → (a ≡ b) × (r ≡ q)
entry_once a b r q f g e =
    let known = behind_numbers b a.dir a.ino (length a.name) (mark a.directory ∷ (a.name ++ r)) q g f.dir f.ino f.name (sym (entry_is a r) ∙ e) in
    let m = mark_once a.directory b.directory (head_is _ _ (a.name ++ r) (b.name ++ q) known.1.1.1) in
    let n = same_fronts a.name b.name r q known.1.1.0 (tail_is _ _ (a.name ++ r) (b.name ++ q) known.1.1.1) in
    (rw (known.0, known.1.0, m, n.0) refl, n.1)

pub entry_long : (e : NameEntry) (bytes more : List ℕ) → bytes ≡ entry e ++ more → 16 ≤ length bytes
unfolding word32 word64
entry_long e bytes more is = let n = ap length (is ∙ entry_is e more) in omega (arith, n)

-- A mapped page.

pub page_is : (e : Extent) (r : List ℕ) → page e ++ r ≡ word16 e.file.server.0 ++
    (word32 e.file.ino ++ (word32 e.page.0 ++ (word16 e.at.disk.0 ++ (word32 e.at.block ++ (word64 e.birth ++ r)))))
unfolding page
page_is e r = regroup_5 (word16 e.file.server.0) (word32 e.file.ino) (word32 e.page.0) (word16 e.at.disk.0) (word32 e.at.block) (word64 e.birth) r

pub page_once : (a b : Extent) (r q : List ℕ) → PageFits a → PageFits b → page a ++ r ≡ page b ++ q → (a ≡ b) × (r ≡ q)
page_once a b r q f g e =
    let whole = sym (page_is a r) ∙ (e ∙ page_is b q) in
    let server = once_16 a.file.server.0 b.file.server.0 _ _ f.server g.server whole in
    let ino = once_32 a.file.ino b.file.ino _ _ f.ino g.ino server.1 in
    let number = once_32 a.page.0 b.page.0 _ _ f.page g.page ino.1 in
    let disk = once_16 a.at.disk.0 b.at.disk.0 _ _ f.disk g.disk number.1 in
    let block = once_32 a.at.block b.at.block _ _ f.block g.block disk.1 in
    let birth = once_64 a.birth b.birth _ _ f.birth g.birth block.1 in
    (rw (server.0, ino.0, number.0, disk.0, block.0, birth.0) refl, birth.1)

pub page_long : (e : Extent) (bytes more : List ℕ) → bytes ≡ page e ++ more → 24 ≤ length bytes
unfolding word16 word32 word64
page_long e bytes more is = let n = ap length (is ∙ page_is e more) in omega (arith, n)

-- The counters.

pub counters_is : (c : Counters) (r : List ℕ) →
    counters c ++ r ≡ word64 c.epoch ++ (word64 c.births ++ (word32 c.next ++ (word32 c.limit ++ (word32 c.entries ++ (word32 c.pages ++ r)))))
unfolding counters
counters_is c r = regroup_5 (word64 c.epoch) (word64 c.births) (word32 c.next) (word32 c.limit) (word32 c.entries) (word32 c.pages) r

pub counters_once : (a b : Counters) (r q : List ℕ) → CountersFit a → CountersFit b → counters a ++ r ≡ counters b ++ q → (a ≡ b) × (r ≡ q)
counters_once a b r q f g e =
    let whole = sym (counters_is a r) ∙ (e ∙ counters_is b q) in
    let epoch = once_64 a.epoch b.epoch _ _ f.epoch g.epoch whole in
    let births = once_64 a.births b.births _ _ f.births g.births epoch.1 in
    let next = once_32 a.next b.next _ _ f.next g.next births.1 in
    let limit = once_32 a.limit b.limit _ _ f.limit g.limit next.1 in
    let entries = once_32 a.entries b.entries _ _ f.entries g.entries limit.1 in
    let pages = once_32 a.pages b.pages _ _ f.pages g.pages entries.1 in
    (rw (epoch.0, births.0, next.0, limit.0, entries.0, pages.0) refl, pages.1)

pub counters_long : (c : Counters) (bytes more : List ℕ) → bytes ≡ counters c ++ more → 32 ≤ length bytes
unfolding word32 word64
counters_long c bytes more is = let n = ap length (is ∙ counters_is c more) in omega (arith, n)
