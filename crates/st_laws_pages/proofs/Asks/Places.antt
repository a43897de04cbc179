-- Lists, and what is known of the places of pages.
use Rattle.st_lemmas.proofs.Words
use Words.{◌≡◌, ℕ, ◌+◌, ◌%◌, Bool, List, [], ◌∷◌, Option, Some, None, refl, sym, ap, ◌∙◌, subst, inl, inr, ◌⊎◌, filter, pred, BlockAt, PageNo, ServerId}
use Words.{ExtentRow, Body, KnownExtent, MappedBlock}
use Words.bodies
use Words.ClientPages as pages
use Words.Lists.{Has}
use Words.Lookups.{some_is}
use Words.Tables.{found_at, has_filter}
use Rattle.st_lemmas.proofs.Puts.{has_put}

-- a block lies on a disk of this server if there are that many servers
abbrev pub On : ℕ → ServerId → BlockAt → Type 0
On n s at = pred at.disk.0 % n + 1 ≡ s.0

-- what is known of pages lies on disks of this server
abbrev pub Knows : ℕ → ServerId → List KnownExtent → Type 0
Knows n s xs = (e : KnownExtent) → Has e xs → (m : MappedBlock) → e.mapping ≡ Some m → On n s m.at

-- what is reported about pages lies on disks of this server
abbrev pub OwnRows : ℕ → ServerId → List ExtentRow → Type 0
OwnRows n s rows = (r : ExtentRow) → Has r rows → On n s r.at

-- what a message tells of pages does
abbrev pub OwnBody : ℕ → ServerId → Body → Type 0
OwnBody n s (bodies.Extents ino rows) = OwnRows n s rows
OwnBody n s b = Unit {0}

no_mapping : (m : MappedBlock) → ◌≡◌ {A = Option MappedBlock} None (Some m) → ⊥
no_mapping m e = cc

-- what is known after a page was told
knows_put : (n : ℕ) (s : ServerId) (x : KnownExtent) (xs : List KnownExtent) → ((m : MappedBlock) → x.mapping ≡ Some m → On n s m.at) → Knows n s xs → Knows n s (pages.with_known x xs)
knows_put n s x xs f k e h m q = go (has_put (pages.is_known_of x.ino x.page) x xs e h)
  where
    go : (e ≡ x) ⊎ Has e xs → On n s m.at
    go (inl i) = f m (ap (λ (z : KnownExtent). z.mapping) (sym i) ∙ q)
    go (inr i) = k e i m q

pub knows_unmapped : (n : ℕ) (s : ServerId) (ino : ℕ) (p : PageNo) (xs : List KnownExtent) → Knows n s xs → Knows n s (pages.with_known (pages.known_unmapped ino p) xs)
knows_unmapped n s ino p xs k = knows_put n s (pages.known_unmapped ino p) xs (λ m q. absurd (no_mapping m q)) k

pub knows_rows : (n : ℕ) (s : ServerId) (ino : ℕ) (rows : List ExtentRow) (xs : List KnownExtent) → OwnRows n s rows → Knows n s xs → Knows n s (pages.with_known_rows ino rows xs)
unfolding pages.with_known_rows
knows_rows n s ino [] xs o k = k
knows_rows n s ino (r ∷ rs) xs o k =
    knows_rows n s ino rs (pages.with_known (pages.known_row ino r) xs) (λ x h. o x (inr h))
    (knows_put n s (pages.known_row ino r) xs (λ m q. subst (λ (y : MappedBlock). On n s y.at) (some_is q) (o r (inl refl))) k)

pub knows_fewer : (n : ℕ) (s : ServerId) (p : KnownExtent → Bool) (xs : List KnownExtent) → Knows n s xs → Knows n s (filter p xs)
knows_fewer n s p xs k e h = k e (has_filter p xs e h).0

-- the mapping that is known of a page
pub knows_at : (n : ℕ) (s : ServerId) (ino : ℕ) (p : PageNo) (xs : List KnownExtent) (m : MappedBlock) → Knows n s xs → pages.mapping_of xs ino p ≡ Some m → On n s m.at
knows_at n s ino p xs m k e = go (pages.known_of xs ino p) refl e
  where
    go : (o : Option KnownExtent) → pages.known_of xs ino p ≡ o → pages.mapping_at o ≡ Some m → On n s m.at
    go None f q = absurd (no_mapping m q)
    go (Some x) f q = k x (found_at (pages.is_known_of ino p) xs x f).1 m q
