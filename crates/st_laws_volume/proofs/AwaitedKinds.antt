-- A lease that doesn't serve; pages that are not known as mapped; and the operations of a page and of a file.
use Rattle.st_lemmas.proofs.Words
use Words.{◌≡◌, ℕ, ◌+◌, ◌≤◌, arith, Bool, true, false, not, ◌&&◌, ◌||◌, ◌==◌, List, refl, ap, ◌∙◌, if◌then◌else◌}
use Words.{is_some, le-leb, leb-true, nat_le, Ask, Config, KnownExtent, Operation, PageNo, ServerId, Stamp}
use Words.asks
use Words.phases
use Words.ClientLease as lease
use Words.ClientPages as pages
use Words.ClientState as cs
use Words.ClientState.{server_of}
use Words.Keys.{same_page, same_server}
use Words.Leases as leases
use Words.Tables.{and_true}
use Rattle.st_lemmas.proofs.Contents.{find_cut, find_stays, one_place}

-- A lease that doesn't serve.
abbrev pub serves_at : Config → lease.ClientLease → Stamp → Bool
serves_at k l now = lease.may_use (lease.standing_of k l now)

abbrev serves_by : Bool → Bool → Bool → Bool → Bool → Bool
serves_by p q r f v =
    lease.may_use (lease.standing_by (if p then phases.Expired else (if q then phases.Flush else (if r || f then phases.Quiesce else
    (if v then phases.Renewal else phases.Valid)))))

-- a condemned one
pub condemned_rests : (k : Config) (l : lease.ClientLease) (now : Stamp) → l.condemned ≡ true → serves_at k l now ≡ false
unfolding leases.phase leases.phase_living leases.phase_serving leases.phase_young
condemned_rests k l now e =
    by (nat_le (l.date.0 + k.lease) now.0) (nat_le (l.date.0 + k.flush) now.0) (nat_le (l.date.0 + k.quiesce) now.0) l.condemned
    (nat_le (l.date.0 + k.renew) now.0) e
  where
    by : (p q r f v : Bool) → f ≡ true → serves_by p q r f v ≡ false
    by true q r f v e = refl
    by false true r f v e = refl
    by false false true f v e = refl
    by false false false true v e = refl
    by false false false false v e = cc e

-- it doesn't serve later either
pub rests_on : (k : Config) (l : lease.ClientLease) (now later : Stamp) → now.0 ≤ later.0 → serves_at k l now ≡ false → serves_at k l later ≡ false
unfolding leases.phase leases.phase_living leases.phase_serving leases.phase_young
rests_on k l now later le e =
    by (nat_le (l.date.0 + k.lease) now.0) (nat_le (l.date.0 + k.flush) now.0) (nat_le (l.date.0 + k.quiesce) now.0) l.condemned
    (nat_le (l.date.0 + k.renew) now.0) (nat_le (l.date.0 + k.lease) later.0) (nat_le (l.date.0 + k.flush) later.0)
    (nat_le (l.date.0 + k.quiesce) later.0) (nat_le (l.date.0 + k.renew) later.0) (on (l.date.0 + k.lease)) (on (l.date.0 + k.flush))
    (on (l.date.0 + k.quiesce)) e
  where
    on : (n : ℕ) → nat_le n now.0 ≡ true → nat_le n later.0 ≡ true
    on n q = let l = leb-true n now.0 q in le-leb n later.0 (omega (arith, l, le))

    by : (p q r f v p2 q2 r2 v2 : Bool) → (p ≡ true → p2 ≡ true) → (q ≡ true → q2 ≡ true) → (r ≡ true → r2 ≡ true) → serves_by p q r f v ≡ false →
        serves_by p2 q2 r2 f v2 ≡ false
    by p q r f v true q2 r2 v2 a b d e = refl
    by p q r f v false true r2 v2 a b d e = refl
    by p q r true v false false true v2 a b d e = refl
    by p q r false v false false true v2 a b d e = refl
    by p q r true v false false false v2 a b d e = refl
    by true q r false v false false false v2 a b d e = cc (a refl)
    by false true r false v false false false v2 a b d e = cc (b refl)
    by false false true false v false false false v2 a b d e = cc (d refl)
    by false false false false true false false false v2 a b d e = cc e
    by false false false false false false false false v2 a b d e = cc e

-- A page that isn't known as mapped stays so, as a file is forgotten from a page on.
pub unmapped_before : (i : ℕ) (q : PageNo) (xs : List KnownExtent) (ino : ℕ) (p : PageNo) → pages.is_mapped xs ino p ≡ false →
    pages.is_mapped (pages.known_before i q xs) ino p ≡ false
unmapped_before i q xs ino p e = by ((ino == i) && nat_le q.0 p.0) refl
  where
    at : (x : KnownExtent) → pages.is_known_of ino p x ≡ true → pages.is_known_behind i q x ≡ ((ino == i) && nat_le q.0 p.0)
    at x z =
        let y = one_place x.ino x.page ino p z in ap (λ j. (j == i) && nat_le q.0 x.page.0) y.0 ∙ ap (λ (r : PageNo). (ino == i) && nat_le q.0 r.0) y.1

    by : (b : Bool) → ((ino == i) && nat_le q.0 p.0) ≡ b → pages.is_mapped (pages.known_before i q xs) ino p ≡ false
    by true z =
        ap (λ o. is_some (pages.mapping_at o)) (find_cut (pages.is_known_of ino p) (pages.is_known_behind i q) (λ x y. at x y ∙ z) xs)
    by false z =
        ap (λ o. is_some (pages.mapping_at o)) (find_stays (pages.is_known_of ino p) (pages.is_known_behind i q) (λ x y. at x y ∙ z) xs) ∙ e

-- Operations of a page, and of a file.
abbrev pub writes : ServerId → ℕ → PageNo → Operation → Bool
writes s ino p o = cs.changes_page s ino p o.ask

abbrev pub works : ServerId → ℕ → Operation → Bool
works s ino o = cs.is_on s ino o && not (cs.is_sync o.ask)

pub works_here : (s : ServerId) (ino : ℕ) (o : Operation) → works s ino o ≡ true → cs.is_of s o ≡ true
works_here s ino o e = (and_true (cs.is_of s o) (cs.is_file ino (cs.file_of o.ask)) (and_true (cs.is_on s ino o) (not (cs.is_sync o.ask)) e).0).0

pub writes_works : (s : ServerId) (ino : ℕ) (p : PageNo) (o : Operation) → writes s ino p o ≡ true → works s ino o ≡ true
writes_works s ino p o e = by o.ask e
  where
    both : (a b d : Bool) → (a && (b && d)) ≡ true → ((a && b) && true) ≡ true
    both true true true e = refl
    both true true false e = cc e
    both true false d e = cc e
    both false b d e = cc e

    by : (a : Ask) → cs.changes_page s ino p a ≡ true → ((same_server (server_of a) s && cs.is_file ino (cs.file_of a)) && not (cs.is_sync a)) ≡ true
    by (asks.Write f q bytes) e = both (same_server f.server s) (f.ino == ino) (same_page q p) e
    by (asks.Patch f q at bytes) e = both (same_server f.server s) (f.ino == ino) (same_page q p) e
    by (asks.Read f q) e = cc e
    by (asks.Sync f) e = cc e
    by (asks.Cut f q) e = cc e
    by (asks.Name r ask) e = cc e
