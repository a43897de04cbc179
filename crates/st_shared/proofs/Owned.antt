-- A command that was not reported belongs to a client that expired since, or to one that is in.
use Rattle.st_lemmas.proofs.Words
use Words.{◌≡◌, ℕ, ◌+◌, Bool, true, false, not, ◌&&◌, ◌||◌, ◌==◌, List, [], ◌∷◌, ◌++◌, Some, None, refl, sym, ap, ◌∙◌, arith, if◌then◌else◌, zero, suc, find}
use Words.{is_some, length, map, Option, option_map, slice_get, eqb-true, ClientId, DiskCommand}
use Words.Disks.{Disks}
use Words.Keys.{same_client}
use Words.World.{numbered, with_numbered}
use Words.Lookups.{or_right, some_is}
use Rattle.st_shared.specs.declared.issuers.Issuer.{Issuer}
use Rattle.st_shared.specs.declared.members.Member.{Member}
use Rattle.st_shared.specs.Shared.{Shared, busy, busy_above, expire_issuer, is_busy, is_member, is_open, is_report_open, issuer, running, stop_issuer}
use Rattle.st_shared.specs.Shared.{stop_member, without_member}
use Rattle.st_shared.proofs.InAndOut.{flip_client, in_entered, in_left, in_stopped}
use Rattle.st_shared.proofs.Numbered.{numbered_map, numbered_push, numbered_with}

-- the command was reported, its client expired since, or its client is in
abbrev pub is_owned : List Member → Option Issuer → Option DiskCommand → Bool
is_owned ms None d = true
is_owned ms (Some i) d = not (is_open d) || (i.expired || is_some (find (is_member i.client) ms))

or_in : (a b c d : Bool) → (c ≡ true → d ≡ true) → (not a || (b || c)) ≡ true → (not a || (b || d)) ≡ true
or_in false b c d h e = refl
or_in true true c d h e = refl
or_in true false c d h e = h e

or_out : (a b r : Bool) → (a ≡ true → b ≡ true) → (not b || r) ≡ true → (not a || r) ≡ true
or_out false b r h e = refl
or_out true b r h e = ap (λ x. not x || r) (sym (h refl)) ∙ e

-- if all stay in that were in
owned_more : (ms ns : List Member) (o : Option Issuer) (d : Option DiskCommand) → ((c : ClientId) → is_some (find (is_member c) ms) ≡ true → is_some (find (is_member c) ns) ≡ true) →
    is_owned ms o d ≡ true → is_owned ns o d ≡ true
owned_more ms ns None d h e = refl
owned_more ms ns (Some i) d h e = or_in (is_open d) i.expired (is_some (find (is_member i.client) ms)) (is_some (find (is_member i.client) ns)) (h i.client) e

-- a client enters
pub owned_entered : (ms : List Member) (c : ClientId) (o : Option Issuer) (d : Option DiskCommand) → is_owned ms o d ≡ true → is_owned (ms ++ running c ∷ []) o d ≡ true
owned_entered ms c o d e = owned_more ms (ms ++ running c ∷ []) o d (λ b q. in_entered ms c b ∙ or_right (same_client c b) (is_some (find (is_member b) ms)) q)
    e

-- a client crashes
owned_silenced : (ms : List Member) (c : ClientId) (o : Option Issuer) (d : Option DiskCommand) → is_owned ms (option_map (stop_issuer c) o) d ≡ is_owned ms o d
owned_silenced ms c None d = refl
owned_silenced ms c (Some i) d = go (same_client i.client c)
  where
    go : (b : Bool) → is_owned ms (Some (if b then record i { stopped = true } else i)) d ≡ is_owned ms (Some i) d
    go true = refl
    go false = refl

pub owned_crashed : (ms : List Member) (issuers : List Issuer) (c : ClientId) (n : ℕ) (d : Option DiskCommand) → is_owned ms (numbered issuers n) d ≡ true →
    is_owned (map (stop_member c) ms) (numbered (map (stop_issuer c) issuers) n) d ≡ true
owned_crashed ms issuers c n d e =
    ap (λ o. is_owned (map (stop_member c) ms) o d) (numbered_map (stop_issuer c) issuers n)
    ∙ owned_silenced (map (stop_member c) ms) c (numbered issuers n) d
    ∙ owned_more ms (map (stop_member c) ms) (numbered issuers n) d (λ b q. in_stopped ms c b ∙ q) e

-- a client is out, and others stay in
stays_in : (ms : List Member) (c d : ClientId) → same_client d c ≡ false → is_some (find (is_member d) ms) ≡ true → is_some (find (is_member d) (without_member c ms)) ≡ true
stays_in ms c d q e = in_left ms c d ∙ ap (λ b. not b && is_some (find (is_member d) ms)) (flip_client c d ∙ q) ∙ e

-- a client expires
owned_late : (ms : List Member) (c : ClientId) (o : Option Issuer) (d : Option DiskCommand) → is_owned ms o d ≡ true → is_owned (without_member c ms) (option_map (expire_issuer c) o) d ≡ true
owned_late ms c None d e = refl
owned_late ms c (Some i) d e = go (same_client i.client c) refl
  where
    go : (b : Bool) → same_client i.client c ≡ b → is_owned (without_member c ms) (Some (if b then record i { expired = true } else i)) d ≡ true
    go true q = or_right (not (is_open d)) true refl
    go false q = or_in (is_open d) i.expired (is_some (find (is_member i.client) ms)) (is_some (find (is_member i.client) (without_member c ms))) (stays_in ms c i.client q) e

pub owned_expired : (ms : List Member) (issuers : List Issuer) (c : ClientId) (n : ℕ) (d : Option DiskCommand) → is_owned ms (numbered issuers n) d ≡ true →
    is_owned (without_member c ms) (numbered (map (expire_issuer c) issuers) n) d ≡ true
owned_expired ms issuers c n d e = ap (λ o. is_owned (without_member c ms) o d) (numbered_map (expire_issuer c) issuers n) ∙ owned_late ms c (numbered issuers n) d e

-- A client leaves, which has no unreported command.
not_busy : (d : Disks) (c : ClientId) (n k m : ℕ) (issuers : List Issuer) (i : Issuer) → n + 1 + k ≡ m → busy_above d c n issuers ≡ None → slice_get issuers k ≡ Some i → is_busy d c m i ≡ false
unfolding busy_above
not_busy d c n zero m [] i p e g = cc
not_busy d c n (suc k) m [] i p e g = cc
not_busy d c n zero m (j ∷ issuers) i p e g = go (is_busy d c (n + 1) j) refl e
  where
    go : (b : Bool) → is_busy d c (n + 1) j ≡ b → (if b then Some (n + 1) else busy_above d c (n + 1) issuers) ≡ None → is_busy d c m i ≡ false
    go true q f = cc
    go false q f =
        let here : n + 1 ≡ m = omega arith in
        (λ x. is_busy d c (sym here x) (sym (some_is g) x)) ∙ q
not_busy d c n (suc k) m (j ∷ issuers) i p e g = go (is_busy d c (n + 1) j) (λ f. not_busy d c (n + 1) k m issuers i (omega arith) f g) e
  where
    go : (b : Bool) → (busy_above d c (n + 1) issuers ≡ None → is_busy d c m i ≡ false) → (if b then Some (n + 1) else busy_above d c (n + 1) issuers) ≡ None → is_busy d c m i ≡ false
    go true rest f = cc
    go false rest f = rest f

owned_idle : (ms : List Member) (c : ClientId) (i : Issuer) (d : Option DiskCommand) → (same_client i.client c && is_open d) ≡ false → is_owned ms (Some i) d ≡ true → is_owned (without_member c ms) (Some i) d ≡ true
owned_idle ms c i d idle e = go (same_client i.client c) refl idle
  where
    go : (b : Bool) → same_client i.client c ≡ b → (b && is_open d) ≡ false → is_owned (without_member c ms) (Some i) d ≡ true
    go true q f = ap (λ b. not b || (i.expired || is_some (find (is_member i.client) (without_member c ms)))) f
    go false q f = or_in (is_open d) i.expired (is_some (find (is_member i.client) ms)) (is_some (find (is_member i.client) (without_member c ms))) (stays_in ms c i.client q) e

pub owned_left : (s : Shared) (c : ClientId) (n : ℕ) → busy s c ≡ None → is_owned s.members (numbered s.issuers n) (numbered s.disk.commands n) ≡ true →
    is_owned (without_member c s.members) (numbered s.issuers n) (numbered s.disk.commands n) ≡ true
owned_left s c zero idle e = refl
owned_left s c (suc k) idle e = go (slice_get s.issuers k) refl e
  where
    go : (o : Option Issuer) → slice_get s.issuers k ≡ o → is_owned s.members o (numbered s.disk.commands (suc k)) ≡ true → is_owned (without_member c s.members) o (numbered s.disk.commands (suc k)) ≡ true
    go None q f = refl
    go (Some i) q f = owned_idle s.members c i (numbered s.disk.commands (suc k)) (not_busy s.disk c 0 k (suc k) s.issuers i (omega arith) idle q) f

-- one more command, of a client that is in
pub owned_pushed : (ms : List Member) (issuers : List Issuer) (commands : List DiskCommand) (c : ClientId) (d : DiskCommand) (n : ℕ) →
    length (issuers ++ issuer c ∷ []) ≡ length (commands ++ d ∷ []) → is_some (find (is_member c) ms) ≡ true → is_owned ms (numbered issuers n) (numbered commands n) ≡ true →
    is_owned ms (numbered (issuers ++ issuer c ∷ []) n) (numbered (commands ++ d ∷ []) n) ≡ true
owned_pushed ms issuers commands c d n same inside e =
    (λ i. is_owned ms (numbered_push issuers (issuer c) n i) (numbered_push commands d n i))
    ∙ ap (λ m. is_owned ms (if m == n then Some (issuer c) else numbered issuers n) (if length (commands ++ d ∷ []) == n then Some d else numbered commands n)) same
    ∙ go (length (commands ++ d ∷ []) == n)
  where
    go : (b : Bool) → is_owned ms (if b then Some (issuer c) else numbered issuers n) (if b then Some d else numbered commands n) ≡ true
    go true = or_right (not (is_report_open d.report)) (is_some (find (is_member c) ms)) inside
    go false = e

-- a command changed, which is unreported only if it was so before
owned_closed : (ms : List Member) (o : Option Issuer) (x y : Option DiskCommand) → (is_open x ≡ true → is_open y ≡ true) → is_owned ms o y ≡ true → is_owned ms o x ≡ true
owned_closed ms None x y h e = refl
owned_closed ms (Some i) x y h e = or_out (is_open x) (is_open y) (i.expired || is_some (find (is_member i.client) ms)) h e

pub owned_with : (ms : List Member) (o : Option Issuer) (commands : List DiskCommand) (n m : ℕ) (x y : DiskCommand) → numbered commands n ≡ Some y →
    (is_report_open x.report ≡ true → is_report_open y.report ≡ true) → is_owned ms o (numbered commands m) ≡ true → is_owned ms o (numbered (with_numbered n x commands) m) ≡ true
owned_with ms o commands n m x y e h k = ap (λ d. is_owned ms o d) (numbered_with commands n m x y e) ∙ go (n == m) refl
  where
    go : (b : Bool) → (n == m) ≡ b → is_owned ms o (if b then Some x else numbered commands m) ≡ true
    go true q = owned_closed ms o (Some x) (Some y) h (ap (λ d. is_owned ms o d) (sym e ∙ ap (λ k. numbered commands k) (eqb-true _ _ q)) ∙ k)
    go false q = k

-- the client of an unreported command is in, if it did not expire since
pub owner_in : (ms : List Member) (i : Issuer) (d : Option DiskCommand) → is_open d ≡ true → i.expired ≡ false → is_owned ms (Some i) d ≡ true → is_some (find (is_member i.client) ms) ≡ true
owner_in ms i d unreported timely e = (λ x. not (sym unreported x) || (sym timely x || is_some (find (is_member i.client) ms))) ∙ e
