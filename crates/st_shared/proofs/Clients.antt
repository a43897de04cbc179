-- Entering, leaving, locking, unlocking, crashing and expiring keep that a state agrees with its history.
use Rattle.st_lemmas.proofs.Words
use Words.{◌≡◌, ℕ, Bool, true, false, not, ◌&&◌, ◌||◌, List, [], ◌∷◌, Some, None, refl, sym, ap, ◌∙◌, if◌then◌else◌, is_some, map, Option, option_map, Result}
use Words.{Ok, Err, ClientId}
use Words.Keys.{same_client}
use Words.World.{numbered}
use Words.Lengths.{length_map}
use Rattle.st_shared.specs.declared.issuers.Issuer.{Issuer}
use Rattle.st_shared.specs.declared.members.Member.{Member}
use Rattle.st_shared.specs.declared.refusal.SharedRefusal.{SharedRefusal}
use Rattle.st_shared.specs.declared.refusal.SharedRefusal.TheVariants.{Held, NotIn, Busy, SharedBy, Stopped, NotStopped, NoLock}
use Rattle.st_shared.specs.History.{Call, Step, Enter, Leave, Lock, Unlock, Crash, Expire, Issued, has_expired, is_in, is_issued_by, issued}
use Rattle.st_shared.specs.Shared as rules
use Rattle.st_shared.specs.Shared.{Shared, Done, busy, check_running, checked, crashed, enter_unlocked, entered, expire_issuer, expired, is_expired, is_holder}
use Rattle.st_shared.specs.Shared.{is_stopped, leave_idle, least_member, left, lock_alone, lock_free, locked, member_of, stop_issuer, stop_member, unlocked}
use Rattle.st_shared.specs.Shared.{without_member}
use Rattle.st_shared.proofs.Agreeing.{Agrees, Keeps, client_of_issued, client_of_issuer, refused}
use Rattle.st_shared.proofs.InAndOut.{in_entered, in_left, in_stopped, is_client, nobody}
use Rattle.st_shared.proofs.Numbered.{numbered_map}
use Rattle.st_shared.proofs.Owned.{owned_crashed, owned_entered, owned_expired, owned_left}

-- a refusal to enter
out : (s : Shared) (past : List Step) (c : ClientId) (r : SharedRefusal) → Agrees s past → Keeps s past (Enter c) (Err r)
out s past c r k = record { agrees = refused s past (Enter c) r k; right = tt }

-- Entering.
stays_in : (s : Shared) (past : List Step) (c d : ClientId) (m : Member) → member_of s c ≡ Some m → Agrees s past → is_some (member_of s d) ≡ (same_client c d || is_in d past)
stays_in s past c d m e k = k.inside d ∙ go (same_client c d) refl
  where
    go : (b : Bool) → same_client c d ≡ b → is_in d past ≡ (b || is_in d past)
    go true q = sym (k.inside d) ∙ ap (λ x. is_some (member_of s x)) (sym (is_client c d q)) ∙ ap is_some e
    go false q = refl

entered_keeps : (s : Shared) (past : List Step) (c : ClientId) (o : Option Member) → s.holder ≡ None → member_of s c ≡ o → Agrees s past →
    Agrees (entered s c o) (record { call = Enter c; answer = Done } ∷ past)
unfolding entered
entered_keeps s past c None free e k = record {
  inside = λ d. in_entered s.members c d ∙ ap (λ b. same_client c d || b) (k.inside d);
  locked = k.locked;
  apart = λ holder q. let z : None ≡ Some holder = sym free ∙ q in cc;
  each = k.each;
  clients = k.clients;
  whats = k.whats;
  expired = k.expired;
  unsampled = k.unsampled;
  placed = k.placed;
  owned = λ n. owned_entered s.members c (numbered s.issuers n) (numbered s.disk.commands n) (k.owned n);
  told = k.told;
  pages = k.pages;
}
entered_keeps s past c (Some m) free e k = record {
  inside = λ d. stays_in s past c d m e k;
  locked = k.locked;
  apart = k.apart;
  each = k.each;
  clients = k.clients;
  whats = k.whats;
  expired = k.expired;
  unsampled = k.unsampled;
  placed = k.placed;
  owned = k.owned;
  told = k.told;
  pages = k.pages;
}

pub enter_keeps : (s : Shared) (past : List Step) (c : ClientId) → Agrees s past → Keeps s past (Enter c) (rules.enter s c)
unfolding rules.enter enter_unlocked
enter_keeps s past c k = go (is_stopped (member_of s c))
  where
    free : (h : Option ClientId) → s.holder ≡ h → Keeps s past (Enter c) (enter_unlocked s c h)
    free None e = record { agrees = entered_keeps s past c (member_of s c) e refl k; right = tt }
    free (Some holder) e = out s past c (Held holder) k

    go : (b : Bool) → Keeps s past (Enter c) (if b then Err (Stopped c) else enter_unlocked s c s.holder)
    go true = out s past c (Stopped c) k
    go false = free s.holder refl

-- What only a client may do that runs.
abbrev Running : Shared → List Step → Call → Result Shared SharedRefusal → ClientId → Option Member → Type 0
Running s past call rule c o = Keeps s past call (checked (check_running o c) rule)

running_keeps : (s : Shared) (past : List Step) (call : Call) (rule : Result Shared SharedRefusal) (c : ClientId) (o : Option Member) →
    ((r : SharedRefusal) → Keeps s past call (Err r)) → Keeps s past call rule → Running s past call rule c o
unfolding check_running checked
running_keeps s past call rule c None refuses keeps = refuses NotIn
running_keeps s past call rule c (Some m) refuses keeps = go m.running
  where
    go : (b : Bool) → Keeps s past call (checked (if b then Ok tt else Err (Stopped c)) rule)
    go true = keeps
    go false = refuses (Stopped c)

-- Leaving.
left_keeps : (s : Shared) (past : List Step) (c : ClientId) → busy s c ≡ None → Agrees s past → Agrees (left s c) (record { call = Leave c; answer = Done } ∷ past)
unfolding left
left_keeps s past c idle k = record {
  inside = λ d. in_left s.members c d ∙ ap (λ b. not (same_client c d) && b) (k.inside d);
  locked = k.locked;
  apart = λ holder q. ap (without_member c) (k.apart holder q);
  each = k.each;
  clients = k.clients;
  whats = k.whats;
  expired = k.expired;
  unsampled = k.unsampled;
  placed = k.placed;
  owned = λ n. owned_left s c n idle (k.owned n);
  told = k.told;
  pages = k.pages;
}

pub leave_keeps : (s : Shared) (past : List Step) (c : ClientId) → Agrees s past → Keeps s past (Leave c) (rules.leave s c)
unfolding rules.leave leave_idle
leave_keeps s past c k =
    running_keeps s past (Leave c) (leave_idle s c (busy s c)) c (member_of s c) (λ r. record { agrees = refused s past (Leave c) r k; right = tt }) (go (busy s c) refl)
  where
    go : (o : Option ℕ) → busy s c ≡ o → Keeps s past (Leave c) (leave_idle s c o)
    go None idle = record { agrees = left_keeps s past c idle k; right = tt }
    go (Some n) e = record { agrees = refused s past (Leave c) (Busy n) k; right = tt }

-- Locking.
locked_keeps : (s : Shared) (past : List Step) (c : ClientId) → s.members ≡ [] → s.holder ≡ None → Agrees s past → Agrees (locked s c) (record { call = Lock c; answer = Done } ∷ past)
unfolding locked
locked_keeps s past c alone free k = record {
  inside = k.inside;
  locked = λ d. or_none (same_client c d) ∙ ap (λ b. same_client c d || b) (ap (λ h. is_holder h d) (sym free) ∙ k.locked d);
  apart = λ holder q. alone;
  each = k.each;
  clients = k.clients;
  whats = k.whats;
  expired = k.expired;
  unsampled = k.unsampled;
  placed = k.placed;
  owned = k.owned;
  told = k.told;
  pages = k.pages;
}
  where
    or_none : (b : Bool) → b ≡ (b || false)
    or_none true = refl
    or_none false = refl

holds_on : (s : Shared) (past : List Step) (c h : ClientId) → s.holder ≡ Some h → same_client h c ≡ true → Agrees s past → Agrees s (record { call = Lock c; answer = Done } ∷ past)
holds_on s past c h e q k = record {
  inside = k.inside;
  locked = λ d. own d ∙ ap (λ b. same_client c d || b) (k.locked d);
  apart = k.apart;
  each = k.each;
  clients = k.clients;
  whats = k.whats;
  expired = k.expired;
  unsampled = k.unsampled;
  placed = k.placed;
  owned = k.owned;
  told = k.told;
  pages = k.pages;
}
  where
    twice : (b : Bool) → b ≡ (b || b)
    twice true = refl
    twice false = refl

    is_own : (d : ClientId) → is_holder s.holder d ≡ same_client c d
    is_own d = ap (λ o. is_holder o d) e ∙ ap (λ x. same_client x d) (is_client h c q)

    own : (d : ClientId) → is_holder s.holder d ≡ (same_client c d || is_holder s.holder d)
    own d = is_own d ∙ twice (same_client c d) ∙ ap (λ b. same_client c d || b) (sym (is_own d))

pub lock_keeps : (s : Shared) (past : List Step) (c : ClientId) → Agrees s past → Keeps s past (Lock c) (rules.lock s c)
unfolding rules.lock lock_alone lock_free
lock_keeps s past c k = go (least_member s.members) refl
  where
    no_lock : (r : SharedRefusal) → Keeps s past (Lock c) (Err r)
    no_lock r = record { agrees = refused s past (Lock c) r k; right = tt }

    other : (h : ClientId) (b : Bool) → s.holder ≡ Some h → same_client h c ≡ b → Keeps s past (Lock c) (if b then Ok s else Err (Held h))
    other h true e q = record { agrees = holds_on s past c h e q k; right = tt }
    other h false e q = no_lock (Held h)

    free : s.members ≡ [] → (h : Option ClientId) → s.holder ≡ h → Keeps s past (Lock c) (lock_free s c h)
    free alone None e = record { agrees = locked_keeps s past c alone e k; right = tt }
    free alone (Some h) e = other h (same_client h c) e refl

    go : (o : Option ClientId) → least_member s.members ≡ o → Keeps s past (Lock c) (lock_alone s c o)
    go None e = free (nobody s.members e) s.holder refl
    go (Some member) e = no_lock (SharedBy member)

-- Unlocking.
unlocked_keeps : (s : Shared) (past : List Step) (c : ClientId) (h : Option ClientId) → s.holder ≡ h → is_holder h c ≡ true → Agrees s past →
    Agrees (unlocked s) (record { call = Unlock c; answer = Done } ∷ past)
unfolding unlocked
unlocked_keeps s past c None e q k = cc
unlocked_keeps s past c (Some h) e q k = record {
  inside = k.inside;
  locked = λ d. neither (same_client c d) ∙ ap (λ b. not (same_client c d) && b) (ap (λ x. same_client x d) (sym (is_client h c q)) ∙ ap (λ o. is_holder o d) (sym e) ∙ k.locked d);
  apart = λ holder z. cc;
  each = k.each;
  clients = k.clients;
  whats = k.whats;
  expired = k.expired;
  unsampled = k.unsampled;
  placed = k.placed;
  owned = k.owned;
  told = k.told;
  pages = k.pages;
}
  where
    neither : (b : Bool) → false ≡ (not b && b)
    neither true = refl
    neither false = refl

pub unlock_keeps : (s : Shared) (past : List Step) (c : ClientId) → Agrees s past → Keeps s past (Unlock c) (rules.unlock s c)
unfolding rules.unlock
unlock_keeps s past c k = go (is_holder s.holder c) refl
  where
    go : (b : Bool) → is_holder s.holder c ≡ b → Keeps s past (Unlock c) (if b then Ok (unlocked s) else Err NoLock)
    go true e = record { agrees = unlocked_keeps s past c s.holder refl e k; right = tt }
    go false e = record { agrees = refused s past (Unlock c) NoLock k; right = tt }

-- Crashing.
client_stopped : (c : ClientId) (o : Option Issuer) → option_map client_of_issuer (option_map (stop_issuer c) o) ≡ option_map client_of_issuer o
client_stopped c None = refl
client_stopped c (Some i) = ap Some (go (same_client i.client c))
  where
    go : (b : Bool) → client_of_issuer (if b then record i { stopped = true } else i) ≡ i.client
    go true = refl
    go false = refl

expired_stopped : (c : ClientId) (o : Option Issuer) → is_expired (option_map (stop_issuer c) o) ≡ is_expired o
expired_stopped c None = refl
expired_stopped c (Some i) = go (same_client i.client c)
  where
    go : (b : Bool) → is_expired (Some (if b then record i { stopped = true } else i)) ≡ i.expired
    go true = refl
    go false = refl

crashed_keeps : (s : Shared) (past : List Step) (c : ClientId) → Agrees s past → Agrees (crashed s c) (record { call = Crash c; answer = Done } ∷ past)
unfolding crashed
crashed_keeps s past c k = record {
  inside = λ d. in_stopped s.members c d ∙ k.inside d;
  locked = k.locked;
  apart = λ holder q. ap (map (stop_member c)) (k.apart holder q);
  each = length_map (stop_issuer c) s.issuers ∙ k.each;
  clients = λ n. ap (option_map client_of_issuer) (numbered_map (stop_issuer c) s.issuers n) ∙ client_stopped c (numbered s.issuers n) ∙ k.clients n;
  whats = k.whats;
  expired = λ n. ap is_expired (numbered_map (stop_issuer c) s.issuers n) ∙ expired_stopped c (numbered s.issuers n) ∙ k.expired n;
  unsampled = k.unsampled;
  placed = k.placed;
  owned = λ n. owned_crashed s.members s.issuers c n (numbered s.disk.commands n) (k.owned n);
  told = k.told;
  pages = k.pages;
}

pub crash_keeps : (s : Shared) (past : List Step) (c : ClientId) → Agrees s past → Keeps s past (Crash c) (rules.crash s c)
unfolding rules.crash
crash_keeps s past c k =
    running_keeps s past (Crash c) (Ok (crashed s c)) c (member_of s c) (λ r. record { agrees = refused s past (Crash c) r k; right = tt })
    (record { agrees = crashed_keeps s past c k; right = tt })

-- Expiring.
client_expired : (c : ClientId) (o : Option Issuer) → option_map client_of_issuer (option_map (expire_issuer c) o) ≡ option_map client_of_issuer o
client_expired c None = refl
client_expired c (Some i) = ap Some (go (same_client i.client c))
  where
    go : (b : Bool) → client_of_issuer (if b then record i { expired = true } else i) ≡ i.client
    go true = refl
    go false = refl

-- the client is this one
abbrev is_by : ClientId → Option ClientId → Bool
is_by c None = false
is_by c (Some d) = same_client d c

by_issued : (c : ClientId) (o : Option Issued) → is_issued_by c o ≡ is_by c (option_map client_of_issued o)
by_issued c None = refl
by_issued c (Some i) = refl

now_expired : (c : ClientId) (o : Option Issuer) → is_expired (option_map (expire_issuer c) o) ≡ (is_by c (option_map client_of_issuer o) || is_expired o)
now_expired c None = refl
now_expired c (Some i) = go (same_client i.client c)
  where
    go : (b : Bool) → is_expired (Some (if b then record i { expired = true } else i)) ≡ (b || i.expired)
    go true = refl
    go false = refl

expired_keeps : (s : Shared) (past : List Step) (c : ClientId) → Agrees s past → Agrees (expired s c) (record { call = Expire c; answer = Done } ∷ past)
unfolding expired
expired_keeps s past c k = record {
  inside = λ d. in_left s.members c d ∙ ap (λ b. not (same_client c d) && b) (k.inside d);
  locked = k.locked;
  apart = λ holder q. ap (without_member c) (k.apart holder q);
  each = length_map (expire_issuer c) s.issuers ∙ k.each;
  clients = λ n. ap (option_map client_of_issuer) (numbered_map (expire_issuer c) s.issuers n) ∙ client_expired c (numbered s.issuers n) ∙ k.clients n;
  whats = k.whats;
  expired = λ n.
      ap is_expired (numbered_map (expire_issuer c) s.issuers n) ∙ now_expired c (numbered s.issuers n)
      ∙ (λ i. is_by c (k.clients n i) || k.expired n i)
      ∙ ap (λ b. b || has_expired n past) (sym (by_issued c (issued past n)));
  unsampled = k.unsampled;
  placed = k.placed;
  owned = λ n. owned_expired s.members s.issuers c n (numbered s.disk.commands n) (k.owned n);
  told = k.told;
  pages = k.pages;
}

pub expire_keeps : (s : Shared) (past : List Step) (c : ClientId) → Agrees s past → Keeps s past (Expire c) (rules.expire s c)
unfolding rules.expire
expire_keeps s past c k = go (is_stopped (member_of s c))
  where
    go : (b : Bool) → Keeps s past (Expire c) (if b then Ok (expired s c) else Err (NotStopped c))
    go true = record { agrees = expired_keeps s past c k; right = tt }
    go false = record { agrees = refused s past (Expire c) (NotStopped c) k; right = tt }
