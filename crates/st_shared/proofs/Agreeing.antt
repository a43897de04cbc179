-- A state that agrees with a history.
use Rattle.st_lemmas.proofs.Words
use Words.{◌≡◌, ℕ, Bool, true, false, ◌&&◌, ◌||◌, ◌==◌, List, [], ◌∷◌, Some, None, refl, sym, ap, ◌∙◌, find, is_some, length, Option, option_map, Result}
use Words.{ClientId, PageNo, Command, Block, DiskCommand}
use Words.commands
use Words.Disks.{block}
use Words.World.{numbered}
use Rattle.std.specs.Prelude.{is_none}
use Rattle.st_disk.specs.Calls.{place}
use Rattle.st_shared.specs.declared.issuers.Issuer.{Issuer}
use Rattle.st_shared.specs.declared.refusal.SharedRefusal.{SharedRefusal}
use Rattle.st_shared.specs.Calls.{state_after}
use Rattle.st_shared.specs.History.{Call, Step, Issued, AnswersRight, AreApart, answer_of, effects, has_expired, has_lock, is_in, issued, last_write, told_by}
use Rattle.st_shared.specs.Shared.{Shared, Answer, Refused, block_of, found_answer, is_expired, is_holder, is_member, member_of}
use Rattle.st_shared.proofs.Owned.{is_owned}

-- the page that a command is on
abbrev pub page_of : Command → PageNo
page_of what = record { 0 = (place what).block }

-- what a command writes
abbrev pub writes_of : Command → Option (List ℕ)
writes_of (commands.Read at) = None
writes_of (commands.Write at tag bytes) = Some bytes

-- what a command does, on the disk and in the history
abbrev pub what_of_command : DiskCommand → PageNo × Option (List ℕ)
what_of_command d = (page_of d.what, writes_of d.what)

abbrev pub what_of_issued : Issued → PageNo × Option (List ℕ)
what_of_issued i = (i.page, i.writes)

-- whose a command is
abbrev pub client_of_issuer : Issuer → ClientId
client_of_issuer i = i.client

abbrev pub client_of_issued : Issued → ClientId
client_of_issued i = i.client

-- a command without an effect found nothing
abbrev pub is_unsampled : Option DiskCommand → Bool
is_unsampled None = true
is_unsampled (Some d) = d.effected || is_none d.sample

-- a command is on the disk
abbrev pub is_placed : Option DiskCommand → Bool
is_placed None = true
is_placed (Some d) = (place d.what).disk.0 == 1

-- what a command's effect lets its report tell
abbrev pub told_with : Bool → Option Block → Option Answer
told_with true sample = Some (found_answer sample)
told_with false sample = None

abbrev pub told_at : Option DiskCommand → Option Answer
told_at None = None
told_at (Some d) = told_with d.effected d.sample

-- who is in, who has the lock, whose each command is and what it does, that its client is in, what had its effect, and what pages have
pub record Agrees (s : Shared) (past : List Step) : Type 0 where
  pub inside : (c : ClientId) → is_some (member_of s c) ≡ is_in c past
  pub locked : (c : ClientId) → is_holder s.holder c ≡ has_lock c past
  pub apart : (holder : ClientId) → s.holder ≡ Some holder → s.members ≡ []
  pub each : length s.issuers ≡ length s.disk.commands
  pub clients : (n : ℕ) → option_map client_of_issuer (numbered s.issuers n) ≡ option_map client_of_issued (issued past n)
  pub whats : (n : ℕ) → option_map what_of_command (numbered s.disk.commands n) ≡ option_map what_of_issued (issued past n)
  pub expired : (n : ℕ) → is_expired (numbered s.issuers n) ≡ has_expired n past
  pub unsampled : (n : ℕ) → is_unsampled (numbered s.disk.commands n) ≡ true
  pub placed : (n : ℕ) → is_placed (numbered s.disk.commands n) ≡ true
  pub owned : (n : ℕ) → is_owned s.members (numbered s.issuers n) (numbered s.disk.commands n) ≡ true
  pub told : (n : ℕ) → told_at (numbered s.disk.commands n) ≡ told_by n (effects past)
  pub pages : (page : PageNo) → (block s.disk (block_of page)).bytes ≡ last_write page (effects past)

-- a step that a rule gives
abbrev pub step_of : Call → Result Shared SharedRefusal → Step
step_of call r = record { call = call; answer = answer_of call r }

-- a call keeps that, and its answer is right
pub record Keeps (s : Shared) (past : List Step) (call : Call) (r : Result Shared SharedRefusal) : Type 0 where
  pub agrees : Agrees (state_after s r) (step_of call r ∷ past)
  pub right : AnswersRight past call (answer_of call r)

-- a refused call changes nothing
pub refused : (s : Shared) (past : List Step) (call : Call) (r : SharedRefusal) → Agrees s past → Agrees s (record { call = call; answer = Refused r } ∷ past)
refused s past call r k = record { inside = k.inside; locked = k.locked; apart = k.apart; each = k.each; clients = k.clients; whats = k.whats; expired = k.expired; unsampled = k.unsampled; placed = k.placed; owned = k.owned; told = k.told; pages = k.pages }

-- while a client is in no client has the lock
pub are_apart : (s : Shared) (past : List Step) → Agrees s past → AreApart past
are_apart s past k c d = (λ i. sym (k.inside c) i && sym (k.locked d) i) ∙ go s.holder refl
  where
    go : (h : Option ClientId) → s.holder ≡ h → (is_some (member_of s c) && is_holder h d) ≡ false
    go None e = none (is_some (member_of s c))
      where
        none : (b : Bool) → (b && false) ≡ false
        none true = refl
        none false = refl
    go (Some holder) e = ap (λ ms. is_some (find (is_member c) ms) && is_holder (Some holder) d) (k.apart holder e)
