-- Every history is right.
use Rattle.st_lemmas.proofs.Words
use Words.{◌≡◌, ℕ, List, [], ◌∷◌, refl, ap, subst, length, option_map}
use Words.World.{numbered}
use Rattle.st_shared.specs.History.{Call, Enter, Leave, Lock, Unlock, Crash, Expire, Write, Read, Effect, Report, Step, Traced, AreRight, EveryHistoryIsRight}
use Rattle.st_shared.specs.History.{IsLedTo, rule_of, trace}
use Rattle.st_shared.specs.Shared.{Shared, fresh_shared, is_expired}
use Rattle.st_shared.proofs.Agreeing.{Agrees, Keeps, are_apart, client_of_issuer, is_placed, is_unsampled, step_of, told_at, what_of_command}
use Rattle.st_shared.proofs.Clients.{enter_keeps, leave_keeps, lock_keeps, unlock_keeps, crash_keeps, expire_keeps}
use Rattle.st_shared.proofs.Submitting.{write_keeps, read_keeps}
use Rattle.st_shared.proofs.Effects.{effect_keeps}
use Rattle.st_shared.proofs.Numbered.{none_numbered}
use Rattle.st_shared.proofs.Owned.{is_owned}
use Rattle.st_shared.proofs.Reports.{report_keeps}
use Rattle.st_shared.specs.Calls.{state_after}

-- every call keeps that a state agrees with its history
keeps : (s : Shared) (past : List Step) (call : Call) → Agrees s past → Keeps s past call (rule_of s call)
keeps s past (Enter c) k = enter_keeps s past c k
keeps s past (Leave c) k = leave_keeps s past c k
keeps s past (Lock c) k = lock_keeps s past c k
keeps s past (Unlock c) k = unlock_keeps s past c k
keeps s past (Crash c) k = crash_keeps s past c k
keeps s past (Expire c) k = expire_keeps s past c k
keeps s past (Write c page bytes) k = write_keeps s past c page bytes k
keeps s past (Read c page) k = read_keeps s past c page k
keeps s past (Effect n) k = effect_keeps s past n k
keeps s past (Report n ok) k = report_keeps s past n ok k

fresh_agrees : (blocks : ℕ) → Agrees (fresh_shared blocks) []
fresh_agrees blocks = record {
  inside = λ c. refl;
  locked = λ c. refl;
  apart = λ holder e. refl;
  each = refl;
  clients = λ n. ap (option_map client_of_issuer) (none_numbered n);
  whats = λ n. ap (option_map what_of_command) (none_numbered n);
  expired = λ n. ap is_expired (none_numbered n);
  unsampled = λ n. ap is_unsampled (none_numbered n);
  placed = λ n. ap is_placed (none_numbered n);
  owned = λ n. ap (λ o. is_owned [] o (numbered [] n)) (none_numbered n);
  told = λ n. ap told_at (none_numbered n);
  pages = λ page. refl;
}

-- a state that agrees with its history, which is right
record IsSound (t : Traced) : Type 0 where
  agrees : Agrees t.state t.past
  right : AreRight t.past

sound : (blocks : ℕ) (calls : List Call) → IsSound (trace blocks calls)
unfolding trace
sound blocks [] = record { agrees = fresh_agrees blocks; right = tt }
sound blocks (call ∷ earlier) =
    let t = trace blocks earlier in
    let k = sound blocks earlier in
    let more = keeps t.state t.past call k.agrees in
    record {
      agrees = more.agrees;
      right = (record { answer = more.right; apart = are_apart (state_after t.state (rule_of t.state call)) (step_of call (rule_of t.state call) ∷ t.past) more.agrees }, k.right);
    }

-- each command has an issuer
pub each_issued : (s : Shared) → IsLedTo s → length s.issuers ≡ length s.disk.commands
each_issued s k = subst (λ t. length t.issuers ≡ length t.disk.commands) k.state (sound k.blocks k.calls).agrees.each

pub every_history : EveryHistoryIsRight
every_history blocks calls = (sound blocks calls).right
