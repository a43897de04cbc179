-- Each answer has its cause in the history.
use Rattle.st_lemmas.proofs.Words
use Words.{◌≡◌, ℕ, suc, ◌+◌, Bool, true, false, ◌||◌, ◌==◌, List, [], ◌∷◌, ◌++◌, Some, None, refl, sym, ap, ◌∙◌, arith, if◌then◌else◌, length, nat_lt, pred}
use Words.{Option, option_map, Result, Ok, Err, ClientId, PageNo, Command, Block, DiskCommand, CommandRefusal, Report as DiskReport}
use Words.commands
use Words.Numbers.{length_more, set_length}
use Words.Keys.{same_client}
use Words.World.{numbered}
use Words.reports
use Words.Disks as disks
use Words.Disks.{Disks, command, done_at, done_once, done_unreported, effect_at, effect_of, effect_once, effect_reported, lacks_effect, new_command, sample}
use Words.Disks.{with_command}
use Words.Lengths.{length_map}
use Rattle.st_rules.specs.declared.disks.CommandRefusal.TheVariants.{NotEffected, Twice}
use Rattle.st_shared.specs.declared.issuers.Issuer.{Issuer}
use Rattle.st_shared.specs.declared.members.Member.{Member}
use Rattle.st_shared.specs.declared.refusal.SharedRefusal.{SharedRefusal}
use Rattle.st_shared.specs.declared.refusal.SharedRefusal.TheVariants.{Busy, Held, NotIn, NoLock, NoPage, NotStopped, SharedBy, Stopped, Late}
use Rattle.st_shared.specs.Calls.{state_after}
use Rattle.st_shared.specs.History.{Call, Enter, Leave, Lock, Unlock, Crash, Expire, Write, Read, Effect, Report, Issued, Step, answer_of, is_issued_by}
use Rattle.st_shared.specs.History.{issue_of, issued, rule_of, trace}
use Rattle.st_shared.specs.Shared as rules
use Rattle.st_shared.specs.Shared.{Shared, Answer, Done, Number, Hard, Bytes, Failed, Silent, Refused, block_of, both, busy, check_page, check_running}
use Rattle.st_shared.specs.Shared.{check_submit, checked, crashed, effect_timely, ended_answer, enter_unlocked, entered, expire_issuer, expired, fresh_shared}
use Rattle.st_shared.specs.Shared.{is_expired, is_holder, is_silenced, is_stopped, issuer, leave_idle, least_member, left, lock_alone, lock_free, locked}
use Rattle.st_shared.specs.Shared.{member_of, report_answer, reported, stop_issuer, submit, submitted, tag_of, unlocked, with_disk}
use Rattle.st_shared.proofs.Agreeing.{client_of_issued, client_of_issuer, step_of}
use Rattle.st_shared.proofs.Numbered.{none_numbered, numbered_map, numbered_push, same_push}
use Rattle.st_laws_histories.specs.SharedHistories.{EveryAnswerHasItsCause, HasCause, HaveCauses, has_stopped, submissions}

-- what is known of a state by its history
record Knows (s : Shared) (past : List Step) : Type 0 where
  each : length s.issuers ≡ length s.disk.commands
  counted : length s.disk.commands ≡ submissions past
  clients : (n : ℕ) → option_map client_of_issuer (numbered s.issuers n) ≡ option_map client_of_issued (issued past n)
  silenced : (n : ℕ) → is_silenced (numbered s.issuers n) ≡ has_stopped n past

-- a call goes on so, and its answer has a cause
record Goes (s : Shared) (past : List Step) (call : Call) (r : Result Shared SharedRefusal) : Type 0 where
  knows : Knows (state_after s r) (step_of call r ∷ past)
  cause : HasCause past call (answer_of call r)

-- Steps that say nothing of commands and clients.

refused : (s : Shared) (past : List Step) (call : Call) (r : SharedRefusal) → Knows s past → Knows s (record { call = call; answer = Refused r } ∷ past)
refused s past call r k = record { each = k.each; counted = k.counted; clients = k.clients; silenced = k.silenced }

stays : (s t : Shared) (past : List Step) (step : Step) → t.issuers ≡ s.issuers → length t.disk.commands ≡ length s.disk.commands → submissions (step ∷ past) ≡ submissions past →
    ((n : ℕ) → issued (step ∷ past) n ≡ issued past n) → ((n : ℕ) → has_stopped n (step ∷ past) ≡ has_stopped n past) → Knows s past → Knows t (step ∷ past)
stays s t past step same long number whose stopped k = record {
  each = ap length same ∙ k.each ∙ sym long;
  counted = long ∙ k.counted ∙ sym number;
  clients = λ n. ap (λ xs. option_map client_of_issuer (numbered xs n)) same ∙ k.clients n ∙ ap (option_map client_of_issued) (sym (whose n));
  silenced = λ n. ap (λ xs. is_silenced (numbered xs n)) same ∙ k.silenced n ∙ sym (stopped n);
}

-- Entering and leaving.

enter_goes : (s : Shared) (past : List Step) (c : ClientId) → Knows s past → Goes s past (Enter c) (rules.enter s c)
unfolding rules.enter enter_unlocked entered
enter_goes s past c k = go (is_stopped (member_of s c))
  where
    by_member : (o : Option Member) → Goes s past (Enter c) (Ok (entered s c o))
    by_member None = record { knows = stays s (entered s c None) past (record { call = Enter c; answer = Done }) refl refl refl (λ n. refl) (λ n. refl) k; cause = tt }
    by_member (Some m) = record { knows = stays s (entered s c (Some m)) past (record { call = Enter c; answer = Done }) refl refl refl (λ n. refl) (λ n. refl) k; cause = tt }

    free : (h : Option ClientId) → Goes s past (Enter c) (enter_unlocked s c h)
    free None = by_member (member_of s c)
    free (Some h) = record { knows = refused s past (Enter c) (Held h) k; cause = tt }

    go : (b : Bool) → Goes s past (Enter c) (if b then Err (Stopped c) else enter_unlocked s c s.holder)
    go true = record { knows = refused s past (Enter c) (Stopped c) k; cause = tt }
    go false = free s.holder

-- what only a client may do that runs
running_goes : (s : Shared) (past : List Step) (call : Call) (rule : Result Shared SharedRefusal) (c : ClientId) (o : Option Member) → ((r : SharedRefusal) → Goes s past call (Err r)) →
    Goes s past call rule → Goes s past call (checked (check_running o c) rule)
unfolding check_running checked
running_goes s past call rule c None refuses goes = refuses NotIn
running_goes s past call rule c (Some m) refuses goes = go m.running
  where
    go : (b : Bool) → Goes s past call (checked (if b then Ok tt else Err (Stopped c)) rule)
    go true = goes
    go false = refuses (Stopped c)

leave_goes : (s : Shared) (past : List Step) (c : ClientId) → Knows s past → Goes s past (Leave c) (rules.leave s c)
unfolding rules.leave leave_idle left
leave_goes s past c k =
    running_goes s past (Leave c) (leave_idle s c (busy s c)) c (member_of s c) (λ r. record { knows = refused s past (Leave c) r k; cause = tt }) (go (busy s c))
  where
    go : (o : Option ℕ) → Goes s past (Leave c) (leave_idle s c o)
    go None = record { knows = stays s (left s c) past (record { call = Leave c; answer = Done }) refl refl refl (λ n. refl) (λ n. refl) k; cause = tt }
    go (Some n) = record { knows = refused s past (Leave c) (Busy n) k; cause = tt }

-- Locks.

lock_goes : (s : Shared) (past : List Step) (c : ClientId) → Knows s past → Goes s past (Lock c) (rules.lock s c)
unfolding rules.lock lock_alone lock_free locked
lock_goes s past c k = go (least_member s.members)
  where
    other : (h : ClientId) (b : Bool) → Goes s past (Lock c) (if b then Ok s else Err (Held h))
    other h true = record { knows = stays s s past (record { call = Lock c; answer = Done }) refl refl refl (λ n. refl) (λ n. refl) k; cause = tt }
    other h false = record { knows = refused s past (Lock c) (Held h) k; cause = tt }

    free : (h : Option ClientId) → Goes s past (Lock c) (lock_free s c h)
    free None = record { knows = stays s (locked s c) past (record { call = Lock c; answer = Done }) refl refl refl (λ n. refl) (λ n. refl) k; cause = tt }
    free (Some h) = other h (same_client h c)

    go : (o : Option ClientId) → Goes s past (Lock c) (lock_alone s c o)
    go None = free s.holder
    go (Some member) = record { knows = refused s past (Lock c) (SharedBy member) k; cause = tt }

unlock_goes : (s : Shared) (past : List Step) (c : ClientId) → Knows s past → Goes s past (Unlock c) (rules.unlock s c)
unfolding rules.unlock unlocked
unlock_goes s past c k = go (is_holder s.holder c)
  where
    go : (b : Bool) → Goes s past (Unlock c) (if b then Ok (unlocked s) else Err NoLock)
    go true = record { knows = stays s (unlocked s) past (record { call = Unlock c; answer = Done }) refl refl refl (λ n. refl) (λ n. refl) k; cause = tt }
    go false = record { knows = refused s past (Unlock c) NoLock k; cause = tt }

-- Crashes and expiries.

client_marked : (f : Issuer → Issuer) → ((i : Issuer) → (f i).client ≡ i.client) → (o : Option Issuer) → option_map client_of_issuer (option_map f o) ≡ option_map client_of_issuer o
client_marked f same None = refl
client_marked f same (Some i) = ap Some (same i)

client_stopped : (c : ClientId) (i : Issuer) → (stop_issuer c i).client ≡ i.client
client_stopped c i = go (same_client i.client c)
  where
    go : (b : Bool) → client_of_issuer (if b then record i { stopped = true } else i) ≡ i.client
    go true = refl
    go false = refl

client_expired : (c : ClientId) (i : Issuer) → (expire_issuer c i).client ≡ i.client
client_expired c i = go (same_client i.client c)
  where
    go : (b : Bool) → client_of_issuer (if b then record i { expired = true } else i) ≡ i.client
    go true = refl
    go false = refl

-- the client is this one
abbrev is_by : ClientId → Option ClientId → Bool
is_by c None = false
is_by c (Some d) = same_client d c

by_issued : (c : ClientId) (o : Option Issued) → is_issued_by c o ≡ is_by c (option_map client_of_issued o)
by_issued c None = refl
by_issued c (Some i) = refl

now_stopped : (c : ClientId) (o : Option Issuer) → is_silenced (option_map (stop_issuer c) o) ≡ (is_by c (option_map client_of_issuer o) || is_silenced o)
now_stopped c None = refl
now_stopped c (Some i) = go (same_client i.client c)
  where
    go : (b : Bool) → is_silenced (Some (if b then record i { stopped = true } else i)) ≡ (b || i.stopped)
    go true = refl
    go false = refl

still_stopped : (c : ClientId) (o : Option Issuer) → is_silenced (option_map (expire_issuer c) o) ≡ is_silenced o
still_stopped c None = refl
still_stopped c (Some i) = go (same_client i.client c)
  where
    go : (b : Bool) → is_silenced (Some (if b then record i { expired = true } else i)) ≡ i.stopped
    go true = refl
    go false = refl

crashed_knows : (s : Shared) (past : List Step) (c : ClientId) → Knows s past → Knows (crashed s c) (record { call = Crash c; answer = Done } ∷ past)
unfolding crashed
crashed_knows s past c k = record {
  each = length_map (stop_issuer c) s.issuers ∙ k.each;
  counted = k.counted;
  clients = λ n. ap (option_map client_of_issuer) (numbered_map (stop_issuer c) s.issuers n) ∙ client_marked (stop_issuer c) (client_stopped c) (numbered s.issuers n) ∙ k.clients n;
  silenced = λ n.
      ap is_silenced (numbered_map (stop_issuer c) s.issuers n) ∙ now_stopped c (numbered s.issuers n) ∙ (λ i. is_by c (k.clients n i) || k.silenced n i)
      ∙ ap (λ b. b || has_stopped n past) (sym (by_issued c (issued past n)));
}

crash_goes : (s : Shared) (past : List Step) (c : ClientId) → Knows s past → Goes s past (Crash c) (rules.crash s c)
unfolding rules.crash
crash_goes s past c k =
    running_goes s past (Crash c) (Ok (crashed s c)) c (member_of s c) (λ r. record { knows = refused s past (Crash c) r k; cause = tt })
    (record { knows = crashed_knows s past c k; cause = tt })

expired_knows : (s : Shared) (past : List Step) (c : ClientId) → Knows s past → Knows (expired s c) (record { call = Expire c; answer = Done } ∷ past)
unfolding expired
expired_knows s past c k = record {
  each = length_map (expire_issuer c) s.issuers ∙ k.each;
  counted = k.counted;
  clients = λ n. ap (option_map client_of_issuer) (numbered_map (expire_issuer c) s.issuers n) ∙ client_marked (expire_issuer c) (client_expired c) (numbered s.issuers n) ∙ k.clients n;
  silenced = λ n. ap is_silenced (numbered_map (expire_issuer c) s.issuers n) ∙ still_stopped c (numbered s.issuers n) ∙ k.silenced n;
}

expire_goes : (s : Shared) (past : List Step) (c : ClientId) → Knows s past → Goes s past (Expire c) (rules.expire s c)
unfolding rules.expire
expire_goes s past c k = go (is_stopped (member_of s c))
  where
    go : (b : Bool) → Goes s past (Expire c) (if b then Ok (expired s c) else Err (NotStopped c))
    go true = record { knows = expired_knows s past c k; cause = tt }
    go false = record { knows = refused s past (Expire c) (NotStopped c) k; cause = tt }

-- Submissions.

submitted_knows : (s : Shared) (past : List Step) (call : Call) (c : ClientId) (what : Command) (i : Issued) → issue_of call ≡ Some i → i.client ≡ c → Knows s past →
    Knows (submitted s c what) (record { call = call; answer = Number (length (s.disk.commands ++ new_command what ∷ [])) } ∷ past)
unfolding submitted
submitted_knows s past call c what i e own k = record {
  each = both_more;
  counted = length_more s.disk.commands (new_command what) ∙ ap suc k.counted ∙ next (submissions past);
  clients = λ n.
      ap (option_map client_of_issuer) (numbered_push s.issuers (issuer c) n)
      ∙ ap (λ m. option_map client_of_issuer (if m == n then Some (issuer c) else numbered s.issuers n)) both_more
      ∙ by_client (length (s.disk.commands ++ new_command what ∷ []) == n) n;
  silenced = λ n. same_push is_silenced s.issuers (issuer c) n refl ∙ k.silenced n;
}
  where
    next : (n : ℕ) → suc n ≡ n + 1
    next n = omega arith

    both_more : length (s.issuers ++ issuer c ∷ []) ≡ length (s.disk.commands ++ new_command what ∷ [])
    both_more = length_more s.issuers (issuer c) ∙ ap suc k.each ∙ sym (length_more s.disk.commands (new_command what))

    by_client : (b : Bool) (n : ℕ) → option_map client_of_issuer (if b then Some (issuer c) else numbered s.issuers n) ≡ option_map client_of_issued (if b then issue_of call else issued past n)
    by_client true n = ap Some (sym own) ∙ ap (option_map client_of_issued) (sym e)
    by_client false n = k.clients n

-- its number is one more than that of the commands before it
is_next : (s : Shared) (past : List Step) (what : Command) → Knows s past → length (s.disk.commands ++ new_command what ∷ []) ≡ submissions past + 1
is_next s past what k = let more = length_more s.disk.commands (new_command what) in omega (arith, more, k.counted)

submit_goes : (s : Shared) (past : List Step) (call : Call) (c : ClientId) (page : PageNo) (what : Command) → ((r : SharedRefusal) → Goes s past call (Err r)) →
    Goes s past call (Ok (submitted s c what)) → Goes s past call (submit s c page what)
unfolding submit check_submit check_page both check_running checked
submit_goes s past call c page what refuses goes = by_member (member_of s c)
  where
    by_page : (b : Bool) → Goes s past call (checked (if b then Ok tt else Err (NoPage page)) (Ok (submitted s c what)))
    by_page true = goes
    by_page false = refuses (NoPage page)

    by_run : (b : Bool) → Goes s past call (checked (both (if b then Ok tt else Err (Stopped c)) (check_page s page)) (Ok (submitted s c what)))
    by_run true = by_page (nat_lt page.0 s.disk.blocks)
    by_run false = refuses (Stopped c)

    by_member : (o : Option Member) → Goes s past call (checked (both (check_running o c) (check_page s page)) (Ok (submitted s c what)))
    by_member None = refuses NotIn
    by_member (Some m) = by_run m.running

write_goes : (s : Shared) (past : List Step) (c : ClientId) (page : PageNo) (bytes : List ℕ) → Knows s past → Goes s past (Write c page bytes) (rules.write s c page bytes)
unfolding submitted
write_goes s past c page bytes k =
    let what = commands.Write (block_of page) (tag_of page) bytes in
    let i : Issued = record { client = c; page = page; writes = Some bytes } in
    submit_goes s past (Write c page bytes) c page what (λ r. record { knows = refused s past (Write c page bytes) r k; cause = tt })
    (record { knows = submitted_knows s past (Write c page bytes) c what i refl refl k; cause = is_next s past what k })

read_goes : (s : Shared) (past : List Step) (c : ClientId) (page : PageNo) → Knows s past → Goes s past (Read c page) (rules.read s c page)
unfolding submitted
read_goes s past c page k =
    let what = commands.Read (block_of page) in
    let i : Issued = record { client = c; page = page; writes = None } in
    submit_goes s past (Read c page) c page what (λ r. record { knows = refused s past (Read c page) r k; cause = tt })
    (record { knows = submitted_knows s past (Read c page) c what i refl refl k; cause = is_next s past what k })

-- Effects and reports leave as many commands.

abbrev IsAsLong : Disks → Result Disks CommandRefusal → Type 0
IsAsLong d (Ok e) = length e.commands ≡ length d.commands
IsAsLong d (Err r) = Unit {0}

effect_long : (d : Disks) (n : ℕ) → IsAsLong d (disks.effect d n)
unfolding disks.effect effect_at effect_reported effect_once effect_of
effect_long d n = by_command (command d n)
  where
    by_what : (c : DiskCommand) (what : Command) → IsAsLong d (Ok (effect_of d n c what))
    by_what c (commands.Read at) = set_length d.commands (pred n) (disks.sampled (disks.block d at) c)
    by_what c (commands.Write at tag bytes) = set_length d.commands (pred n) (disks.effected c)

    by_once : (c : DiskCommand) (b : Bool) → IsAsLong d (if b then Err (Twice n) else Ok (effect_of d n c c.what))
    by_once c true = tt
    by_once c false = by_what c c.what

    by_report : (c : DiskCommand) (r : DiskReport) → IsAsLong d (effect_reported d n c r)
    by_report c reports.Open = by_once c c.effected
    by_report c reports.Succeeded = tt
    by_report c reports.Failed = tt

    by_command : (o : Option DiskCommand) → IsAsLong d (effect_at d n o)
    by_command None = tt
    by_command (Some c) = by_report c c.report

done_long : (d : Disks) (n : ℕ) (ok : Bool) → IsAsLong d (disks.done d n ok)
unfolding disks.done done_at done_unreported done_once
done_long d n ok = by_command (command d n)
  where
    by_lack : (c : DiskCommand) (b : Bool) → IsAsLong d (if b then Err (NotEffected n) else Ok (with_command n (disks.reported ok c) d))
    by_lack c true = tt
    by_lack c false = set_length d.commands (pred n) (disks.reported ok c)

    by_report : (c : DiskCommand) (r : DiskReport) → IsAsLong d (done_unreported d n ok c r)
    by_report c reports.Open = by_lack c (lacks_effect ok c)
    by_report c reports.Succeeded = tt
    by_report c reports.Failed = tt

    by_command : (o : Option DiskCommand) → IsAsLong d (done_at d n ok o)
    by_command None = tt
    by_command (Some c) = by_report c c.report

effect_goes : (s : Shared) (past : List Step) (n : ℕ) → Knows s past → Goes s past (Effect n) (rules.effect s n)
unfolding rules.effect effect_timely with_disk
effect_goes s past n k = go (disks.effect s.disk n) (effect_long s.disk n)
  where
    timely : (d : Disks) (b : Bool) → length d.commands ≡ length s.disk.commands → Goes s past (Effect n) (if b then Err (Late n) else Ok (with_disk s d))
    timely d true long = record { knows = refused s past (Effect n) (Late n) k; cause = tt }
    timely d false long = record { knows = stays s (with_disk s d) past (record { call = Effect n; answer = Done }) refl long refl (λ n. refl) (λ n. refl) k; cause = tt }

    go : (r : Result Disks CommandRefusal) → IsAsLong s.disk r → Goes s past (Effect n) (effect_timely s n r)
    go (Ok d) long = timely d (is_expired (numbered s.issuers n)) long
    go (Err r) long = record { knows = refused s past (Effect n) _ k; cause = tt }

-- the answer to a report says nothing about commands and clients
abbrev Tells : Answer → Type 0
Tells Done = ⊥
Tells (Number n) = ⊥
Tells answer = Unit {0}

told_knows : (s t : Shared) (past : List Step) (n : ℕ) (ok : Bool) (a : Answer) → Tells a → t.issuers ≡ s.issuers → length t.disk.commands ≡ length s.disk.commands → Knows s past →
    Knows t (record { call = Report n ok; answer = a } ∷ past)
told_knows s t past n ok Done h same long k = absurd h
told_knows s t past n ok (Number m) h same long k = absurd h
told_knows s t past n ok Hard h same long k = stays s t past (record { call = Report n ok; answer = Hard }) same long refl (λ n. refl) (λ n. refl) k
told_knows s t past n ok (Bytes b) h same long k = stays s t past (record { call = Report n ok; answer = Bytes b }) same long refl (λ n. refl) (λ n. refl) k
told_knows s t past n ok Failed h same long k = stays s t past (record { call = Report n ok; answer = Failed }) same long refl (λ n. refl) (λ n. refl) k
told_knows s t past n ok Silent h same long k = stays s t past (record { call = Report n ok; answer = Silent }) same long refl (λ n. refl) (λ n. refl) k
told_knows s t past n ok (Refused r) h same long k = stays s t past (record { call = Report n ok; answer = Refused r }) same long refl (λ n. refl) (λ n. refl) k

report_told : (past : List Step) (n : ℕ) (ok silent : Bool) (o : Option Block) → silent ≡ has_stopped n past →
    HasCause past (Report n ok) (if silent then Silent else ended_answer ok o) × Tells (if silent then Silent else ended_answer ok o)
report_told past n ok true o is = (sym is, tt)
report_told past n false false o is = ((refl, sym is), tt)
report_told past n true false None is = ((refl, sym is), tt)
report_told past n true false (Some b) is = ((refl, sym is), tt)

report_goes : (s : Shared) (past : List Step) (n : ℕ) (ok : Bool) → Knows s past → Goes s past (Report n ok) (rules.report s n ok)
unfolding rules.report reported with_disk
report_goes s past n ok k = go (disks.done s.disk n ok) (done_long s.disk n ok)
  where
    go : (r : Result Disks CommandRefusal) → IsAsLong s.disk r → Goes s past (Report n ok) (reported s r)
    go (Ok d) long =
        let told = report_told past n ok (is_silenced (numbered s.issuers n)) (sample d n) (k.silenced n) in
        record { knows = told_knows s (with_disk s d) past n ok (report_answer (with_disk s d) n ok) told.1 refl long k; cause = told.0 }
    go (Err r) long = record { knows = refused s past (Report n ok) _ k; cause = tt }

-- Every call.

goes : (s : Shared) (past : List Step) (call : Call) → Knows s past → Goes s past call (rule_of s call)
goes s past (Enter c) k = enter_goes s past c k
goes s past (Leave c) k = leave_goes s past c k
goes s past (Lock c) k = lock_goes s past c k
goes s past (Unlock c) k = unlock_goes s past c k
goes s past (Crash c) k = crash_goes s past c k
goes s past (Expire c) k = expire_goes s past c k
goes s past (Write c page bytes) k = write_goes s past c page bytes k
goes s past (Read c page) k = read_goes s past c page k
goes s past (Effect n) k = effect_goes s past n k
goes s past (Report n ok) k = report_goes s past n ok k

fresh_knows : (blocks : ℕ) → Knows (fresh_shared blocks) []
fresh_knows blocks = record {
  each = refl;
  counted = refl;
  clients = λ n. ap (option_map client_of_issuer) (none_numbered n);
  silenced = λ n. ap is_silenced (none_numbered n);
}

record IsCaused (s : Shared) (past : List Step) : Type 0 where
  knows : Knows s past
  causes : HaveCauses past

caused : (blocks : ℕ) (calls : List Call) → IsCaused (trace blocks calls).state (trace blocks calls).past
unfolding trace
caused blocks [] = record { knows = fresh_knows blocks; causes = tt }
caused blocks (call ∷ earlier) =
    let t = trace blocks earlier in
    let k = caused blocks earlier in
    let on = goes t.state t.past call k.knows in
    record { knows = on.knows; causes = (on.cause, k.causes) }

pub every_answer : EveryAnswerHasItsCause
every_answer blocks calls = (caused blocks calls).causes
