-- A report keeps that a state agrees with its history, and tells what is right.
use Rattle.st_lemmas.proofs.Words
use Words.{◌≡◌, ℕ, Bool, true, false, List, ◌∷◌, Some, None, refl, sym, ap, ◌∙◌, if◌then◌else◌, pred, Option, option_map, Ok, Err, Block, Report}
use Words.{DiskCommand}
use Words.reports
use Words.Disks as disks
use Words.Disks.{command, done_at, done_once, done_unreported, lacks_effect, sample, sample_of, with_command}
use Words.World.{numbered}
use Words.Numbers.{numbered_own, set_length}
use Words.Tables.{not_false}
use Rattle.st_rules.specs.declared.disks.CommandRefusal.TheVariants.{NoCommand, Twice, NotEffected}
use Rattle.st_disk.specs.Calls.{as_told}
use Rattle.st_shared.specs.declared.refusal.SharedRefusal.{SharedRefusal}
use Rattle.st_shared.specs.declared.refusal.SharedRefusal.TheVariants.{Disk}
use Rattle.st_shared.specs.History.{Step, Report as Reports, AnswersRight, effects, told_by}
use Rattle.st_shared.specs.Shared as rules
use Rattle.st_shared.specs.Shared.{Shared, Answer, Done, Number, Failed, Silent, ended_answer, found_answer, is_report_open, is_silenced, report_answer}
use Rattle.st_shared.specs.Shared.{reported, with_disk}
use Rattle.st_shared.proofs.Agreeing.{Agrees, Keeps, is_placed, is_unsampled, refused, told_at, told_with, what_of_command}
use Rattle.st_shared.proofs.Numbered.{command_is, same_with}
use Rattle.st_shared.proofs.Owned.{owned_with}

-- The answers that a report may have.
abbrev Tells : Answer → Type 0
Tells Done = ⊥
Tells (Number n) = ⊥
Tells answer = Unit {0}

-- an answer to a report says nothing of who is in, of commands and of effects
told_agrees : (s : Shared) (past : List Step) (n : ℕ) (ok : Bool) (a : Answer) → Tells a → Agrees s past → Agrees s (record { call = Reports n ok; answer = a } ∷ past)
told_agrees s past n ok Done t k = absurd t
told_agrees s past n ok (Number m) t k = absurd t
told_agrees s past n ok a t k = record { inside = k.inside; locked = k.locked; apart = k.apart; each = k.each; clients = k.clients; whats = k.whats; expired = k.expired; unsampled = k.unsampled; placed = k.placed; owned = k.owned; told = k.told; pages = k.pages }

found_tells : (o : Option Block) → Tells (found_answer o)
found_tells None = tt
found_tells (Some b) = tt

report_tells : (s : Shared) (n : ℕ) (ok : Bool) → Tells (report_answer s n ok)
report_tells s n ok = go (is_silenced (numbered s.issuers n)) ok
  where
    go : (b ok : Bool) → Tells (if b then Silent else ended_answer ok (sample s.disk n))
    go true ok = tt
    go false true = found_tells (sample s.disk n)
    go false false = tt

-- an answer of a command that had its effect is what its effect says
found_right : (s : Shared) (past : List Step) (n : ℕ) (d : DiskCommand) (o : Option Block) → numbered s.disk.commands n ≡ Some d → d.effected ≡ true → d.sample ≡ o → Agrees s past →
    told_by n (effects past) ≡ Some (found_answer o)
found_right s past n d o e f q k = sym (k.told n) ∙ ap told_at e ∙ (λ i. told_with (f i) (q i))

report_right : (s : Shared) (past : List Step) (n : ℕ) (ok : Bool) (d : DiskCommand) → numbered s.disk.commands n ≡ Some d → (ok ≡ true → d.effected ≡ true) → Agrees s past →
    AnswersRight past (Reports n ok) (report_answer s n ok)
report_right s past n ok d e f k = go (is_silenced (numbered s.issuers n)) ok f
  where
    by_found : (ok : Bool) (o : Option Block) → sample s.disk n ≡ o → d.effected ≡ true → AnswersRight past (Reports n ok) (found_answer o)
    by_found ok None q f = found_right s past n d None e f (ap sample_of (sym (command_is s.disk.commands n ∙ e)) ∙ q) k
    by_found ok (Some b) q f = found_right s past n d (Some b) e f (ap sample_of (sym (command_is s.disk.commands n ∙ e)) ∙ q) k

    go : (b ok : Bool) → (ok ≡ true → d.effected ≡ true) → AnswersRight past (Reports n ok) (if b then Silent else ended_answer ok (sample s.disk n))
    go true ok f = tt
    go false false f = tt
    go false true f = by_found true (sample s.disk n) refl (f refl)

-- a report leaves all but its own mark
ended_agrees : (s : Shared) (past : List Step) (n : ℕ) (ok : Bool) (d : DiskCommand) → numbered s.disk.commands n ≡ Some d → Agrees s past → Agrees (with_disk s (with_command n (disks.reported ok d) s.disk)) past
unfolding with_disk
ended_agrees s past n ok d e k = record {
  inside = k.inside;
  locked = k.locked;
  apart = k.apart;
  each = k.each ∙ sym (set_length s.disk.commands (pred n) (disks.reported ok d));
  clients = k.clients;
  whats = λ m. same_with (option_map what_of_command) s.disk.commands n m (disks.reported ok d) d e refl ∙ k.whats m;
  expired = k.expired;
  unsampled = λ m. same_with is_unsampled s.disk.commands n m (disks.reported ok d) d e refl ∙ k.unsampled m;
  placed = λ m. same_with is_placed s.disk.commands n m (disks.reported ok d) d e refl ∙ k.placed m;
  owned = λ m. owned_with s.members (numbered s.issuers m) s.disk.commands n m (disks.reported ok d) d e (closed ok) (k.owned m);
  told = λ m. same_with told_at s.disk.commands n m (disks.reported ok d) d e refl ∙ k.told m;
  pages = k.pages;
}
  where
    closed : (ok : Bool) → is_report_open (disks.report_of ok) ≡ true → is_report_open d.report ≡ true
    closed true q = cc
    closed false q = cc

done_keeps : (s : Shared) (past : List Step) (n : ℕ) (ok : Bool) (d : DiskCommand) → numbered s.disk.commands n ≡ Some d → lacks_effect ok d ≡ false → Agrees s past →
    Keeps s past (Reports n ok) (Ok (with_disk s (with_command n (disks.reported ok d) s.disk)))
unfolding with_disk
done_keeps s past n ok d e l k =
    let t = with_disk s (with_command n (disks.reported ok d) s.disk) in
    let agrees = ended_agrees s past n ok d e k in
    record {
      agrees = told_agrees t past n ok (report_answer t n ok) (report_tells t n ok) agrees;
      right = report_right t past n ok (disks.reported ok d) (own e) (has ok l) agrees;
    }
  where
    own : numbered s.disk.commands n ≡ Some d → numbered (with_disk s (with_command n (disks.reported ok d) s.disk)).disk.commands n ≡ Some (disks.reported ok d)
    own e = numbered_own s.disk.commands n (disks.reported ok d) d e

    has : (ok : Bool) → lacks_effect ok d ≡ false → ok ≡ true → d.effected ≡ true
    has true l q = not_false d.effected l
    has false l q = cc

pub report_keeps : (s : Shared) (past : List Step) (n : ℕ) (ok : Bool) → Agrees s past → Keeps s past (Reports n ok) (rules.report s n ok)
unfolding rules.report reported disks.done done_at done_unreported done_once
report_keeps s past n ok k = by_command (command s.disk n) refl
  where
    refuses : (r : SharedRefusal) → Keeps s past (Reports n ok) (Err r)
    refuses r = record { agrees = refused s past (Reports n ok) r k; right = tt }

    by_effect : (d : DiskCommand) (b : Bool) → numbered s.disk.commands n ≡ Some d → lacks_effect ok d ≡ b → Keeps s past (Reports n ok) (reported s (if b then Err (NotEffected n) else Ok (with_command n (disks.reported ok d) s.disk)))
    by_effect d true e l = refuses (Disk (as_told (NotEffected n)))
    by_effect d false e l = done_keeps s past n ok d e l k

    by_report : (d : DiskCommand) (r : Report) → numbered s.disk.commands n ≡ Some d → Keeps s past (Reports n ok) (reported s (done_unreported s.disk n ok d r))
    by_report d reports.Open e = by_effect d (lacks_effect ok d) e refl
    by_report d reports.Succeeded e = refuses (Disk (as_told (Twice n)))
    by_report d reports.Failed e = refuses (Disk (as_told (Twice n)))

    by_command : (o : Option DiskCommand) → command s.disk n ≡ o → Keeps s past (Reports n ok) (reported s (done_at s.disk n ok o))
    by_command None e = refuses (Disk (as_told (NoCommand n)))
    by_command (Some d) e = by_report d d.report (sym (command_is s.disk.commands n) ∙ e)
