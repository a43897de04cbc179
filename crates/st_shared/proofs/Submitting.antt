-- Submitting a write or a read keeps that a state agrees with its history.
use Rattle.st_lemmas.proofs.Words
use Words.{◌≡◌, ℕ, Bool, true, false, List, [], ◌∷◌, ◌++◌, ◌==◌, Some, None, refl, sym, ap, ◌∙◌, if◌then◌else◌, suc, is_some, length, nat_lt, Option}
use Words.{option_map, Ok, Err, ClientId, PageNo, Command}
use Words.commands
use Words.Disks.{new_command}
use Words.World.{numbered}
use Words.Numbers.{length_more}
use Rattle.st_disk.specs.Calls.{place}
use Rattle.st_shared.specs.declared.members.Member.{Member}
use Rattle.st_shared.specs.declared.refusal.SharedRefusal.{SharedRefusal}
use Rattle.st_shared.specs.declared.refusal.SharedRefusal.TheVariants.{NotIn, Stopped, NoPage}
use Rattle.st_shared.specs.History.{Call, Step, Write, Read, Issued, issue_of, issued}
use Rattle.st_shared.specs.Shared as rules
use Rattle.st_shared.specs.Shared.{Shared, Number, block_of, both, check_page, check_running, check_submit, checked, is_expired, issuer, member_of, submit}
use Rattle.st_shared.specs.Shared.{submitted, tag_of}
use Rattle.st_shared.proofs.Agreeing.{Agrees, Keeps, client_of_issued, client_of_issuer, is_placed, is_unsampled, refused, told_at, what_of_command}
use Rattle.st_shared.proofs.Agreeing.{what_of_issued}
use Rattle.st_shared.proofs.Numbered.{numbered_push, same_push}
use Rattle.st_shared.proofs.Owned.{owned_pushed}

submitted_agrees : (s : Shared) (past : List Step) (call : Call) (c : ClientId) (what : Command) (i : Issued) →
    issue_of call ≡ Some i → i.client ≡ c → what_of_issued i ≡ what_of_command (new_command what) → ((place what).disk.0 == 1) ≡ true → is_some (member_of s c) ≡ true → Agrees s past →
    Agrees (submitted s c what) (record { call = call; answer = Number (length (s.disk.commands ++ new_command what ∷ [])) } ∷ past)
unfolding submitted
submitted_agrees s past call c what i e own same there inside k = record {
  inside = k.inside;
  locked = k.locked;
  apart = k.apart;
  each = both_more;
  clients = λ n.
      ap (option_map client_of_issuer) (numbered_push s.issuers (issuer c) n)
      ∙ ap (λ m. option_map client_of_issuer (if m == n then Some (issuer c) else numbered s.issuers n)) both_more
      ∙ by_client (length (s.disk.commands ++ new_command what ∷ []) == n) n;
  whats = λ n.
      ap (option_map what_of_command) (numbered_push s.disk.commands (new_command what) n)
      ∙ by_what (length (s.disk.commands ++ new_command what ∷ []) == n) n;
  expired = λ n. same_push is_expired s.issuers (issuer c) n refl ∙ k.expired n;
  unsampled = λ n. same_push is_unsampled s.disk.commands (new_command what) n refl ∙ k.unsampled n;
  placed = λ n. same_push is_placed s.disk.commands (new_command what) n there ∙ k.placed n;
  owned = λ n. owned_pushed s.members s.issuers s.disk.commands c (new_command what) n both_more inside (k.owned n);
  told = λ n. same_push told_at s.disk.commands (new_command what) n refl ∙ k.told n;
  pages = k.pages;
}
  where
    both_more : length (s.issuers ++ issuer c ∷ []) ≡ length (s.disk.commands ++ new_command what ∷ [])
    both_more = length_more s.issuers (issuer c) ∙ ap suc k.each ∙ sym (length_more s.disk.commands (new_command what))

    by_client : (b : Bool) (n : ℕ) → option_map client_of_issuer (if b then Some (issuer c) else numbered s.issuers n) ≡ option_map client_of_issued (if b then issue_of call else issued past n)
    by_client true n = ap Some (sym own) ∙ ap (option_map client_of_issued) (sym e)
    by_client false n = k.clients n

    by_what : (b : Bool) (n : ℕ) → option_map what_of_command (if b then Some (new_command what) else numbered s.disk.commands n) ≡ option_map what_of_issued (if b then issue_of call else issued past n)
    by_what true n = ap Some (sym same) ∙ ap (option_map what_of_issued) (sym e)
    by_what false n = k.whats n

submit_keeps : (s : Shared) (past : List Step) (call : Call) (c : ClientId) (page : PageNo) (what : Command) →
    ((r : SharedRefusal) → Keeps s past call (Err r)) → (is_some (member_of s c) ≡ true → Keeps s past call (Ok (submitted s c what))) → Keeps s past call (submit s c page what)
unfolding submit check_submit check_page both check_running checked
submit_keeps s past call c page what refuses keeps = by_member (member_of s c) refl
  where
    by_page : (b : Bool) → is_some (member_of s c) ≡ true → Keeps s past call (checked (if b then Ok tt else Err (NoPage page)) (Ok (submitted s c what)))
    by_page true inside = keeps inside
    by_page false inside = refuses (NoPage page)

    by_run : (b : Bool) → is_some (member_of s c) ≡ true → Keeps s past call (checked (both (if b then Ok tt else Err (Stopped c)) (check_page s page)) (Ok (submitted s c what)))
    by_run true inside = by_page (nat_lt page.0 s.disk.blocks) inside
    by_run false inside = refuses (Stopped c)

    by_member : (o : Option Member) → member_of s c ≡ o → Keeps s past call (checked (both (check_running o c) (check_page s page)) (Ok (submitted s c what)))
    by_member None e = refuses NotIn
    by_member (Some m) e = by_run m.running (ap is_some e)

pub write_keeps : (s : Shared) (past : List Step) (c : ClientId) (page : PageNo) (bytes : List ℕ) → Agrees s past → Keeps s past (Write c page bytes) (rules.write s c page bytes)
unfolding submitted
write_keeps s past c page bytes k =
    let what = commands.Write (block_of page) (tag_of page) bytes in
    let i : Issued = record { client = c; page = page; writes = Some bytes } in
    submit_keeps s past (Write c page bytes) c page what (λ r. record { agrees = refused s past (Write c page bytes) r k; right = tt })
    (λ inside. record { agrees = submitted_agrees s past (Write c page bytes) c what i refl refl refl refl inside k; right = tt })

pub read_keeps : (s : Shared) (past : List Step) (c : ClientId) (page : PageNo) → Agrees s past → Keeps s past (Read c page) (rules.read s c page)
unfolding submitted
read_keeps s past c page k =
    let what = commands.Read (block_of page) in
    let i : Issued = record { client = c; page = page; writes = None } in
    submit_keeps s past (Read c page) c page what (λ r. record { agrees = refused s past (Read c page) r k; right = tt })
    (λ inside. record { agrees = submitted_agrees s past (Read c page) c what i refl refl refl refl inside k; right = tt })
