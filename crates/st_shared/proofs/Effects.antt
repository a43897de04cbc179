-- An effect keeps that a state agrees with its history, and comes in time.
use Rattle.st_lemmas.proofs.Words
use Words.{◌≡◌, ◌≢◌, ℕ, ◌⊎◌, Bool, true, false, ◌&&◌, ◌||◌, ◌==◌, List, ◌∷◌, Some, None, refl, sym, ap, ◌∙◌, inl, inr, if◌then◌else◌, find, is_some, pred}
use Words.{unwrap_or, Option, option_map, Ok, Err, eqb-true, eq-eqb, ne_eqb, BlockAt, Tag, Command, ClientId, PageNo, Block, Report, DiskCommand}
use Words.commands
use Words.reports
use Words.Disks as disks
use Words.Disks.{block, command, effect_at, effect_of, effect_once, effect_reported, effected, fresh_block, is_block_at, sampled}
use Words.Keys.{put, same_block, same_page}
use Words.World.{numbered, with_numbered}
use Words.Lookups.{if_true, if_false, some_is}
use Words.Numbers.{set_length}
use Words.Tables.{same_or_not}
use Rattle.std.specs.Prelude.{is_none}
use Rattle.st_rules.specs.declared.disks.CommandRefusal.TheVariants.{NoCommand, Twice, Reported}
use Rattle.st_lemmas.proofs.Puts.{find_put, find_put_other}
use Rattle.st_disk.specs.Calls.{as_told, place}
use Rattle.st_shared.specs.declared.issuers.Issuer.{Issuer}
use Rattle.st_shared.specs.declared.refusal.SharedRefusal.{SharedRefusal}
use Rattle.st_shared.specs.declared.refusal.SharedRefusal.TheVariants.{Disk, Late}
use Rattle.st_shared.specs.History.{Step, Effect, Issued, effects, has_lock, issued, last_write, told_by, told_of, with_effect, written_over}
use Rattle.st_shared.specs.Shared as rules
use Rattle.st_shared.specs.Shared.{Shared, Done, Bytes, block_of, effect_timely, found_answer, is_expired, is_holder, is_member, is_report_open, with_disk}
use Rattle.st_shared.proofs.Agreeing.{Agrees, Keeps, client_of_issued, client_of_issuer, is_placed, is_unsampled, page_of, refused, told_at, told_with}
use Rattle.st_shared.proofs.Agreeing.{what_of_command, what_of_issued, writes_of}
use Rattle.st_shared.proofs.Numbered.{command_is, each_with, numbered_with, same_with}
use Rattle.st_shared.proofs.Owned.{is_owned, owned_with, owner_in}

-- The command of an effect, in the history.
pub record Known (past : List Step) (n : ℕ) (d : DiskCommand) : Type 0 where
  pub issue : Issued
  pub there : issued past n ≡ Some issue
  pub page : issue.page ≡ page_of d.what
  pub writes : issue.writes ≡ writes_of d.what

known : (s : Shared) (past : List Step) (n : ℕ) (d : DiskCommand) → numbered s.disk.commands n ≡ Some d → Agrees s past → Known past n d
known s past n d e k = go (issued past n) refl (ap (option_map what_of_command) (sym e) ∙ k.whats n)
  where
    go : (o : Option Issued) → issued past n ≡ o → Some (what_of_command d) ≡ option_map what_of_issued (issued past n) → Known past n d
    go None i q = let z : Some (what_of_command d) ≡ None = q ∙ ap (option_map what_of_issued) i in cc
    go (Some issue) i q =
        let w : what_of_command d ≡ what_of_issued issue = some_is (q ∙ ap (option_map what_of_issued) i) in
        record { issue = issue; there = i; page = ap (λ p. p.0) (sym w); writes = ap (λ p. p.1) (sym w) }

-- a command that did something to the disk
record Acts (s : Shared) (past : List Step) (n : ℕ) (d c : DiskCommand) (written : List Block) (i : Issued) : Type 0 where
  there : numbered s.disk.commands n ≡ Some d
  known : issued past n ≡ Some i
  what : c.what ≡ d.what
  marked : c.effected ≡ true
  kept : c.report ≡ d.report
  told : found_answer c.sample ≡ told_of i.writes (last_write i.page (effects past))
  pages : (page : PageNo) → (unwrap_or (find (is_block_at (block_of page)) written) (fresh_block (block_of page))).bytes
      ≡ (if same_page i.page page then written_over i.writes (last_write page (effects past)) else last_write page (effects past))

abbrev acted : Shared → ℕ → DiskCommand → List Block → Shared
acted s n c written = record s { disk = record s.disk { written = written; commands = with_numbered n c s.disk.commands } }

acts_agree : (s : Shared) (past : List Step) (n : ℕ) (d c : DiskCommand) (written : List Block) (i : Issued) → Acts s past n d c written i → Agrees s past →
    Agrees (acted s n c written) (record { call = Effect n; answer = Done } ∷ past)
acts_agree s past n d c written i a k = record {
  inside = k.inside;
  locked = k.locked;
  apart = k.apart;
  each = k.each ∙ sym (set_length s.disk.commands (pred n) c);
  clients = k.clients;
  whats = λ m. same_with (option_map what_of_command) s.disk.commands n m c d a.there (ap (λ w. Some (page_of w, writes_of w)) a.what) ∙ k.whats m;
  expired = k.expired;
  unsampled = each_with is_unsampled s.disk.commands n c d a.there (ap (λ b. b || is_none c.sample) a.marked) k.unsampled;
  placed = each_with is_placed s.disk.commands n c d a.there (ap (λ w. (place w).disk.0 == 1) a.what ∙ ap is_placed (sym a.there) ∙ k.placed n) k.placed;
  owned = λ m. owned_with s.members (numbered s.issuers m) s.disk.commands n m c d a.there (λ q. ap is_report_open (sym a.kept) ∙ q) (k.owned m);
  told = λ m.
      ap told_at (numbered_with s.disk.commands n m c d a.there)
      ∙ by_told (n == m) m
      ∙ ap (λ o. told_by m (with_effect n o (effects past))) (sym a.known);
  pages = λ page. a.pages page ∙ ap (λ o. last_write page (with_effect n o (effects past))) (sym a.known);
}
  where
    by_told : (b : Bool) (m : ℕ) → told_at (if b then Some c else numbered s.disk.commands m) ≡ (if b then Some (told_of i.writes (last_write i.page (effects past))) else told_by m (effects past))
    by_told true m = ap (λ b. told_with b c.sample) a.marked ∙ ap Some a.told
    by_told false m = k.told m

-- A command's block is its page's.
at_page : (what : Command) → ((place what).disk.0 == 1) ≡ true → place what ≡ block_of (page_of what)
at_page what e = let q : (place what).disk.0 ≡ 1 = eqb-true _ _ e in λ i. record { disk = record { 0 = q i }; block = (place what).block }

-- A read samples the bytes of the last write.
read_acts : (s : Shared) (past : List Step) (n : ℕ) (d : DiskCommand) (at : BlockAt) (i : Issued) → numbered s.disk.commands n ≡ Some d → issued past n ≡ Some i → d.what ≡ commands.Read at →
    i.page ≡ page_of (commands.Read at) → i.writes ≡ None → at ≡ block_of (page_of (commands.Read at)) → Agrees s past → Acts s past n d (sampled (block s.disk at) d) s.disk.written i
read_acts s past n d at i e known what page writes placed k = record {
  there = e;
  known = known;
  what = refl;
  marked = refl;
  kept = refl;
  told = ap Bytes (ap (λ a. (block s.disk a).bytes) placed ∙ k.pages (page_of (commands.Read at)) ∙ ap (λ p. last_write p (effects past)) (sym page))
      ∙ ap (λ w. told_of w (last_write i.page (effects past))) (sym writes);
  pages = λ q. k.pages q ∙ same (same_page i.page q) q ∙ ap (λ w. if same_page i.page q then written_over w (last_write q (effects past)) else last_write q (effects past)) (sym writes);
}
  where
    same : (b : Bool) (q : PageNo) → last_write q (effects past) ≡ (if b then last_write q (effects past) else last_write q (effects past))
    same true q = refl
    same false q = refl

-- A write replaces the bytes of its page.
put_pages : (written : List Block) (b : Block) (page q : PageNo) (old : List ℕ) → b.at ≡ block_of page →
    (unwrap_or (find (is_block_at (block_of q)) written) (fresh_block (block_of q))).bytes ≡ old →
    (unwrap_or (find (is_block_at (block_of q)) (put (is_block_at b.at) b written)) (fresh_block (block_of q))).bytes ≡ (if same_page page q then b.bytes else old)
put_pages written b page q old at e = go (same_or_not page.0 q.0)
  where
    shown : Option Block → List ℕ
    shown o = (unwrap_or o (fresh_block (block_of q))).bytes

    by_page : (r : PageNo) → find (is_block_at (block_of r)) (put (is_block_at b.at) b written) ≡ find (is_block_at (block_of r)) (put (is_block_at (block_of page)) b written)
    by_page r = ap (λ a. find (is_block_at (block_of r)) (put (is_block_at a) b written)) at

    itself : is_block_at (block_of page) b ≡ true
    itself = ap (λ a. same_block a (block_of page)) at ∙ eq-eqb page.0 page.0 refl

    go : (page.0 ≡ q.0) ⊎ (page.0 ≢ q.0) → (unwrap_or (find (is_block_at (block_of q)) (put (is_block_at b.at) b written)) (fresh_block (block_of q))).bytes ≡ (if same_page page q then b.bytes else old)
    go (inl h) =
        let r : page ≡ q = λ i. record { 0 = h i } in
        ap (λ o. (unwrap_or o (fresh_block (block_of q))).bytes) (by_page q ∙ ap (λ z. find (is_block_at (block_of z)) (put (is_block_at (block_of page)) b written)) (sym r) ∙ find_put (is_block_at (block_of page)) b written itself)
        ∙ sym (if_true (same_page page q) b.bytes old (eq-eqb _ _ h))
    go (inr h) =
        ap (λ o. (unwrap_or o (fresh_block (block_of q))).bytes) (by_page q ∙ find_put_other (is_block_at (block_of q)) (is_block_at (block_of page)) b written (other b at) (λ y t. apart y t))
        ∙ e ∙ sym (if_false (same_page page q) b.bytes old (ne_eqb _ _ h))
      where
        other : (b : Block) → b.at ≡ block_of page → is_block_at (block_of q) b ≡ false
        other b at = ap (λ a. same_block a (block_of q)) at ∙ ne_eqb _ _ h

        one : (x : ℕ) → ((x == q.0) ≡ true) → (x == page.0) ≡ false
        one x t = ne_eqb _ _ (λ z. h (sym z ∙ eqb-true _ _ t))

        apart : (y : Block) → is_block_at (block_of q) y ≡ true → is_block_at (block_of page) y ≡ false
        apart y t = in_disk (y.at.disk.0 == 1) t
          where
            in_disk : (a : Bool) → (a && (y.at.block == q.0)) ≡ true → (a && (y.at.block == page.0)) ≡ false
            in_disk true t = one y.at.block t
            in_disk false t = refl

write_acts : (s : Shared) (past : List Step) (n : ℕ) (d : DiskCommand) (at : BlockAt) (tag : Tag) (bytes : List ℕ) (i : Issued) → numbered s.disk.commands n ≡ Some d → issued past n ≡ Some i →
    d.what ≡ commands.Write at tag bytes → i.page ≡ page_of (commands.Write at tag bytes) → i.writes ≡ Some bytes → at ≡ block_of (page_of (commands.Write at tag bytes)) → d.sample ≡ None → Agrees s past →
    Acts s past n d (effected d) (put (is_block_at at) (record { at = at; tag = tag; bytes = bytes }) s.disk.written) i
write_acts s past n d at tag bytes i e known what page writes placed empty k = record {
  there = e;
  known = known;
  what = refl;
  marked = refl;
  kept = refl;
  told = ap found_answer empty ∙ ap (λ w. told_of w (last_write i.page (effects past))) (sym writes);
  pages = λ q.
      put_pages s.disk.written (record { at = at; tag = tag; bytes = bytes }) (page_of (commands.Write at tag bytes)) q (last_write q (effects past)) placed (k.pages q)
      ∙ (λ j. if same_page (sym page j) q then written_over (sym writes j) (last_write q (effects past)) else last_write q (effects past));
}

-- An effect that is neither refused nor late.
timely_agrees : (s : Shared) (past : List Step) (n : ℕ) (d : DiskCommand) (what : Command) → numbered s.disk.commands n ≡ Some d → d.effected ≡ false → d.what ≡ what → Agrees s past →
    Agrees (with_disk s (effect_of s.disk n d what)) (record { call = Effect n; answer = Done } ∷ past)
unfolding with_disk effect_of
timely_agrees s past n d (commands.Read at) e fresh what k =
    let i = known s past n d e k in
    let placed : at ≡ block_of (page_of (commands.Read at)) = at_page (commands.Read at) (ap (λ w. (place w).disk.0 == 1) (sym what) ∙ ap is_placed (sym e) ∙ k.placed n) in
    acts_agree s past n d (sampled (block s.disk at) d) s.disk.written i.issue
    (read_acts s past n d at i.issue e i.there what (i.page ∙ ap page_of what) (i.writes ∙ ap writes_of what) placed k) k
timely_agrees s past n d (commands.Write at tag bytes) e fresh what k =
    let i = known s past n d e k in
    let w = commands.Write at tag bytes in
    let placed : at ≡ block_of (page_of w) = at_page w (ap (λ w. (place w).disk.0 == 1) (sym what) ∙ ap is_placed (sym e) ∙ k.placed n) in
    acts_agree s past n d (effected d) (put (is_block_at at) (record { at = at; tag = tag; bytes = bytes }) s.disk.written) i.issue
    (write_acts s past n d at tag bytes i.issue e i.there what (i.page ∙ ap page_of what) (i.writes ∙ ap writes_of what) placed (empty d.sample (ap (λ b. b || is_none d.sample) (sym fresh) ∙ ap is_unsampled (sym e) ∙ k.unsampled n)) k) k
  where
    empty : (o : Option Block) → is_none o ≡ true → o ≡ None
    empty None q = refl
    empty (Some b) q = cc

-- Nobody has the lock row while a command may have its effect.
unheld : (s : Shared) (past : List Step) (i : Issuer) → is_some (find (is_member i.client) s.members) ≡ true → Agrees s past → (c : ClientId) → has_lock c past ≡ false
unheld s past i inside k c = sym (k.locked c) ∙ go s.holder refl
  where
    go : (h : Option ClientId) → s.holder ≡ h → is_holder h c ≡ false
    go None e = refl
    go (Some holder) e =
        let z : false ≡ true = ap (λ ms. is_some (find (is_member i.client) ms)) (sym (k.apart holder e)) ∙ inside in cc

unlocked : (s : Shared) (past : List Step) (n : ℕ) (d : DiskCommand) → numbered s.disk.commands n ≡ Some d → is_report_open d.report ≡ true → is_expired (numbered s.issuers n) ≡ false → Agrees s past →
    (c : ClientId) → has_lock c past ≡ false
unlocked s past n d e unreported timely k c = go (numbered s.issuers n) refl timely
  where
    go : (o : Option Issuer) → numbered s.issuers n ≡ o → is_expired o ≡ false → has_lock c past ≡ false
    go None q f =
        let i = known s past n d e k in
        let z : None ≡ Some (client_of_issued i.issue) = ap (option_map client_of_issuer) (sym q) ∙ k.clients n ∙ ap (option_map client_of_issued) i.there in
        cc
    go (Some i) q f =
        unheld s past i (owner_in s.members i (Some d) unreported f ((λ x. is_owned s.members (sym q x) (sym e x)) ∙ k.owned n)) k c

pub effect_keeps : (s : Shared) (past : List Step) (n : ℕ) → Agrees s past → Keeps s past (Effect n) (rules.effect s n)
unfolding rules.effect effect_timely disks.effect effect_at effect_reported effect_once
effect_keeps s past n k = by_command (command s.disk n) refl
  where
    refuses : (r : SharedRefusal) → Keeps s past (Effect n) (Err r)
    refuses r = record { agrees = refused s past (Effect n) r k; right = tt }

    by_late : (d : DiskCommand) (b : Bool) → numbered s.disk.commands n ≡ Some d → d.report ≡ reports.Open → d.effected ≡ false → is_expired (numbered s.issuers n) ≡ b →
        Keeps s past (Effect n) (if b then Err (Late n) else Ok (with_disk s (effect_of s.disk n d d.what)))
    by_late d true e u f l = refuses (Late n)
    by_late d false e u f l = record {
      agrees = timely_agrees s past n d d.what e f refl k;
      right = record { client = sym (k.expired n) ∙ l; unlocked = unlocked s past n d e (ap is_report_open u) l k };
    }

    by_once : (d : DiskCommand) (b : Bool) → numbered s.disk.commands n ≡ Some d → d.report ≡ reports.Open → d.effected ≡ b → Keeps s past (Effect n) (effect_timely s n (if b then Err (Twice n) else Ok (effect_of s.disk n d d.what)))
    by_once d true e u f = refuses (Disk (as_told (Twice n)))
    by_once d false e u f = by_late d (is_expired (numbered s.issuers n)) e u f refl

    by_report : (d : DiskCommand) (r : Report) → numbered s.disk.commands n ≡ Some d → d.report ≡ r → Keeps s past (Effect n) (effect_timely s n (effect_reported s.disk n d r))
    by_report d reports.Open e u = by_once d d.effected e u refl
    by_report d reports.Succeeded e u = refuses (Disk (as_told (Reported n)))
    by_report d reports.Failed e u = refuses (Disk (as_told (Reported n)))

    by_command : (o : Option DiskCommand) → command s.disk n ≡ o → Keeps s past (Effect n) (effect_timely s n (effect_at s.disk n o))
    by_command None e = refuses (Disk (as_told (NoCommand n)))
    by_command (Some d) e = by_report d d.report (sym (command_is s.disk.commands n) ∙ e) refl
