-- A block that is written in one call.
use Rattle.st_lemmas.proofs.Words
use Words.{◌≡◌, ℕ, Bool, true, false, List, [], ◌∷◌, ◌++◌, length, Option, Some, None, Ok, Err, Result, sym, ap, ◌∙◌, true≢false, OnErr}
use Words.{if◌then◌else◌, BlockAt, Tag, CommandRefusal, DiskCommand, Report}
use Words.commands
use Words.reports
use Words.Keys.{put}
use Words.Disks as disks
use Words.Disks.{Disks, is_block_at}
use Words.Numbers.{get_last, length_more}
use Rattle.std.specs.Prelude.{is_err}
use Rattle.st_rules.specs.declared.disks.CommandRefusal.TheVariants.{NotEffected}
use Rattle.st_disk.specs.Calls.{Answers, ended, told}
use Rattle.st_disk.specs.declared.refusal.DiskRefusal.{DiskRefusal}

last_command : (cs : List DiskCommand) (c : DiskCommand) (n : ℕ) → n ≡ length (cs ++ c ∷ []) → disks.command_at (cs ++ c ∷ []) n ≡ Some c
last_command cs c n e = ap (disks.command_at (cs ++ c ∷ [])) (e ∙ length_more cs c) ∙ get_last cs c

from_told : Disks → Result Disks DiskRefusal → Disks
from_told d (Ok x) = x
from_told d (Err e) = d

from_rule : Disks → Result Disks CommandRefusal → Disks
from_rule d (Ok x) = x
from_rule d (Err e) = d

-- the effect of the last command, a write
effect_last : (d new : Disks) (n : ℕ) (at : BlockAt) (tag : Tag) (bytes : List ℕ)
    → n ≡ length (d.commands ++ disks.new_command (commands.Write at tag bytes) ∷ []) → disks.effect (disks.submit d (commands.Write at tag bytes)) n ≡ Ok new
    → new.written ≡ put (is_block_at at) (record { at = at; tag = tag; bytes = bytes }) d.written
unfolding disks.effect disks.effect_at disks.effect_reported disks.effect_once disks.effect_of from_rule
effect_last d new n at tag bytes e h =
    let c = disks.new_command (commands.Write at tag bytes) in
    let all = disks.submit d (commands.Write at tag bytes) in
    let r : Ok (disks.effect_of all n c (commands.Write at tag bytes)) ≡ Ok new = sym (ap (disks.effect_at all n) (last_command d.commands c n e)) ∙ h in
    sym (ap (λ (x : Disks). x.written) (ap (from_rule d) r))

done_open : (d x : Disks) (n : ℕ) (ok : Bool) (c : DiskCommand) (r : Report) → told (disks.done_unreported d n ok c r) ≡ Ok x → x.written ≡ d.written
unfolding disks.done_unreported disks.done_once from_told
done_open d x n ok c reports.Open h = by (disks.lacks_effect ok c) h
  where
    by : (b : Bool) → told (if b then Err (NotEffected n) else Ok (disks.with_command n (disks.reported ok c) d)) ≡ Ok x → x.written ≡ d.written
    by true h = cc
    by false h = sym (ap (λ (y : Disks). y.written) (ap (from_told d) h))
done_open d x n ok c reports.Succeeded h = cc
done_open d x n ok c reports.Failed h = cc

done_written : (d x : Disks) (n : ℕ) (ok : Bool) → told (disks.done d n ok) ≡ Ok x → x.written ≡ d.written
unfolding disks.done disks.done_at
done_written d x n ok h = by (disks.command d n) h
  where
    by : (o : Option DiskCommand) → told (disks.done_at d n ok o) ≡ Ok x → x.written ≡ d.written
    by None h = cc
    by (Some c) h = done_open d x n ok c c.report h

reported : (d x : Disks) (n : ℕ) (ok : Bool) (r : Result Unit DiskRefusal) → ended r x ≡ told (disks.done d n ok) → OnErr r (x ≡ d) → x.written ≡ d.written
reported d x n ok (Ok u) h e = done_written d x n ok (sym h)
reported d x n ok (Err f) h e = ap (λ (y : Disks). y.written) e

effected : (d x : Disks) (r : Result Unit DiskRefusal) (rule : Result Disks CommandRefusal) → Answers d x r rule → is_err r ≡ false → rule ≡ Ok x
effected d x (Ok u) rule h e = h
effected d x (Err f) rule h e = absurd (true≢false e)

-- a write that is submitted, has its effect and is reported
pub written : (d sent acted new : Disks) (n : ℕ) (at : BlockAt) (tag : Tag) (bytes : List ℕ) (r s : Result Unit DiskRefusal)
    → sent ≡ disks.submit d (commands.Write at tag bytes) → n ≡ length sent.commands
    → Answers sent acted r (disks.effect sent n) → is_err r ≡ false
    → ended s new ≡ told (disks.done acted n true) → OnErr s (new ≡ acted)
    → new.written ≡ put (is_block_at at) (record { at = at; tag = tag; bytes = bytes }) d.written
written d sent acted new n at tag bytes r s e l a o h f =
    reported acted new n true s h f
    ∙ effect_last d acted n at tag bytes (l ∙ ap (λ (x : Disks). length x.commands) e) (ap (λ x. disks.effect x n) (sym e) ∙ effected sent acted r (disks.effect sent n) a o)
