-- The law in the world: effects and reports of commands.
use Rattle.st_lemmas.proofs.Words
use Words.{◌≡◌, ◌≢◌, ℕ, ◌≤◌, ◌<◌, ◌⊎◌, Bool, true, false, List, Option, Some, None, refl, sym, ap, ◌∙◌, subst, inl, inr, arith, suc, zero, slice_get, set}
use Words.{option_map, BlockAt, Tag, Command, Block, DiskCommand, LogEntry, LogOwner, IssuedCommand}
use Words.commands
use Words.reports
use Words.Keys.{same_block}
use Words.FlatLog as log
use Words.FlatLog.{owner, entry_at}
use Words.Disks as disks
use Words.World.{World, issued_of, numbered}
use Words.Admissible as adm
use Words.Events as ev
use Words.Lookups.{some_is}
use Words.Numbers.{get_below, get_there, set_own, set_other, set_length}
use Words.Tables.{same_or_not}
use Words.Truth.{block_is, block_self, not_both}
use Rattle.st_laws_pages.specs.Disks.Folds.{of_entry, owner_at}
use Rattle.st_laws_pages.specs.Disks.Pages.{CarriedRight}
use Rattle.st_laws_pages.specs.Disks.World.{Living, Timely, EffectDone, CommandsHold, PagesHold, mapped_in, births_in, block_in}
use Rattle.st_laws_pages.proofs.Disks.Folds.{done_harden, harden_done}
use Rattle.st_laws_pages.proofs.Disks.Law.{hardened, kept_with_fewer_living, length_same}
use Rattle.st_laws_pages.proofs.Disks.Effects.{EffectFinds, effect_is, wrote_own, wrote_other, ReportFinds, reported_world}
use Rattle.st_lemmas.proofs.Marks.{owners_harden}

-- Commands by number. What holds if one was replaced
replaced : (ds : List DiskCommand) (n : ℕ) (c y : DiskCommand) → slice_get (set ds n c) n ≡ Some y → y ≡ c
replaced ds n c y e = let z = get_there ds n (let l = get_below (set ds n c) n y e in subst (λ m. n < m) (set_length ds n c) l) in some_is (sym e ∙ set_own ds n c z.0 z.1)

pub at_set : (ds : List DiskCommand) (n j : ℕ) (c y : DiskCommand) → disks.command_at (set ds n c) j ≡ Some y → ((j ≡ suc n) × (y ≡ c)) ⊎ ((j ≢ suc n) × (disks.command_at ds j ≡ Some y))
at_set ds n zero c y e = cc
at_set ds n (suc j) c y e = go (same_or_not j n)
  where
    go : (j ≡ n) ⊎ (j ≢ n) → ((suc j ≡ suc n) × (y ≡ c)) ⊎ ((suc j ≢ suc n) × (slice_get ds j ≡ Some y))
    go (inl q) = inl (ap suc q, replaced ds n c y (ap (λ z. slice_get (set ds n c) z) (sym q) ∙ e))
    go (inr q) = inr (λ z. q (let w : j ≡ n = omega (arith, z) in w), sym (set_other ds n j c q) ∙ e)

-- a command that has its effect or its report is no longer among those that can have it
pub living_set : (T : ℕ → IssuedCommand → Type 0) (cs : List IssuedCommand) (ds : List DiskCommand) (n : ℕ) (c : DiskCommand) → (c.report ≡ reports.Open → c.effected ≡ false → ⊥) →
    (j : ℕ) (y : IssuedCommand) (a : BlockAt) (t : Tag) (ct : List ℕ) → Living T cs (set ds n c) j y a t ct → Living T cs ds j y a t ct × (j ≢ suc n)
living_set T cs ds n c dead j y a t ct l = go (at_set ds n j c l.command l.is)
  where
    go : ((j ≡ suc n) × (l.command ≡ c)) ⊎ ((j ≢ suc n) × (disks.command_at ds j ≡ Some l.command)) → Living T cs ds j y a t ct × (j ≢ suc n)
    go (inl q) = absurd (dead (ap (λ (x : DiskCommand). x.report) (sym q.1) ∙ l.unreported) (ap (λ (x : DiskCommand). x.effected) (sym q.1) ∙ l.fresh))
    go (inr q) = (record { issued = l.issued; command = l.command; is = q.1; what = l.what; unreported = l.unreported; fresh = l.fresh; timely = l.timely }, q.0)

pub commands_set : (es fs : List LogEntry) (cs : List IssuedCommand) (ds : List DiskCommand) (n : ℕ) (d c : DiskCommand) → disks.command_at ds (suc n) ≡ Some d → c.what ≡ d.what →
    ((x : IssuedCommand) (tag : Tag) → EffectDone es x tag → EffectDone fs x tag) →
    ((x : IssuedCommand) (at : BlockAt) (tag : Tag) (bytes : List ℕ) → numbered cs (suc n) ≡ Some x → d.what ≡ commands.Write at tag bytes → c.effected ≡ true → EffectDone fs x tag) →
    CommandsHold es cs ds → CommandsHold fs cs (set ds n c)
commands_set es fs cs ds n d c is what mono own h =
    record {
      counts = h.counts ∙ sym (set_length ds n c);
      reads = λ k x y at i e w. read k x y at i w (at_set ds n k c y e);
      done = λ k x y at tag bytes i e w f. finished k x y at tag bytes i w f (at_set ds n k c y e);
    }
  where
    read : (k : ℕ) (x : IssuedCommand) (y : DiskCommand) (at : BlockAt) → numbered cs k ≡ Some x → y.what ≡ commands.Read at → ((k ≡ suc n) × (y ≡ c)) ⊎ ((k ≢ suc n) × (disks.command_at ds k ≡ Some y)) → x.carries ≡ None
    read k x y at i w (inl q) = h.reads k x d at i (ap (disks.command_at ds) q.0 ∙ is) (sym what ∙ ap (λ (z : DiskCommand). z.what) (sym q.1) ∙ w)
    read k x y at i w (inr q) = h.reads k x y at i q.1 w

    finished : (k : ℕ) (x : IssuedCommand) (y : DiskCommand) (at : BlockAt) (tag : Tag) (bytes : List ℕ) → numbered cs k ≡ Some x → y.what ≡ commands.Write at tag bytes → y.effected ≡ true →
        ((k ≡ suc n) × (y ≡ c)) ⊎ ((k ≢ suc n) × (disks.command_at ds k ≡ Some y)) → EffectDone fs x tag
    finished k x y at tag bytes i w f (inl q) = own x at tag bytes (ap (numbered cs) (sym q.0) ∙ i) (sym what ∙ ap (λ (z : DiskCommand). z.what) (sym q.1) ∙ w) (ap (λ (z : DiskCommand). z.effected) (sym q.1) ∙ f)
    finished k x y at tag bytes i w f (inr q) = mono x tag (h.done k x y at tag bytes i q.1 w f)

pub issued_there : (es : List LogEntry) (cs : List IssuedCommand) (ds : List DiskCommand) (n : ℕ) (d : DiskCommand) → CommandsHold es cs ds → disks.command_at ds (suc n) ≡ Some d → (x : IssuedCommand) × (numbered cs (suc n) ≡ Some x)
issued_there es cs ds n d h e = get_there cs n (let z = get_below ds n d e in subst (λ m. n < m) (sym h.counts) z)

-- hardening the entry of a number, by its owner
pub harden_is : (es : List LogEntry) (i : ℕ) (o : LogOwner) → owner_at es i ≡ Some o → log.harden es i ≡ log.harden_from 1 i o es
unfolding log.harden log.harden_at
harden_is es i o e = go (entry_at es i) e
  where
    go : (x : Option LogEntry) → option_map of_entry x ≡ Some o → log.harden_at es i x ≡ log.harden_from 1 i o es
    go None q = cc
    go (Some x) q = ap (λ z. log.harden_from 1 i z es) (some_is q)

done_of_harden : (es : List LogEntry) (i : ℕ) (o : LogOwner) (x : IssuedCommand) (tag : Tag) → EffectDone es x tag → EffectDone (log.harden_from 1 i o es) x tag
done_of_harden es i o x tag e = record { index = e.index; carries = e.carries; high = subst (λ m. e.index ≤ m) (sym (length_same es _ (owners_harden 1 i o es))) e.high; done = done_harden 1 e.index _ 1 i o es e.done }

-- Effect.
pub effect_keeps : (w : World) (n : ℕ) (d : DiskCommand) → EffectFinds w (suc n) d → PagesHold w → PagesHold (ev.effects w (suc n)).world
unfolding disks.effect_of
effect_keeps w n d f h = subst PagesHold (sym (effect_is w (suc n) d f)) (go d.what refl (issued_there w.log w.commands w.disks.commands n d h.commands f.is))
  where
    at_read : (x : IssuedCommand) (at : BlockAt) → issued_of w (suc n) ≡ Some x → d.what ≡ commands.Read at → x.carries ≡ None → PagesHold (ev.with_log w.log (ev.with_disks (disks.effect_of w.disks (suc n) d (commands.Read at)) w))
    at_read x at i e none =
        let c : DiskCommand = disks.sampled (disks.block w.disks at) d in
        record {
          pages = kept_with_fewer_living w.log (mapped_in w) (block_in w) (births_in w) (Living (Timely w) w.commands w.disks.commands) _
              (λ j y a t ct l. (living_set (Timely w) w.commands w.disks.commands n c (λ u v. cc) j y a t ct l).0) h.pages;
          commands = commands_set w.log w.log w.commands w.disks.commands n d c f.is refl (λ y t z. z) (λ y a t ct z u v. absurd (apart (sym e ∙ u))) h.commands;
          extents = record { settings = h.extents.settings; ids = h.extents.ids; lies = h.extents.lies };
        }
      where
        apart : {a b : BlockAt} {t : Tag} {ct : List ℕ} → commands.Read a ≡ commands.Write b t ct → ⊥
        apart z = cc

    at_write : (x : IssuedCommand) (at : BlockAt) (tag : Tag) (bytes : List ℕ) → issued_of w (suc n) ≡ Some x → d.what ≡ commands.Write at tag bytes → (l : Living (Timely w) w.commands w.disks.commands (suc n) x at tag bytes) →
        (c : CarriedRight w.log (mapped_in w tag.file tag.page) x at tag bytes) →
        PagesHold (ev.with_log (log.harden_from 1 c.index (owner x.client x.life tag.file tag.page) w.log) (ev.with_disks (disks.effect_of w.disks (suc n) d (commands.Write at tag bytes)) w))
    at_write x at tag bytes i e l c =
        let o : LogOwner = owner x.client x.life tag.file tag.page in
        record {
          pages =
              hardened w.log (mapped_in w) (block_in w) _ (births_in w) (Living (Timely w) w.commands w.disks.commands) _ (suc n) x at tag bytes l
              (wrote_own w.disks (suc n) d at tag bytes (block_self at))
              (λ to z. wrote_other w.disks (suc n) d at tag bytes to z (λ b u. other to b u z))
              (λ j y a t ct r. living_set (Timely w) w.commands w.disks.commands n (disks.effected d) (λ u v. cc) j y a t ct r) c h.pages;
          commands =
              commands_set w.log _ w.commands w.disks.commands n d (disks.effected d) f.is refl (λ y t z. done_of_harden w.log c.index o y t z)
              (λ y a t ct z u v. own y a t ct z u) h.commands;
          extents = record { settings = h.extents.settings; ids = h.extents.ids; lies = h.extents.lies };
        }
      where
        other : (to : BlockAt) (b : Block) → disks.is_block_at to b ≡ true → same_block at to ≡ false → disks.is_block_at at b ≡ false
        other to b u z = go (disks.is_block_at at b) refl
          where
            go : (v : Bool) → disks.is_block_at at b ≡ v → v ≡ false
            go true v = absurd (not_both _ (subst (λ q. same_block q to ≡ true) (block_is b.at at v) u) z)
            go false v = refl

        own : (y : IssuedCommand) (a : BlockAt) (t : Tag) (ct : List ℕ) → numbered w.commands (suc n) ≡ Some y → d.what ≡ commands.Write a t ct → EffectDone (log.harden_from 1 c.index (owner x.client x.life tag.file tag.page) w.log) y t
        own y a t ct z u =
            let same : x ≡ y = some_is (sym i ∙ z) in
            let tags : tag ≡ t = tag_is (sym e ∙ u) in
            subst (λ q. EffectDone (log.harden_from 1 c.index (owner x.client x.life tag.file tag.page) w.log) q t) same
            (subst (λ q. EffectDone (log.harden_from 1 c.index (owner x.client x.life tag.file tag.page) w.log) x q) tags
            (record { index = c.index; carries = c.carries; high = subst (λ m. c.index ≤ m) (sym (length_same w.log _ (owners_harden 1 c.index _ w.log))) c.high; done = harden_done 1 c.index _ w.log }))
          where
            tag_is : commands.Write at tag bytes ≡ commands.Write a t ct → tag ≡ t
            tag_is q = cc

    go : (what : Command) → d.what ≡ what → (x : IssuedCommand) × (numbered w.commands (suc n) ≡ Some x) → PagesHold (ev.with_log (ev.log_hard w.log (ev.carried_by (issued_of w (suc n)))) (ev.with_disks (disks.effect_of w.disks (suc n) d d.what) w))
    go (commands.Read at) e (x, i) =
        let none : x.carries ≡ None = h.commands.reads (suc n) x d at i f.is e in
        let logs : ev.log_hard w.log (ev.carried_by (issued_of w (suc n))) ≡ w.log = ap (λ o. ev.log_hard w.log (ev.carried_by o)) i ∙ ap (ev.log_hard w.log) none in
        subst (λ es. PagesHold (ev.with_log es (ev.with_disks (disks.effect_of w.disks (suc n) d d.what) w))) (sym logs)
        (subst (λ c. PagesHold (ev.with_log w.log (ev.with_disks (disks.effect_of w.disks (suc n) d c) w))) (sym e) (at_read x at i e none))
    go (commands.Write at tag bytes) e (x, i) =
        let l : Living (Timely w) w.commands w.disks.commands (suc n) x at tag bytes = record { issued = i; command = d; is = f.is; what = e; unreported = f.unreported; fresh = f.fresh; timely = subst (λ o. adm.late_disk w o ≡ None) i f.timely } in
        let c : CarriedRight w.log (mapped_in w tag.file tag.page) x at tag bytes = h.pages.carry (suc n) x at tag bytes l in
        let logs : ev.log_hard w.log (ev.carried_by (issued_of w (suc n))) ≡ log.harden_from 1 c.index (owner x.client x.life tag.file tag.page) w.log = ap (λ o. ev.log_hard w.log (ev.carried_by o)) i ∙ ap (ev.log_hard w.log) c.carries ∙ harden_is w.log c.index _ c.of in
        subst (λ es. PagesHold (ev.with_log es (ev.with_disks (disks.effect_of w.disks (suc n) d d.what) w))) (sym logs)
        (subst (λ q. PagesHold (ev.with_log (log.harden_from 1 c.index (owner x.client x.life tag.file tag.page) w.log) (ev.with_disks (disks.effect_of w.disks (suc n) d q) w))) (sym e) (at_write x at tag bytes i e l c))

-- Report: the world in which the client is informed.
pub report_keeps : (w : World) (n : ℕ) (ok : Bool) (d : DiskCommand) → ReportFinds w (suc n) ok d → PagesHold w → PagesHold (reported_world w (suc n) ok d)
report_keeps w n ok d f h =
    let c : DiskCommand = disks.reported ok d in
    record {
      pages = kept_with_fewer_living w.log (mapped_in w) (block_in w) (births_in w) (Living (Timely w) w.commands w.disks.commands) _
          (λ j y a t ct l. (living_set (Timely w) w.commands w.disks.commands n c (λ u v. told ok u) j y a t ct l).0) h.pages;
      commands = commands_set w.log w.log w.commands w.disks.commands n d c f.is refl (λ y t z. z) (λ y a t ct z u v. h.commands.done (suc n) y d a t ct z f.is u v) h.commands;
      extents = record { settings = h.extents.settings; ids = h.extents.ids; lies = h.extents.lies };
    }
  where
    told : (ok : Bool) → disks.report_of ok ≡ reports.Open → ⊥
    told true e = cc
    told false e = cc
