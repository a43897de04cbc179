-- Every event keeps what holds of lives and fates, with no premise.
use Rattle.st_lemmas.proofs.Words
use Words.{◌≡◌, true, false, List, [], ◌∷◌, ◌++◌, Option, Some, None, Ok, refl, sym, ap, ◌∙◌, subst, inr, map, ClientId, FileId, PageNo, Event, ClientInput}
use Words.{LogEntry, LogOwner, Carried}
use Words.causes
use Words.FlatLog as log
use Words.Disks.{Disks}
use Words.Client as cl
use Words.Server.{ServerNode}
use Words.World.{World, WorldClient, Net, Tally, site_of}
use Words.Admissible as adm
use Words.Events as ev
use Rattle.st_laws_pages.specs.Fates.Fates.{PendingAll, BeforeEnd, RowOf}
use Rattle.st_laws_steps.specs.Lives.Lives.{AllKnown, owner_of}
use Rattle.st_laws_pages.specs.Disks.Obligations.{FatesHold}
use Rattle.st_laws_pages.proofs.Lives.Each.{Besides, SteppedNode, Cases, each_event}
use Rattle.st_laws_pages.proofs.Fates.Fates.{pending_map, advance_fates}
use Rattle.st_laws_pages.proofs.Fates.FateSteps.{pending_more}
use Rattle.st_laws_pages.proofs.Fates.FateLaw.{client_fates, pending_hard, pending_fewer, crash_before, start_before, pending_known, row_of}
use Rattle.st_laws_pages.proofs.Fates.GoneLaw.{Over, gone_known, gone_more, kept, client_gone, gone_hard, advance_gone, crash_gone, start_over}
use Rattle.st_laws_pages.proofs.Lives.LifeSteps.{steps_so, same_owners, owners_hard, advance_lives, crash_lives, start_lives}
use Rattle.st_laws_pages.proofs.Lives.Turning.{client_lives, known_owner, owners_more}

-- A life is over in a world of the same clocks, clients and ended lives, by computation.
besides_before : (w : World) (n : Net) (s : List ServerNode) (d : Disks) (t : Tally) (o : LogOwner) → BeforeEnd w o → BeforeEnd (Besides w n s d t) o
besides_before w n s d t o b = record { end = b.end; is = b.is; before = b.before }

besides_over : (w : World) (n : Net) (s : List ServerNode) (d : Disks) (t : Tally) (o : LogOwner) → Over w o → Over (Besides w n s d t) o
besides_over w n s d t o z = kept w o (Besides w n s d t) (λ x. record { row = x.row; is = x.is; crashed = x.crashed }) (λ x. record { end = x.end; is = x.is; late = x.late }) z

logged_before : (w : World) (es : List LogEntry) (o : LogOwner) → BeforeEnd w o → BeforeEnd (ev.with_log es w) o
logged_before w es o b = record { end = b.end; is = b.is; before = b.before }

logged_over : (w : World) (es : List LogEntry) (o : LogOwner) → Over w o → Over (ev.with_log es w) o
logged_over w es o z = kept w o (ev.with_log es w) (λ x. record { row = x.row; is = x.is; crashed = x.crashed }) (λ x. record { end = x.end; is = x.is; late = x.late }) z

besides_fates : (w : World) (n : Net) (s : List ServerNode) (d : Disks) (t : Tally) → FatesHold w → FatesHold (Besides w n s d t)
besides_fates w n s d t h =
    record {
      lives = record { lives = h.lives.lives; known = h.lives.known };
      pending = pending_map (BeforeEnd w) (BeforeEnd (Besides w n s d t)) w.log (besides_before w n s d t) h.pending;
      gone = gone_known (Over w) (Over (Besides w n s d t)) w.log (λ o i z. besides_over w n s d t o z) h.gone;
    }

cut_fates : (w : World) (f : FileId) (p : PageNo) → FatesHold w → FatesHold (ev.with_log (w.log ++ log.hard_cut f p ∷ []) w)
cut_fates w f p h =
    record {
      lives =
          record {
            lives = h.lives.lives;
            known = subst (AllKnown w.clients w.ended w.commands) (sym (owners_more w.log (log.hard_cut f p))) (known_owner w.clients w.ended w.commands (map owner_of w.log) (log.nobody f p) (inr refl) h.lives.known);
          };
      pending = pending_more (BeforeEnd _) w.log (log.hard_cut f p) (λ q. cc q) (pending_map (BeforeEnd w) (BeforeEnd _) w.log (logged_before w (w.log ++ log.hard_cut f p ∷ [])) h.pending);
      gone = gone_more (Over _) w.log (log.hard_cut f p) refl (gone_known (Over w) (Over _) w.log (λ o i z. logged_over w (w.log ++ log.hard_cut f p ∷ []) o z) h.gone);
    }

hard_fates : (w : World) (x : Option Carried) → FatesHold w → FatesHold (ev.with_log (ev.log_hard w.log x) w)
hard_fates w x h =
    record {
      lives = record { lives = h.lives.lives; known = same_owners w (ev.log_hard w.log x) (owners_hard w.log x) h.lives.known };
      pending = pending_hard (BeforeEnd _) w.log x (pending_map (BeforeEnd w) (BeforeEnd _) w.log (logged_before w (ev.log_hard w.log x)) h.pending);
      gone = gone_hard (Over _) w.log x (gone_known (Over w) (Over _) w.log (λ o i z. logged_over w (ev.log_hard w.log x) o z) h.gone);
    }

client_all : (w : World) (c : ClientId) (input : ClientInput) (old site : WorldClient) → site_of w c ≡ Some old → old.node ≡ site.node → site.node.running ≡ true → FatesHold w → FatesHold (ev.client_took w c site (Ok (SteppedNode w c site input))).world
client_all w c input old site there same r h =
    record {
      lives = client_lives w c old site (SteppedNode w c site input) there same (ap (λ (n : cl.ClientNode). n.running) same ∙ r) r (steps_so w c old site input there same h.lives) h.lives;
      pending = client_fates w c old site input there same r h.lives h.pending;
      gone = client_gone w c old site (SteppedNode w c site input) there same (steps_so w c old site input there same h.lives) h.lives h.gone;
    }

crash_pending : (w : World) (c : ClientId) (site : WorldClient) → site_of w c ≡ Some site → FatesHold w → PendingAll (BeforeEnd (ev.crashes_client w c (Some site)).world) (ev.crashes_client w c (Some site)).world.log
unfolding ev.crashes_client ev.marks ev.log_crashed log.drop_picked
crash_pending w c site there h =
    pending_map (BeforeEnd v) (BeforeEnd _) _ (λ o b. record { end = b.end; is = b.is; before = b.before })
    (pending_fewer (BeforeEnd v) 1 (ev.is_of_crashed w c) (log.always causes.Crash) w.log
    (pending_known (BeforeEnd w) (BeforeEnd v) w.log (λ o i b. crash_before w c site there h.lives o (h.lives.known.owners o i) b) h.pending))
  where
    v : World
    v = ev.with_site c (ev.stopped_site site) (ev.with_crashed_lives site w)

start_all : (w : World) (c : ClientId) (site : WorldClient) → site_of w c ≡ Some site → site.node.running ≡ false → FatesHold w → FatesHold (ev.starts_client w c (Some site))
unfolding ev.starts_client
start_all w c site there r h =
    record {
      lives = start_lives w c site there r h.lives;
      pending = pending_map (BeforeEnd w) (BeforeEnd _) w.log (start_before w c site there r h.lives) h.pending;
      gone = gone_known (Over w) (Over (ev.with_site c (ev.started_site site) w)) w.log (λ o i z. start_over w c site there r h.lives o z) h.gone;
    }

cases : Cases (λ c. Unit {0}) FatesHold
cases =
    record {
      besides = λ w n s d t g h. besides_fates w n s d t h;
      cut = cut_fates;
      hard = hard_fates;
      client = client_all;
      advance = λ w steps h. record { lives = advance_lives w steps h.lives; pending = advance_fates w steps (pending_known (BeforeEnd w) (RowOf w) w.log (row_of w h.lives) h.pending) h.pending; gone = advance_gone w steps h.lives h.gone };
      crash = λ w c site x there r h. record { lives = crash_lives w c site there r h.lives; pending = crash_pending w c site there h; gone = crash_gone w c site there h.lives h.pending h.gone };
      start = start_all;
    }

pub happens_all : (w : World) (e : Event) → adm.refusal w e ≡ None → FatesHold w → FatesHold (ev.happens w e).world
happens_all w e r h = each_event (λ c. Unit {0}) FatesHold cases w e (λ c q. tt) r h
