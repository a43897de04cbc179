-- In every run each open ask that had come before a server refused a request has noticed why: what the reply tells was there to notice as the step began.
use Rattle.std.proofs.Common.{◌≡◌, [], ◌∷◌, ◌++◌, sym, ap, ◌∙◌}
use Rattle.st_base.specs.declared.ids.ServerId.{ServerId}
use Rattle.st_rules.specs.History.{traced}
use Rattle.st_rules.specs.Names as names
use Rattle.st_rules.specs.Safety.{Step, steps}
use Rattle.st_rules.specs.Server.{ServerNode, Stable}
use Rattle.st_rules.specs.World.{World, fresh_world}
use Rattle.st_lemmas.specs.Lists.{Has}
use Rattle.st_laws_names.specs.Keys.{behind_thefts, now_at}
use Rattle.st_laws_volume.specs.Logs.{InEveryRun}
use Rattle.st_laws_volume.specs.Refusals.{HaveNoticedAt, HaveNoticedReply, NoticesStay, RepliesStayNoticed}
use Rattle.st_laws_volume.proofs.FileReplies.{lacks, removes_not}
use Rattle.st_laws_volume.proofs.NoticesStay.{notices_stay}
use Rattle.st_laws_volume.proofs.Options.{on_more}
use Rattle.st_laws_volume.proofs.ReadPages.{throughout_more}
use Rattle.st_laws_volume.proofs.TreeTurns.{thefts_stable}
use Rattle.st_volume.specs.Volume.{Volume}

-- thefts leave the names
same_names : (w : World) (s : ServerId) (node : ServerNode) → (behind_thefts w s node.state).state.stable.names ≡ node.state.stable.names
same_names w s node = ap (λ (y : Stable). y.names) (thefts_stable node.state (now_at w s))

reply_noticed : (y : Step) (v : Volume) → HaveNoticedAt y v → HaveNoticedReply y v
reply_noticed y v h =
    record {
      missed = λ c s life epoch number ino n z above a i l q.
          let r = z.serves in
          h.missed s r.old ino r.was
          (sym (ap (λ x. names.is_file x ino) (same_names y.before.world s r.old))
          ∙ (lacks (behind_thefts y.before.world s r.old.state) (now_at y.before.world s) z.sent.message.header z.sent.message.body ino n r.replied).none)
          above a i l q;
      other = λ c s life epoch number dir name g ino n z is a i l q.
          let r = z.serves in
          let e = same_names y.before.world s r.old in
          let f =
          removes_not (behind_thefts y.before.world s r.old.state) (now_at y.before.world s) z.sent.message.header z.sent.message.body dir name g ino n is
          r.replied in
          h.other s r.old dir name ino r.was (sym (ap (λ x. names.lookup x dir name) e) ∙ f.found) (sym (ap (λ x. names.is_file x ino) e) ∙ f.file) a i l q;
    }

pub replies_stay_noticed : InEveryRun RepliesStayNoticed
replies_stay_noticed k clients servers disks blocks form es head events =
    throughout_more NoticesStay RepliesStayNoticed
    (λ past x h. on_more (λ v. (y : Step) → Has y (past ++ x ∷ []) → HaveNoticedAt y v) (λ v. (y : Step) → Has y (past ++ x ∷ []) → HaveNoticedReply y v)
    (λ v k y i. reply_noticed y v (k y i)) _ h) [] (steps es (traced (fresh_world k clients servers disks blocks form)))
    (notices_stay k clients servers disks blocks form es head events)
