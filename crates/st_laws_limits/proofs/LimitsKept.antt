-- In every run of the third form limits are kept.
use Rattle.st_lemmas.proofs.Words
use Words.{◌≡◌, ℕ, true, List, [], ◌∷◌, ◌++◌, length, map, Option, Some, None, refl, sym, ap, ◌∙◌, subst, arith, le-leb, list_all}
use Words.{ClientId, Config, Message, ServerId, Session}
use Words.ClientState.{Association}
use Words.Lists.{Has}
use Words.Locks as locks
use Words.Numbers.{numbered_has}
use Words.Server as server
use Words.Server.{ServerNode}
use Words.Tables.{all_pass, and_both, each_passes, has_map}
use Words.Sessions.{session_of}
use Words.Truth.{none_not_some}
use Words.World.{WorldClient, all_clients, all_servers, fresh_world, node_at_start, node_of, numbered, site_of}
use Rattle.st_rules.specs.Extents.{numbers}
use Rattle.st_third.specs.declared.event.ThirdEvent.{ThirdEvent}
use Rattle.st_third.specs.declared.limits.Limits.{Limits}
use Rattle.st_third.specs.Events as every
use Rattle.st_third.specs.Events.{third_counted}
use Rattle.st_third.specs.Limits.{limited_node, most_clients, with_limits}
use Rattle.st_third.specs.Promises.{LimitsAreKept, ThirdPromise, Throughout, are_few_at, are_few_files, associations_at, keeps_limits}
use Rattle.st_third.specs.Steps as steps
use Rattle.st_third.specs.Steps.{ThirdStep, ThirdTraced}
use Rattle.st_third.specs.World.{ThirdWorld, third_world}
use Rattle.st_laws_third.specs.FewLocks.{LocksAreFew, has_few_locks, has_few_locks_at}
use Rattle.st_laws_third.specs.FewPages.{CleanPagesAreFew, DirtyPagesAreFew, has_few_clean, has_few_clean_at, has_few_dirty, has_few_dirty_at}
use Rattle.st_laws_third.proofs.AllClients.{good_after, good_first}
use Rattle.st_laws_third.proofs.DemandsSeen.{People, people_first, within_most}
use Rattle.st_laws_third.proofs.FewLocks.{every_client_has_few_locks}
use Rattle.st_laws_third.proofs.FewPages.{every_client_has_few_clean_pages, every_client_has_few_dirty_pages}
use Rattle.st_laws_third.proofs.FewRows.{AllRows, Rows, WordRows, rows_begun, rows_law}
use Rattle.st_laws_third.proofs.Moves.{Changes, Moved, Rests, elsewhere, moves}
use Rattle.st_laws_third.proofs.Sound.{Sound, sound_first}
use Rattle.st_laws_leaving.specs.Quiet.{IsSent, Standing}
use Rattle.st_laws_leaving.proofs.Betweens.{standing_as}
use Rattle.st_laws_leaving.proofs.StandingRuns.{standing_first, stands_throughout}
use Rattle.st_laws_limits.specs.Kept.{EveryRunKeepsLimits, EveryServerHasFewFiles, FilesAreFew, has_few_everywhere}
use Rattle.st_laws_limits.specs.Pending.{PendingAreFew, has_few_pending}
use Rattle.st_laws_limits.proofs.ClientMail.{MailFits, mail_after}
use Rattle.st_laws_limits.proofs.Files.{ByRow, ByWait, FilesFew, HasFile, fewer_than}
use Rattle.st_laws_limits.proofs.FilesRuns.{AllFiles, files_after}
use Rattle.st_laws_limits.proofs.InOrder.{all_as, stays_in_order}
use Rattle.st_laws_limits.proofs.PendingRuns.{every_client_has_few_pending}
use Rattle.st_laws_limits.proofs.Welcomed.{AllInOrder}

-- What holds after each event, besides what else does.
record Fits (w : ThirdWorld) : Type 0 where
  rows : AllRows w
  mail : MailFits w
  order : AllInOrder w.world
  files : AllFiles w.limits.locks w.world

moved_limits : (w v : ThirdWorld) → Moved w v → v.limits ≡ w.limits
moved_limits w v (Rests p k q) = k.limits
moved_limits w v (Changes c old new d there k own others x y b) = k.limits

-- one more event was counted
module _ (t : ThirdWorld) (e : ThirdEvent) (so : Sound t) (pe : People t) (st : Standing t.world) (f : Fits t) where
  abbrev W : ThirdWorld
  W = third_counted t

  abbrev V : ThirdWorld
  V = (every.happens W e).third

  sound_w : Sound W
  sound_w = record { fits = record { sites = so.fits.sites; there = so.fits.there; pairs = so.fits.pairs }; form = so.form }

  people_w : People W
  people_w = record { asks = pe.asks; ids = pe.ids; servers = pe.servers; few = pe.few }

  standing_w : Standing W.world
  standing_w = standing_as t.world W.world refl refl (λ m h. h) st

  mail_w : MailFits W
  mail_w =
      record {
        home =
            λ c s m h i l. let g = f.mail.home c s m h i l in
            record { site = g.site; there = g.there; association = g.association; has = g.has; is = g.is };
        rows = f.mail.rows;
      }

  order_w : AllInOrder W.world
  order_w = all_as t.world W.world refl refl refl (λ m h. h) f.order

  moved_w : Moved W V
  moved_w = moves W e so.form

  moved_t : Moved t V
  moved_t = elsewhere t W V refl refl moved_w

  fits_after : Fits V
  fits_after =
      record {
        rows = good_after Rows WordRows rows_law rows_begun t V so f.rows moved_t;
        mail = mail_after W e sound_w people_w standing_w f.rows moved_w mail_w (moved_limits W V moved_w);
        order = stays_in_order W e sound_w people_w standing_w order_w;
        files =
            subst (λ (m : Limits). AllFiles m.locks V.world) (sym (moved_limits W V moved_w))
            (files_after W e sound_w people_w standing_w mail_w order_w f.files);
      }

-- a client at a server
one_few : (w : ThirdWorld) → AllFiles w.limits.locks w.world → (c : ClientId) (s : ServerId) → are_few_files w c (node_of w.world s) ≡ true
one_few w f c s = go (node_of w.world s) refl
  where
    go : (o : Option ServerNode) → node_of w.world s ≡ o → are_few_files w c o ≡ true
    go None e = refl
    go (Some node) e = le-leb (length (locks.files_of node.state.locks c)) w.limits.locks ((f s.0 node e).few c)

-- At the start.

module _ (k : Config) (m : Limits) (clients servers disks blocks : ℕ) where
  abbrev S : ThirdWorld
  S = third_world k m clients servers disks blocks 3

  none_sent : (x : Message) → IsSent S.world x → ⊥
  unfolding third_world fresh_world with_limits
  none_sent x h = h.1.0

  first_files : AllFiles m.locks S.world
  unfolding third_world fresh_world with_limits server.fresh_server
  first_files n node e =
      let z = has_map (limited_node m) (map (node_at_start k servers disks blocks) (numbers 1 servers)) node (numbered_has S.world.servers n node e) in
      let y = has_map (node_at_start k servers disks blocks) (numbers 1 servers) z.0 z.1 in
      subst (λ (x : ServerNode). FilesFew m.locks x.state.locks) (sym (z.2 ∙ ap (limited_node m) y.2)) (fresh y.0)
    where
      none : (i : ℕ) (c : ClientId) (j : ℕ) → HasFile (limited_node m (node_at_start k servers disks blocks i)).state.locks c j → Has j []
      none i c j (ByRow r h a b) = h
      none i c j (ByWait x h a b) = h

      fresh : (i : ℕ) → FilesFew m.locks (limited_node m (node_at_start k servers disks blocks i)).state.locks
      fresh i =
          record {
            limit = refl;
            few = λ c. let a = fewer_than (limited_node m (node_at_start k servers disks blocks i)).state.locks c [] (none i c) in omega (arith, a);
          }

  no_session : (n : ℕ) (site : WorldClient) (a : Association) (node : ServerNode) → numbered S.world.clients n ≡ Some site →
      Has a site.node.state.associations → numbered S.world.servers a.server.0 ≡ Some node → (z : Session) →
      session_of node.state.sessions (record { 0 = n }) ≡ Some z → ⊥
  unfolding third_world fresh_world with_limits server.fresh_server
  no_session n site a node e h i z q =
      let x = has_map (limited_node m) (map (node_at_start k servers disks blocks) (numbers 1 servers)) node (numbered_has S.world.servers a.server.0 node i) in
      let y = has_map (node_at_start k servers disks blocks) (numbers 1 servers) x.0 x.1 in
      none_not_some z
      (sym (ap (λ (u : ServerNode). session_of u.state.sessions (record { 0 = n })) (x.2 ∙ ap (limited_node m) y.2)) ∙ q)

  fits_first : Fits S
  unfolding third_world with_limits
  fits_first =
      record {
        rows = good_first Rows WordRows rows_law rows_begun k m clients servers disks blocks;
        mail = record { home = λ c s x h. absurd (none_sent x h); rows = λ x h. absurd (none_sent x h) };
        order =
            λ n site a node e h i.
            record {
              later = λ x p j. absurd (none_sent x j.sent);
              welcomed = λ p j. absurd (none_sent p j.sent);
              asked = λ x y j. absurd (none_sent x j.sent);
              begun = λ u q x j. absurd (none_sent x j.sent);
              served = λ z q x j. absurd (none_sent x j.sent);
              serves = λ z q. absurd (no_session n site a node e h i z q);
              known = λ on z q p j. absurd (none_sent p j.sent);
            };
        files = first_files;
      }

abbrev Also : List ThirdStep → ThirdTraced → Type 0
Also past t = Fits t.third

pub every_server_has_few_files : EveryServerHasFewFiles
unfolding most_clients
every_server_has_few_files k m clients servers disks blocks es head =
    stands_throughout Also FilesAreFew
    (λ past t e s q. let v : ThirdWorld = (every.happens (third_counted t.third) e).third in
    let f : Fits v = fits_after t.third e s.sound s.people s.standing s.also in (
      all_pass (has_few_everywhere v) (all_clients v.world)
          (λ c h. all_pass (λ r. are_few_files v c (node_of v.world r)) (all_servers v.world) (λ r i. one_few v f.files c r)),
      f,
    ))
    es [] (steps.third_traced (third_world k m clients servers disks blocks 3))
    (record {
      sound = sound_first k m clients servers disks blocks;
      people = people_first k m clients servers disks blocks (within_most 1 64 clients head.some_clients);
      standing = standing_first k m clients servers disks blocks;
      also = fits_first k m clients servers disks blocks;
    })

-- All limits.

both : (P Q R : ThirdPromise) → ((past : List ThirdStep) (x : ThirdStep) → P past x → Q past x → R past x) → (past xs : List ThirdStep) →
    Throughout P past xs → Throughout Q past xs → Throughout R past xs
unfolding Throughout
both P Q R f past [] p q = tt
both P Q R f past (x ∷ xs) p q = (f past x p.0 q.0, both P Q R f (past ++ x ∷ []) xs p.1 q.1)

-- of the pages and locks of each client
abbrev AreFew : ThirdPromise
AreFew past x =
    (c : ClientId) → Has c (all_clients x.after.third.world) →
    list_all (are_few_at x.after.third.limits) (associations_at (site_of x.after.third.world c)) ≡ true

few_at : (past : List ThirdStep) (x : ThirdStep) → LocksAreFew past x → (DirtyPagesAreFew past x) × (CleanPagesAreFew past x) → AreFew past x
few_at past x l p c h =
    let w : ThirdWorld = x.after.third in
    let as_ : List Association = associations_at (site_of w.world c) in
    all_pass (are_few_at w.limits) as_
    (λ a i. and_both _ _ (each_passes (has_few_locks_at w.limits) as_ (each_passes (has_few_locks w) (all_clients w.world) l c h) a i)
    (and_both _ _ (each_passes (has_few_dirty_at w.limits) as_ (each_passes (has_few_dirty w) (all_clients w.world) p.0 c h) a i)
    (each_passes (has_few_clean_at w.limits) as_ (each_passes (has_few_clean w) (all_clients w.world) p.1 c h) a i)))

kept_at : (past : List ThirdStep) (x : ThirdStep) → AreFew past x → (PendingAreFew past x) × (FilesAreFew past x) → LimitsAreKept past x
kept_at past x f p =
    let w : ThirdWorld = x.after.third in
    all_pass (keeps_limits w) (all_clients w.world)
    (λ c h. and_both _ _ (and_both _ _ (each_passes (has_few_pending w) (all_clients w.world) p.0 c h) (f c h))
    (each_passes (has_few_everywhere w) (all_clients w.world) p.1 c h))

pub every_run_keeps_limits : EveryRunKeepsLimits
every_run_keeps_limits k m clients servers disks blocks es head =
    let xs : List ThirdStep = steps.steps es (steps.third_traced (third_world k m clients servers disks blocks 3)) in
    both AreFew (λ past x. (PendingAreFew past x) × (FilesAreFew past x)) LimitsAreKept kept_at [] xs
    (both LocksAreFew (λ past x. (DirtyPagesAreFew past x) × (CleanPagesAreFew past x)) AreFew few_at [] xs
    (every_client_has_few_locks k m clients servers disks blocks es)
    (both DirtyPagesAreFew CleanPagesAreFew (λ past x. (DirtyPagesAreFew past x) × (CleanPagesAreFew past x)) (λ past x p q. (p, q)) [] xs
    (every_client_has_few_dirty_pages k m clients servers disks blocks es) (every_client_has_few_clean_pages k m clients servers disks blocks es)))
    (both PendingAreFew FilesAreFew (λ past x. (PendingAreFew past x) × (FilesAreFew past x)) (λ past x p q. (p, q)) [] xs
    (every_client_has_few_pending k m clients servers disks blocks es head) (every_server_has_few_files k m clients servers disks blocks es head))
