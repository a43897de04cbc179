-- The last write of an owner whose entries are gone stays, in every event; and what is owed at an event for the causes of drops.
use Rattle.st_lemmas.proofs.Words
use Words.{list_any, ClientId, ServerId, NodeId, Event, Note, Output, ClientInput, ServerInput, LogEntry, LogOwner, StepRefusal, IssuedCommand, LeaseLife}
use Words.{SentMessage, eqb-true, Command, Tag, Life, ◌≡◌, ℕ, ◌+◌, ◌⊎◌, Bool, true, false, ◌&&◌, List, [], ◌∷◌, ◌++◌, ◌==◌, Option, Some, None, Ok, Err, refl}
use Words.{sym, ap, ◌∙◌, subst, inl, inr, if◌then◌else◌, Result, filter, map, length, pred, ◌%◌}
use Words.nodes
use Words.events
use Words.notes
use Words.outputs
use Words.inputs
use Words.FlatLog as log
use Words.Disks as disks
use Words.Server as server
use Words.Server.{ServerNode}
use Words.Client as cl
use Words.World as world
use Words.Events as ev
use Words.Safety.{Step}
use Words.Lists.{Has}
use Words.commands
use Words.Keys.{same_client, same_server, same_file}
use Words.World.{World, WorldClient, numbered, site_of, node_of, issued_of, clock_of, life_with, server_of_disk}
use Words.ClientState.{Association, ClientState}
use Words.Events.{WorldTurn, client_notes, client_says, client_says_all, last_write, present_lives}
use Words.Numbers.{numbered_has, numbered_own}
use Words.Tables.{and_true, has_append, has_filter}
use Rattle.st_rules.specs.declared.node.StepRefusal.TheVariants.{Crashed}
use Rattle.st_laws_pages.specs.Drops.Causes.{CrashesKnown, FailedStay, FlushOwes, AdvancesOwe, CausesOwed, CrashSiteOwes, life_owner}
use Rattle.st_laws_pages.proofs.Drops.Causes.{same_failed}
use Rattle.st_laws_pages.proofs.Lives.Lasting.{Flushed, flush_parts, present_is}
use Rattle.st_laws_pages.proofs.Lives.LifeSteps.{steps_so}
use Rattle.st_laws_pages.proofs.Lives.Turning.{says_one}
use Rattle.st_laws_pages.specs.Fates.Fates.{GoneAll, GoneHold}
use Rattle.st_laws_steps.specs.Lives.Lives.{owner_of, LivesHold}
use Rattle.st_laws_steps.specs.Client.Losses.{Fit}
use Rattle.st_laws_pages.specs.Disks.Obligations.{FatesHold}
use Rattle.st_laws_pages.proofs.Fates.GoneLaw.{Over}
use Rattle.st_laws_pages.proofs.Fates.Owing.{crash_owes, last_more, lives_owe, over_apart}
use Rattle.st_laws_pages.proofs.Asks.Places.{Knows, On}
use Rattle.st_laws_pages.proofs.Asks.Says.{client_leaves}
use Rattle.st_laws_pages.proofs.Causes.Placed.{InputTells, PlacesAt, Placed, PlacedOne, step_placed}

one_failed : (size : ℕ) (c : ClientId) (before : ClientState) (o : LogOwner) (after : ClientState) → (o.client.0 ≡ c.0 → (life_with after o.file.server).0 ≡ o.life.0 → ⊥) → (x : Output) (sc : WorldTurn) →
    ((s : ServerId) → ev.present_life sc.world c s ≡ life_with after s) → PlacedOne size x → length sc.world.servers ≡ size → last_write (client_says sc c before x).world.commands o ≡ last_write sc.world.commands o
unfolding client_says ev.sends ev.submits ev.answers_with client_notes ev.accepts ev.patches ev.loses last_write
one_failed size c before o after apart (outputs.Send m) sc e r h = refl
one_failed size c before o after apart (outputs.Answer op a) sc e r h = refl
one_failed size c before o after apart (outputs.Note n) sc e r h = note n
  where
    note : (n : Note) → ev.last_write_from 1 0 o (client_notes sc c before n).world.commands ≡ ev.last_write_from 1 0 o sc.world.commands
    note (notes.Accepted f p bytes) = refl
    note (notes.Patched f p at bytes) = refl
    note (notes.Lost s life) = refl
    note n = refl
one_failed size c before o after apart (outputs.Submit k at what) sc e r h = go (site_of sc.world c) refl
  where
    differs : (site : WorldClient) → site_of sc.world c ≡ Some site → (tag : Tag) → On size tag.file.server at → (b : Bool) →
        log.same_owner (log.owner c (life_with site.node.state (server_of_disk sc.world at)) tag.file tag.page) o ≡ b → b ≡ false
    differs site q tag s false t = refl
    differs site q tag s true t =
        let a = and_true (same_client c o.client && ((life_with site.node.state (server_of_disk sc.world at)).0 == o.life.0)) (same_file tag.file o.file && Rattle.st_rules.specs.Keys.same_page tag.page o.page) t in
        let x = and_true (same_client c o.client) ((life_with site.node.state (server_of_disk sc.world at)).0 == o.life.0) a.0 in
        let f = and_true (same_file tag.file o.file) (Rattle.st_rules.specs.Keys.same_page tag.page o.page) a.1 in
        let g = and_true (same_server tag.file.server o.file.server) (tag.file.ino == o.file.ino) f.0 in
        let server : server_of_disk sc.world at ≡ o.file.server = ap (λ m. record { 0 = pred at.disk.0 % m + 1 }) h ∙ ap (λ m. record { 0 = m }) s ∙ ap (λ m. record { 0 = m }) (eqb-true tag.file.server.0 o.file.server.0 g.0) in
        let life : (life_with after o.file.server).0 ≡ o.life.0 =
        ap (λ (l : Life). l.0) (sym (e o.file.server)) ∙ ap (λ y. (ev.life_of_site o.file.server y).0) q ∙ ap (λ v. (life_with site.node.state v).0) (sym server) ∙ eqb-true (life_with site.node.state (server_of_disk sc.world at)).0 o.life.0 x.1 in
        absurd (apart (sym (eqb-true c.0 o.client.0 x.0)) life)

    by : (site : WorldClient) → site_of sc.world c ≡ Some site → (w : Command) → PlacedOne size (outputs.Submit k at w) → ev.carries_for o (ev.issued sc.world c site k at w) (ev.carries sc.world c w) ≡ false
    by site q (commands.Read to) r = refl
    by site q (commands.Write to tag bytes) r = differs site q tag r _ refl

    go : (x : Option WorldClient) → site_of sc.world c ≡ x → ev.last_write_from 1 0 o (ev.submits sc c x k at what).world.commands ≡ ev.last_write_from 1 0 o sc.world.commands
    go None q = refl
    go (Some site) q = last_more o 1 0 sc.world.commands (ev.issued sc.world c site k at what) (by site q what r)

-- the last write of an owner whose life is over stays through what a client says
says_failed : (size : ℕ) (c : ClientId) (before : ClientState) (o : LogOwner) (after : ClientState) → (o.client.0 ≡ c.0 → (life_with after o.file.server).0 ≡ o.life.0 → ⊥) → (os : List Output) (sc : WorldTurn) →
    ((s : ServerId) → ev.present_life sc.world c s ≡ life_with after s) → Placed size os → length sc.world.servers ≡ size → last_write (client_says_all c before os sc).world.commands o ≡ last_write sc.world.commands o
unfolding client_says_all
says_failed size c before o after apart [] sc e r h = refl
says_failed size c before o after apart (x ∷ os) sc e r h =
    says_failed size c before o after apart os (client_says sc c before x) (λ s. ap (λ z. ev.life_of_site s (numbered z c.0)) (says_one c before x sc).clients ∙ e s) r.rest (ap (λ xs. length xs) (client_leaves c before (x ∷ []) sc).servers ∙ h) ∙ one_failed size c before o after apart x sc e r.one h

-- entry by entry
failed_all : (cs ds : List IssuedCommand) (P : LogOwner → Type 0) (es : List LogEntry) → ((o : LogOwner) → Has o (map owner_of es) → P o → last_write ds o ≡ last_write cs o) → GoneAll P es → FailedStay cs ds es
failed_all cs ds P [] f h = record {}
failed_all cs ds P (e ∷ es) f h = record { one = λ k q. f e.of (inl refl) (h.one (ap log.counts q)); rest = failed_all cs ds P es (λ o i. f o (inr i)) h.rest }

module _ (w : World) (size : ℕ) (l : LivesHold w) (pl : PlacesAt size w) (g : GoneHold w) where
  client_failed : (c : ClientId) (old site : WorldClient) (input : ClientInput) → site_of w c ≡ Some old → old.node ≡ site.node → site.node.running ≡ true → InputTells size input →
      FailedStay w.commands (ev.client_took w c site (Ok (cl.node_turn site.node (cl.client_step site.node.state (clock_of w (nodes.Client c)) input)))).world.commands w.log
  unfolding ev.client_took
  client_failed c old site input there same r tells =
      failed_all w.commands (ev.flushes c t.node.state (world.all_servers u) u).commands (Over w) w.log
      (λ x i z. ap (λ cs. last_write cs x) fl.commands
      ∙ says_failed size c site.node.state x t.node.state (λ q e. over_apart w c old t.node.state t.out there (ap (λ (n : cl.ClientNode). n.running) same ∙ r) (steps_so w c old site input there same l) l x (l.known.owners x i) z q e) t.out (ev.quiet v0)
      (λ s. ap (ev.life_of_site s) (numbered_own w.clients c.0 (ev.at_node t.node site) old there)) (step_placed size c site.node.state (clock_of w (nodes.Client c)) input tells fit knows) pl.count) g
    where
      t : cl.NodeTurn
      t = cl.node_turn site.node (cl.client_step site.node.state (clock_of w (nodes.Client c)) input)

      v0 : World
      v0 = ev.with_site c (ev.at_node t.node site) w

      u : World
      u = (client_says_all c site.node.state t.out (ev.quiet v0)).world

      fl : Flushed u (ev.flushes c t.node.state (world.all_servers u) u)
      fl = flush_parts c t.node.state (world.all_servers u) u

      fit : (b : Association) → Has b site.node.state.associations → Fit b
      fit = subst (λ (m : cl.ClientNode). (b : Association) → Has b m.state.associations → Fit b) same (l.lives.sites c old there).fit

      knows : (b : Association) → Has b site.node.state.associations → Knows size b.server b.store.extents
      knows = subst (λ (m : cl.ClientNode). (b : Association) → Has b m.state.associations → Knows size b.server b.store.extents) same (pl.known c old there)

  takes_failed : (c : ClientId) (input : ClientInput) (old site : WorldClient) → site_of w c ≡ Some old → old.node ≡ site.node → InputTells size input → FailedStay w.commands (ev.client_takes w c input site).world.commands w.log
  unfolding cl.node_step ev.client_takes ev.client_took
  takes_failed c input old site there same tells = go site.node.running refl
    where
      t : cl.NodeTurn
      t = cl.node_turn site.node (cl.client_step site.node.state (clock_of w (nodes.Client c)) input)

      go : (b : Bool) → site.node.running ≡ b → FailedStay w.commands (ev.client_took w c site (if b then Ok t else Err Crashed)).world.commands w.log
      go true r = client_failed c old site input there same r tells
      go false r = same_failed w.commands w.log

  at_client_failed : (c : ClientId) (input : ClientInput) (s : Option WorldClient) → site_of w c ≡ s → InputTells size input → FailedStay w.commands (ev.at_client w c input s).world.commands w.log
  unfolding ev.at_client
  at_client_failed c input None e tells = same_failed w.commands w.log
  at_client_failed c input (Some site) e tells = takes_failed c input site site e refl tells

-- a server submits nothing
server_commands : (s : ServerId) (os : List Output) (sc : WorldTurn) → (ev.server_says_all s os sc).world.commands ≡ sc.world.commands
unfolding ev.server_says_all ev.server_says ev.server_notes ev.cuts ev.sends log.cut
server_commands s [] sc = refl
server_commands s (o ∷ os) sc = server_commands s os (ev.server_says sc s o) ∙ one o
  where
    note : (n : Note) → (ev.server_notes sc s n).world.commands ≡ sc.world.commands
    note (notes.CutDone f p) = refl
    note (notes.Stolen c life) = refl
    note n = refl

    one : (o : Output) → (ev.server_says sc s o).world.commands ≡ sc.world.commands
    one (outputs.Send m) = refl
    one (outputs.Note n) = note n
    one o = refl

at_server_failed : (w : World) (s : ServerId) (input : ServerInput) (o : Option ServerNode) → FailedStay w.commands (ev.at_server w s input o).world.commands w.log
unfolding ev.at_server ev.server_takes ev.server_took
at_server_failed w s input None = same_failed w.commands w.log
at_server_failed w s input (Some node) = go (server.node_step node (clock_of w (nodes.Server s)) input)
  where
    go : (r : Result server.NodeTurn StepRefusal) → FailedStay w.commands (ev.server_took w s r).world.commands w.log
    go (Err e) = same_failed w.commands w.log
    go (Ok t) = subst (λ cs. FailedStay w.commands cs w.log) (sym (server_commands s t.out (ev.quiet (ev.with_node s t.node w)))) (same_failed w.commands w.log)

-- the report of a command
report_failed : (w : World) (size : ℕ) (k : ℕ) (ok : Bool) → LivesHold w → PlacesAt size w → GoneHold w → FailedStay w.commands (ev.reports_of w k ok).world.commands w.log
unfolding ev.reports_of ev.tells ev.tells_client ev.tells_site
report_failed w size k ok l pl g = go (issued_of w k)
  where
    v : World
    v = ev.with_disks (ev.disks_after w.disks (disks.done w.disks k ok)) w

    lives : LivesHold v
    lives = record { lives = l.lives; known = l.known }

    places : PlacesAt size v
    places = record { count = pl.count; told = pl.told; known = pl.known }

    gone : GoneHold v
    gone = Rattle.st_laws_pages.proofs.Fates.GoneLaw.gone_known (Over w) (Over v) w.log (λ o i z. Rattle.st_laws_pages.proofs.Fates.GoneLaw.kept w o v (λ x. record { row = x.row; is = x.is; crashed = x.crashed }) (λ x. record { end = x.end; is = x.is; late = x.late }) z) g

    same : (x : IssuedCommand) (site : WorldClient) → site_of v x.client ≡ Some site → (b : Bool) → FailedStay w.commands (if b then ev.client_takes v x.client (ev.end_told v k ok x) site else ev.quiet v).world.commands w.log
    same x site e true = takes_failed v size lives places gone x.client (ev.end_told v k ok x) site site e refl tt
    same x site e false = same_failed w.commands w.log

    told : (x : IssuedCommand) (s : Option WorldClient) → site_of v x.client ≡ s → FailedStay w.commands (ev.tells_client v k ok x s).world.commands w.log
    told x None e = same_failed w.commands w.log
    told x (Some site) e = same x site e (ev.is_same_instance x site)

    go : (x : Option IssuedCommand) → FailedStay w.commands (ev.tells v k ok x).world.commands w.log
    go None = same_failed w.commands w.log
    go (Some x) = told x (site_of v x.client) refl

-- What is owed at an advance: a life that a crash ended has that crash among the steps.
crashed_known : (past : List Step) (w : World) → LivesHold w → CrashesKnown past w.ended → (l : LeaseLife) → Has l (present_lives w.clients ++ w.ended) → l.crashed ≡ true → list_any (Rattle.st_rules.specs.Safety.ends_life_of (life_owner l)) past ≡ true
crashed_known past w h k l i c = go (has_append (present_lives w.clients) w.ended l i)
  where
    no : ◌≡◌ {A = Bool} false true → ⊥
    no z = cc

    ended : (es : List LeaseLife) → CrashesKnown past es → Has l es → list_any (Rattle.st_rules.specs.Safety.ends_life_of (life_owner l)) past ≡ true
    ended [] k i = absurd i
    ended (e ∷ es) k (inl q) = subst (λ x. list_any (Rattle.st_rules.specs.Safety.ends_life_of (life_owner x)) past ≡ true) (sym q) (k.one (ap (λ (x : LeaseLife). x.crashed) (sym q) ∙ c))
    ended (e ∷ es) k (inr i) = ended es k.rest i

    go : Has l (present_lives w.clients) ⊎ Has l w.ended → list_any (Rattle.st_rules.specs.Safety.ends_life_of (life_owner l)) past ≡ true
    go (inl i) = let p = present_is w h l i in absurd (no (ap (λ (x : LeaseLife). x.crashed) (sym p.is) ∙ c))
    go (inr i) = ended w.ended k i

advances_owe : (past : List Step) (w : World) (ls : List LeaseLife) → ((l : LeaseLife) → Has l ls → l.crashed ≡ true → list_any (Rattle.st_rules.specs.Safety.ends_life_of (life_owner l)) past ≡ true) → FlushOwes past w ls → AdvancesOwe past w ls
advances_owe past w [] f o = record {}
advances_owe past w (l ∷ ls) f o = record { one = o.one; known = f l (inl refl); rest = advances_owe past w ls (λ x i. f x (inr i)) o.rest }

-- What is owed at an event for the causes of drops follows from lives and fates, from places, and from the flush at an advance.
pub causes_owed : (past : List Step) (w : World) (size : ℕ) (e : Event) → ((steps : List ℕ) → e ≡ events.Advance steps → FlushOwes past w (ev.lives_reached w steps)) → FatesHold w → PlacesAt size w → CrashesKnown past w.ended →
    CausesOwed past w e (ev.happens w e).world
unfolding ev.happens ev.ticks ev.asks_at ev.delivers ev.delivers_to ev.loses_message ev.marks ev.effects ev.crashes ev.crashes_server ev.starts ev.starts_client ev.starts_server ev.lives_reached
causes_owed past w size (events.Tick (nodes.Client c)) d f pl k = at_client_failed w size f.lives pl f.gone c inputs.Tick (site_of w c) refl tt
causes_owed past w size (events.Tick (nodes.Server s)) d f pl k = at_server_failed w s _ (node_of w s)
causes_owed past w size (events.App c ask) d f pl k = go (site_of w c) refl
  where
    go : (s : Option WorldClient) → site_of w c ≡ s → FailedStay w.commands (ev.asks_at w c ask s).world.commands w.log
    go None e = same_failed w.commands w.log
    go (Some site) e = takes_failed w size f.lives pl f.gone c (inputs.App (site.asks + 1) ask) site (ev.asked_once_more site) e refl tt
causes_owed past w size (events.Deliver n) d f pl k = go (world.message_of w n) refl
  where
    to : (m : SentMessage) → Has m w.net.messages → (x : NodeId) → FailedStay w.commands (ev.delivers_to w m.message x).world.commands w.log
    to m i (nodes.Client c) = at_client_failed w size f.lives pl f.gone c (inputs.Control m.message) (site_of w c) refl (pl.told m i)
    to m i (nodes.Server s) = at_server_failed w s _ (node_of w s)

    go : (m : Option SentMessage) → world.message_of w n ≡ m → FailedStay w.commands (ev.delivers w m).world.commands w.log
    go None e = same_failed w.commands w.log
    go (Some m) e = to m (numbered_has w.net.messages n m e) (world.receiver_of m)
causes_owed past w size (events.Lose n) d f pl k = go (world.message_of w n)
  where
    go : (m : Option SentMessage) → FailedStay w.commands (ev.loses_message w n m).commands w.log
    go None = same_failed w.commands w.log
    go (Some m) = same_failed w.commands w.log
causes_owed past w size (events.Cut from to) d f pl k = same_failed w.commands w.log
causes_owed past w size (events.Heal from to) d f pl k = same_failed w.commands w.log
causes_owed past w size (events.Advance steps) d f pl k =
    advances_owe past w (filter (ev.is_reached w steps) (present_lives w.clients ++ w.ended)) (λ l i c. crashed_known past w f.lives k l (has_filter (ev.is_reached w steps) (present_lives w.clients ++ w.ended) l i).0 c) (d steps refl)
causes_owed past w size (events.Effect n) d f pl k = same_failed w.commands w.log
causes_owed past w size (events.Report n ok) d f pl k = report_failed w size n ok f.lives pl f.gone
causes_owed past w size (events.Crash (nodes.Client c)) d f pl k = go (site_of w c) refl
  where
    go : (s : Option WorldClient) → site_of w c ≡ s → CrashSiteOwes w c s
    go None e = record {}
    go (Some site) e = record { pending = crash_owes w c f; lives = lives_owe w c site e f }
causes_owed past w size (events.Crash (nodes.Server s)) d f pl k = go (node_of w s)
  where
    go : (n : Option ServerNode) → FailedStay w.commands (ev.crashes_server w s n).commands w.log
    go None = same_failed w.commands w.log
    go (Some node) = same_failed w.commands w.log
causes_owed past w size (events.Start (nodes.Client c)) d f pl k = go (site_of w c)
  where
    go : (s : Option WorldClient) → FailedStay w.commands (ev.starts_client w c s).commands w.log
    go None = same_failed w.commands w.log
    go (Some site) = same_failed w.commands w.log
causes_owed past w size (events.Start (nodes.Server s)) d f pl k = go (node_of w s)
  where
    go : (n : Option ServerNode) → FailedStay w.commands (ev.starts_server w s n).commands w.log
    go None = same_failed w.commands w.log
    go (Some node) = same_failed w.commands w.log
