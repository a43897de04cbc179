-- In every run no page is dirty twice at a client's association.
use Rattle.st_lemmas.proofs.Words
use Words.{◌≡◌, ◌≢◌, ◌+◌, ◌⊎◌, ℕ, zero, suc, Bool, true, false, ◌==◌, List, [], ◌∷◌, Option, Some, None, Ok, Err, refl, sym, ap, ◌∙◌, subst, inl, inr}
use Words.{if◌then◌else◌, Result, map, filter, not, eqb-true, eq-eqb, Config, ClientId, NodeId, PageNo, ServerId, Stamp, Event, Note, Output, ClientInput, DirtyPage, DiskCommand}
use Words.{ServerInput, StepRefusal, IssuedCommand, SentMessage}
use Words.nodes
use Words.events
use Words.notes
use Words.outputs
use Words.inputs
use Words.serving
use Words.Admissible as adm
use Words.Client as cl
use Words.ClientPages as pages
use Words.ClientPasses as cp
use Words.ClientReplies as cr
use Words.ClientState.{Association, ClientState, ClientTurn, Turn, at_each, at_these, client_turn, enter, leave, only_at, server_of, with_associations}
use Words.Disks as disks
use Words.Events as ev
use Words.Events.{WorldTurn, counted, world_step}
use Words.FlatLog as log
use Words.History.{Traced, traced}
use Words.Safety.{Step, steps}
use Words.Server as server
use Words.Server.{ServerNode}
use Words.World as world
use Words.World.{World, WorldClient, clock_of, fresh_site, fresh_world, issued_of, node_of, numbered, site_of, with_numbered}
use Words.Keys.{put}
use Words.Lists.{Has}
use Words.Lookups.{some_is}
use Words.Numbers.{numbered_below, numbered_has, numbered_other, numbered_own}
use Words.Tables.{and_both, and_true, has_append, has_filter, has_map, same_or_not}
use Words.Truth.{clash}
use Rattle.st_lemmas.proofs.Puts.{has_put}
use Rattle.st_rules.specs.Extents.{numbers}
use Rattle.st_rules.specs.declared.node.StepRefusal.TheVariants.{Crashed}
use Rattle.st_lemmas.proofs.Steps.{step_happens}
use Rattle.st_laws_steps.specs.Client.Client.{Change, Says, Operates, Answers, Greets, TellsLost, Begins, Follows, Learns, Forgets, Caches, Writes}
use Rattle.st_laws_steps.specs.Client.Client.{Reads, Submits, Changes, Still, Then}
use Rattle.st_laws_steps.specs.Client.Losses.{Fit, Ends, Unknown, Passes, Hardens, Fails, Loses, IsLost, Lasts as IsLasting}
use Rattle.st_laws_steps.specs.Client.Inputs as taking
use Rattle.st_laws_steps.specs.Client.Inputs.{Taken}
use Rattle.st_laws_steps.specs.Lives.Lives.{LivesHold}
use Rattle.st_laws_steps.proofs.Client.Asking.{changes_by_passes}
use Rattle.st_laws_steps.proofs.Client.Replying.{changes_by_receive}
use Rattle.st_laws_steps.proofs.Client.Stepping.{Phased, phased}
use Rattle.st_laws_steps.proofs.Client.Taking.{taken}
use Rattle.st_laws_steps.proofs.Client.Losing.{Finished, changes_by_only, finish_is, is_done, lose_is, rest_of}
use Rattle.st_laws_pages.specs.Asks.Law.{PlacesHold}
use Rattle.st_laws_pages.proofs.Asks.Law.{places_law}
use Rattle.st_laws_pages.proofs.Causes.Law.{Stand, fresh_places, fresh_stand, one_step}
use Rattle.st_laws_pages.proofs.Disks.Effects.{report_finds, report_is, reported_world}
use Rattle.st_laws_pages.proofs.Disks.Steps.{counted_fates}
use Rattle.st_laws_pages.proofs.Flush.Adding.{After, after_clients}
use Rattle.st_laws_pages.proofs.Lives.Lasting.{flush_parts}
use Rattle.st_laws_volume.specs.Logs.{InEveryRun}
use Rattle.st_laws_volume.specs.LossMarks.{AllOnce, PagesAreOnce, IsOnce}
use Rattle.st_laws_volume.specs.Witness.{Witness}
use Rattle.st_laws_volume.proofs.Carried.{IsGiven, given_in}

-- Lists of dirty pages.
is_at_page : (ino : ℕ) (p : PageNo) (y : DirtyPage) → pages.is_dirty_of ino p y ≡ true → (y.ino ≡ ino) × (y.page ≡ p)
is_at_page ino p y e =
    let z = and_true (y.ino == ino) (y.page.0 == p.0) e in (eqb-true y.ino ino z.0, ap (λ n. record { 0 = n }) (eqb-true y.page.0 p.0 z.1))

pub put_once : (ino : ℕ) (p : PageNo) (new : DirtyPage) → new.ino ≡ ino → new.page ≡ p → (ds : List DirtyPage) → IsOnce ds →
    IsOnce (put (pages.is_dirty_of ino p) new ds)
unfolding put
put_once ino p new i q [] h = (λ x j. absurd j, tt)
put_once ino p new i q (y ∷ ys) h = go (pages.is_dirty_of ino p y) refl (put_once ino p new i q ys h.1)
  where
    same : pages.is_dirty_of ino p y ≡ true → (x : DirtyPage) → Has x ys → pages.is_dirty_of new.ino new.page x ≡ false
    same e x j =
        let z = is_at_page ino p y e in
        ap (λ n. pages.is_dirty_of n new.page x) (i ∙ sym z.0) ∙ (ap (λ n. pages.is_dirty_of y.ino n x) (q ∙ sym z.1) ∙ h.0 x j)

    other : (b : Bool) → pages.is_dirty_of y.ino y.page new ≡ b → pages.is_dirty_of ino p y ≡ false → b ≡ false
    other false k e = refl
    other true k e =
        let z = is_at_page y.ino y.page new k in
        clash
        (and_both (y.ino == ino) (y.page.0 == p.0) (eq-eqb y.ino ino (sym z.0 ∙ i)) (eq-eqb y.page.0 p.0 (ap (λ (n : PageNo). n.0) (sym z.1 ∙ q)))) e

    later : pages.is_dirty_of ino p y ≡ false → (x : DirtyPage) → (x ≡ new) ⊎ Has x ys → pages.is_dirty_of y.ino y.page x ≡ false
    later e x (inl k) = ap (pages.is_dirty_of y.ino y.page) k ∙ other (pages.is_dirty_of y.ino y.page new) refl e
    later e x (inr j) = h.0 x j

    go : (b : Bool) → pages.is_dirty_of ino p y ≡ b → IsOnce (put (pages.is_dirty_of ino p) new ys) →
        IsOnce (if b then new ∷ ys else y ∷ put (pages.is_dirty_of ino p) new ys)
    go true e r = (same e, h.1)
    go false e r = (λ x j. later e x (has_put (pages.is_dirty_of ino p) new ys x j), r)

filter_once : (keeps : DirtyPage → Bool) (ds : List DirtyPage) → IsOnce ds → IsOnce (filter keeps ds)
filter_once keeps [] h = tt
filter_once keeps (d ∷ ds) h = go (keeps d) (filter_once keeps ds h.1)
  where
    go : (b : Bool) → IsOnce (filter keeps ds) → IsOnce (if b then d ∷ filter keeps ds else filter keeps ds)
    go true r = (λ x j. h.0 x (has_filter keeps ds x j).0, r)
    go false r = r

failed_once : (ino : ℕ) (p : PageNo) (n : ℕ) (ds : List DirtyPage) → IsOnce ds → IsOnce (map (pages.fail_of ino p n) ds)
unfolding pages.failed_by
failed_once ino p n [] h = tt
failed_once ino p n (d ∷ ds) h = (
  λ x j. let z = has_map (pages.fail_of ino p n) ds x j in
      ap (pages.is_dirty_of (pages.fail_of ino p n d).ino (pages.fail_of ino p n d).page) z.2
      ∙ (same (pages.is_dirty_of ino p d) (pages.is_dirty_of ino p z.0) z.0 ∙ h.0 z.0 z.1),
  failed_once ino p n ds h.1,
)
  where
    same : (b c : Bool) (x : DirtyPage) →
        pages.is_dirty_of (if b then pages.failed_by n d else d).ino (if b then pages.failed_by n d else d).page (if c then pages.failed_by n x else x)
        ≡ pages.is_dirty_of d.ino d.page x
    same true true x = refl
    same true false x = refl
    same false true x = refl
    same false false x = refl

-- A turn.
abbrev Keeps : Turn → Turn → Type 0
Keeps t u = IsOnce t.here.store.pages.dirty → IsOnce u.here.store.pages.dirty

change_once : (now : Stamp) (t u : Turn) → Change now t u → Keeps t u
unfolding cp.submit_read cp.submit_write cp.submit_command pages.written pages.forget_from pages.drop_from
change_once now t _ (Says _ o p) h = h
change_once now t _ (Operates _ os) h = h
change_once now t _ (Answers _ os ops a) h = h
change_once now t _ (Greets _ g) h = h
change_once now t _ (TellsLost _ lost) h = h
change_once now t _ (Begins _ s e b n) h = h
change_once now t _ (Follows _ s v e g) h = h
change_once now t _ (Learns _ e v n) h = h
change_once now t _ (Forgets _ ino p i) h = h
change_once now t _ (Caches _ clean) h = h
change_once now t _ (Writes _ s f p bytes n e sv own m x) h =
    put_once f.ino p (pages.new_dirty t.here.store.pages f.ino p bytes) refl refl t.here.store.pages.dirty h
change_once now t _ (Reads _ ino p m i clean) h = h
change_once now t _ (Submits _ s ino p d m e i k w) h = h

changes_once : (now : Stamp) (t u : Turn) → Changes now t u → Keeps t u
changes_once now t _ (Still _) h = h
changes_once now t _ (Then _ u v c rest) h = changes_once now u v rest (change_once now t u c h)

ends_once : (number : ℕ) (ok : Bool) (t u : Turn) → Ends number ok t u → Keeps t u
unfolding cl.hardened pages.harden pages.harden_at pages.harden_page pages.fail
ends_once number ok t _ Unknown h = h
ends_once number ok t _ (Passes c e o) h = h
ends_once number ok t _ (Hardens c v e o k w) h = go (pages.dirty_of t.here.store.pages c.ino c.page)
  where
    go : (o : Option DirtyPage) → IsOnce (pages.harden_at t.here.store.pages o).dirty
    go None = h
    go (Some d) = filter_once (λ x. not (pages.is_dirty_of d.ino d.page x)) t.here.store.pages.dirty h
ends_once number ok t _ (Fails c v e o k w) h = failed_once c.ino c.page c.number t.here.store.pages.dirty h

finished_once : (now : Stamp) (number : ℕ) (ok : Bool) (t u : Turn) → Finished now number ok t u → Keeps t u
finished_once now number ok t u f h = changes_once now f.mid u (rest_of f) (ends_once number ok t f.mid f.ends h)

lose_once : (now : Stamp) (t u : Turn) → Loses now t u → Keeps t u
lose_once now t _ (IsLasting n) h = h
lose_once now t _ (IsLost s e n v c) h = tt

-- A rule at each server in turn.
abbrev RuleKeeps : (Turn → Turn) → Type 0
RuleKeeps rule = (t : Turn) → Fit t.here → Keeps t (rule t)

abbrev pub EachOnce : List Association → Type 0
EachOnce al = (a : Association) → Has a al → IsOnce a.store.pages.dirty

these_once : (rule : Turn → Turn) → RuleKeeps rule → (al : List Association) (t : ClientTurn) → ((b : Association) → Has b al → Fit b) → EachOnce al →
    EachOnce t.state.associations → EachOnce (at_these rule al t).state.associations
unfolding at_these
these_once rule one [] t f h k = k
these_once rule one (a ∷ al) t f h k =
    these_once rule one al (leave t (rule (enter t a))) (λ b i. f b (inr i)) (λ b i. h b (inr i))
    (λ b i. go b (has_append t.state.associations ((rule (enter t a)).here ∷ []) b i))
  where
    go : (b : Association) → Has b t.state.associations ⊎ Has b ((rule (enter t a)).here ∷ []) → IsOnce b.store.pages.dirty
    go b (inl i) = k b i
    go b (inr (inl q)) = subst (λ (z : Association). IsOnce z.store.pages.dirty) (sym q) (one (enter t a) (f a (inl refl)) (h a (inl refl)))
    go b (inr (inr i)) = absurd i

each_once : (rule : Turn → Turn) → RuleKeeps rule → (t : ClientTurn) → ((b : Association) → Has b t.state.associations → Fit b) →
    EachOnce t.state.associations → EachOnce (at_each rule t).state.associations
unfolding at_each
each_once rule one t f h = these_once rule one t.state.associations (with_associations [] t) f h (λ a i. absurd i)

input_once : (now : Stamp) (input : ClientInput) (t u : ClientTurn) → Taken t now input u → ((b : Association) → Has b t.state.associations → Fit b) →
    EachOnce t.state.associations → EachOnce u.state.associations
input_once now _ t _ (taking.Nothing i) f h = h
input_once now _ t _ (taking.Full op ask e) f h = h
input_once now _ t _ (taking.Unknown op ask e g) f h = h
input_once now _ t _ (taking.Takes op ask e g) f h =
    each_once (only_at (server_of ask) (cl.take_ask op ask)) (λ u p. changes_once now u _ (changes_by_only now (server_of ask) op ask u)) t f h
input_once now _ t _ (taking.Receives m e) f h =
    each_once (cr.receive_at now m.header m.body) (λ u p. changes_once now u _ (changes_by_receive now m.header m.body u p.fresh)) t f h
input_once now _ t _ (taking.Finishes number r) f h =
    each_once (cl.finish number r) (λ u p. finished_once now number (is_done r) u _ (finish_is now number r u)) t f h

-- before the passes
pub told_once : (c : ClientId) (s : ClientState) (now : Stamp) (input : ClientInput) → ((b : Association) → Has b s.associations → Fit b) →
    EachOnce s.associations → EachOnce (cl.take_input (cl.losses (client_turn s []) now) now input).state.associations
unfolding cl.losses
told_once c s now input f h =
    let t : ClientTurn = cl.losses (client_turn s []) now in
    let u : ClientTurn = cl.take_input t now input in
    let p : Phased c s now t u (cl.work u now input) = phased c s now input f in
    input_once now input t u (taken t now input) p.fit (each_once (cl.lose now) (λ x q. lose_once now x _ (lose_is now x)) (client_turn s []) f h)

step_once : (c : ClientId) (s : ClientState) (now : Stamp) (input : ClientInput) → ((b : Association) → Has b s.associations → Fit b) →
    EachOnce s.associations → EachOnce (cl.client_step s now input).state.associations
unfolding cl.client_step cl.work cl.losses
step_once c s now input f h =
    each_once (cp.passes now (cl.is_tick input)) (λ x q. changes_once now x _ (changes_by_passes now (cl.is_tick input) x)) u p.fit_too
    (told_once c s now input f h)
  where
    t : ClientTurn
    t = cl.losses (client_turn s []) now

    u : ClientTurn
    u = cl.take_input t now input

    p : Phased c s now t u (cl.work u now input)
    p = phased c s now input f

-- A client's step.
module _ (w : World) (c : ClientId) (old site : WorldClient) (input : ClientInput) (there : site_of w c ≡ Some old) (same : old.node ≡ site.node)
    (l : LivesHold w) (h : AllOnce w) where
  abbrev now : Stamp
  now = clock_of w (nodes.Client c)

  abbrev turn : cl.NodeTurn
  turn = cl.node_turn site.node (cl.client_step site.node.state now input)

  abbrev after : WorldClient
  after = ev.at_node turn.node site

  abbrev sc : WorldTurn
  sc = ev.quiet (ev.with_site c after w)

  abbrev u : World
  u = (After c site.node.state sc turn.out).world

  abbrev v : World
  v = ev.flushes c turn.node.state (world.all_servers u) u

  clients : v.clients ≡ with_numbered c.0 after w.clients
  clients = (flush_parts c turn.node.state (world.all_servers u) u).clients ∙ after_clients c site.node.state turn.out sc

  own : EachOnce turn.node.state.associations
  own =
      step_once c site.node.state now input
      (subst (λ (n : cl.ClientNode). (b : Association) → Has b n.state.associations → Fit b) same (l.lives.sites c old there).fit)
      (subst (λ (n : cl.ClientNode). EachOnce n.state.associations) same (h c old there))

  pub client_once : AllOnce v
  client_once d y e a i = go (same_or_not d.0 c.0)
    where
      its : numbered (with_numbered c.0 after w.clients) d.0 ≡ Some y
      its = ap (λ xs. numbered xs d.0) (sym clients) ∙ e

      mine : after ≡ y → IsOnce a.store.pages.dirty
      mine k = own a (subst (λ (s : WorldClient). Has a s.node.state.associations) (sym k) i)

      go : (d.0 ≡ c.0) ⊎ (d.0 ≢ c.0) → IsOnce a.store.pages.dirty
      go (inl z) = mine (some_is (sym (numbered_own w.clients c.0 after old there) ∙ ap (numbered (with_numbered c.0 after w.clients)) (sym z) ∙ its))
      go (inr n) = h d y (sym (numbered_other w.clients c.0 d.0 after (numbered_below w.clients c.0 old there).0 n) ∙ its) a i

-- A client that takes an input.
takes : (w : World) (c : ClientId) (input : ClientInput) (old site : WorldClient) → site_of w c ≡ Some old → old.node ≡ site.node → LivesHold w →
    AllOnce w → AllOnce (ev.client_takes w c input site).world
unfolding cl.node_step ev.client_takes ev.client_took
takes w c input old site there same l h = go site.node.running
  where
    t : cl.NodeTurn
    t = cl.node_turn site.node (cl.client_step site.node.state (clock_of w (nodes.Client c)) input)

    go : (r : Bool) → AllOnce (ev.client_took w c site (if r then Ok t else Err Crashed)).world
    go true = client_once w c old site input there same l h
    go false = h

-- A server's step.
server_one : (s : ServerId) (o : Output) (sc : WorldTurn) → AllOnce sc.world → AllOnce (ev.server_says sc s o).world
unfolding ev.server_says ev.server_notes ev.cuts ev.sends log.cut
server_one s (outputs.Send m) sc h = h
server_one s (outputs.Note n) sc h = noted n
  where
    noted : (n : Note) → AllOnce (ev.server_notes sc s n).world
    noted (notes.CutDone f p) = h
    noted (notes.Stolen c life) = h
    noted n = h
server_one s o sc h = h

server_says : (s : ServerId) (os : List Output) (sc : WorldTurn) → AllOnce sc.world → AllOnce (ev.server_says_all s os sc).world
unfolding ev.server_says_all
server_says s [] sc h = h
server_says s (o ∷ os) sc h = server_says s os (ev.server_says sc s o) (server_one s o sc h)

at_server : (w : World) (s : ServerId) (input : ServerInput) (o : Option ServerNode) → AllOnce w → AllOnce (ev.at_server w s input o).world
unfolding ev.at_server ev.server_takes ev.server_took
at_server w s input None h = h
at_server w s input (Some node) h = go (server.node_step node (clock_of w (nodes.Server s)) input)
  where
    go : (r : Result server.NodeTurn StepRefusal) → AllOnce (ev.server_took w s r).world
    go (Err e) = h
    go (Ok t) = server_says s t.out (ev.quiet (ev.with_node s t.node w)) h

-- A crash of a client, and its start: nothing is dirty then.
own_or_other : (w : World) (c d : ClientId) (site new y : WorldClient) → site_of w c ≡ Some site → numbered (with_numbered c.0 new w.clients) d.0 ≡ Some y →
    (y ≡ new) ⊎ (numbered w.clients d.0 ≡ Some y)
own_or_other w c d site new y there e = go (same_or_not d.0 c.0)
  where
    go : (d.0 ≡ c.0) ⊎ (d.0 ≢ c.0) → (y ≡ new) ⊎ (numbered w.clients d.0 ≡ Some y)
    go (inl q) = inl (some_is (sym e ∙ ap (numbered (with_numbered c.0 new w.clients)) q ∙ numbered_own w.clients c.0 new site there))
    go (inr n) = inr (sym (numbered_other w.clients c.0 d.0 new (numbered_below w.clients c.0 site there).0 n) ∙ e)

crashed : (w : World) (c : ClientId) (site : WorldClient) → site_of w c ≡ Some site → AllOnce w → AllOnce (ev.crashes_client w c (Some site)).world
unfolding ev.crashes_client ev.marks cl.crash
crashed w c site there h d y e a i = go (own_or_other w c d site (ev.stopped_site site) y there e)
  where
    go : (y ≡ ev.stopped_site site) ⊎ (numbered w.clients d.0 ≡ Some y) → IsOnce a.store.pages.dirty
    go (inr k) = h d y k a i
    go (inl k) =
        let z = has_map cl.crashed_association site.node.state.associations a (subst (λ (s : WorldClient). Has a s.node.state.associations) k i) in
        subst (λ (b : Association). IsOnce b.store.pages.dirty) (sym z.2) tt

started : (w : World) (c : ClientId) (site : WorldClient) → site_of w c ≡ Some site → AllOnce w → AllOnce (ev.starts_client w c (Some site))
unfolding ev.starts_client cl.start
started w c site there h d y e a i = go (own_or_other w c d site (ev.started_site site) y there e)
  where
    go : (y ≡ ev.started_site site) ⊎ (numbered w.clients d.0 ≡ Some y) → IsOnce a.store.pages.dirty
    go (inr k) = h d y k a i
    go (inl k) =
        let z = has_map cl.started_association site.node.state.associations a (subst (λ (s : WorldClient). Has a s.node.state.associations) k i) in
        subst (λ (b : Association). IsOnce b.store.pages.dirty) (sym z.2) tt

-- Every event.
module _ (w : World) (l : LivesHold w) (h : AllOnce w) where
  at_client : (c : ClientId) (input : ClientInput) (o : Option WorldClient) → site_of w c ≡ o → AllOnce (ev.at_client w c input o).world
  unfolding ev.at_client
  at_client c input None e = h
  at_client c input (Some site) e = takes w c input site site e refl l h

  -- the end of a command
  module _ (n : ℕ) (ok : Bool) (d : DiskCommand) (is : disks.command w.disks (suc n) ≡ Some d) where
    abbrev z : World
    z = reported_world w (suc n) ok d

    told : (o : Option IssuedCommand) → issued_of w (suc n) ≡ o → AllOnce (ev.tells z (suc n) ok o).world
    unfolding ev.tells ev.tells_client ev.tells_site
    told None q = h
    told (Some y) q = at_site (site_of w y.client) refl
      where
        at : (site : WorldClient) → site_of w y.client ≡ Some site → (r : Bool) →
            AllOnce (if r then ev.client_takes z y.client (ev.end_told z (suc n) ok y) site else ev.quiet z).world
        at site s true =
            takes z y.client (ev.end_told z (suc n) ok y) site site s refl (record { lives = l.lives; known = l.known }) h
        at site s false = h

        at_site : (s : Option WorldClient) → site_of w y.client ≡ s → AllOnce (ev.tells_client z (suc n) ok y s).world
        at_site None s = h
        at_site (Some site) s = at site s (ev.is_same_instance y site)

  no_report : (k : ℕ) (ok : Bool) → disks.command w.disks k ≡ None → adm.refusal w (events.Report k ok) ≡ None → ⊥
  unfolding adm.refusal adm.refused_report
  no_report k ok e r = no (ap (adm.refused_report w k ok) (sym e) ∙ r)
    where
      no : adm.refused_report w k ok None ≡ None → ⊥
      no q = cc

  report_once : (k : ℕ) (ok : Bool) → adm.refusal w (events.Report k ok) ≡ None → AllOnce (ev.reports_of w k ok).world
  report_once zero ok r = absurd (no_report zero ok refl r)
  report_once (suc n) ok r = go (disks.command w.disks (suc n)) refl
    where
      go : (d : Option DiskCommand) → disks.command w.disks (suc n) ≡ d → AllOnce (ev.reports_of w (suc n) ok).world
      go None q = absurd (no_report (suc n) ok q r)
      go (Some d) q =
          subst (λ (s : WorldTurn). AllOnce s.world) (sym (report_is w (suc n) ok d (report_finds w (suc n) ok d q r)))
          (told n ok d q (issued_of w (suc n)) refl)

  happens_once : (e : Event) → adm.refusal w e ≡ None → AllOnce (ev.happens w e).world
  unfolding ev.happens ev.ticks ev.asks_at ev.delivers ev.delivers_to ev.loses_message ev.marks ev.effects ev.advances ev.crashes ev.crashes_client
      ev.crashes_server ev.starts ev.starts_client ev.starts_server
  happens_once (events.Tick (nodes.Client c)) r = at_client c inputs.Tick (site_of w c) refl
  happens_once (events.Tick (nodes.Server s)) r = at_server w s serving.Tick (node_of w s) h
  happens_once (events.App c ask) r = go (site_of w c) refl
    where
      go : (s : Option WorldClient) → site_of w c ≡ s → AllOnce (ev.asks_at w c ask s).world
      go None e = h
      go (Some site) e =
          takes w c (inputs.App (site.asks + 1) ask) site (ev.asked_once_more site) e refl l h
  happens_once (events.Deliver k) r = go (world.message_of w k) refl
    where
      to : (m : SentMessage) → Has m w.net.messages → (n : NodeId) → AllOnce (ev.delivers_to w m.message n).world
      to m i (nodes.Client c) = at_client c (inputs.Control m.message) (site_of w c) refl
      to m i (nodes.Server s) = at_server w s (serving.Control m.message) (node_of w s) h

      go : (m : Option SentMessage) → world.message_of w k ≡ m → AllOnce (ev.delivers w m).world
      go None e = h
      go (Some m) e = to m (numbered_has w.net.messages k m e) (world.receiver_of m)
  happens_once (events.Lose k) r = go (world.message_of w k)
    where
      go : (m : Option SentMessage) → AllOnce (ev.loses_message w k m)
      go None = h
      go (Some m) = h
  happens_once (events.Cut from to) r = h
  happens_once (events.Heal from to) r = h
  happens_once (events.Advance steps) r = h
  happens_once (events.Effect k) r = h
  happens_once (events.Report k ok) r = report_once k ok r
  happens_once (events.Crash (nodes.Client c)) r = go (site_of w c) refl
    where
      go : (s : Option WorldClient) → site_of w c ≡ s → AllOnce (ev.crashes_client w c s).world
      go None e = h
      go (Some site) e = crashed w c site e h
  happens_once (events.Crash (nodes.Server s)) r = go (node_of w s)
    where
      go : (n : Option ServerNode) → AllOnce (ev.crashes_server w s n)
      go None = h
      go (Some node) = h
  happens_once (events.Start (nodes.Client c)) r = go (site_of w c) refl
    where
      go : (s : Option WorldClient) → site_of w c ≡ s → AllOnce (ev.starts_client w c s)
      go None e = h
      go (Some site) e = started w c site e h
  happens_once (events.Start (nodes.Server s)) r = go (node_of w s)
    where
      go : (n : Option ServerNode) → AllOnce (ev.starts_server w s n)
      go None = h
      go (Some node) = h

-- One step.
once_on : (past : List Step) (t : Traced) (e : Event) (sc : WorldTurn) → world_step t.world e ≡ Ok sc → Stand past t → AllOnce t.world → AllOnce sc.world
unfolding adm.refusal adm.refused_delivery adm.clocks_refused adm.flush_missed adm.refused_effect adm.refused_report world.node_of_place adm.missed_by
once_on past t e sc is s h =
    let z = step_happens t.world e sc is in
    subst (λ (x : WorldTurn). AllOnce x.world) (sym z.1) (happens_once (counted t.world) (counted_fates t.world s.fates).lives h e z.0)

-- At the start nothing is dirty.
pub once_begins : (k : Config) (count servers d b form : ℕ) → AllOnce (fresh_world k count servers d b form)
unfolding fresh_world cl.fresh_client
once_begins k count servers d b form c site e a i =
    let from = has_map (fresh_site k servers) (numbers 1 count) site (numbered_has (map (fresh_site k servers) (numbers 1 count)) c.0 site e) in
    let z = has_map cl.fresh_association (numbers 1 servers) a (subst (λ (s : WorldClient). Has a s.node.state.associations) from.2 i) in
    subst (λ (y : Association). IsOnce y.store.pages.dirty) (sym z.2) tt

-- In every run.
record OnceHold (past : List Step) (t : Traced) (it : Witness) : Type 0 where
  stand : Stand past t
  places : PlacesHold t.world
  once : AllOnce t.world

OnceToo : List Step → Step → Witness → Type 0
OnceToo past x it = PagesAreOnce past x

once_hold : IsGiven (λ past x. PlacesHold x.after.world) OnceHold OnceToo
unfolding OnceToo
once_hold past t e sc it f g h =
    let z = once_on past t e sc f h.stand h.once in
    (z, record { stand = (one_step past t e sc f h.places h.stand).stand; places = g; once = z })

pub pages_are_once : InEveryRun PagesAreOnce
unfolding OnceToo
pages_are_once k clients servers disks blocks form es head events =
    given_in (λ past x. PlacesHold x.after.world) OnceHold OnceToo once_hold es (traced (fresh_world k clients servers disks blocks form))
    (record {
      stand = fresh_stand k clients servers disks blocks form;
      places = fresh_places k clients servers disks blocks form;
      once = once_begins k clients servers disks blocks form;
    })
    (places_law k clients servers disks blocks form es head)
