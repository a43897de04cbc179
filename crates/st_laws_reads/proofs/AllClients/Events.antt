-- Every event at which no client takes an input keeps the copies of all clients.
use Rattle.st_lemmas.proofs.Words
use Words.{◌≡◌, ◌≢◌, ℕ, ◌≤◌, ◌⊎◌, Bool, true, false, ◌&&◌, ◌==◌, List, [], ◌∷◌, ◌++◌, Option, Some, None, Ok, Err, refl, sym, ap, ◌∙◌, subst, inl, inr, arith}
use Words.{leb-true, if◌then◌else◌, Result, length, map, nat_le, suc, zero, eqb-true, ne_eqb, ClientId, FileId, PageNo, ServerId, Ask, Note, Output}
use Words.{ServerInput, LogEntry, StepRefusal, Carried}
use Words.nodes
use Words.notes
use Words.outputs
use Words.Client as cl
use Words.ClientState.{Association, ClientState}
use Words.Disks as disks
use Words.Events as ev
use Words.Events.{WorldTurn}
use Words.FlatLog as log
use Words.FlatLog.{content, is_of_client}
use Words.Keys.{client, same_file, same_server}
use Words.Server as server
use Words.Server.{ServerNode}
use Words.World.{World, WorldClient, clock_of, issued_of, numbered, site_of, with_numbered}
use Words.Lookups.{some_is}
use Words.Numbers.{get_there, numbered_below, numbered_other, numbered_own, set_length}
use Words.Tables.{and_true, same_or_not}
use Words.Truth.{none_not_some}
use Rattle.st_protocol.specs.Assoc.{Config}
use Rattle.st_lemmas.proofs.Contents.{content_last}
use Rattle.st_laws_refine.specs.Views.Halves.{held_in}
use Rattle.st_laws_steps.specs.Lives.Lives.{clock_in}
use Rattle.st_laws_leases.specs.Sides.World.{AllStand, There}
use Rattle.st_laws_reads.specs.Copies.Copies.{FatesOk, Nothing, PageOk, file_at}
use Rattle.st_laws_reads.specs.Copies.Law.{AllWhile, ClientCopies}
use Rattle.st_laws_reads.specs.Copies.World.{ClientRests}
use Rattle.st_laws_reads.proofs.Copies.Others.{effects_law, lived_more, unheld_ok}
use Rattle.st_laws_reads.proofs.Copies.Restarts.{restarts_keep_copies as restarts_law}
use Rattle.st_laws_reads.proofs.Copies.Rests.{clocks_law, rests_law}
use Rattle.st_laws_reads.specs.AllClients.Events.{CutFree, CutFreeOf, CutsFree, FrozenStandAlone, ServerFree, TurnFree}
use Rattle.st_laws_reads.specs.AllClients.Law.{Running}
use Rattle.st_laws_reads.specs.AllClients.World.{AllThere, CopiesHold, SiteHolds}
use Rattle.st_laws_reads.proofs.AllClients.Dropping.{advance_drops, crash_drops, rests_ended}
use Rattle.st_laws_reads.proofs.AllClients.Takings.{there_on}

-- A cut joins the log: of a file that is not locked here, or of which nothing is cached from the page on.
nothing_ok : (held : ℕ) (bytes : List ℕ) (x : _) (ino : ℕ) (p : PageNo) → Nothing x ino p → PageOk held bytes x ino p
nothing_ok held bytes x ino p n =
    record {
      mode = λ d q. absurd (none_not_some d (sym n.dirty ∙ q));
      dirty = λ d q. absurd (none_not_some d (sym n.dirty ∙ q));
      clean = λ y q h. absurd (none_not_some y (sym n.clean ∙ q));
      unmapped = λ e q m h. absurd (none_not_some e (sym n.known ∙ q));
      locked = λ y q. absurd (none_not_some y (sym n.clean ∙ q));
      known = λ e q. absurd (none_not_some e (sym n.known ∙ q));
      reading = λ q. absurd (no (sym n.reading ∙ q));
    }
  where
    no : ◌≡◌ {A = Bool} false true → ⊥
    no z = cc

-- a cut leaves the content of the pages that it does not reach
content_before : (es : List LogEntry) (f g : FileId) (p q : PageNo) → log.touches g q (log.hard_cut f p) ≡ false → content (es ++ log.hard_cut f p ∷ []) g q ≡ content es g q
unfolding content log.after
content_before es f g p q h = content_last _ g q es (log.hard_cut f p) ∙ ap (λ b. if b && true then Rattle.st_base.specs.Page.filled 0 else log.content_from (Rattle.st_base.specs.Page.filled 0) g q es) h

cut_page : (es : List LogEntry) (f : FileId) (p : PageNo) (a : Association) → (f.server ≡ a.server → ((held_in a.session f.ino).mode ≡ 0) ⊎ ((q : PageNo) → p.0 ≤ q.0 → Nothing a.store f.ino q)) → (ino : ℕ) (q : PageNo) →
    PageOk (held_in a.session ino).mode (content es (file_at a.server ino) q) a.store ino q → PageOk (held_in a.session ino).mode (content (es ++ log.hard_cut f p ∷ []) (file_at a.server ino) q) a.store ino q
cut_page es f p a free ino q r = go (log.touches (file_at a.server ino) q (log.hard_cut f p)) refl
  where
    go : (b : Bool) → log.touches (file_at a.server ino) q (log.hard_cut f p) ≡ b → PageOk (held_in a.session ino).mode (content (es ++ log.hard_cut f p ∷ []) (file_at a.server ino) q) a.store ino q
    go false t = subst (λ bytes. PageOk (held_in a.session ino).mode bytes a.store ino q) (sym (content_before es f (file_at a.server ino) p q t)) r
    go true t = by (free (ap (λ n. record { 0 = n }) (eqb-true f.server.0 a.server.0 y.0)))
      where
        x : (same_file f (file_at a.server ino) ≡ true) × (nat_le p.0 q.0 ≡ true)
        x = and_true (same_file f (file_at a.server ino)) (nat_le p.0 q.0) t

        y : (same_server f.server a.server ≡ true) × ((f.ino == ino) ≡ true)
        y = and_true (same_server f.server a.server) (f.ino == ino) x.0

        ino_is : f.ino ≡ ino
        ino_is = eqb-true f.ino ino y.1

        by : ((held_in a.session f.ino).mode ≡ 0) ⊎ ((z : PageNo) → p.0 ≤ z.0 → Nothing a.store f.ino z) → PageOk (held_in a.session ino).mode (content (es ++ log.hard_cut f p ∷ []) (file_at a.server ino) q) a.store ino q
        by (inl z) = unheld_ok (held_in a.session ino).mode _ _ a.store ino q (ap (λ n. (held_in a.session n).mode) (sym ino_is) ∙ z) r
        by (inr g) = nothing_ok (held_in a.session ino).mode _ a.store ino q (subst (λ n. Nothing a.store n q) ino_is (g q (leb-true p.0 q.0 x.1)))

cut_fates : (c : ClientId) (life : _) (sv : ServerId) (x : _) (es : List LogEntry) (f : FileId) (p : PageNo) → FatesOk c life sv x es → FatesOk c life sv x (es ++ log.hard_cut f p ∷ [])
cut_fates c life sv x [] f p h = record { one = λ q. inl refl; rest = record {} }
cut_fates c life sv x (e ∷ es) f p h = record { one = h.one; rest = cut_fates c life sv x es f p h.rest }

cut_while : (l now : ℕ) (c : ClientId) (es : List LogEntry) (f : FileId) (p : PageNo) (xs : List Association) → 1 ≤ c.0 → CutFreeOf f p l now xs → AllWhile l now c es xs → AllWhile l now c (es ++ log.hard_cut f p ∷ []) xs
cut_while l now c es f p [] n u h = record {}
cut_while l now c es f p (a ∷ xs) n u h =
    record {
      one =
          record {
            lived = lived_more c a.server a.life es (log.hard_cut f p) none h.one.lived;
            lasting = λ z. let r = h.one.lasting z in
                record { pages = λ ino q. cut_page es f p a (u.one z) ino q (r.pages ino q); fates = cut_fates c a.life a.server a.store es f p r.fates; lived = lived_more c a.server a.life es (log.hard_cut f p) none r.lived };
          };
      rest = cut_while l now c es f p xs n u.rest h.rest;
    }
  where
    none : is_of_client c (log.nobody f p) ≡ false
    none = ne_eqb 0 c.0 (λ e. omega (arith, n, e))

-- Servers that are there stay there.
there_long : (w v : World) (s : ServerId) → length v.servers ≡ length w.servers → There w s → There v s
there_long w v s l t = go s.0 refl (numbered_below w.servers s.0 t.node t.is)
  where
    go : (n : ℕ) → s.0 ≡ n → (1 ≤ s.0) × (s.0 ≤ length w.servers) → There v s
    go zero e b = let x = b.0 in absurd (omega (arith, x, e))
    go (suc n) e b = let z = get_there v.servers n (let x = b.1 in omega (arith, x, e, l)) in record { node = z.0; is = ap (numbered v.servers) e ∙ z.1 }

all_long : (w v : World) (xs : List Association) → length v.servers ≡ length w.servers → AllThere w xs → AllThere v xs
all_long w v [] l h = record {}
all_long w v (a ∷ xs) l h = record { one = there_long w v a.server l h.one; rest = all_long w v xs l h.rest }

-- The clients are as they were; each keeps its copies, or goes on to rest.
each_keeps : (asks : ℕ → ℕ → Option Ask) (w v : World) → v.clients ≡ w.clients → length v.servers ≡ length w.servers →
    ((d : ℕ) (site : WorldClient) → Running w d site → ClientCopies (asks d) (client d) w.log (clock_of w (nodes.Client (client d))) site.node.state → ClientCopies (asks d) (client d) v.log (clock_of v (nodes.Client (client d))) site.node.state) →
    ((d : ℕ) (site : WorldClient) → ClientRests (client d) w.log site.node.state → ClientRests (client d) v.log site.node.state) → CopiesHold asks w → CopiesHold asks v
each_keeps asks w v cs l runs rests h d site e =
    let e2 : site_of w (client d) ≡ Some site = ap (λ zs. numbered zs d) (sym cs) ∙ e in
    let s = h d site e2 in
    record {
      servers = all_long w v site.node.state.associations l s.servers;
      runs = λ r. runs d site (record { there = e2; runs = r }) (s.runs r);
      rests = λ r. rests d site (s.rests r);
    }

-- nothing moved but what copies do not look at
pub quiet_keeps : (asks : ℕ → ℕ → Option Ask) (w v : World) → v.clients ≡ w.clients → length v.servers ≡ length w.servers → v.log ≡ w.log → v.clocks ≡ w.clocks → CopiesHold asks w → CopiesHold asks v
quiet_keeps asks w v cs l es ts h =
    each_keeps asks w v cs l
    (λ d site r z. subst (λ y. ClientCopies (asks d) (client d) y (clock_of v (nodes.Client (client d))) site.node.state) (sym es) (subst (λ y. ClientCopies (asks d) (client d) w.log (clock_in y (client d)) site.node.state) (sym ts) z))
    (λ d site z. subst (λ y. ClientRests (client d) y site.node.state) (sym es) z) h

-- Cuts.
cut_moved : (w v : World) (f : FileId) (p : PageNo) → v.clients ≡ w.clients → v.clocks ≡ w.clocks → CutFree w f p → CutFree v f p
cut_moved w v f p cs ts g d site r =
    subst (λ y. CutFreeOf f p site.node.state.config.lease (clock_in y (client d)).0 site.node.state.associations) (sym ts) (g d site (record { there = ap (λ zs. numbered zs d) (sym cs) ∙ r.there; runs = r.runs }))

says_keeps : (asks : ℕ → ℕ → Option Ask) (w : World) (s : ServerId) (os : List Output) (sc : WorldTurn) → sc.world.clients ≡ w.clients → sc.world.clocks ≡ w.clocks → CutsFree w os → CopiesHold asks sc.world → CopiesHold asks (ev.server_says_all s os sc).world
unfolding ev.server_says_all ev.server_says ev.server_notes ev.cuts ev.sends log.cut
says_keeps asks w s [] sc cs ts g h = h
says_keeps asks w s (o ∷ os) sc cs ts g h = one o (λ f p e. g f p (inl (sym e))) (λ sc cs ts h. says_keeps asks w s os sc cs ts (λ f p i. g f p (inr i)) h)
  where
    quiet : (v : World) → v.clients ≡ sc.world.clients → length v.servers ≡ length sc.world.servers → v.log ≡ sc.world.log → v.clocks ≡ sc.world.clocks → CopiesHold asks v
    quiet v a b c d = quiet_keeps asks sc.world v a b c d h

    noted : (n : Note) → ((f : FileId) (p : PageNo) → outputs.Note n ≡ outputs.Note (notes.CutDone f p) → CutFree w f p) → ((sc : WorldTurn) → sc.world.clients ≡ w.clients → sc.world.clocks ≡ w.clocks → CopiesHold asks sc.world → CopiesHold asks (ev.server_says_all s os sc).world) →
        CopiesHold asks (ev.server_says_all s os (ev.server_notes sc s n)).world
    noted (notes.CutDone f p) x k =
        k (ev.cuts sc f p) cs ts
        (each_keeps asks sc.world (ev.with_log (sc.world.log ++ log.hard_cut f p ∷ []) sc.world) refl refl
        (λ d site r z.
        record {
          apart = z.apart;
          copies = cut_while site.node.state.config.lease (clock_of sc.world (nodes.Client (client d))).0 (client d) sc.world.log f p site.node.state.associations (numbered_below sc.world.clients d site r.there).0 (cut_moved w sc.world f p cs ts (x f p refl) d site r) z.copies;
          asked = z.asked;
        })
        (λ d site z. rest d site z (same_or_not d 0)) h)
      where
        rest : (d : ℕ) (site : WorldClient) → ClientRests (client d) sc.world.log site.node.state → (d ≡ 0) ⊎ (d ≢ 0) → ClientRests (client d) (sc.world.log ++ log.hard_cut f p ∷ []) site.node.state
        rest d site z (inr n) = (rests_law (client d) sc.world.log site.node.state z).entry (log.hard_cut f p) (ne_eqb 0 d (λ e. n (sym e)))
        rest d site z (inl e) = zero_rests d site z e
          where
            zero_rests : (d : ℕ) (site : WorldClient) → ClientRests (client d) sc.world.log site.node.state → d ≡ 0 → ClientRests (client d) (sc.world.log ++ log.hard_cut f p ∷ []) site.node.state
            zero_rests d site z e = record { apart = z.apart; lived = lived_all site.node.state.associations z.lived }
              where
                lived_one : (sv : ServerId) (life : _) (es : List LogEntry) → Rattle.st_laws_reads.specs.Copies.Law.Lived (client d) sv life es → Rattle.st_laws_reads.specs.Copies.Law.Lived (client d) sv life (es ++ log.hard_cut f p ∷ [])
                lived_one sv life [] h = record { one = λ q s. omega arith; rest = record {} }
                lived_one sv life (y ∷ es) h = record { one = h.one; rest = lived_one sv life es h.rest }

                lived_all : (xs : List Association) → Rattle.st_laws_reads.specs.Copies.Law.AllLived (client d) sc.world.log xs → Rattle.st_laws_reads.specs.Copies.Law.AllLived (client d) (sc.world.log ++ log.hard_cut f p ∷ []) xs
                lived_all [] h = record {}
                lived_all (a ∷ xs) h = record { one = lived_one a.server a.life sc.world.log h.one; rest = lived_all xs h.rest }
    noted (notes.Stolen c life) x k = k (ev.server_notes sc s (notes.Stolen c life)) cs ts (quiet _ refl refl refl refl)
    noted n x k = k _ cs ts h

    one : (o : Output) → ((f : FileId) (p : PageNo) → o ≡ outputs.Note (notes.CutDone f p) → CutFree w f p) → ((sc : WorldTurn) → sc.world.clients ≡ w.clients → sc.world.clocks ≡ w.clocks → CopiesHold asks sc.world → CopiesHold asks (ev.server_says_all s os sc).world) →
        CopiesHold asks (ev.server_says_all s os (ev.server_says sc s o)).world
    one (outputs.Send m) x k = k (ev.sends sc m) cs ts (quiet _ refl refl refl refl)
    one (outputs.Note n) x k = noted n x k
    one o x k = k sc cs ts h

pub server_keeps : (asks : ℕ → ℕ → Option Ask) (w : World) (s : ServerId) (input : ServerInput) (o : Option ServerNode) → ServerFree w s input o → CopiesHold asks w → CopiesHold asks (ev.at_server w s input o).world
unfolding ev.at_server ev.server_takes ev.server_took
server_keeps asks w s input None g h = h
server_keeps asks w s input (Some node) g h = go (server.node_step node (clock_of w (nodes.Server s)) input) g
  where
    go : (r : Result server.NodeTurn StepRefusal) → TurnFree w r → CopiesHold asks (ev.server_took w s r).world
    go (Err e) g = h
    go (Ok t) g = says_keeps asks w s t.out (ev.quiet (ev.with_node s t.node w)) refl refl g (quiet_keeps asks w (ev.with_node s t.node w) refl (set_length w.servers _ t.node) refl refl h)

-- Effects.
pub effect_keeps : (asks : ℕ → ℕ → Option Ask) (w : World) (n : ℕ) → CopiesHold asks w → CopiesHold asks (ev.effects w n).world
unfolding ev.effects ev.marks
effect_keeps asks w n h =
    each_keeps asks w (ev.with_log (ev.log_hard w.log x) (ev.with_disks (ev.disks_after w.disks (disks.effect w.disks n)) w)) refl refl
    (λ d site r z. effects_law (asks d) (client d) w.log (clock_of w (nodes.Client (client d))) site.node.state x z) (λ d site z. (rests_law (client d) w.log site.node.state z).effect x) h
  where
    x : Option Carried
    x = ev.carried_by (issued_of w n)

-- Advances.
pub advance_keeps : (asks : ℕ → ℕ → Option Ask) (k : Config) (count : ℕ) (w : World) (steps : List ℕ) → AllStand k count w → FrozenStandAlone w → CopiesHold asks w → CopiesHold asks (ev.advances w steps).world
unfolding ev.advances ev.marks
advance_keeps asks k count w steps all frozen_lives h =
    each_keeps asks w (ev.with_log (ev.log_ended_all w.commands (ev.lives_reached w steps) w.log) (ev.with_clocks steps w)) refl refl (λ d site r z. advance_drops asks k count w all h frozen_lives d site r steps)
    (λ d site z. rests_ended (client d) w.commands (ev.lives_reached w steps) w.log site.node.state z) h

-- Crash and start of a client.
module _ (asks : ℕ → ℕ → Option Ask) (w : World) (c : ClientId) (site new : WorldClient) (there : site_of w c ≡ Some site) where
  which : (d : ℕ) (y : WorldClient) → numbered (with_numbered c.0 new w.clients) d ≡ Some y → ((c.0 ≡ d) × (new ≡ y)) ⊎ ((c.0 ≢ d) × (site_of w (client d) ≡ Some y))
  which d y e = go (same_or_not d c.0)
    where
      go : (d ≡ c.0) ⊎ (d ≢ c.0) → ((c.0 ≡ d) × (new ≡ y)) ⊎ ((c.0 ≢ d) × (site_of w (client d) ≡ Some y))
      go (inl q) = inl (sym q, some_is (sym (numbered_own w.clients c.0 new site there) ∙ ap (numbered (with_numbered c.0 new w.clients)) (sym q) ∙ e))
      go (inr n) = inr (λ q. n (sym q), sym (numbered_other w.clients c.0 d new (numbered_below w.clients c.0 site there).0 n) ∙ e)

pub crash_keeps : (asks : ℕ → ℕ → Option Ask) (k : Config) (count : ℕ) (w : World) (c : ClientId) (site : WorldClient) → site_of w c ≡ Some site → site.node.running ≡ true → AllStand k count w → FrozenStandAlone w → CopiesHold asks w → CopiesHold asks (ev.crashes_client w c (Some site)).world
unfolding ev.crashes_client ev.marks ev.log_crashed cl.crash
crash_keeps asks k count w c site there runs all frozen_lives h d y e = go (which asks w c site (ev.stopped_site site) there d y e)
  where
    v : World
    v = ev.with_log (ev.log_crashed w c) (ev.with_site c (ev.stopped_site site) (ev.with_crashed_lives site w))

    own : SiteHolds (asks c.0) v c.0 (ev.stopped_site site)
    own =
        let s = h c.0 site there in
        record {
          servers = crashed site.node.state.associations s.servers;
          runs = λ r. absurd (no r);
          rests = λ r. (rests_law c w.log (cl.crash site.node.state) ((restarts_law (asks c.0) c w.log (clock_of w (nodes.Client c)) site.node.state).crashes (s.runs runs))).drop (ev.is_of_crashed w c) (log.always Rattle.st_rules.specs.declared.log.Cause.TheVariants.Crash);
        }
      where
        no : ◌≡◌ {A = Bool} false true → ⊥
        no z = cc

        crashed : (xs : List Association) → AllThere w xs → AllThere v (map cl.crashed_association xs)
        crashed [] t = record {}
        crashed (a ∷ xs) t = record { one = record { node = t.one.node; is = t.one.is }; rest = crashed xs t.rest }

    go : ((c.0 ≡ d) × (ev.stopped_site site ≡ y)) ⊎ ((c.0 ≢ d) × (site_of w (client d) ≡ Some y)) → SiteHolds (asks d) v d y
    go (inl q) = subst (λ n. SiteHolds (asks n) v n y) q.0 (subst (SiteHolds (asks c.0) v c.0) q.1 own)
    go (inr q) =
        let s = h d y q.1 in
        record {
          servers = there_on w v y.node.state.associations refl s.servers;
          runs = λ r. crash_drops asks k count w all h frozen_lives d y (record { there = q.1; runs = r }) c q.0;
          rests = λ r. (rests_law (client d) w.log y.node.state (s.rests r)).drop (ev.is_of_crashed w c) (log.always Rattle.st_rules.specs.declared.log.Cause.TheVariants.Crash);
        }

pub start_keeps : (asks : ℕ → ℕ → Option Ask) (w : World) (c : ClientId) (site : WorldClient) → site_of w c ≡ Some site → site.node.running ≡ false → CopiesHold asks w → CopiesHold asks (ev.with_site c (ev.started_site site) w)
unfolding cl.start
start_keeps asks w c site there rests h d y e = go (which asks w c site (ev.started_site site) there d y e)
  where
    v : World
    v = ev.with_site c (ev.started_site site) w

    own : SiteHolds (asks c.0) v c.0 (ev.started_site site)
    own =
        let s = h c.0 site there in
        record {
          servers = started site.node.state s.servers;
          runs = λ r. (clocks_law (asks c.0) c w.log (clock_of w (nodes.Client c)) (cl.start site.node.state)).behind ((restarts_law (asks c.0) c w.log (clock_of w (nodes.Client c)) site.node.state).starts (s.rests rests));
          rests = λ r. absurd (no r);
        }
      where
        no : ◌≡◌ {A = Bool} true false → ⊥
        no z = cc

        each : (xs : List Association) → AllThere w xs → AllThere v (map cl.started_association xs)
        each [] t = record {}
        each (a ∷ xs) t = record { one = record { node = t.one.node; is = t.one.is }; rest = each xs t.rest }

        started : (s : ClientState) → AllThere w s.associations → AllThere v (cl.start s).associations
        started s t = each s.associations t

    go : ((c.0 ≡ d) × (ev.started_site site ≡ y)) ⊎ ((c.0 ≢ d) × (site_of w (client d) ≡ Some y)) → SiteHolds (asks d) v d y
    go (inl q) = subst (λ n. SiteHolds (asks n) v n y) q.0 (subst (SiteHolds (asks c.0) v c.0) q.1 own)
    go (inr q) = let s = h d y q.1 in record { servers = there_on w v y.node.state.associations refl s.servers; runs = s.runs; rests = s.rests }
