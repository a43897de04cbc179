-- Drops, at an advance and at a crash, keep the copies of the clients that run: what is dropped is of none of their present lives whose
-- leases last, on files of which they have no lock.
use Rattle.st_lemmas.proofs.Words
use Words.{◌≡◌, ◌≢◌, ℕ, ◌+◌, ◌≤◌, ◌⊎◌, Bool, true, false, ◌&&◌, ◌==◌, List, [], ◌∷◌, ◌++◌, Option, Some, None, refl, sym, ap, ◌∙◌, subst, inl, inr, arith}
use Words.{leb-true, find, nat_le, eqb-true, ClientId, FileId, Life, ServerId, Stamp, Ask, Cause, LogEntry, LogOwner, IssuedCommand, LeaseLife}
use Words.nodes
use Words.Admissible as adm
use Words.Client as cl
use Words.ClientLease as lease
use Words.ClientState.{Association, ClientSession, ClientState, is_at}
use Words.Events as ev
use Words.Events.{present_lives}
use Words.FlatLog as log
use Words.FlatLog.{is_of_client, is_of_life, is_pending}
use Words.Keys.{client, same_client, same_server}
use Words.World.{World, WorldClient, clock_of, end_or_present, lease_end_of, present_end, site_of}
use Words.Lists.{Has}
use Words.Lookups.{some_is}
use Words.Tables.{and_true, has_filter, same_or_not}
use Words.Truth.{not_both}
use Rattle.st_protocol.specs.Assoc.{Config}
use Rattle.st_laws_refine.specs.Views.Halves.{held_in}
use Rattle.st_laws_refine.specs.Client.Invariants.{Lasts}
use Rattle.st_laws_pages.specs.Fates.Fates.{PendingAll}
use Rattle.st_laws_pages.proofs.Fates.FateLaw.{pending_fewer}
use Rattle.st_laws_pages.proofs.Lives.Lasting.{end_one}
use Rattle.st_laws_pages.proofs.Disks.Moves.{clock_is, clock_up}
use Rattle.st_laws_leases.specs.Sides.World.{AllStand}
use Rattle.st_laws_reads.specs.Copies.Law.{Apart, ClientCopies}
use Rattle.st_laws_reads.specs.Copies.World.{ClientRests, DropsUnheld, OfNoPresentLife, Unheld}
use Rattle.st_laws_reads.proofs.Copies.Drops.{drops_keep_copies as drops_law}
use Rattle.st_laws_reads.proofs.Copies.Locked.{found_there}
use Rattle.st_laws_reads.proofs.Copies.Rests.{clocks_law, rests_law, lasts_before}
use Rattle.st_laws_reads.specs.AllClients.Events.{OfFrozen, FrozenStandAlone}
use Rattle.st_laws_reads.specs.AllClients.Law.{Running, UnheldBy}
use Rattle.st_laws_reads.specs.AllClients.World.{CopiesHold}
use Rattle.st_laws_reads.proofs.AllClients.Alone as alone
use Rattle.st_laws_reads.proofs.AllClients.Takings.{there_at}
use Rattle.std.proofs.lemmas.Bool.{false_from_ne_true}

-- Lists.
unheld_at : (f : FileId) (l now : ℕ) (xs : List Association) (b : Association) → Unheld f l now xs → Has b xs → Lasts l now b.session → f.server ≡ b.server → (held_in b.session f.ino).mode ≡ 0
unheld_at f l now [] b u h = absurd h
unheld_at f l now (x ∷ xs) b u (inl e) = subst (λ (y : Association). Lasts l now y.session → f.server ≡ y.server → (held_in y.session f.ino).mode ≡ 0) (sym e) u.one
unheld_at f l now (x ∷ xs) b u (inr h) = unheld_at f l now xs b u.rest h

unheld_all : (f : FileId) (l now : ℕ) (xs : List Association) → ((b : Association) → Has b xs → Lasts l now b.session → f.server ≡ b.server → (held_in b.session f.ino).mode ≡ 0) → Unheld f l now xs
unheld_all f l now [] g = record {}
unheld_all f l now (x ∷ xs) g = record { one = g x (inl refl); rest = unheld_all f l now xs (λ b i. g b (inr i)) }

no_present : (c : ClientId) (o : LogOwner) (l now : ℕ) (xs : List Association) → ((b : Association) → Has b xs → Lasts l now b.session → is_of_life c b.server b.life o ≡ false) → OfNoPresentLife c o l now xs
no_present c o l now [] g = record {}
no_present c o l now (x ∷ xs) g = record { one = g x (inl refl); rest = no_present c o l now xs (λ b i. g b (inr i)) }

-- associations of one server are the same
same_association : (xs : List Association) → Apart xs → (a b : Association) → Has a xs → Has b xs → a.server ≡ b.server → a ≡ b
same_association xs ap_ a b ha hb e = some_is (sym (found_there xs a ap_ ha) ∙ ap (λ s. find (is_at s) xs) e ∙ found_there xs b ap_ hb)

-- the parts of an owner of a life
life_parts : (c : ClientId) (s : ServerId) (l : Life) (o : LogOwner) → is_of_life c s l o ≡ true → (o.client ≡ c) × (o.file.server ≡ s) × (o.life ≡ l)
life_parts c s l o e =
    let x = and_true (same_client o.client c) (same_server o.file.server s && (o.life.0 == l.0)) e in
    let y = and_true (same_server o.file.server s) (o.life.0 == l.0) x.1 in
    (ap (λ n. record { 0 = n }) (eqb-true o.client.0 c.0 x.0), ap (λ n. record { 0 = n }) (eqb-true o.file.server.0 s.0 y.0), ap (λ n. record { 0 = n }) (eqb-true o.life.0 l.0 y.1))

-- whose something is pending in a log
pub record Enqueues (es : List LogEntry) (o : LogOwner) : Type 0 where
  pub entry : LogEntry
  pub has : Has entry es
  pub pending : is_pending entry.fate ≡ true
  pub is : entry.of ≡ o

enqueues_all : (es fs : List LogEntry) → ((e : LogEntry) → Has e fs → Has e es) → PendingAll (Enqueues es) fs
enqueues_all es [] g = record {}
enqueues_all es (e ∷ fs) g = record { one = λ p. record { entry = e; has = g e (inl refl); pending = p; is = refl }; rest = enqueues_all es fs (λ x i. g x (inr i)) }

-- drops of pending entries of which this is known
drops_from : (P : LogOwner → Type 0) (c : ClientId) (picked : ℕ → LogOwner → Bool) (l now : ℕ) (xs : List Association) → ((n : ℕ) (o : LogOwner) → picked n o ≡ true → P o → OfNoPresentLife c o l now xs × Unheld o.file l now xs) → (n : ℕ) (es : List LogEntry) → PendingAll P es →
    DropsUnheld c picked l now xs n es
drops_from P c picked l now xs f n [] h = record {}
drops_from P c picked l now xs f n (e ∷ es) h = record { other = λ q p. (f n e.of q (h.one p)).0; unheld = λ q p. (f n e.of q (h.one p)).1; rest = drops_from P c picked l now xs f (n + 1) es h.rest }

-- Whose a pending entry is: of a present life of a client that runs, or of a life that is over.
record PresentEntry (w : World) (e : LogEntry) : Type 0 where
  c : ℕ
  site : WorldClient
  run : Running w c site
  a : Association
  has : Has a site.node.state.associations
  own : is_of_life (client c) a.server a.life e.of ≡ true

status : (w : World) (e : LogEntry) → PresentEntry w e ⊎ OfFrozen w e
status w e = go (site_of w (client e.of.client.0)) refl
  where
    -- of the client that it names
    its : (c : ℕ) (a : Association) → is_of_life (client c) a.server a.life e.of ≡ true → c ≡ e.of.client.0
    its c a q = sym (ap (λ (x : ClientId). x.0) (life_parts (client c) a.server a.life e.of q).0)

    search : (site : WorldClient) (xs : List Association) → ((a : Association) → Has a xs → Has a site.node.state.associations) →
        ((a : Association) × Has a site.node.state.associations × (is_of_life (client e.of.client.0) a.server a.life e.of ≡ true)) ⊎ ((a : Association) → Has a xs → is_of_life (client e.of.client.0) a.server a.life e.of ≡ true → ⊥)
    search site [] g = inr (λ a i q. absurd i)
    search site (x ∷ xs) g = at (is_of_life (client e.of.client.0) x.server x.life e.of) refl (search site xs (λ a i. g a (inr i)))
      where
        at : (b : Bool) → is_of_life (client e.of.client.0) x.server x.life e.of ≡ b →
            (((a : Association) × Has a site.node.state.associations × (is_of_life (client e.of.client.0) a.server a.life e.of ≡ true)) ⊎ ((a : Association) → Has a xs → is_of_life (client e.of.client.0) a.server a.life e.of ≡ true → ⊥)) →
            ((a : Association) × Has a site.node.state.associations × (is_of_life (client e.of.client.0) a.server a.life e.of ≡ true)) ⊎ ((a : Association) → Has a (x ∷ xs) → is_of_life (client e.of.client.0) a.server a.life e.of ≡ true → ⊥)
        at true q r = inl (x, g x (inl refl), q)
        at false q (inl r) = inl r
        at false q (inr r) = inr (λ a i p. either a i p)
          where
            either : (a : Association) → Has a (x ∷ xs) → is_of_life (client e.of.client.0) a.server a.life e.of ≡ true → ⊥
            either a (inl i) p = not_both (is_of_life (client e.of.client.0) x.server x.life e.of)
                (ap (λ (y : Association). is_of_life (client e.of.client.0) y.server y.life e.of) (sym i) ∙ p) q
            either a (inr i) p = r a i p

    elder : ((site : WorldClient) → Running w e.of.client.0 site → (a : Association) → Has a site.node.state.associations → is_of_life (client e.of.client.0) a.server a.life e.of ≡ true → ⊥) → OfFrozen w e
    elder f c site a run h q =
        let s = its c a q in
        f site (subst (λ n. Running w n site) s run) a h (subst (λ n. is_of_life (client n) a.server a.life e.of ≡ true) s q)

    no_site : (site : WorldClient) → ◌≡◌ {A = Option WorldClient} None (Some site) → ⊥
    no_site site z = cc

    go : (o : Option WorldClient) → site_of w (client e.of.client.0) ≡ o → PresentEntry w e ⊎ OfFrozen w e
    go None q = inr (elder (λ site run a h p. no_site site (sym q ∙ run.there)))
    go (Some site) q = by site.node.running refl (search site site.node.state.associations (λ a i. i))
      where
        is : (y : WorldClient) → Running w e.of.client.0 y → site ≡ y
        is y run = some_is (sym q ∙ run.there)

        by : (b : Bool) → site.node.running ≡ b →
            (((a : Association) × Has a site.node.state.associations × (is_of_life (client e.of.client.0) a.server a.life e.of ≡ true)) ⊎ ((a : Association) → Has a site.node.state.associations → is_of_life (client e.of.client.0) a.server a.life e.of ≡ true → ⊥)) → PresentEntry w e ⊎ OfFrozen w e
        by true r (inl (a, h, p)) = inl (record { c = e.of.client.0; site = site; run = record { there = q; runs = r }; a = a; has = h; own = p })
        by true r (inr f) = inr (elder (λ y run a h p. f a (subst (λ (z : WorldClient). Has a z.node.state.associations) (sym (is y run)) h) p))
        by false r x = inr (elder (λ y run a h p. absurd (stopped (sym (ap (λ (z : WorldClient). z.node.running) (is y run) ∙ run.runs) ∙ r))))
          where
            stopped : ◌≡◌ {A = Bool} true false → ⊥
            stopped z = cc

module _ (asks : ℕ → ℕ → Option Ask) (k : Config) (count : ℕ) (w : World) (all : AllStand k count w) (copies : CopiesHold asks w) (frozen_lives : FrozenStandAlone w) (d : ℕ) (other : WorldClient) (runs : Running w d other) where
  abbrev state : ClientState
  state = other.node.state

  abbrev now : ℕ
  now = (clock_of w (nodes.Client (client d))).0

  pub own_copies : ClientCopies (asks d) (client d) w.log (clock_of w (nodes.Client (client d))) state
  own_copies = (copies d other runs.there).runs runs.runs

  -- no lock is held on a file of which something of another client, or of a life that is over, is pending
  pub unheld_for : (o : LogOwner) → Enqueues w.log o → ((a : Association) → Has a state.associations → is_of_life (client d) a.server a.life o ≡ true → ⊥) ⊎ Unit {0} → (b : Association) → Has b state.associations → Lasts state.config.lease now b.session → o.file.server ≡ b.server →
      (is_of_life (client d) b.server b.life o ≡ true → ⊥) → (held_in b.session o.file.ino).mode ≡ 0
  unheld_for o p x b hb lb sv not_own = go (status w p.entry)
    where
      from : UnheldBy w d other p.entry → (held_in b.session o.file.ino).mode ≡ 0
      from u = unheld_at o.file state.config.lease now state.associations b (subst (λ (y : LogOwner). Unheld y.file state.config.lease now state.associations) p.is u) hb lb sv

      go : PresentEntry w p.entry ⊎ OfFrozen w p.entry → (held_in b.session o.file.ino).mode ≡ 0
      go (inr e) = from (frozen_lives p.entry p.has p.pending e d other runs)
      go (inl y) = at (same_or_not y.c d)
        where
          at : (y.c ≡ d) ⊎ (y.c ≢ d) → (held_in b.session o.file.ino).mode ≡ 0
          at (inr n) =
              let s = copies y.c y.site y.run.there in
              from (alone.pending_pages_stand_alone (asks y.c) k count w y.c d y.site other y.a p.entry all n y.run runs (s.runs y.run.runs) y.has (record { logged = p.has; pending = p.pending; own = y.own; server = there_at w y.site.node.state.associations y.a s.servers y.has }))
          at (inl e) =
              let site : y.site ≡ other = some_is (sym y.run.there ∙ ap (λ n. site_of w (client n)) e ∙ runs.there) in
              let ha : Has y.a state.associations = subst (λ (z : WorldClient). Has y.a z.node.state.associations) site y.has in
              let own : is_of_life (client d) y.a.server y.a.life o ≡ true = subst (λ n. is_of_life (client n) y.a.server y.a.life o ≡ true) e (subst (λ (z : LogOwner). is_of_life (client y.c) y.a.server y.a.life z ≡ true) p.is y.own) in
              let same : y.a ≡ b = same_association state.associations own_copies.apart y.a b ha hb (sym (life_parts (client d) y.a.server y.a.life o own).1 ∙ sv) in
              absurd (not_own (subst (λ (z : Association). is_of_life (client d) z.server z.life o ≡ true) same own))

  -- A crash of another client.
  pub crash_drops : (c : ClientId) → c.0 ≢ d → ClientCopies (asks d) (client d) (ev.log_crashed w c) (clock_of w (nodes.Client (client d))) state
  unfolding ev.log_crashed
  crash_drops c n =
      drops_law (asks d) (client d) w.log (clock_of w (nodes.Client (client d))) state (ev.is_of_crashed w c) (log.always Rattle.st_rules.specs.declared.log.Cause.TheVariants.Crash)
      (drops_from (Enqueues w.log) (client d) (ev.is_of_crashed w c) state.config.lease now state.associations facts 1 w.log (enqueues_all w.log w.log (λ e i. i))) own_copies
    where
      others : (m : ℕ) (o : LogOwner) → ev.is_of_crashed w c m o ≡ true → (b : Association) → is_of_life (client d) b.server b.life o ≡ true → ⊥
      others m o q b e = n (sym (eqb-true o.client.0 c.0 (and_true (is_of_client c o) _ q).0) ∙ ap (λ (x : ClientId). x.0) (life_parts (client d) b.server b.life o e).0)

      facts : (m : ℕ) (o : LogOwner) → ev.is_of_crashed w c m o ≡ true → Enqueues w.log o → OfNoPresentLife (client d) o state.config.lease now state.associations × Unheld o.file state.config.lease now state.associations
      facts m o q p = (
        no_present (client d) o state.config.lease now state.associations (λ b i l. false_from_ne_true _ (others m o q b)),
        unheld_all o.file state.config.lease now state.associations (λ b i l s. unheld_for o p (inr tt) b i l s (others m o q b)),
      )

  -- An advance.
  module _ (steps : List ℕ) where
    abbrev v : World
    v = ev.with_clocks steps w

    abbrev later : ℕ
    later = (clock_of v (nodes.Client (client d))).0

    up : now ≤ later
    up = clock_up w steps (client d)

    -- the end of a present life
    end_is : (a : Association) → Has a state.associations → lease_end_of w (client d) a.server a.life ≡ lease.end_at state.config (cl.lease_at (Some a))
    end_is a here = ap (end_or_present w (client d) a.server) (alone.present_ends w all.fates (client d) other runs.there runs.runs a own_copies.apart here) ∙ ap (present_end w a.server) runs.there ∙ ap (λ o. lease.end_at state.config (cl.lease_at o)) (found_there state.associations a own_copies.apart here)

    -- a life whose end is reached is none whose lease lasts
    lapsed : (l : LeaseLife) → Has l (ev.lives_reached w steps) → (o : LogOwner) → ev.is_of_life_over l 0 o ≡ true → (b : Association) → Has b state.associations → Lasts state.config.lease later b.session → is_of_life (client d) b.server b.life o ≡ true → ⊥
    unfolding ev.lives_reached
    lapsed l i o q b hb lb own = by l.end refl (has_filter (ev.is_reached w steps) (present_lives w.clients ++ w.ended) l i).1
      where
        x : (o.client ≡ l.client) × (o.file.server ≡ l.server) × (o.life ≡ l.life)
        x = life_parts l.client l.server l.life o q

        y : (o.client ≡ client d) × (o.file.server ≡ b.server) × (o.life ≡ b.life)
        y = life_parts (client d) b.server b.life o own

        c_is : l.client ≡ client d
        c_is = sym x.0 ∙ y.0

        s_is : l.server ≡ b.server
        s_is = sym x.1 ∙ y.1

        l_is : l.life ≡ b.life
        l_is = sym x.2 ∙ y.2

        by : (end : Option Stamp) → l.end ≡ end → adm.reaches (clock_of w (nodes.Client l.client)) (adm.step_of l.client steps) end ≡ true → ⊥
        by None e r = cc
        by (Some t) e r =
            let z = end_one w all.fates.lives l (has_filter (ev.is_reached w steps) (present_lives w.clients ++ w.ended) l i).0 t e in
            let at : lease.end_at state.config (cl.lease_at (Some b)) ≡ Some t =
            sym (end_is b hb) ∙ subst (λ (c : ClientId). lease_end_of w c b.server b.life ≡ Some t) c_is (subst (λ (s : ServerId). lease_end_of w l.client s b.life ≡ Some t) s_is (subst (λ (m : Life). lease_end_of w l.client l.server m ≡ Some t) l_is z.agree)) in
            let clock : later ≡ now + adm.step_of (client d) steps =
            clock_is w steps (client d) z.clock (subst (λ (c : ClientId). Rattle.st_rules.specs.World.numbered w.clocks c.0 ≡ Some z.clock) c_is z.there) in
            let le = leb-true t.0 ((clock_of w (nodes.Client l.client)).0 + adm.step_of l.client steps) (and_true _ (nat_le t.0 ((clock_of w (nodes.Client l.client)).0 + adm.step_of l.client steps)) r).1 in
            let le2 : t.0 ≤ now + adm.step_of (client d) steps = subst (λ (c : ClientId). t.0 ≤ (clock_of w (nodes.Client c)).0 + adm.step_of c steps) c_is le in
            over b.session at lb (subst (λ m. t.0 ≤ m) (sym clock) le2)
          where
            over : (s : Option ClientSession) → lease.end_at state.config (cl.lease_at (Some (record b { session = s }))) ≡ Some t → Lasts state.config.lease later s → t.0 ≤ later → ⊥
            over None e l h = cc
            over (Some s) e l h = let z : s.lease.date.0 + state.config.lease ≡ t.0 = ap (λ (o : Option Stamp). stamp_or o) e in absurd (omega (arith, l, h, z))
              where
                stamp_or : Option Stamp → ℕ
                stamp_or None = 0
                stamp_or (Some u) = u.0

    not_true : (b : Bool) → (b ≡ true → ⊥) → b ≡ false
    not_true true f = absurd (f refl)
    not_true false f = refl

    facts : (l : LeaseLife) → Has l (ev.lives_reached w steps) → (m : ℕ) (o : LogOwner) → ev.is_of_life_over l m o ≡ true → Enqueues w.log o → OfNoPresentLife (client d) o state.config.lease later state.associations × Unheld o.file state.config.lease later state.associations
    facts l i m o q p = (
      no_present (client d) o state.config.lease later state.associations (λ b j lb. not_true _ (lapsed l i o q b j lb)),
      unheld_all o.file state.config.lease later state.associations (λ b j lb s. unheld_for o p (inr tt) b j (lasts_before state.config.lease now later up b.session lb) s (lapsed l i o q b j lb)),
    )

    ended_all : (cs : List IssuedCommand) (ls : List LeaseLife) → ((l : LeaseLife) → Has l ls → Has l (ev.lives_reached w steps)) → (es : List LogEntry) → PendingAll (Enqueues w.log) es → ClientCopies (asks d) (client d) es (clock_of v (nodes.Client (client d))) state →
        ClientCopies (asks d) (client d) (ev.log_ended_all cs ls es) (clock_of v (nodes.Client (client d))) state
    unfolding ev.log_ended_all ev.log_ended log.drop_picked
    ended_all cs [] g es p h = h
    ended_all cs (l ∷ ls) g es p h =
        ended_all cs ls (λ x i. g x (inr i)) (ev.log_ended cs l es) (pending_fewer (Enqueues w.log) 1 (ev.is_of_life_over l) (ev.cause_at_end cs l) es p)
        (drops_law (asks d) (client d) es (clock_of v (nodes.Client (client d))) state (ev.is_of_life_over l) (ev.cause_at_end cs l)
        (drops_from (Enqueues w.log) (client d) (ev.is_of_life_over l) state.config.lease later state.associations (facts l (g l (inl refl))) 1 es p) h)

    pub advance_drops : ClientCopies (asks d) (client d) (ev.log_ended_all w.commands (ev.lives_reached w steps) w.log) (clock_of v (nodes.Client (client d))) state
    advance_drops =
        ended_all w.commands (ev.lives_reached w steps) (λ l i. i) w.log (enqueues_all w.log w.log (λ e i. i))
        ((clocks_law (asks d) (client d) w.log (clock_of w (nodes.Client (client d))) state).later (clock_of v (nodes.Client (client d))) up own_copies)

-- What rests goes on to rest through an advance.
pub rests_ended : (c : ClientId) (cs : List IssuedCommand) (ls : List LeaseLife) (es : List LogEntry) (s : ClientState) → ClientRests c es s → ClientRests c (ev.log_ended_all cs ls es) s
unfolding ev.log_ended_all ev.log_ended
rests_ended c cs [] es s h = h
rests_ended c cs (l ∷ ls) es s h = rests_ended c cs ls (ev.log_ended cs l es) s ((rests_law c es s h).drop (ev.is_of_life_over l) (ev.cause_at_end cs l))
