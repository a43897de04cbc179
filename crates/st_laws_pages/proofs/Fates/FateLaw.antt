-- What is pending belongs to a life before its lease end: through a step of a client, marks of the log, a crash and a start.
use Rattle.st_lemmas.proofs.Words
use Words.{◌≡◌, ◌≢◌, ℕ, ◌+◌, ◌⊎◌, Bool, true, false, ◌&&◌, List, [], ◌∷◌, ◌++◌, ◌==◌, Option, Some, None, Ok, refl, sym, ap, ◌∙◌, subst, inl, inr}
use Words.{if◌then◌else◌, find, map, nat_le, zero, suc, option_map, eq-eqb, ne_eqb, ClientId, FileId, PageNo, ServerId, Life, Stamp, ClientInput}
use Words.{Cause, Fate, LogEntry, LogOwner, Carried, LeaseLife}
use Words.nodes
use Words.fates
use Words.Keys.{same_client, same_server}
use Words.FlatLog as log
use Words.Client as cl
use Words.ClientLease as lease
use Words.ClientState.{Association, is_at}
use Words.World as world
use Words.World.{World, WorldClient, numbered, with_numbered, site_of, clock_of, is_life_of, ended_of, end_or_present, lease_end_of, life_of_association}
use Words.World.{lives_of}
use Words.Events as ev
use Words.Events.{client_says_all, present_lives}
use Words.Lists.{Has}
use Words.Tables.{has_map_in, same_or_not}
use Words.Numbers.{numbered_own, numbered_other, numbered_below}
use Words.Truth.{none_not_some}
use Words.Worlds.{present_in}
use Rattle.st_laws_pages.specs.Fates.Fates.{PendingAll, BeforeEnd, FatesAreKept, RowOf}
use Rattle.st_laws_steps.specs.Lives.Lives.{ended_rows, Stepped, clock_in, IsKnown, NodeHolds, owner_of, LivesHold}
use Rattle.st_laws_steps.specs.Client.Notes.{NotesAll, IsChangedAt}
use Rattle.st_laws_pages.proofs.Lives.Lives.{find_front, find_back, rows_own, rows_other}
use Rattle.st_laws_pages.proofs.Fates.Fates.{pending_map}
use Rattle.st_laws_steps.proofs.Lives.Associations.{found_has}
use Rattle.st_laws_pages.proofs.Lives.NodeTurns.{row_is}
use Rattle.st_laws_steps.proofs.Client.Dirtying.{notes_map}
use Rattle.st_laws_steps.proofs.Client.Noting.{step_notes}
use Rattle.st_laws_pages.proofs.Lives.Turning.{Said, says_lives, client_lives}
use Rattle.st_laws_pages.proofs.Lives.Lasting.{Flushed, flush_parts}
use Rattle.st_laws_pages.proofs.Lives.LifeSteps.{steps_so}
use Rattle.st_laws_pages.proofs.Fates.FateSteps.{still_before, changed_before, says_pending}

-- A client's step.
pub client_fates : (w : World) (c : ClientId) (old site : WorldClient) (input : ClientInput) → site_of w c ≡ Some old → old.node ≡ site.node → site.node.running ≡ true → LivesHold w → FatesAreKept w →
    FatesAreKept (ev.client_took w c site (Ok (cl.node_turn site.node (cl.client_step site.node.state (clock_of w (nodes.Client c)) input)))).world
unfolding ev.client_took
client_fates w c old site input there same r h fh = subst (PendingAll (BeforeEnd v)) (sym fl.log) (says_pending (BeforeEnd v) c site.node.state (λ s. ev.present_life v0 c s) t.out (ev.quiet v0) (λ s. refl) new (pending_map (BeforeEnd w) (BeforeEnd v) w.log old_ones fh))
  where
    now : Stamp
    now = clock_of w (nodes.Client c)

    t : cl.NodeTurn
    t = cl.node_turn site.node (cl.client_step site.node.state now input)

    now_site : WorldClient
    now_site = ev.at_node t.node site

    v0 : World
    v0 = ev.with_site c now_site w

    u : World
    u = (client_says_all c site.node.state t.out (ev.quiet v0)).world

    v : World
    v = ev.flushes c t.node.state (world.all_servers u) u

    said : Said c (ended_rows c site.node.state t.out) v0 u
    said = says_lives c site.node.state t.out (ev.quiet v0)

    fl : Flushed u v
    fl = flush_parts c t.node.state (world.all_servers u) u

    st : Stepped now c old.node.state t.node.state t.out
    st = steps_so w c old site input there same h

    clients : v.clients ≡ with_numbered c.0 now_site w.clients
    clients = fl.clients ∙ said.clients

    old_ones : (o : LogOwner) → BeforeEnd w o → BeforeEnd v o
    old_ones =
        still_before w v c old now_site there h (fl.clocks ∙ said.clocks) clients (fl.ended ∙ said.ended ∙ ap (λ z. w.ended ++ z) (ap (λ (n : cl.ClientNode). ended_rows c n.state t.out) (sym same) ∙ st.rows)) t.node.state refl st.pairs st.config

    lives : LivesHold v
    lives = client_lives w c old site t there same (ap (λ (n : cl.ClientNode). n.running) same ∙ r) r st h

    own : site_of v c ≡ Some now_site
    own = ap (λ z. numbered z c.0) clients ∙ numbered_own w.clients c.0 now_site old there

    config : site.node.state.config ≡ v.config
    config = ap (λ (n : cl.ClientNode). n.state.config) (sym same) ∙ st.config ∙ (lives.lives.sites c now_site own).config

    new : NotesAll (λ f p. BeforeEnd v (log.owner c (ev.present_life v0 c f.server) f p)) t.out
    new =
        notes_map (IsChangedAt site.node.state.config now t.node.state.associations) (λ f p. BeforeEnd v (log.owner c (ev.present_life v0 c f.server) f p))
        (λ f p z. subst (λ l. BeforeEnd v (log.owner c l f p)) (ap (λ x. ev.life_of_site f.server (numbered x c.0)) clients)
        (changed_before v c now_site now own r lives (ap (λ x. clock_in x c) (fl.clocks ∙ said.clocks)) f p (subst (λ k. IsChangedAt k now t.node.state.associations f p) config z))) t.out
        (step_notes c site.node.state now input (subst (λ (n : cl.ClientNode). (a : Association) → Has a n.state.associations → Rattle.st_laws_steps.specs.Client.Losses.Fit a) same (h.lives.sites c old there).fit))

-- Effects: what becomes hard is no longer pending.
pub pending_harden : (P : LogOwner → Type 0) (n i : ℕ) (o : LogOwner) (es : List LogEntry) → PendingAll P es → PendingAll P (log.harden_from n i o es)
unfolding log.harden_from log.hardened log.harder_entry
pending_harden P n i o [] h = h
pending_harden P n i o (e ∷ es) h = go (nat_le n i && log.same_owner e.of o) (pending_harden P (n + 1) i o es h.rest)
  where
    never : (f : Fate) → log.is_pending (log.harder f) ≡ true → ⊥
    never fates.Pending q = cc
    never fates.Hard q = cc
    never (fates.Gone d) q = cc

    go : (b : Bool) → PendingAll P (log.harden_from (n + 1) i o es) → PendingAll P ((if b then record e { fate = log.harder e.fate } else e) ∷ log.harden_from (n + 1) i o es)
    go true r = record { one = λ q. absurd (never e.fate q); rest = r }
    go false r = record { one = h.one; rest = r }

pub pending_hard : (P : LogOwner → Type 0) (es : List LogEntry) (x : Option Carried) → PendingAll P es → PendingAll P (ev.log_hard es x)
unfolding log.harden log.harden_at
pending_hard P es None h = h
pending_hard P es (Some x) h = go (log.entry_at es x.index)
  where
    go : (o : Option LogEntry) → PendingAll P (log.harden_at es x.index o)
    go None = h
    go (Some e) = pending_harden P 1 x.index e.of es h

-- a drop leaves no more pending than there was
pub pending_fewer : (P : LogOwner → Type 0) (n : ℕ) (picked : ℕ → LogOwner → Bool) (cause : FileId → PageNo → Cause) (es : List LogEntry) → PendingAll P es → PendingAll P (log.drop_from n picked cause es)
unfolding log.drop_from log.dropped log.lost_entry
pending_fewer P n picked cause [] h = h
pending_fewer P n picked cause (e ∷ es) h = go (picked n e.of) (pending_fewer P (n + 1) picked cause es h.rest)
  where
    never : (c : Cause) (f : Fate) → log.is_pending (log.lost c f) ≡ true → ⊥
    never c fates.Pending q = cc
    never c fates.Hard q = cc
    never c (fates.Gone d) q = cc

    go : (b : Bool) → PendingAll P (log.drop_from (n + 1) picked cause es) → PendingAll P ((if b then record e { fate = log.lost (cause e.of.file e.of.page) e.fate } else e) ∷ log.drop_from (n + 1) picked cause es)
    go true r = record { one = λ q. absurd (never (cause e.of.file e.of.page) e.fate q); rest = r }
    go false r = record { one = h.one; rest = r }

-- a life that is known, and none of those that ended, is the association's
pub known_life : (w : World) (c : ClientId) (site : WorldClient) → site_of w c ≡ Some site → (o : LogOwner) (a : Association) →
    find (is_at o.file.server) site.node.state.associations ≡ Some a → o.client.0 ≡ c.0 → ended_of w o.client o.file.server o.life ≡ None →
    IsKnown w.clients w.ended o.client o.file.server o.life → a.life.0 ≡ o.life.0
known_life w c site there o a f i n (inl (e, z)) = absurd (none_not_some e (sym n ∙ z))
known_life w c site there o a f i n (inr z) = ap (λ x. (world.life_at x).0) (sym f) ∙ ap (λ x. (ev.life_of_site o.file.server x).0) (sym there) ∙ ap (λ j. (ev.life_of_site o.file.server (numbered w.clients j)).0) (sym i) ∙ z

-- Crash: the client's lives end with the ends that they had.
pub end_crashed : (w : World) (c : ClientId) (site : WorldClient) → site_of w c ≡ Some site → LivesHold w → (o : LogOwner) →
    IsKnown w.clients w.ended o.client o.file.server o.life → (end : Stamp) → lease_end_of w o.client o.file.server o.life ≡ Some end →
    lease_end_of (ev.with_site c (ev.stopped_site site) (ev.with_crashed_lives site w)) o.client o.file.server o.life ≡ Some end
end_crashed w c site there h o kn end is = go (ended_of w o.client o.file.server o.life) refl (same_or_not o.client.0 c.0)
  where
    v : World
    v = ev.with_site c (ev.stopped_site site) (ev.with_crashed_lives site w)

    p : LeaseLife → Bool
    p = is_life_of o.client o.file.server o.life

    rows : List LeaseLife
    rows = map ev.crashed_life (lives_of site.node.state)

    m : NodeHolds w.config w.clocks w.ended c site.node
    m = h.lives.sites c site there

    -- the row of the client's own life
    own : (a : Option Association) → find (is_at o.file.server) site.node.state.associations ≡ a → o.client.0 ≡ c.0 → find p w.ended ≡ None →
        lease.end_at site.node.state.config (cl.lease_at a) ≡ Some end → lease_end_of v o.client o.file.server o.life ≡ Some end
    own None f i n q = absurd (none_not_some end q)
    own (Some a) f i n q =
        ap (end_or_present v o.client o.file.server)
        (find_back p w.ended rows n ∙ ap (λ z. find p (map ev.crashed_life (map (life_of_association site.node.state.config z) site.node.state.associations))) (m.id ∙ ap (λ j. record { 0 = j }) (sym i))
        ∙ rows_own site.node.state.config o.client o.file.server o.life site.node.state.associations a f (known_life w c site there o a f i n kn)) ∙ q

    go : (x : Option LeaseLife) → ended_of w o.client o.file.server o.life ≡ x → (o.client.0 ≡ c.0) ⊎ (o.client.0 ≢ c.0) →
        lease_end_of v o.client o.file.server o.life ≡ Some end
    go (Some e) q i = ap (end_or_present v o.client o.file.server) (find_front p w.ended rows e q) ∙ ap (end_or_present w o.client o.file.server) (sym q) ∙ is
    go None q (inl i) =
        own (find (is_at o.file.server) site.node.state.associations) refl i q
        (ap (world.present_end w o.file.server) (sym there) ∙ ap (λ j. world.present_end w o.file.server (numbered w.clients j)) (sym i) ∙ ap (end_or_present w o.client o.file.server) (sym q) ∙ is)
    go None q (inr i) =
        ap (end_or_present v o.client o.file.server)
        (find_back p w.ended rows q ∙ rows_other site.node.state.config site.node.state.id o.client o.file.server o.life site.node.state.associations (ap (λ z. same_client z o.client) m.id ∙ ne_eqb c.0 o.client.0 (λ z. i (sym z))))
        ∙ ap (world.present_end w o.file.server) (numbered_other w.clients c.0 o.client.0 (ev.stopped_site site) (numbered_below w.clients c.0 site there).0 i) ∙ ap (end_or_present w o.client o.file.server) (sym q) ∙ is

pub crash_before : (w : World) (c : ClientId) (site : WorldClient) → site_of w c ≡ Some site → LivesHold w → (o : LogOwner) → IsKnown w.clients w.ended o.client o.file.server o.life → BeforeEnd w o → BeforeEnd (ev.with_site c (ev.stopped_site site) (ev.with_crashed_lives site w)) o
crash_before w c site there h o kn b = record { end = b.end; is = end_crashed w c site there h o kn b.end b.is; before = b.before }

-- Start: a client that does not run has no session, so each end belongs to a life that ended, or to another client.
pub end_started : (w : World) (c : ClientId) (site : WorldClient) → site_of w c ≡ Some site → site.node.running ≡ false → LivesHold w →
    (o : LogOwner) (end : Stamp) → lease_end_of w o.client o.file.server o.life ≡ Some end →
    lease_end_of (ev.with_site c (ev.started_site site) w) o.client o.file.server o.life ≡ Some end
end_started w c site there r h o end is = go (ended_of w o.client o.file.server o.life) refl (same_or_not o.client.0 c.0)
  where
    v : World
    v = ev.with_site c (ev.started_site site) w

    none : (a : Option Association) → find (is_at o.file.server) site.node.state.associations ≡ a → cl.lease_at a ≡ None
    none None e = refl
    none (Some a) e = ap (option_map cl.lease_of_session) ((h.lives.sites c site there).stopped r a (found_has o.file.server site.node.state.associations a e).0).session

    go : (x : Option LeaseLife) → ended_of w o.client o.file.server o.life ≡ x → (o.client.0 ≡ c.0) ⊎ (o.client.0 ≢ c.0) →
        lease_end_of v o.client o.file.server o.life ≡ Some end
    go (Some e) q i = ap (end_or_present v o.client o.file.server) q ∙ ap (end_or_present w o.client o.file.server) (sym q) ∙ is
    go None q (inl i) =
        absurd (none_not_some end
        (ap (lease.end_at site.node.state.config) (sym (none (find (is_at o.file.server) site.node.state.associations) refl)) ∙ ap (world.present_end w o.file.server) (sym there) ∙ ap (λ j. world.present_end w o.file.server (numbered w.clients j)) (sym i)
        ∙ ap (end_or_present w o.client o.file.server) (sym q) ∙ is))
    go None q (inr i) = ap (end_or_present v o.client o.file.server) q ∙ ap (world.present_end w o.file.server) (numbered_other w.clients c.0 o.client.0 (ev.started_site site) (numbered_below w.clients c.0 site there).0 i) ∙ ap (end_or_present w o.client o.file.server) (sym q) ∙ is

pub start_before : (w : World) (c : ClientId) (site : WorldClient) → site_of w c ≡ Some site → site.node.running ≡ false → LivesHold w → (o : LogOwner) → BeforeEnd w o → BeforeEnd (ev.with_site c (ev.started_site site) w) o
start_before w c site there r h o b = record { end = b.end; is = end_started w c site there r h o b.end b.is; before = b.before }

-- Advance: the life of what is pending is among those that are looked at.
pub pending_known : (P Q : LogOwner → Type 0) (es : List LogEntry) → ((o : LogOwner) → Has o (map owner_of es) → P o → Q o) → PendingAll P es → PendingAll Q es
pending_known P Q [] f h = h
pending_known P Q (e ∷ es) f h = record { one = λ q. f e.of (inl refl) (h.one q); rest = pending_known P Q es (λ o i. f o (inr i)) h.rest }

pub row_of : (w : World) → LivesHold w → (o : LogOwner) → Has o (map owner_of w.log) → BeforeEnd w o → RowOf w o
row_of w h o i b = go (h.known.owners o i) (ended_of w o.client o.file.server o.life) refl
  where
    in_front : (xs ys : List LeaseLife) (e : LeaseLife) → Rattle.st_laws_pages.specs.Fates.Fates.Has e xs → Rattle.st_laws_pages.specs.Fates.Fates.Has e (xs ++ ys)
    in_front [] ys e i = absurd i
    in_front (x ∷ xs) ys e (inl q) = inl q
    in_front (x ∷ xs) ys e (inr i) = inr (in_front xs ys e i)

    in_back : (xs ys : List LeaseLife) (e : LeaseLife) → Rattle.st_laws_pages.specs.Fates.Fates.Has e ys → Rattle.st_laws_pages.specs.Fates.Fates.Has e (xs ++ ys)
    in_back [] ys e i = i
    in_back (x ∷ xs) ys e i = inr (in_back xs ys e i)

    as_has : (xs : List LeaseLife) (e : LeaseLife) → Has e xs → Rattle.st_laws_pages.specs.Fates.Fates.Has e xs
    as_has [] e i = absurd i
    as_has (x ∷ xs) e (inl q) = inl q
    as_has (x ∷ xs) e (inr i) = inr (as_has xs e i)

    of_life : (e : LeaseLife) → e.client ≡ o.client → e.server ≡ o.file.server → e.life.0 ≡ o.life.0 → ev.is_of_life_over e 0 o ≡ true
    of_life e c s l =
        ap (λ z. z && (same_server o.file.server e.server && (o.life.0 == e.life.0))) (eq-eqb o.client.0 e.client.0 (ap (λ (x : ClientId). x.0) (sym c)))
        ∙ ap (λ z. z && (o.life.0 == e.life.0)) (eq-eqb o.file.server.0 e.server.0 (ap (λ (x : ServerId). x.0) (sym s))) ∙ eq-eqb o.life.0 e.life.0 (sym l)

    ended : (e : LeaseLife) → ended_of w o.client o.file.server o.life ≡ Some e → RowOf w o
    ended e q =
        let z = row_is o.client o.file.server o.life w.ended e q in
        let x = h.lives.ends e z.0 in
        let m = h.lives.sites e.client x.site x.there in
        record {
          row = e;
          there = in_back (present_lives w.clients) w.ended e (as_has w.ended e z.0);
          its = of_life e z.1 z.2 (ap (λ (l : Life). l.0) z.3);
          end_is = ap (end_or_present w o.client o.file.server) (sym q);
          clock = m.clock;
          ticks = ap (λ (c : ClientId). numbered w.clocks c.0) (sym z.1) ∙ m.ticks;
        }

    present : (ev.present_life w o.client o.file.server).0 ≡ o.life.0 → ended_of w o.client o.file.server o.life ≡ None → RowOf w o
    present q n = at_site o.client.0 refl (numbered w.clients o.client.0) refl (ap (end_or_present w o.client o.file.server) (sym n) ∙ b.is) q
      where
        at_site : (j : ℕ) → o.client.0 ≡ j → (s : Option WorldClient) → numbered w.clients j ≡ s → world.present_end w o.file.server (numbered w.clients o.client.0) ≡ Some b.end → (ev.present_life w o.client o.file.server).0 ≡ o.life.0 → RowOf w o
        at_site zero j s f e l = absurd (none_not_some b.end (ap (λ x. world.present_end w o.file.server (numbered w.clients x)) (sym j) ∙ e))
        at_site (suc k) j None f e l = absurd (none_not_some b.end (ap (world.present_end w o.file.server) (sym f) ∙ ap (λ x. world.present_end w o.file.server (numbered w.clients x)) (sym j) ∙ e))
        at_site (suc k) j (Some site) f e l = at (find (is_at o.file.server) site.node.state.associations) refl
          where
            there : numbered w.clients o.client.0 ≡ Some site
            there = ap (numbered w.clients) j ∙ f

            m : NodeHolds w.config w.clocks w.ended o.client site.node
            m = h.lives.sites o.client site there

            end : cl.lease_end_with site.node.state o.file.server ≡ Some b.end
            end = ap (world.present_end w o.file.server) (sym there) ∙ e

            at : (x : Option Association) → find (is_at o.file.server) site.node.state.associations ≡ x → RowOf w o
            at None g = absurd (none_not_some b.end (ap (λ y. lease.end_at site.node.state.config (cl.lease_at y)) (sym g) ∙ end))
            at (Some a) g =
                let y = found_has o.file.server site.node.state.associations a g in
                let row : LeaseLife = life_of_association site.node.state.config site.node.state.id a in
                record {
                  row = row;
                  there = in_front (present_lives w.clients) w.ended row (as_has (present_lives w.clients) row (present_in w.clients k site row f (has_map_in (life_of_association site.node.state.config site.node.state.id) site.node.state.associations a y.0)));
                  its = of_life row m.id y.1 (ap (λ x. (world.life_at x).0) (sym g) ∙ ap (λ x. (ev.life_of_site o.file.server x).0) (sym there) ∙ l);
                  end_is =
                      ap (λ x. lease.end_at site.node.state.config (cl.lease_at x)) (sym g) ∙ ap (world.present_end w o.file.server) (sym there) ∙ ap (end_or_present w o.client o.file.server) (sym n);
                  clock = m.clock;
                  ticks = m.ticks;
                }

    go : IsKnown w.clients w.ended o.client o.file.server o.life → (x : Option LeaseLife) → ended_of w o.client o.file.server o.life ≡ x → RowOf w o
    go k (Some e) q = ended e q
    go (inl (e, z)) None q = absurd (none_not_some e (sym q ∙ z))
    go (inr z) None q = present z q
