-- The lives in the world: every event keeps what holds of them.
use Rattle.st_lemmas.proofs.Words
use Words.{◌≡◌, ◌≤◌, ◌⊎◌, Bool, true, false, List, [], ◌∷◌, ◌++◌, Option, Some, None, Ok, refl, sym, ap, ◌∙◌, subst, inl, inr, arith, leb-true, find, map}
use Words.{option_map, Config, ClientId, ServerId, Life, Stamp, Note, Output, DirtyPage, Phase, Change, LogEntry, LogOwner, IssuedCommand, LeaseLife}
use Words.nodes
use Words.notes
use Words.outputs
use Words.phases
use Words.FlatLog as log
use Words.ClientLease as lease
use Words.Client as cl
use Words.ClientState.{Association, ClientState, ClientSession}
use Words.World as world
use Words.World.{World, WorldClient, site_of, is_life_of, life_of_association, lives_of}
use Words.Events as ev
use Words.Events.{WorldTurn, client_says, client_says_all, client_notes}
use Words.Lists.{Has}
use Words.Tables.{has_append, has_map}
use Words.Lengths.{nothing_after}
use Rattle.st_laws_steps.specs.Client.Losses.{Fit, is_ended}
use Rattle.st_laws_steps.specs.Lives.Lives.{rows_said, ended_rows, rows_lost, LifeNext, Pairwise, Stepped, clock_in, IsKnown, IsBelow, IsStopped, NodeHolds}
use Rattle.st_laws_steps.specs.Lives.Lives.{LivesAreKept, AllKnown, owner_of, LivesHold}
use Rattle.st_laws_pages.proofs.Lives.Lives.{find_front, find_back, rows_own}
use Rattle.st_laws_steps.proofs.Lives.Associations.{own_found, lost_has, lost_found, LostOf}
use Rattle.st_laws_pages.proofs.Lives.NodeTurns.{NewRow, GoesOrEnded, Turned, turned_lives, turned_all}
use Words.{append_assoc}

-- found in the front or in the back
found_in : (p : LeaseLife → Bool) (xs ys : List LeaseLife) (e : LeaseLife) → find p ys ≡ Some e → (x : LeaseLife) × (find p (xs ++ ys) ≡ Some x)
found_in p xs ys e i = go (find p xs) refl
  where
    go : (o : Option LeaseLife) → find p xs ≡ o → (x : LeaseLife) × (find p (xs ++ ys) ≡ Some x)
    go None q = (e, find_back p xs ys q ∙ i)
    go (Some x) q = (x, find_front p xs ys x q)

-- A step.
module _ (ts : List Stamp) (es : List LeaseLife) (c : ClientId) (n m : cl.ClientNode) (out : List Output) (k : Config) (r : n.running ≡ true) (q : m.running ≡ true) (st : Stepped (clock_in ts c) c n.state m.state out) (h : NodeHolds k ts es c n) where
  abbrev now : Stamp
  now = clock_in ts c

  abbrev N : Association → Association → Type 0
  N a b = LifeNext now n.state a b

  up : (a b : Association) → N a b → a.life.0 ≤ b.life.0
  up a b p = go (is_ended n.state.config now a.session) refl
    where
      go : (x : Bool) → is_ended n.state.config now a.session ≡ x → a.life.0 ≤ b.life.0
      go true e = let z = ap (λ (l : Life). l.0) (p.lost e) in omega (arith, z)
      go false e = let z = ap (λ (l : Life). l.0) (p.lasts e).0 in omega (arith, z)

  lift : (a b : Association) → N a b → (e : LeaseLife) → IsBelow n.running e a → IsBelow m.running e b
  lift a b p e u = let z = up a b p in let x = u.up_to in record { up_to = omega (arith, z, x); below = λ w. let y = u.below r in omega (arith, z, y) }

  goes : (a b : Association) → Has a n.state.associations → N a b → GoesOrEnded c (es ++ rows_lost c n.state now n.state.associations) a b
  goes a b i p = go (is_ended n.state.config now a.session) refl
    where
      go : (x : Bool) → is_ended n.state.config now a.session ≡ x → GoesOrEnded c (es ++ rows_lost c n.state now n.state.associations) a b
      go true e = inr (λ l w. found_in (is_life_of c a.server l) es _ _ (lost_found c n.state now a.server l n.state.associations a (own_found n.state.associations h.once a i) e w))
      go false e = inl (ap (λ (l : Life). l.0) (p.lasts e).0)

  -- the lease that was lost had an end, which the clock has reached
  ended_over : (a : Association) → Has a n.state.associations → is_ended n.state.config now a.session ≡ true → (t : Stamp) × (cl.lease_end_with n.state a.server ≡ Some t) × (t.0 ≤ now.0)
  ended_over a i e = go a.session refl e
    where
      go : (s : Option ClientSession) → a.session ≡ s → is_ended n.state.config now s ≡ true → (t : Stamp) × (cl.lease_end_with n.state a.server ≡ Some t) × (t.0 ≤ now.0)
      go None w e = cc
      go (Some s) w e = (
        lease.end_of n.state.config s.lease,
        ap (λ o. lease.end_at n.state.config (cl.lease_at o)) (own_found n.state.associations h.once a i) ∙ ap (λ o. lease.end_at n.state.config (option_map cl.lease_of_session o)) w,
        leb-true (lease.end_of n.state.config s.lease).0 now.0 e,
      )

  new : (e : LeaseLife) → Has e (rows_lost c n.state now n.state.associations) → NewRow N ts c n m (rows_lost c n.state now n.state.associations) e
  new e i = go (lost_has c n.state now n.state.associations e i)
    where
      go : LostOf c n.state now n.state.associations e → NewRow N ts c n m (rows_lost c n.state now n.state.associations) e
      go l =
          record {
            a = l.a;
            has = l.has;
            client = ap (λ (z : LeaseLife). z.client) l.is;
            server = ap (λ (z : LeaseLife). z.server) l.is;
            life = ap (λ (z : LeaseLife). z.life) l.is;
            running = r;
            self = lost_found c n.state now l.a.server l.a.life n.state.associations l.a (own_found n.state.associations h.once l.a l.has) l.ended refl ∙ ap (λ z. Some z) (sym l.is);
            below = λ b p. let z = ap (λ (x : Life). x.0) (p.lost l.ended) in let y = ap (λ (x : LeaseLife). x.life.0) l.is in record { up_to = omega (arith, z, y); below = λ w. omega (arith, z, y) };
            over = λ w. let z = ended_over l.a l.has l.ended in (z.0, ap (λ (x : LeaseLife). x.end) l.is ∙ z.1, z.2);
          }

  pub step_turned : Turned N ts es c n m (rows_lost c n.state now n.state.associations)
  step_turned = record { id = st.id; config = st.config; servers = λ a b p. p.server; pairs = st.pairs; fits = λ a b p f. p.fit f; up = up; lifts = lift; goes = goes; stopped = λ w b i. absurd (no w); new = new }
    where
      no : m.running ≡ false → ⊥
      no w = cc (q, w)

-- A crash and a start.
pairs_map : (f : Association → Association) (al : List Association) → Pairwise (λ a b. f a ≡ b) al (map f al)
pairs_map f [] = tt
pairs_map f (a ∷ al) = record { one = refl; rest = pairs_map f al }

pub fresh_fit : (l : Life) (s : ServerId) → Fit (cl.association_of l s)
fresh_fit l s = record { mapped = λ ino p d e. absurd (none d e); fresh = tt }
  where
    none : (d : DirtyPage) → ◌≡◌ {A = Option DirtyPage} None (Some d) → ⊥
    none d e = cc

module _ (ts : List Stamp) (es : List LeaseLife) (c : ClientId) (n : cl.ClientNode) (k : Config) (h : NodeHolds k ts es c n) where
  abbrev crash_rows : List LeaseLife
  crash_rows = map ev.crashed_life (lives_of n.state)

  abbrev Crashes : Association → Association → Type 0
  Crashes a b = cl.crashed_association a ≡ b

  row_found : (a : Association) → Has a n.state.associations → find (is_life_of c a.server a.life) crash_rows ≡ Some (ev.crashed_life (life_of_association n.state.config c a))
  row_found a i =
      ap (λ z. find (is_life_of c a.server a.life) (map ev.crashed_life (map (life_of_association n.state.config z) n.state.associations))) h.id
      ∙ rows_own n.state.config c a.server a.life n.state.associations a (own_found n.state.associations h.once a i) refl

  crash_new : n.running ≡ true → (e : LeaseLife) → Has e crash_rows → NewRow Crashes ts c n (cl.crash_node n) crash_rows e
  crash_new r e i = go (has_map ev.crashed_life (lives_of n.state) e i)
    where
      at : (x : LeaseLife) → e ≡ ev.crashed_life x → (a : Association) × Has a n.state.associations × (x ≡ life_of_association n.state.config n.state.id a) → NewRow Crashes ts c n (cl.crash_node n) crash_rows e
      at x q z =
          let w : e ≡ ev.crashed_life (life_of_association n.state.config c z.0) = q ∙ ap ev.crashed_life z.2 ∙ ap (λ d. ev.crashed_life (life_of_association n.state.config d z.0)) h.id in
          record {
            a = z.0;
            has = z.1;
            client = ap (λ (y : LeaseLife). y.client) w;
            server = ap (λ (y : LeaseLife). y.server) w;
            life = ap (λ (y : LeaseLife). y.life) w;
            running = r;
            self = row_found z.0 z.1 ∙ ap (λ y. Some y) (sym w);
            below = λ b p. let y = ap (λ (y : LeaseLife). y.life.0) w in let v = ap (λ (y : Association). y.life.0) p in record { up_to = omega (arith, y, v); below = λ u. cc u };
            over = λ u. absurd (no (sym (ap (λ (y : LeaseLife). y.crashed) w) ∙ u));
          }
        where
          no : ◌≡◌ {A = Bool} true false → ⊥
          no u = cc

      go : (x : LeaseLife) × Has x (lives_of n.state) × (e ≡ ev.crashed_life x) → NewRow Crashes ts c n (cl.crash_node n) crash_rows e
      go z = at z.0 z.2 (has_map (life_of_association n.state.config n.state.id) n.state.associations z.0 z.1)

  pub crash_turned : n.running ≡ true → Turned Crashes ts es c n (cl.crash_node n) crash_rows
  unfolding cl.crash
  crash_turned r =
      record {
        id = refl;
        config = refl;
        servers = λ a b p. ap (λ (y : Association). y.server) p;
        pairs = pairs_map cl.crashed_association n.state.associations;
        fits = λ a b p f. subst Fit p (fresh_fit a.life a.server);
        up = λ a b p. let v = ap (λ (y : Association). y.life.0) p in omega (arith, v);
        lifts = λ a b p e u. let y = u.up_to in let v = ap (λ (y : Association). y.life.0) p in record { up_to = omega (arith, y, v); below = λ w. cc w };
        goes = λ a b i p. inl (ap (λ (y : Association). y.life.0) p);
        stopped = λ w b i. stop b (has_map cl.crashed_association n.state.associations b i);
        new = crash_new r;
      }
    where
      stop : (b : Association) → (a : Association) × Has a n.state.associations × (b ≡ cl.crashed_association a) → IsStopped (es ++ crash_rows) c b
      stop b (a, i, q) = let z = found_in (is_life_of c a.server a.life) es crash_rows _ (row_found a i) in subst (IsStopped (es ++ crash_rows) c) (sym q) (record { session = refl; row = z.0; is = z.1 })

  abbrev Starts : Association → Association → Type 0
  Starts a b = cl.started_association a ≡ b

  pub start_turned : n.running ≡ false → Turned Starts ts es c n (cl.start_node n) []
  unfolding cl.start
  start_turned r =
      record {
        id = refl;
        config = refl;
        servers = λ a b p. ap (λ (y : Association). y.server) p;
        pairs = pairs_map cl.started_association n.state.associations;
        fits = λ a b p f. subst Fit p (fresh_fit (cl.next_life a.life) a.server);
        up = λ a b p. let v = ap (λ (y : Association). y.life.0) p in omega (arith, v);
        lifts = λ a b p e u. let y = u.up_to in let v = ap (λ (y : Association). y.life.0) p in record { up_to = omega (arith, y, v); below = λ w. omega (arith, y, v) };
        goes = λ a b i p. inr (λ l w. ended a i l w);
        stopped = λ w b i. absurd (no w);
        new = λ e i. absurd i;
      }
    where
      no : ◌≡◌ {A = Bool} true false → ⊥
      no u = cc

      ended : (a : Association) → Has a n.state.associations → (l : Life) → a.life.0 ≡ l.0 → (e : LeaseLife) × (find (is_life_of c a.server l) (es ++ []) ≡ Some e)
      ended a i l w = let z = h.stopped r a i in (z.row, find_front (is_life_of c a.server l) es [] z.row (ap (λ y. find (is_life_of c a.server y) es) (sym (ap (λ n. record { 0 = n }) w)) ∙ z.is))

-- What a client says.
pub owners_more : (es : List LogEntry) (e : LogEntry) → map owner_of (es ++ e ∷ []) ≡ map owner_of es ++ e.of ∷ []
owners_more [] e = refl
owners_more (x ∷ es) e = ap (λ z. x.of ∷ z) (owners_more es e)

pub record Said (c : ClientId) (rows : List LeaseLife) (v u : World) : Type 0 where
  pub config : u.config ≡ v.config
  pub clocks : u.clocks ≡ v.clocks
  pub clients : u.clients ≡ v.clients
  pub ended : u.ended ≡ v.ended ++ rows
  pub known : (es : List LeaseLife) → AllKnown v.clients es v.commands (map owner_of v.log) → AllKnown v.clients es u.commands (map owner_of u.log)

same_said : (c : ClientId) (v u : World) → u.config ≡ v.config → u.clocks ≡ v.clocks → u.clients ≡ v.clients → u.ended ≡ v.ended → u.commands ≡ v.commands → u.log ≡ v.log → Said c [] v u
same_said c v u k t s e x l =
    record {
      config = k;
      clocks = t;
      clients = s;
      ended = e ∙ nothing_after v.ended;
      known = λ es a. subst (λ z. AllKnown v.clients es z (map owner_of u.log)) (sym x) (subst (λ z. AllKnown v.clients es v.commands (map owner_of z)) (sym l) a);
    }

pub known_owner : (cs : List WorldClient) (es : List LeaseLife) (xs : List IssuedCommand) (os : List LogOwner) (o : LogOwner) → IsKnown cs es o.client o.file.server o.life → AllKnown cs es xs os → AllKnown cs es xs (os ++ o ∷ [])
known_owner cs es xs os o k a = record { commands = a.commands; owners = λ p i. go p (has_append os (o ∷ []) p i) }
  where
    go : (p : LogOwner) → Has p os ⊎ Has p (o ∷ []) → IsKnown cs es p.client p.file.server p.life
    go p (inl i) = a.owners p i
    go p (inr (inl e)) = subst (λ (z : LogOwner). IsKnown cs es z.client z.file.server z.life) (sym e) k
    go p (inr (inr i)) = absurd i

known_command : (cs : List WorldClient) (es : List LeaseLife) (xs : List IssuedCommand) (os : List LogOwner) (x : IssuedCommand) → IsKnown cs es x.client x.server x.life → AllKnown cs es xs os → AllKnown cs es (xs ++ x ∷ []) os
known_command cs es xs os x k a = record { commands = λ y i. go y (has_append xs (x ∷ []) y i); owners = a.owners }
  where
    go : (y : IssuedCommand) → Has y xs ⊎ Has y (x ∷ []) → IsKnown cs es y.client y.server y.life
    go y (inl i) = a.commands y i
    go y (inr (inl e)) = subst (λ (z : IssuedCommand). IsKnown cs es z.client z.server z.life) (sym e) k
    go y (inr (inr i)) = absurd i

-- one more entry, or one more command, of the present life
entry_said : (c : ClientId) (v : World) (o : LogOwner) (ch : Change) → o.life ≡ ev.present_life v o.client o.file.server → (u : World) → u.config ≡ v.config → u.clocks ≡ v.clocks → u.clients ≡ v.clients → u.ended ≡ v.ended → u.commands ≡ v.commands → u.log ≡ v.log ++ log.pending o ch ∷ [] → Said c [] v u
entry_said c v o ch q u k t s e x l =
    record {
      config = k;
      clocks = t;
      clients = s;
      ended = e ∙ nothing_after v.ended;
      known = λ es a. subst (λ z. AllKnown v.clients es z (map owner_of u.log)) (sym x) (subst (λ z. AllKnown v.clients es v.commands (map owner_of z)) (sym l)
          (subst (AllKnown v.clients es v.commands) (sym (owners_more v.log (log.pending o ch))) (known_owner v.clients es v.commands (map owner_of v.log) o (inr (ap (λ (z : Life). z.0) (sym q))) a)));
    }

pub says_one : (c : ClientId) (before : ClientState) (o : Output) (sc : WorldTurn) → Said c (rows_said c before o) sc.world (client_says sc c before o).world
unfolding client_says ev.sends ev.submits ev.answers_with client_notes ev.accepts ev.patches ev.loses log.accept log.patch
says_one c before (outputs.Send m) sc = same_said c sc.world _ refl refl refl refl refl refl
says_one c before (outputs.Answer op a) sc = same_said c sc.world _ refl refl refl refl refl refl
says_one c before (outputs.Submit n at what) sc = go (site_of sc.world c) refl
  where
    go : (o : Option WorldClient) → site_of sc.world c ≡ o → Said c [] sc.world (ev.submits sc c o n at what).world
    go None e = same_said c sc.world _ refl refl refl refl refl refl
    go (Some site) e =
        record {
          config = refl;
          clocks = refl;
          clients = refl;
          ended = nothing_after sc.world.ended;
          known = λ es a. known_command sc.world.clients es sc.world.commands (map owner_of sc.world.log) (ev.issued sc.world c site n at what) (inr (ap (λ o. (ev.life_of_site (world.server_of_disk sc.world at) o).0) e)) a;
        }
says_one c before (outputs.Note n) sc = note n
  where
    note : (n : Note) → Said c (rows_said c before (outputs.Note n)) sc.world (client_notes sc c before n).world
    note (notes.Accepted f p bytes) = entry_said c sc.world (log.owner c (ev.present_life sc.world c f.server) f p) (Rattle.st_rules.specs.declared.log.Change.TheVariants.Write bytes) refl _ refl refl refl refl refl refl
    note (notes.Patched f p at bytes) = entry_said c sc.world (log.owner c (ev.present_life sc.world c f.server) f p) (Rattle.st_rules.specs.declared.log.Change.TheVariants.Patch at bytes) refl _ refl refl refl refl refl refl
    note (notes.Lost s life) = record { config = refl; clocks = refl; clients = refl; ended = refl; known = λ es a. a }
    note n = same_said c sc.world _ refl refl refl refl refl refl

said_then : (c : ClientId) (r s : List LeaseLife) (v u x : World) → Said c r v u → Said c s u x → Said c (r ++ s) v x
said_then c r s v u x a b =
    record {
      config = b.config ∙ a.config;
      clocks = b.clocks ∙ a.clocks;
      clients = b.clients ∙ a.clients;
      ended = b.ended ∙ ap (λ z. z ++ s) a.ended ∙ append_assoc v.ended r s;
      known = λ es z. subst (λ y. AllKnown y es x.commands (map owner_of x.log)) a.clients (b.known es (subst (λ y. AllKnown y es u.commands (map owner_of u.log)) (sym a.clients) (a.known es z)));
    }

pub says_lives : (c : ClientId) (before : ClientState) (os : List Output) (sc : WorldTurn) → Said c (ended_rows c before os) sc.world (client_says_all c before os sc).world
unfolding client_says_all ended_rows
says_lives c before [] sc = same_said c sc.world sc.world refl refl refl refl refl refl
says_lives c before (o ∷ os) sc = said_then c (rows_said c before o) (ended_rows c before os) sc.world (client_says sc c before o).world _ (says_one c before o sc) (says_lives c before os (client_says sc c before o))

-- flush steps change none of it
pub flush_lives : (c : ClientId) (s : ClientState) (ss : List ServerId) (w : World) → LivesHold w → LivesHold (ev.flushes c s ss w)
unfolding ev.flushes
flush_lives c s [] w h = h
flush_lives c s (x ∷ ss) w h = flush_lives c s ss (ev.flushed_at w c x s) (in_phase (cl.lease_end_with s x) (cl.phase_with s x (world.clock_of w (nodes.Client c))))
  where
    under : (o : Option Stamp) → LivesHold (ev.flushed_under w c x o)
    under None = h
    under (Some e) = record { lives = h.lives; known = h.known }

    in_phase : (o : Option Stamp) (p : Option Phase) → LivesHold (ev.flushed_in w c x o p)
    in_phase o (Some phases.Flush) = under o
    in_phase o (Some phases.Valid) = h
    in_phase o (Some phases.Renewal) = h
    in_phase o (Some phases.Quiesce) = h
    in_phase o (Some phases.Expired) = h
    in_phase o None = h

-- by the parts of a world
pub lives_by : (v : World) (k : Config) (ts : List Stamp) (cs : List WorldClient) (es : List LeaseLife) → v.config ≡ k → v.clocks ≡ ts → v.clients ≡ cs → v.ended ≡ es → LivesAreKept k ts cs es → AllKnown cs es v.commands (map owner_of v.log) → LivesHold v
lives_by v k ts cs es a b d e h n =
    record {
      lives = subst (λ z. LivesAreKept v.config v.clocks v.clients z) (sym e) (subst (λ z. LivesAreKept v.config v.clocks z es) (sym d) (subst (λ z. LivesAreKept v.config z cs es) (sym b) (subst (λ z. LivesAreKept z ts cs es) (sym a) h)));
      known = subst (λ z. AllKnown v.clients z v.commands (map owner_of v.log)) (sym e) (subst (λ z. AllKnown z es v.commands (map owner_of v.log)) (sym d) n);
    }

-- A step of a client.
pub client_lives : (w : World) (c : ClientId) (old site : WorldClient) (t : cl.NodeTurn) → site_of w c ≡ Some old → old.node ≡ site.node → old.node.running ≡ true → t.node.running ≡ true → Stepped (world.clock_of w (nodes.Client c)) c old.node.state t.node.state t.out → LivesHold w →
    LivesHold (ev.client_took w c site (Ok t)).world
unfolding ev.client_took
client_lives w c old site t there same r q st h =
    flush_lives c t.node.state (world.all_servers u) u
    (lives_by u w.config w.clocks (world.with_numbered c.0 now_site w.clients) (w.ended ++ rows) said.config said.clocks said.clients (said.ended ∙ ap (λ z. w.ended ++ z) (ap (λ (n : cl.ClientNode). ended_rows c n.state t.out) (sym same) ∙ st.rows))
    (turned_lives (LifeNext (clock_in w.clocks c) old.node.state) w.config w.clocks w.clients w.ended c old now_site t.node rows there refl turned h.lives)
    (said.known (w.ended ++ rows) (turned_all (LifeNext (clock_in w.clocks c) old.node.state) w.config w.clocks w.clients w.ended c old now_site t.node rows there refl turned h.lives w.commands (map owner_of w.log) h.known)))
  where
    now_site : WorldClient
    now_site = ev.at_node t.node site

    v : World
    v = ev.with_site c now_site w

    u : World
    u = (client_says_all c site.node.state t.out (ev.quiet v)).world

    rows : List LeaseLife
    rows = rows_lost c old.node.state (clock_in w.clocks c) old.node.state.associations

    turned : Turned (LifeNext (clock_in w.clocks c) old.node.state) w.clocks w.ended c old.node t.node rows
    turned = step_turned w.clocks w.ended c old.node t.node t.out w.config r q st (h.lives.sites c old there)

    said : Said c (ended_rows c site.node.state t.out) v u
    said = says_lives c site.node.state t.out (ev.quiet v)
