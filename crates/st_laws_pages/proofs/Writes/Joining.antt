-- The commands that a client's step adds, and its outstanding writes after it.
use Rattle.st_lemmas.proofs.Words
use Words.{◌≡◌, ◌≢◌, ℕ, suc, ◌+◌, ◌%◌, ◌≤◌, ◌⊎◌, Bool, true, false, List, [], ◌∷◌, Option, Some, None, refl, sym, ap, ◌∙◌, subst, inl, inr, arith, find, length}
use Words.{slice_get, is_some, ◌++◌, PageCommand}
use Words.{map, pred, BlockAt, Command, Tag, ClientId, Life, Stamp, Note, Output, ClientInput, DiskCommand, IssuedCommand}
use Words.commands
use Words.io
use Words.nodes
use Words.notes
use Words.outputs
use Words.reports
use Words.Client as cl
use Words.ClientState.{Association, ClientState, is_at}
use Words.Disks as disks
use Words.Events as ev
use Words.Events.{WorldTurn, client_notes, client_says, client_says_all}
use Words.World as world
use Words.World.{World, WorldClient, clock_of, life_with, numbered, site_of, with_numbered}
use Words.Lists.{Has}
use Words.Lookups.{some_is}
use Words.Numbers.{get_last, length_more, numbered_below, numbered_has, numbered_other, numbered_own}
use Words.Tables.{same_or_not}
use Rattle.st_laws_steps.specs.Client.Losses.{Fit, is_ended}
use Rattle.st_laws_steps.specs.Lives.Lives.{IsKnown, LivesHold, NodeHolds, Once, Pairwise, server_number}
use Rattle.st_laws_steps.proofs.Lives.Associations.{numbers_same, own_found}
use Rattle.st_laws_pages.proofs.Lives.NodeTurns.{row_is}
use Rattle.st_laws_pages.specs.Flush.Flush.{NumbersApart}
use Rattle.st_laws_pages.proofs.Flush.Adding.{After, after_clients, after_disk, after_numbered}
use Rattle.st_laws_pages.proofs.Lives.Turning.{says_one}
use Rattle.st_laws_pages.proofs.Lives.Lasting.{flush_parts}
use Rattle.st_laws_pages.proofs.Causes.Placed.{Placed, PlacedOne}
use Rattle.st_laws_pages.specs.Writes.Writes.{IsListed, IsOut, ListedHold, ListedOut, ListedSince, OpenHold, WritesOnce}
use Rattle.st_laws_pages.proofs.Writes.Listing.{write_said}
use Rattle.st_laws_pages.proofs.Writes.Submitting.{IsSaid, StepComes, ToldAsWrites, step_comes}
use Rattle.st_laws_pages.proofs.Writes.Walking.{AfterStep, EndedBy, ListedAt, StepKeeps, step_keeps}
use Rattle.st_laws_pages.proofs.Causes.FlushSteps.{flushes_disks}
use Rattle.st_laws_pages.proofs.Causes.Commands.{at_more}
use Rattle.st_laws_pages.proofs.Flush.Flushing.{pair_of}

-- a command that these outputs submit
pub record IsNew (c : ClientId) (site : WorldClient) (size : ℕ) (os : List Output) (x : IssuedCommand) (d : DiskCommand) : Type 0 where
  pub at : BlockAt
  pub what : Command
  pub said : Has (outputs.Submit x.number at what) os
  pub client : x.client ≡ c
  pub starts : x.starts ≡ site.starts
  pub server : x.server ≡ world.server (pred at.disk.0 % size + 1)
  pub life : x.life ≡ life_with site.node.state x.server
  pub what_is : d.what ≡ what
  pub fresh : d.sample ≡ None

-- Commands go by one number at the disks and at their clients.
pub record Counted (c : ClientId) (site : WorldClient) (size : ℕ) (sc : WorldTurn) : Type 0 where
  pub own : site_of sc.world c ≡ Some site
  pub counts : length sc.world.commands ≡ length sc.world.disks.commands
  pub servers : length sc.world.servers ≡ size

abbrev pub IsAt : WorldTurn → ℕ → IssuedCommand → DiskCommand → Type 0
IsAt sc k x d = (numbered sc.world.commands k ≡ Some x) × (disks.command_at sc.world.disks.commands k ≡ Some d)

-- one output
record OneSays (c : ClientId) (site : WorldClient) (size : ℕ) (o : Output) (sc u : WorldTurn) : Type 0 where
  counts : length u.world.commands ≡ length u.world.disks.commands
  servers : length u.world.servers ≡ size
  from : (k : ℕ) (x : IssuedCommand) (d : DiskCommand) → IsAt u k x d → IsAt sc k x d ⊎ IsNew c site size (o ∷ []) x d

one_says : (c : ClientId) (before : ClientState) (site : WorldClient) (size : ℕ) (o : Output) (sc : WorldTurn) → Counted c site size sc →
    OneSays c site size o sc (client_says sc c before o)
unfolding client_says client_notes ev.sends ev.submits ev.answers_with ev.accepts ev.patches ev.loses
one_says c before site size (outputs.Send m) sc h = record { counts = h.counts; servers = h.servers; from = λ k x d i. inl i }
one_says c before site size (outputs.Answer op a) sc h = record { counts = h.counts; servers = h.servers; from = λ k x d i. inl i }
one_says c before site size (outputs.Submit number at what) sc h = go (site_of sc.world c) h.own
  where
    go : (o : Option WorldClient) → o ≡ Some site → OneSays c site size (outputs.Submit number at what) sc (ev.submits sc c o number at what)
    go None e = cc
    go (Some s) e =
        record {
          counts = length_more sc.world.commands y ∙ ap suc h.counts ∙ sym (length_more sc.world.disks.commands (disks.new_command what));
          servers = h.servers;
          from = λ k x d i. new k x d (at_more sc.world.commands sc.world.disks.commands y x (disks.new_command what) d k h.counts i.0 i.1);
        }
      where
        y : IssuedCommand
        y = ev.issued sc.world c s number at what

        new : (k : ℕ) (x : IssuedCommand) (d : DiskCommand) → IsAt sc k x d ⊎ ((x ≡ y) × (d ≡ disks.new_command what)) →
            IsAt sc k x d ⊎ IsNew c site size (outputs.Submit number at what ∷ []) x d
        new k x d (inl i) = inl i
        new k x d (inr (q, r)) =
            inr
            (record {
              at = at;
              what = what;
              said = inl (ap (λ (z : IssuedCommand). outputs.Submit z.number at what) q);
              client = ap (λ (z : IssuedCommand). z.client) q;
              starts = ap (λ (z : IssuedCommand). z.starts) q ∙ ap (λ (z : WorldClient). z.starts) (some_is e);
              server = ap (λ (z : IssuedCommand). z.server) q ∙ ap (λ n. world.server (pred at.disk.0 % n + 1)) h.servers;
              life = ap (λ (z : IssuedCommand). z.life) q ∙ ap (λ (z : WorldClient). life_with z.node.state y.server) (some_is e) ∙
                  ap (life_with site.node.state) (ap (λ (z : IssuedCommand). z.server) (sym q));
              what_is = ap (λ (z : DiskCommand). z.what) r;
              fresh = ap (λ (z : DiskCommand). z.sample) r;
            })
one_says c before site size (outputs.Note n) sc h = note n
  where
    note : (n : Note) → OneSays c site size (outputs.Note n) sc (client_notes sc c before n)
    note (notes.Accepted f p bytes) = record { counts = h.counts; servers = h.servers; from = λ k x d i. inl i }
    note (notes.Patched f p at bytes) = record { counts = h.counts; servers = h.servers; from = λ k x d i. inl i }
    note (notes.Lost s life) = record { counts = h.counts; servers = h.servers; from = λ k x d i. inl i }
    note n = record { counts = h.counts; servers = h.servers; from = λ k x d i. inl i }

new_more : (c : ClientId) (site : WorldClient) (size : ℕ) (os ps : List Output) (x : IssuedCommand) (d : DiskCommand) → ((o : Output) → Has o os → Has o ps) →
    IsNew c site size os x d → IsNew c site size ps x d
new_more c site size os ps x d f n =
    record {
      at = n.at;
      what = n.what;
      said = f _ n.said;
      client = n.client;
      starts = n.starts;
      server = n.server;
      life = n.life;
      what_is = n.what_is;
      fresh =
          n.fresh;
    }

-- all outputs
pub all_say : (c : ClientId) (before : ClientState) (site : WorldClient) (size : ℕ) (os : List Output) (sc : WorldTurn) → Counted c site size sc →
    (k : ℕ) (x : IssuedCommand) (d : DiskCommand) → IsAt (After c before sc os) k x d →
    IsAt sc k x d ⊎ IsNew c site size os x d
unfolding client_says_all
all_say c before site size [] sc h k x d i = inl i
all_say c before site size (o ∷ os) sc h k x d i =
    go (all_say c before site size os u
    (record { own = ap (λ xs. numbered xs c.0) (says_one c before o sc).clients ∙ h.own; counts = one.counts; servers = one.servers }) k x d i)
  where
    u : WorldTurn
    u = client_says sc c before o

    one : OneSays c site size o sc u
    one = one_says c before site size o sc h

    first : IsAt sc k x d ⊎ IsNew c site size (o ∷ []) x d → IsAt sc k x d ⊎ IsNew c site size (o ∷ os) x d
    first (inl j) = inl j
    first (inr n) = inr (new_more c site size (o ∷ []) (o ∷ os) x d (λ p j. at p j) n)
      where
        at : (p : Output) → Has p (o ∷ []) → Has p (o ∷ os)
        at p (inl e) = inl e
        at p (inr j) = absurd j

    go : IsAt u k x d ⊎ IsNew c site size os x d → IsAt sc k x d ⊎ IsNew c site size (o ∷ os) x d
    go (inl j) = first (one.from k x d j)
    go (inr n) = inr (new_more c site size os (o ∷ os) x d (λ p j. inr j) n)

-- a write command that was submitted
pub record Submitted (c : ClientId) (site : WorldClient) (size : ℕ) (v : WorldTurn) (number : ℕ) (at to : BlockAt) (tag : Tag) (bytes : List ℕ) : Type 0 where
  pub place : ℕ
  pub command : IssuedCommand
  pub is : IsAt v place command (disks.new_command (commands.Write to tag bytes))
  pub client : command.client ≡ c
  pub starts : command.starts ≡ site.starts
  pub server : command.server ≡ world.server (pred at.disk.0 % size + 1)
  pub life : command.life ≡ life_with site.node.state command.server
  pub number_is : command.number ≡ number
  pub carries : is_some command.carries ≡ true

one_submitted : (c : ClientId) (before : ClientState) (site : WorldClient) (size : ℕ) (sc : WorldTurn) → Counted c site size sc →
    (n : ℕ) (at to : BlockAt) (tag : Tag) (bytes : List ℕ) →
    Submitted c site size (client_says sc c before (write_said n at to tag bytes)) n at to tag bytes
unfolding client_says ev.submits
one_submitted c before site size sc h n at to tag bytes = go (site_of sc.world c) h.own
  where
    what : Command
    what = commands.Write to tag bytes

    go : (o : Option WorldClient) → o ≡ Some site → Submitted c site size (ev.submits sc c o n at what) n at to tag bytes
    go None e = cc
    go (Some s) e =
        record {
          place = suc (length sc.world.commands);
          command = y;
          is = (
            get_last sc.world.commands y,
            ap (slice_get (sc.world.disks.commands ++ disks.new_command what ∷ [])) h.counts ∙
                get_last sc.world.disks.commands (disks.new_command what),
          );
          client = refl;
          starts = ap (λ (z : WorldClient). z.starts) (some_is e);
          server = ap (λ n. world.server (pred at.disk.0 % n + 1)) h.servers;
          life = ap (λ (z : WorldClient). life_with z.node.state y.server) (some_is e);
          number_is = refl;
          carries = refl;
        }
      where
        y : IssuedCommand
        y = ev.issued sc.world c s n at what

-- each write that the outputs submit is there
pub all_submitted : (c : ClientId) (before : ClientState) (site : WorldClient) (size : ℕ) (os : List Output) (sc : WorldTurn) → Counted c site size sc →
    (n : ℕ) (at to : BlockAt) (tag : Tag) (bytes : List ℕ) → Has (write_said n at to tag bytes) os →
    Submitted c site size (After c before sc os) n at to tag bytes
unfolding client_says_all
all_submitted c before site size [] sc h n at to tag bytes i = absurd i
all_submitted c before site size (o ∷ os) sc h n at to tag bytes (inl e) =
    subst (λ z. Submitted c site size (After c before (client_says sc c before z) os) n at to tag bytes) e
    (later (one_submitted c before site size sc h n at to tag bytes))
  where
    u : WorldTurn
    u = client_says sc c before (write_said n at to tag bytes)

    later : Submitted c site size u n at to tag bytes → Submitted c site size (After c before u os) n at to tag bytes
    later s =
        record {
          place = s.place;
          command = s.command;
          is = (after_numbered c before os u s.place s.command s.is.0, after_disk c before os u s.place _ s.is.1);
          client = s.client;
          starts = s.starts;
          server = s.server;
          life = s.life;
          number_is = s.number_is;
          carries = s.carries;
        }
all_submitted c before site size (o ∷ os) sc h n at to tag bytes (inr i) =
    all_submitted c before site size os (client_says sc c before o)
    (record { own = ap (λ xs. numbered xs c.0) (says_one c before o sc).clients ∙ h.own; counts = one.counts; servers = one.servers }) n at to tag bytes i
  where
    one : OneSays c site size o sc (client_says sc c before o)
    one = one_says c before site size o sc h

-- A write is for a disk of its file's server.
pub placed_at : (size : ℕ) (os : List Output) → Placed size os → (n : ℕ) (at to : BlockAt) (tag : Tag) (bytes : List ℕ) →
    Has (write_said n at to tag bytes) os → pred at.disk.0 % size + 1 ≡ tag.file.server.0
placed_at size [] h n at to tag bytes i = absurd i
placed_at size (o ∷ os) h n at to tag bytes (inl e) = subst (PlacedOne size) (sym e) h.one
placed_at size (o ∷ os) h n at to tag bytes (inr i) = placed_at size os h.rest n at to tag bytes i

-- A command of an existing client, at one of its servers, belongs to its present life or to one before.
pub life_low : (w : World) (c : ClientId) (site : WorldClient) → site_of w c ≡ Some site → LivesHold w → (b : Association) →
    Has b site.node.state.associations → (k : ℕ) (x : IssuedCommand) → numbered w.commands k ≡ Some x → x.client ≡ c → x.server ≡ b.server →
    x.life.0 ≤ b.life.0
life_low w c site there h b i k x is cx sx = go (h.known.commands x (numbered_has w.commands k x is))
  where
    m : NodeHolds w.config w.clocks w.ended c site.node
    m = h.lives.sites c site there

    found : find (is_at b.server) site.node.state.associations ≡ Some b
    found = own_found site.node.state.associations m.once b i

    go : IsKnown w.clients w.ended x.client x.server x.life → x.life.0 ≤ b.life.0
    go (inl (e, q)) =
        let r = row_is x.client x.server x.life w.ended e q in
        let z = (m.below e r.0 (r.1 ∙ cx) b (subst (λ s. find (is_at s) site.node.state.associations ≡ Some b) (sym (r.2 ∙ sx)) found)).up_to in
        let l = ap (λ (y : Life). y.0) r.3 in omega (arith, z, l)
    go (inr q) =
        let a = ap (λ n. numbered w.clients n) (ap (λ (y : ClientId). y.0) cx) ∙ there in
        let l : (life_with site.node.state b.server).0 ≡ x.life.0 =
        ap (λ s. (life_with site.node.state s).0) (sym sx) ∙ sym (ap (λ o. (ev.life_of_site x.server o).0) a) ∙ q in
        let f = ap (λ o. (world.life_at o).0) found in omega (arith, l, f)

-- What an input ends was reported.
abbrev pub EndsReported : World → ClientId → WorldClient → ClientInput → Type 0
EndsReported w c old input =
    (k : ℕ) (x : IssuedCommand) (d : DiskCommand) (tag : Tag) (a : Association) → numbered w.commands k ≡ Some x →
    disks.command_at w.disks.commands k ≡ Some d → d.report ≡ reports.Open → x.client ≡ c →
    Has a old.node.state.associations → ListedSince old.starts a x tag → EndedBy input x.number → ⊥

-- All outstanding writes but those that an input ends are writes of the world that are not reported.
abbrev pub ListedBut : World → ClientId → (ℕ → Type 0) → Type 0
ListedBut w c E =
    (d : ClientId) (site : WorldClient) → site_of w d ≡ Some site → site.node.running ≡ true → (a : Association) → Has a site.node.state.associations →
    (pc : PageCommand) (v : ℕ) → Has pc a.store.commands → pc.kind ≡ io.Write v → (d ≡ c → E pc.number → ⊥) →
    IsOut w.commands w.disks.commands d site.starts a pc.number

-- A client's step.
module _ (w : World) (c : ClientId) (old site : WorldClient) (input : ClientInput) (there : site_of w c ≡ Some old) (same : old.node ≡ site.node)
    (starts : old.starts ≡ site.starts) (runs : site.node.running ≡ true) (h : LivesHold w) (counts : length w.commands ≡ length w.disks.commands)
    (placed : Placed (length w.servers) (cl.client_step site.node.state (clock_of w (nodes.Client c)) input).out)
    (once_old : (a : Association) → Has a old.node.state.associations → WritesOnce a) (ends : EndsReported w c old input) (open_ : OpenHold w)
    (apart : (a : Association) → Has a old.node.state.associations → NumbersApart a.store.commands)
    (told : (a : Association) → Has a old.node.state.associations → ToldAsWrites input a) (listed : ListedBut w c (EndedBy input)) where
  abbrev now : Stamp
  now = clock_of w (nodes.Client c)

  abbrev turn : cl.NodeTurn
  turn = cl.node_turn site.node (cl.client_step site.node.state now input)

  abbrev after : WorldClient
  after = ev.at_node turn.node site

  abbrev sc : WorldTurn
  sc = ev.quiet (ev.with_site c after w)

  abbrev u : World
  u = (After c site.node.state sc turn.out).world

  abbrev v : World
  v = ev.flushes c turn.node.state (world.all_servers u) u

  own : site_of sc.world c ≡ Some after
  own = numbered_own w.clients c.0 after old there

  m : NodeHolds w.config w.clocks w.ended c old.node
  m = h.lives.sites c old there

  k_ : StepKeeps (EndedBy input) now site.node.state turn.node.state turn.out
  k_ = step_keeps c site.node.state now input (subst (λ (n : cl.ClientNode). (a : Association) → Has a n.state.associations → Fit a) same m.fit)
      (subst (λ (n : cl.ClientNode). (a : Association) → Has a n.state.associations → WritesOnce a) same once_old)

  clients : v.clients ≡ with_numbered c.0 after w.clients
  clients = (flush_parts c turn.node.state (world.all_servers u) u).clients ∙ after_clients c site.node.state turn.out sc

  once : Once (map server_number turn.node.state.associations)
  once = subst Once
      (numbers_same (AfterStep (EndedBy input) site.node.state.config now) (λ a b r. r.server) site.node.state.associations turn.node.state.associations
      k_.pairs) (subst (λ (n : cl.ClientNode). Once (map server_number n.state.associations)) same m.once)

  one_of : (a b : Association) → Has a turn.node.state.associations → Has b turn.node.state.associations → a.server ≡ b.server → b ≡ a
  one_of a b i j e =
      some_is
      (sym (own_found turn.node.state.associations once b j) ∙ ap (λ s. find (is_at s) turn.node.state.associations) (sym e) ∙
      own_found turn.node.state.associations once a i)

  -- a command that existed
  mine_old : (a : Association) → Has a turn.node.state.associations →
      (k : ℕ) (x : IssuedCommand) (d : DiskCommand) (at : BlockAt) (tag : Tag) (bytes : List ℕ) → IsAt sc k x d → d.what ≡ commands.Write at tag bytes →
      d.report ≡ reports.Open → x.client ≡ c → x.server ≡ a.server → x.life ≡ a.life →
      ListedSince after.starts a x tag
  mine_old a i k x d at tag bytes is wh op cx sx lx = go
      (pair_of (AfterStep (EndedBy input) site.node.state.config now) site.node.state.associations turn.node.state.associations k_.pairs a i)
    where
      go : (b : Association) × Has b site.node.state.associations × AfterStep (EndedBy input) site.node.state.config now b a → ListedSince after.starts a x tag
      go (b, j, r) = by (is_ended site.node.state.config now b.session) refl
        where
          there_b : Has b old.node.state.associations
          there_b = subst (λ (n : cl.ClientNode). Has b n.state.associations) (sym same) j

          by : (z : Bool) → is_ended site.node.state.config now b.session ≡ z → ListedSince after.starts a x tag
          by true e =
              let low = life_low w c old there h b there_b k x is.0 cx (sx ∙ sym r.server) in
              let next = ap (λ (y : Life). y.0) (r.lost e) in
              let l = ap (λ (y : Life). y.0) lx in absurd (omega (arith, low, next, l))
          by false e =
              let f = r.lasts e in
              let g = open_ c old there (ap (λ (n : cl.ClientNode). n.running) same ∙ runs) b there_b k x d at tag bytes is.0 is.1 wh op cx (sx ∙ sym f.server)
              (lx ∙ sym f.life) in
              record { since = g.since ∙ starts; listed = f.stays x.number tag (ends k x d tag b is.0 is.1 op cx there_b g) g.listed }

  -- one that it submitted
  mine_new : (a : Association) → Has a turn.node.state.associations → (x : IssuedCommand) (d : DiskCommand) (at : BlockAt) (tag : Tag) (bytes : List ℕ) →
      IsNew c after (length w.servers) turn.out x d → d.what ≡ commands.Write at tag bytes → x.server ≡ a.server → ListedSince after.starts a x tag
  mine_new a i x d at tag bytes n wh sx = record { since = n.starts; listed = go (k_.said x.number n.at at tag bytes said) }
    where
      said : Has (write_said x.number n.at at tag bytes) turn.out
      said = subst (λ z. Has (outputs.Submit x.number n.at z) turn.out) (sym n.what_is ∙ wh) n.said

      go : ListedAt turn.node.state.associations x.number tag → IsListed a x.number tag
      go (b, j, l) =
          subst (λ z. IsListed z x.number tag)
          (one_of a b i j
          (sym sx ∙ n.server ∙ ap (λ (y : ℕ). world.server y) (placed_at (length w.servers) turn.out placed x.number n.at at tag bytes said) ∙ l.server)) l

  from : (k : ℕ) (x : IssuedCommand) (d : DiskCommand) → numbered v.commands k ≡ Some x → disks.command_at v.disks.commands k ≡ Some d →
      IsAt sc k x d ⊎ IsNew c after (length w.servers) turn.out x d
  from k x d i j =
      all_say c site.node.state after (length w.servers) turn.out sc (record { own = own; counts = counts; servers = refl }) k x d (
        ap (λ xs. numbered xs k) (sym (flush_parts c turn.node.state (world.all_servers u) u).commands) ∙
            i,
        ap (λ (ds : disks.Disks). disks.command_at ds.commands k) (sym (flushes_disks c turn.node.state (world.all_servers u) u)) ∙ j,
      )

  pub client_open : OpenHold v
  client_open d y e r a i k x dc at tag bytes is js wh op cx sx lx = go (same_or_not d.0 c.0)
    where
      its : numbered (with_numbered c.0 after w.clients) d.0 ≡ Some y
      its = ap (λ xs. numbered xs d.0) (sym clients) ∙ e

      mine : (p : d.0 ≡ c.0) (q : after ≡ y) → IsAt sc k x dc ⊎ IsNew c after (length w.servers) turn.out x dc → ListedSince y.starts a x tag
      mine p q (inl z) =
          subst (λ (s : WorldClient). ListedSince s.starts a x tag) q
          (mine_old a (subst (λ (s : WorldClient). Has a s.node.state.associations) (sym q) i) k x dc at tag bytes z wh op (cx ∙ ap (λ n. record { 0 = n }) p)
          sx lx)
      mine p q (inr n) = subst (λ (s : WorldClient). ListedSince s.starts a x tag) q
          (mine_new a (subst (λ (s : WorldClient). Has a s.node.state.associations) (sym q) i) x dc at tag bytes n wh sx)

      others : (d.0 ≢ c.0) → IsAt sc k x dc ⊎ IsNew c after (length w.servers) turn.out x dc → ListedSince y.starts a x tag
      others n (inl z) = open_ d y (sym (numbered_other w.clients c.0 d.0 after (numbered_below w.clients c.0 old there).0 n) ∙ its) r a i k x dc at tag bytes
          z.0 z.1 wh op cx sx lx
      others n (inr z) = absurd (n (ap (λ (s : ClientId). s.0) (sym cx ∙ z.client)))

      go : (d.0 ≡ c.0) ⊎ (d.0 ≢ c.0) → ListedSince y.starts a x tag
      go (inl p) = mine p (some_is (sym own ∙ ap (numbered (with_numbered c.0 after w.clients)) (sym p) ∙ its)) (from k x dc is js)
      go (inr n) = others n (from k x dc is js)

  -- Its outstanding writes.
  comes : Pairwise (StepComes (EndedBy input) turn.out) site.node.state.associations turn.node.state.associations
  comes = step_comes c site.node.state now input (subst (λ (n : cl.ClientNode). (a : Association) → Has a n.state.associations → Fit a) same m.fit)
      (subst (λ (n : cl.ClientNode). (a : Association) → Has a n.state.associations → NumbersApart a.store.commands) same apart)
      (subst (λ (n : cl.ClientNode). (a : Association) → Has a n.state.associations → ToldAsWrites input a) same told)

  -- a command of the world after its outputs is there after the step
  there_after : (k : ℕ) (x : IssuedCommand) (d : DiskCommand) → IsAt (After c site.node.state sc turn.out) k x d →
      (numbered v.commands k ≡ Some x) × (disks.command_at v.disks.commands k ≡ Some d)
  there_after k x d i = (
    ap (λ xs. numbered xs k) (flush_parts c turn.node.state (world.all_servers u) u).commands ∙
        i.0,
    ap (λ (ds : disks.Disks). disks.command_at ds.commands k) (flushes_disks c turn.node.state (world.all_servers u) u) ∙ i.1,
  )

  out_still : (d : ClientId) (n : ℕ) (a b : Association) (number : ℕ) → a.server ≡ b.server → a.life ≡ b.life → IsOut w.commands w.disks.commands d n a number →
      IsOut v.commands v.disks.commands d n b number
  out_still d n a b number p q o =
      record {
        place = o.place;
        command = o.command;
        there = z.0;
        disk = o.disk;
        on_disk = z.1;
        unreported = o.unreported;
        at = o.at;
        tag = o.tag;
        bytes = o.bytes;
        what_is = o.what_is;
        unsampled = o.unsampled;
        client = o.client;
        since = o.since;
        server = o.server ∙ p;
        life = o.life ∙ q;
        number_is = o.number_is;
        carries = o.carries;
      }
    where
      z : (numbered v.commands o.place ≡ Some o.command) × (disks.command_at v.disks.commands o.place ≡ Some o.disk)
      z = there_after o.place o.command o.disk
          (after_numbered c site.node.state turn.out sc o.place o.command o.there, after_disk c site.node.state turn.out sc o.place o.disk o.on_disk)

  out_new : (b : Association) → Has b turn.node.state.associations → (number : ℕ) → IsSaid turn.out b.server number →
      IsOut v.commands v.disks.commands c after.starts b number
  out_new b j number i =
      record {
        place = s.place;
        command = s.command;
        there = z.0;
        disk = disks.new_command (commands.Write i.to i.tag i.bytes);
        on_disk = z.1;
        unreported = refl;
        at = i.to;
        tag = i.tag;
        bytes = i.bytes;
        what_is = refl;
        unsampled = refl;
        client = s.client;
        since = s.starts;
        server = server;
        life = s.life ∙ ap (life_with after.node.state) server ∙ ap (λ o. world.life_at o) (own_found turn.node.state.associations once b j);
        number_is = s.number_is;
        carries = s.carries;
      }
    where
      s : Submitted c after (length w.servers) (After c site.node.state sc turn.out) number i.at i.to i.tag i.bytes
      s = all_submitted c site.node.state after (length w.servers) turn.out sc (record { own = own; counts = counts; servers = refl }) number i.at i.to i.tag
          i.bytes i.said

      z : (numbered v.commands s.place ≡ Some s.command) ×
          (disks.command_at v.disks.commands s.place ≡ Some (disks.new_command (commands.Write i.to i.tag i.bytes)))
      z = there_after s.place s.command (disks.new_command (commands.Write i.to i.tag i.bytes)) s.is

      server : s.command.server ≡ b.server
      server = s.server ∙ ap (λ (y : ℕ). world.server y) (placed_at (length w.servers) turn.out placed number i.at i.to i.tag i.bytes i.said) ∙ i.server

  out_own : (b : Association) → Has b turn.node.state.associations → ListedOut v.commands v.disks.commands c after.starts b
  out_own b j pc n i k = go (pair_of (StepComes (EndedBy input) turn.out) site.node.state.associations turn.node.state.associations comes b j)
    where
      go : (a : Association) × Has a site.node.state.associations × StepComes (EndedBy input) turn.out a b →
          IsOut v.commands v.disks.commands c after.starts b pc.number
      go (a, h, r) = by (r.from pc n i k)
        where
          by : ((a.life ≡ b.life) × Has pc a.store.commands × (EndedBy input pc.number → ⊥)) ⊎ IsSaid turn.out b.server pc.number →
              IsOut v.commands v.disks.commands c after.starts b pc.number
          by (inl z) =
              out_still c after.starts a b pc.number r.server z.0
              (subst (λ y. IsOut w.commands w.disks.commands c y a pc.number) starts
              (listed c old there (ap (λ (x : cl.ClientNode). x.running) same ∙ runs) a (subst (λ (x : cl.ClientNode). Has a x.state.associations) (sym same) h)
              pc n z.1 k (λ q. z.2)))
          by (inr z) = out_new b j pc.number z

  pub client_listed : ListedHold v
  client_listed d y e r a i pc n j k = go (same_or_not d.0 c.0)
    where
      its : numbered (with_numbered c.0 after w.clients) d.0 ≡ Some y
      its = ap (λ xs. numbered xs d.0) (sym clients) ∙ e

      go : (d.0 ≡ c.0) ⊎ (d.0 ≢ c.0) → IsOut v.commands v.disks.commands d y.starts a pc.number
      go (inl p) =
          let q : after ≡ y = some_is (sym own ∙ ap (numbered (with_numbered c.0 after w.clients)) (sym p) ∙ its) in
          subst (λ x. IsOut v.commands v.disks.commands x y.starts a pc.number) (ap (λ x. record { 0 = x }) (sym p))
          (subst (λ (s : WorldClient). IsOut v.commands v.disks.commands c s.starts a pc.number) q
          (out_own a (subst (λ (s : WorldClient). Has a s.node.state.associations) (sym q) i) pc n j k))
      go (inr p) =
          out_still d y.starts a a pc.number refl refl
          (listed d y (sym (numbered_other w.clients c.0 d.0 after (numbered_below w.clients c.0 old there).0 p) ∙ its) r a i pc n j k
          (λ q. absurd (p (ap (λ (x : ClientId). x.0) q))))
