-- A write that is not reported, of a life that a crash ended, was so before, through each event at which no client crashes.
use Rattle.st_lemmas.proofs.Words
use Words.{◌≡◌, ℕ, suc, ◌⊎◌, true, false, List, [], ◌∷◌, ◌++◌, Option, Some, None, Ok, refl, sym, ap, ◌∙◌, subst, inl, inr, arith, find, length, map, pred}
use Words.{ClientId, FileId, Life, PageNo, Stamp, Event, Note, Output, ClientInput, LogOwner, Carried, IssuedCommand, LeaseLife, BlockAt, Tag}
use Words.nodes
use Words.events
use Words.notes
use Words.outputs
use Words.Admissible as adm
use Words.Client as cl
use Words.ClientState.{Association, ClientState, is_at}
use Words.Disks.{Disks}
use Words.Events as ev
use Words.Events.{client_says_all}
use Words.FlatLog as log
use Words.Server.{ServerNode}
use Words.World as world
use Words.World.{World, WorldClient, Net, Tally, clock_of, numbered, site_of, with_numbered}
use Words.Lists.{Has}
use Words.Numbers.{length_more, numbered_below, numbered_own, set_length}
use Words.Disks as disks
use Words.Lengths.{numbered_there}
use Rattle.st_laws_steps.specs.Lives.Lives.{AllKnown, ended_rows, LivesHold, NodeHolds, owner_of, Stepped}
use Rattle.st_laws_pages.proofs.Lives.Each.{Besides, SteppedNode, each_event}
use Rattle.st_laws_pages.proofs.Lives.Lasting.{Flushed, flush_parts}
use Rattle.st_laws_pages.proofs.Lives.LifeSteps.{advance_lives, owners_hard, same_owners, start_lives, steps_so}
use Rattle.st_laws_pages.proofs.Lives.NodeTurns.{row_is}
use Rattle.st_laws_pages.proofs.Lives.Turning.{Said, client_lives, known_owner, owners_more, says_lives}
use Rattle.st_laws_reads.specs.FrozenLives.PendingEntries.{OfCrashed}
use Rattle.st_laws_reads.proofs.FrozenLives.Tracked.{older, uncrashed}
use Rattle.st_laws_pages.proofs.Writes.Joining.{IsNew, all_say}
use Rattle.st_laws_reads.specs.OpenWrites.StandStill.{OpenTracked, OpenWrite, writer}
use Rattle.st_laws_pages.proofs.Disks.Opens.{GoesOn}
use Rattle.st_laws_pages.proofs.Causes.FlushSteps.{flushes_disks}

-- a client that is there stays there
pub site_kept : (xs : List WorldClient) (c d : ℕ) (new s : WorldClient) → numbered xs d ≡ Some s → (y : WorldClient) × (numbered (with_numbered c new xs) d ≡ Some y)
site_kept xs c d new s e = let z = numbered_below xs d s e in numbered_there (with_numbered c new xs) d z.0 (let l = set_length xs (pred c) new in let u = z.1 in omega (arith, l, u))

-- Outputs submit as many commands as they issue.
one_counts : (c : ClientId) (before : ClientState) (o : Output) (sc : ev.WorldTurn) → length sc.world.commands ≡ length sc.world.disks.commands → length (ev.client_says sc c before o).world.commands ≡ length (ev.client_says sc c before o).world.disks.commands
unfolding ev.client_says ev.client_notes ev.sends ev.submits ev.answers_with ev.accepts ev.patches ev.loses
one_counts c before (outputs.Send m) sc h = h
one_counts c before (outputs.Submit number at what) sc h = go (site_of sc.world c)
  where
    go : (o : Option WorldClient) → length (ev.submits sc c o number at what).world.commands ≡ length (ev.submits sc c o number at what).world.disks.commands
    go None = h
    go (Some site) = length_more sc.world.commands _ ∙ ap suc h ∙ sym (length_more sc.world.disks.commands (disks.new_command what))
one_counts c before (outputs.Answer o a) sc h = h
one_counts c before (outputs.Note n) sc h = note n
  where
    note : (n : Note) → length (ev.client_notes sc c before n).world.commands ≡ length (ev.client_notes sc c before n).world.disks.commands
    note (notes.Accepted f p bytes) = h
    note (notes.Patched f p at bytes) = h
    note (notes.Lost s life) = h
    note n = h

all_counts : (c : ClientId) (before : ClientState) (os : List Output) (sc : ev.WorldTurn) → length sc.world.commands ≡ length sc.world.disks.commands → length (client_says_all c before os sc).world.commands ≡ length (client_says_all c before os sc).world.disks.commands
unfolding client_says_all
all_counts c before [] sc h = h
all_counts c before (o ∷ os) sc h = all_counts c before os (ev.client_says sc c before o) (one_counts c before o sc h)

module _ (P : LeaseLife → LogOwner → Type 0) where
  -- a new command belongs to a life that is not over
  unended : (v : World) (c : ClientId) (site : WorldClient) → site_of v c ≡ Some site → site.node.running ≡ true → LivesHold v → (x : IssuedCommand) (tag : Tag) → x.client ≡ c → x.life ≡ world.life_with site.node.state x.server → OfCrashed P v (writer x tag)
  unended v c site there r h x tag cx lx row q crashed = at (find (is_at x.server) site.node.state.associations) refl
    where
      m : NodeHolds v.config v.clocks v.ended c site.node
      m = h.lives.sites c site there

      y : Has row v.ended × (row.client ≡ x.client) × (row.server ≡ x.server) × (row.life ≡ x.life)
      y = row_is x.client x.server x.life v.ended row q

      life : (o : Option Association) → find (is_at x.server) site.node.state.associations ≡ o → row.life.0 ≡ (world.life_at o).0
      life o e = ap (λ (l : Life). l.0) (y.3 ∙ lx) ∙ ap (λ o. (world.life_at o).0) e

      at : (o : Option Association) → find (is_at x.server) site.node.state.associations ≡ o → P row (writer x tag)
      at None e = let l = life None e in let b = (h.lives.ends row y.0).born in absurd (omega (arith, b, l))
      at (Some a) e =
          let b = (m.below row y.0 (y.1 ∙ cx) a (ap (λ s. find (is_at s) site.node.state.associations) y.2 ∙ e)).below r in
          let l = life (Some a) e in absurd (omega (arith, b, l))

  besides : (w : World) (n : Net) (s : List ServerNode) (d : Disks) (t : Tally) → GoesOn w.disks.commands d.commands → OpenTracked P w → OpenTracked P (Besides w n s d t)
  besides w n s d t g h =
      record {
        lives = record { lives = h.lives.lives; known = h.lives.known };
        counts = h.counts ∙ sym g.count;
        there = λ k x at tag bytes o. h.there k x at tag bytes (was k x at tag bytes o);
        open_ = λ k x at tag bytes o. h.open_ k x at tag bytes (was k x at tag bytes o);
      }
    where
      was : (k : ℕ) (x : IssuedCommand) (at : BlockAt) (tag : Tag) (bytes : List ℕ) → OpenWrite (Besides w n s d t) k x at tag bytes → OpenWrite w k x at tag bytes
      was k x at tag bytes o = let z = g.opens k o.command o.is o.unreported in record { issued = o.issued; command = z.0; is = z.1; what = sym z.3 ∙ o.what; unreported = z.2 }

  same_open : (w v : World) → v.commands ≡ w.commands → v.disks ≡ w.disks → (k : ℕ) (x : IssuedCommand) (at : BlockAt) (tag : Tag) (bytes : List ℕ) → OpenWrite v k x at tag bytes → OpenWrite w k x at tag bytes
  same_open w v e f k x at tag bytes o = record { issued = ap (λ cs. numbered cs k) (sym e) ∙ o.issued; command = o.command; is = ap (λ (d : Disks). disks.command_at d.commands k) (sym f) ∙ o.is; what = o.what; unreported = o.unreported }

  cut : (w : World) (f : FileId) (p : PageNo) → OpenTracked P w → OpenTracked P (ev.with_log (w.log ++ log.hard_cut f p ∷ []) w)
  cut w f p h =
      record {
        lives =
            record {
              lives = h.lives.lives;
              known = subst (AllKnown w.clients w.ended w.commands) (sym (owners_more w.log (log.hard_cut f p))) (known_owner w.clients w.ended w.commands (map owner_of w.log) (log.nobody f p) (inr refl) h.lives.known);
            };
        counts = h.counts;
        there = λ k x at tag bytes o. h.there k x at tag bytes (same_open w (ev.with_log (w.log ++ log.hard_cut f p ∷ []) w) refl refl k x at tag bytes o);
        open_ = λ k x at tag bytes o. h.open_ k x at tag bytes (same_open w (ev.with_log (w.log ++ log.hard_cut f p ∷ []) w) refl refl k x at tag bytes o);
      }

  hard : (w : World) (x : Option Carried) → OpenTracked P w → OpenTracked P (ev.with_log (ev.log_hard w.log x) w)
  hard w x h =
      record {
        lives = record { lives = h.lives.lives; known = same_owners w (ev.log_hard w.log x) (owners_hard w.log x) h.lives.known };
        counts = h.counts;
        there = λ k y at tag bytes o. h.there k y at tag bytes (same_open w (ev.with_log (ev.log_hard w.log x) w) refl refl k y at tag bytes o);
        open_ = λ k y at tag bytes o. h.open_ k y at tag bytes (same_open w (ev.with_log (ev.log_hard w.log x) w) refl refl k y at tag bytes o);
      }

  -- a client's step
  stepped : (w : World) (c : ClientId) (input : ClientInput) (old site : WorldClient) → site_of w c ≡ Some old → old.node ≡ site.node → site.node.running ≡ true → OpenTracked P w → OpenTracked P (ev.client_took w c site (Ok (SteppedNode w c site input))).world
  unfolding ev.client_took
  stepped w c input old site there same r h =
      record {
        lives = lives;
        counts = ap length fl.commands ∙ (all_counts c site.node.state t.out (ev.quiet v0) h.counts) ∙ sym (ap (λ (d : Disks). length d.commands) (flushes_disks c t.node.state (world.all_servers u) u));
        there = λ k x at tag bytes o. is_there k x at tag bytes (in_u k x at tag bytes o);
        open_ = λ k x at tag bytes o. go k x at tag bytes (in_u k x at tag bytes o);
      }
    where
      now : Stamp
      now = clock_of w (nodes.Client c)

      t : cl.NodeTurn
      t = SteppedNode w c site input

      now_site : WorldClient
      now_site = ev.at_node t.node site

      v0 : World
      v0 = ev.with_site c now_site w

      u : World
      u = (client_says_all c site.node.state t.out (ev.quiet v0)).world

      v : World
      v = ev.flushes c t.node.state (world.all_servers u) u

      said : Said c (ended_rows c site.node.state t.out) v0 u
      said = says_lives c site.node.state t.out (ev.quiet v0)

      fl : Flushed u v
      fl = flush_parts c t.node.state (world.all_servers u) u

      st : Stepped now c old.node.state t.node.state t.out
      st = steps_so w c old site input there same h.lives

      clients : v.clients ≡ with_numbered c.0 now_site w.clients
      clients = fl.clients ∙ said.clients

      lives : LivesHold v
      lives = client_lives w c old site t there same (ap (λ (n : cl.ClientNode). n.running) same ∙ r) r st h.lives

      own : site_of v c ≡ Some now_site
      own = ap (λ z. numbered z c.0) clients ∙ numbered_own w.clients c.0 now_site old there

      at_first : site_of v0 c ≡ Some now_site
      at_first = numbered_own w.clients c.0 now_site old there

      in_u : (k : ℕ) (x : IssuedCommand) (at : BlockAt) (tag : Tag) (bytes : List ℕ) → OpenWrite v k x at tag bytes → OpenWrite u k x at tag bytes
      in_u k x at tag bytes o =
          record {
            issued = ap (λ xs. numbered xs k) (sym fl.commands) ∙ o.issued;
            command = o.command;
            is = ap (λ (d : Disks). disks.command_at d.commands k) (sym (flushes_disks c t.node.state (world.all_servers u) u)) ∙ o.is;
            what = o.what;
            unreported = o.unreported;
          }

      from : (k : ℕ) (x : IssuedCommand) (at : BlockAt) (tag : Tag) (bytes : List ℕ) (o : OpenWrite u k x at tag bytes) →
          ((numbered v0.commands k ≡ Some x) × (disks.command_at v0.disks.commands k ≡ Some o.command)) ⊎ IsNew c now_site (length w.servers) t.out x o.command
      from k x at tag bytes o = all_say c site.node.state now_site (length w.servers) t.out (ev.quiet v0) (record { own = at_first; counts = h.counts; servers = refl }) k x o.command (o.issued, o.is)

      is_there : (k : ℕ) (x : IssuedCommand) (at : BlockAt) (tag : Tag) (bytes : List ℕ) → OpenWrite u k x at tag bytes → (s : WorldClient) × (site_of v x.client ≡ Some s)
      is_there k x at tag bytes o = by (from k x at tag bytes o)
        where
          by : ((numbered v0.commands k ≡ Some x) × (disks.command_at v0.disks.commands k ≡ Some o.command)) ⊎ IsNew c now_site (length w.servers) t.out x o.command → (s : WorldClient) × (site_of v x.client ≡ Some s)
          by (inl i) =
              let z = h.there k x at tag bytes (record { issued = i.0; command = o.command; is = i.1; what = o.what; unreported = o.unreported }) in
              let y = site_kept w.clients c.0 x.client.0 now_site z.0 z.1 in
              (y.0, ap (λ xs. numbered xs x.client.0) clients ∙ y.1)
          by (inr n) = (now_site, ap (λ (z : ClientId). site_of v z) n.client ∙ own)

      go : (k : ℕ) (x : IssuedCommand) (at : BlockAt) (tag : Tag) (bytes : List ℕ) → OpenWrite u k x at tag bytes → OfCrashed P v (writer x tag)
      go k x at tag bytes o = by (from k x at tag bytes o)
        where
          by : ((numbered v0.commands k ≡ Some x) × (disks.command_at v0.disks.commands k ≡ Some o.command)) ⊎ IsNew c now_site (length w.servers) t.out x o.command → OfCrashed P v (writer x tag)
          by (inl i) =
              older P w v (ended_rows c site.node.state t.out) (fl.ended ∙ said.ended) (uncrashed c site.node.state t.out) (writer x tag)
              (h.open_ k x at tag bytes (record { issued = i.0; command = o.command; is = i.1; what = o.what; unreported = o.unreported }))
          by (inr n) = unended v c now_site own r lives x tag n.client n.life

  advanced : (w : World) (steps : List ℕ) → OpenTracked P w → OpenTracked P (ev.advances w steps).world
  unfolding ev.advances ev.marks
  advanced w steps h = record { lives = advance_lives w steps h.lives; counts = h.counts; there = λ k x at tag bytes o. h.there k x at tag bytes (same_open w (ev.advances w steps).world refl refl k x at tag bytes o); open_ = λ k x at tag bytes o. h.open_ k x at tag bytes (same_open w (ev.advances w steps).world refl refl k x at tag bytes o) }

  started : (w : World) (c : ClientId) (site : WorldClient) → site_of w c ≡ Some site → site.node.running ≡ false → OpenTracked P w → OpenTracked P (ev.starts_client w c (Some site))
  unfolding ev.starts_client
  started w c site there r h = record { lives = start_lives w c site there r h.lives; counts = h.counts; there = λ k x at tag bytes o. (let z = h.there k x at tag bytes (same_open w (ev.starts_client w c (Some site)) refl refl k x at tag bytes o) in site_kept w.clients c.0 x.client.0 (ev.started_site site) z.0 z.1); open_ = λ k x at tag bytes o. h.open_ k x at tag bytes (same_open w (ev.starts_client w c (Some site)) refl refl k x at tag bytes o) }

  pub tracked : (w : World) (e : Event) → ((c : ClientId) → e ≡ events.Crash (nodes.Client c) → ⊥) → adm.refusal w e ≡ None → OpenTracked P w → OpenTracked P (ev.happens w e).world
  tracked w e never r h = each_event (λ c. ⊥) (OpenTracked P) (record { besides = besides; cut = cut; hard = hard; client = stepped; advance = advanced; crash = λ w c site no. absurd no; start = started }) w e never r h
