-- What is pending of lives that a crash ended was so before, through each event at which no client crashes.
use Rattle.st_lemmas.proofs.Words
use Words.{◌≡◌, ℕ, Bool, true, false, List, [], ◌∷◌, ◌++◌, Option, Some, None, Ok, refl, sym, ap, ◌∙◌, subst, inl, inr, arith, find, map, ClientId, FileId}
use Words.{Life, PageNo, Stamp, Event, Note, Output, ClientInput, LogEntry, LogOwner, Carried, IssuedCommand, LeaseLife}
use Words.nodes
use Words.events
use Words.notes
use Words.outputs
use Words.Admissible as adm
use Words.Client as cl
use Words.ClientState.{Association, ClientState, is_at}
use Words.Disks.{Disks}
use Words.Events as ev
use Words.Events.{client_says_all}
use Words.FlatLog as log
use Words.Server.{ServerNode}
use Words.World as world
use Words.World.{World, WorldClient, Net, Tally, clock_of, is_life_of, numbered, site_of, with_numbered}
use Words.Lists.{Has}
use Words.Numbers.{numbered_own}
use Words.Truth.{not_both}
use Rattle.st_laws_pages.specs.Fates.Fates.{PendingAll}
use Rattle.st_laws_steps.specs.Lives.Lives.{AllKnown, ended_rows, LivesHold, NodeHolds, owner_of, Stepped}
use Rattle.st_laws_steps.specs.Client.Losses.{Fit}
use Rattle.st_laws_steps.specs.Client.Notes.{IsChangedAt, NotesAll}
use Rattle.st_laws_steps.proofs.Lives.Associations.{own_found}
use Rattle.st_laws_steps.proofs.Client.Dirtying.{notes_map}
use Rattle.st_laws_pages.proofs.Lives.Each.{Besides, SteppedNode, each_event}
use Rattle.st_laws_pages.proofs.Fates.FateLaw.{pending_fewer, pending_hard}
use Rattle.st_laws_pages.proofs.Fates.Fates.{pending_map}
use Rattle.st_laws_pages.proofs.Fates.FateSteps.{pending_more, says_pending}
use Rattle.st_laws_pages.proofs.Lives.Lasting.{Flushed, flush_parts}
use Rattle.st_laws_pages.proofs.Lives.LifeSteps.{advance_lives, owners_hard, same_owners, start_lives, steps_so}
use Rattle.st_laws_pages.proofs.Lives.Lives.{find_back, find_front}
use Rattle.st_laws_pages.proofs.Lives.NodeTurns.{row_is}
use Rattle.st_laws_steps.proofs.Client.Noting.{step_notes}
use Rattle.st_laws_pages.proofs.Lives.Turning.{Said, client_lives, known_owner, owners_more, says_lives}
use Rattle.st_laws_reads.specs.FrozenLives.PendingEntries.{OfCrashed, Tracked}

-- a lease that is lost isn't a crash
pub uncrashed : (c : ClientId) (s : ClientState) (os : List Output) (row : LeaseLife) → Has row (ended_rows c s os) → row.crashed ≡ false
unfolding ended_rows
uncrashed c s [] row h = elim h [ ]
uncrashed c s (outputs.Send m ∷ os) row h = uncrashed c s os row h
uncrashed c s (outputs.Submit n a w ∷ os) row h = uncrashed c s os row h
uncrashed c s (outputs.Answer o a ∷ os) row h = uncrashed c s os row h
uncrashed c s (outputs.Note n ∷ os) row h = note n h (uncrashed c s os row)
  where
    note : (n : Note) → Has row (ended_rows c s (outputs.Note n ∷ os)) → (Has row (ended_rows c s os) → row.crashed ≡ false) → row.crashed ≡ false
    note (notes.Lost v life) (inl e) f = ap (λ (x : LeaseLife). x.crashed) e
    note (notes.Lost v life) (inr h) f = f h
    note n h f = f h

module _ (P : LeaseLife → LogOwner → Type 0) where
  -- when lives end that no crash ended
  pub older : (w v : World) (rows : List LeaseLife) → v.ended ≡ w.ended ++ rows → ((row : LeaseLife) → Has row rows → row.crashed ≡ false) → (o : LogOwner) →
      OfCrashed P w o → OfCrashed P v o
  older w v rows e lost o f row q crashed = go (find p w.ended) refl
    where
      p : LeaseLife → Bool
      p = is_life_of o.client o.file.server o.life

      there : find p (w.ended ++ rows) ≡ Some row
      there = ap (find p) (sym e) ∙ q

      go : (x : Option LeaseLife) → find p w.ended ≡ x → P row o
      go (Some y) z = f row (z ∙ sym (find_front p w.ended rows y z) ∙ there) crashed
      go None z = absurd (not_both row.crashed crashed (lost row (row_is o.client o.file.server o.life rows row (sym (find_back p w.ended rows z) ∙ there)).0))

  -- a page that was changed belongs to a life that is not over
  unended : (v : World) (c : ClientId) (site : WorldClient) (now : Stamp) → site_of v c ≡ Some site → site.node.running ≡ true → LivesHold v → (f : FileId) (p : PageNo) → IsChangedAt v.config now site.node.state.associations f p →
      OfCrashed P v (log.owner c (ev.present_life v c f.server) f p)
  unended v c site now there r h f p (a, i, z) row q crashed =
      let y = row_is c f.server (ev.present_life v c f.server) v.ended row q in
      let b = (m.below row y.0 y.1 a (ap (λ s. find (is_at s) site.node.state.associations) y.2 ∙ found)).below r in
      let l = ap (λ (x : Life). x.0) y.3 ∙ ap (λ o. (ev.life_of_site f.server o).0) there ∙ ap (λ o. (world.life_at o).0) found in
      absurd (omega (arith, b, l))
    where
      m : NodeHolds v.config v.clocks v.ended c site.node
      m = h.lives.sites c site there

      found : find (is_at f.server) site.node.state.associations ≡ Some a
      found = ap (λ s. find (is_at s) site.node.state.associations) z.server ∙ own_found site.node.state.associations m.once a i

  besides : (w : World) (n : Net) (s : List ServerNode) (d : Disks) (t : Tally) → Tracked P w → Tracked P (Besides w n s d t)
  besides w n s d t h = record { lives = record { lives = h.lives.lives; known = h.lives.known }; pending = h.pending }

  cut : (w : World) (f : FileId) (p : PageNo) → Tracked P w → Tracked P (ev.with_log (w.log ++ log.hard_cut f p ∷ []) w)
  cut w f p h =
      record {
        lives =
            record {
              lives = h.lives.lives;
              known = subst (AllKnown w.clients w.ended w.commands) (sym (owners_more w.log (log.hard_cut f p))) (known_owner w.clients w.ended w.commands (map owner_of w.log) (log.nobody f p) (inr refl) h.lives.known);
            };
        pending = pending_more (OfCrashed P w) w.log (log.hard_cut f p) (λ q. cc q) h.pending;
      }

  hard : (w : World) (x : Option Carried) → Tracked P w → Tracked P (ev.with_log (ev.log_hard w.log x) w)
  hard w x h = record { lives = record { lives = h.lives.lives; known = same_owners w (ev.log_hard w.log x) (owners_hard w.log x) h.lives.known }; pending = pending_hard (OfCrashed P w) w.log x h.pending }

  -- a client's step
  stepped : (w : World) (c : ClientId) (input : ClientInput) (old site : WorldClient) → site_of w c ≡ Some old → old.node ≡ site.node → site.node.running ≡ true → Tracked P w → Tracked P (ev.client_took w c site (Ok (SteppedNode w c site input))).world
  unfolding ev.client_took
  stepped w c input old site there same r h =
      record {
        lives = lives;
        pending = subst (PendingAll (OfCrashed P v)) (sym fl.log) (says_pending (OfCrashed P v) c site.node.state (λ s. ev.present_life v0 c s) t.out (ev.quiet v0) (λ s. refl) new (pending_map (OfCrashed P w) (OfCrashed P v) w.log old_ones h.pending));
      }
    where
      now : Stamp
      now = clock_of w (nodes.Client c)

      t : cl.NodeTurn
      t = SteppedNode w c site input

      now_site : WorldClient
      now_site = ev.at_node t.node site

      v0 : World
      v0 = ev.with_site c now_site w

      u : World
      u = (client_says_all c site.node.state t.out (ev.quiet v0)).world

      v : World
      v = ev.flushes c t.node.state (world.all_servers u) u

      said : Said c (ended_rows c site.node.state t.out) v0 u
      said = says_lives c site.node.state t.out (ev.quiet v0)

      fl : Flushed u v
      fl = flush_parts c t.node.state (world.all_servers u) u

      st : Stepped now c old.node.state t.node.state t.out
      st = steps_so w c old site input there same h.lives

      clients : v.clients ≡ with_numbered c.0 now_site w.clients
      clients = fl.clients ∙ said.clients

      lives : LivesHold v
      lives = client_lives w c old site t there same (ap (λ (n : cl.ClientNode). n.running) same ∙ r) r st h.lives

      own : site_of v c ≡ Some now_site
      own = ap (λ z. numbered z c.0) clients ∙ numbered_own w.clients c.0 now_site old there

      config : site.node.state.config ≡ v.config
      config = ap (λ (n : cl.ClientNode). n.state.config) (sym same) ∙ st.config ∙ (lives.lives.sites c now_site own).config

      old_ones : (o : LogOwner) → OfCrashed P w o → OfCrashed P v o
      old_ones = older w v (ended_rows c site.node.state t.out) (fl.ended ∙ said.ended) (uncrashed c site.node.state t.out)

      new : NotesAll (λ f p. OfCrashed P v (log.owner c (ev.present_life v0 c f.server) f p)) t.out
      new =
          notes_map (IsChangedAt site.node.state.config now t.node.state.associations) (λ f p. OfCrashed P v (log.owner c (ev.present_life v0 c f.server) f p))
          (λ f p z. subst (λ l. OfCrashed P v (log.owner c l f p)) (ap (λ x. ev.life_of_site f.server (numbered x c.0)) clients)
          (unended v c now_site now own r lives f p (subst (λ k. IsChangedAt k now t.node.state.associations f p) config z))) t.out
          (step_notes c site.node.state now input (subst (λ (n : cl.ClientNode). (a : Association) → Has a n.state.associations → Fit a) same (h.lives.lives.sites c old there).fit))

  -- lives that come to their ends
  ended_all : (Q : LogOwner → Type 0) (cs : List IssuedCommand) (ls : List LeaseLife) (es : List LogEntry) → PendingAll Q es → PendingAll Q (ev.log_ended_all cs ls es)
  unfolding ev.log_ended_all ev.log_ended log.drop_picked
  ended_all Q cs [] es h = h
  ended_all Q cs (l ∷ ls) es h = ended_all Q cs ls (ev.log_ended cs l es) (pending_fewer Q 1 _ _ es h)

  advanced : (w : World) (steps : List ℕ) → Tracked P w → Tracked P (ev.advances w steps).world
  unfolding ev.advances ev.marks
  advanced w steps h = record { lives = advance_lives w steps h.lives; pending = ended_all (OfCrashed P w) w.commands (ev.lives_reached w steps) w.log h.pending }

  started : (w : World) (c : ClientId) (site : WorldClient) → site_of w c ≡ Some site → site.node.running ≡ false → Tracked P w → Tracked P (ev.starts_client w c (Some site))
  unfolding ev.starts_client
  started w c site there r h = record { lives = start_lives w c site there r h.lives; pending = h.pending }

  pub tracked : (w : World) (e : Event) → ((c : ClientId) → e ≡ events.Crash (nodes.Client c) → ⊥) → adm.refusal w e ≡ None → Tracked P w → Tracked P (ev.happens w e).world
  tracked w e never r h = each_event (λ c. ⊥) (Tracked P) (record { besides = λ w n s d t g h. besides w n s d t h; cut = cut; hard = hard; client = stepped; advance = advanced; crash = λ w c site no. absurd no; start = started }) w e never r h
