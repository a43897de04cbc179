-- A cut finds no write that may have its effect.
use Rattle.st_lemmas.proofs.Words
use Words.{◌≡◌, ℕ, ◌⊎◌, Bool, true, false, Option, Some, None, Ok, Err, refl, sym, ap, ◌∙◌, subst, inl, inr, Result, nat_le, eqb-true, FileId}
use Words.{NodeId, PageNo, ServerId, Ask, Event, Message, Note, ServerInput, StepRefusal, SentMessage}
use Words.nodes
use Words.events
use Words.serving
use Words.ClientPages as pages
use Words.Events as ev
use Words.Events.{counted, happens}
use Words.FlatLog.{hard_cut, touches}
use Words.Keys.{same_file}
use Words.Server as server
use Words.Server.{ServerNode}
use Words.World as world
use Words.World.{World, clock_of, message_of, node_of, receiver_of}
use Words.Tables.{and_true}
use Words.Truth.{none_not_some}
use Rattle.st_protocol.specs.Assoc.{Config}
use Rattle.st_laws_pages.specs.Flush.Flush.{file_at}
use Rattle.st_laws_pages.specs.Disks.Obligations.{AtServer, ServerNodeOwes}
use Rattle.st_laws_pages.specs.Disks.Pages.{CarriedRight}
use Rattle.st_laws_pages.specs.Disks.World.{CutQuiet, PagesHold, mapped_at}
use Rattle.st_laws_reads.specs.Copies.World.{receiving, receiving_of, taken}
use Rattle.st_laws_reads.specs.AllClients.Events.{CutFree, MessageFree, OthersOwed, ReceiverFree, ServerFree, TurnFree}
use Rattle.st_laws_reads.specs.AllClients.World.{CopiesHold}
use Rattle.st_laws_pages.specs.Writes.Writes.{OpenHold}
use Rattle.st_laws_reads.specs.OpenWrites.StandStill.{WritesHold}
use Rattle.st_laws_reads.proofs.OpenWrites.Cases.{CrashedWrite, PresentWrite, living_is}
use Rattle.st_laws_reads.proofs.AllClients.Cutting.{Seen, seen_all}
use Rattle.st_laws_extents.specs.Submits.Obligations.{NoFrozenWrites}
use Rattle.st_laws_extents.proofs.Submits.Others.{cut_apart}
use Rattle.st_laws_extents.proofs.Submits.Taking.{MessageGives, ReceiverGives, ServerGives}
use Rattle.st_laws_extents.proofs.Known.Moved.{noted}

module _ (asks : ℕ → ℕ → Option Ask) (k : Config) (count : ℕ) (w : World) (h : WritesHold k count w) (open_ : OpenHold w) (copies : CopiesHold asks w) (pages_ : PagesHold w) where
  quiet : (f : FileId) (p : PageNo) → CutFree w f p → NoFrozenWrites w f → CutQuiet w f p
  quiet f p free uncut n y at tag bytes l = go (touches tag.file tag.page (hard_cut f p)) refl
    where
      r : CarriedRight w.log (mapped_at tag.file tag.page (node_of w tag.file.server)) y at tag bytes
      r = pages_.pages.carry n y at tag bytes l

      there : (node : ServerNode) × (node_of w (world.server y.server.0) ≡ Some node)
      there = by (node_of w tag.file.server) refl r.is
        where
          by : (o : Option ServerNode) → node_of w tag.file.server ≡ o → mapped_at tag.file tag.page o ≡ Some r.extent → (node : ServerNode) × (node_of w (world.server y.server.0) ≡ Some node)
          by None q z = absurd (none_not_some r.extent z)
          by (Some node) q z = (node, ap (λ (v : ServerId). node_of w v) r.server ∙ q)

      same : touches tag.file tag.page (hard_cut f p) ≡ true → f ≡ tag.file
      same t =
          let x = and_true (same_file f tag.file) (nat_le p.0 tag.page.0) t in
          let z = and_true (Rattle.st_rules.specs.Keys.same_server f.server tag.file.server) _ x.0 in
          ap (λ s. record { server = s; ino = f.ino }) (ap (λ n. record { 0 = n }) (eqb-true f.server.0 tag.file.server.0 z.0)) ∙ ap (λ i. record { server = tag.file.server; ino = i }) (eqb-true f.ino tag.file.ino z.1)

      of_present : touches tag.file tag.page (hard_cut f p) ≡ true → PresentWrite w y tag → ⊥
      of_present t z =
          cut_apart asks w copies f p free y.client.0 z.site z.running z.a z.here z.lasts z.listed.listed.command.ino z.listed.listed.command.page z.listed.listed.dirty z.listed.listed.dirty_is
          (subst (λ q. touches (file_at z.a z.listed.listed.command.ino) q (hard_cut f p) ≡ true) (sym z.listed.listed.page)
          (subst (λ g. touches g tag.page (hard_cut f p) ≡ true) (ap (λ s. record { server = s; ino = tag.file.ino }) z.listed.listed.server ∙ ap (λ i. record { server = z.a.server; ino = i }) (sym z.listed.listed.ino)) t))

      none : touches tag.file tag.page (hard_cut f p) ≡ true → PresentWrite w y tag ⊎ CrashedWrite k count w h.all y tag → ⊥
      none t (inl z) = of_present t z
      none t (inr z) = uncut n y at tag bytes l (sym (same t)) z.row z.is z.crashed

      go : (b : Bool) → touches tag.file tag.page (hard_cut f p) ≡ b → touches tag.file tag.page (hard_cut f p) ≡ false
      go false t = t
      go true t = absurd (none t (living_is k count w h open_ n y at tag bytes l there))

  counted_free : (f : FileId) (p : PageNo) → CutFree (counted w) f p → CutFree w f p
  counted_free f p g d site run = g d site (record { there = run.there; runs = run.runs })

  -- a server's step
  at_server : (s : ServerId) (input : ServerInput) (o : Option ServerNode) → ServerFree (counted w) s input o → ((f : FileId) (p : PageNo) → Seen f p (ev.at_server (counted w) s input o) → NoFrozenWrites w f) → AtServer (counted w) s input o
  unfolding ev.at_server ev.server_takes ev.server_took
  at_server s input None free uncut = tt
  at_server s input (Some node) free uncut = go (server.node_step node (clock_of (counted w) (nodes.Server s)) input) free uncut
    where
      go : (r : Result server.NodeTurn StepRefusal) → TurnFree (counted w) r → ((f : FileId) (p : PageNo) → Seen f p (ev.server_took (counted w) s r) → NoFrozenWrites w f) → ServerNodeOwes (counted w) s r
      go (Err e) free uncut = tt
      go (Ok t) free uncut =
          record {
            quiet = λ f p one.
                let i = noted f p t.out one in
                quiet f p (counted_free f p (free f p i)) (uncut f p (seen_all f p s t.out (ev.quiet (ev.with_node s t.node (counted w))) (inr i)));
          }

  to_receiver : (m : Message) (n : NodeId) → (receiving (counted w) m n ≡ None → ReceiverFree (counted w) m n) → ((f : FileId) (p : PageNo) → Seen f p (ev.delivers_to (counted w) m n) → NoFrozenWrites w f) → ReceiverGives (counted w) m n
  unfolding ev.delivers_to
  to_receiver m (nodes.Client c) free uncut = tt
  to_receiver m (nodes.Server s) free uncut = at_server s (serving.Control m) (node_of w s) (free refl) uncut

  to_message : (o : Option SentMessage) → (receiving_of (counted w) o ≡ None → MessageFree (counted w) o) → ((f : FileId) (p : PageNo) → Seen f p (ev.delivers (counted w) o) → NoFrozenWrites w f) → MessageGives (counted w) o
  unfolding ev.delivers
  to_message None free uncut = tt
  to_message (Some m) free uncut = to_receiver m.message (receiver_of m) free uncut

  pub server_gives : (e : Event) → (taken (counted w) e ≡ None → OthersOwed (counted w) e) → ((f : FileId) (p : PageNo) → Seen f p (happens (counted w) e) → NoFrozenWrites w f) → ServerGives (counted w) e
  unfolding ev.happens ev.ticks
  server_gives (events.Tick (nodes.Server s)) free uncut = at_server s serving.Tick (node_of w s) (free refl) uncut
  server_gives (events.Deliver n) free uncut = to_message (message_of w n) free uncut
  server_gives (events.Tick (nodes.Client c)) free uncut = tt
  server_gives (events.App c ask) free uncut = tt
  server_gives (events.Lose n) free uncut = tt
  server_gives (events.Cut x y) free uncut = tt
  server_gives (events.Heal x y) free uncut = tt
  server_gives (events.Advance steps) free uncut = tt
  server_gives (events.Effect n) free uncut = tt
  server_gives (events.Report n ok) free uncut = tt
  server_gives (events.Crash n) free uncut = tt
  server_gives (events.Start n) free uncut = tt
