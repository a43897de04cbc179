-- The end of a read that was outstanding: what it found is the content of the page.
use Rattle.st_lemmas.proofs.Words
use Words.{◌≡◌, ℕ, Bool, true, false, ◌==◌, List, [], ◌∷◌, Option, Some, None, refl, sym, ap, ◌∙◌, subst, inl, inr, if◌then◌else◌, is_some, option_map}
use Words.{eqb-true, Tag, ClientId, NodeId, Stamp, Event, ClientInput, MappedBlock, PageCommand, Block, DiskCommand, IssuedCommand, SentMessage}
use Words.nodes
use Words.events
use Words.inputs
use Words.io
use Words.Client as cl
use Words.Client.{losses}
use Words.ClientPages as pages
use Words.ClientState.{Association, client_turn}
use Words.Disks as disks
use Words.Events as ev
use Words.Events.{WorldTurn, counted}
use Words.FlatLog.{content}
use Words.Keys.{client}
use Words.World.{World, WorldClient, clock_of, issued_of, message_of, numbered, receiver_of, site_of}
use Words.Lists.{Has}
use Words.Lookups.{some_is}
use Words.Tables.{and_true, found_at}
use Words.Truth.{none_not_some}
use Rattle.st_laws_refine.specs.Client.Invariants.{Lasts}
use Rattle.st_laws_pages.specs.Flush.Flush.{IsIts, file_at}
use Rattle.st_laws_steps.specs.Lives.Lives.{clock_in}
use Rattle.st_laws_steps.specs.Client.Losses.{Fit, is_ended}
use Rattle.st_laws_pages.specs.Disks.Pages.{mapping_of}
use Rattle.st_laws_pages.proofs.Flush.Flushing.{pair_of}
use Rattle.st_laws_steps.proofs.Client.Stepping.{LossesLeft, LostOrNot, losses_left}
use Rattle.st_laws_reads.specs.Copies.World.{Taking, asking, receiving, receiving_of, now_at, taken, taking, told_at, told_of}
use Rattle.st_laws_reads.specs.AllClients.Obligations.{AllLeft, EndLeft, LeftOf}
use Rattle.st_laws_reads.specs.AllClients.Law.{Running}
use Rattle.st_laws_reads.proofs.AllClients.Takings.{Takes}
use Rattle.st_laws_extents.proofs.Submits.Taking.{report_open}
use Rattle.st_laws_extents.specs.DiskReads.Reads.{KnownRight, ReadRight, ReadsHold}
use Rattle.st_laws_reads.proofs.AllClients.Behind.{lasting}

-- What a command of these disks found.
pub record FoundAt (w : World) (k : ℕ) (block : Tag × List ℕ) : Type 0 where
  command : DiskCommand
  there : disks.command_at w.disks.commands k ≡ Some command
  of : Block
  sample : command.sample ≡ Some of
  is : (of.tag, of.bytes) ≡ block

-- The command of which a client is told that it ended.
pub record EndsAs (w : World) (x : Taking) (number : ℕ) (result : Option (Option (Tag × List ℕ))) : Type 0 where
  k : ℕ
  issued : IssuedCommand
  is : numbered w.commands k ≡ Some issued
  its : IsIts x.client x.site.starts number issued
  runs : x.site.node.running ≡ true
  found : (block : Tag × List ℕ) → result ≡ Some (Some block) → FoundAt w k block

abbrev pub EndsIn : World → Taking → ClientInput → Type 0
EndsIn w x (inputs.Done number result) = EndsAs w x number result
EndsIn w x input = Unit {0}

abbrev pub Ends : World → Taking → Type 0
Ends w x = EndsIn w x x.input

found_there : (w : World) (n : ℕ) (ok : Bool) (block : Tag × List ℕ) → ev.result_of ok (disks.sample (ev.disks_after w.disks (disks.done w.disks n ok)) n) ≡ Some (Some block) → FoundAt w n block
found_there w n ok block e = by ok e
  where
    ds : disks.Disks
    ds = ev.disks_after w.disks (disks.done w.disks n ok)

    at : (o : Option DiskCommand) → disks.command ds n ≡ o → (s : Option Block) → disks.sample_of o ≡ s → Some (option_map ev.tag_and_bytes s) ≡ Some (Some block) → FoundAt w n block
    at o c None f q = absurd (none_not_some block (some_is q))
    at None c (Some b) f q = absurd (none_not_some b f)
    at (Some d) c (Some b) f q =
        let z = (report_open w.disks n ok).was n d c in
        record { command = z.command; there = z.is; of = b; sample = sym z.sample ∙ f; is = some_is (some_is q) }

    by : (b : Bool) → ev.result_of b (disks.sample ds n) ≡ Some (Some block) → FoundAt w n block
    by true q = at (disks.command ds n) refl (disks.sample ds n) refl q
    by false q = absurd (none_not_some (Some block) q)

pub ends : (w : World) (e : Event) (x : Taking) → taken w e ≡ Some x → Ends w x
ends w (events.Tick (nodes.Client c)) x q = go (site_of w c) q
  where
    go : (o : Option WorldClient) → taking w c inputs.Tick o ≡ Some x → Ends w x
    go None q = cc q
    go (Some site) q = subst (Ends w) (some_is q) tt
ends w (events.Tick (nodes.Server s)) x q = cc q
ends w (events.App c ask) x q = go (site_of w c) q
  where
    go : (o : Option WorldClient) → asking w c ask o ≡ Some x → Ends w x
    go None q = cc q
    go (Some site) q = subst (Ends w) (some_is q) tt
ends w (events.Deliver n) x q = go (message_of w n) q
  where
    at : (m : SentMessage) (c : ClientId) (o : Option WorldClient) → taking w c (inputs.Control m.message) o ≡ Some x → Ends w x
    at m c None q = cc q
    at m c (Some site) q = subst (Ends w) (some_is q) tt

    to : (m : SentMessage) (r : NodeId) → receiving w m.message r ≡ Some x → Ends w x
    to m (nodes.Client c) q = at m c (site_of w c) q
    to m (nodes.Server s) q = cc q

    go : (o : Option SentMessage) → receiving_of w o ≡ Some x → Ends w x
    go None q = cc q
    go (Some m) q = to m (receiver_of m) q
ends w (events.Report n ok) x q = go (issued_of w n) refl q
  where
    at : (y : IssuedCommand) → issued_of w n ≡ Some y → (site : WorldClient) → (b : Bool) → ev.is_same_instance y site ≡ b →
        (if b then taking (ev.with_disks (ev.disks_after w.disks (disks.done w.disks n ok)) w) y.client (ev.end_told (ev.with_disks (ev.disks_after w.disks (disks.done w.disks n ok)) w) n ok y) (Some site) else None) ≡ Some x → Ends w x
    at y i site true b q =
        subst (Ends w) (some_is q)
        (record {
          k = n;
          issued = y;
          is = i;
          its = record { client = refl; instance_ = sym (eqb-true site.starts y.starts (and_true site.node.running (site.starts == y.starts) b).1); number_is = refl };
          runs = (and_true site.node.running (site.starts == y.starts) b).0;
          found = λ block f. found_there w n ok block f;
        })
    at y i site false b q = cc q

    at_site : (y : IssuedCommand) → issued_of w n ≡ Some y → (o : Option WorldClient) → told_at (ev.with_disks (ev.disks_after w.disks (disks.done w.disks n ok)) w) n ok y o ≡ Some x → Ends w x
    at_site y i None q = cc q
    at_site y i (Some site) q = at y i site (ev.is_same_instance y site) refl q

    go : (o : Option IssuedCommand) → issued_of w n ≡ o → told_of (ev.with_disks (ev.disks_after w.disks (disks.done w.disks n ok)) w) n ok o ≡ Some x → Ends w x
    go None i q = cc q
    go (Some y) i q = at_site y i (site_of w y.client) q
ends w e x q = cc q

-- What it found is the content.
module _ (w : World) (sc : WorldTurn) (x : Taking) (tk : Takes (counted w) sc x) (starts : tk.old.starts ≡ x.site.starts) (fit : (a : Association) → Has a x.site.node.state.associations → Fit a) (reads : ReadsHold w w.log) (knows : KnownRight w) where
  abbrev c : ℕ
  c = x.client.0

  old_run : x.site.node.running ≡ true → Running w c tk.old
  old_run runs = record { there = tk.there; runs = ap (λ (n : cl.ClientNode). n.running) tk.same ∙ runs }

  -- an association with an outstanding command after the losses was there before them, under a lease that lasts
  record Was (a : Association) : Type 0 where
    here : Has a tk.old.node.state.associations
    lasts : Lasts tk.old.node.state.config.lease (clock_of w (nodes.Client (client c))).0 a.session

  lost : LossesLeft x.client x.site.node.state (now_at x) (client_turn x.site.node.state []) (losses (client_turn x.site.node.state []) (now_at x))
  lost = losses_left x.client x.site.node.state (now_at x) (client_turn x.site.node.state []) refl fit

  was : (a : Association) → Has a (losses (client_turn x.site.node.state []) (now_at x)).state.associations → (pc : PageCommand) → Has pc a.store.commands → Was a
  was a i pc m = from (pair_of (LostOrNot x.site.node.state.config (now_at x)) x.site.node.state.associations (losses (client_turn x.site.node.state []) (now_at x)).state.associations lost.pairs a i)
    where
      from : (b : Association) × Has b x.site.node.state.associations × LostOrNot x.site.node.state.config (now_at x) b a → Was a
      from (b, j, r) = by (is_ended x.site.node.state.config (now_at x) b.session) refl
        where
          by : (v : Bool) → is_ended x.site.node.state.config (now_at x) b.session ≡ v → Was a
          by false e =
              subst Was (r.lasts e)
              (record {
                here = subst (λ (n : cl.ClientNode). Has b n.state.associations) (sym tk.same) j;
                lasts = subst (λ (n : cl.ClientNode). Lasts n.state.config.lease (clock_of w (nodes.Client (client c))).0 b.session) (sym tk.same)
                    (subst (λ (s : Stamp). Lasts x.site.node.state.config.lease s.0 b.session) (ap (λ ts. clock_in ts (client c)) tk.clocks) (lasting x.site.node.state.config (now_at x) b.session e));
              })
          by true e = absurd (none (subst (λ (st : pages.Store). Has pc st.commands) (r.emptied e) m))
            where
              none : Has pc [] → ⊥
              none z = z

  read_at : (number : ℕ) (result : Option (Option (Tag × List ℕ))) → EndsAs (counted w) x number result → (a : Association) → Has a (losses (client_turn x.site.node.state []) (now_at x)).state.associations → EndLeft x.world.log a number result
  unfolding pages.found pages.found_at
  read_at number result end a i = record { read = λ pc block f r g. right pc block f r (end.found block g) }
    where
      right : (pc : PageCommand) (block : Tag × List ℕ) → pages.command_of a.store.commands number ≡ Some pc → pc.kind ≡ io.Read → FoundAt (counted w) end.k block → pages.found a.store.extents (file_at a pc.ino) pc.page block.0 block.1 ≡ content x.world.log (file_at a pc.ino) pc.page
      right pc block f r at = go (pages.mapping_of a.store.extents pc.ino pc.page) refl
        where
          z : (pages.is_numbered number pc ≡ true) × Has pc a.store.commands
          z = found_at (pages.is_numbered number) a.store.commands pc f

          b : Was a
          b = was a i pc z.1

          its : IsIts (client c) tk.old.starts pc.number end.issued
          its = record { client = end.its.client; instance_ = end.its.instance_ ∙ sym starts; number_is = end.its.number_is ∙ sym (eqb-true pc.number number z.0) }

          stands : ReadRight w w.log a pc at.command
          stands = reads.right c tk.old (old_run end.runs) a b.here b.lasts pc z.1 r end.k end.issued at.command end.is its at.there

          mapped : pages.is_mapped a.store.extents pc.ino pc.page ≡ true
          mapped = (reads.clean c tk.old (old_run end.runs) a b.here pc z.1 r).1

          false_true : false ≡ true → ⊥
          false_true q = cc

          go : (o : Option MappedBlock) → pages.mapping_of a.store.extents pc.ino pc.page ≡ o → pages.found a.store.extents (file_at a pc.ino) pc.page block.0 block.1 ≡ content x.world.log (file_at a pc.ino) pc.page
          go None q = absurd (false_true (sym (ap is_some q) ∙ mapped))
          go (Some m) q =
              let k = knows c tk.old (old_run end.runs) a b.here b.lasts pc.ino pc.page m q in
              let e = some_is (sym stands.is ∙ k.1) in
              ap (pages.found_at (file_at a pc.ino) pc.page block.0 block.1) q
              ∙ ap (pages.found_under (file_at a pc.ino) pc.page block.0 block.1) (sym k.2 ∙ ap mapping_of (sym e))
              ∙ ap (λ (v : Tag × List ℕ). pages.found_under (file_at a pc.ino) pc.page v.0 v.1 (mapping_of stands.extent)) (sym at.is)
              ∙ stands.sampled at.of at.sample
              ∙ ap (λ l. content l (file_at a pc.ino) pc.page) (sym tk.log)

  ended_all : (number : ℕ) (result : Option (Option (Tag × List ℕ))) → (xs : List Association) → ((a : Association) → Has a xs → EndLeft x.world.log a number result) → AllLeft x.world.log (inputs.Done number result) xs
  ended_all number result [] f = record {}
  ended_all number result (a ∷ xs) f = record { one = f a (inl refl); rest = ended_all number result xs (λ y i. f y (inr i)) }

  pub end_left : (number : ℕ) (result : Option (Option (Tag × List ℕ))) → x.input ≡ inputs.Done number result → Ends (counted w) x → LeftOf x
  end_left number result e end =
      subst (λ i. AllLeft x.world.log i (losses (client_turn x.site.node.state []) (now_at x)).state.associations) (sym e)
      (ended_all number result (losses (client_turn x.site.node.state []) (now_at x)).state.associations (read_at number result (subst (EndsIn (counted w) x) e end)))
