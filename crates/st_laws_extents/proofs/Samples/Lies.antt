-- When a client that runs takes an input, each read that it submits goes to where the server has the page.
use Rattle.st_lemmas.proofs.Words
use Words.{◌≡◌, ℕ, ◌<◌, ◌==◌, true, List, [], Option, Some, None, refl, sym, ap, ◌∙◌, subst, eqb-true, PageNo, ClientInput, KnownExtent, MappedBlock}
use Words.{PageCommand}
use Words.nodes
use Words.inputs
use Words.Client as cl
use Words.ClientPages as store
use Words.ClientState.{Association, ClientSession, ClientState, client_turn}
use Words.Events.{WorldTurn, counted}
use Words.Keys.{same_page}
use Words.World.{World, clock_of, site_of}
use Words.Lists.{Has}
use Words.Tables.{and_true, found_at}
use Rattle.st_laws_refine.specs.Client.Invariants.{Lasts}
use Rattle.st_laws_steps.specs.Lives.Lives.{clock_in}
use Rattle.st_laws_steps.specs.Client.Losses.{Fit}
use Rattle.st_laws_pages.specs.Disks.World.{mapped_in}
use Rattle.st_laws_reads.specs.Copies.Copies.{file_at}
use Rattle.st_laws_reads.specs.Copies.World.{Taking, now_at, turn_of}
use Rattle.st_laws_reads.specs.AllClients.CutFiles.{AllCleared, Cleared}
use Rattle.st_laws_reads.proofs.AllClients.Behind.{Behind, behind}
use Rattle.st_laws_reads.proofs.AllClients.Takings.{Takes}
use Rattle.st_laws_extents.specs.Known.Known.{Knows, Locked}
use Rattle.st_laws_extents.specs.Known.WritePlaces.{AllKnow, AllLocked, InputTold, LiesAs, anything, lies}
use Rattle.st_laws_steps.specs.Client.Inputs.{Each}
use Rattle.st_laws_extents.proofs.Known.Step.{Fine, Told, lost_knows, step_fine}
use Rattle.st_laws_extents.specs.DiskReads.Reads.{LiesAt, ReadsLie}
use Rattle.st_laws_extents.specs.Samples.SubmittedReads.{KnownTo}
use Rattle.st_laws_extents.proofs.Samples.Step.{all_sent}
use Rattle.st_laws_extents.proofs.Known.World.{knows_by, lies_same}

-- what is known of a page, as its extent
known_at : (w : World) (a : Association) → Knows (lies w) a → (ino : ℕ) (p : PageNo) (m : MappedBlock) → store.mapping_of a.store.extents ino p ≡ Some m → lies w a.server ino p m
known_at w a h ino p m q = go (store.known_of a.store.extents ino p) refl q
  where
    none_some : ◌≡◌ {A = Option MappedBlock} None (Some m) → ⊥
    none_some z = cc

    go : (o : Option KnownExtent) → store.known_of a.store.extents ino p ≡ o → store.mapping_at o ≡ Some m → lies w a.server ino p m
    go None f q = absurd (none_some q)
    go (Some k) f q =
        let z = found_at (store.is_known_of ino p) a.store.extents k f in
        let b = and_true (k.ino == ino) (same_page k.page p) z.0 in
        let y = (h k z.1).is m q in
        let n = eqb-true k.ino ino b.0 in
        let g : k.page ≡ p = ap (λ v. record { 0 = v }) (eqb-true k.page.0 p.0 b.1) in
        subst (λ (v : PageNo). lies w a.server ino v m) g (subst (λ (v : ℕ). lies w a.server v k.page m) n y)

-- A client takes an input.
module _ (w : World) (sc : WorldTurn) (x : Taking) (t : Takes (counted w) sc x) (fits : (a : Association) → Has a t.old.node.state.associations → Fit a) (clear : AllCleared w) (locked : AllLocked w) (h : AllKnow w) (told : InputTold x x.input) (runs : x.site.node.running ≡ true)
    (below : (a : Association) → Has a t.old.node.state.associations → (pc : PageCommand) → Has pc a.store.commands → pc.number < t.old.node.state.next_command) where
  abbrev s : ClientState
  s = x.site.node.state

  abbrev left : List Association
  left = (cl.losses (client_turn s []) (now_at x)).state.associations

  old_there : site_of w x.client ≡ Some t.old
  old_there = t.there

  old_runs : t.old.node.running ≡ true
  old_runs = ap (λ (n : cl.ClientNode). n.running) t.same ∙ runs

  of_old : (P : Association → Type 0) → Each P t.old.node.state.associations → Each P s.associations
  of_old P = subst (λ (n : cl.ClientNode). Each P n.state.associations) t.same

  before : Each (Knows (lies x.world)) left
  before a i = go a.session refl
    where
      go : (o : Option ClientSession) → a.session ≡ o → Knows (lies x.world) a
      go None e = λ y j. absurd (subst (λ o. Locked o y.ino) e (lost_knows anything s (now_at x) (of_old (Knows anything) (locked x.client t.old old_there)) a i y j).locked)
      go (Some u) e = knows_by (lies w) (lies x.world) a (λ ino p m k. lies_same w x.world t.servers a.server ino p m) ((h x.client t.old old_there).knows old_runs a was lasts)
        where
          b : Behind s (now_at x) a
          b = behind x.client s (now_at x) (of_old Fit fits) a i u e

          was : Has a t.old.node.state.associations
          was = subst (λ (n : cl.ClientNode). Has a n.state.associations) (sym t.same) b.was

          lasts : Lasts t.old.node.state.config.lease (clock_of w (nodes.Client x.client)).0 a.session
          lasts =
              subst (λ (n : cl.ClientNode). Lasts n.state.config.lease (clock_of w (nodes.Client x.client)).0 a.session) (sym t.same)
              (subst (λ ts. Lasts s.config.lease (clock_in ts x.client).0 a.session) t.clocks b.lasts)

  receives : (i : ClientInput) → InputTold x i → Told (lies x.world) left i
  receives (inputs.Control m) k = k
  receives inputs.Tick k = tt
  receives (inputs.App op ask) k = tt
  receives (inputs.Done number result) k = tt

  fine : Fine (lies x.world) (turn_of x)
  fine = step_fine (lies x.world) s (now_at x) x.input (of_old Cleared (clear x.client t.old old_there)) (receives x.input told) before

  below_here : (a : Association) → Has a s.associations → (pc : PageCommand) → Has pc a.store.commands → pc.number < s.next_command
  below_here = subst (λ (n : cl.ClientNode). (a : Association) → Has a n.state.associations → (pc : PageCommand) → Has pc a.store.commands → pc.number < n.state.next_command) t.same below

  pub reads_lie : ReadsLie x
  reads_lie r a i pc j k at to m = go (((all_sent x.client s (now_at x) x.input (of_old Fit fits) below_here).right a i).to pc j k at to m)
    where
      of_lies : (y : MappedBlock) → y.at ≡ to → LiesAs (mapped_in x.world (file_at a.server pc.ino) pc.page) y → LiesAt x.world a pc to
      of_lies y e z = record { extent = z.extent; is = z.is; at = z.at ∙ e }

      go : KnownTo a.store pc to → LiesAt x.world a pc to
      go y = of_lies y.mapping y.at (known_at x.world a (fine.knows a i) pc.ino pc.page y.mapping y.is)
