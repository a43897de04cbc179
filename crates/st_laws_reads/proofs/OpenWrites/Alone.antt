-- A write that a client's step submits is the only one of its page that may have its effect.
use Rattle.st_lemmas.proofs.Words
use Words.{◌≡◌, ◌≢◌, ℕ, suc, ◌≤◌, ◌⊎◌, Bool, true, false, List, [], ◌∷◌, ◌++◌, Option, Some, None, refl, sym, ap, ◌∙◌, subst, inl, inr, arith, find, length}
use Words.{map, option_map, leb-true, ne_eqb, BlockAt, Tag, FileId, ServerId, Stamp, Ask, Output, ClientInput, DiskCommand, IssuedCommand, LeaseLife}
use Words.commands
use Words.nodes
use Words.outputs
use Words.Admissible as adm
use Words.Client as cl
use Words.ClientLease as lease
use Words.ClientState.{Association, ClientSession, is_at}
use Words.Disks as disks
use Words.Disks.{Disks}
use Words.Events as ev
use Words.Events.{WorldTurn, client_says_all}
use Words.Keys.{client}
use Words.Safety.{Step}
use Words.World as world
use Words.World.{World, WorldClient, clock_of, end_or_present, ended_of, is_life_of, lease_end_of, life_with, numbered, present_end, site_of, with_numbered}
use Words.Lists.{Has}
use Words.Numbers.{numbered_below, numbered_has, numbered_other, numbered_own}
use Words.Tables.{same_or_not}
use Words.Truth.{none_not_some}
use Words.Worlds.{says_both}
use Rattle.st_protocol.specs.Assoc.{Config}
use Rattle.st_laws_refine.specs.Views.Halves.{held_in}
use Rattle.st_laws_refine.specs.Client.Invariants.{Lasts}
use Rattle.st_laws_pages.specs.Flush.Flush.{Cared, FlushHold, NodeCared}
use Rattle.st_laws_steps.specs.Lives.Lives.{IsKnown, LivesHold, NodeHolds, Once, Stepped, ended_rows, server_number}
use Rattle.st_laws_steps.specs.Client.Losses.{Fit, is_ended}
use Rattle.st_laws_pages.specs.Disks.Obligations.{TimelyIn}
use Rattle.st_laws_pages.specs.Disks.Pages.{same_place}
use Rattle.st_laws_pages.specs.Disks.World.{Living, Timely}
use Rattle.st_laws_steps.proofs.Lives.Associations.{lost_other, own_found}
use Rattle.st_laws_pages.proofs.Lives.Each.{SteppedNode}
use Rattle.st_laws_pages.proofs.Lives.Lasting.{Flushed, flush_parts}
use Rattle.st_laws_pages.proofs.Disks.Law.{same_place_is}
use Rattle.st_laws_pages.proofs.Lives.Lives.{find_back, find_front}
use Rattle.st_laws_pages.proofs.Lives.LifeSteps.{steps_so}
use Rattle.st_laws_pages.proofs.Lives.Turning.{Said, says_lives}
use Rattle.st_laws_pages.proofs.Causes.Placed.{Placed}
use Rattle.st_laws_reads.specs.Copies.Law.{StandsAt}
use Rattle.st_laws_reads.specs.AllClients.World.{CopiesHold}
use Rattle.st_laws_reads.proofs.AllClients.Alone.{while_at}
use Rattle.st_laws_reads.proofs.AllClients.Takings.{there_at}
use Rattle.st_laws_pages.specs.Writes.Writes.{IsListed, ListedSince, OpenHold, WritesOnce}
use Rattle.st_laws_pages.proofs.Writes.Joining.{IsNew, all_say, placed_at}
use Rattle.st_laws_pages.proofs.Writes.Listing.{write_said}
use Rattle.st_laws_pages.proofs.Writes.Walking.{AfterStep, EndedBy, ListedAt, StepKeeps, step_keeps}
use Rattle.st_laws_reads.specs.OpenWrites.StandAlone.{OfLife}
use Rattle.st_laws_reads.specs.OpenWrites.StandStill.{WritesHold}
use Rattle.st_laws_reads.proofs.OpenWrites.Cases.{living_own}
use Rattle.st_laws_reads.proofs.OpenWrites.Growing.{Grows, Submitted, grows_all, submitted}
use Rattle.st_laws_reads.proofs.OpenWrites.Lasting.{step_lasts}
use Rattle.st_laws_pages.proofs.Causes.FlushSteps.{flushes_disks}
use Rattle.st_laws_pages.proofs.Flush.Flushing.{pair_of}
use Rattle.st_laws_reads.proofs.OpenWrites.Locked.{timely_end}

-- What belongs to other clients, or to lives that ended, is as late as it was.
pub record StepsOn (w v : World) (c : ℕ) (old new : WorldClient) : Type 0 where
  pub there : site_of w (client c) ≡ Some old
  pub clocks : v.clocks ≡ w.clocks
  pub clients : v.clients ≡ with_numbered c new w.clients
  pub rows : List LeaseLife
  pub ended : v.ended ≡ w.ended ++ rows
  pub others : (x : IssuedCommand) → x.client.0 ≢ c → find (is_life_of x.client x.server x.life) rows ≡ None

still_timely : (w v : World) (c : ℕ) (old new : WorldClient) → StepsOn w v c old new → (k : ℕ) (x : IssuedCommand) → Timely w k x → ((e : LeaseLife) × (ended_of w x.client x.server x.life ≡ Some e)) ⊎ ((x.client.0 ≢ c) × (ended_of w x.client x.server x.life ≡ None)) → Timely v k x
still_timely w v c old new s k x t h = ap (λ o. adm.late_at (clock_of v (nodes.Client x.client)) o) (ends h) ∙ ap (λ ts. adm.late_at (Rattle.std.specs.Prelude.unwrap_or (numbered ts x.client.0) (world.stamp 0)) (lease_end_of w x.client x.server x.life)) s.clocks ∙ t
  where
    p : LeaseLife → Bool
    p = is_life_of x.client x.server x.life

    ends : ((e : LeaseLife) × (ended_of w x.client x.server x.life ≡ Some e)) ⊎ ((x.client.0 ≢ c) × (ended_of w x.client x.server x.life ≡ None)) → lease_end_of v x.client x.server x.life ≡ lease_end_of w x.client x.server x.life
    ends (inl (e, q)) = ap (end_or_present v x.client x.server) (ap (find p) s.ended ∙ find_front p w.ended s.rows e q) ∙ ap (end_or_present w x.client x.server) (sym q)
    ends (inr (n, q)) =
        ap (end_or_present v x.client x.server) (ap (find p) s.ended ∙ find_back p w.ended s.rows q ∙ s.others x n)
        ∙ ap (present_end v x.server) (ap (λ cs. numbered cs x.client.0) s.clients ∙ numbered_other w.clients c x.client.0 new (numbered_below w.clients c old s.there).0 n)
        ∙ ap (end_or_present w x.client x.server) (sym q)

module _ (w : World) (c : ℕ) (old site : WorldClient) (input : ClientInput) (there : site_of w (client c) ≡ Some old) (same : old.node ≡ site.node) (runs : site.node.running ≡ true) (lives : LivesHold w) (counts : length w.commands ≡ length w.disks.commands)
    (placed : Placed (length w.servers) (cl.client_step site.node.state (clock_of w (nodes.Client (client c))) input).out) (once : (a : Association) → Has a site.node.state.associations → WritesOnce a) where
  abbrev pub now : Stamp
  now = clock_of w (nodes.Client (client c))

  abbrev pub t : cl.NodeTurn
  t = SteppedNode w (client c) site input

  abbrev pub mine : WorldClient
  mine = ev.at_node t.node site

  abbrev pub sc0 : WorldTurn
  sc0 = ev.quiet (ev.with_site (client c) mine w)

  abbrev pub u : World
  u = (client_says_all (client c) site.node.state t.out sc0).world

  abbrev pub v : World
  v = ev.flushes (client c) t.node.state (world.all_servers u) u

  said : Said (client c) (ended_rows (client c) site.node.state t.out) sc0.world u
  said = says_lives (client c) site.node.state t.out sc0

  fl : Flushed u v
  fl = flush_parts (client c) t.node.state (world.all_servers u) u

  fit : (a : Association) → Has a site.node.state.associations → Fit a
  fit = subst (λ (n : cl.ClientNode). (a : Association) → Has a n.state.associations → Fit a) same (lives.lives.sites (client c) old there).fit

  st : Stepped now (client c) old.node.state t.node.state t.out
  st = steps_so w (client c) old site input there same lives

  clients : v.clients ≡ with_numbered c mine w.clients
  clients = fl.clients ∙ said.clients

  pub own : site_of v (client c) ≡ Some mine
  own = ap (λ z. numbered z c) clients ∙ numbered_own w.clients c mine old there

  pub first : site_of sc0.world (client c) ≡ Some mine
  first = numbered_own w.clients c mine old there

  pub clock : clock_of v (nodes.Client (client c)) ≡ now
  clock = ap (λ ts. Rattle.std.specs.Prelude.unwrap_or (numbered ts c) (world.stamp 0)) (fl.clocks ∙ said.clocks)

  on : StepsOn w v c old mine
  on =
      record {
        there = there;
        clocks = fl.clocks ∙ said.clocks;
        clients = clients;
        rows = ended_rows (client c) site.node.state t.out;
        ended = fl.ended ∙ said.ended;
        others = λ x n. ap (find (is_life_of x.client x.server x.life)) (ap (λ (m : cl.ClientNode). ended_rows (client c) m.state t.out) (sym same) ∙ st.rows)
            ∙ lost_other (client c) x.client old.node.state now x.server x.life old.node.state.associations (ne_eqb c x.client.0 (λ z. n (sym z)));
      }

  keeps : StepKeeps (EndedBy input) now site.node.state t.node.state t.out
  keeps = step_keeps (client c) site.node.state now input fit once

  -- commands of a world among the outputs are there after them
  module _ (pre rest : List Output) (parts : pre ++ rest ≡ t.out) where
    abbrev pub sc1 : WorldTurn
    sc1 = client_says_all (client c) site.node.state pre sc0

    behind : u ≡ (client_says_all (client c) site.node.state rest sc1).world
    behind = ap (λ os. (client_says_all (client c) site.node.state os sc0).world) (sym parts) ∙ ap (λ (s : WorldTurn). s.world) (says_both (client c) site.node.state pre rest sc0)

    grown : Grows sc1.world u
    grown = subst (Grows sc1.world) (sym behind) (grows_all (client c) site.node.state rest sc1)

    to_v : (k : ℕ) (x : IssuedCommand) (d : DiskCommand) → numbered u.commands k ≡ Some x → disks.command_at u.disks.commands k ≡ Some d → (numbered v.commands k ≡ Some x) × (disks.command_at v.disks.commands k ≡ Some d)
    to_v k x d i j = (ap (λ xs. numbered xs k) fl.commands ∙ i, ap (λ (z : Disks). disks.command_at z.commands k) (flushes_disks (client c) t.node.state (world.all_servers u) u) ∙ j)

  module _ (asks : ℕ → ℕ → Option Ask) (k : Config) (count : ℕ) (past : List Step) (h : WritesHold k count v) (open_ : OpenHold v) (copies : CopiesHold asks v) (flush : FlushHold past v)
      (served : (j : ℕ) (y : IssuedCommand) (a : BlockAt) (g : Tag) (ct : List ℕ) → Living (Timely w) w.commands w.disks.commands j y a g ct → y.server ≡ g.file.server) where
    cared : NodeCared past v.commands v.log (client c) mine
    cared = flush.sites (client c) mine own runs

    once_after : Once (map server_number mine.node.state.associations)
    once_after = (h.all.fates.lives.lives.sites (client c) mine own).once

    -- two writes of one page that are outstanding at one association are the same
    one_only : (b : Association) → Has b mine.node.state.associations → (i j : ℕ) (x y : IssuedCommand) (f g : Tag) → numbered v.commands i ≡ Some x → numbered v.commands j ≡ Some y → x.client ≡ client c → y.client ≡ client c →
        ListedSince mine.starts b x f → ListedSince mine.starts b y g → f.file ≡ g.file → f.page ≡ g.page → i ≡ j
    one_only b here i j x y f g xi yi xc yc l m ef ep =
        sym ((z.writes l.listed.command l.listed.here l.listed.version l.listed.kind).world i x xi (record { client = xc; instance_ = l.since; number_is = sym l.listed.number_is })).last
        ∙ ((z.writes l.listed.command l.listed.here l.listed.version l.listed.kind).world j y yi (record { client = yc; instance_ = m.since; number_is = sym m.listed.number_is ∙ sym same_number })).last
      where
        z : Cared past v.commands v.log (client c) mine.starts mine.node.state.next_command b
        z = cared.cared b here

        same_number : l.listed.command.number ≡ m.listed.command.number
        same_number =
            z.once l.listed.command m.listed.command l.listed.here m.listed.here l.listed.version m.listed.version l.listed.kind m.listed.kind
            (l.listed.ino ∙ ap (λ (q : FileId). q.ino) ef ∙ sym m.listed.ino) (l.listed.page ∙ ep ∙ sym m.listed.page)

    -- a life at a server after the step
    pub life_there : (b : Association) → Has b mine.node.state.associations → (s : ServerId) → s ≡ b.server → life_with mine.node.state s ≡ b.life
    life_there b here s e = ap (λ o. world.life_at o) (ap (λ z. find (is_at z) mine.node.state.associations) e ∙ own_found mine.node.state.associations once_after b here)

    module _ (pre rest : List Output) (number : ℕ) (at to : BlockAt) (tag : Tag) (bytes : List ℕ) (parts : pre ++ write_said number at to tag bytes ∷ rest ≡ t.out) where
      abbrev pub w1 : World
      w1 = (client_says_all (client c) site.node.state pre sc0).world

      in_out : (o : Output) → Has o (pre ++ write_said number at to tag bytes ∷ rest) → Has o t.out
      in_out o i = subst (Has o) parts i

      among : (o : Output) (os : List Output) → Has o (os ++ o ∷ rest)
      among o [] = inl refl
      among o (y ∷ os) = inr (among o os)

      in_front : (o : Output) (os ps : List Output) → Has o os → Has o (os ++ ps)
      in_front o [] ps i = absurd i
      in_front o (y ∷ os) ps (inl e) = inl e
      in_front o (y ∷ os) ps (inr i) = inr (in_front o os ps i)

      its : Has (write_said number at to tag bytes) t.out
      its = in_out (write_said number at to tag bytes) (among (write_said number at to tag bytes) pre)

      pub listed : ListedAt mine.node.state.associations number tag
      listed = keeps.said number at to tag bytes its

      abbrev pub b : Association
      b = listed.0

      pub here : Has b mine.node.state.associations
      here = listed.1

      pub on_b : IsListed b number tag
      on_b = listed.2

      pub g1 : Grows sc0.world w1
      g1 = grows_all (client c) site.node.state pre sc0

      pub own1 : site_of w1 (client c) ≡ Some mine
      own1 = ap (λ z. numbered z c) g1.clients ∙ first

      -- the command
      abbrev x : IssuedCommand
      x = ev.issued w1 (client c) mine number at (commands.Write to tag bytes)

      new : Submitted (client c) mine number at (commands.Write to tag bytes) w1 u
      new = subst (Submitted (client c) mine number at (commands.Write to tag bytes) w1) (sym (behind pre (write_said number at to tag bytes ∷ rest) parts)) (submitted (client c) site.node.state mine number at (commands.Write to tag bytes) rest (client_says_all (client c) site.node.state pre sc0) own1)

      abbrev its_number : ℕ
      its_number = suc (length w1.commands)

      new_write_is_issued : numbered v.commands its_number ≡ Some x
      new_write_is_issued = ap (λ xs. numbered xs its_number) fl.commands ∙ new.issued

      new_write_is_listed : ListedSince mine.starts b x tag
      new_write_is_listed = record { since = refl; listed = on_b }

      pub lasts : Lasts mine.node.state.config.lease (clock_of v (nodes.Client (client c))).0 b.session
      lasts =
          subst (λ (s : Stamp). Lasts mine.node.state.config.lease s.0 b.session) (sym clock)
          (subst (λ (z : Rattle.st_base.specs.declared.config.Config.Config). Lasts z.lease now.0 b.session) (ap (λ (n : cl.ClientNode). n.state.config) (sym same) ∙ st.config) (step_lasts (client c) site.node.state now input fit b here))

      pub mode : 2 ≤ (held_in b.session tag.file.ino).mode
      mode =
          let z = (copies c mine own).runs runs in
          let s : StandsAt (client c) v.log b = (while_at _ _ (client c) v.log mine.node.state.associations b z.copies here).lasting lasts in
          subst (λ i. 2 ≤ (held_in b.session i).mode) on_b.ino ((s.pages on_b.command.ino on_b.command.page).mode on_b.dirty on_b.dirty_is)

      -- another write of the page is not there
      module _ (j : ℕ) (y : IssuedCommand) (a : BlockAt) (g : Tag) (ct : List ℕ) (l : Living (TimelyIn w) w1.commands w1.disks.commands j y a g ct) (place : same_place g.file g.page tag.file tag.page ≡ true) where
        places : (g.file ≡ tag.file) × (g.page ≡ tag.page)
        places = same_place_is g.file tag.file g.page tag.page place

        other_write_is_issued : (numbered v.commands j ≡ Some y) × (disks.command_at v.disks.commands j ≡ Some l.command)
        other_write_is_issued =
            let z = grown pre (write_said number at to tag bytes ∷ rest) parts in
            to_v pre (write_said number at to tag bytes ∷ rest) parts j y l.command (z.issued j y l.issued) (z.command j l.command l.is)

        differs : j ≡ its_number → ⊥
        differs e = let z = (numbered_below w1.commands j y l.issued).1 in omega (arith, e, z)

        -- one of this life
        own_one : OfLife c b y → ⊥
        own_one o =
            differs
            (one_only b here j its_number y x g tag other_write_is_issued.0 new_write_is_issued o.client refl
            (open_ (client c) mine own runs b here j y l.command a g ct other_write_is_issued.0 other_write_is_issued.1 l.what l.unreported o.client o.server
            o.life) new_write_is_listed places.0 places.1)

        at_b : y.server ≡ g.file.server → y.server ≡ b.server
        at_b e = e ∙ ap (λ (f : FileId). f.server) places.0 ∙ on_b.server

        newer : IsNew (client c) mine (length w.servers) pre y l.command → ⊥
        newer n =
            let wh : n.what ≡ commands.Write a g ct = sym n.what_is ∙ l.what in
            let i : Has (write_said y.number n.at a g ct) pre = subst (λ z. Has (outputs.Submit y.number n.at z) pre) wh n.said in
            let p = placed_at (length w.servers) t.out placed y.number n.at a g ct (in_out (write_said y.number n.at a g ct) (in_front (write_said y.number n.at a g ct) pre _ i)) in
            let sv = at_b (n.server ∙ ap (λ (m : ℕ). world.server m) p) in
            own_one (record { client = n.client; server = sv; life = n.life ∙ life_there b here y.server sv })

        -- one that was there
        module _ (i : numbered w.commands j ≡ Some y) (d : disks.command_at w.disks.commands j ≡ Some l.command) where
          timely : Timely w j y
          timely = l.timely i

          sv : y.server ≡ b.server
          sv = at_b (served j y a g ct (record { issued = i; command = l.command; is = d; what = l.what; unreported = l.unreported; fresh = l.fresh; timely = timely }))

          by_timely : Timely v j y → ⊥
          by_timely z =
              own_one
              (living_own asks k count v h open_ copies c mine (record { there = own; runs = runs }) b here (there_at v mine.node.state.associations b ((copies c mine own).servers) here) lasts
              j y a g ct
              (record {
                issued = other_write_is_issued.0;
                command = l.command;
                is = other_write_is_issued.1;
                what = l.what;
                unreported = l.unreported;
                fresh =
                    l.fresh;
                timely = z;
              }) sv
              (subst (λ (f : FileId). 1 ≤ (held_in b.session f.ino).mode) (sym places.0) (omega (arith, mode)))).of

          present : y.client.0 ≡ c → ended_of w y.client y.server y.life ≡ None → ⊥
          present e none = go (pair_of (AfterStep (EndedBy input) site.node.state.config now) site.node.state.associations mine.node.state.associations keeps.pairs b here)
            where
              go : (p : Association) × Has p site.node.state.associations × AfterStep (EndedBy input) site.node.state.config now p b → ⊥
              go (p, pi, r) = by (is_ended site.node.state.config now p.session) refl
                where
                  m : NodeHolds w.config w.clocks w.ended (client c) old.node
                  m = lives.lives.sites (client c) old there

                  there_p : Has p old.node.state.associations
                  there_p = subst (λ (n : cl.ClientNode). Has p n.state.associations) (sym same) pi

                  found : find (is_at y.server) old.node.state.associations ≡ Some p
                  found = ap (λ s. find (is_at s) old.node.state.associations) (sv ∙ sym r.server) ∙ own_found old.node.state.associations m.once p there_p

                  its_site : site_of w y.client ≡ Some old
                  its_site = ap (λ n. numbered w.clients n) e ∙ there

                  life : p.life.0 ≡ y.life.0
                  life = known (lives.known.commands y (numbered_has w.commands j y i))
                    where
                      known : IsKnown w.clients w.ended y.client y.server y.life → p.life.0 ≡ y.life.0
                      known (inl (q, z)) = absurd (none_not_some q (sym none ∙ z))
                      known (inr z) = ap (λ o. (world.life_at o).0) (sym found) ∙ ap (λ o. (ev.life_of_site y.server o).0) (sym its_site) ∙ z

                  ends : lease_end_of w y.client y.server y.life ≡ lease.end_at old.node.state.config (cl.lease_at (Some p))
                  ends = ap (end_or_present w y.client y.server) none ∙ ap (present_end w y.server) its_site ∙ ap (λ o. lease.end_at old.node.state.config (cl.lease_at o)) found

                  by : (z : Bool) → is_ended site.node.state.config now p.session ≡ z → ⊥
                  by false q = own_one (record { client = ap client e; server = sv; life = ap (λ n. record { 0 = n }) (sym life) ∙ (r.lasts q).life })
                  by true q = late p.session refl
                    where
                      late : (s : Option ClientSession) → p.session ≡ s → ⊥
                      late None z = let n = ap (is_ended site.node.state.config now) (sym z) ∙ q in cc n
                      late (Some s) z =
                          let n = ap (is_ended site.node.state.config now) (sym z) ∙ q in
                          let le = leb-true (lease.end_of site.node.state.config s.lease).0 now.0 n in
                          let b = timely_end (clock_of w (nodes.Client y.client)) (lease_end_of w y.client y.server y.life) (lease.end_of old.node.state.config s.lease) (ends ∙ ap (λ o. lease.end_at old.node.state.config (option_map cl.lease_of_session o)) z) timely in
                          let cl_ = ap (λ n. (Rattle.std.specs.Prelude.unwrap_or (numbered w.clocks n) (world.stamp 0)).0) e in
                          let kf = ap (λ (n : cl.ClientNode). (lease.end_of n.state.config s.lease).0) same in
                          omega (arith, le, b, cl_, kf)

          older : ⊥
          older = go (ended_of w y.client y.server y.life) refl (same_or_not y.client.0 c)
            where
              go : (o : Option LeaseLife) → ended_of w y.client y.server y.life ≡ o → (y.client.0 ≡ c) ⊎ (y.client.0 ≢ c) → ⊥
              go (Some e) q n = by_timely (still_timely w v c old mine on j y timely (inl (e, q)))
              go None q (inl e) = present e q
              go None q (inr n) = by_timely (still_timely w v c old mine on j y timely (inr (n, q)))

        pub alone : ⊥
        alone = go (all_say (client c) site.node.state mine (length w.servers) pre sc0 (record { own = first; counts = counts; servers = refl }) j y l.command (l.issued, l.is))
          where
            go : ((numbered sc0.world.commands j ≡ Some y) × (disks.command_at sc0.world.disks.commands j ≡ Some l.command)) ⊎ IsNew (client c) mine (length w.servers) pre y l.command → ⊥
            go (inl i) = older i.0 i.1
            go (inr n) = newer n
