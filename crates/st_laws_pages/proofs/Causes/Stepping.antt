-- A whole step of a client: what holds of all its associations, in the world that its outputs leave.
use Rattle.st_lemmas.proofs.Words
use Words.{◌≡◌, ℕ, Bool, true, false, List, [], ◌∷◌, ◌++◌, Option, Some, None, refl, sym, ap, ◌∙◌, subst, map, length, ClientId, Stamp, AppAnswer, ClientInput}
use Words.{DirtyPage}
use Words.answers
use Words.outputs
use Words.ClientPages as pages
use Words.ClientPasses as cp
use Words.ClientReplies as cr
use Words.Client as cl
use Words.ClientState.{Association, ClientState, ClientTurn, Turn, client_turn, only_at, server_of}
use Words.World as world
use Words.World.{World, WorldClient, numbered, site_of, life_with}
use Words.Events as ev
use Words.Events.{WorldTurn}
use Words.Safety.{Step}
use Words.Lists.{Has}
use Rattle.st_laws_steps.specs.Client.Losses.{Fit, is_ended}
use Rattle.st_laws_steps.specs.Client.Inputs as taking
use Rattle.st_laws_steps.specs.Client.Inputs.{Taken}
use Rattle.st_laws_steps.specs.Lives.Lives.{Pairwise, Once, server_number, NodeHolds, LivesHold}
use Rattle.st_laws_pages.specs.Flush.Flush.{Cared, NumbersBelow, NumbersApart, NodeCared}
use Rattle.st_laws_steps.proofs.Lives.Associations.{own_found, numbers_same, PairLeft, pair_left}
use Rattle.st_laws_steps.proofs.Client.Nexts.{Next, changes_next}
use Rattle.st_laws_steps.proofs.Client.Asking.{changes_by_passes}
use Rattle.st_laws_steps.proofs.Client.Replying.{changes_by_receive}
use Rattle.st_laws_steps.proofs.Client.Losing.{changes_by_only, finish_is, is_done}
use Rattle.st_laws_steps.proofs.Client.Stepping.{Goes, LostOrNot, Phased, finish_next, pairs_then, phased}
use Rattle.st_laws_steps.proofs.Client.Taking.{taken}
use Rattle.st_laws_pages.proofs.Flush.Adding.{Grows, After, still_adds, more_still}
use Rattle.st_laws_pages.proofs.Flush.Flushing.{InputTold, emptied_cared, pair_of}
use Rattle.st_laws_pages.specs.Causes.Invariants.{CommandsStand, LatestOwn}
use Rattle.st_laws_pages.proofs.Causes.Keeping.{All, changes_around, each_all, each_grows, finished_around}
use Rattle.st_laws_pages.proofs.Causes.Placed.{Placed}
use Rattle.st_laws_pages.proofs.Causes.Saying.{placed_grown}
use Rattle.st_laws_pages.proofs.Flush.Quiet.{AllQuiet, losses_quiet}

-- A whole step.
module _ (past : List Step) (w : World) (c : ClientId) (old site : WorldClient) (input : ClientInput) (now : Stamp) (there : site_of w c ≡ Some old)
    (same : old.node ≡ site.node) (starts : old.starts ≡ site.starts) (h : LivesHold w) where
  abbrev s : ClientState
  s = site.node.state

  abbrev t : ClientTurn
  t = cl.losses (client_turn s []) now

  abbrev u : ClientTurn
  u = cl.take_input t now input

  abbrev v : ClientTurn
  v = cl.work u now input

  abbrev after : WorldClient
  after = ev.at_node (cl.node_turn site.node v).node site

  abbrev sc : WorldTurn
  sc = ev.quiet (ev.with_site c after w)

  m : NodeHolds w.config w.clocks w.ended c site.node
  m = subst (NodeHolds w.config w.clocks w.ended c) same (h.lives.sites c old there)

  pub phases : Phased c s now t u v
  phases = phased c s now input m.fit

  passed : (x : Turn) → Fit x.here → Next now x (cp.passes now (cl.is_tick input) x)
  passed x f = changes_next now x (cp.passes now (cl.is_tick input) x) (changes_by_passes now (cl.is_tick input) x)

  -- The world after the outputs.
  module _ (size : ℕ) (own : site_of sc.world c ≡ Some after) (count : length sc.world.servers ≡ size) (holds : CommandsStand w.log w.commands w.disks.commands)
      (placed : Placed size v.out) (told : InputTold past sc c site.starts input) (cared : NodeCared past w.commands w.log c old)
      (latest : (a : Association) → Has a old.node.state.associations → LatestOwn c w.log a) where
    abbrev A : ClientTurn → Type 0
    A x = All past size c s sc after own count holds now x x.state.associations

    old_cared : (a : Association) → Has a s.associations → Cared past w.commands w.log c site.starts s.next_command a
    old_cared = subst (λ (n : cl.ClientNode). (a : Association) → Has a n.state.associations → Cared past w.commands w.log c site.starts n.state.next_command a)
        same (subst (λ z. (a : Association) → Has a old.node.state.associations → Cared past w.commands w.log c z old.node.state.next_command a) starts
        cared.cared)

    old_apart : (a : Association) → Has a s.associations → NumbersApart a.store.commands
    old_apart = subst (λ (n : cl.ClientNode). (a : Association) → Has a n.state.associations → NumbersApart a.store.commands) same cared.apart

    old_numbers : NumbersBelow w.commands c site.starts s.next_command
    old_numbers = subst (λ (n : cl.ClientNode). NumbersBelow w.commands c site.starts n.state.next_command) same
        (subst (λ z. NumbersBelow w.commands c z old.node.state.next_command) starts cared.numbers)

    -- after the losses
    quiet : AllQuiet (client_turn s []) t
    quiet = losses_quiet now s

    pub adds : Rattle.st_laws_pages.proofs.Flush.Growing.AddsNothing w.commands (After c s sc t.out).world.commands w.log (After c s sc t.out).world.log
    adds = subst (λ os. Rattle.st_laws_pages.proofs.Flush.Growing.AddsNothing w.commands (After c s sc os).world.commands w.log (After c s sc os).world.log)
        (sym quiet.out) (still_adds c s quiet.more sc quiet.still)

    in_t : (b : Association) → Cared past w.commands w.log c site.starts s.next_command b →
        Cared past (After c s sc t.out).world.commands (After c s sc t.out).world.log c site.starts t.state.next_command b
    in_t b g =
        subst (λ xs. Cared past xs (After c s sc t.out).world.log c site.starts t.state.next_command b) (sym adds.commands)
        (subst (λ es. Cared past w.commands es c site.starts t.state.next_command b) (sym adds.log)
        (subst (λ n. Cared past w.commands w.log c site.starts n b) (sym quiet.next) g))

    here : numbered w.clients c.0 ≡ Some old
    here = there

    pub cared_t : (b : Association) → Has b t.state.associations → Cared past w.commands w.log c site.starts s.next_command b
    cared_t b i = go (pair_of (LostOrNot s.config now) s.associations t.state.associations phases.lost.pairs b i)
      where
        go : (a : Association) × Has a s.associations × LostOrNot s.config now a b → Cared past w.commands w.log c site.starts s.next_command b
        go (a, j, r) = by (is_ended s.config now a.session) refl
          where
            by : (x : Bool) → is_ended s.config now a.session ≡ x → Cared past w.commands w.log c site.starts s.next_command b
            by false e = subst (Cared past w.commands w.log c site.starts s.next_command) (r.lasts e) (old_cared a j)
            by true e =
                emptied_cared past w c old site.starts s.next_command (old_cared a j).first here h a b
                (subst (λ (n : cl.ClientNode). Has a n.state.associations) (sym same) j)
                r.server (r.lost e) (r.emptied e)

    pub latest_t : (b : Association) → Has b t.state.associations → LatestOwn c (After c s sc t.out).world.log b
    latest_t b i = subst (λ es. LatestOwn c es b) (sym adds.log)
        (go (pair_of (LostOrNot s.config now) s.associations t.state.associations phases.lost.pairs b i))
      where
        go : (a : Association) × Has a s.associations × LostOrNot s.config now a b → LatestOwn c w.log b
        go (a, j, r) = by (is_ended s.config now a.session) refl
          where
            by : (x : Bool) → is_ended s.config now a.session ≡ x → LatestOwn c w.log b
            by false e = subst (LatestOwn c w.log) (r.lasts e) (latest a (subst (λ (n : cl.ClientNode). Has a n.state.associations) (sym same) j))
            by true e = λ ino p d q. absurd (none d (ap (λ (z : pages.Store). pages.dirty_of z.pages ino p) (sym (r.emptied e)) ∙ q))
              where
                none : (d : DirtyPage) → ◌≡◌ {A = Option DirtyPage} None (Some d) → ⊥
                none d z = cc

    pub apart_t : (b : Association) → Has b t.state.associations → NumbersApart b.store.commands
    apart_t b i = go (pair_of (LostOrNot s.config now) s.associations t.state.associations phases.lost.pairs b i)
      where
        go : (a : Association) × Has a s.associations × LostOrNot s.config now a b → NumbersApart b.store.commands
        go (a, j, r) = by (is_ended s.config now a.session) refl
          where
            by : (x : Bool) → is_ended s.config now a.session ≡ x → NumbersApart b.store.commands
            by false e = subst (λ (z : Association). NumbersApart z.store.commands) (r.lasts e) (old_apart a j)
            by true e = subst (λ (z : pages.Store). NumbersApart z.commands) (sym (r.emptied e)) (λ pc qc p q n. absurd p)

    numbers_t : map server_number s.associations ≡ map server_number t.state.associations
    numbers_t = numbers_same (LostOrNot s.config now) (λ a b r. r.server) s.associations t.state.associations phases.lost.pairs

    once_t : Once (map server_number t.state.associations)
    once_t = subst Once numbers_t m.once

    -- the associations keep their lives from here on
    abbrev Stays : Association → Association → Type 0
    Stays a b = record { server : a.server ≡ b.server; life : a.life ≡ b.life }

    stay : Pairwise Stays t.state.associations v.state.associations
    stay =
        pairs_then (Goes t.state.config now) (Goes u.state.config now) Stays (λ a b d p q. record { server = p.server ∙ q.server; life = p.life ∙ q.life })
        t.state.associations u.state.associations v.state.associations phases.received.pairs phases.worked.pairs

    pub right_t : (b : Association) → Has b t.state.associations → life_with v.state b.server ≡ b.life
    right_t b i = go (pair_left Stays (λ x y p. p.server) b.server t.state.associations v.state.associations stay b (own_found t.state.associations once_t b i))
      where
        go : PairLeft Stays b.server v.state.associations b → life_with v.state b.server ≡ b.life
        go p = ap world.life_at p.is ∙ sym p.pair.life

    begins : A t
    begins =
        record {
          cared = λ b i. in_t b (cared_t b i);
          apart = apart_t;
          numbers = subst (λ xs. NumbersBelow xs c site.starts t.state.next_command) (sym adds.commands)
              (subst (λ n. NumbersBelow w.commands c site.starts n) (sym quiet.next) old_numbers);
          right = right_t;
          once = once_t;
          fit = phases.fit;
          latests = latest_t;
        }

    -- the input
    said : (op : ℕ) (a : AppAnswer) → A t → A (cl.answered_at_once t op a)
    said op a g =
        let z = more_still c s sc t.out (outputs.Answer op a ∷ []) (record { one = tt; rest = record {} }) in
        record {
          cared = λ b i. subst (λ xs. Cared past xs (After c s sc (t.out ++ outputs.Answer op a ∷ [])).world.log c site.starts t.state.next_command b)
              (sym z.commands)
              (subst (λ es. Cared past (After c s sc t.out).world.commands es c site.starts t.state.next_command b) (sym z.log) (g.cared b i));
          apart = g.apart;
          numbers = subst (λ xs. NumbersBelow xs c site.starts t.state.next_command) (sym z.commands) g.numbers;
          right = g.right;
          once = g.once;
          fit = g.fit;
          latests = λ b i. subst (λ es. LatestOwn c es b) (sym z.log) (g.latests b i);
        }

    pub input_all : (i : ClientInput) (x : ClientTurn) → Taken t now i x → InputTold past sc c site.starts i → Placed size x.out → A x
    input_all _ _ (taking.Nothing i) told o = begins
    input_all _ _ (taking.Full op ask e) told o = said op answers.OpsFull begins
    input_all _ _ (taking.Unknown op ask e g) told o = said op answers.NoFile begins
    input_all _ _ (taking.Takes op ask e g) told o =
        each_all past size c s sc after own count holds now (only_at (server_of ask) (cl.take_ask op ask))
        (λ x f. changes_next now x _ (changes_by_only now (server_of ask) op ask x))
        (λ x f others n live p r. changes_around past size c s sc after own count holds now x _ (changes_by_only now (server_of ask) op ask x) others n live p
        r) t o begins
    input_all _ _ (taking.Receives m e) told o =
        each_all past size c s sc after own count holds now (cr.receive_at now m.header m.body)
        (λ y f. changes_next now y _ (changes_by_receive now m.header m.body y f.fresh))
        (λ y f others n live p r. changes_around past size c s sc after own count holds now y _ (changes_by_receive now m.header m.body y f.fresh) others n live
        p r) t o begins
    input_all _ _ (taking.Finishes number result) told o =
        each_all past size c s sc after own count holds now (cl.finish number result) (λ y f. finish_next now number result y)
        (λ y f others n live p r. finished_around past size c s sc after own count holds now number (is_done result) y (cl.finish number result y)
        (finish_is now number result y) told others n live p r) t o begins

    pub work_grows : Grows u.out v.out
    unfolding cl.work
    work_grows = each_grows past size c s sc after own count holds now (cp.passes now (cl.is_tick input)) passed u phases.fit_too

    ends : A v
    unfolding cl.work
    ends =
        each_all past size c s sc after own count holds now (cp.passes now (cl.is_tick input)) passed
        (λ x f others n live p r. changes_around past size c s sc after own count holds now x _ (changes_by_passes now (cl.is_tick input) x) others n live p r)
        u placed
        (input_all input u (taken t now input) told (placed_grown size u.out v.out work_grows placed))

    pub step_cared : NodeCared past (After c s sc v.out).world.commands (After c s sc v.out).world.log c after
    step_cared = record { cared = ends.cared; apart = ends.apart; numbers = ends.numbers }

    pub step_latest : (a : Association) → Has a v.state.associations → LatestOwn c (After c s sc v.out).world.log a
    step_latest = ends.latests
