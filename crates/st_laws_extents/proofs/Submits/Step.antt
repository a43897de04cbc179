-- A whole step of a client: what each write that it submits carries, and the latest entries of its dirty pages after it.
use Rattle.st_lemmas.proofs.Words
use Words.{◌≡◌, ℕ, Bool, true, false, List, [], ◌∷◌, Option, Some, None, refl, sym, ap, ◌∙◌, subst, length, map, ClientId, Stamp, AppAnswer, Output, Note}
use Words.{ClientInput, DirtyPage}
use Words.answers
use Words.outputs
use Words.Client as cl
use Words.ClientPages as pages
use Words.ClientPasses as cp
use Words.ClientReplies as cr
use Words.ClientState.{Association, ClientState, ClientTurn, Turn, client_turn, only_at, server_of}
use Words.Events as ev
use Words.Events.{WorldTurn}
use Words.World as world
use Words.World.{World, WorldClient, life_with, site_of}
use Words.Lists.{Has}
use Rattle.st_laws_steps.specs.Lives.Lives.{LivesHold, NodeHolds, Once, Pairwise, server_number}
use Rattle.st_laws_steps.specs.Client.Losses.{Fit, is_ended}
use Rattle.st_laws_steps.specs.Client.Inputs as taking
use Rattle.st_laws_steps.specs.Client.Inputs.{Taken}
use Rattle.st_laws_pages.proofs.Flush.Adding.{After, AllStill, Grows, still_adds}
use Rattle.st_laws_steps.proofs.Client.Asking.{changes_by_passes}
use Rattle.st_laws_steps.proofs.Lives.Associations.{PairLeft, numbers_same, own_found, pair_left}
use Rattle.st_laws_pages.proofs.Flush.Flushing.{pair_of}
use Rattle.st_laws_pages.proofs.Flush.Growing.{AddsNothing}
use Rattle.st_laws_steps.proofs.Client.Losing.{changes_by_only, finish_is, is_done}
use Rattle.st_laws_steps.proofs.Client.Nexts.{Next, changes_next}
use Rattle.st_laws_steps.proofs.Client.Replying.{changes_by_receive}
use Rattle.st_laws_steps.proofs.Client.Stepping.{Goes, LostOrNot, Phased, finish_next, pairs_then, phased}
use Rattle.st_laws_steps.proofs.Client.Taking.{taken}
use Rattle.st_laws_pages.specs.Causes.Invariants.{LatestOwn}
use Rattle.st_laws_pages.proofs.Causes.Placed.{Placed}
use Rattle.st_laws_pages.proofs.Causes.Saying.{placed_grown}
use Rattle.st_laws_extents.specs.Submits.Submits.{EachFine, LatestLast}
use Rattle.st_laws_pages.proofs.Flush.Quiet.{AllQuiet, losses_quiet}
use Rattle.st_laws_extents.proofs.Submits.Walk.{All, PageFine, changes_in, each_all, each_grows, fine_last, finished_in}

-- answers and losses submit nothing
still_fine : (c : ClientId) (before : ClientState) (os : List Output) (sc : WorldTurn) → AllStill os → EachFine c before sc os
still_fine c before [] sc h = record {}
still_fine c before (outputs.Send m ∷ os) sc h = absurd h.one
still_fine c before (outputs.Submit n a w ∷ os) sc h = absurd h.one
still_fine c before (outputs.Answer op a ∷ os) sc h = record
    { one = tt; rest = still_fine c before os (ev.client_says sc c before (outputs.Answer op a)) h.rest }
still_fine c before (outputs.Note n ∷ os) sc h = record { one = tt; rest = still_fine c before os (ev.client_says sc c before (outputs.Note n)) h.rest }

module _ (w : World) (c : ClientId) (old site : WorldClient) (input : ClientInput) (now : Stamp) (there : site_of w c ≡ Some old) (same : old.node ≡ site.node)
    (h : LivesHold w) where
  abbrev s : ClientState
  s = site.node.state

  abbrev t : ClientTurn
  t = cl.losses (client_turn s []) now

  abbrev u : ClientTurn
  u = cl.take_input t now input

  abbrev v : ClientTurn
  v = cl.work u now input

  abbrev after : WorldClient
  after = ev.at_node (cl.node_turn site.node v).node site

  abbrev pub sc : WorldTurn
  sc = ev.quiet (ev.with_site c after w)

  m : NodeHolds w.config w.clocks w.ended c site.node
  m = subst (NodeHolds w.config w.clocks w.ended c) same (h.lives.sites c old there)

  phases : Phased c s now t u v
  phases = phased c s now input m.fit

  passed : (x : Turn) → Fit x.here → Next now x (cp.passes now (cl.is_tick input) x)
  passed x f = changes_next now x (cp.passes now (cl.is_tick input) x) (changes_by_passes now (cl.is_tick input) x)

  module _ (size : ℕ) (own : site_of sc.world c ≡ Some after) (count : length sc.world.servers ≡ size) (placed : Placed size v.out)
      (latest : (a : Association) → Has a old.node.state.associations → LatestOwn c w.log a)
      (last : (a : Association) → Has a old.node.state.associations → is_ended s.config now a.session ≡ false → LatestLast c w.log a) where
    abbrev A : ClientTurn → Type 0
    A x = All size c s sc after own count now x x.state.associations

    quiet : AllQuiet (client_turn s []) t
    quiet = losses_quiet now s

    adds : AddsNothing w.commands (After c s sc t.out).world.commands w.log (After c s sc t.out).world.log
    adds = subst (λ os. AddsNothing w.commands (After c s sc os).world.commands w.log (After c s sc os).world.log) (sym quiet.out)
        (still_adds c s quiet.more sc quiet.still)

    fine_t : (b : Association) → Has b t.state.associations → PageFine size c s sc after own count now (After c s sc t.out).world.log b
    fine_t b i = subst (λ es. PageFine size c s sc after own count now es b) (sym adds.log)
        (go (pair_of (LostOrNot s.config now) s.associations t.state.associations phases.lost.pairs b i))
      where
        go : (a : Association) × Has a s.associations × LostOrNot s.config now a b → PageFine size c s sc after own count now w.log b
        go (a, j, r) = by (is_ended s.config now a.session) refl
          where
            in_old : Has a old.node.state.associations
            in_old = subst (λ (n : cl.ClientNode). Has a n.state.associations) (sym same) j

            none : (d : DirtyPage) → ◌≡◌ {A = Option DirtyPage} None (Some d) → ⊥
            none d z = cc

            by : (x : Bool) → is_ended s.config now a.session ≡ x → PageFine size c s sc after own count now w.log b
            by false e = subst (PageFine size c s sc after own count now w.log) (r.lasts e) (record { latest = latest a in_old; last = last a in_old e })
            by true e =
                record {
                  latest = λ ino p d q. absurd (none d (ap (λ (z : pages.Store). pages.dirty_of z.pages ino p) (sym (r.emptied e)) ∙ q));
                  last = λ ino p d q. absurd (none d (ap (λ (z : pages.Store). pages.dirty_of z.pages ino p) (sym (r.emptied e)) ∙ q));
                }

    numbers_t : map server_number s.associations ≡ map server_number t.state.associations
    numbers_t = numbers_same (LostOrNot s.config now) (λ a b r. r.server) s.associations t.state.associations phases.lost.pairs

    once_t : Once (map server_number t.state.associations)
    once_t = subst Once numbers_t m.once

    abbrev Stays : Association → Association → Type 0
    Stays a b = record { server : a.server ≡ b.server; life : a.life ≡ b.life }

    stay : Pairwise Stays t.state.associations v.state.associations
    stay =
        pairs_then (Goes t.state.config now) (Goes u.state.config now) Stays (λ a b d p q. record { server = p.server ∙ q.server; life = p.life ∙ q.life })
        t.state.associations u.state.associations v.state.associations phases.received.pairs phases.worked.pairs

    right_t : (b : Association) → Has b t.state.associations → life_with v.state b.server ≡ b.life
    right_t b i = go (pair_left Stays (λ x y p. p.server) b.server t.state.associations v.state.associations stay b (own_found t.state.associations once_t b i))
      where
        go : PairLeft Stays b.server v.state.associations b → life_with v.state b.server ≡ b.life
        go p = ap world.life_at p.is ∙ sym p.pair.life

    begins : A t
    begins = record {
      right = right_t;
      once = once_t;
      fit = phases.fit;
      fine = fine_t;
      said =
          subst (EachFine c s sc) (sym quiet.out) (still_fine c s quiet.more sc quiet.still);
    }

    answered : (op : ℕ) (a : AppAnswer) → A t → A (cl.answered_at_once t op a)
    answered op a g =
        let z = Rattle.st_laws_pages.proofs.Flush.Adding.more_still c s sc t.out (outputs.Answer op a ∷ []) (record { one = tt; rest = record {} }) in
        record {
          right = g.right;
          once = g.once;
          fit = g.fit;
          fine = λ b i. subst (λ es. PageFine size c s sc after own count now es b) (sym z.log) (g.fine b i);
          said = fine_last c s t.out (outputs.Answer op a) sc g.said tt;
        }

    input_all : (i : ClientInput) (x : ClientTurn) → Taken t now i x → Placed size x.out → A x
    input_all _ _ (taking.Nothing i) o = begins
    input_all _ _ (taking.Full op ask e) o = answered op answers.OpsFull begins
    input_all _ _ (taking.Unknown op ask e g) o = answered op answers.NoFile begins
    input_all _ _ (taking.Takes op ask e g) o =
        each_all size c s sc after own count now (only_at (server_of ask) (cl.take_ask op ask))
        (λ x f. changes_next now x _ (changes_by_only now (server_of ask) op ask x))
        (λ x f others n live p r. changes_in size c s sc after own count now x _ (changes_by_only now (server_of ask) op ask x) others n live p r) t o begins
    input_all _ _ (taking.Receives m e) o =
        each_all size c s sc after own count now (cr.receive_at now m.header m.body)
        (λ y f. changes_next now y _ (changes_by_receive now m.header m.body y f.fresh))
        (λ y f others n live p r. changes_in size c s sc after own count now y _ (changes_by_receive now m.header m.body y f.fresh) others n live p r) t o
        begins
    input_all _ _ (taking.Finishes number result) o =
        each_all size c s sc after own count now (cl.finish number result) (λ y f. finish_next now number result y)
        (λ y f others n live p r. finished_in size c s sc after own count now number (is_done result) y (cl.finish number result y)
        (finish_is now number result y) others n live p r) t o begins

    work_grows : Grows u.out v.out
    unfolding cl.work
    work_grows = each_grows size c s sc after own count now (cp.passes now (cl.is_tick input)) passed u phases.fit_too

    -- all of it, after the step
    pub ends : A v
    unfolding cl.work
    ends =
        each_all size c s sc after own count now (cp.passes now (cl.is_tick input)) passed
        (λ x f others n live p r. changes_in size c s sc after own count now x _ (changes_by_passes now (cl.is_tick input) x) others n live p r) u placed
        (input_all input u (taken t now input) (placed_grown size u.out v.out work_grows placed))
