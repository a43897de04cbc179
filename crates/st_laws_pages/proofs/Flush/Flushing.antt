-- The flush through a step of a client: what holds of all its associations, in the world that its outputs leave.
use Rattle.st_lemmas.proofs.Words
use Words.{◌≡◌, ℕ, ◌+◌, ◌≤◌, Bool, true, false, List, [], ◌∷◌, Option, Some, None, refl, sym, ap, ◌∙◌, subst, inl, inr, arith, find, map, nat_le, leb-false, Config}
use Words.{ClientId, Life, Stamp, ClientInput, LogEntry, LogOwner, DirtyPage, LeaseLife}
use Words.inputs
use Words.ClientLease as lease
use Words.ClientPages as pages
use Words.ClientPasses as cp
use Words.Client as cl
use Words.ClientState.{Association, ClientState, ClientSession, ClientTurn, client_turn, is_at}
use Words.World as world
use Words.World.{World, WorldClient, numbered, site_of}
use Words.Events as ev
use Words.Events.{WorldTurn}
use Words.Safety.{Step}
use Words.Lists.{Has}
use Rattle.st_laws_pages.specs.Fates.Fates.{PendingAll}
use Rattle.st_laws_steps.specs.Client.Losses.{Fit, is_ended, SessionNext}
use Rattle.st_laws_steps.specs.Lives.Lives.{Pairwise, IsKnown, NodeHolds, owner_of, LivesHold}
use Rattle.st_laws_pages.specs.Flush.Flush.{DirtyHere, Cared, Covered}
use Rattle.st_laws_steps.proofs.Lives.Associations.{own_found}
use Rattle.st_laws_pages.proofs.Lives.NodeTurns.{row_is}
use Rattle.st_laws_pages.proofs.Fates.FateLaw.{pending_known}
use Rattle.st_laws_steps.proofs.Client.Losing.{is_done}
use Rattle.st_laws_steps.proofs.Client.Stepping.{EachServer, each, Goes, LostOrNot, Phased, pairs_has, phased}
use Rattle.st_laws_pages.proofs.Flush.Keeping.{Told}
use Rattle.st_laws_pages.proofs.Flush.Covering.{passes_cover}

-- pairs of which the first is there
pub pair_of : (R : Association → Association → Type 0) (al bl : List Association) → Pairwise R al bl → (b : Association) → Has b bl → (a : Association) × Has a al × R a b
pair_of R [] [] p b h = absurd h
pair_of R [] (y ∷ bl) p b h = absurd p
pair_of R (x ∷ al) [] p b h = absurd p
pair_of R (x ∷ al) (y ∷ bl) p b (inl e) = (x, inl refl, subst (R x) (sym e) p.one)
pair_of R (x ∷ al) (y ∷ bl) p b (inr h) = let z = pair_of R al bl p.rest b h in (z.0, inr z.1, z.2)

-- nothing of a life that is still to come is in the log
pub none_next : (w : World) (c : ClientId) (site : WorldClient) → numbered w.clients c.0 ≡ Some site → LivesHold w → (a : Association) → Has a site.node.state.associations → (o : LogOwner) → Has o (map owner_of w.log) → o.client ≡ c → o.file.server ≡ a.server → o.life.0 ≡ a.life.0 + 1 → ⊥
none_next w c site there h a i o j e f l = go (h.known.owners o j)
  where
    m : NodeHolds w.config w.clocks w.ended c site.node
    m = h.lives.sites c site there

    found : find (is_at o.file.server) site.node.state.associations ≡ Some a
    found = ap (λ s. find (is_at s) site.node.state.associations) f ∙ own_found site.node.state.associations m.once a i

    go : IsKnown w.clients w.ended o.client o.file.server o.life → ⊥
    go (inl (x, q)) =
        let z = row_is o.client o.file.server o.life w.ended x q in
        let b = (m.below x z.0 (z.1 ∙ e) a (ap (λ s. find (is_at s) site.node.state.associations) z.2 ∙ found)).up_to in
        let y = ap (λ (v : Life). v.0) z.3 in omega (arith, b, y, l)
    go (inr q) =
        let y : (ev.life_of_site o.file.server (numbered w.clients o.client.0)).0 ≡ a.life.0 =
        ap (λ (d : ClientId). (ev.life_of_site o.file.server (numbered w.clients d.0)).0) e ∙ ap (λ s. (ev.life_of_site o.file.server s).0) there ∙ ap (λ x. (world.life_at x).0) found in
        omega (arith, y, q, l)

-- an association in its next life, with nothing, has nothing to care for
pub emptied_cared : (past : List Step) (w : World) (c : ClientId) (site : WorldClient) (starts next : ℕ) → 1 ≤ next → numbered w.clients c.0 ≡ Some site → LivesHold w → (a b : Association) → Has a site.node.state.associations → a.server ≡ b.server → cl.next_life a.life ≡ b.life → b.store ≡ pages.empty_store →
    Cared past w.commands w.log c starts next b
emptied_cared past w c site starts next one there h a b i sv lf st =
    record {
      entries = pending_known Any (DirtyHere c b) w.log (λ o j z u v l. absurd (none_next w c site there h a i o j u (v ∙ sym sv) (ap (λ (x : Life). x.0) (l ∙ sym lf)))) (any_pending w.log);
      writes = λ pc j v q. absurd (none pc j);
      reads = λ pc j q. absurd (none pc j);
      first = one;
      above = λ pc j. absurd (none pc j);
      below = λ pc j. absurd (none pc j);
      once = λ pc qc j k. absurd (none pc j);
      versions = λ ino p d e. absurd (clean ino p d e);
      failed = λ ino p d n e. absurd (clean ino p d e);
    }
  where
    Any : LogOwner → Type 0
    Any o = Unit {0}

    any_pending : (es : List LogEntry) → PendingAll Any es
    any_pending [] = record {}
    any_pending (e ∷ es) = record { one = λ q. tt; rest = any_pending es }

    none : (pc : Rattle.st_rules.specs.declared.client.PageCommand.PageCommand) → Has pc b.store.commands → ⊥
    none pc j = subst (λ (s : pages.Store). Has pc s.commands) st j

    clean : (ino : ℕ) (p : Rattle.st_base.specs.declared.ids.PageNo.PageNo) (d : DirtyPage) → pages.dirty_of b.store.pages ino p ≡ Some d → ⊥
    clean ino p d e = no (subst (λ (s : pages.Store). pages.dirty_of s.pages ino p ≡ Some d) st e)
      where
        no : ◌≡◌ {A = Option DirtyPage} None (Some d) → ⊥
        no z = cc

-- What is reported about the command that ends, if an input is its end.
abbrev pub InputTold : List Step → WorldTurn → ClientId → ℕ → ClientInput → Type 0
InputTold past sc c starts (inputs.Done number result) = Told past sc c starts number (is_done result)
InputTold past sc c starts input = Unit {0}

-- A session that is not over goes on so.
pub open_on : (k : Config) (now : Stamp) (s u : Option ClientSession) → SessionNext k now s u → is_ended k now s ≡ false → is_ended k now u ≡ false
open_on k now s None n e = refl
open_on k now None (Some u) n e = below (nat_le (lease.end_of k u.lease).0 now.0) refl
  where
    below : (b : Bool) → nat_le (lease.end_of k u.lease).0 now.0 ≡ b → b ≡ false
    below false q = refl
    below true q = let z = Rattle.std.proofs.Common.leb-true _ _ q in absurd (omega (arith, z, n))
open_on k now (Some s) (Some u) n e = below (nat_le (lease.end_of k u.lease).0 now.0) refl
  where
    below : (b : Bool) → nat_le (lease.end_of k u.lease).0 now.0 ≡ b → b ≡ false
    below false q = refl
    below true q = let z = Rattle.std.proofs.Common.leb-true _ _ q in let y = leb-false (lease.end_of k s.lease).0 now.0 e in absurd (omega (arith, z, y, n))

-- What a step leaves of each association: its lease is not over; and if it may drain, each dirty page is covered.
pub record FlushedBy (k : Config) (now : Stamp) (b : Association) : Type 0 where
  pub going : is_ended k now b.session ≡ false
  pub covered : (s : ClientSession) → b.session ≡ Some s → lease.may_drain (lease.standing_of k s.lease now) ≡ true → Covered b

-- A whole step.
module _ (past : List Step) (w : World) (c : ClientId) (old site : WorldClient) (input : ClientInput) (now : Stamp) (there : site_of w c ≡ Some old) (same : old.node ≡ site.node) (starts : old.starts ≡ site.starts) (h : LivesHold w) where
  abbrev s : ClientState
  s = site.node.state

  abbrev t : ClientTurn
  t = cl.losses (client_turn s []) now

  abbrev u : ClientTurn
  u = cl.take_input t now input

  abbrev v : ClientTurn
  v = cl.work u now input

  m : NodeHolds w.config w.clocks w.ended c site.node
  m = subst (NodeHolds w.config w.clocks w.ended c) same (h.lives.sites c old there)

  phases : Phased c s now t u v
  phases = phased c s now input m.fit

  -- The flush.
  going_t : (a : Association) → Has a t.state.associations → is_ended s.config now a.session ≡ false
  going_t = pairs_has (LostOrNot s.config now) Fit (λ b. is_ended s.config now b.session ≡ false) (λ a b r f. r.going) s.associations t.state.associations phases.lost.pairs m.fit

  going_on : (k : Config) (a b : Association) → k ≡ s.config → Goes k now a b → is_ended s.config now a.session ≡ false → is_ended s.config now b.session ≡ false
  going_on k a b e g n = open_on s.config now a.session b.session (subst (λ z. SessionNext z now a.session b.session) e g.session) n

  going_v : (a : Association) → Has a v.state.associations → is_ended s.config now a.session ≡ false
  going_v =
      pairs_has (Goes u.state.config now) (λ b. is_ended s.config now b.session ≡ false) (λ b. is_ended s.config now b.session ≡ false) (λ a b. going_on u.state.config a b (sym (phases.lost.config ∙ phases.received.config))) u.state.associations v.state.associations phases.worked.pairs
      (pairs_has (Goes t.state.config now) (λ b. is_ended s.config now b.session ≡ false) (λ b. is_ended s.config now b.session ≡ false) (λ a b. going_on t.state.config a b (sym phases.lost.config)) t.state.associations u.state.associations phases.received.pairs going_t)

  abbrev NoneLost : Association → List LeaseLife
  NoneLost a = []

  abbrev Covers : Association → Association → Type 0
  Covers a b = (x : ClientSession) → b.session ≡ Some x → lease.may_drain (lease.standing_of u.state.config x.lease now) ≡ true → Covered b

  covers : EachServer Covers NoneLost (λ os. []) u v
  unfolding cl.work
  covers =
      each Fit Covers NoneLost (λ os. []) (cp.passes now (cl.is_tick input)) u
      (λ x e f. record { one = λ y q d. passes_cover now (cl.is_tick input) x f y q (ap (λ k. lease.may_drain (lease.standing_of k y.lease now)) e ∙ d); said = refl }) phases.fit_too

  pub step_flushed : (b : Association) → Has b v.state.associations → FlushedBy s.config now b
  step_flushed b i = record { going = going_v b i; covered = λ x q d. covered b i x q (ap (λ k. lease.may_drain (lease.standing_of k x.lease now)) (sym (phases.lost.config ∙ phases.received.config)) ∙ d) }
    where
      covered : (b : Association) → Has b v.state.associations → (x : ClientSession) → b.session ≡ Some x → lease.may_drain (lease.standing_of u.state.config x.lease now) ≡ true → Covered b
      covered = pairs_has Covers Fit (λ b. (x : ClientSession) → b.session ≡ Some x → lease.may_drain (lease.standing_of u.state.config x.lease now) ≡ true → Covered b) (λ a b r f. r) u.state.associations v.state.associations covers.pairs phases.fit_too
