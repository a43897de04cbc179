-- Thefts come late, at each step of a server.
use Rattle.st_lemmas.proofs.Words
use Words.{◌≡◌, ◌||◌, ℕ, ◌+◌, ◌≤◌, Bool, true, false, ◌&&◌, List, [], ◌∷◌, ◌==◌, refl, sym, ap, ◌∙◌, subst, arith, leb-true, not, nat_le, Option, Some, None}
use Words.{is_some, option_map, list_all, le-leb, eqb-true, ClientId, Life, Stamp, Output, ServerInput, LeaseLife}
use Words.Tables.{found_at, and_true, and_both, all_pass}
use Words.nodes
use Words.notes
use Words.outputs
use Words.ClientLease.{end_at}
use Words.Keys.{client}
use Words.Authority.{suspect_of, over}
use Words.ClientState.{ClientSession, Association}
use Words.Client.{association_with, lease_at, lease_of_session}
use Words.World.{World, WorldClient, site_of, clock_of, server, ended_of, present_end, end_or_present, lease_end_of, is_life_of}
use Words.Events.{WorldTurn, counted, sends, cuts, server_notes, server_says, server_says_all, server_takes}
use Words.Server.{ServerNode, ServerState, server_step}
use Words.Safety.{is_past, is_date_past, all_dates_past, is_late}
use Words.History.{Traced, LeaseDate}
use Words.Lists.{Has}
use Rattle.std.proofs.lemmas.List.Folds.{list_all-append}
use Rattle.st_base.specs.declared.config.Config as base
use Rattle.st_protocol.specs.Assoc as net
use Rattle.st_protocol.specs.Assoc.{Config, ConfigOk}
use Rattle.st_protocol.proofs.Timing.{Timing, late, replies_late}
use Rattle.st_laws_refine.specs.Views.Halves.{Ghost, leased_in, date_in}
use Rattle.st_laws_refine.specs.Server.View.{at, TimerIs, Sound}
use Rattle.st_laws_refine.specs.Server.Pair.{client_view, stamp_number, EndedBy, client_at_site, client_in, pair, Served, DatesShown, DatesKnown}
use Rattle.st_laws_refine.specs.Server.Invariants.{Settings}
use Rattle.st_laws_refine.specs.Server.Edits.{WishInput}
use Rattle.st_laws_refine.proofs.Server.Thefts.{over_has}
use Rattle.st_laws_refine.proofs.Server.Outputs.{OutOk, AllOk, step_outs}
use Rattle.st_laws_refine.proofs.Server.Delivery.{takes_is, sound_of, pair_runs}

-- a client's timer that is over, in the association
pub timer_over : (k : Config) (cl : net.Client) (d : ℕ) (now : Stamp) (n : ServerState) (x : Ghost) → Sound d k.wait now n x → (c : ClientId) → Has c (over n.authority now) → c.0 ≡ d → (is_some (suspect_of n.authority (client d)) ≡ true) × (x.start + k.wait ≤ now.0)
timer_over k cl d now n x s c h e =
    let o = over_has n.authority now c h in
    let f : suspect_of n.authority (client d) ≡ Some o.0 = s.once o.0 o.1 (ap (λ (c : ClientId). c.0) (sym o.3) ∙ e) in
    let b = subst (λ q. TimerIs q x.start) f s.start in
    let l = leb-true (o.0.start.0 + n.authority.wait) now.0 o.2 in
    (ap is_some f, (let w = s.await in omega arith))

view_ended : (running : Bool) (ended : ℕ → ℕ) (now : Stamp) (o : Option Association) (l : ℕ) → (client_view running ended now o).ended l ≡ ended l
view_ended running ended now None l = refl
view_ended running ended now (Some a) l = refl

view_clock : (running : Bool) (ended : ℕ → ℕ) (now : Stamp) (o : Option Association) → (client_view running ended now o).clock ≡ now.0
view_clock running ended now None = refl
view_clock running ended now (Some a) = refl

-- the client's clock, if there is such a client
pub clock_in : (w : World) (c s : ℕ) (ended : ℕ → ℕ) (site : WorldClient) → site_of w (client c) ≡ Some site → (client_in w c s ended).clock ≡ (clock_of w (nodes.Client (client c))).0
clock_in w c s ended site e = ap (λ o. (client_at_site w c s ended o).clock) e ∙ view_clock site.node.running ended (clock_of w (nodes.Client (client c))) (association_with site.node.state (server s))

module _ (k : Config) where
  abbrev IsLate : net.Client → Type 0
  IsLate cl = record { present : cl.leased ≡ true → cl.date + k.lease ≤ cl.clock; past : (l : ℕ) → cl.ended l ≤ cl.clock }

  by_end : (clock : Stamp) (o : Option Stamp) → stamp_number o ≤ clock.0 → is_past clock o ≡ true
  by_end clock None h = refl
  by_end clock (Some t) h = le-leb t.0 clock.0 h

  by_session : (clock : Stamp) (lease : ℕ) (o : Option ClientSession) → (leased_in o ≡ true → date_in o + lease ≤ clock.0) → (kb : base.Config) → kb.lease ≡ lease → is_past clock (end_at kb (option_map lease_of_session o)) ≡ true
  by_session clock lease None h kb f = refl
  by_session clock lease (Some s) h kb f = le-leb (s.lease.date.0 + kb.lease) clock.0 (let z = h refl in omega arith)

  by_association : (clock : Stamp) (running : Bool) (ended : ℕ → ℕ) (o : Option Association) → ((client_view running ended clock o).leased ≡ true → (client_view running ended clock o).date + k.lease ≤ clock.0) →
      (kb : base.Config) → kb.lease ≡ k.lease → is_past clock (end_at kb (lease_at o)) ≡ true
  by_association clock running ended None h kb f = refl
  by_association clock running ended (Some a) h kb f = by_session clock k.lease a.session h kb f

  pub past_end : (w : World) (c s : ℕ) (life : Life) (ended : ℕ → ℕ) → Settings k w → EndedBy c s ended w.ended → IsLate (client_in w c s ended) → is_past (clock_of w (nodes.Client (client c))) (lease_end_of w (client c) (server s) life) ≡ true
  past_end w c s life ended st ends l = by_site (site_of w (client c)) refl (ended_of w (client c) (server s) life) refl l
    where
      clock : Stamp
      clock = clock_of w (nodes.Client (client c))

      by_site : (o : Option WorldClient) → site_of w (client c) ≡ o → (e : Option LeaseLife) → ended_of w (client c) (server s) life ≡ e → IsLate (client_at_site w c s ended o) → is_past clock (end_or_present w (client c) (server s) e) ≡ true
      by_site None f None g l = ap (λ o. is_past clock (present_end w (server s) o)) f
      by_site None f (Some e) g l = let z : ◌≡◌ {A = Option LeaseLife} None (Some e) = sym (st.ended (client c) (server s) life f) ∙ g in cc
      by_site (Some site) f (Some e) g l =
          let h = found_at (is_life_of (client c) (server s) life) w.ended e g in
          let t = and_true (e.client.0 == c) _ h.0 in
          let u = and_true (e.server.0 == s) _ t.1 in
          let z = ends e h.1 (eqb-true e.client.0 c t.0) (eqb-true e.server.0 s u.0) in
          let a = l.past e.life.0 in
          let b = view_ended site.node.running ended clock (association_with site.node.state (server s)) e.life.0 in
          let d = view_clock site.node.running ended clock (association_with site.node.state (server s)) in
          by_end clock e.end (omega arith)
      by_site (Some site) f None g l =
          let d = view_clock site.node.running ended clock (association_with site.node.state (server s)) in
          ap (λ o. is_past clock (present_end w (server s) o)) f
          ∙ by_association clock site.node.running ended (association_with site.node.state (server s)) (λ h. let z = l.present h in omega arith) site.node.state.config (st.lease (client c) site f)

  -- every lease that the client had there has ended
  abbrev DatesOver : ℕ → ℕ → ℕ → List LeaseDate → Type 0
  DatesOver clock c s ds = (d : LeaseDate) → Has d ds → d.client.0 ≡ c → d.server.0 ≡ s → d.end.0 ≤ clock

  dates_past : (clock : Stamp) (c s : ℕ) (ds : List LeaseDate) → DatesOver clock.0 c s ds → list_all (is_date_past (server s) (client c) clock) ds ≡ true
  dates_past clock c s ds h = all_pass (is_date_past (server s) (client c) clock) ds (λ d i. one d (d.server.0 == s) (d.client.0 == c) refl refl (h d i))
    where
      one : (d : LeaseDate) (a b : Bool) → (d.server.0 == s) ≡ a → (d.client.0 == c) ≡ b → (d.client.0 ≡ c → d.server.0 ≡ s → d.end.0 ≤ clock.0) → (not (a && b) || nat_le d.end.0 clock.0) ≡ true
      one d true true e f g = le-leb d.end.0 clock.0 (g (eqb-true _ _ f) (eqb-true _ _ e))
      one d true false e f g = refl
      one d false b e f g = refl

  -- all thefts of a step are late
  abbrev TLate : Traced → ℕ → ClientId → Life → Type 0
  TLate t s c life = (is_past (clock_of t.world (nodes.Client c)) (lease_end_of t.world c (server s) life) && all_dates_past t (server s) c) ≡ true

  says_late : (t : Traced) (s : ℕ) (o : Output) (sc : WorldTurn) → OutOk s (TLate t s) o → list_all (is_late t) sc.seen ≡ true → list_all (is_late t) (server_says sc (server s) o).seen ≡ true
  unfolding server_says server_notes sends cuts
  says_late t s (outputs.Send m) sc e h = list_all-append (is_late t) sc.seen _ ∙ ap (λ b. b && true) h
  says_late t s (outputs.Note (notes.Suspected c start)) sc e h = list_all-append (is_late t) sc.seen _ ∙ ap (λ b. b && true) h
  says_late t s (outputs.Note (notes.Stolen c life)) sc e h = list_all-append (is_late t) sc.seen _ ∙ and_both _ _ h (and_both _ true e refl)
  says_late t s (outputs.Note (notes.CutDone f p)) sc e h = list_all-append (is_late t) sc.seen _ ∙ ap (λ b. b && true) h
  says_late t s (outputs.Note n) sc e h = h
  says_late t s o sc e h = h

  all_late : (t : Traced) (s : ℕ) (os : List Output) (sc : WorldTurn) → AllOk s (TLate t s) os → list_all (is_late t) sc.seen ≡ true → list_all (is_late t) (server_says_all (server s) os sc).seen ≡ true
  unfolding server_says_all
  all_late t s [] sc a h = h
  all_late t s (o ∷ os) sc a h = all_late t s os (server_says sc (server s) o) a.rest (says_late t s o sc a.one h)

  -- at a server's step, thefts come late: from the timing part of the invariant of each client's association, and the replies
  -- that dated its leases
  pub thefts_come_late : (t : Traced) (s : ℕ) (node : ServerNode) (i : ServerInput) → ConfigOk k → Settings k t.world → node.running ≡ true → WishInput i → (ended : ℕ → ℕ → ℕ) → ((c : ℕ) → EndedBy c s (ended c) t.world.ended) → DatesKnown t.world t.history.dates →
      ((c : ℕ) → (x : Ghost) × Served k.wait c s (counted t.world) node x × Timing k (pair c s (ended c) t.world node x) × DatesShown k.lease c s t.history.dates x.net) → list_all (is_late t) (server_takes (counted t.world) (server s) i node).seen ≡ true
  thefts_come_late t s node i ok st runs wish ended ends known inv =
      subst (λ (sc : WorldTurn). list_all (is_late t) sc.seen ≡ true) (sym (takes_is (counted w) (server s) i node runs))
      (all_late t s (server_step node.state now i).out _ (step_outs s node.state.config (TLate t s) node.state now i wish (inv 0).1.id refl stolen).all refl)
    where
      w : World
      w = t.world

      now : Stamp
      now = clock_of w (nodes.Server (server s))

      stolen : (c : ClientId) → Has c (over node.state.authority now) → (life : Life) → TLate t s c life
      stolen c h life =
          let v = inv c.0 in
          let so = sound_of c.0 k.wait now node.running node.state v.0 runs v.1.stands in
          let o = timer_over k (client_in w c.0 s (ended c.0)) c.0 now node.state v.0 so c h refl in
          let a = at (client_in w c.0 s (ended c.0)) (client c.0) now node.state v.0 in
          let q = subst (Timing k) (pair_runs k c.0 s (ended c.0) w node v.0 runs) v.2 in
          and_both _ _ (past_end w c.0 s life (ended c.0) st (ends c.0) (let z = late k a ok q o.0 o.1 in record { present = z.present; past = z.past }))
          (dates_past (clock_of w (nodes.Client c)) c.0 s t.history.dates
          (λ d i e f. let z = v.3 d i e f in let l = replies_late k a ok q o.0 o.1 _ z.is z.dates in let b = clock_in w c.0 s (ended c.0) (known d i).0 (subst (λ n. site_of w (client n) ≡ Some (known d i).0) e (known d i).1) in let y = z.ends in omega arith))
