-- The clocks of the history are the world's: each timer and each grace of it has those of the step in which it started.
use Rattle.st_lemmas.proofs.Words
use Words.{◌≡◌, Bool, true, false, ◌||◌, List, [], ◌∷◌, ◌==◌, Option, Some, None, refl, sym, ap, ◌∙◌, subst, inl, inr}
use Words.{is_some, find, option_map, list_all, list_any, eqb-true, eq-eqb, ClientId, ServerId, Stamp, Suspect}
use Words.nodes
use Words.seen
use Words.Authority as authority
use Words.History.{GraceStart, TimerStart, Traced, client_clocks, is_grace_at}
use Words.Keys.{same_client, same_server}
use Words.Safety.{Step, agree, agree_on_grace, begins_grace, grace_of, has_begun, has_grace, has_started, is_moment, is_start_of, is_suspicion, same_clocks}
use Words.Safety.{start_of, starts_timer, timer_since}
use Words.World.{all_servers, clock_of, node_of}
use Words.Lists.{Has}
use Words.Members.{some_member_passes}
use Words.Tables.{all_pass, and_both, found_at, some_passes}
use Rattle.st_laws_leases.specs.Dates.Dates.{Dated, Started, TimerQuiet}
use Rattle.st_laws_leases.proofs.History.Graces.{Graced, GraceOf, Graces}

pub agreed : (a b : Bool) → (a ≡ true → b ≡ true) → (b ≡ true → a ≡ true) → agree a b ≡ true
agreed true b f g = f refl
agreed false true f g = g refl
agreed false false f g = refl

same_self : (ts : List Stamp) → same_clocks ts ts ≡ true
unfolding same_clocks
same_self [] = refl
same_self (t ∷ ts) = and_both (t.0 == t.0) (same_clocks ts ts) (eq-eqb t.0 t.0 refl) (same_self ts)

-- a timer of the history started in a step
timer_started : (past : List Step) (t : Traced) → Dated past t → (x : TimerStart) → Has x t.history.timers → has_started past t x ≡ true
timer_started past t d x h = some_passes (starts_timer t x) past z.at z.among
    (and_both _ _ (some_passes (is_suspicion t x) z.at.seen (seen.Suspected x.server x.client z.start) z.noted noted)
    (and_both _ _ (eq-eqb _ _ (ap (λ (u : Stamp). u.0) (sym z.clock))) (eq-eqb _ _ (sym z.sent))))
  where
    z : Started past t.world x
    z = d.started x h

    q : TimerQuiet t.world x
    q = d.timers x h

    since : (o : Option Suspect) → find (authority.is_suspect x.client) q.node.state.authority.suspects ≡ o → is_some o ≡ true →
        is_moment z.start (option_map authority.start_of o) ≡ true
    since None e i = cc
    since (Some u) e i =
        let f = found_at (authority.is_suspect x.client) q.node.state.authority.suspects u e in
        eq-eqb u.start.0 z.start.0 (ap (λ (v : Stamp). v.0) (z.own q.node q.is u f.1 (ap (λ n. record { 0 = n }) (eqb-true _ _ f.0))))

    moment : is_moment z.start (timer_since x.client (node_of t.world x.server)) ≡ true
    moment = ap (λ o. is_moment z.start (timer_since x.client o)) q.is ∙ since (find (authority.is_suspect x.client) q.node.state.authority.suspects) refl q.on

    noted : is_suspicion t x (seen.Suspected x.server x.client z.start) ≡ true
    noted = and_both _ _ (and_both _ _ (eq-eqb x.server.0 x.server.0 refl) (eq-eqb x.client.0 x.client.0 refl)) moment

pub timers_started : (past : List Step) (t : Traced) → Dated past t → list_all (has_started past t) t.history.timers ≡ true
timers_started past t d = all_pass (has_started past t) t.history.timers (timer_started past t d)

-- a server has a grace in the history and in the world, or in neither
module _ (past : List Step) (t : Traced) (g : Graces past t.world t.history.graces) where
  grace_agrees : (s : ServerId) → agree_on_grace t s ≡ true
  grace_agrees s = agreed (has_grace t.history s) (is_some (grace_of (node_of t.world s))) (λ e. on (some_member_passes (is_grace_at s) t.history.graces e))
      (λ e. off (g.known s e))
    where
      on : (x : GraceStart) × Has x t.history.graces × (is_grace_at s x ≡ true) → is_some (grace_of (node_of t.world s)) ≡ true
      on (x, h, q) =
          ap (λ r. is_some (grace_of (node_of t.world r))) (sym by_number) ∙ ap is_some (g.all x h).on
        where
          by_number : x.server ≡ s
          by_number = ap (λ n. record { 0 = n }) (eqb-true _ _ q)

      off : GraceOf t.history.graces s → has_grace t.history s ≡ true
      off z = some_passes (is_grace_at s) t.history.graces z.grace z.among z.is

  pub graces_agree : list_all (agree_on_grace t) (all_servers t.world) ≡ true
  graces_agree = all_pass (agree_on_grace t) (all_servers t.world) (λ s i. grace_agrees s)

  -- a grace of the history began in a step
  grace_begun : (x : GraceStart) → Has x t.history.graces → has_begun past t x ≡ true
  grace_begun x h = some_passes (begins_grace t x) past z.at z.among
      (and_both _ _ (ap (is_start_of x.server) z.event ∙ eq-eqb x.server.0 x.server.0 refl)
      (and_both _ _ moment (ap (same_clocks x.clocks) (sym z.clocks) ∙ same_self x.clocks)))
    where
      z : Graced past t.world x
      z = g.all x h

      before : Stamp
      before = clock_of z.at.before.world (nodes.Server x.server)

      moment : is_moment before (option_map start_of (grace_of (node_of t.world x.server))) ≡ true
      moment = ap (λ o. is_moment before (option_map start_of o)) z.on ∙ eq-eqb z.grace.start.0 before.0 (ap (λ (v : Stamp). v.0) z.start)

  pub graces_begun : list_all (has_begun past t) t.history.graces ≡ true
  graces_begun = all_pass (has_begun past t) t.history.graces grace_begun
