-- A healthy client keeps its lease, over whole runs: it lasts, none is lost, and no ask of the server is answered `quiesced`.
use Rattle.st_lemmas.proofs.Words
use Words.{◌≡◌, ◌≢◌, ℕ, ◌+◌, ◌≤◌, ◌<◌, Bool, true, false, List, [], ◌∷◌, ◌++◌, Option, Some, None, Ok, Err, refl, sym, ap, ◌∙◌, subst, arith}
use Words.{◌||◌, append_assoc, cons_option, if◌then◌else◌, Result, length, list_all, ltb-true, lt-leb, nat_le, nat_lt, suc, eq-eqb, Config, ClientId, ServerId, Stamp}
use Words.{Ask, Event, ClientInput, Operation, WorldRefusal}
use Words.config_refusals
use Words.answers
use Words.events
use Words.notes
use Words.outputs
use Words.inputs
use Words.phases
use Words.seen
use Words.Client as cl
use Words.ClientLease as lease
use Words.ClientLease.{ClientLease}
use Words.ClientState.{Association, ClientSession, ClientState, is_serving, server_of}
use Words.Events.{WorldTurn, world_step}
use Words.History.{Traced, traced, traced_after}
use Words.Leases as leases
use Words.Safety.{Promise, Step, Throughout, ask_in, ask_of, ask_of_client, is_event, step, steps, steps_on}
use Words.Server.{ServerNode}
use Words.World.{WorldClient, fresh_world, node_of, numbered, site_of}
use Words.Lists.{Has}
use Words.Lookups.{some_is}
use Words.Numbers.{get_last, numbered_old}
use Words.Tables.{and_true}
use Rattle.st_base.specs.Config.{check, check_rate, phases_rise}
use Rattle.st_laws_steps.specs.Client.Losses.{Fit, is_ended}
use Rattle.st_laws_pages.proofs.Asks.World.{asks_more}
use Rattle.st_laws_requests.specs.Cuts.Cuts.{asks_of}
use Rattle.st_laws_lasting.specs.Lasting.{client_clock}
use Rattle.st_laws_healthy.specs.Healthy.{InHealthyRuns, IsHealthy, LeasesLast, NoneIsLost, NoneIsQuiesced, longest}
use Rattle.st_laws_healthy.proofs.Lasting.{AllTalk, Base, Left, aged, base2, goes_on, it, lasts, left, own_read, starts, starts_talks, talks2}
use Rattle.st_laws_healthy.proofs.Lines.{AsksNext, Lines, NoLines, Steps, lines}
use Rattle.st_laws_healthy.proofs.Noting.{AllFine, IsAsk, stepped}

-- the ages of settings rise
pub record Ages (k : Config) : Type 0 where
  pub flush : k.quiesce < k.flush
  pub lease : k.flush < k.lease

pub ages_of : (k : Config) → check k ≡ Ok tt → Ages k
ages_of k e = record { flush = ltb-true k.quiesce k.flush rest.0; lease = ltb-true k.flush k.lease rest.1 }
  where
    rises : (b : Bool) → (if b then check_rate k else Err config_refusals.Order) ≡ Ok tt → b ≡ true
    rises true f = refl
    rises false f = cc

    rest : (nat_lt k.quiesce k.flush ≡ true) × (nat_lt k.flush k.lease ≡ true)
    rest =
        let z = and_true (nat_lt 0 k.renew) _ (rises (phases_rise k) e) in
        and_true (nat_lt k.quiesce k.flush) (nat_lt k.flush k.lease) (and_true (nat_lt k.renew k.quiesce) _ z.1).1

-- a lease that is not condemned, and younger than the age of quiescence, serves
serves_young : (k : Config) (l : ClientLease) (now : Stamp) → Ages k → l.condemned ≡ false → now.0 < l.date.0 + k.quiesce →
    lease.may_use (lease.standing_of k l now) ≡ true
unfolding leases.phase leases.phase_living leases.phase_serving leases.phase_young
serves_young k l now a n y =
    by (nat_le (l.date.0 + k.lease) now.0) (nat_le (l.date.0 + k.flush) now.0) (nat_le (l.date.0 + k.quiesce) now.0) l.condemned
    (nat_le (l.date.0 + k.renew) now.0) (lt-leb (l.date.0 + k.lease) now.0 (let f = a.flush in let e = a.lease in omega (arith, y, f, e)))
    (lt-leb (l.date.0 + k.flush) now.0 (let f = a.flush in omega (arith, y, f))) (lt-leb (l.date.0 + k.quiesce) now.0 y) n
  where
    by : (p q r f v : Bool) → p ≡ false → q ≡ false → r ≡ false → f ≡ false →
        lease.may_use (lease.standing_by (if p then phases.Expired else (if q then phases.Flush else (if r || f then phases.Quiesce else
        (if v then phases.Renewal else phases.Valid))))) ≡ true
    by true q r f v a b c d = cc
    by false true r f v a b c d = cc
    by false false true f v a b c d = cc
    by false false false true v a b c d = cc
    by false false false false true a b c d = refl
    by false false false false false a b c d = refl

-- What was asked before, and now.
asked_old : (past : List Step) (x : Step) (c : ClientId) (op : ℕ) (ask : Ask) → numbered (asks_of past c) op ≡ Some ask → ask_of past x c op ≡ Some ask
asked_old past x c op ask e = ap (λ z. numbered z op) (asks_more past x c) ∙ go (ask_in c x.event)
  where
    none : (xs : List Ask) → xs ++ [] ≡ xs
    none [] = refl
    none (y ∷ xs) = ap (λ z. y ∷ z) (none xs)

    go : (o : Option Ask) → numbered (asks_of past c ++ cons_option o []) op ≡ Some ask
    go None = ap (λ z. numbered z op) (none (asks_of past c)) ∙ e
    go (Some a) = numbered_old (asks_of past c) a op ask e

asked_new : (past : List Step) (x : Step) (c : ClientId) (n : ℕ) (ask : Ask) → length (asks_of past c) ≡ n → x.event ≡ events.App c ask →
    ask_of past x c (n + 1) ≡ Some ask
unfolding ask_of_client
asked_new past x c n ask k e =
    ap (λ z. numbered z (n + 1)) (asks_more past x c ∙ ap (λ o. asks_of past c ++ cons_option o []) (ap (ask_in c) e ∙ ap (λ b. if b then Some ask else None)
    (eq-eqb c.0 c.0 refl)))
    ∙ ap (λ m. numbered (asks_of past c ++ ask ∷ []) m) (let y : n + 1 ≡ suc (length (asks_of past c)) = omega (arith, k) in y) ∙ get_last (asks_of past c) ask

-- What is kept.
pub record AreKept (k : Config) (c : ClientId) (s : ServerId) (gap d : ℕ) (past : List Step) (x : Step) : Type 0 where
  pub last : LeasesLast k c s gap d past x
  pub lost : NoneIsLost k c s gap d past x
  pub quiesced : NoneIsQuiesced k c s gap d past x

-- The client has been healthy since these earlier steps.
module _ (k : Config) (ages : Ages k) (count : ℕ) (c : ClientId) (s : ServerId) (gap d : ℕ) (earlier : List Step) where
  -- what holds after every event
  pub record Stand (past : List Step) (t : Traced) : Type 0 where
    pub base : Base k count c s gap d (client_clock c) d (own_read c) earlier past t
    pub talks : AllTalk k count c s gap d (client_clock c) d (own_read c) earlier past t.world

  module _ (past : List Step) (t : Traced) (e : Event) (sc : WorldTurn) (o : Stand past t) (ok : is_event count e ≡ true) (h : world_step t.world e ≡ Ok sc)
      (g : IsHealthy c s gap d past (step t e sc)) where
    abbrev x : Step
    x = step t e sc

    abbrev whole : List Step
    whole = earlier ++ past

    abbrev asked : ℕ → Option Ask
    asked op = ask_of whole x c op

    pub after : Stand (past ++ x ∷ []) (traced_after e t sc)
    after =
        let does = it k count c s gap d (client_clock c) d (own_read c) earlier past t e sc o.base ok h g in
        let later = goes_on k count c s gap d (client_clock c) d (own_read c) earlier past t e sc o.base ok h g does in
        record {
          base = base2 k count c s gap d (client_clock c) d (own_read c) earlier past t e sc o.base ok h g g.come later;
          talks = talks2 k count c s gap d (client_clock c) d (own_read c) earlier past t e sc o.base ok h g o.talks does;
        }

    young : LeasesLast k c s gap d whole x
    young = lasts k count c s gap d (client_clock c) d (own_read c) earlier past t e sc o.base ok h g after.base after.talks

    -- A step of the client.
    module _ (site old : WorldClient) (i : ClientInput) (now : Stamp) (is_now : now.0 ≡ client_clock c t.world) (same : site.node ≡ old.node)
        (at : site_of t.world c ≡ Some old) (asks : AsksNext e c old i)
        (there : site_of sc.world c ≡ Some (Rattle.st_rules.specs.Events.at_node (record site.node
        { state = (cl.client_step site.node.state now i).state }) site))
        (clock : client_clock c sc.world ≡ client_clock c t.world) (fits : longest k gap d ≤ k.lease) (node : ServerNode)
        (at_node : node_of t.world s ≡ Some node) where
      abbrev st : ClientState
      st = site.node.state

      of_old : (P : cl.ClientNode → Type 0) → P old.node → P site.node
      of_old P p = subst P (sym same) p

      fit : (a : Association) → Has a st.associations → Fit a
      fit = of_old (λ n. (a : Association) → Has a n.state.associations → Fit a) (o.base.young.stands old at).fits

      config : st.config ≡ k
      config = of_old (λ n. n.state.config ≡ k) (o.base.young.stands old at).config

      ongoing : (a : Association) → Has a st.associations → a.server ≡ s → is_ended k now a.session ≡ false
      ongoing a j at_a = by a.session refl
        where
          by : (v : Option ClientSession) → a.session ≡ v → is_ended k now v ≡ false
          by None q = refl
          by (Some z) q =
              lt-leb (z.lease.date.0 + k.lease) now.0
              (let y = (aged k count c s gap d (client_clock c) d (own_read c) earlier past t o.base o.talks node at_node old a z at
              (subst (λ (n : cl.ClientNode). Has a n.state.associations) same j) at_a q).0 in
              omega (arith, y, fits, is_now))

      serving : (b : Association) → Has b (cl.client_step st now i).state.associations → longest k gap d ≤ k.quiesce → b.server ≡ s → (z : ClientSession) →
          b.session ≡ Some z → is_serving k z now ≡ true
      serving b j quick at_b z q =
          let y = young _ b z there j at_b q in
          serves_young k z.lease now ages y.1 (let l = y.0 in omega (arith, l, quick, is_now, clock))

      known : (p : Operation) → Has p st.operations → asked p.op ≡ Some p.ask
      known = of_old (λ n. (p : Operation) → Has p n.state.operations → asked p.op ≡ Some p.ask)
          (λ p j. asked_old whole x c p.op p.ask ((o.base.cuts.clients c old at).asked p j))

      new_known : (j : ClientInput) → AsksNext e c old j → IsAsk s (longest k gap d ≤ k.quiesce) asked k now j
      new_known (inputs.App op ask) f =
          subst (λ n. asked n ≡ Some ask) (sym f.1) (asked_new whole x c old.asks ask (o.base.cuts.clients c old at).count f.0)
      new_known inputs.Tick f = tt
      new_known (inputs.Control m) f = tt
      new_known (inputs.Done n r) f = tt

      fine : AllFine s (longest k gap d ≤ k.quiesce) asked k now (cl.client_step st now i).out
      fine = stepped s (longest k gap d ≤ k.quiesce) asked k now st i fit config ongoing serving known (new_known i asks)

    -- the server was there before
    was : Left k count c s gap d (client_clock c) d (own_read c) earlier past t e sc o.base ok h g g.node
    was = left k count c s gap d (client_clock c) d (own_read c) earlier past t e sc o.base ok h g g.node g.is

    none_lost : NoneIsLost k c s gap d whole x
    none_lost fits life l = by (lines t c e sc h)
      where
        by : Lines t c e sc → ⊥
        by (NoLines n) = n (seen.Lost c s life) l refl
        by (Steps site old i now is_now same at asks there clock n) =
            fine site old i now is_now same at asks there clock fits was.old was.was (outputs.Note (notes.Lost s life)) (n (seen.Lost c s life) l refl) refl

    none_quiesced : NoneIsQuiesced k c s gap d whole x
    none_quiesced quick op ask a l = by (lines t c e sc h)
      where
        fits : longest k gap d ≤ k.lease
        fits = let f = ages.flush in let y = ages.lease in omega (arith, quick, f, y)

        by : Lines t c e sc → server_of ask ≢ s
        by (NoLines n) = absurd (n (seen.Answered c op answers.Quiesced) l refl)
        by (Steps site old i now is_now same at asks there clock n) =
            let z = fine site old i now is_now same at asks there clock fits was.old was.was (outputs.Answer op answers.Quiesced)
            (n (seen.Answered c op answers.Quiesced) l refl) quick in
            λ q. z.elsewhere (ap server_of (some_is (sym z.known ∙ a)) ∙ q)

    pub kept : AreKept k c s gap d whole x
    kept = record { last = young; lost = none_lost; quiesced = none_quiesced }

-- A promise under another one, which speaks of later steps alone.
pub throughout_since : (count : ℕ) (given promise : Promise) (Stands : List Step → Traced → Type 0) (earlier : List Step) →
    ((past : List Step) (t : Traced) (e : Event) (sc : WorldTurn) → is_event count e ≡ true → Stands past t → world_step t.world e ≡ Ok sc →
    given past (step t e sc) → promise (earlier ++ past) (step t e sc) × Stands (past ++ step t e sc ∷ []) (traced_after e t sc)) →
    (es : List Event) → list_all (is_event count) es ≡ true → (past : List Step) (t : Traced) → Stands past t → Throughout given past (steps es t) →
    Throughout promise (earlier ++ past) (steps es t)
unfolding steps steps_on Throughout
throughout_since count given promise Stands earlier one [] all past t s g = tt
throughout_since count given promise Stands earlier one (e ∷ es) all past t s g =
    go (world_step t.world e) refl g (λ past t s g. throughout_since count given promise Stands earlier one es (and_true _ _ all).1 past t s g)
  where
    go : (r : Result WorldTurn WorldRefusal) → world_step t.world e ≡ r → Throughout given past (steps_on (steps es) t e r) →
        ((past : List Step) (t : Traced) → Stands past t → Throughout given past (steps es t) → Throughout promise (earlier ++ past) (steps es t)) →
        Throughout promise (earlier ++ past) (steps_on (steps es) t e r)
    go (Err r) f g h = tt
    go (Ok sc) f g h =
        let q = one past t e sc (and_true _ _ all).0 s f g.0 in (
          q.0,
          subst (λ p. Throughout promise p (steps es (traced_after e t sc))) (sym (append_assoc earlier past (step t e sc ∷ []))) (h _ _ q.1 g.1),
        )

-- In every run in which a client is healthy.
healthy_law : (promise : Config → ClientId → ServerId → ℕ → ℕ → Promise) →
    ((k : Config) (c : ClientId) (s : ServerId) (gap d : ℕ) (past : List Step) (x : Step) → AreKept k c s gap d past x → promise k c s gap d past x) →
    InHealthyRuns promise
healthy_law promise f k clients servers disks blocks form es c s gap d head all =
    throughout_since (clients + servers) (IsHealthy c s gap d) (promise k c s gap d) (Stand k (ages_of k head.sound) (clients + servers) c s gap d []) []
    (λ past t e sc ok o h g. (
      f k c s gap d past (step t e sc) (kept k (ages_of k head.sound) (clients + servers) c s gap d [] past t e sc o ok h g),
      after k (ages_of k head.sound) (clients + servers) c s gap d [] past t e sc o ok h g,
    )) es all [] (traced (fresh_world k clients servers disks blocks form)) (record {
      base = starts k clients servers disks blocks form c s gap d (client_clock c) d (own_read c) head;
      talks = starts_talks k clients servers disks blocks form c s gap d (client_clock c) d (own_read c) head;
    })

pub leases_law : InHealthyRuns LeasesLast
leases_law = healthy_law LeasesLast (λ k c s gap d past x y. y.last)

pub lost_law : InHealthyRuns NoneIsLost
lost_law = healthy_law NoneIsLost (λ k c s gap d past x y. y.lost)

pub quiesced_law : InHealthyRuns NoneIsQuiesced
quiesced_law = healthy_law NoneIsQuiesced (λ k c s gap d past x y. y.quiesced)
