-- The lives in the world when a client's node turns into another: in a step, a crash or a start.
use Rattle.st_lemmas.proofs.Words
use Words.{◌≡◌, ◌≢◌, ℕ, ◌≤◌, ◌⊎◌, Bool, true, false, ◌&&◌, List, [], ◌∷◌, ◌++◌, ◌==◌, Option, Some, None, refl, sym, ap, ◌∙◌, subst, inl, inr, arith}
use Words.{if◌then◌else◌, find, eqb-true, Config, ClientId, ServerId, Life, Stamp, LogOwner, IssuedCommand, LeaseLife}
use Words.Keys.{same_client, same_server}
use Words.Client as cl
use Words.ClientState.{Association, is_at}
use Words.World as world
use Words.World.{WorldClient, numbered, with_numbered, is_life_of}
use Words.Events as ev
use Words.Lists.{Has}
use Words.Lookups.{some_is}
use Words.Tables.{and_true, has_append, same_or_not}
use Words.Numbers.{numbered_own, numbered_other, numbered_below}
use Rattle.st_laws_steps.specs.Client.Losses.{Fit}
use Rattle.st_laws_steps.specs.Lives.Lives.{Pairwise, Once, clock_in, IsKnown, IsBelow, IsStopped, NodeHolds, EndedHolds, LivesAreKept, AllKnown}
use Rattle.st_laws_pages.proofs.Lives.Lives.{find_front, find_back}
use Rattle.st_laws_steps.proofs.Lives.Associations.{own_found, found_has, numbers_same, PairFound, pair_found, PairLeft, pair_left, pair_none}
use Rattle.st_laws_steps.proofs.Client.Stepping.{pairs_has}

-- a row that is found belongs to that client, server and life
pub row_is : (c : ClientId) (s : ServerId) (l : Life) (es : List LeaseLife) (e : LeaseLife) → find (is_life_of c s l) es ≡ Some e → Has e es × (e.client ≡ c) × (e.server ≡ s) × (e.life ≡ l)
row_is c s l [] e i = cc
row_is c s l (x ∷ es) e i = go (is_life_of c s l x) refl i (row_is c s l es e)
  where
    go : (b : Bool) → is_life_of c s l x ≡ b → (if b then Some x else find (is_life_of c s l) es) ≡ Some e → (find (is_life_of c s l) es ≡ Some e → Has e es × (e.client ≡ c) × (e.server ≡ s) × (e.life ≡ l)) → Has e (x ∷ es) × (e.client ≡ c) × (e.server ≡ s) × (e.life ≡ l)
    go true q i f =
        let a = and_true (same_client x.client c) (same_server x.server s && (x.life.0 == l.0)) q in
        let b = and_true (same_server x.server s) (x.life.0 == l.0) a.1 in
        let same : x ≡ e = some_is i in (
          inl (sym same),
          ap (λ (z : LeaseLife). z.client) (sym same) ∙ ap (λ n. record { 0 = n }) (eqb-true x.client.0 c.0 a.0),
          ap (λ (z : LeaseLife). z.server) (sym same) ∙ ap (λ n. record { 0 = n }) (eqb-true x.server.0 s.0 b.0),
          ap (λ (z : LeaseLife). z.life) (sym same) ∙ ap (λ n. record { 0 = n }) (eqb-true x.life.0 l.0 b.1),
        )
    go false q i f = let z = f i in (inr z.0, z.1, z.2, z.3)

-- what a row says that joins the lives that ended
pub record NewRow (R : Association → Association → Type 0) (ts : List Stamp) (c : ClientId) (n m : cl.ClientNode) (rows : List LeaseLife) (e : LeaseLife) : Type 0 where
  pub a : Association
  pub has : Has a n.state.associations
  pub client : e.client ≡ c
  pub server : e.server ≡ a.server
  pub life : e.life ≡ a.life
  pub running : n.running ≡ true
  pub self : find (is_life_of c a.server a.life) rows ≡ Some e
  pub below : (b : Association) → R a b → IsBelow m.running e b
  pub over : e.crashed ≡ false → (t : Stamp) × (e.end ≡ Some t) × (t.0 ≤ (clock_in ts c).0)

-- a life goes on, or it is among those that ended
abbrev pub GoesOrEnded : ClientId → List LeaseLife → Association → Association → Type 0
GoesOrEnded c es a b = (a.life.0 ≡ b.life.0) ⊎ ((l : Life) → a.life.0 ≡ l.0 → (e : LeaseLife) × (find (is_life_of c a.server l) es ≡ Some e))

-- A node turns into another: what becomes of its associations, and the rows that join the lives that ended.
pub record Turned (R : Association → Association → Type 0) (ts : List Stamp) (es : List LeaseLife) (c : ClientId) (n m : cl.ClientNode) (rows : List LeaseLife) : Type 0 where
  pub id : n.state.id ≡ m.state.id
  pub config : n.state.config ≡ m.state.config
  pub servers : (a b : Association) → R a b → a.server ≡ b.server
  pub pairs : Pairwise R n.state.associations m.state.associations
  pub fits : (a b : Association) → R a b → Fit a → Fit b
  pub up : (a b : Association) → R a b → a.life.0 ≤ b.life.0
  pub lifts : (a b : Association) → R a b → (e : LeaseLife) → IsBelow n.running e a → IsBelow m.running e b
  pub goes : (a b : Association) → Has a n.state.associations → R a b → GoesOrEnded c (es ++ rows) a b
  pub stopped : m.running ≡ false → (b : Association) → Has b m.state.associations → IsStopped (es ++ rows) c b
  pub new : (e : LeaseLife) → Has e rows → NewRow R ts c n m rows e

module _ (R : Association → Association → Type 0) (k : Config) (ts : List Stamp) (cs : List WorldClient) (es : List LeaseLife) (c : ClientId) (old site : WorldClient) (m : cl.ClientNode) (rows : List LeaseLife)
    (there : numbered cs c.0 ≡ Some old) (node : site.node ≡ m) (t : Turned R ts es c old.node m rows) (h : LivesAreKept k ts cs es) where
  abbrev now_sites : List WorldClient
  now_sites = with_numbered c.0 site cs

  low : 1 ≤ c.0
  low = (numbered_below cs c.0 old there).0

  mine : NodeHolds k ts es c old.node
  mine = h.sites c old there

  own_site : numbered now_sites c.0 ≡ Some site
  own_site = numbered_own cs c.0 site old there

  other_site : (d : ℕ) → d ≢ c.0 → numbered now_sites d ≡ numbered cs d
  other_site d n = numbered_other cs c.0 d site low n

  -- no life that ended before is the present one of a client that runs
  none_before : (a : Association) → Has a old.node.state.associations → old.node.running ≡ true → find (is_life_of c a.server a.life) es ≡ None
  none_before a i r = go (find (is_life_of c a.server a.life) es) refl
    where
      go : (o : Option LeaseLife) → find (is_life_of c a.server a.life) es ≡ o → o ≡ None
      go None q = refl
      go (Some e) q =
          let z = row_is c a.server a.life es e q in
          let b = mine.below e z.0 z.1 a (ap (λ s. find (is_at s) old.node.state.associations) z.2 ∙ own_found old.node.state.associations mine.once a i) in
          let lt = b.below r in let eq = ap (λ (l : Life). l.0) z.3 in absurd (omega (arith, lt, eq))

  below_now : (e : LeaseLife) → Has e (es ++ rows) → e.client ≡ c → (b : Association) → find (is_at e.server) m.state.associations ≡ Some b → IsBelow m.running e b
  below_now e i q b f = go (has_append es rows e i) (pair_found R t.servers e.server old.node.state.associations m.state.associations t.pairs b f)
    where
      go : Has e es ⊎ Has e rows → PairFound R e.server old.node.state.associations b → IsBelow m.running e b
      go (inl i) p = t.lifts p.a b p.pair e (mine.below e i q p.a p.is)
      go (inr i) p =
          let n = t.new e i in
          let same : n.a ≡ p.a = some_is (sym (own_found old.node.state.associations mine.once n.a n.has) ∙ ap (λ s. find (is_at s) old.node.state.associations) (sym n.server) ∙ p.is) in
          n.below b (subst (λ z. R z b) (sym same) p.pair)

  node_now : NodeHolds k ts (es ++ rows) c m
  node_now =
      record {
        id = sym t.id ∙ mine.id;
        config = sym t.config ∙ mine.config;
        once = subst Once (numbers_same R t.servers old.node.state.associations m.state.associations t.pairs) mine.once;
        fit = pairs_has R Fit Fit t.fits old.node.state.associations m.state.associations t.pairs mine.fit;
        stopped = t.stopped;
        born = pairs_has R (λ a. 1 ≤ a.life.0) (λ a. 1 ≤ a.life.0) (λ a b r x. let z = t.up a b r in omega (arith, x, z)) old.node.state.associations m.state.associations t.pairs mine.born;
        clock = mine.clock;
        ticks = mine.ticks;
        below = below_now;
      }

  -- another client
  node_other : (d : ClientId) (s : WorldClient) → d.0 ≢ c.0 → NodeHolds k ts es d s.node → NodeHolds k ts (es ++ rows) d s.node
  node_other d s n o =
      record {
        id = o.id;
        config = o.config;
        once = o.once;
        fit = o.fit;
        stopped = λ r a i. let z = o.stopped r a i in record { session = z.session; row = z.row; is = find_front (is_life_of d a.server a.life) es rows z.row z.is };
        born = o.born;
        clock = o.clock;
        ticks = o.ticks;
        below = λ e i q a f. go e q a f (has_append es rows e i);
      }
    where
      go : (e : LeaseLife) → e.client ≡ d → (a : Association) → find (is_at e.server) s.node.state.associations ≡ Some a → Has e es ⊎ Has e rows → IsBelow s.node.running e a
      go e q a f (inl i) = o.below e i q a f
      go e q a f (inr i) = absurd (n (ap (λ (z : ClientId). z.0) (sym q ∙ (t.new e i).client)))

  sites_now : (d : ClientId) (s : WorldClient) → numbered now_sites d.0 ≡ Some s → NodeHolds k ts (es ++ rows) d s.node
  sites_now d s e = go (same_or_not d.0 c.0)
    where
      go : (d.0 ≡ c.0) ⊎ (d.0 ≢ c.0) → NodeHolds k ts (es ++ rows) d s.node
      go (inl q) =
          let id : c ≡ d = ap (λ n. record { 0 = n }) (sym q) in
          let same : site ≡ s = some_is (sym own_site ∙ ap (numbered now_sites) (sym q) ∙ e) in
          subst (λ z. NodeHolds k ts (es ++ rows) z s.node) id (subst (λ (z : WorldClient). NodeHolds k ts (es ++ rows) c z.node) same (subst (NodeHolds k ts (es ++ rows) c) (sym node) node_now))
      go (inr n) = node_other d s n (h.sites d s (sym (other_site d.0 n) ∙ e))

  -- there are the clients that there were
  still : (d : ClientId) (s : WorldClient) → numbered cs d.0 ≡ Some s → (u : WorldClient) × (numbered now_sites d.0 ≡ Some u)
  still d s e = go (same_or_not d.0 c.0)
    where
      go : (d.0 ≡ c.0) ⊎ (d.0 ≢ c.0) → (u : WorldClient) × (numbered now_sites d.0 ≡ Some u)
      go (inl q) = (site, ap (numbered now_sites) q ∙ own_site)
      go (inr n) = (s, other_site d.0 n ∙ e)

  ends_now : (e : LeaseLife) → Has e (es ++ rows) → EndedHolds ts now_sites (es ++ rows) e
  ends_now e i = go (has_append es rows e i)
    where
      old_row : EndedHolds ts cs es e → EndedHolds ts now_sites (es ++ rows) e
      old_row o = let z = still e.client o.site o.there in record { site = z.0; there = z.1; born = o.born; self = find_front (is_life_of e.client e.server e.life) es rows e o.self; over = o.over }

      new_row : NewRow R ts c old.node m rows e → EndedHolds ts now_sites (es ++ rows) e
      new_row n =
          record {
            site = site;
            there = ap (λ (z : ClientId). numbered now_sites z.0) n.client ∙ own_site;
            born = let x = mine.born n.a n.has in let y = ap (λ (l : Life). l.0) n.life in omega (arith, x, y);
            self =
                ap (λ z. find (is_life_of z e.server e.life) (es ++ rows)) n.client ∙ ap (λ z. find (is_life_of c z e.life) (es ++ rows)) n.server ∙ ap (λ z. find (is_life_of c n.a.server z) (es ++ rows)) n.life
                ∙ find_back (is_life_of c n.a.server n.a.life) es rows (none_before n.a n.has n.running) ∙ n.self;
            over = λ q. let z = n.over q in (z.0, z.1, subst (λ (y : ClientId). z.0.0 ≤ (clock_in ts y).0) (sym n.client) z.2);
          }

      go : Has e es ⊎ Has e rows → EndedHolds ts now_sites (es ++ rows) e
      go (inl i) = old_row (h.ends e i)
      go (inr i) = new_row (t.new e i)

  pub turned_lives : LivesAreKept k ts now_sites (es ++ rows)
  turned_lives = record { sites = sites_now; ends = ends_now }

  -- what was known stays known
  pub turned_known : (d : ClientId) (s : ServerId) (l : Life) → IsKnown cs es d s l → IsKnown now_sites (es ++ rows) d s l
  turned_known d s l (inl (e, q)) = inl (e, find_front (is_life_of d s l) es rows e q)
  turned_known d s l (inr q) = go (same_or_not d.0 c.0)
    where
      at : (al : Option Association) → find (is_at s) old.node.state.associations ≡ al → (world.life_at al).0 ≡ l.0 → IsKnown now_sites (es ++ rows) c s l
      at None f e =
          inr (ap (λ o. (ev.life_of_site s o).0) own_site ∙ ap (λ (z : cl.ClientNode). (world.life_with z.state s).0) node
          ∙ ap (λ o. (world.life_at o).0) (pair_none R t.servers s old.node.state.associations m.state.associations t.pairs f) ∙ e)
      at (Some a) f e = found (pair_left R t.servers s old.node.state.associations m.state.associations t.pairs a f)
        where
          found : PairLeft R s m.state.associations a → IsKnown now_sites (es ++ rows) c s l
          found p = which (t.goes a p.b (found_has s old.node.state.associations a f).0 p.pair)
            where
              which : GoesOrEnded c (es ++ rows) a p.b → IsKnown now_sites (es ++ rows) c s l
              which (inl g) = inr (ap (λ o. (ev.life_of_site s o).0) own_site ∙ ap (λ (z : cl.ClientNode). (world.life_with z.state s).0) node ∙ ap (λ o. (world.life_at o).0) p.is ∙ sym g ∙ e)
              which (inr g) = let z = g l e in inl (z.0, ap (λ r. find (is_life_of c r l) (es ++ rows)) (sym (found_has s old.node.state.associations a f).1) ∙ z.1)

      go : (d.0 ≡ c.0) ⊎ (d.0 ≢ c.0) → IsKnown now_sites (es ++ rows) d s l
      go (inl n) =
          let id : c ≡ d = ap (λ n. record { 0 = n }) (sym n) in
          subst (λ z. IsKnown now_sites (es ++ rows) z s l) id
          (at (find (is_at s) old.node.state.associations) refl (ap (λ o. (ev.life_of_site s o).0) (sym there) ∙ ap (λ z. (ev.life_of_site s (numbered cs z)).0) (sym n) ∙ q))
      go (inr n) = inr (ap (λ o. (ev.life_of_site s o).0) (other_site d.0 n) ∙ q)

  pub turned_all : (xs : List IssuedCommand) (os : List LogOwner) → AllKnown cs es xs os → AllKnown now_sites (es ++ rows) xs os
  turned_all xs os a = record { commands = λ x i. turned_known x.client x.server x.life (a.commands x i); owners = λ o i. turned_known o.client o.file.server o.life (a.owners o i) }
