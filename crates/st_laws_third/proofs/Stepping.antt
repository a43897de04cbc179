-- What becomes of each association in a step of a client of the third form.
use Rattle.st_lemmas.proofs.Words
use Words.{◌≡◌, ℕ, suc, ◌==◌, Bool, true, false, List, [], ◌∷◌, ◌++◌, Option, Some, None, length, refl, sym, ap, ◌∙◌, subst, inl, inr, arith, append_assoc}
use Words.{if◌then◌else◌, Body, ClientInput, Config, DirtyPage, Header, ServerId, Stamp}
use Words.answers
use Words.Client as plain
use Words.ClientState.{Association, Turn, is_at}
use Words.Lengths.{nothing_after}
use Words.Lists.{Has}
use Rattle.st_rules.specs.declared.client.ClientInput.TheVariants as inputs
use Rattle.st_laws_steps.specs.Client.Losses.{Ends, Unknown, Passes, Hardens, Fails, Fit, is_ended}
use Rattle.st_laws_steps.specs.Lives.Lives.{Pairwise}
use Rattle.st_laws_steps.proofs.Client.Nexts.{Next}
use Rattle.st_laws_steps.proofs.Client.Stepping.{ends_fit, pairs_has, pairs_same, pairs_then}
use Rattle.st_third.specs.declared.event.ThirdInput.{ThirdInput}
use Rattle.st_third.specs.declared.event.ThirdInput.TheVariants as third
use Rattle.st_third.specs.declared.limits.Limits.{Limits}
use Rattle.st_third.specs.Client as client
use Rattle.st_third.specs.Leave as leaving
use Rattle.st_third.specs.Limits.{limited_association}
use Rattle.st_third.specs.Replies.{receive, receive_at}
use Rattle.st_third.specs.State.{Beside, ThirdClient, ThirdClientTurn, ThirdTurn, at_each, at_these, enter, leave, only_at, plainly, session, third_turn}
use Rattle.st_laws_third.specs.Changes.{Heard, ThirdChanges, ThirdFinishes, ThirdLeaves, ThirdLoses, ThirdPasses, HasLeft, IsLost, Lasts, Stays, with_plain}
use Rattle.st_laws_third.specs.Pairs.{IsPaired}
use Rattle.st_laws_third.specs.Sessions.{ClientsStepOn, Dates, EndsLife, SessionFine, StepsOn}
use Rattle.st_laws_third.proofs.Facts.{changes_third, dates_same, dates_then}
use Rattle.st_laws_third.proofs.Finishing.{finishes, takes}
use Rattle.st_laws_third.proofs.Leaving.{loses, takes_leave}
use Rattle.st_laws_third.proofs.Pairs as paired
use Rattle.st_laws_third.proofs.Passing.{passes_change}
use Rattle.st_laws_third.proofs.Receiving.{receives}

-- At each server in turn: what a rule does to each association.
module _ (k : Config) (R : Association → Association → Type 0) (m : Limits) (rule : ThirdTurn → ThirdTurn)
    (one : (t : ThirdTurn) → t.plain.config ≡ k → Fit t.plain.here → R t.plain.here (rule t).plain.here) where
  record Went (as_ : List Association) (t u : ThirdClientTurn) : Type 0 where
    id : u.client.plain.id ≡ t.client.plain.id
    config : u.client.plain.config ≡ t.client.plain.config
    left : List Association
    is : u.client.plain.associations ≡ t.client.plain.associations ++ left
    pairs : Pairwise R as_ left

  these_walk : (as_ : List Association) (bs : List Beside) (t : ThirdClientTurn) → t.client.plain.config ≡ k → length bs ≡ length as_ →
      ((a : Association) → Has a as_ → Fit a) → Went as_ t (at_these m rule as_ bs t)
  unfolding at_these
  these_walk [] bs t c e f = record { id = refl; config = refl; left = []; is = nothing_after t.client.plain.associations; pairs = tt }
  these_walk (a ∷ as_) [] t c e f = absurd (nothing (length as_) e)
    where
      nothing : (n : ℕ) → 0 ≡ suc n → ⊥
      nothing n e = cc
  these_walk (a ∷ as_) (b ∷ bs) t c e f =
      let r : ThirdTurn = rule (enter m t a b) in
      let w = these_walk as_ bs (leave t r) c (omega (arith, e)) (λ x h. f x (inr h)) in
      record {
        id = w.id;
        config = w.config;
        left = r.plain.here ∷ w.left;
        is = w.is ∙ append_assoc t.client.plain.associations (r.plain.here ∷ []) w.left;
        pairs = record { one = one (enter m t a b) c (f a (inl refl)); rest = w.pairs };
      }

  -- the associations afterwards
  pub record Walked (t u : ThirdClientTurn) : Type 0 where
    pub id : u.client.plain.id ≡ t.client.plain.id
    pub config : u.client.plain.config ≡ t.client.plain.config
    pub pairs : Pairwise R t.client.plain.associations u.client.plain.associations

  pub each_walk : (t : ThirdClientTurn) → t.client.plain.config ≡ k → IsPaired t.client → ((a : Association) → Has a t.client.plain.associations → Fit a) →
      Walked t (at_each m rule t)
  unfolding at_each
  each_walk t c e f =
      let w = these_walk t.client.plain.associations t.client.beside.besides _ c e f in
      record { id = w.id; config = w.config; pairs = subst (Pairwise R t.client.plain.associations) (sym w.is) w.pairs }

module _ (k : Config) (now : Stamp) where
  abbrev pub R : Association → Association → Type 0
  R a b = StepsOn k now a b

  steps_same : (a : Association) → R a a
  steps_same a = record { server = refl; life = omega arith; dates = dates_same k now a.session; fit = λ f. f; asks = λ f. f }

  steps_then : (a b c : Association) → R a b → R b c → R a c
  steps_then a b c p q =
      let x = p.life in
      let y = q.life in
      record {
        server = p.server ∙ q.server;
        life = omega (arith, x, y);
        dates = dates_then k now a.session b.session c.session p.dates q.dates;
        fit = λ f. q.fit (p.fit f);
        asks = λ f. q.asks (p.asks f);
      }

  -- An emptied association has nothing.
  emptied_fit : (m : Limits) (a : Association) → Fit (limited_association m (plain.emptied a))
  emptied_fit m a = record { mapped = λ ino p d e. absurd (no d e); fresh = tt }
    where
      no : (d : DirtyPage) → ◌≡◌ {A = Option DirtyPage} None (Some d) → ⊥
      no d e = cc

  steps_empty : (a b : Association) (m : Limits) → a.server ≡ b.server → a.life ≡ b.life → R a (limited_association m (plain.emptied b))
  steps_empty a b m s l =
      let z : a.life.0 ≡ b.life.0 = ap (λ x. x.0) l in
      record { server = s; life = omega (arith, z); dates = tt; fit = λ f. emptied_fit m b; asks = λ f. tt }

  -- One rule at one server.
  module _ (t : ThirdTurn) (c : t.plain.config ≡ k) where
    pub changed : {got : Heard} (u : ThirdTurn) → ThirdChanges got now t u → R t.plain.here u.plain.here
    changed u cs =
        let n = changes_third now t u cs in
        let z : t.plain.here.life.0 ≡ u.plain.here.life.0 = ap (λ x. x.0) n.life in
        record { server = n.server; life = omega (arith, z); dates = subst (λ x. Dates x now (session t) (session u)) c n.dates; fit = n.fit; asks = n.asks }

    -- the settings stay
    pub config_stays : {got : Heard} (u : ThirdTurn) → ThirdChanges got now t u → u.plain.config ≡ k
    config_stays u cs = let n = changes_third now t u cs in sym n.config ∙ c

    pub loses_it : (u : ThirdTurn) → ThirdLoses now t u → R t.plain.here u.plain.here
    unfolding plainly
    loses_it _ (Lasts e) = steps_same t.plain.here
    loses_it _ (IsLost s v e i cs) =
        let n = changes_third now (with_plain (leaving.noted_lost t.plain) t) v cs in
        steps_empty t.plain.here v.plain.here v.limits n.server n.life

    -- a lease that is over ends the life
    over_it : (u : ThirdTurn) → ThirdLoses now t u → EndsLife k now t.plain.here u.plain.here
    unfolding plainly
    over_it _ (Lasts e) f = absurd (no (sym (subst (λ x. is_ended x now (session t) ≡ false) c e) ∙ f))
      where
        no : false ≡ true → ⊥
        no q = cc
    over_it _ (IsLost s v e i cs) f =
        let n = changes_third now (with_plain (leaving.noted_lost t.plain) t) v cs in
        let z : t.plain.here.life.0 ≡ v.plain.here.life.0 = ap (λ x. x.0) n.life in omega (arith, z)

    leaves_it : (u : ThirdTurn) → ThirdLeaves now t u → R t.plain.here u.plain.here
    unfolding plainly Rattle.st_third.specs.State.say
    leaves_it _ Stays = steps_same t.plain.here
    leaves_it _ (HasLeft s e) = steps_empty t.plain.here t.plain.here t.limits refl refl

    left_config : (u : ThirdTurn) → ThirdLeaves now t u → u.plain.config ≡ k
    unfolding plainly Rattle.st_third.specs.State.say
    left_config _ Stays = c
    left_config _ (HasLeft s e) = c

    -- the end of a command leaves the session
    pub same_session : (number : ℕ) (ok : Bool) (v : Turn) → Ends number ok t.plain v → t.plain.here.session ≡ v.here.session
    unfolding plain.hardened
    same_session number ok _ Unknown = refl
    same_session number ok _ (Passes x e o) = refl
    same_session number ok _ (Hardens x v e o w q) = refl
    same_session number ok _ (Fails x v e o w q) = refl

    ended : (number : ℕ) (ok : Bool) (v : Turn) → Ends number ok t.plain v → R t.plain.here v.here
    ended number ok v e =
        let n : Next now t.plain v = ends_fit now number ok t.plain v e in
        let z : t.plain.here.life.0 ≡ v.here.life.0 = ap (λ x. x.0) n.life in
        record {
          server = n.server;
          life = omega (arith, z);
          dates = subst (λ z. Dates k now t.plain.here.session z) (same_session number ok v e) (dates_same k now t.plain.here.session);
          fit = n.fit;
          asks = λ f. subst SessionFine (same_session number ok v e) f;
        }

    pub ended_config : (number : ℕ) (ok : Bool) (v : Turn) → Ends number ok t.plain v → v.config ≡ k
    ended_config number ok v e = let n : Next now t.plain v = ends_fit now number ok t.plain v e in sym n.config ∙ c

  finished : (t u : ThirdTurn) (number : ℕ) (ok : Bool) → t.plain.config ≡ k → ThirdFinishes now number ok t u → R t.plain.here u.plain.here
  finished t u number ok c f =
      let v : ThirdTurn = with_plain f.middle t in
      steps_then _ _ _ (ended t c number ok f.middle f.ends) (changed v (ended_config t c number ok f.middle f.ends) u f.rest)

  passed : (t u : ThirdTurn) → t.plain.config ≡ k → ThirdPasses now t u → R t.plain.here u.plain.here
  passed t u c p =
      let d = config_stays t c p.written p.works in
      steps_then _ _ _ (changed t c p.written p.works)
      (steps_then _ _ _ (leaves_it p.written d p.left p.leaves) (changed p.left (left_config p.written d p.left p.leaves) u p.asks))

  -- a step so far
  pub record Stepped (t u : ThirdClientTurn) : Type 0 where
    pub id : u.client.plain.id ≡ t.client.plain.id
    pub config : u.client.plain.config ≡ t.client.plain.config
    pub pairs : Pairwise R t.client.plain.associations u.client.plain.associations

  stepped_same : (t u : ThirdClientTurn) → u.client ≡ t.client → Stepped t u
  stepped_same t u e =
      record {
        id = ap (λ (x : ThirdClient). x.plain.id) e;
        config = ap (λ (x : ThirdClient). x.plain.config) e;
        pairs = subst (λ (x : ThirdClient). Pairwise R t.client.plain.associations x.plain.associations) (sym e) (pairs_same R steps_same t.client.plain.associations);
      }

  stepped_then : (t u v : ThirdClientTurn) → Stepped t u → Stepped u v → Stepped t v
  stepped_then t u v a b =
      record {
        id = b.id ∙ a.id;
        config = b.config ∙ a.config;
        pairs = pairs_then R R R steps_then t.client.plain.associations u.client.plain.associations v.client.plain.associations a.pairs b.pairs;
      }

  abbrev pub AllFit : ThirdClientTurn → Type 0
  AllFit t = (a : Association) → Has a t.client.plain.associations → Fit a

  pub stepped_fit : (t u : ThirdClientTurn) → Stepped t u → AllFit t → AllFit u
  stepped_fit t u s f = pairs_has R Fit Fit (λ a b r. r.fit) t.client.plain.associations u.client.plain.associations s.pairs f

  abbrev pub Rule : (ThirdTurn → ThirdTurn) → Type 0
  Rule rule = (t : ThirdTurn) → t.plain.config ≡ k → Fit t.plain.here → R t.plain.here (rule t).plain.here

  pub each_goes : (m : Limits) (rule : ThirdTurn → ThirdTurn) → Rule rule → (t : ThirdClientTurn) → t.client.plain.config ≡ k → IsPaired t.client → AllFit t →
      Stepped t (at_each m rule t)
  each_goes m rule one t c p f = let w = each_walk k R m rule one t c p f in record { id = w.id; config = w.config; pairs = w.pairs }

  -- Inputs.

  only : (s : ServerId) (rule : ThirdTurn → ThirdTurn) → Rule rule → Rule (only_at s rule)
  unfolding only_at
  only s rule one t c f = go (is_at s t.plain.here)
    where
      go : (b : Bool) → R t.plain.here (if b then rule t else t).plain.here
      go true = one t c f
      go false = steps_same t.plain.here

  module _ (m : Limits) (t : ThirdClientTurn) (c : t.client.plain.config ≡ k) (p : IsPaired t.client) (f : AllFit t) where
    asks : (op : ℕ) (s : ServerId) (rule : ThirdTurn → ThirdTurn) → Rule rule → Stepped t (client.ask_by m t op s rule)
    unfolding client.ask_by client.ask_at
    asks op s rule one = go (client.is_full m t.client) (plain.is_configured t.client.plain s)
      where
        go : (b d : Bool) → Stepped t
            (if b then client.answered_at_once t op answers.OpsFull else (if d then at_each m (only_at s rule) t else client.answered_at_once t op answers.NoFile))
        go true d = stepped_same t _ refl
        go false true = each_goes m (only_at s rule) (only s rule one) t c p f
        go false false = stepped_same t _ refl

    hears : (h : Header) (body : Body) → Stepped t (receive m t now h body)
    unfolding receive
    hears h body = go (h.to == t.client.plain.id.0)
      where
        one : Rule (receive_at now h body)
        one u c f = changed u c _ (receives now h body u f.fresh)

        go : (b : Bool) → Stepped t (if b then at_each m (receive_at now h body) t else t)
        go true = each_goes m (receive_at now h body) one t c p f
        go false = stepped_same t t refl

    takes_plain : (input : ClientInput) → Stepped t (client.take_plain m t now input)
    unfolding client.take_plain client.app client.done
    takes_plain inputs.Tick = stepped_same t t refl
    takes_plain (inputs.App op ask) = asks op _ _ (λ u d g. changed u d _ (takes now op ask u))
    takes_plain (inputs.Control message) = hears message.header message.body
    takes_plain (inputs.Done number result) = each_goes m (client.finish number result) (λ u d g. finished u _ number _ d (finishes now number u result)) t c p f

    pub takes_input : (input : ThirdInput) → Stepped t (client.take_input m t now input)
    unfolding client.take_input client.app_leave
    takes_input (third.Plain input) = takes_plain input
    takes_input (third.Leave op s) = asks op s _ (λ u d g. changed u d _ (takes_leave op u))

pub clients_step_on : ClientsStepOn
unfolding client.client_step client.losses client.work
clients_step_on m c now input p f =
    let k : Config = c.plain.config in
    let t : ThirdClientTurn = third_turn c [] in
    let u : ThirdClientTurn = client.losses m t now in
    let v : ThirdClientTurn = client.take_input m u now input in
    let w : ThirdClientTurn = client.work m v now input in
    let a : Stepped k now t u = each_goes k now m (leaving.lose now) (λ x d g. loses_it k now x d _ (loses x)) t refl p f in
    let pu : IsPaired u.client = (paired.each_stays m (leaving.lose now) t p).paired in
    let fu = stepped_fit k now t u a f in
    let b : Stepped k now u v = takes_input k now m u a.config pu fu input in
    let pv : IsPaired v.client = (paired.input_stays m u now input pu).paired in
    let fv = stepped_fit k now u v b fu in
    let d : Stepped k now v w =
    each_goes k now m (client.third_passes now (client.is_tick input)) (λ x e g. passed k now x _ e (passes_change now (client.is_tick input) x)) v
    (b.config ∙ a.config) pv fv in
    let later : Stepped k now u w = stepped_then k now u v w b d in
    let s : Stepped k now t w = stepped_then k now t u w a later in
    let o = each_walk k (EndsLife k now) m (leaving.lose now) (λ x e g. over_it k now x e _ (loses x)) t refl p f in
    record {
      id = s.id;
      config = s.config;
      associations = s.pairs;
      over = pairs_then (EndsLife k now) (R k now) (EndsLife k now) (λ x y z g r h. let i = g h in let j = r.life in omega (arith, i, j)) _ _ _ o.pairs later.pairs;
    }
