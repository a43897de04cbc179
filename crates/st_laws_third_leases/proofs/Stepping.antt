-- A whole step of a client of the third form: what becomes of each of its associations, from one part of the step to the next, and why each message is sent.
use Rattle.st_lemmas.proofs.Words
use Words.{◌≡◌, ℕ, ◌+◌, ◌⊎◌, arith, Bool, true, false, ◌==◌, List, [], ◌∷◌, ◌++◌, Option, Some, None, refl, sym, ap, ◌∙◌, subst, inl, inr}
use Words.{if◌then◌else◌, is_some}
use Words.{eq-eqb, AppAnswer, ClientId, ClientInput, Config, DirtyPage, Message, Request, ServerId, Stamp}
use Words.answers
use Words.inputs
use Words.outputs
use Words.Client as cl
use Words.ClientState.{Association, ClientSession, is_at, server_of}
use Words.Lists.{Has}
use Words.Tables.{has_append}
use Words.Truth.{not_both}
use Rattle.st_third.specs.declared.event.ThirdInput.{ThirdInput}
use Rattle.st_third.specs.declared.event.ThirdInput.TheVariants as third_inputs
use Rattle.st_third.specs.declared.limits.Limits.{Limits}
use Rattle.st_third.specs.declared.output.ThirdOutput.{ThirdOutput}
use Rattle.st_third.specs.declared.output.ThirdOutput.TheVariants as says
use Rattle.st_third.specs.Client as third
use Rattle.st_third.specs.Leave as leaving
use Rattle.st_third.specs.Replies.{receive, receive_at}
use Rattle.st_third.specs.State.{ThirdClient, ThirdClientTurn, ThirdTurn, all_said, at_each, only_at, plainly, say, session, third_turn}
use Rattle.st_laws_healthy.proofs.Passing.{After, Alike, alike_self}
use Rattle.st_laws_healthy.proofs.Taking.{IsSeen, SawDemand}
use Rattle.st_laws_healthy.proofs.Walking.{Hears, IsHeard, IsLeft, Takes, Walk}
use Rattle.st_laws_requests.specs.Cuts.Cuts.{view}
use Rattle.st_laws_steps.specs.Client.Losses.{Fit, is_ended}
use Rattle.st_laws_steps.specs.Lives.Lives.{Pairwise}
use Rattle.st_laws_steps.proofs.Client.Stepping.{pairs_has, pairs_same, pairs_then}
use Rattle.st_laws_third.specs.Changes.{ThirdChanges, ThirdLeaves, ThirdLoses, ThirdPasses, HasLeft, IsLost, Lasts, Stays}
use Rattle.st_laws_third.specs.Pairs.{IsPaired}
use Rattle.st_laws_third.specs.Sessions.{Dates}
use Rattle.st_laws_third.proofs.Chains.{left_has}
use Rattle.st_laws_third.proofs.Facts.{ThirdNext, changes_third}
use Rattle.st_laws_third.proofs.Leaving.{loses}
use Rattle.st_laws_third.proofs.Passing.{passes_change}
use Rattle.st_laws_third.proofs.Receiving.{receives}
use Rattle.st_laws_third_leases.proofs.Hearing.{heard_seen, hears}
use Rattle.st_laws_third_leases.proofs.Idle.{LeavesAlike, Sent, alike_either, alike_still}
use Rattle.st_laws_third_leases.proofs.Inputs.{IsLostOrNot, asks_alike, ends_alike, leave_alike, loses_or_not}
use Rattle.st_laws_third_leases.proofs.Passing.{HasGone, IsWorked, passes_work}
use Rattle.st_laws_third_leases.proofs.Placing.{AllPlain, KeepsOn, Places, ViewPlain, changes_go, keeps_same, place_next, place_on, same_view}
use Rattle.st_laws_third_leases.proofs.Requesting.{Asked, Earlier, IsNow, IsSpoken, Rests}
use Rattle.st_laws_third_leases.proofs.Turns.{Each, One, each}

-- what a leave is to what is heard: no message
abbrev pub plain_input : ThirdInput → ClientInput
plain_input (third_inputs.Plain i) = i
plain_input (third_inputs.Leave op s) = inputs.Tick

-- a message is to this client
abbrev pub IsTold : ClientId → ClientInput → Type 0
IsTold id (inputs.Control x) = x.header.to ≡ id.0
IsTold id j = Unit {0}

-- What becomes of an association, from one part of the step to the next.

-- the loss
pub record LosesAt (k : Config) (now : Stamp) (a b : Association) : Type 0 where
  pub server : b.server ≡ a.server
  pub lasts : is_ended k now a.session ≡ false → b ≡ a
  pub lost : is_ended k now a.session ≡ true → (b.life.0 ≡ a.life.0 + 1) × (b.session ≡ None)
  pub going : is_ended k now b.session ≡ false
  pub fit : Fit b
  pub plain : ViewPlain (view b.session)
  pub places : Places a b

-- the passes: it is worked at, or the client has left
pub record WorksAt (now : Stamp) (a b : Association) : Type 0 where
  pub life : b.life ≡ a.life
  pub session : After now a.session b.session
  pub greeting : is_some a.greeting ≡ true → is_some b.greeting ≡ true

pub record LeavesAt (a b : Association) : Type 0 where
  pub life : b.life.0 ≡ a.life.0 + 1
  pub was : is_some a.session ≡ true
  pub none : b.session ≡ None

pub record PassesAt (k : Config) (id : ClientId) (now : Stamp) (Said : Message → Type 0) (a b : Association) : Type 0 where
  pub server : b.server ≡ a.server
  pub goes : WorksAt now a b ⊎ LeavesAt a b
  pub asked : (z : ClientSession) (q : Request) → b.session ≡ Some z → z.requests.asked ≡ Some q → Asked Said id a.session b z q
  pub rests : Rests k now b.session
  pub places : Places a b

-- all of it
pub record ThirdWalk (k : Config) (id : ClientId) (now : Stamp) (i : ClientInput) (Said : Message → Type 0) (a b : Association) : Type 0 where
  pub first : Association
  pub second : Association
  pub loses : LosesAt k now a first
  pub takes : Takes k.renew now i first second
  pub dates : Dates k now first.session second.session
  pub places : Places a b
  pub passes : PassesAt k id now Said second b

-- an association that is worked at walks as in every form
pub walk_of : (k : Config) (id : ClientId) (now : Stamp) (i : ClientInput) (Said : Message → Type 0) (a b : Association)
    (w : ThirdWalk k id now i Said a b) → WorksAt now w.second b → Walk k k.renew now i a b
walk_of k id now i Said a b w y =
    record {
      first = w.first;
      second = w.second;
      stays = w.loses.server;
      lasts = w.loses.lasts;
      lost = w.loses.lost;
      going = w.loses.going;
      takes = w.takes;
      server = w.passes.server;
      life = y.life;
      session = y.session;
      greeting = y.greeting;
    }

-- an emptied association has nothing
emptied_fit : (m : Limits) (a : Association) → Fit (Rattle.st_third.specs.Limits.limited_association m (cl.emptied a))
emptied_fit m a = record { mapped = λ ino p d e. absurd (never d e); fresh = tt }
  where
    never : (d : DirtyPage) → ◌≡◌ {A = Option DirtyPage} None (Some d) → ⊥
    never d e = cc

lost_fit : (now : Stamp) (t u : ThirdTurn) → ThirdLoses now t u → Fit t.plain.here → Fit u.plain.here
unfolding plainly
lost_fit now t _ (Lasts e) f = f
lost_fit now t _ (IsLost s v e i cs) f = emptied_fit v.limits v.plain.here

-- an alike session has the date from before
dates_alike : (k : Config) (now : Stamp) (o p : Option ClientSession) → Alike o p → Dates k now o p
dates_alike k now None p e = subst (Dates k now None) (sym e) tt
dates_alike k now (Some s) p f =
    subst (Dates k now (Some s)) (sym f.is) (inl (let d = ap (λ (l : Words.ClientLease.ClientLease). l.date.0) f.lease in omega (arith, d)))

-- an alike session has the epoch and the requests from before
keeps_alike : (o p : Option ClientSession) → Alike o p → KeepsOn (view o) (view p)
keeps_alike None p e = subst (λ q. KeepsOn None (view q)) (sym e) (keeps_same None)
keeps_alike (Some s) p f =
    subst (λ q. KeepsOn (view (Some s)) (view q)) (sym f.is)
    (subst (KeepsOn (view (Some s))) (sym (same_view s f.session f.epoch f.requests)) (keeps_same (view (Some s))))

pub seen_plain : (b : Words.Body) → IsSeen b → Words.Dating.is_request b ≡ false
seen_plain _ (SawDemand ino g) = refl

-- more was said after changes
said_more : (now : Stamp) (t u : ThirdTurn) → ThirdNext now t u → (x : Message) → Sent (all_said t) x → Sent (all_said u) x
said_more now t u n x h = subst (λ os. Sent os x) (sym n.said) (left_has (all_said t) n.more (says.Plain (outputs.Send x)) h)

passes_grow : (now : Stamp) (tick : Bool) (t : ThirdTurn) (x : Message) → Sent (all_said t) x → Sent (all_said (third.third_passes now tick t)) x
unfolding plainly say
passes_grow now tick t x h = go (third.third_passes now tick t) (passes_change now tick t)
  where
    left : (d e : ThirdTurn) → ThirdLeaves now d e → Sent (all_said d) x → Sent (all_said e) x
    left d _ Stays j = j
    left d _ (HasLeft s f) j =
        left_has (all_said d ++ _ ∷ []) [] (says.Plain (outputs.Send x)) (left_has (all_said d) (_ ∷ []) (says.Plain (outputs.Send x)) j)

    go : (u : ThirdTurn) → ThirdPasses now t u → Sent (all_said u) x
    go u p =
        said_more now p.left u (changes_third now p.left u p.asks) x
        (left p.written p.left p.leaves (said_more now t p.written (changes_third now t p.written p.works) x h))

module _ (m : Limits) (c : ThirdClient) (now : Stamp) (input : ThirdInput) (pairing : IsPaired c) (fit : (a : Association) → Has a c.plain.associations → Fit a)
    (unseen : (a : Association) → Has a c.plain.associations → ViewPlain (view a.session)) where
  abbrev k : Config
  k = c.plain.config

  abbrev id : ClientId
  id = c.plain.id

  abbrev i : ClientInput
  i = plain_input input

  abbrev t0 : ThirdClientTurn
  t0 = third_turn c []

  abbrev t1 : ThirdClientTurn
  t1 = third.losses m t0 now

  abbrev t2 : ThirdClientTurn
  t2 = third.take_input m t1 now input

  abbrev t3 : ThirdClientTurn
  t3 = third.work m t2 now input

  -- nobody accounts for a message
  abbrev Nobody : Association → Message → Type 0
  Nobody a x = ⊥

  -- The losses.
  abbrev LostPair : (Message → Type 0) → Association → Association → Type 0
  LostPair S a b = LosesAt k now a b

  -- it fits, and what it asks is plain
  abbrev Ready : Association → Type 0
  Ready a = Fit a × ViewPlain (view a.session)

  pub one1 : (t : ThirdTurn) → t.plain.id ≡ id → t.plain.config ≡ k → Ready t.plain.here → One LostPair Nobody t (leaving.lose now t)
  one1 t e q f =
      let y = subst (λ kb. IsLostOrNot kb now t (leaving.lose now t)) q (loses_or_not now t) in
      record {
        does = record {
          server = y.server;
          lasts = y.lasts;
          lost = y.lost;
          going = y.going;
          fit = lost_fit now t (leaving.lose now t) (loses t) f.0;
          plain = lost_plain y.lasts y.lost;
          places = lost_places y.server y.lasts y.lost;
        };
        sends = λ x h. inl (y.quiet x h);
      }
    where
      u : ThirdTurn
      u = leaving.lose now t

      lost_plain : (is_ended k now (session t) ≡ false → u.plain.here ≡ t.plain.here) →
          (is_ended k now (session t) ≡ true → (u.plain.here.life.0 ≡ t.plain.here.life.0 + 1) × (session u ≡ None)) → ViewPlain (view (session u))
      lost_plain a b = go (is_ended k now (session t)) refl
        where
          go : (x : Bool) → is_ended k now (session t) ≡ x → ViewPlain (view (session u))
          go false e = subst (λ (y : Association). ViewPlain (view y.session)) (sym (a e)) f.1
          go true e = subst (λ o. ViewPlain (view o)) (sym (b e).1) tt

      lost_places : u.plain.here.server ≡ t.plain.here.server → (is_ended k now (session t) ≡ false → u.plain.here ≡ t.plain.here) →
          (is_ended k now (session t) ≡ true → (u.plain.here.life.0 ≡ t.plain.here.life.0 + 1) × (session u ≡ None)) → Places t.plain.here u.plain.here
      lost_places s a b = go (is_ended k now (session t)) refl
        where
          go : (x : Bool) → is_ended k now (session t) ≡ x → Places t.plain.here u.plain.here
          go false e = subst (Places t.plain.here) (sym (a e)) (λ ms d p. p)
          go true e = λ ms d p. let z = b e in place_next ms d t.plain.here u.plain.here s z.0 z.1 p

  pub lost : Each m k id (leaving.lose now) Ready LostPair Nobody (λ t a b r. r) one1 t0 t1
  unfolding third.losses
  lost = each m k id (leaving.lose now) Ready LostPair Nobody (λ t a b r. r) one1 t0 refl refl pairing (λ a h. (fit a h, unseen a h))

  pub ready1 : (a : Association) → Has a t1.client.plain.associations → Ready a
  ready1 =
      pairs_has (LosesAt k now) (λ a. Unit {0}) Ready (λ a b r x. (r.fit, r.plain)) t0.client.plain.associations t1.client.plain.associations lost.pairs
      (λ a h. tt)

  -- The input.
  abbrev InTakes : Association → Association → Type 0
  InTakes a b = Takes k.renew now i a b × Dates k now a.session b.session × Places a b

  abbrev TakenPair : (Message → Type 0) → Association → Association → Type 0
  TakenPair S a b = InTakes a b

  abbrev Saw : Association → Message → Type 0
  Saw a x = IsSeen x.body × (x.header.number ≡ 0)

  abbrev Saw_one : Message → Type 0
  Saw_one x = IsSeen x.body × (x.header.number ≡ 0)

  -- What holds after the input.
  record Taken (u : ThirdClientTurn) : Type 0 where
    id_is : u.client.plain.id ≡ t1.client.plain.id
    config : u.client.plain.config ≡ t1.client.plain.config
    paired : IsPaired u.client
    pairs : Pairwise InTakes t1.client.plain.associations u.client.plain.associations
    sends : (x : Message) → Sent u.out x → Sent t1.out x ⊎ Saw_one x

  -- no message is the input
  abbrev NoMessage : Type 0
  NoMessage = (x : Message) → i ≡ inputs.Control x → ⊥

  alike_left : NoMessage → (t u : ThirdTurn) → LeavesAlike t u → InTakes t.plain.here u.plain.here
  alike_left n t u l = (
    IsLeft (λ x e j. absurd (n x e)) l.server l.life l.greeting l.session,
    dates_alike k now (session t) (session u) l.session,
    λ ms d p. place_on ms d t.plain.here u.plain.here l.server l.life (keeps_alike (session t) (session u) l.session) p,
  )

  same_left : NoMessage → (u : ThirdClientTurn) → u.client ≡ t1.client → ((x : Message) → Sent u.out x → Sent t1.out x) → Taken u
  same_left n u e q =
      record {
        id_is = ap (λ (x : ThirdClient). x.plain.id) e;
        config = ap (λ (x : ThirdClient). x.plain.config) e;
        paired = subst IsPaired (sym e) lost.paired;
        pairs = subst (λ (x : ThirdClient). Pairwise InTakes t1.client.plain.associations x.plain.associations) (sym e)
            (pairs_same InTakes
            (λ a. (
              IsLeft (λ x e j. absurd (n x e)) refl refl refl (alike_self a.session),
              dates_alike k now a.session a.session (alike_self a.session),
              λ ms d p. p,
            ))
            t1.client.plain.associations);
        sends = λ x h. inl (q x h);
      }

  each_left : NoMessage → (rule : ThirdTurn → ThirdTurn) → ((t : ThirdTurn) → LeavesAlike t (rule t)) → Taken (at_each m rule t1)
  each_left n rule alike =
      let one2 : (t : ThirdTurn) → t.plain.id ≡ id → t.plain.config ≡ k → Ready t.plain.here → One TakenPair Nobody t (rule t) =
      λ t e q f. record { does = alike_left n t (rule t) (alike t); sends = λ x h. inl ((alike t).quiet x h) } in
      let w = each m k id rule Ready TakenPair Nobody (λ t a b r. r) one2 t1 lost.id_is lost.config lost.paired ready1 in
      record {
        id_is = w.id_is;
        config = w.config;
        paired = w.paired;
        pairs = w.pairs;
        sends = λ x h. none x (w.sends x h);
      }
    where
      none : (x : Message) → Sent t1.out x ⊎ ((b : Association) × Has b (at_each m rule t1).client.plain.associations × ⊥) → Sent t1.out x ⊎ Saw_one x
      none x (inl h) = inl h
      none x (inr (b, h, f)) = absurd f

  only_alike : (s : ServerId) (rule : ThirdTurn → ThirdTurn) → ((t : ThirdTurn) → LeavesAlike t (rule t)) → (t : ThirdTurn) → LeavesAlike t (only_at s rule t)
  unfolding only_at
  only_alike s rule alike t = alike_either (is_at s t.plain.here) t _ _ (alike t) (alike_still t)

  once_quiet : (op : ℕ) (a : AppAnswer) (x : Message) → Sent (third.answered_at_once t1 op a).out x → Sent t1.out x
  once_quiet op a x h = go (has_append t1.out (says.Plain (outputs.Answer op a) ∷ []) (says.Plain (outputs.Send x)) h)
    where
      never : says.Plain (outputs.Send x) ≡ says.Plain (outputs.Answer op a) → ⊥
      never e = cc

      go : Sent t1.out x ⊎ Sent (says.Plain (outputs.Answer op a) ∷ []) x → Sent t1.out x
      go (inl j) = j
      go (inr (inl e)) = absurd (never e)
      go (inr (inr j)) = absurd j

  asks_left : NoMessage → (op : ℕ) (s : ServerId) (rule : ThirdTurn → ThirdTurn) → ((t : ThirdTurn) → LeavesAlike t (rule t)) →
      Taken (third.ask_by m t1 op s rule)
  unfolding third.ask_by third.ask_at
  asks_left n op s rule alike = go (third.is_full m t1.client) (cl.is_configured t1.client.plain s)
    where
      at_once : (a : AppAnswer) → Taken (third.answered_at_once t1 op a)
      at_once a = same_left n (third.answered_at_once t1 op a) refl (once_quiet op a)

      go : (b d : Bool) → Taken
          (if b then third.answered_at_once t1 op answers.OpsFull else
          (if d then at_each m (only_at s rule) t1 else third.answered_at_once t1 op answers.NoFile))
      go true d = at_once answers.OpsFull
      go false true = each_left n (only_at s rule) (only_alike s rule alike)
      go false false = at_once answers.NoFile

  heard_taken : (x : Message) → i ≡ inputs.Control x → x.header.to ≡ id.0 → Taken (receive m t1 now x.header x.body)
  unfolding receive
  heard_taken x e to = go (x.header.to == t1.client.plain.id.0) refl
    where
      -- a message that tells that a demand was seen has no number
      numbered : (os more : List ThirdOutput) (y : Message) → Sent os y ⊎ IsSeen y.body → Sent os y ⊎ Sent more y → AllPlain more → Sent os y ⊎ Saw_one y
      numbered os more y (inl h) g p = inl h
      numbered os more y (inr s) (inl h) p = inl h
      numbered os more y (inr s) (inr h) p = inr (s, p (says.Plain (outputs.Send y)) h (seen_plain y.body s))

      one2 : (t : ThirdTurn) → t.plain.id ≡ id → t.plain.config ≡ k → Ready t.plain.here → One TakenPair Saw t (receive_at now x.header x.body t)
      one2 t d q f =
          let n = changes_third now t _ (receives now x.header x.body t f.0.fresh) in
          let g = changes_go _ now t _ (receives now x.header x.body t f.0.fresh) in
          record {
            does = (
              IsHeard x e (subst (λ (kb : Config). Hears kb.renew now x t.plain.here (receive_at now x.header x.body t).plain.here) q (hears t now x))
                  (sym n.server) (sym n.life),
              subst (λ kb. Dates kb now (session t) (session (receive_at now x.header x.body t))) q n.dates,
              λ ms e p. place_on ms e t.plain.here (receive_at now x.header x.body t).plain.here (sym n.server) (sym n.life) g.keeps p,
            );
            sends = λ y h. numbered (all_said t) g.more y (heard_seen now x.header x.body t y h)
                (has_append (all_said t) g.more _ (subst (λ os. Sent os y) g.said h)) (g.words f.1);
          }

      w : Each m k id (receive_at now x.header x.body) Ready TakenPair Saw (λ t a b r. r) one2 t1 (at_each m (receive_at now x.header x.body) t1)
      w = each m k id (receive_at now x.header x.body) Ready TakenPair Saw (λ t a b r. r) one2 t1 lost.id_is lost.config lost.paired ready1

      seen : (y : Message) → Sent t1.out y ⊎ ((b : Association) × Has b (at_each m (receive_at now x.header x.body) t1).client.plain.associations × Saw_one y) →
          Sent t1.out y ⊎ Saw_one y
      seen y (inl h) = inl h
      seen y (inr f) = inr f.2

      go : (b : Bool) → (x.header.to == t1.client.plain.id.0) ≡ b → Taken (if b then at_each m (receive_at now x.header x.body) t1 else t1)
      go true q = record { id_is = w.id_is; config = w.config; paired = w.paired; pairs = w.pairs; sends = λ y h. seen y (w.sends y h) }
      go false q =
          absurd (not_both (x.header.to == t1.client.plain.id.0)
          (eq-eqb x.header.to t1.client.plain.id.0 (to ∙ ap (λ (y : ClientId). y.0) (sym lost.id_is))) q)

  taken : (j : ThirdInput) → input ≡ j → IsTold id (plain_input j) → Taken (third.take_input m t1 now j)
  unfolding third.take_input third.app_leave third.take_plain third.app third.done
  taken j e told = by j e told
    where
      no_message : (a b : ClientInput) → i ≡ a → ((x : Message) → a ≡ inputs.Control x → ⊥) → NoMessage
      no_message a b q f x p = f x (sym q ∙ p)

      plain : (p : ClientInput) → input ≡ third_inputs.Plain p → IsTold id p → Taken (third.take_plain m t1 now p)
      plain inputs.Tick e told = same_left (no_message inputs.Tick inputs.Tick (ap plain_input e) (λ x q. cc)) t1 refl (λ x h. h)
      plain (inputs.App op ask) e told =
          asks_left (no_message (inputs.App op ask) inputs.Tick (ap plain_input e) (λ x q. cc)) op (server_of ask) (third.take_plainly op ask)
          (asks_alike op ask)
      plain (inputs.Control x) e told = heard_taken x (ap plain_input e) told
      plain (inputs.Done number result) e told =
          each_left (no_message (inputs.Done number result) inputs.Tick (ap plain_input e) (λ x q. cc)) (third.finish number result) (ends_alike number result)

      by : (j : ThirdInput) → input ≡ j → IsTold id (plain_input j) → Taken (third.take_input m t1 now j)
      by (third_inputs.Plain p) e told = plain p e told
      by (third_inputs.Leave op s) e told =
          asks_left (no_message inputs.Tick inputs.Tick (ap plain_input e) (λ x q. cc)) op s (leaving.take_leave op) (leave_alike op)

  -- The passes.
  abbrev PassedPair : (Message → Type 0) → Association → Association → Type 0
  PassedPair S a b = PassesAt k id now S a b

  abbrev Spoke : Association → Message → Type 0
  Spoke a x = IsSpoken id now a x

  abbrev passes : ThirdTurn → ThirdTurn
  passes t = third.third_passes now (third.is_tick input) t

  passes_config : (t : ThirdTurn) → (passes t).plain.config ≡ t.plain.config
  unfolding plainly say
  passes_config t = go (passes t) (passes_change now (third.is_tick input) t)
    where
      left : (d e : ThirdTurn) → ThirdLeaves now d e → e.plain.config ≡ d.plain.config
      left d _ Stays = refl
      left d _ (HasLeft s f) = refl

      go : (u : ThirdTurn) → ThirdPasses now t u → u.plain.config ≡ t.plain.config
      go u p = sym (changes_third now p.left u p.asks).config ∙ left p.written p.left p.leaves ∙ sym (changes_third now t p.written p.works).config

  passes_place : (t : ThirdTurn) → Places t.plain.here (passes t).plain.here
  unfolding plainly say
  passes_place t = go (passes t) (passes_change now (third.is_tick input) t)
    where
      by : (d e : ThirdTurn) → ThirdChanges None now d e → Places d.plain.here e.plain.here
      by d e cs =
          let n = changes_third now d e cs in
          let g = changes_go None now d e cs in
          λ ms x p. place_on ms x d.plain.here e.plain.here (sym n.server) (sym n.life) g.keeps p

      left : (d e : ThirdTurn) → ThirdLeaves now d e → Places d.plain.here e.plain.here
      left d _ Stays = λ ms x p. p
      left d _ (HasLeft s f) = λ ms x p. place_next ms x d.plain.here (leaving.emptied d).plain.here refl refl refl p

      go : (u : ThirdTurn) → ThirdPasses now t u → Places t.plain.here u.plain.here
      go u p = λ ms x y. by p.left u p.asks ms x (left p.written p.left p.leaves ms x (by t p.written p.works ms x y))

  more_asked : (t : ThirdTurn) (a b : Association) → PassedPair (Sent (all_said t)) a b → PassedPair (Sent (all_said (passes t))) a b
  more_asked t a b r =
      record {
        server = r.server;
        goes = r.goes;
        asked = λ z q e f. by z q (r.asked z q e f);
        rests = r.rests;
        places = r.places;
      }
    where
      by : (z : ClientSession) (q : Request) → Asked (Sent (all_said t)) id a.session b z q → Asked (Sent (all_said (passes t))) id a.session b z q
      by z q (Earlier s e x y) = Earlier s e x y
      by z q (IsNow x h f g l e n) = IsNow x (passes_grow now (third.is_tick input) t x h) f g l e n

  one3 : (t : ThirdTurn) → t.plain.id ≡ id → t.plain.config ≡ k → Unit {0} → One PassedPair Spoke t (passes t)
  one3 t e q f =
      let w = passes_work now (third.is_tick input) t in
      record {
        does = subst (λ (d : ClientId). PassesAt k d now (Sent (all_said (passes t))) t.plain.here (passes t).plain.here) (w.id ∙ e)
            (record {
              server = w.server;
              goes = goes w.goes;
              asked = w.asked;
              rests = subst (λ kb. Rests kb now (session (passes t))) (passes_config t ∙ q) w.rests;
              places = passes_place t;
            });
        sends = λ x h. subst (λ (d : ClientId). Sent (all_said t) x ⊎ IsSpoken d now (passes t).plain.here x) (w.id ∙ e) (w.sends x h);
      }
    where
      goes : IsWorked now t (passes t) ⊎ HasGone t (passes t) → WorksAt now t.plain.here (passes t).plain.here ⊎ LeavesAt t.plain.here (passes t).plain.here
      goes (inl y) = inl (record { life = y.life; session = y.session; greeting = y.greeting })
      goes (inr y) = inr (record { life = y.life; was = y.was; none = y.none })

  worked : Taken t2 → Each m k id passes (λ a. Unit {0}) PassedPair Spoke more_asked one3 t2 t3
  unfolding third.work
  worked y = each m k id passes (λ a. Unit {0}) PassedPair Spoke more_asked one3 t2 (y.id_is ∙ lost.id_is) (y.config ∙ lost.config) y.paired (λ a h. tt)

  -- What becomes of each association, and why each message is sent.
  pub record Stepped (after : ThirdClientTurn) : Type 0 where
    pub id_is : after.client.plain.id ≡ id
    pub config : after.client.plain.config ≡ k
    pub pairs : Pairwise (ThirdWalk k id now i (Sent after.out)) c.plain.associations after.client.plain.associations
    pub sends : (x : Message) → Sent after.out x →
        (IsSeen x.body × (x.header.number ≡ 0)) ⊎ ((b : Association) × Has b after.client.plain.associations × IsSpoken id now b x)

  stepped_by : Taken t2 → Stepped t3
  stepped_by y =
      record {
        id_is = w.id_is ∙ y.id_is ∙ lost.id_is;
        config = w.config ∙ y.config ∙ lost.config;
        pairs =
            pairs_then Two (PassesAt k id now (Sent t3.out)) (ThirdWalk k id now i (Sent t3.out))
            (λ a v b p q. record {
              first = p.0;
              second = v;
              loses = p.1;
              takes = p.2.0;
              dates = p.2.1;
              places = λ ms x y. q.places ms x (p.2.2 ms x (p.1.places ms x y));
              passes = q;
            }) c.plain.associations t2.client.plain.associations
            t3.client.plain.associations two w.pairs;
        sends = λ x h. go x (w.sends x h);
      }
    where
      w : Each m k id passes (λ a. Unit {0}) PassedPair Spoke more_asked one3 t2 t3
      w = worked y

      Two : Association → Association → Type 0
      Two a v = (f : Association) × LosesAt k now a f × InTakes f v

      two : Pairwise Two c.plain.associations t2.client.plain.associations
      two =
          pairs_then (LosesAt k now) InTakes Two (λ a f v p q. (f, p, q)) c.plain.associations t1.client.plain.associations
          t2.client.plain.associations lost.pairs y.pairs

      nobody : (x : Message) → Sent t1.out x → Saw_one x
      nobody x h = none (lost.sends x h)
        where
          none : Sent [] x ⊎ ((b : Association) × Has b t1.client.plain.associations × ⊥) → Saw_one x
          none (inl j) = absurd j
          none (inr (b, h, f)) = absurd f

      seen : (x : Message) → Sent t1.out x ⊎ Saw_one x → Saw_one x
      seen x (inl h) = nobody x h
      seen x (inr f) = f

      go : (x : Message) → Sent t2.out x ⊎ ((b : Association) × Has b t3.client.plain.associations × IsSpoken id now b x) →
          Saw_one x ⊎ ((b : Association) × Has b t3.client.plain.associations × IsSpoken id now b x)
      go x (inl h) = inl (seen x (y.sends x h))
      go x (inr f) = inr f

  pub steps : IsTold id i → Stepped (third.client_step m c now input)
  unfolding third.client_step
  steps told = stepped_by (taken input refl told)
