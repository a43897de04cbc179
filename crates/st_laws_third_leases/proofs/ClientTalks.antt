-- A step of a client of the third form keeps what is known of its association with the server.
use Rattle.st_lemmas.proofs.Words
use Words.{◌≡◌, ℕ, ◌+◌, ◌≤◌, ◌<◌, ◌⊎◌, Bool, true, false, List, [], ◌∷◌, ◌++◌, Option, Some, None, refl, sym, ap, ◌∙◌, subst, inl, inr, arith}
use Words.{is_some, Body, ClientId, ClientInput, Config, Life, Message, Request, ServerId, Stamp}
use Words.bodies as bd
use Words.inputs
use Words.ClientState as cs
use Words.ClientState.{Association, ClientSession}
use Words.Keys.{server_node}
use Words.Lists.{Has}
use Words.Lookups.{some_is}
use Words.Safety.{Step}
use Words.Server.{ServerState}
use Words.Truth.{not_both}
use Words.World.{World, numbered}
use Rattle.st_laws_lasting.specs.Lasting.{client_clock}
use Rattle.st_laws_leases.specs.Dates.Dates.{messages}
use Rattle.st_laws_requests.specs.Cuts.Cuts.{Between, IsSent, Numbers, SentIn, view}
use Rattle.st_laws_steps.specs.Client.Losses.{is_ended}
use Rattle.st_laws_steps.specs.Lives.Lives.{Pairwise}
use Rattle.st_laws_healthy.proofs.ClientStanding as standing
use Rattle.st_laws_healthy.proofs.ClientStanding.{IsNew}
use Rattle.st_laws_healthy.proofs.Happening.{Brings, Deaf, Delivers}
use Rattle.st_laws_healthy.proofs.Hearing.{counting_calm}
use Rattle.st_laws_healthy.proofs.Passing.{Alike, IsSentBy}
use Rattle.st_laws_healthy.proofs.Receiving.{Ended, Follows, Kept, Received, is_calm, tells_epoch}
use Rattle.st_laws_healthy.proofs.Replies.{is_served}
use Rattle.st_laws_healthy.proofs.Served.{IsAWelcome, IsCounted, IsEarlier, IsGood, IsOwn, IsReplied, IsTold, TellsEpoch}
use Rattle.st_laws_healthy.proofs.Taking.{IsSeen}
use Rattle.st_laws_healthy.proofs.Talking.{HasSession, Phase, Requested, Talks, delivered_among}
use Rattle.st_laws_healthy.proofs.Telling.{IsUnasked, is_unasked}
use Rattle.st_laws_healthy.proofs.Trips.{Begun, InTime}
use Rattle.st_laws_healthy.proofs.Walking.{IsHeard, IsLeft, IsReceived, Meets, Met, Takes, Unmet, Walk, received_or_not}
use Rattle.st_laws_third_leases.proofs.Numbering as numbering
use Rattle.st_laws_third_leases.proofs.Numbering.{IsFromStep, numbers_after}
use Rattle.st_laws_third_leases.proofs.Placing.{Place, Resting}
use Rattle.st_laws_third_leases.proofs.Requesting.{Asked, Earlier, IsNow, IsSpoken}
use Rattle.st_laws_third_leases.proofs.Signing.{IsSigned}
use Rattle.st_laws_third_leases.proofs.Stepping.{LeavesAt, ThirdWalk, WorksAt, walk_of}

-- what nobody asked for condemns nothing, and tells of no epoch
unasked_calm : (b : Body) → is_unasked b ≡ true → (is_calm b ≡ true) × (tells_epoch b ≡ false)
unasked_calm (bd.Granted ino g mode) e = (refl, refl)
unasked_calm (bd.Demand ino g to) e = (refl, refl)
unasked_calm b e = cc

served_plain : (b : Body) → is_served b ≡ true → cs.reasserts b ≡ false
served_plain (bd.Reassert rows) e = cc
served_plain b e = refl

welcome_asked : (m : Message) → m.body ≡ bd.Welcome → IsUnasked m → ⊥
welcome_asked m e u = no (ap is_unasked (sym e) ∙ u.body)
  where
    no : ◌≡◌ {A = Bool} false true → ⊥
    no q = cc

some_none : {A : Type 0} {P : Type 0} (x : A) → ◌≡◌ {A = Option A} None (Some x) → P
some_none x q = cc

-- an association without a session and without a greeting takes nothing in
takes_nothing : (fresh : ℕ) (now : Stamp) (i : ClientInput) (e : Association) → e.session ≡ None → e.greeting ≡ None → Takes fresh now i e e
takes_nothing fresh now i e none silent = by i refl
  where
    alike : (o : Option ClientSession) → o ≡ None → Alike o o
    alike None q = refl
    alike (Some z) q = some_none z (sym q)

    never : ◌≡◌ {A = Bool} false true → ⊥
    never q = cc

    by : (j : ClientInput) → i ≡ j → Takes fresh now i e e
    by (inputs.Control m) q =
        IsHeard m q
        (record {
          passes = λ f. refl;
          received = λ z f sound plain tells calm. some_none z (sym none ∙ f);
          counted = λ z r f sound g number plain got epoch pos counts. some_none z (sym none ∙ f);
          meets = λ f. Unmet none refl (λ got welcome greets young. never (ap is_some (sym silent) ∙ greets));
        })
        refl refl
    by inputs.Tick q = IsLeft (λ m f l. cc) refl refl refl (alike e.session none)
    by (inputs.App op ask) q = IsLeft (λ m f l. cc) refl refl refl (alike e.session none)
    by (inputs.Done number r) q = IsLeft (λ m f l. cc) refl refl refl (alike e.session none)

-- an association that is emptied for its next life
abbrev emptied_at : Association → Life → Association
emptied_at a l = record a { life = l; session = None; greeting = None }

-- The settings by which a client of the third form talks: a welcome is fresh while a lease needs no renewal.
abbrev pub settings : Config → Config
settings k = record k { lease = k.renew }

module _ (k : Config) (c : ClientId) (s : ServerId) (gap d : ℕ) where
  abbrev pub TalksSince : ℕ → List Step → List Message → ServerState → ℕ → Association → Type 0
  TalksSince since past ms n now a = Talks (settings k) c s gap d (client_clock c) d since past ms n now a

  module _ (few : c.0 ≤ 64) (past : List Step) (x : Step) (w : World) (ns : List Message) (more : (m : Message) → Has m (messages w) → Has m ns)
      (keeps : (i : ℕ) (m : Message) → numbered (messages w) i ≡ Some m → numbered ns i ≡ Some m) (now : Stamp) (clock : client_clock c x.after.world ≡ now.0)
      (in_time : InTime (client_clock c) c s d past (messages w) now.0) (begun : Begun (client_clock c) c s d past now.0) (i : ClientInput)
      (Said : Message → Type 0) (new : (m : Message) → Has m ns → Has m (messages w) ⊎ IsNew c x ns now.0 Said m)
      (said : (m : Message) → Said m → Has m ns) (brings : Brings w x.event c.0 i) (deaf_server : Deaf w x.event (server_node s)) (n : ServerState)
      (id : ClientId) (id_is : id.0 ≡ c.0) where
    abbrev ms : List Message
    ms = messages w

    abbrev W : Association → Association → Type 0
    W a b = ThirdWalk k id now i Said a b

    taken_life : (f g : Association) → Takes k.renew now i f g → g.life ≡ f.life
    taken_life f g (IsLeft quiet sv l h alike) = l
    taken_life f g (IsHeard m is hears sv l) = l

    module _ (a : Association) (at : a.server ≡ s) (since : ℕ) (t : TalksSince since past ms n now.0 a)
        (numbers : Numbers (λ m. Has m ms) c s a.life.0 (view a.session)) where
      -- the outstanding request was sent
      abbrev WasSent : ClientSession → Request → Type 0
      WasSent y q = IsSent (λ m. Has m ms) c s a.life.0 y.epoch.0 (Some q)

      -- what is heard: the server told it
      told : (m : Message) → i ≡ inputs.Control m → IsReceived a now m.header → IsTold c s ms n.sessions a.life.0 n.stable.epoch.0 t.last m
      told m is r =
          t.told m (delivered_among (settings k) c s gap d past x w ns more keeps m its.0)
          (record { from = r.from ∙ ap (λ (y : ServerId). server_node y) at; to = its.1 })
        where
          its : Delivers w x.event m × (m.header.to ≡ c.0)
          its = subst (Brings w x.event c.0) is brings

      -- a session that was there
      module _ (z : ClientSession) (there : a.session ≡ Some z) where
        p : HasSession (settings k) c s gap d (client_clock c) d since past ms n.sessions a.life.0 n.stable.epoch.0 t.last z
        p = subst (Phase (settings k) c s gap d (client_clock c) d since past ms n.sessions a.life.0 n.stable.epoch.0 t.last) there t.phase

        calm : (m : Message) → IsReceived a now m.header → IsTold c s ms n.sessions a.life.0 n.stable.epoch.0 t.last m →
            (is_calm m.body ≡ true) × (tells_epoch m.body ≡ true → m.header.epoch ≤ z.epoch.0)
        calm m r (IsOwn u) = let y = unasked_calm m.body u.body in (y.0, λ f. absurd (not_both (tells_epoch m.body) f y.1))
        calm m r (IsEarlier q) = let l = r.life in absurd (omega (arith, q, l))
        calm m r (IsReplied q e g) = (by g, λ f. let y = p.epoch_is in omega (arith, y, e))
          where
            by : IsGood c s ms n.sessions a.life.0 n.stable.epoch.0 t.last m → is_calm m.body ≡ true
            by (IsAWelcome f sv r h w o q j) = ap is_calm f
            by (TellsEpoch y v f) = ap is_calm f
            by (IsCounted f o r q j v) = counting_calm r.body m.body v

        plain : (q : Request) → z.requests.asked ≡ Some q → cs.reasserts q.body ≡ false
        plain q e =
            served_plain q.body
            (subst (Requested (settings k) c s gap d (client_clock c) d since past ms a.life.0 n.stable.epoch.0 t.last z.lease.date.0 z.requests.next) e
            p.requests).served

        -- its request was sent
        own_sent : (q : Request) → z.requests.asked ≡ Some q → WasSent z q
        own_sent q e =
            subst (IsSent (λ m. Has m ms) c s a.life.0 z.epoch.0) e (subst (λ o. SentIn (λ m. Has m ms) c s a.life.0 (view o)) there numbers.sent)

        -- as was that of a session that follows
        follows_sent : (o : Option ClientSession) → Follows z o → (y : ClientSession) (q : Request) → o ≡ Some y → y.requests.asked ≡ Some q → WasSent y q
        follows_sent o f y q e g =
            let same : f.session ≡ y = some_is (sym f.is ∙ e) in
            let z_asks = ap (λ (r : cs.Requests). r.asked) (sym f.requests) ∙ ap (λ (v : ClientSession). v.requests.asked) same ∙ g in
            subst (λ (v : Words.Epoch). IsSent (λ m. Has m ms) c s a.life.0 v.0 (Some q)) (sym f.epoch ∙ ap (λ (v : ClientSession). v.epoch) same)
            (own_sent q z_asks)

        -- what the input leaves
        left_sent : (b : Association) → Takes k.renew now i a b → (y : ClientSession) (q : Request) → b.session ≡ Some y → y.requests.asked ≡ Some q →
            WasSent y q
        left_sent b (IsLeft quiet sv l g alike) y q e f = follows_sent b.session (subst (λ o. Alike o b.session) there alike) y q e f
        left_sent b (IsHeard m is hears sv l) y q e f = by (received_or_not a now m.header)
          where
            heard : Received z m.header m.body b.session → WasSent y q
            heard (Kept follows) = follows_sent b.session follows y q e f
            heard (Ended r g number counts ended) =
                some_none q (sym ended.rests ∙ ap (λ (v : ClientSession). v.requests.asked) (some_is (sym ended.is ∙ e)) ∙ f)

            by : IsReceived a now m.header ⊎ (IsReceived a now m.header → ⊥) → WasSent y q
            by (inr never) =
                let same : z ≡ y = some_is (sym there ∙ sym (hears.passes never) ∙ e) in
                subst (λ v. WasSent v q) same (own_sent q (ap (λ (v : ClientSession). v.requests.asked) same ∙ f))
            by (inl r) =
                let u = calm m r (told m is r) in
                heard (hears.received z there p.sound plain u.1 u.0)

      -- a session that begins asks nothing
      begun_rests : (f b : Association) → f.session ≡ None → Takes k.renew now i f b → (y : ClientSession) (q : Request) → b.session ≡ Some y →
          y.requests.asked ≡ Some q → ⊥
      begun_rests f b none (IsLeft quiet sv l g alike) y q e r = some_none y (sym (subst (λ o. Alike o b.session) none alike) ∙ e)
      begun_rests f b none (IsHeard m is hears sv l) y q e r = by (hears.meets none)
        where
          by : Meets k.renew now m f b → ⊥
          by (Unmet u v w) = some_none y (sym u ∙ e)
          by (Met u got welcome fresh v is_new) = some_none q (sym is_new.rests ∙ ap (λ (v : ClientSession). v.requests.asked) (some_is (sym v ∙ e)) ∙ r)

      module _ (b : Association) (v : W a b) (at_b : b.server ≡ s) where
        over_or_not : (o : Bool) → is_ended k now a.session ≡ o → (y : ClientSession) (q : Request) → v.second.session ≡ Some y →
            y.requests.asked ≡ Some q → (v.first ≡ a) × WasSent y q
        over_or_not true o y q e f = absurd (begun_rests v.first v.second (v.loses.lost o).1 v.takes y q e f)
        over_or_not false o y q e f =
            (same, by a.session refl)
          where
            same : v.first ≡ a
            same = v.loses.lasts o

            takes : Takes k.renew now i a v.second
            takes = subst (λ f. Takes k.renew now i f v.second) same v.takes

            by : (u : Option ClientSession) → a.session ≡ u → WasSent y q
            by None r = absurd (begun_rests a v.second r takes y q e f)
            by (Some z) r = left_sent z r v.second takes y q e f

        -- the outstanding request is among what was sent
        sent_after : SentIn (λ m. Has m ns) c s b.life.0 (view b.session)
        sent_after = go b.session refl
          where
            -- it was sent before the step
            before : (z : ClientSession) (q : Request) → b.session ≡ Some z → z.requests.asked ≡ Some q → (y : ClientSession) →
                v.second.session ≡ Some y → y.requests ≡ z.requests → y.epoch ≡ z.epoch →
                WorksAt now v.second b ⊎ LeavesAt v.second b → IsSent (λ m. Has m ns) c s b.life.0 z.epoch.0 (Some q)
            before z q e f y g r u (inr l) = some_none z (sym l.none ∙ e)
            before z q e f y g r u (inl o) =
                let i = over_or_not (is_ended k now a.session) refl y q g (ap (λ (v : cs.Requests). v.asked) r ∙ f) in
                let same : a.life ≡ b.life = sym (o.life ∙ taken_life v.first v.second v.takes ∙ ap (λ (v : Association). v.life) i.0) in
                subst (λ (v : Words.Epoch). IsSent (λ m. Has m ns) c s b.life.0 v.0 (Some q)) u
                (subst (λ (l : Life). IsSent (λ m. Has m ns) c s l.0 y.epoch.0 (Some q)) same (i.1.0, more i.1.0 i.1.1, i.1.2))

            asked : (z : ClientSession) (q : Request) → b.session ≡ Some z → z.requests.asked ≡ Some q → Asked Said id v.second.session b z q →
                IsSent (λ m. Has m ns) c s b.life.0 z.epoch.0 (Some q)
            asked z q e f (Earlier y g r u) = before z q e f y g r u v.passes.goes
            asked z q e f (IsNow m h from to life epoch number) = (
              m,
              said m h,
              record {
                between = (from ∙ id_is, to ∙ ap (λ (y : ServerId). server_node y) at_b);
                of_life = life;
                of_epoch = epoch;
                under = number;
              },
            )

            by : (z : ClientSession) → b.session ≡ Some z → (o : Option Request) → z.requests.asked ≡ o → IsSent (λ m. Has m ns) c s b.life.0 z.epoch.0 o
            by z e None f = tt
            by z e (Some q) f = asked z q e f (v.passes.asked z q e f)

            go : (o : Option ClientSession) → b.session ≡ o → SentIn (λ m. Has m ns) c s b.life.0 (view o)
            go None e = tt
            go (Some z) e = by z e z.requests.asked refl

    -- All associations.
    module _ (before after : List Association) (pairs : Pairwise W before after)
        (sends : (m : Message) → Said m → (IsSeen m.body × (m.header.number ≡ 0)) ⊎ ((b : Association) × Has b after × IsSpoken id now b m))
        (of : (m : Message) → Said m → (b : Association) × (Has b after × IsSigned id b m))
        (once : (a b : Association) → Has a after → Has b after → a.server.0 ≡ b.server.0 → a ≡ b)
        (talks : (a : Association) → Has a before → a.server ≡ s → (since : ℕ) × TalksSince since past ms n now.0 a)
        (young : (a : Association) → Has a before → (z : ClientSession) → a.session ≡ Some z → z.lease.condemned ≡ false → z.requests.asked ≡ None →
        now.0 < z.lease.date.0 + k.renew + gap)
        (numbers : (a : Association) → Has a before → a.server ≡ s → Numbers (λ m. Has m ms) c s a.life.0 (view a.session))
        (resting : (a : Association) → Has a before → Resting a) where
      back : (b : Association) → Has b after → (a : Association) × Has a before × W a b
      back = numbering.back k c s id now i Said before after pairs

      was_at : (a b : Association) (v : W a b) → b.server ≡ s → a.server ≡ s
      was_at = numbering.was_at k c s id now i Said before after pairs

      -- the numbers after the step
      pub numbers_then : (b : Association) → Has b after → b.server ≡ s → Numbers (λ m. Has m ns) c s b.life.0 (view b.session)
      numbers_then b h at_b =
          numbers_after c s ms ns b place n0.one (λ m j y. came m y (new m j))
          (sent_after a at_a (talks a ha at_a).0 (talks a ha at_a).1 n0 b v at_b)
        where
          a : Association
          a = (back b h).0

          ha : Has a before
          ha = (back b h).1

          v : W a b
          v = (back b h).2

          at_a : a.server ≡ s
          at_a = was_at a b v at_b

          n0 : Numbers (λ m. Has m ms) c s a.life.0 (view a.session)
          n0 = numbers a ha at_a

          place : Place ms c s b.life.0 (view b.session)
          place =
              numbering.place_then k c s id now i Said before after pairs ms a b v at_b
              (record { lives = n0.lives; placed = n0.placed; counts = n0.counts; plain = (resting a ha).1 })

          came : (m : Message) → Between c s m → Has m ms ⊎ IsNew c x ns now.0 Said m → Has m ms ⊎ IsFromStep b m
          came m y (inl j) = inl j
          came m y (inr z) = inr (numbering.from_step k c s id now i Said before after pairs sends of once b h at_b m z.among y)

      abbrev Source : Association → Type 0
      Source b =
          standing.Source (settings k) c s gap d (client_clock c) d few past x w ns more keeps now clock in_time begun now.0 clock k i Said new brings
          deaf_server n b

      source : (b : Association) → Has b after → b.server ≡ s → Source b
      source b h at_b = goes v.passes.goes (is_ended k now a.session) refl
        where
          a : Association
          a = (back b h).0

          ha : Has a before
          ha = (back b h).1

          v : W a b
          v = (back b h).2

          at_a : a.server ≡ s
          at_a = was_at a b v at_b

          since : ℕ
          since = (talks a ha at_a).0

          t : TalksSince since past ms n now.0 a
          t = (talks a ha at_a).1

          n0 : Numbers (λ m. Has m ms) c s a.life.0 (view a.session)
          n0 = numbers a ha at_a

          never_ended : is_ended k now None ≡ true → ⊥
          never_ended q = cc

          -- nobody talked to the next life
          unheard : (e : Association) → e.life.0 ≡ a.life.0 + 1 → e.session ≡ None → (m : Message) → i ≡ inputs.Control m →
              m.header.from ≡ server_node s → m.header.life ≡ e.life.0 → IsUnasked m
          unheard e up none m is from life =
              standing.unheard (settings k) c s gap d (client_clock c) d few past x w ns more keeps now clock in_time begun now.0 clock k i Said new brings
              deaf_server n a e since at_a t n0 up none i refl brings m is from life

          next : (e : Association) → e.life.0 ≡ a.life.0 + 1 → e.session ≡ None → e.server ≡ s → Walk k k.renew now i e b → Source b
          next e up none at_e walk =
              standing.next_source (settings k) c s gap d (client_clock c) d few past x w ns more keeps now clock in_time begun now.0 clock k i Said new brings
              deaf_server n a e since at_a t n0 up none b at_e walk

          goes : WorksAt now v.second b ⊎ LeavesAt v.second b → (o : Bool) → is_ended k now a.session ≡ o → Source b
          goes (inl y) false o =
              record {
                from = a;
                walk = walk_of k id now i Said a b v y;
                ongoing = o;
                at = at_a;
                since = since;
                talk = t;
                young = young a ha;
                numbers = n0;
              }
          goes (inl y) true o =
              let z = v.loses.lost o in
              next v.first z.0 z.1 (v.loses.server ∙ at_a) (record {
                first = v.first;
                second = v.second;
                stays = refl;
                lasts = λ e. refl;
                lost = λ e. absurd (not_both (is_ended k now v.first.session) e v.loses.going);
                going = v.loses.going;
                takes = v.takes;
                server = v.passes.server;
                life = y.life;
                session = y.session;
                greeting = y.greeting;
              })
          goes (inr y) true o = absurd (gone v.second.session refl)
            where
              z : (v.first.life.0 ≡ a.life.0 + 1) × (v.first.session ≡ None)
              z = v.loses.lost o

              none : Takes k.renew now i v.first v.second → (u : ClientSession) → v.second.session ≡ Some u → ⊥
              none (IsLeft quiet sv l g alike) u e = some_none u (sym (subst (λ p. Alike p v.second.session) z.1 alike) ∙ e)
              none (IsHeard m is hears sv l) u e = by (hears.meets z.1)
                where
                  by : Meets k.renew now m v.first v.second → ⊥
                  by (Unmet p q r) = some_none u (sym p ∙ e)
                  by (Met p got welcome fresh q r) =
                      welcome_asked m welcome
                      (unheard v.first z.0 z.1 m is (got.from ∙ ap (λ (y : ServerId). server_node y) (v.loses.server ∙ at_a)) got.life)

              gone : (p : Option ClientSession) → v.second.session ≡ p → ⊥
              gone None q = no (ap is_some (sym q) ∙ y.was)
                where
                  no : ◌≡◌ {A = Bool} false true → ⊥
                  no r = cc
              gone (Some u) q = none v.takes u q
          goes (inr y) false o =
              next (emptied_at a b.life) up refl at_a (record {
                first = emptied_at a b.life;
                second = emptied_at a b.life;
                stays = refl;
                lasts = λ e. refl;
                lost = λ e. absurd (never_ended e);
                going = refl;
                takes = takes_nothing k.renew now i (emptied_at a b.life) refl refl;
                server = v.passes.server ∙ (was_second v.first v.second v.takes) ∙ v.loses.server;
                life = refl;
                session = y.none;
                greeting = λ e. absurd (no e);
              })
            where
              no : ◌≡◌ {A = Bool} false true → ⊥
              no r = cc

              was_second : (f g : Association) → Takes k.renew now i f g → g.server ≡ f.server
              was_second f g (IsLeft quiet sv l h alike) = sv
              was_second f g (IsHeard m is hears sv l) = sv

              up : b.life.0 ≡ a.life.0 + 1
              up =
                  y.life
                  ∙ ap (λ (l : Life). l.0 + 1) (taken_life v.first v.second v.takes ∙ ap (λ (z : Association). z.life) (v.loses.lasts o))

      pub talks_then : (b : Association) → Has b after → b.server ≡ s → (since : ℕ) × TalksSince since (past ++ x ∷ []) ns n now.0 b
      talks_then b h at_b =
          let g = standing.goes_on (settings k) c s gap d (client_clock c) d few past x w ns more keeps now clock in_time begun now.0 clock k i Said new brings
          deaf_server n after why source numbers_then once b h at_b in
          (g.since, g.known)
        where
          why : (m : Message) → Said m → IsSeen m.body ⊎ ((r : Association) × Has r after × IsSentBy r m)
          why m h = go (sends m h)
            where
              go : (IsSeen m.body × (m.header.number ≡ 0)) ⊎ ((r : Association) × Has r after × IsSpoken id now r m) →
                  IsSeen m.body ⊎ ((r : Association) × Has r after × IsSentBy r m)
              go (inl z) = inl z.0
              go (inr (r, l, o)) = inr (r, l, o.by)
