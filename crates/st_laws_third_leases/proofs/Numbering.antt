-- The numbers of a client's requests after a step of the third form: what the step sent to the server has no number, or asks what is outstanding.
use Rattle.st_lemmas.proofs.Words
use Words.{◌≡◌, ℕ, ◌≤◌, ◌⊎◌, List, Option, Some, None, sym, ◌∙◌, subst, inl, inr, arith, ClientId, Message, Request, ServerId, Stamp}
use Words.ClientState.{Association, ClientSession, Requests}
use Words.Lists.{Has}
use Words.{ap, ClientInput, Config}
use Words.Keys.{server_node}
use Rattle.st_laws_steps.specs.Lives.Lives.{Pairwise}
use Rattle.st_laws_steps.proofs.Client.Stepping.{pairs_has}
use Rattle.st_laws_third_leases.proofs.Signing.{IsSigned}
use Rattle.st_laws_healthy.proofs.Taking.{IsSeen}
use Rattle.st_laws_healthy.proofs.Walking.{IsHeard, IsLeft, Takes}
use Rattle.st_laws_third_leases.proofs.Stepping.{ThirdWalk}
use Rattle.st_laws_healthy.proofs.Passing.{ByGreeting, ByRequest, SentBy}
use Rattle.st_laws_requests.specs.Cuts.Cuts.{Between, Counts, Given, Numbers, OneBody, Placed, SameBody, SentIn, view}
use Rattle.st_laws_third_leases.proofs.Placing.{Place}
use Rattle.st_laws_third_leases.proofs.Requesting.{IsSpoken}

-- a message asks the request that is outstanding at this association
pub record IsAskedBy (b : Association) (m : Message) : Type 0 where
  pub session : ClientSession
  pub request : Request
  pub there : b.session ≡ Some session
  pub asked : session.requests.asked ≡ Some request
  pub number : m.header.number ≡ request.number
  pub body : m.body ≡ request.body
  pub epoch : m.header.epoch ≡ session.epoch.0
  pub life : m.header.life ≡ b.life.0

pub spoken_as : (id : ClientId) (now : Stamp) (b : Association) (m : Message) → IsSpoken id now b m → (m.header.number ≡ 0) ⊎ IsAskedBy b m
spoken_as id now b m p = by p.by.cause
  where
    by : SentBy b m → (m.header.number ≡ 0) ⊎ IsAskedBy b m
    by (ByGreeting e none g) = inl (p.plain none)
    by (ByRequest z q e f number body) =
        inr (record { session = z; request = q; there = e; asked = f; number = number; body = body; epoch = p.epoch z e; life = p.by.life })

-- what has no number is placed in any session
none_placed : (v : Option (ℕ × Requests)) (life : ℕ) (m : Message) → m.header.number ≡ 0 → Placed life v m
none_placed None life m e = λ l. e
none_placed (Some v) life m e = λ l i. absurd (omega (arith, e, i))

-- What is known of a message that the step sent to the server.
pub record IsFromStep (b : Association) (m : Message) : Type 0 where
  pub life : m.header.life ≤ b.life.0
  pub why : (m.header.number ≡ 0) ⊎ IsAskedBy b m

module _ (c : ClientId) (s : ServerId) (ms ns : List Message) (b : Association) (place : Place ms c s b.life.0 (view b.session))
    (one : OneBody (λ m. Has m ms) c s) (new : (m : Message) → Has m ns → Between c s m → Has m ms ⊎ IsFromStep b m) where
  asked_placed : (m : Message) → IsAskedBy b m → Placed b.life.0 (view b.session) m
  asked_placed m y =
      subst (λ o. Placed b.life.0 (view o) m) (sym y.there)
      (λ l i. record {
        up_to = let e = y.epoch in omega (arith, e);
        below = λ e. let g = given.1 in let n = y.number in omega (arith, g, n);
        same = λ e. subst (λ o. SameBody o m) (sym y.asked) (λ f. y.body);
      })
    where
      given : Given y.session.requests.next (Some y.request)
      given = subst (Given y.session.requests.next) y.asked (subst (λ o. Counts (view o)) y.there place.counts).1

  placed : (m : Message) → Has m ns → Between c s m → Placed b.life.0 (view b.session) m
  placed m h x = go (new m h x)
    where
      why : (m.header.number ≡ 0) ⊎ IsAskedBy b m → Placed b.life.0 (view b.session) m
      why (inl e) = none_placed (view b.session) b.life.0 m e
      why (inr y) = asked_placed m y

      go : Has m ms ⊎ IsFromStep b m → Placed b.life.0 (view b.session) m
      go (inl i) = place.placed m i x
      go (inr y) = why y.why

  -- a message under the number of one that asks has its body
  body_is : (w : Message) (y : IsAskedBy b w) (m : Message) → Has m ns → Between c s m → m.header.life ≡ w.header.life → m.header.epoch ≡ w.header.epoch →
      m.header.number ≡ w.header.number → 1 ≤ m.header.number → m.body ≡ y.request.body
  body_is w y m h x l e n pos =
      subst (λ o. SameBody o m) y.asked
      ((subst (λ o. Placed b.life.0 (view o) m) y.there (placed m h x) (l ∙ y.life) pos).same (e ∙ y.epoch)) (n ∙ y.number)

  pub one_body : OneBody (λ m. Has m ns) c s
  one_body m p h i x y l e n pos = go (new m h x) (new p i y)
    where
      pos2 : 1 ≤ p.header.number
      pos2 = omega (arith, n, pos)

      first : IsAskedBy b m → m.body ≡ p.body
      first z = z.body ∙ sym (body_is m z p i y (sym l) (sym e) (sym n) pos2)

      second : IsAskedBy b p → m.body ≡ p.body
      second z = body_is p z m h x l e n pos ∙ sym z.body

      why : (m.header.number ≡ 0) ⊎ IsAskedBy b m → m.body ≡ p.body
      why (inl f) = absurd (omega (arith, f, pos))
      why (inr z) = first z

      why2 : (p.header.number ≡ 0) ⊎ IsAskedBy b p → m.body ≡ p.body
      why2 (inl f) = absurd (omega (arith, f, pos2))
      why2 (inr z) = second z

      go : Has m ms ⊎ IsFromStep b m → Has p ms ⊎ IsFromStep b p → m.body ≡ p.body
      go (inl a) (inl z) = one m p a z x y l e n pos
      go (inr z) q = why z.why
      go (inl a) (inr z) = why2 z.why

  lives : (m : Message) → Has m ns → Between c s m → m.header.life ≤ b.life.0
  lives m h x = go (new m h x)
    where
      go : Has m ms ⊎ IsFromStep b m → m.header.life ≤ b.life.0
      go (inl i) = place.lives m i x
      go (inr y) = y.life

  pub place_after : Place ns c s b.life.0 (view b.session)
  place_after = record { lives = lives; placed = placed; counts = place.counts; plain = place.plain }

  pub numbers_after : SentIn (λ m. Has m ns) c s b.life.0 (view b.session) → Numbers (λ m. Has m ns) c s b.life.0 (view b.session)
  numbers_after sent = record { lives = lives; placed = placed; one = one_body; sent = sent; counts = place.counts }

-- A step of a client: the associations with the server, and what it sent to the server.
module _ (k : Config) (c : ClientId) (s : ServerId) (id : ClientId) (now : Stamp) (i : ClientInput) (Said : Message → Type 0) (before after : List Association)
    (pairs : Pairwise (ThirdWalk k id now i Said) before after) where
  abbrev W : Association → Association → Type 0
  W a b = ThirdWalk k id now i Said a b

  -- an association is at the server if it was there
  pub was_at : (a b : Association) (v : W a b) → b.server ≡ s → a.server ≡ s
  was_at a b v at = sym (v.passes.server ∙ taken v.first v.second v.takes ∙ v.loses.server) ∙ at
    where
      taken : (f g : Association) → Takes k.renew now i f g → g.server ≡ f.server
      taken f g (IsLeft quiet sv l h alike) = sv
      taken f g (IsHeard m is hears sv l) = sv

  pub back : (b : Association) → Has b after → (a : Association) × Has a before × W a b
  back = pairs_has W (λ a. Has a before) (λ b. (a : Association) × Has a before × W a b) (λ a b r h. (a, h, r)) before after pairs (λ a h. h)

  -- the place that it had
  pub place_then : (ms : List Message) (a b : Association) (v : W a b) → b.server ≡ s → Place ms c s a.life.0 (view a.session) →
      Place ms c s b.life.0 (view b.session)
  place_then ms a b v at p =
      subst (λ y. Place ms c y b.life.0 (view b.session)) at
      (v.places ms c (subst (λ y. Place ms c y a.life.0 (view a.session)) (sym (was_at a b v at)) p))

  module _ (sends : (m : Message) → Said m → (IsSeen m.body × (m.header.number ≡ 0)) ⊎ ((b : Association) × Has b after × IsSpoken id now b m))
      (of : (m : Message) → Said m → (b : Association) × (Has b after × IsSigned id b m))
      (once : (a b : Association) → Has a after → Has b after → a.server.0 ≡ b.server.0 → a ≡ b) where
    -- the one at a server
    at_one : (r b : Association) → Has r after → Has b after → b.server ≡ s → (m : Message) → m.header.to ≡ server_node r.server → Between c s m → r ≡ b
    at_one r b j h at_b m to y =
        once r b j h
        (let u = y.1 in let e = ap (λ (i : ServerId). i.0) at_b in let g : r.server.0 ≡ b.server.0 = omega (arith, to, u, e) in g)

    pub from_step : (b : Association) → Has b after → b.server ≡ s → (m : Message) → Said m → Between c s m → IsFromStep b m
    from_step b h at_b m j y = record { life = life (of m j); why = why (sends m j) }
      where
        life : ((r : Association) × (Has r after × IsSigned id r m)) → m.header.life ≤ b.life.0
        life (r, p) = subst (λ (v : Association). m.header.life ≤ v.life.0) (at_one r b p.0 h at_b m p.1.to y) p.1.life

        why : (IsSeen m.body × (m.header.number ≡ 0)) ⊎ ((r : Association) × Has r after × IsSpoken id now r m) → (m.header.number ≡ 0) ⊎ IsAskedBy b m
        why (inl z) = inl z.1
        why (inr (r, l, o)) = spoken_as id now b m (subst (λ v. IsSpoken id now v m) (at_one r b l h at_b m o.by.to y) o)
