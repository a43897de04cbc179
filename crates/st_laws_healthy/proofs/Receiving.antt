-- What a message of the server does to a session that is not condemned and not due: it ends the outstanding request, if it counts for it, or it leaves
-- the epoch, the requests and the lease.
use Rattle.st_lemmas.proofs.Words
use Words.{◌≡◌, ℕ, ◌≤◌, Bool, true, false, ◌==◌, refl, sym, ap, ◌∙◌, subst, arith, if◌then◌else◌, not, nat_lt, Option, Some, None, eqb-true, ltb-true, GrantNo}
use Words.{Stamp, Mode, Header, Body, Why, Asked, Request}
use Words.modes
use Words.bodies
use Words.why
use Words.ClientLocks as locks
use Words.ClientReplies as cr
use Words.ClientState.{ClientSession, Turn, fits, forget_wait, reasserts, send, with_cache, with_release}
use Words.Tables.{and_true, cond_either}
use Rattle.st_rules.specs.declared.client.Asked.TheVariants.{Reduce, NotHeld, Stale}
use Rattle.st_laws_healthy.proofs.Counting.{IsEnded, replied_ends}
use Rattle.st_laws_healthy.proofs.Queues.{Longer, More, Same}
use Rattle.st_laws_healthy.proofs.Replies.{counts_for}

-- a session whose epoch, requests and lease are these, and that is not due anew
pub record Follows (s : ClientSession) (o : Option ClientSession) : Type 0 where
  pub session : ClientSession
  pub is : o ≡ Some session
  pub epoch : session.epoch ≡ s.epoch
  pub requests : session.requests ≡ s.requests
  pub lease : session.lease ≡ s.lease
  pub due : session.due ≡ s.due
  pub releases : Longer s.releases session.releases

pub follows_self : (s : ClientSession) → Follows s (Some s)
follows_self s = record { session = s; is = refl; epoch = refl; requests = refl; lease = refl; due = refl; releases = Same }

follows_grant : (s : ClientSession) (ino : ℕ) (g : GrantNo) (mode : Mode) → Follows s (Some (cr.grant (forget_wait ino s) ino g mode))
unfolding cr.grant cr.grant_new cr.accept_grant cr.decline
follows_grant s ino g mode =
    let u = forget_wait ino s in
    cond_either (λ (z : ClientSession). Follows s (Some z)) (locks.is_above_seen u.locks ino g) (cr.grant_new u ino g mode) u
    (λ e. cond_either (λ (z : ClientSession). Follows s (Some z)) (locks.has_place u.locks ino) (cr.accept_grant u ino g mode) (cr.decline u ino g)
    (λ f. record { session = cr.accept_grant u ino g mode; is = refl; epoch = refl; requests = refl; lease = refl; due = refl; releases = Same })
    (λ f. record {
      session = cr.decline u ino g;
      is = refl;
      epoch = refl;
      requests = refl;
      lease = refl;
      due = refl;
      releases = More s.releases (record { ino = ino; g = g; to = modes.None }) Same;
    }))
    (λ e. record { session = u; is = refl; epoch = refl; requests = refl; lease = refl; due = refl; releases = Same })

follows_demand : (t : Turn) (s : ClientSession) (ino : ℕ) (g : GrantNo) (to : Mode) → t.here.session ≡ Some s → Follows s (cr.demand t s ino g to).here.session
unfolding cr.demand cr.demand_by cr.demand_as cr.observe_demand cr.release_unheld send
follows_demand t s ino g to e = go d d.asked
  where
    d : locks.Demanding
    d = locks.demand s.locks ino g to

    go : (d : locks.Demanding) (k : Asked) → Follows s (cr.demand_as t (with_cache d.locks s) ino g k).here.session
    go d Reduce = record { session = with_cache d.locks s; is = refl; epoch = refl; requests = refl; lease = refl; due = refl; releases = Same }
    go d NotHeld =
        cond_either (λ (z : ClientSession). Follows s (Some z)) (cr.has_release (with_cache d.locks s) ino g) (with_cache d.locks s)
        (with_release ino g modes.None (with_cache d.locks s))
        (λ f. record { session = with_cache d.locks s; is = refl; epoch = refl; requests = refl; lease = refl; due = refl; releases = Same })
        (λ f. record {
          session = with_release ino g modes.None (with_cache d.locks s);
          is = refl;
          epoch = refl;
          requests = refl;
          lease = refl;
          due = refl;
          releases = More s.releases (record { ino = ino; g = g; to = modes.None }) Same;
        })
    go d Stale = subst (Follows s) (sym e) (follows_self s)

-- a refusal that condemns no lease
abbrev pub is_calm : Body → Bool
is_calm (bodies.Nack why.Suspect a b) = false
is_calm (bodies.Nack why.NoSession a b) = false
is_calm (bodies.Nack why.GraceOver a b) = false
is_calm (bodies.Nack why.Conflict a b) = false
is_calm b = true

-- a refusal that tells of another epoch
abbrev pub tells_epoch : Body → Bool
tells_epoch (bodies.Nack why.OtherEpoch a b) = true
tells_epoch b = false

-- what a message does
pub data Received (s : ClientSession) (h : Header) (b : Body) (o : Option ClientSession) : Type 0 where
  Kept : Follows s o → Received s h b o
  Ended : (q : Request) → s.requests.asked ≡ Some q → q.number ≡ h.number → counts_for q.body b ≡ true → IsEnded s h.stamp o → Received s h b o

module _ (t : Turn) (s : ClientSession) (now : Stamp) (h : Header) (there : t.here.session ≡ Some s) (sound : s.lease.condemned ≡ false)
    (plain : (q : Request) → s.requests.asked ≡ Some q → reasserts q.body ≡ false) where
  abbrev G : Body → Turn → Type 0
  G b u = Received s h b u.here.session

  still : (b : Body) → G b t
  still b = Kept (subst (Follows s) (sym there) (follows_self s))

  -- if what fits counts
  replied : (b : Body) → ((asked : Body) → fits b asked ≡ true → counts_for asked b ≡ true) → G b (cr.reply_of t s now h b)
  unfolding cr.reply_of cr.counted cr.by_request
  replied b counts = go s.requests.asked refl
    where
      count : (q : Request) → s.requests.asked ≡ Some q → (z : Bool) → cr.is_counting h.number b q ≡ z →
          G b (if z then cr.count_reply t s now (record { 0 = h.stamp }) b q.body else t)
      count q e false f = still b
      count q e true f =
          let y = and_true (q.number == h.number) (fits b q.body) f in
          let n = eqb-true q.number h.number y.0 in
          Ended q e n (counts q.body y.1) (subst (λ (u : Turn). IsEnded s h.stamp u.here.session) (same q e f)
          (replied_ends t s now h q sound e n (plain q e) b y.1))
        where
          same : (q : Request) → s.requests.asked ≡ Some q → cr.is_counting h.number b q ≡ true →
              cr.reply_of t s now h b ≡ cr.count_reply t s now (record { 0 = h.stamp }) b q.body
          same q e f =
              ap (cr.counted t s now h.number (record { 0 = h.stamp }) b) e
              ∙ ap (λ z. if z then cr.count_reply t s now (record { 0 = h.stamp }) b q.body else t) f

      go : (o : Option Request) → s.requests.asked ≡ o → G b (cr.counted t s now h.number (record { 0 = h.stamp }) b o)
      go None e = still b
      go (Some q) e = count q e (cr.is_counting h.number b q) refl

  by_nack : (w : Why) (a b : ℕ) → is_calm (bodies.Nack w a b) ≡ true → G (bodies.Nack w a b) (cr.nack t s now h w a b)
  by_nack why.OtherEpoch a b c = still (bodies.Nack why.OtherEpoch a b)
  by_nack why.Grace a b c = still (bodies.Nack why.Grace a b)
  by_nack why.NoFile a b c = replied (bodies.Nack why.NoFile a b) (λ q f. refl)
  by_nack why.TooManyLocks a b c = replied (bodies.Nack why.TooManyLocks a b) (λ q f. refl)
  by_nack why.NoSpace a b c = replied (bodies.Nack why.NoSpace a b) (λ q f. refl)
  by_nack why.NotHolder a b c = replied (bodies.Nack why.NotHolder a b) (λ q f. refl)
  by_nack w a b c = cc

  of_epoch : (b : Body) → is_calm b ≡ true → G b (cr.of_epoch t s now h b)
  unfolding cr.of_epoch cr.grant_or_reply cr.granted
  of_epoch (bodies.Nack w a b) c = by_nack w a b c
  of_epoch (bodies.Granted ino g mode) c =
      cond_either (G (bodies.Granted ino g mode)) (h.number == 0) (cr.granted t s ino g mode) (cr.reply_of t s now h (bodies.Granted ino g mode))
      (λ e. Kept (follows_grant s ino g mode)) (λ e. replied (bodies.Granted ino g mode) (λ q f. f))
  of_epoch (bodies.Demand ino g to) c = Kept (follows_demand t s ino g to there)
  of_epoch b c = replied b (λ q f. f)

  of_other : (b : Body) → (tells_epoch b ≡ true → h.epoch ≤ s.epoch.0) → G b (cr.of_other_epoch t s (record { 0 = h.epoch }) b)
  unfolding cr.of_other_epoch cr.newer_epoch
  of_other (bodies.Nack why.OtherEpoch a b) l =
      cond_either (G (bodies.Nack why.OtherEpoch a b)) (cr.is_newer s (record { 0 = h.epoch })) (cr.follow_epoch t s (record { 0 = h.epoch })) t
      (λ e. let z = and_true (nat_lt s.epoch.0 h.epoch) (not s.lease.condemned) e in
      let y = ltb-true s.epoch.0 h.epoch z.0 in let x = l refl in absurd (omega (arith, y, x))) (λ e. still (bodies.Nack why.OtherEpoch a b))
  of_other (bodies.Nack w a b) l = still (bodies.Nack w a b)
  of_other b l = still b

  -- a message that tells of no later epoch, and isn't a refusal that condemns
  pub received_is : (b : Body) → (tells_epoch b ≡ true → h.epoch ≤ s.epoch.0) → is_calm b ≡ true → G b (cr.receive_at now h b t)
  unfolding cr.receive_at cr.by_session cr.with_a_session
  received_is b l c =
      cond_either (G b) (cr.is_received t now h) (cr.by_session t now h b t.here.session) t
      (λ f. subst (λ o. G b (cr.by_session t now h b o)) (sym there)
      (cond_either (G b) (h.epoch == s.epoch.0) (cr.of_epoch t s now h b) (cr.of_other_epoch t s (record { 0 = h.epoch }) b) (λ g. of_epoch b c)
      (λ g. of_other b l))) (λ f. still b)
