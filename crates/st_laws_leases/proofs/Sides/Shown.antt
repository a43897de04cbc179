-- Each date of the history was shown to the association of its client and its server.
use Rattle.st_lemmas.proofs.Words
use Words.{◌≡◌, ℕ, ◌+◌, Bool, true, false, not, ◌==◌, List, [], ◌∷◌, refl, ap, ◌∙◌, subst, if◌then◌else◌, Body, Why}
use Words.bodies as bd
use Words.why
use Words.Dating.{refuses_client}
use Words.History.{LeaseDate}
use Words.World.{World}
use Rattle.st_base.specs.Mode.{number_of}
use Rattle.st_protocol.specs.Assoc as net
use Rattle.st_protocol.specs.Assoc.{In, Msg, msg}
use Rattle.st_laws_refine.specs.Views.Messages.{Shows, refusal, shown, with_date}
use Rattle.st_laws_leases.specs.History.Replies.{DatesReplied, Replied, renews_lease}
use Rattle.st_laws_refine.specs.Server.Pair.{DatesShown, Wires}

-- a body that renews, among those that are shown
pub record Renewal (life epoch stamp : ℕ) (N : List Msg) : Type 0 where
  pub body : net.Body
  pub renews : net.renews body ≡ true
  pub is : In (msg life epoch stamp body) N

module _ (life epoch stamp : ℕ) (N : List Msg) where
  ack : (bs : List net.Body) → Shows life epoch stamp (net.Ack ∷ bs) N → Renewal life epoch stamp N
  ack bs h = record { body = net.Ack; renews = refl; is = h.one }

  refused : (w : Why) → not (refuses_client w) ≡ true → Shows life epoch stamp (refusal w) N → Renewal life epoch stamp N
  refused why.Suspect e h = cc
  refused why.NoSession e h = cc
  refused why.OtherEpoch e h = cc
  refused why.Grace e h = cc
  refused why.GraceOver e h = cc
  refused why.Conflict e h = cc
  refused why.NotHolder e h = ack [] h
  refused why.NoFile e h = ack [] h
  refused why.NoSpace e h = ack [] h
  refused why.TooManyLocks e h = ack [] h

  -- what renews a lease shows a renewal
  pub renewal : (n : ℕ) (b : Body) → renews_lease n b ≡ true → Shows life epoch stamp (shown n b) N → Renewal life epoch stamp N
  unfolding with_date
  renewal n bd.Welcome e h = record { body = net.Welcome; renews = refl; is = h.one }
  renewal n bd.Ack e h = ack [] h
  renewal n (bd.Nack w a b) e h = refused w e h
  renewal n (bd.Granted ino g mode) e h = dated (n == 0) e h
    where
      dated : (z : Bool) → not z ≡ true → Shows life epoch stamp (if z then net.Granted ino g.0 (number_of mode) ∷ [] else net.Ack ∷ net.Granted ino g.0 (number_of mode) ∷ []) N → Renewal life epoch stamp N
      dated true e h = cc
      dated false e h = ack (net.Granted ino g.0 (number_of mode) ∷ []) h
  renewal n (bd.Queued ino mode) e h = ack [] h
  renewal n (bd.Extents ino rows) e h = ack [] h
  renewal n (bd.Named reply) e h = ack [] h
  renewal n bd.Reasserted e h = ack (net.Reasserted ∷ []) h
  renewal n bd.Hello e h = cc
  renewal n bd.KeepAlive e h = cc
  renewal n (bd.Acquire i m) e h = cc
  renewal n (bd.Released i g to) e h = cc
  renewal n (bd.Map i g p) e h = cc
  renewal n (bd.Allocate i g p c) e h = cc
  renewal n (bd.Cut i g p) e h = cc
  renewal n (bd.Name op) e h = cc
  renewal n (bd.Reassert rows) e h = cc
  renewal n (bd.DemandSeen i g) e h = cc
  renewal n (bd.Demand i g to) e h = cc
  renewal n b e h = cc

-- the dates of the history that are of replies, at one server
pub dates_shown : (lease c s : ℕ) (w : World) (N : List Msg) (ds : List LeaseDate) → Wires c s w.net.messages N → DatesReplied lease w.net.messages ds → DatesShown lease c s ds N
dates_shown lease c s w N ds wires replied d h ec es =
    let r = replied d h in
    let z = (wires r.by r.among).to_client (r.from ∙ ap (λ n. 32768 + n) es) (r.to ∙ ec) in
    let y = renewal r.by.message.header.life r.by.message.header.epoch r.by.message.header.stamp N r.by.message.header.number r.by.message.body r.renews z.all in
    record {
      stamp = r.by.message.header.stamp;
      body = y.body;
      dates = y.renews;
      is = is_there r y;
      ends = r.ends;
    }
  where
    is_there : (r : Replied lease w.net.messages d) (y : Renewal r.by.message.header.life r.by.message.header.epoch r.by.message.header.stamp N) → In (msg d.life.0 d.epoch.0 r.by.message.header.stamp y.body) N
    is_there r y = subst (λ l. In (msg l d.epoch.0 r.by.message.header.stamp y.body) N) r.of_life (subst (λ e. In (msg r.by.message.header.life e r.by.message.header.stamp y.body) N) r.of_epoch y.is)
