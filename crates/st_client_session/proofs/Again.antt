-- The outstanding request is sent once more.
use Rattle.st_lemmas.proofs.Words
use Words.{◌≡◌, Bool, true, false, refl, sym, ap, subst, ◌∙◌, Option, Some, None, if◌then◌else◌, Epoch, Life, Stamp, Message, Request}
use Words.ClientState.{ClientSession, asked_again, is_again_due}
use Rattle.st_lease_client.specs.ServerLease.{ServerLease}
use Rattle.st_lock_cache.specs.Calls.{ServerLocks}
use Rattle.st_requests.specs.ServerRequests as shown
use Rattle.st_requests.specs.ServerRequests.{ServerRequests, again, again_if_due, again_of, leaves_again, not_again, sent_again}
use Rattle.st_client_session.specs.Sessions.{Again, IsSession, Parties, ServerSession, under_of}

some_is : {x y : Message} → Some x ≡ Some y → x ≡ y
some_is e = cc

-- what asking again says of the message and of the requests
abbrev pub Asks : Life → Epoch → ServerRequests → ServerRequests → Option Message → Stamp → Option Request → Type 0
Asks life epoch r new None now None = new ≡ r
Asks life epoch r new (Some m) now None = ⊥
Asks life epoch r new None now (Some q) = (is_again_due r.retry now q ≡ false) × (new ≡ r)
Asks life epoch r new (Some m) now (Some q) =
    (is_again_due r.retry now q ≡ true) × (m ≡ shown.message r.client r.server (record { life = life; epoch = epoch }) q.number q.body now)
    × (new ≡ record r { requests = asked_again q now r.requests })

pub asks_again : (life : Life) (epoch : Epoch) (r new : ServerRequests) (m : Option Message) (now : Stamp) → r.under ≡ under_of life epoch r.requests.asked →
    leaves_again m new ≡ again r now → Asks life epoch r new m now r.requests.asked
unfolding again again_of again_if_due sent_again
asks_again life epoch r new m now u e = by r.requests.asked (e ∙ ap (λ o. again_of r o r.requests.asked now) u)
  where
    due : (q : Request) (b : Bool) → is_again_due r.retry now q ≡ b → (m : Option Message) →
        leaves_again m new ≡ (if b then sent_again r (record { life = life; epoch = epoch }) q now else not_again r) → Asks life epoch r new m now (Some q)
    due q true d None e = let c = ap (λ a. a.message) e in cc
    due q true d (Some n) e = let c = ap (λ a. a.message) e in (d, some_is c, ap (λ a. a.requests) e)
    due q false d None e = (d, ap (λ a. a.requests) e)
    due q false d (Some n) e = let c = ap (λ a. a.message) e in cc

    none : (m : Option Message) → leaves_again m new ≡ not_again r → Asks life epoch r new m now None
    none None e = ap (λ a. a.requests) e
    none (Some n) e = let c = ap (λ a. a.message) e in cc

    by : (o : Option Request) → leaves_again m new ≡ again_of r (under_of life epoch o) o now → Asks life epoch r new m now o
    by None e = none m e
    by (Some q) e = due q (is_again_due r.retry now q) refl m e

-- the invariant of a session holds after that
pub session_again : (life : Life) (epoch : Epoch) (date : Stamp) (condemned : Bool) (lease : ServerLease) (r new : ServerRequests) (locks : ServerLocks) (m : Option Message) (now : Stamp) →
    Asks life epoch r new m now r.requests.asked → IsSession life epoch date condemned lease r locks → IsSession life epoch date condemned lease new locks
session_again life epoch date condemned lease r new locks m now a i = by m r.requests.asked i.under a
  where
    by : (m : Option Message) (o : Option Request) → r.under ≡ under_of life epoch o → Asks life epoch r new m now o → IsSession life epoch date condemned lease new locks
    by None None u e = subst (λ (z : ServerRequests). IsSession life epoch date condemned lease z locks) (sym e) i
    by (Some n) None u e = elim e [ ]
    by None (Some q) u e = subst (λ (z : ServerRequests). IsSession life epoch date condemned lease z locks) (sym e.1) i
    by (Some n) (Some q) u e =
        subst (λ (z : ServerRequests). IsSession life epoch date condemned lease z locks) (sym e.2)
        (record { held = i.held; asked_there = i.asked_there; locked_there = i.locked_there; retries = i.retries; under = u })

-- and what is returned is what the session's parties say
pub told_again : (of : Parties) (s : ClientSession) (r new : ServerRequests) (m : Option Message) (now : Stamp) (o : Option Request) →
    r.client ≡ of.client → r.server ≡ of.server → r.retry ≡ of.config.retry → r.requests ≡ s.requests → Asks of.life s.epoch r new m now o →
    Again (record { of = of; session = s }) (record { of = record of { client = new.client }; session = record s { requests = new.requests } }) m now o
told_again of s r new m now o c v t q a = by m o a
  where
    shown_of : ServerSession
    shown_of = record { of = of; session = s }

    shown_with : ServerRequests → ServerSession
    shown_with z = record { of = record of { client = z.client }; session = record s { requests = z.requests } }

    same : shown_with r ≡ shown_of
    same = λ i. record { of = record of { client = c i }; session = record s { requests = q i } }

    by : (m : Option Message) (o : Option Request) → Asks of.life s.epoch r new m now o → Again shown_of (shown_with new) m now o
    by None None e = (λ i. record { of = record of { client = (e i).client }; session = record s { requests = (e i).requests } }) ∙ same
    by (Some n) None e = elim e [ ]
    by None (Some x) e =
        record {
          early = (λ i. is_again_due (sym t i) now x) ∙ e.0;
          same = (λ i. record { of = record of { client = (e.1 i).client }; session = record s { requests = (e.1 i).requests } }) ∙ same;
        }
    by (Some n) (Some x) e =
        record {
          due = (λ i. is_again_due (sym t i) now x) ∙ e.0;
          told = e.1 ∙ (λ i. shown.message (c i) (v i) (record { life = of.life; epoch = s.epoch }) x.number x.body now);
          left =
              (λ i. record { of = record of { client = (e.2 i).client }; session = record s { requests = (e.2 i).requests } })
              ∙ (λ i. record { of = record of { client = c i }; session = record s { requests = asked_again x now (q i) } });
        }
