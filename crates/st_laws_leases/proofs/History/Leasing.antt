-- What a client's rules note of leases: that of each session was noted with its end.
use Rattle.st_lemmas.proofs.Words
use Words.{◌≡◌, ℕ, Bool, true, false, List, [], ◌∷◌, ◌++◌, Option, Some, None, refl, sym, ap, ◌∙◌, subst, inl, inr, if◌then◌else◌, append_assoc, ◌⊎◌, map}
use Words.{Config, Tag, Epoch, FileId, GrantNo, Life, PageNo, ServerId, Stamp, Mode, AppAnswer, Ask, Body, Header, Why, Note, Output, Operation}
use Words.{LostPage, append-nil}
use Words.bodies
use Words.notes
use Words.outputs
use Words.Client as cl
use Words.ClientLease as lease
use Words.ClientLocks as locks
use Words.ClientPages.{Store}
use Words.ClientPasses as cp
use Words.ClientReplies as cr
use Words.ClientState as cs
use Words.ClientState.{ClientSession, Turn, answer_to, say, with_session, with_store, with_operations}
use Words.Dating.{may_date}
use Words.History.{epoch_at_session}
use Words.Keys.{same_server, server_node}
use Words.Leases as leases
use Words.Lists.{Has}
use Words.Lookups.{some_is}
use Words.Tables.{has_map, has_append}
use Words.answers
use Words.ClientPages as pages
use Words.Truth.{false_not_true}
use Rattle.st_laws_steps.specs.Client.Client as client
use Rattle.st_laws_steps.specs.Client.Client.{Change, ChangesPage}
use Rattle.st_laws_steps.specs.Client.Losses.{Ends, Unknown, Passes, Hardens, Fails}
use Rattle.st_laws_steps.specs.Client.Session.{SessionChange, Keeps, DropsLock, IsReasserted, EndsRequest, NewEpoch, AsksNew, AsksAgain}
use Rattle.st_laws_steps.proofs.Client.Asking.{passes_keep_or_ask}
use Rattle.st_laws_steps.proofs.Client.Calm.{IsCalm, SaysCalm}
use Rattle.st_laws_steps.proofs.Client.Losing.{Finished, calm_only, finish_is, is_done}
use Rattle.st_laws_steps.proofs.Client.Only.{Only, Goes}
use Rattle.st_laws_steps.proofs.Client.Only as only
use Rattle.st_laws_steps.proofs.Client.Passing.{FollowsBy, IsPassing, KeepsOrAsks, SaysRight}
use Rattle.st_laws_leases.specs.History.Replies.{renews_lease}
use Rattle.st_laws_leases.specs.History.Notes.{noted_one, noted}
use Rattle.st_trace.specs.Client.Losses as losing
use Rattle.st_trace.specs.Client.Losses.{Ended, Loses}
use Rattle.st_trace.specs.Client.Messages as trace
use Rattle.st_trace.specs.Client.Messages.{Effect, Grants, Receives, Refusal, Renews}
use Rattle.st_trace.proofs.Client.Losing.{loses}
use Rattle.st_trace.proofs.Client.Receiving.{receives}
use Rattle.st_trace.proofs.Client.Walk.{each_lasts}
use Rattle.st_laws_pages.proofs.Disks.Servers.{self_server}

-- What holds of a turn: the lease of its session was noted last, and nothing of other servers. the note of a lease end
abbrev pub leased : ServerId → Stamp → Output
leased s end = outputs.Note (notes.Leased s end)

-- What holds of a turn, and what is known of the lease ends that it noted: T of its own server's, B of others'.
pub record Noted (k : Config) (init base : ServerId → Option Stamp) (sv : ServerId) (T : Life → Epoch → Stamp → Type 0) (B : ServerId → Stamp → Type 0)
    (t : Turn) : Type 0 where
  pub config : t.config ≡ k
  pub server : t.here.server ≡ sv
  pub own : (x : ClientSession) → t.here.session ≡ Some x → noted t.here.server t.out (init t.here.server) ≡ Some (lease.end_of k x.lease)
  pub others : (s : ServerId) → same_server t.here.server s ≡ false → noted s t.out (init s) ≡ base s
  pub told : (end : Stamp) → Has (leased t.here.server end) t.out → T t.here.life (epoch_at_session t.here.session) end
  pub untold : (s : ServerId) → same_server t.here.server s ≡ false → (end : Stamp) → Has (leased s end) t.out → B s end

-- an output that notes no lease
abbrev pub Quiet : Output → Type 0
Quiet (outputs.Note (notes.Leased s end)) = ⊥
Quiet o = Unit {0}

pub noted_more : (s : ServerId) (xs : List Output) (x : Output) (o : Option Stamp) → noted s (xs ++ x ∷ []) o ≡ noted_one s x (noted s xs o)
unfolding noted
noted_more s [] x o = refl
noted_more s (y ∷ xs) x o = noted_more s xs x (noted_one s y o)

quiet_one : (s : ServerId) (x : Output) (o : Option Stamp) → Quiet x → noted_one s x o ≡ o
quiet_one s (outputs.Note (notes.Leased r end)) o q = absurd q
quiet_one s (outputs.Note n) o q = refl
quiet_one s x o q = refl

pub noted_quiet : (s : ServerId) (xs : List Output) (x : Output) (o : Option Stamp) → Quiet x → noted s (xs ++ x ∷ []) o ≡ noted s xs o
noted_quiet s xs x o q = noted_more s xs x o ∙ quiet_one s x (noted s xs o) q

noted_answers : (s : ServerId) (a : AppAnswer) (os : List Operation) (xs : List Output) (o : Option Stamp) → noted s
    (xs ++ map (answer_to a) os) o ≡ noted s xs o
noted_answers s a [] xs o = ap (λ z. noted s z o) (append-nil xs)
noted_answers s a (y ∷ os) xs o = ap (λ z. noted s z o) (sym (append_assoc xs (answer_to a y ∷ []) (map (answer_to a) os))) ∙ noted_answers s a os
    (xs ++ answer_to a y ∷ []) o ∙ noted_quiet s xs (answer_to a y) o tt

-- a note of a lease end is no other output
pub unsaid : (s : ServerId) (end : Stamp) (xs : List Output) (o : Output) → Quiet o → Has (leased s end) (xs ++ o ∷ []) → Has (leased s end) xs
unsaid s end xs o q h = go (has_append xs (o ∷ []) (leased s end) h)
  where
    go : Has (leased s end) xs ⊎ Has (leased s end) (o ∷ []) → Has (leased s end) xs
    go (inl i) = i
    go (inr (inl e)) = absurd (subst Quiet (sym e) q)
    go (inr (inr i)) = absurd i

unanswered : (s : ServerId) (end : Stamp) (a : AppAnswer) (os : List Operation) (xs : List Output) → Has (leased s end) (xs ++ map (answer_to a) os) → Has
    (leased s end) xs
unanswered s end a os xs h = go (has_append xs (map (answer_to a) os) (leased s end) h)
  where
    none : (y : Operation) × Has y os × (leased s end ≡ answer_to a y) → Has (leased s end) xs
    none z = absurd (subst Quiet (sym z.2) tt)

    go : Has (leased s end) xs ⊎ Has (leased s end) (map (answer_to a) os) → Has (leased s end) xs
    go (inl i) = i
    go (inr i) = none (has_map (answer_to a) os (leased s end) i)

-- the server and the end of such a note
server_in : Output → Option ServerId
server_in (outputs.Note (notes.Leased s end)) = Some s
server_in o = None

end_in : Output → Option Stamp
end_in (outputs.Note (notes.Leased s end)) = Some end
end_in o = None

module _ (k : Config) (init base : ServerId → Option Stamp) (sv : ServerId) (T : Life → Epoch → Stamp → Type 0) (B : ServerId → Stamp → Type 0) where
  abbrev pub N : Turn → Type 0
  N t = Noted k init base sv T B t

  -- the lease of this session was noted
  record HasNoted (s : ClientSession) (t : Turn) : Type 0 where
    pub config : t.config ≡ k
    pub server : t.here.server ≡ sv
    pub own : noted t.here.server t.out (init t.here.server) ≡ Some (lease.end_of k s.lease)
    pub others : (r : ServerId) → same_server t.here.server r ≡ false → noted r t.out (init r) ≡ base r
    pub told : (end : Stamp) → Has (leased t.here.server end) t.out → T t.here.life s.epoch end
    pub untold : (r : ServerId) → same_server t.here.server r ≡ false → (end : Stamp) → Has (leased r end) t.out → B r end

  has_noted_of : (t : Turn) (s : ClientSession) → t.here.session ≡ Some s → N t → HasNoted s t
  has_noted_of t s e n = record {
    config = n.config;
    server = n.server;
    own = n.own s e;
    others = n.others;
    told = λ end h. subst
        (λ o. T t.here.life (epoch_at_session o) end) e (n.told end h);
    untold = n.untold;
  }

  -- a session of the same date
  has_noted_same : (t : Turn) (s x : ClientSession) → x.lease.date ≡ s.lease.date → x.epoch ≡ s.epoch → HasNoted s t → HasNoted x t
  has_noted_same t s x e f v = record {
    config = v.config;
    server = v.server;
    own = v.own ∙ ap (λ d. Some (leases.lease_end k d)) (sym e);
    others = v.others;
    told = λ end h. subst (λ p. T t.here.life p end) (sym f) (v.told end h);
    untold = v.untold;
  }

  noted_after_session : (t : Turn) (x : ClientSession) → HasNoted x t → N (with_session x t)
  noted_after_session t x v = record {
    config = v.config;
    server = v.server;
    own = λ y e. v.own ∙ ap (λ (z : ClientSession). Some (lease.end_of k z.lease)) (some_is e);
    others = v.others;
    told = v.told;
    untold = v.untold;
  }

  noted_after_with : (t : Turn) (s x : ClientSession) → x.lease.date ≡ s.lease.date → x.epoch ≡ s.epoch → HasNoted s t → N (with_session x t)
  noted_after_with t s x e f v = noted_after_session t x (has_noted_same t s x e f v)

  noted_after_say : (t : Turn) (o : Output) → Quiet o → N t → N (say t o)
  noted_after_say t o q n =
      record {
        config = n.config;
        server = n.server;
        own = λ x e. noted_quiet t.here.server t.out o (init t.here.server) q ∙ n.own x e;
        others = λ s f. noted_quiet s t.out o (init s) q ∙ n.others s f;
        told = λ end h. n.told end (unsaid t.here.server end t.out o q h);
        untold = λ s f end h. n.untold s f end (unsaid s end t.out o q h);
      }

  noted_after_send : (t : Turn) (epoch number stamp : ℕ) (b : Body) → N t → N (cs.send t epoch number stamp b)
  unfolding cs.send
  noted_after_send t epoch number stamp b n = noted_after_say t _ tt n

  noted_after_store : (t : Turn) (st : Store) → N t → N (with_store st t)
  noted_after_store t st n = record { config = n.config; server = n.server; own = n.own; others = n.others; told = n.told; untold = n.untold }

  noted_after_operations : (t : Turn) (os : List Operation) → N t → N (with_operations os t)
  noted_after_operations t os n = record { config = n.config; server = n.server; own = n.own; others = n.others; told = n.told; untold = n.untold }

  -- operations are answered
  noted_after_told : (t : Turn) (os ops : List Operation) (a : AppAnswer) → N t → N (record t { operations = os; out = t.out ++ map (answer_to a) ops })
  noted_after_told t os ops a n =
      record {
        config = n.config;
        server = n.server;
        own = λ x e. noted_answers t.here.server a ops t.out (init t.here.server) ∙ n.own x e;
        others = λ s f. noted_answers s a ops t.out (init s) ∙ n.others s f;
        told = λ end h. n.told end (unanswered t.here.server end a ops t.out h);
        untold = λ s f end h. n.untold s f end (unanswered s end a ops t.out h);
      }

  noted_after_answers : (t : Turn) (picked : Operation → Bool) (a : AppAnswer) → N t → N (cs.answer_each picked a t)
  unfolding cs.answer_each
  noted_after_answers t picked a n = noted_after_told t _ _ a n

  -- no lease end of this server was noted yet
  abbrev pub Unnoted : Turn → Type 0
  Unnoted t = (end : Stamp) → Has (leased t.here.server end) t.out → ⊥

  has_noted_lease : (t : Turn) (l : lease.ClientLease) (x : ClientSession) → x.lease ≡ l → t.config ≡ k → Unnoted t → T t.here.life x.epoch (lease.end_of k l) →
      t.here.server ≡ sv →
      ((r : ServerId) → same_server t.here.server r ≡ false → noted r t.out (init r) ≡ base r) →
      ((r : ServerId) → same_server t.here.server r ≡ false → (end : Stamp) → Has (leased r end) t.out → B r end) → HasNoted x (cr.note_lease l t)
  unfolding cr.note_lease server_in end_in
  has_noted_lease t l x e c q g d f u =
      record {
        config = c;
        server = d;
        own = noted_more t.here.server t.out (leased t.here.server (lease.end_of t.config l)) (init t.here.server)
            ∙ ap (λ b. if b then Some (lease.end_of t.config l) else noted t.here.server t.out (init t.here.server)) (self_server t.here.server)
            ∙ ap (λ z. Some (lease.end_of z l)) c ∙ ap (λ z. Some (lease.end_of k z)) (sym e);
        others = λ r p. noted_more r t.out (leased t.here.server (lease.end_of t.config l)) (init r)
            ∙ ap (λ b. if b then Some (lease.end_of t.config l) else noted r t.out (init r)) p ∙ f r p;
        told = λ end h. mine end (has_append t.out (leased t.here.server (lease.end_of t.config l) ∷ []) (leased t.here.server end) h);
        untold = λ r p end h. other r p end (has_append t.out (leased t.here.server (lease.end_of t.config l) ∷ []) (leased r end) h);
      }
    where
      mine : (end : Stamp) → Has (leased t.here.server end) t.out ⊎ Has (leased t.here.server end) (leased t.here.server (lease.end_of t.config l) ∷ []) →
          T t.here.life x.epoch end
      mine end (inl h) = absurd (q end h)
      mine end (inr (inl z)) = subst (T t.here.life x.epoch) (ap (λ y. lease.end_of y l) (sym c) ∙ sym (some_is (ap end_in z))) g
      mine end (inr (inr h)) = absurd h

      no : (r : ServerId) → same_server t.here.server r ≡ false → r ≡ t.here.server → ⊥
      no r p z = cc (p, self_server r, z)

      other : (r : ServerId) → same_server t.here.server r ≡ false → (end : Stamp) → Has (leased r end) t.out ⊎ Has (leased r end)
          (leased t.here.server (lease.end_of t.config l) ∷ []) → B r end
      other r p end (inl h) = u r p end h
      other r p end (inr (inl z)) = absurd (no r p (some_is (ap server_in z)))
      other r p end (inr (inr h)) = absurd h

  -- Messages.
  granted_same : (s : ClientSession) (ino : ℕ) (g : GrantNo) (mode : Mode) (v : ClientSession) → Grants s ino g mode v →
      (v.lease.date ≡ s.lease.date) × (v.epoch ≡ s.epoch)
  granted_same s ino g mode _ (trace.Installs a p) = (refl, refl)
  granted_same s ino g mode _ (trace.Declines a p) = (refl, refl)
  granted_same s ino g mode _ (trace.IsOld a) = (refl, refl)

  noted_after_granted : (t : Turn) (s v : ClientSession) (ino : ℕ) (g : GrantNo) (mode : Mode) → Grants (cs.forget_wait ino s) ino g mode v → HasNoted s t →
      N (with_session v t)
  noted_after_granted t s v ino g mode x n = let z = granted_same (cs.forget_wait ino s) ino g mode v x in noted_after_with t s v z.0 z.1 n

  noted_after_refused : (t : Turn) (file : Option ℕ) (asked : Body) (y : Why) (a b : ℕ) (u : Turn) → Refusal t file asked y a b u → N t → N u
  noted_after_refused t file asked _ a b _ (trace.NoFile _ _ ino e) n = noted_after_answers t _ _ n
  noted_after_refused t file asked _ a b _ (trace.TooManyLocks _ _ ino e) n = noted_after_answers t _ _ n
  noted_after_refused t file asked _ a b _ (trace.NoSpace _ _ ino p e q) n = noted_after_answers t _ _ n
  noted_after_refused t file asked _ a b _ (trace.NotHolder _ _ e) n = noted_after_answers t _ _ n
  noted_after_refused t file asked y a b _ (trace.AnswersNone _ _ _) n = n

  noted_after_effect : (now : Stamp) (t : Turn) (s : ClientSession) (file : Option ℕ) (asked b : Body) (u : Turn) → t.here.session ≡ Some s →
      Effect now t s file asked b u → N t → N u
  unfolding cs.answer_each
  noted_after_effect now t s file asked _ _ e (trace.IsGranted ino g mode v x) n = noted_after_granted t s v ino g mode x (has_noted_of t s e n)
  noted_after_effect now t s file asked _ _ e (trace.IsQueued ino mode c) n = noted_after_with t s _ refl refl (has_noted_of t s e n)
  noted_after_effect now t s file asked _ _ e (trace.HoldsAlready ino mode c) n = noted_after_with t s s refl refl (has_noted_of t s e n)
  noted_after_effect now t s file asked _ _ e (trace.IsToldExtents ino rows c) n = noted_after_store t _ n
  noted_after_effect now t s file asked _ _ e (trace.IsToldLate ino rows c) n = n
  noted_after_effect now t s file asked _ _ e trace.IsAcknowledged n = noted_after_answers t _ _ n
  noted_after_effect now t s file asked _ _ e (trace.IsNamed r c) n = noted_after_answers t _ _ n
  noted_after_effect now t s file asked _ _ e (trace.IsRemoved ino removed l f c) n =
      let u = cs.answer_each (cs.is_asked t.here.server) (answers.Named ino) t in
      noted_after_with u s _ refl refl (has_noted_of u s e (noted_after_answers t _ _ n))
  noted_after_effect now t s file asked _ _ e trace.IsReasserted n = noted_after_with t s _ refl refl (has_noted_of t s e n)
  noted_after_effect now t s file asked _ _ e (trace.Effect.IsRefused y a b u r) n = noted_after_operations u _ (noted_after_refused t file asked y a b u r n)

  has_noted_renewed : (t : Turn) (s : ClientSession) (stamp : Stamp) (u : Turn) → Renews t s stamp u → Unnoted t →
      T t.here.life s.epoch (leases.lease_end k stamp) →
      HasNoted s t → HasNoted (cr.ended_by stamp s) u
  unfolding cr.note_lease lease.renewed lease.dated
  has_noted_renewed t s stamp _ (trace.IsLater e) q g v =
      has_noted_lease t (lease.renewed stamp s.lease) (cr.ended_by stamp s) refl v.config q
      (subst (λ (b : Bool). T t.here.life s.epoch (leases.lease_end k (if b then lease.dated stamp s.lease else s.lease).date)) (sym e) g)
      v.server v.others v.untold
  has_noted_renewed t s stamp _ (trace.IsNoLater e) q g v =
      has_noted_same t s (cr.ended_by stamp s) (ap (λ (b : Bool). (if b then lease.dated stamp s.lease else s.lease).date) e) refl v

  -- a reply that fits a request, and may date a lease, renews
  fits_renews : (number : ℕ) (b asked : Body) → cs.fits b asked ≡ true → may_date number b ≡ true → renews_lease number b ≡ true
  fits_renews number bodies.Ack asked f m = refl
  fits_renews number (bodies.Nack w x y) asked f m = m
  fits_renews number (bodies.Granted ino g mode) asked f m = m
  fits_renews number (bodies.Queued ino mode) asked f m = refl
  fits_renews number (bodies.Extents ino rows) asked f m = refl
  fits_renews number (bodies.Named reply) asked f m = refl
  fits_renews number bodies.Reasserted asked f m = refl
  fits_renews number bodies.Welcome asked f m = refl
  fits_renews number b asked f m = cc f

  -- what is owed of a message: that its stamp may date a lease
  abbrev Dates : Header → Body → Turn → Type 0
  Dates h b t =
      (life : Life) (epoch : Epoch) → h.from ≡ server_node t.here.server → h.life ≡ life.0 → h.epoch ≡ epoch.0 → renews_lease h.number b ≡ true →
      T life epoch (leases.lease_end k (record { 0 = h.stamp }))

  noted_after_heard : (now : Stamp) (h : Header) (t : Turn) (b : Body) (u : Turn) → Unnoted t → Dates h b t → Receives now h t b u → N t → N u
  unfolding cr.note_lease lease.condemned
  noted_after_heard now h t _ _ q src (trace.PassesOver b) n = n
  noted_after_heard now h t _ _ q src (trace.Begins r e i) n =
      record {
        config = v.config;
        server = v.server;
        own = λ x e. v.own ∙ ap (λ (z : ClientSession). Some (lease.end_of k z.lease)) (some_is e);
        others = v.others;
        told = v.told;
        untold = v.untold;
      }
    where
      x : ClientSession
      x = cr.new_session (trace.epoch_of h) (trace.stamp_of h)

      w : Turn
      w = cr.begin_here x t

      v : HasNoted x (cr.note_lease (lease.new_lease (trace.stamp_of h)) w)
      v = has_noted_lease w (lease.new_lease (trace.stamp_of h)) x refl n.config q
          (src t.here.life (trace.epoch_of h) r.from r.life refl refl) n.server n.others n.untold
  noted_after_heard now h t _ _ q src (trace.FollowsEpoch s a b m e) n =
      noted_after_answers _ _ _ (noted_after_session t (cr.in_epoch (trace.epoch_of h) s)
      (record { config = v.config; server = v.server; own = v.own; others = v.others; told = λ end h. absurd (q end h); untold = v.untold }))
    where
      v : HasNoted s t
      v = has_noted_of t s m.session n
  noted_after_heard now h t _ _ q src (trace.IsCondemned b s m c) n = noted_after_with t s _ refl refl (has_noted_of t s m.session n)
  noted_after_heard now h t _ _ q src (trace.IsGrantedLater ino g mode s v m e x) n = noted_after_granted t s v ino g mode x (has_noted_of t s m.session n)
  noted_after_heard now h t _ _ q src (trace.SeesDemand ino g to s m e) n =
      noted_after_send _ _ _ _ _ (noted_after_with t s (cs.with_cache (locks.demand s.locks ino g to).locks s) refl refl (has_noted_of t s m.session n))
  noted_after_heard now h t _ _ q src (trace.GivesUp ino g to s m e x) n = noted_after_with t s _ refl refl (has_noted_of t s m.session n)
  noted_after_heard now h t _ _ q src (trace.HasGivenUp ino g to s m e x) n = noted_after_with t s _ refl refl (has_noted_of t s m.session n)
  noted_after_heard now h t _ u q src (trace.IsAnswered b s r v _ x y f) n =
      let z = cr.ended_by (trace.stamp_of h) s in let m = x.heard in
      let d = src t.here.life s.epoch m.received.from m.received.life m.epoch (fits_renews h.number b r.body x.fits x.dates) in
      noted_after_effect now (with_session z v) z (cs.file_asked s.cutting r.body) r.body b u refl f
      (noted_after_session v z (has_noted_renewed t s (trace.stamp_of h) v y q d (has_noted_of t s m.session n)))

  pub noted_after_receive : (now : Stamp) (h : Header) (b : Body) (t : Turn) → Unnoted t →
      ((life : Life) (epoch : Epoch) → h.from ≡ server_node t.here.server → h.life ≡ life.0 → h.epoch ≡ epoch.0 → renews_lease h.number b ≡ true →
      T life epoch (leases.lease_end k (record { 0 = h.stamp }))) → N t → N (cr.receive_at now h b t)
  noted_after_receive now h b t q src n = noted_after_heard now h t b (cr.receive_at now h b t) q src (receives now h t b) n

  -- If no message is received: no lease end is noted, and the session stays.
  quiet_calm : (o : Output) → SaysCalm false o → Quiet o
  quiet_calm (outputs.Note n) q = false_not_true q
  quiet_calm (outputs.Send m) q = false_not_true q
  quiet_calm (outputs.Submit number at what) q = tt
  quiet_calm (outputs.Answer op a) q = tt

  change_idle : (now : Stamp) (t u : Turn) (c : Change now t u) → IsCalm false now t u c → N t → N u
  change_idle now t _ (client.Says _ o p) q n = noted_after_say t o (quiet_calm o q) n
  change_idle now t _ (client.Operates _ os) q n = noted_after_operations t os n
  change_idle now t _ (client.Answers _ os ops a) q n = noted_after_told t os ops a n
  change_idle now t _ (client.Greets _ g) q n = record {
    config = n.config;
    server = n.server;
    own = n.own;
    others = n.others;
    told = n.told;
    untold = n.untold;
  }
  change_idle now t _ (client.TellsLost _ lost) q n = record {
    config = n.config;
    server = n.server;
    own = n.own;
    others = n.others;
    told = n.told;
    untold = n.untold;
  }
  change_idle now t _ (client.Begins _ s a b c) q n = false_not_true q
  change_idle now t _ (client.Follows _ s u e g) q n = false_not_true q
  change_idle now t _ (client.Learns _ e a b) q n = false_not_true q
  change_idle now t _ (client.Forgets _ ino p i) q n = absurd q
  change_idle now t _ (client.Caches _ clean) q n = noted_after_store t _ n
  change_idle now t _ (client.Writes _ s f p bytes x se sv own m h) q n = absurd q
  change_idle now t _ (client.Reads _ ino p m i clean) q n = absurd q
  change_idle now t _ (client.Submits _ s ino p d m se e i w) q n = absurd q

  idle : (now : Stamp) (t u : Turn) → Only (IsCalm false) now t u → N t → N u
  idle now t _ (only.Ends _) n = n
  idle now t v (Goes _ u _ c q r) n = idle now u v r (change_idle now t u c q n)

  noted_after_lost_rows : (t : Turn) (l : List LostPage) → N t → N (cs.with_lost_rows l t)
  noted_after_lost_rows t l n = record { config = n.config; server = n.server; own = n.own; others = n.others; told = n.told; untold = n.untold }

  noted_after_ended : (s : ClientSession) (o : Operation) (t u : Turn) → Ended s o t u → N t → N u
  noted_after_ended s o t _ (losing.IsElsewhere e) n = noted_after_operations t _ n
  noted_after_ended s o t _ (losing.IsUncertain e q) n = noted_after_say t _ tt n
  noted_after_ended s o t _ (losing.IsToldLost f e q a l) n =
      noted_after_say (cs.with_lost_rows (pages.untold t.here.lost f.ino) t) _ tt (noted_after_lost_rows t _ n)
  noted_after_ended s o t _ (losing.LostNothing f e q a l) n = noted_after_say t _ tt n
  noted_after_ended s o t _ (losing.IsQuiesced e q a) n = noted_after_say t _ tt n

  pub noted_after_lose : ((l : Life) (p : Epoch) (end : Stamp) → T l p end → ⊥) → (now : Stamp) (t : Turn) → N t → N (cl.lose now t)
  noted_after_lose z now t n = go (cl.lose now t) (loses now t)
    where
      none : (x : ClientSession) → ◌≡◌ {A = Option ClientSession} None (Some x) → ⊥
      none x q = cc

      go : (u : Turn) → Loses now t u → N u
      go _ (losing.HasNoSession e) = n
      go _ (losing.Lasts s e o) = n
      go _ (losing.IsLost s u e o p) =
          let y = each_lasts (Ended s) (λ os v. N v) (λ o os v w step m. noted_after_ended s o v w step m) t.operations
          (with_operations [] (losing.loss_noted t)) u p
          (noted_after_operations _ _ (noted_after_lost_rows _ _ (noted_after_say t (outputs.Note (notes.Lost t.here.server t.here.life)) tt n))) in
          record {
            config = y.config;
            server = y.server;
            own = λ x q. absurd (none x q);
            others = y.others;
            told = λ end h. absurd (z _ _ end (y.told end h));
            untold = y.untold;
          }

  pub noted_after_only : (s : ServerId) (op : ℕ) (ask : Ask) (t : Turn) → N t → N (cs.only_at s (cl.take_ask op ask) t)
  noted_after_only s op ask t = idle (record { 0 = 0 }) t (cs.only_at s (cl.take_ask op ask) t) (calm_only (record { 0 = 0 }) s op ask t)

  noted_after_ends : (number : ℕ) (ok : Bool) (t u : Turn) → Ends number ok t u → N t → N u
  unfolding cl.hardened
  noted_after_ends number ok t _ Unknown n = n
  noted_after_ends number ok t _ (Passes c e o) n = noted_after_store t _ n
  noted_after_ends number ok t _ (Hardens c v e o x w) n = noted_after_store t _ n
  noted_after_ends number ok t _ (Fails c v e o x w) n = noted_after_store t _ n

  noted_after_finished : (now : Stamp) (number : ℕ) (ok : Bool) (t u : Turn) → Finished now number ok t u → N t → N u
  noted_after_finished now number ok t u f n = idle now f.mid u f.calm (noted_after_ends number ok t f.mid f.ends n)

  pub noted_after_finish : (number : ℕ) (r : Option (Option (Tag × List ℕ))) (t : Turn) → N t → N (cl.finish number r t)
  noted_after_finish number r t = noted_after_finished (record { 0 = 0 }) number (is_done r) t (cl.finish number r t) (finish_is (record { 0 = 0 }) number r t)

  -- The passes: no lease end is noted, and the date of the session's lease stays.
  quiet_right : (syncs : List Operation) (now : Stamp) (t : Turn) (o : Output) → SaysRight syncs now t o → Quiet o
  quiet_right syncs now t (outputs.Note n) q = absurd q
  quiet_right syncs now t (outputs.Send m) q = tt
  quiet_right syncs now t (outputs.Submit number at what) q = tt
  quiet_right syncs now t (outputs.Answer op a) q = tt

  quiet_change : (f : FileId) (p : PageNo) (n : Note) → ChangesPage f p n → Quiet (outputs.Note n)
  quiet_change f p (notes.Accepted g r bytes) h = tt
  quiet_change f p (notes.Patched g r at bytes) h = tt
  quiet_change f p (notes.Leased s end) h = absurd h
  quiet_change f p n h = tt

  follows : (t : Turn) (s u : ClientSession) (c : SessionChange t.here.store s u) → FollowsBy KeepsOrAsks t.here.store s u c → HasNoted s t →
      N (with_session u t)
  follows t s u (Keeps _ _ a) q v = noted_after_with t s u a.date a.epoch v
  follows t s _ (DropsLock _ ino l) q v = absurd q
  follows t s _ (IsReasserted _) q v = absurd q
  follows t s _ (EndsRequest _ stamp) q v = absurd q
  follows t s _ (NewEpoch _ epoch n) q v = absurd q
  follows t s _ (AsksNew _ r now body cutting a c i) q v = noted_after_with t s (cp.asking_session r now body cutting) a.date a.epoch v
  follows t s _ (AsksAgain _ now x e) q v = noted_after_with t s (cp.again_session s now x) refl refl v

  change_passing : (syncs : List Operation) (now : Stamp) (t u : Turn) (c : Change now t u) → IsPassing syncs KeepsOrAsks now t u c → N t → N u
  unfolding cp.submit_read cp.submit_write cp.submit_command
  change_passing syncs now t _ (client.Says _ o p) q n = noted_after_say t o (quiet_right syncs now t o q) n
  change_passing syncs now t _ (client.Operates _ os) q n = noted_after_operations t os n
  change_passing syncs now t _ (client.Answers _ os ops a) q n = absurd q
  change_passing syncs now t _ (client.Greets _ g) q n = record {
    config = n.config;
    server = n.server;
    own = n.own;
    others = n.others;
    told = n.told;
    untold = n.untold;
  }
  change_passing syncs now t _ (client.TellsLost _ lost) q n = absurd q
  change_passing syncs now t _ (client.Begins _ s a b c) q n = absurd q
  change_passing syncs now t _ (client.Follows _ s u e g) q n = follows t s u g.how q (has_noted_of t s e n)
  change_passing syncs now t _ (client.Learns _ e a b) q n = absurd q
  change_passing syncs now t _ (client.Forgets _ ino p i) q n = noted_after_store t _ n
  change_passing syncs now t _ (client.Caches _ clean) q n = noted_after_store t _ n
  change_passing syncs now t _ (client.Writes _ s f p bytes x se sv own m h) q n =
      noted_after_store (cs.note t x) _ (noted_after_say t (outputs.Note x) (quiet_change f p x h) n)
  change_passing syncs now t _ (client.Reads _ ino p m i clean) q n =
      let e = noted_after_say t (outputs.Submit t.next_command m.at _) tt n in record {
        config = e.config;
        server = e.server;
        own = e.own;
        others = e.others;
        told = e.told;
        untold = e.untold;
      }
  change_passing syncs now t _ (client.Submits _ s ino p d m se e i w) q n =
      let e = noted_after_say t (outputs.Submit t.next_command m.at _) tt n in record {
        config = e.config;
        server = e.server;
        own = e.own;
        others = e.others;
        told = e.told;
        untold = e.untold;
      }

  passing : (syncs : List Operation) (now : Stamp) (t u : Turn) → Only (IsPassing syncs KeepsOrAsks) now t u → N t → N u
  passing syncs now t _ (only.Ends _) n = n
  passing syncs now t v (Goes _ u _ c q r) n = passing syncs now u v r (change_passing syncs now t u c q n)

  pub noted_after_passes : (now : Stamp) (tick : Bool) (t : Turn) → N t → N (cp.passes now tick t)
  noted_after_passes now tick t = passing t.operations now t (cp.passes now tick t) (passes_keep_or_ask now tick t)
