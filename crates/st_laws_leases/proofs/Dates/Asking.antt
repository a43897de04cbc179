-- A client's step: what it asks is stamped with its clock's reading, and belongs to its life at its server; its leases are dated by messages that came.
use Rattle.st_lemmas.proofs.Words
use Words.{◌≡◌, ℕ, ◌⊎◌, Bool, true, false, List, [], ◌∷◌, ◌++◌, Option, refl, sym, ap, subst, inl, inr, if◌then◌else◌, map, ClientId, ServerId, Life, Stamp}
use Words.{AppAnswer, Message, Body, Note, Output, Operation}
use Words.bodies
use Words.outputs
use Words.io
use Words.ClientLease as lease
use Words.ClientPages.{Store}
use Words.ClientPasses as cp
use Words.ClientState as cs
use Words.ClientState.{ClientSession, Turn, with_session, with_store, with_operations, answer_each, send, say}
use Words.Dating as dating
use Words.Keys.{server_node}
use Words.Safety.{is_conflict}
use Words.Lists.{Has}
use Words.Tables.{has_append, has_map}
use Words.Truth.{false_not_true}
use Rattle.st_laws_steps.specs.Client.Client as client
use Rattle.st_laws_steps.specs.Client.Client.{Change, Plain}
use Rattle.st_laws_steps.specs.Client.Session.{SessionChange, Keeps, DropsLock, IsReasserted, MayAsk, EndsRequest, NewEpoch, AsksNew, AsksAgain}
use Rattle.st_laws_steps.proofs.Client.Asking.{passes_keep_or_ask}
use Rattle.st_laws_steps.proofs.Client.Calm.{IsCalm, SaysCalm}
use Rattle.st_laws_steps.proofs.Client.Only.{Only, Goes}
use Rattle.st_laws_steps.proofs.Client.Only as only
use Rattle.st_laws_steps.proofs.Client.Passing.{FollowsBy, IsPassing, KeepsOrAsks, SaysRight, Sends, SendsHello, SendsRequest}
use Rattle.st_laws_leases.specs.Dates.Dates.{Dates, CalmRequest, SessionDated}

-- what a client asks isn't a refusal
asked_calm : (s : ClientSession) (cutting : Option ℕ) (b : Body) → MayAsk s cutting b → is_conflict b ≡ false
asked_calm s cutting (bodies.Nack w x y) i = absurd i
asked_calm s cutting b i = refl

module _ (ms : List Message) (c : ClientId) (now : Stamp) (Lv : ServerId → ℕ → Type 0) where
  -- a message is from this client, and if it is a request, it has the clock's reading
  pub record AsksNow (m : Message) : Type 0 where
    pub from : m.header.from ≡ c.0
    pub stamp : dating.is_request m.body ≡ true → m.header.stamp ≡ now.0
    pub calm : is_conflict m.body ≡ false
    pub server : ServerId
    pub to : m.header.to ≡ server_node server
    pub living : Lv server m.header.life

  abbrev pub Outs : List Output → Type 0
  Outs os = (m : Message) → Has (outputs.Send m) os → AsksNow m

  -- What holds of a step so far at one server, in one life.
  pub record Good (s : ServerId) (life : Life) (t : Turn) : Type 0 where
    pub id_ : t.id ≡ c
    pub server_ : t.here.server ≡ s
    pub life_ : t.here.life ≡ life
    pub lives : Lv s life.0
    pub dated : SessionDated ms c s life t.here.session
    pub outs : Outs t.out

  pub outs_more : (os : List Output) (o : Output) → Outs os → ((m : Message) → o ≡ outputs.Send m → AsksNow m) → Outs (os ++ o ∷ [])
  outs_more os o p f m h = go (has_append os _ _ h)
    where
      go : Has (outputs.Send m) os ⊎ Has (outputs.Send m) (o ∷ []) → AsksNow m
      go (inl i) = p m i
      go (inr (inl e)) = f m (sym e)
      go (inr (inr i)) = elim i [ ]

  outs_answers : (os : List Output) (a : AppAnswer) (xs : List Operation) → Outs os → Outs (os ++ map (cs.answer_to a) xs)
  outs_answers os a xs p m h = go (has_append os _ _ h)
    where
      go : Has (outputs.Send m) os ⊎ Has (outputs.Send m) (map (cs.answer_to a) xs) → AsksNow m
      go (inl i) = p m i
      go (inr i) = let z = has_map (cs.answer_to a) xs _ i in absurd (no z.0 z.2)
        where
          no : (x : Operation) → outputs.Send m ≡ outputs.Answer x.op a → ⊥
          no x e = cc

  module _ (s : ServerId) (life : Life) where
    abbrev G : Turn → Type 0
    G t = Good s life t

    abbrev D : ClientSession → Type 0
    D x = Dates ms c s life x.lease.date × CalmRequest x.requests.asked

    -- what is neither the session nor a message
    pub good_after_say : (t : Turn) (o : Output) → ((m : Message) → o ≡ outputs.Send m → ⊥) → G t → G (say t o)
    good_after_say t o n p =
        record { id_ = p.id_; server_ = p.server_; life_ = p.life_; lives = p.lives; dated = p.dated; outs = outs_more t.out o p.outs (λ m e. absurd (n m e)) }

    pub good_after_answer : (t : Turn) (op : ℕ) (a : AppAnswer) → G t → G (cs.answered t op a)
    good_after_answer t op a p = good_after_say t _ (λ m e. cc) p

    pub good_after_note : (t : Turn) (n : Note) → G t → G (cs.note t n)
    good_after_note t n p = good_after_say t _ (λ m e. cc) p

    pub good_after_store : (t : Turn) (st : Store) → G t → G (with_store st t)
    good_after_store t st p = record { id_ = p.id_; server_ = p.server_; life_ = p.life_; lives = p.lives; dated = p.dated; outs = p.outs }

    pub good_after_lost : (t : Turn) (l : List Rattle.st_rules.specs.declared.client.LostPage.LostPage) → G t → G (cs.with_lost_rows l t)
    good_after_lost t l p = record { id_ = p.id_; server_ = p.server_; life_ = p.life_; lives = p.lives; dated = p.dated; outs = p.outs }

    pub good_after_ops : (t : Turn) (os : List Operation) → G t → G (with_operations os t)
    good_after_ops t os p = record { id_ = p.id_; server_ = p.server_; life_ = p.life_; lives = p.lives; dated = p.dated; outs = p.outs }

    pub good_after_each : (picked : Operation → Bool) (a : AppAnswer) (t : Turn) → G t → G (answer_each picked a t)
    unfolding answer_each
    good_after_each picked a t p =
        record { id_ = p.id_; server_ = p.server_; life_ = p.life_; lives = p.lives; dated = p.dated; outs = outs_answers t.out a _ p.outs }

    -- a session whose lease is dated
    pub good_after_session : (t : Turn) (x : ClientSession) → D x → G t → G (with_session x t)
    good_after_session t x d p = record { id_ = p.id_; server_ = p.server_; life_ = p.life_; lives = p.lives; dated = d; outs = p.outs }

    -- a message
    pub good_after_send : (t : Turn) (epoch number stamp : ℕ) (b : Body) → (dating.is_request b ≡ true → stamp ≡ now.0) → is_conflict b ≡ false → G t →
        G (send t epoch number stamp b)
    unfolding send
    good_after_send t epoch number stamp b f calm p =
        record {
          id_ = p.id_;
          server_ = p.server_;
          life_ = p.life_;
          lives = p.lives;
          dated = p.dated;
          outs = outs_more t.out _ p.outs
              (λ m e. subst AsksNow (is m e)
              (record {
                from = ap (λ (x : ClientId). x.0) p.id_;
                stamp = f;
                calm = calm;
                server = s;
                to = ap server_node p.server_;
                living =
                    subst (Lv s) (ap (λ (y : Life). y.0) (sym p.life_)) p.lives;
              }));
        }
      where
        is : (m : Message) → outputs.Send (record { header = cs.header_of t epoch number stamp; body = b }) ≡ outputs.Send m →
            record { header = cs.header_of t epoch number stamp; body = b } ≡ m
        is m e = cc

    pub good_after_choice : (b : Bool) (t u : Turn) → G t → G u → G (if b then t else u)
    good_after_choice true t u p q = p
    good_after_choice false t u p q = q

    -- Each change of a pass, and such changes.
    sends : (t : Turn) (m : Message) → Sends now t m → G t → G (say t (outputs.Send m))
    unfolding send
    sends t _ SendsHello p = good_after_send t 0 0 now.0 bodies.Hello (λ e. refl) refl p
    sends t _ (SendsRequest x q e a) p = good_after_send t x.epoch.0 q.number now.0 q.body (λ e. refl)
        (subst CalmRequest a (subst (SessionDated ms c s life) e p.dated).1) p

    says : (syncs : List Operation) (t : Turn) (o : Output) → SaysRight syncs now t o → G t → G (say t o)
    says syncs t (outputs.Send m) q p = sends t m q p
    says syncs t (outputs.Submit number at what) q p = absurd q
    says syncs t (outputs.Answer op a) q p = good_after_answer t op a p
    says syncs t (outputs.Note n) q p = absurd q

    follows : (st : Store) (x u : ClientSession) (f : SessionChange st x u) → FollowsBy KeepsOrAsks st x u f → D x → D u
    unfolding cs.asking
    follows st x u (Keeps _ _ a) q d =
        (subst (λ z. Dates ms c s life z) (sym a.date) d.0, subst (λ (r : cs.Requests). CalmRequest r.asked) (sym a.requests) d.1)
    follows st x _ (DropsLock _ ino l) q d = absurd q
    follows st x _ (IsReasserted _) q d = absurd q
    follows st x _ (EndsRequest _ stamp) q d = absurd q
    follows st x _ (NewEpoch _ epoch n) q d = absurd q
    follows st x _ (AsksNew _ r at body cutting a f i) q d = (subst (λ z. Dates ms c s life z) (sym a.date) d.0, asked_calm r cutting body i.may)
    follows st x _ (AsksAgain _ at r e) q d = (d.0, subst CalmRequest e d.1)

    change_passing : (syncs : List Operation) (t u : Turn) (f : Change now t u) → IsPassing syncs KeepsOrAsks now t u f → G t → G u
    unfolding cp.submit_read cp.submit_write cp.submit_command
    change_passing syncs t _ (client.Says _ o i) q p = says syncs t o q p
    change_passing syncs t _ (client.Operates _ os) q p = good_after_ops t os p
    change_passing syncs t _ (client.Answers _ os ops a) q p = absurd q
    change_passing syncs t _ (client.Greets _ g) q p =
        record { id_ = p.id_; server_ = p.server_; life_ = p.life_; lives = p.lives; dated = p.dated; outs = p.outs }
    change_passing syncs t _ (client.TellsLost _ lost) q p = absurd q
    change_passing syncs t _ (client.Begins _ x a b d) q p = absurd q
    change_passing syncs t _ (client.Follows _ x u e g) q p =
        good_after_session t u (follows t.here.store x u g.how q (subst (SessionDated ms c s life) e p.dated)) p
    change_passing syncs t _ (client.Learns _ e a b) q p = absurd q
    change_passing syncs t _ (client.Forgets _ ino r i) q p = good_after_store t _ p
    change_passing syncs t _ (client.Caches _ clean) q p = good_after_store t _ p
    change_passing syncs t _ (client.Writes _ x f r bytes n se sv own m h) q p = good_after_store (cs.note t n) _ (good_after_note t n p)
    change_passing syncs t _ (client.Reads _ ino r m i clean) q p =
        good_after_say (cp.with_command ino r io.Read t) _ (λ m e. cc)
        (record { id_ = p.id_; server_ = p.server_; life_ = p.life_; lives = p.lives; dated = p.dated; outs = p.outs })
    change_passing syncs t _ (client.Submits _ x ino r d m se e i w) q p =
        good_after_say (cp.with_command d.ino d.page (io.Write d.version) t) _ (λ m e. cc)
        (record { id_ = p.id_; server_ = p.server_; life_ = p.life_; lives = p.lives; dated = p.dated; outs = p.outs })

    changes_passing : (syncs : List Operation) (t u : Turn) → Only (IsPassing syncs KeepsOrAsks) now t u → G t → G u
    changes_passing syncs t _ (only.Ends _) p = p
    changes_passing syncs t v (Goes _ u _ f q r) p = changes_passing syncs u v r (change_passing syncs t u f q p)

    pub dated_after_passes : (tick : Bool) (t : Turn) → G t → G (cp.passes now tick t)
    dated_after_passes tick t p = changes_passing t.operations t (cp.passes now tick t) (passes_keep_or_ask now tick t) p

    -- Each change if no message is received, and such changes.
    says_calm : (t : Turn) (o : Output) → SaysCalm false o → Plain o → G t → G (say t o)
    says_calm t (outputs.Send m) q i p = false_not_true q
    says_calm t (outputs.Submit number at what) q i p = absurd i
    says_calm t (outputs.Answer op a) q i p = good_after_answer t op a p
    says_calm t (outputs.Note n) q i p = false_not_true q

    change_idle : (t u : Turn) (f : Change now t u) → IsCalm false now t u f → G t → G u
    change_idle t _ (client.Says _ o i) q p = says_calm t o q i p
    change_idle t _ (client.Operates _ os) q p = good_after_ops t os p
    change_idle t _ (client.Answers _ os ops a) q p = record
        { id_ = p.id_; server_ = p.server_; life_ = p.life_; lives = p.lives; dated = p.dated; outs = outs_answers t.out a ops p.outs }
    change_idle t _ (client.Greets _ g) q p = record { id_ = p.id_; server_ = p.server_; life_ = p.life_; lives = p.lives; dated = p.dated; outs = p.outs }
    change_idle t _ (client.TellsLost _ lost) q p = good_after_lost t lost p
    change_idle t _ (client.Begins _ x a b d) q p = false_not_true q
    change_idle t _ (client.Follows _ x u e g) q p = false_not_true q
    change_idle t _ (client.Learns _ e a b) q p = false_not_true q
    change_idle t _ (client.Forgets _ ino r i) q p = absurd q
    change_idle t _ (client.Caches _ clean) q p = good_after_store t _ p
    change_idle t _ (client.Writes _ x f r bytes n se sv own m h) q p = absurd q
    change_idle t _ (client.Reads _ ino r m i clean) q p = absurd q
    change_idle t _ (client.Submits _ x ino r d m se e i w) q p = absurd q

    pub idle : (t u : Turn) → Only (IsCalm false) now t u → G t → G u
    idle t _ (only.Ends _) p = p
    idle t v (Goes _ u _ f q r) p = idle u v r (change_idle t u f q p)
