-- What holds within a client's rule at a server: its pending operations and the answers have known asks, what it sends has its life, and the operation of
-- the outstanding request is pending. What small changes and replies leave of it.
use Rattle.st_lemmas.proofs.Words
use Words.{◌≡◌, ℕ, ◌+◌, ◌≤◌, ◌⊎◌, Bool, true, false, not, List, [], ◌∷◌, ◌++◌, Option, Some, None, refl, sym, ap, ◌∙◌, subst, inl, inr, arith, if◌then◌else◌}
use Words.{filter, map, ClientId, PageNo, ServerId, AppAnswer, Ask, Body, Message, Why, Output, Operation, Request}
use Words.asks
use Words.outputs
use Words.stages
use Words.ClientReplies as cr
use Words.ClientState as cs
use Words.ClientState.{ClientSession, Turn, answer_to, server_of, say, with_session}
use Words.Lists.{Has}
use Words.Tables.{and_left, has_append, has_filter, has_filter_in, has_map, has_map_in}
use Words.Members.{has_left}
use Rattle.st_laws_requests.specs.Cuts.Cuts.{Between}
use Rattle.st_laws_cuts.proofs.Counts.{pending, pending_map, pending_split, told, told_answers, told_more}
use Rattle.st_laws_cuts.specs.Owners.{Means, Owned, OwnedBy, view}
use Rattle.st_trace.specs.Client.Messages as trace
use Rattle.st_trace.specs.Client.Messages.{Refusal}

-- a test that skips cuts and names skips the ask of such a request
pub means_other : (P : Ask → Bool) → ((f : Rattle.st_base.specs.declared.ids.FileId.FileId) (p : PageNo) → P (asks.Cut f p) ≡ false) →
    ((s : ServerId) (n : Rattle.st_base.specs.declared.names.NameAsk.NameAsk) → P (asks.Name s n) ≡ false) → (a : Ask) (cutting : Option ℕ) (b : Body) →
    Means a cutting b → P a ≡ false
means_other P f g (asks.Cut h p) cutting b m = f h p
means_other P f g (asks.Name s n) cutting b m = g s n
means_other P f g (asks.Write h p bytes) cutting b m = absurd m
means_other P f g (asks.Read h p) cutting b m = absurd m
means_other P f g (asks.Sync h) cutting b m = absurd m
means_other P f g (asks.Patch h p at bytes) cutting b m = absurd m

module _ (c : ClientId) (K : ℕ → Type 0) (G : List Output) where
  -- an output that is fine: no answer, and a message of this life
  abbrev pub Fine : ServerId → ℕ → Output → Type 0
  Fine s life (outputs.Send m) = Between c s m × (m.header.life ≡ life)
  Fine s life (outputs.Answer op a) = ⊥
  Fine s life o = Unit {0}

  -- an ask is pending once, or was answered once in the step
  abbrev pub Few : List Operation → List Output → Type 0
  Few ops out = (k : ℕ) → pending k ops + told k out ≤ 1

  -- What holds within a rule at a server, with the operations and the outputs that it began with: except for the outstanding request.
  pub record Base (s : ServerId) (B : List Operation) (out0 : List Output) (id : ClientId) (sv : ServerId) (life : ℕ) (ops : List Operation)
      (out : List Output) : Type 0 where
    pub id_ : id ≡ c
    pub server : sv ≡ s
    pub known : (o : Operation) → Has o ops → K o.op
    pub others : (o : Operation) → Has o B → cs.is_of sv o ≡ false → Has o ops
    pub said : (op : ℕ) (a : AppAnswer) → Has (outputs.Answer op a) out → K op
    pub from : (m : Message) → Has (outputs.Send m) out → Has (outputs.Send m) out0 ⊎ Between c sv m
    pub sent : (m : Message) → Has (outputs.Send m) out → Between c sv m → m.header.life ≡ life
    pub kept : (y : Output) → Has y G → Has y out
    pub few : Few ops out

  module _ (s : ServerId) (B : List Operation) (out0 : List Output) where
    abbrev pub C : Turn → Type 0
    C t = Base s B out0 t.id t.here.server t.here.life.0 t.operations t.out

    abbrev pub O : Turn → Type 0
    O t = Owned t.here.server (view t.here.session) t.operations

    abbrev pub W : Turn → Type 0
    W t = C t × O t

    -- with its session
    pub into : (t : Turn) (x : ClientSession) → t.here.session ≡ Some x → O t → OwnedBy t.here.server x.cutting t.operations x.requests.asked
    into t x e w = subst (λ o. Owned t.here.server (view o) t.operations) e w

    -- Outputs.
    fine_told : (k : ℕ) (sv : ServerId) (life : ℕ) (o : Output) → Fine sv life o → told k (o ∷ []) ≡ 0
    fine_told k sv life (outputs.Answer op a) f = absurd f
    fine_told k sv life (outputs.Send m) f = refl
    fine_told k sv life (outputs.Submit n at what) f = refl
    fine_told k sv life (outputs.Note n) f = refl

    -- more outputs: answers to known asks, and messages of this life
    abbrev pub Good : ServerId → ℕ → Output → Type 0
    Good sv life (outputs.Send m) = Between c sv m × (m.header.life ≡ life)
    Good sv life (outputs.Answer op a) = K op
    Good sv life o = Unit {0}

    fine_good : (sv : ServerId) (life : ℕ) (o : Output) → Fine sv life o → Good sv life o
    fine_good sv life (outputs.Answer op a) f = absurd f
    fine_good sv life (outputs.Send m) f = f
    fine_good sv life (outputs.Submit n at what) f = tt
    fine_good sv life (outputs.Note n) f = tt

    pub base_after_longer_list : (id : ClientId) (sv : ServerId) (life : ℕ) (ops qs : List Operation) (out os : List Output) →
        ((o : Output) → Has o os → Good sv life o) →
        ((o : Operation) → Has o qs → K o.op) → ((o : Operation) → Has o ops → cs.is_of sv o ≡ false → Has o qs) →
        Few qs (out ++ os) → Base s B out0 id sv life ops out → Base s B out0 id sv life qs (out ++ os)
    base_after_longer_list id sv life ops qs out os f g h few b =
        record {
          id_ = b.id_;
          server = b.server;
          known = g;
          others = λ o i e. h o (b.others o i e) e;
          said = λ op a i. says op a (has_append out os (outputs.Answer op a) i);
          from = λ m i. sends m (has_append out os (outputs.Send m) i);
          sent = λ m i z. lives m z (has_append out os (outputs.Send m) i);
          kept = λ y i. has_left out os y (b.kept y i);
          few = few;
        }
      where
        says : (op : ℕ) (a : AppAnswer) → Has (outputs.Answer op a) out ⊎ Has (outputs.Answer op a) os → K op
        says op a (inl i) = b.said op a i
        says op a (inr i) = f (outputs.Answer op a) i

        sends : (m : Message) → Has (outputs.Send m) out ⊎ Has (outputs.Send m) os → Has (outputs.Send m) out0 ⊎ Between c sv m
        sends m (inl i) = b.from m i
        sends m (inr i) = inr (f (outputs.Send m) i).0

        lives : (m : Message) → Between c sv m → Has (outputs.Send m) out ⊎ Has (outputs.Send m) os → m.header.life ≡ life
        lives m z (inl i) = b.sent m i z
        lives m z (inr i) = (f (outputs.Send m) i).1

    pub one_good : (sv : ServerId) (life : ℕ) (o : Output) → Good sv life o → (x : Output) → Has x (o ∷ []) → Good sv life x
    one_good sv life o k x (inl e) = subst (Good sv life) (sym e) k
    one_good sv life o k x (inr i) = absurd i

    pub base_after_say : (id : ClientId) (sv : ServerId) (life : ℕ) (ops : List Operation) (out : List Output) (o : Output) → Fine sv life o →
        Base s B out0 id sv life ops out → Base s B out0 id sv life ops (out ++ o ∷ [])
    base_after_say id sv life ops out o k b =
        base_after_longer_list id sv life ops ops out (o ∷ []) (one_good sv life o (fine_good sv life o k)) b.known (λ p h e. h)
        (λ n. let z = told_more n out (o ∷ []) in let y = fine_told n sv life o k in let x = b.few n in omega (arith, z, y, x)) b

    pub turn_base_after_say : (t : Turn) (o : Output) → Fine t.here.server t.here.life.0 o → C t → C (say t o)
    turn_base_after_say t o k w = base_after_say t.id t.here.server t.here.life.0 t.operations t.out o k w

    pub whole_after_say : (t : Turn) (o : Output) → Fine t.here.server t.here.life.0 o → W t → W (say t o)
    whole_after_say t o k w = (turn_base_after_say t o k w.0, w.1)

    -- other operations
    pub base_after_operations : (id : ClientId) (sv : ServerId) (life : ℕ) (ops qs : List Operation) (out : List Output) →
        ((o : Operation) → Has o qs → K o.op) →
        ((o : Operation) → Has o ops → cs.is_of sv o ≡ false → Has o qs) → ((k : ℕ) → pending k qs ≤ pending k ops) →
        Base s B out0 id sv life ops out → Base s B out0 id sv life qs out
    base_after_operations id sv life ops qs out f g l b =
        record {
          id_ = b.id_;
          server = b.server;
          known = f;
          others = λ o h e. g o (b.others o h e) e;
          said = b.said;
          from = b.from;
          sent = b.sent;
          kept = b.kept;
          few = λ k. let y = l k in let z = b.few k in omega (arith, y, z);
        }

    -- Answers.
    -- a test that picks only operations of this server
    abbrev pub Own : ServerId → (Operation → Bool) → Type 0
    Own sv picked = (o : Operation) → cs.is_of sv o ≡ false → picked o ≡ false

    pub turn_base_after_answers : (t : Turn) (picked : Operation → Bool) (a : AppAnswer) → Own t.here.server picked → C t → C (cs.answer_each picked a t)
    unfolding cs.answer_each
    turn_base_after_answers t picked a own b =
        base_after_longer_list t.id t.here.server t.here.life.0 t.operations (filter (λ o. not (picked o)) t.operations) t.out
        (map (answer_to a) (filter picked t.operations)) good (λ o h. b.known o (has_filter (λ o. not (picked o)) t.operations o h).0)
        (λ o h e. has_filter_in (λ o. not (picked o)) t.operations o h (ap not (own o e))) few b
      where
        good : (x : Output) → Has x (map (answer_to a) (filter picked t.operations)) → Good t.here.server t.here.life.0 x
        good x h = let z = has_map (answer_to a) _ x h in subst (Good t.here.server t.here.life.0) (sym z.2)
            (b.known z.0 (has_filter picked t.operations z.0 z.1).0)

        few : Few (filter (λ o. not (picked o)) t.operations) (t.out ++ map (answer_to a) (filter picked t.operations))
        few k =
            let x = pending_split k picked t.operations in
            let y = told_more k t.out (map (answer_to a) (filter picked t.operations)) in
            let z = told_answers k a (filter picked t.operations) in
            let w = b.few k in
            omega (arith, x, y, z, w)

    -- the owner is not picked
    pub owned_after_answers : (t : Turn) (picked : Operation → Bool) (a : AppAnswer) →
        ((o : Operation) (cutting : Option ℕ) (body : Body) → Means o.ask cutting body → picked o ≡ false) → O t → O (cs.answer_each picked a t)
    unfolding cs.answer_each
    owned_after_answers t picked a f w = go (view t.here.session) w
      where
        by : (cutting : Option ℕ) (q : Option Request) → OwnedBy t.here.server cutting t.operations q → OwnedBy t.here.server cutting
            (filter (λ o. not (picked o)) t.operations) q
        by cutting None w = tt
        by cutting (Some q) w = λ e. let z = w e in
            record {
              operation = z.operation;
              there = has_filter_in (λ o. not (picked o)) t.operations z.operation z.there
                  (ap not (f z.operation cutting q.body z.means));
              asked = z.asked;
              means = z.means;
            }

        go : (v : Option (Option Request × Option ℕ)) → Owned t.here.server v t.operations → Owned t.here.server v (filter (λ o. not (picked o)) t.operations)
        go None w = tt
        go (Some v) w = by v.1 v.0 w

    -- with no outstanding request nothing is owed
    pub owned_after_free : (t : Turn) (x : ClientSession) → t.here.session ≡ Some x → x.requests.asked ≡ None → O t
    owned_after_free t x e n = subst (λ o. Owned t.here.server (view o) t.operations) (sym e) (subst (OwnedBy t.here.server x.cutting t.operations) (sym n) tt)

    -- Sessions that go on.
    -- another session with the same view
    pub whole_after_view : (t : Turn) (x y : ClientSession) → t.here.session ≡ Some x → view (Some y) ≡ view (Some x) → W t → W (with_session y t)
    whole_after_view t x y e v w = (w.0, subst (λ z. Owned t.here.server z t.operations) (sym v) (into t x e w.1))

    -- Refusals.
    own_asked : (sv : ServerId) → Own sv (cs.is_asked sv)
    own_asked sv o e = and_left (cs.is_of sv o) _ e

    own_changes : (sv : ServerId) (ino : ℕ) (p : PageNo) (o : Operation) → cs.is_of sv o ≡ false → cs.changes_page sv ino p o.ask ≡ false
    own_changes sv ino p o e = go o.ask e
      where
        go : (a : Ask) → Rattle.st_rules.specs.Keys.same_server (server_of a) sv ≡ false → cs.changes_page sv ino p a ≡ false
        go (asks.Write f q bytes) e = and_left _ _ e
        go (asks.Patch f q at bytes) e = and_left _ _ e
        go a e = refl

    turn_base_after_refused : (t : Turn) (y : Why) (a b : ℕ) (file : Option ℕ) (asked : Body) (u : Turn) → Refusal t file asked y a b u → C t → C u ×
        (u.here.session ≡ t.here.session)
    unfolding cs.answer_each
    turn_base_after_refused t _ a b file asked _ (trace.NoFile _ _ ino e) w = (
      turn_base_after_answers t (cr.works_on t ino) _
          (λ o e. and_left _ _ (and_left (cs.is_of t.here.server o) _ e)) w,
      refl,
    )
    turn_base_after_refused t _ a b file asked _ (trace.TooManyLocks _ _ ino e) w = (
      turn_base_after_answers t (cr.works_on t ino) _
          (λ o e. and_left _ _ (and_left (cs.is_of t.here.server o) _ e)) w,
      refl,
    )
    turn_base_after_refused t _ a b file asked _ (trace.NoSpace _ _ ino p e q) w =
        (turn_base_after_answers t (cr.writes_on t ino p) _ (λ o e. own_changes t.here.server ino p o e) w, refl)
    turn_base_after_refused t _ a b file asked _ (trace.NotHolder _ _ e) w =
        (turn_base_after_answers t (cs.is_asked t.here.server) _ (own_asked t.here.server) w, refl)
    turn_base_after_refused t y a b file asked _ (trace.AnswersNone _ _ _) w = (w, refl)

    turn_base_after_stuck : (t : Turn) → C t → C (trace.left_stuck t)
    turn_base_after_stuck t b = base_after_operations t.id t.here.server t.here.life.0 t.operations _ t.out
        (λ o h. known o (has_map (cr.stuck t) t.operations o h))
        (λ o h e. subst (λ y. Has y (map (cr.stuck t) t.operations)) (same o e) (has_map_in (cr.stuck t) t.operations o h))
        (λ k. let z = pending_map k (cr.stuck t) (λ o. op_of o (cs.is_asked t.here.server o)) t.operations in omega (arith, z)) b
      where
        op_of : (o : Operation) (x : Bool) → (if x then cs.at_stage stages.Stuck o else o).op ≡ o.op
        op_of o true = refl
        op_of o false = refl

        known : (o : Operation) → (p : Operation) × Has p t.operations × (o ≡ cr.stuck t p) → K o.op
        known o (p, h, e) = subst K (sym (ap (λ (z : Operation). z.op) e ∙ op_of p (cs.is_asked t.here.server p))) (b.known p h)

        same : (o : Operation) → cs.is_of t.here.server o ≡ false → cr.stuck t o ≡ o
        same o e = go (cs.is_asked t.here.server o) (own_asked t.here.server o e)
          where
            go : (x : Bool) → x ≡ false → (if x then cs.at_stage stages.Stuck o else o) ≡ o
            go true q = cc q
            go false q = refl

    answers_here : (t : Turn) (picked : Operation → Bool) (a : AppAnswer) → (cs.answer_each picked a t).here.session ≡ t.here.session
    unfolding cs.answer_each
    answers_here t picked a = refl

    pub whole_after_refused : (t u : Turn) (x : ClientSession) (y : Why) (a b : ℕ) (file : Option ℕ) (asked : Body) → t.here.session ≡ Some x →
        x.requests.asked ≡ None →
        Refusal t file asked y a b u → C t → W (trace.left_stuck u)
    whole_after_refused t u x y a b file asked e n r w = let z = turn_base_after_refused t y a b file asked u r w in
        (turn_base_after_stuck u z.0, owned_after_free (trace.left_stuck u) x (z.1 ∙ e) n)

    -- Answers to who waits.
    pub whole_after_asked : (t : Turn) (x : ClientSession) (a : AppAnswer) → t.here.session ≡ Some x → x.requests.asked ≡ None → C t → W
        (cs.answer_each (cs.is_asked t.here.server) a t)
    whole_after_asked t x a e n w = (
      turn_base_after_answers t (cs.is_asked t.here.server) a (own_asked t.here.server) w,
      owned_after_free (cs.answer_each (cs.is_asked t.here.server) a t) x
          (answers_here t _ a ∙ e) n,
    )
